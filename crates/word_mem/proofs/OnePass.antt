-- The first pass makes every call: what its words keep, and the merge that its own list is.
use Rattle.std.proofs.Common.{◌≡◌, ◌≢◌, ◌<◌, ℕ, zero, suc, List, [], ◌∷◌, length, Contains, refl, sym, ap, ◌∙◌, subst, inl, ⊎_elim, eq-eqb, arith}
use Rattle.std.proofs.lemmas.Bool.{cases_eq}
use Rattle.std.proofs.lemmas.List.Elements.{Contains-push_cases, Contains-append_cases}
use Rattle.word_mem.specs.declared.event.WordEvent.{WordEvent}
use Rattle.word_mem.specs.declared.event.Entry.{Entry}
use Rattle.word_mem.specs.Replay.{after, IsAllowed, IsLegal, replay}
use Rattle.word_mem.specs.Merge.{events, part}
use Rattle.word_mem.specs.Held.{Held, Made, Joined, born, did, split_of, makes, list_of, joins, IsWhole, HasMerge, Closes}
use Rattle.word_mem.specs.FirstPass.{Keeps}
use Rattle.word_mem.proofs.Lists.{Contains-none}
use Rattle.word_mem.proofs.Replays.{length-replay, replay-push, IsLegal-push}
use Rattle.word_mem.proofs.Parts.{part-none, Follows-none}

-- the entries of one pass
entries : ℕ → List WordEvent → List Entry
entries n [] = []
entries n (e ∷ es) = record { number = n; event = e } ∷ entries n es

events-entries : (n : ℕ) (es : List WordEvent) → events (entries n es) ≡ es
unfolding entries
events-entries n [] = refl
events-entries n (e ∷ es) = ap (λ (l : List WordEvent). e ∷ l) (events-entries n es)

part-entries : (n : ℕ) (es : List WordEvent) → part n (entries n es) ≡ es
unfolding entries
part-entries n [] = refl
part-entries n (e ∷ es) = rw (eq-eqb n n refl) (ap (λ (l : List WordEvent). e ∷ l) (part-entries n es))

number_of_entry : (n : ℕ) (es : List WordEvent) (x : Entry) → Contains (entries n es) x → x.number ≡ n
unfolding entries
number_of_entry n [] x (k, within, is) = absurd (omega arith)
number_of_entry n (e ∷ es) x (zero, within, is) = ap (λ (y : Entry). y.number) (sym is)
number_of_entry n (e ∷ es) x (suc k, within, is) = number_of_entry n es x (k, omega arith, is)

module _ (opening words : List ℕ) (h : Held) (left : ℕ) (keeps : Keeps opening words h left) where
  -- a pass that has calls left is the first
  first_calls : 0 < left → h.number ≡ 0
  first_calls calls = ⊎_elim (λ first. first) (λ other. absurd (let none = (keeps.others other).0 in omega arith)) (cases_eq h.number 0)

  as_long : 0 < left → length words ≡ length opening
  as_long calls = ap length (sym (keeps.first (first_calls calls)).1) ∙ length-replay opening h.own

  pub within_words : (at : ℕ) → (0 < left) × (at < length opening) → at < length words
  within_words at known = omega (arith, as_long known.0)

  pub keeps_event : (e : WordEvent) (fewer : ℕ) → 0 < left → IsAllowed words e → Keeps opening (after words e) (did h e) fewer
  keeps_event e fewer calls allowed =
      let first = keeps.first (first_calls calls) in record {
        first = λ _. (
          IsLegal-push opening h.own e first.0 (subst (λ (w : List ℕ). IsAllowed w e) (sym first.1) allowed),
          replay-push opening h.own e ∙ ap (λ (w : List ℕ). after w e) first.1,
        );
        others = λ other. absurd (other (first_calls calls));
        joined = keeps.joined;
        made = keeps.made;
      }

  pub keeps_makes : (n : ℕ) → n ≢ 0 → Keeps opening words (makes h n) left
  keeps_makes n later = record {
    first = keeps.first;
    others = keeps.others;
    joined = keeps.joined;
    made = λ s there. ⊎_elim (keeps.made s) (λ (is : split_of h n ≡ s). subst (λ (r : Made). r.number ≢ 0) is later) (Contains-push_cases h.made (split_of h n) s there);
  }

  -- what the other pass holds is empty, but for the first pass
  pub keeps_joins : (opening' words' : List ℕ) (other : Held) (left' : ℕ) → Keeps opening' words' other left' → Keeps opening words (joins h other) left
  keeps_joins opening' words' other left' others = record {
    first = keeps.first;
    others = keeps.others;
    joined = λ j there later.
        ⊎_elim
        (λ (here : Contains h.joined j). keeps.joined j here later)
        (λ (there : Contains (list_of other ∷ other.joined) j). joined_of j there later)
        (Contains-append_cases h.joined (list_of other ∷ other.joined) j there);
    made = λ s there. ⊎_elim (keeps.made s) (others.made s) (Contains-append_cases h.made other.made s there);
  } where
    joined_of : (j : Joined) → Contains (list_of other ∷ other.joined) j → j.number ≢ 0 → j.events ≡ []
    joined_of j (zero, within, is) later =
        let later' : other.number ≢ 0 = subst (λ (i : Joined). i.number ≢ 0) (sym is) later in
        subst (λ (i : Joined). i.events ≡ []) is (others.others later').1
    joined_of j (suc k, within, is) later = others.joined j (k, omega arith, is) later

  pub keeps_closes : IsWhole h → Closes opening h words
  keeps_closes whole =
      let m = entries 0 h.own in
      let first = keeps.first whole.first in
      let events_are : events m ≡ h.own = events-entries 0 h.own in
      let only : (x : Entry) → Contains m x → x.number ≡ 0 = number_of_entry 0 h.own in (
        m,
        record {
          own = subst (λ (n : ℕ). part n m ≡ h.own) (sym whole.first) (part-entries 0 h.own);
          joined = λ j there.
              let later = whole.others j there in
              part-none j.number m (λ x in_merge is. later (sym is ∙ only x in_merge)) ∙ sym (keeps.joined j there later);
          only = λ x in_merge. inl (only x in_merge ∙ sym whole.first);
          order = λ s there. Follows-none m s (λ x in_merge is. keeps.made s there (sym is ∙ only x in_merge));
        },
        subst (λ (es : List WordEvent). IsLegal opening es) (sym events_are) first.0,
        subst (λ (es : List WordEvent). replay opening es ≡ words) (sym events_are) first.1,
      )

  pub keeps_merge : IsWhole h → HasMerge opening h
  keeps_merge whole = let all = keeps_closes whole in (all.0, all.1, all.2)

-- a new first pass, and a new other one
pub keeps_first : (words : List ℕ) (left : ℕ) → Keeps words words (born 0) left
keeps_first words left = record { first = λ _. (tt, refl); others = λ other. absurd (other refl); joined = λ j there. absurd (Contains-none j there); made = λ s there. absurd (Contains-none s there) }

pub keeps_born : (opening : List ℕ) (n : ℕ) → n ≢ 0 → Keeps opening [] (born n) 0
keeps_born opening n later = record { first = λ first. absurd (later first); others = λ _. (refl, refl); joined = λ j there. absurd (Contains-none j there); made = λ s there. absurd (Contains-none s there) }
