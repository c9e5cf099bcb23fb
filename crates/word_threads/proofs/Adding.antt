-- One call more, and two passes that are joined.
use Rattle.std.proofs.Common.{Result, Ok, Err, IfOk, ◌≡◌, ◌≢◌, ◌+◌, ◌<◌, ◌⊎◌, ℕ, zero, suc, List, [], ◌∷◌, ◌++◌, get_or, map, Contains, refl, sym, ap, ◌∙◌, subst, inr, append_assoc, append-nil, length-append, arith}
use Rattle.std.proofs.lemmas.List.{map-append}
use Rattle.word_mem.specs.declared.event.WordEvent.{WordEvent}
use Rattle.word_mem.specs.declared.event.WordEvent.TheVariants.{FetchAdd}
use Rattle.word_mem.specs.Held.{Held, Made, Joined, born, did, makes, split_of, joins, IsWhole}
use Rattle.word_threads.specs.Work.{Adds, BothAdd}

pub Adds-none : (at : ℕ) (h : Held) → Adds at 0 h h
Adds-none at h = ([], refl, ap (λ (own : List WordEvent). record h { own = own }) (sym (append-nil h.own)))

pub Adds-more : (at count answer : ℕ) (h h' h'' : Held) → Adds at count h h' → h'' ≡ did h' (FetchAdd at 1 answer) → Adds at (count + 1) h h''
Adds-more at count answer h h' h'' (answers, many, is) more =
    let event = λ (a : ℕ). FetchAdd at 1 a in
    let longer : (h.own ++ map event answers) ++ event answer ∷ [] ≡ h.own ++ map event (answers ++ answer ∷ []) =
    append_assoc h.own (map event answers) (event answer ∷ []) ∙ ap (λ (es : List WordEvent). h.own ++ es) (sym (map-append event answers (answer ∷ []))) in (
      answers ++ answer ∷ [],
      length-append answers (answer ∷ []) ∙ ap (λ (n : ℕ). n + 1) many,
      more ∙ (ap (λ (g : Held). did g (FetchAdd at 1 answer)) is ∙ ap (λ (own : List WordEvent). record h { own = own }) longer),
    )

-- the two passes joined again hold all that was made
whole_pair : (number : ℕ) (first second : List WordEvent) → number ≢ 0
    → IsWhole (joins (record (makes (born 0) number) { own = first }) (record (born number) { own = second }))
whole_pair number first second later = record { first = refl; others = others; joined_all = joined_all } where
  one : Held
  one = record (makes (born 0) number) { own = first }

  others : (j : Joined) → (k : ℕ) × (k < 1) × (get_or (record { number = number; events = second } ∷ []) k j ≡ j) → j.number ≢ 0
  others j (zero, within, is) none = later (ap (λ (i : Joined). i.number) is ∙ none)
  others j (suc k, within, is) none = absurd (omega arith)

  joined_all : (s : Made) → (k : ℕ) × (k < 1) × (get_or (split_of (born 0) number ∷ []) k s ≡ s)
      → (s.number ≡ 0) ⊎ ((j : Joined) × Contains (record { number = number; events = second } ∷ []) j × (s.number ≡ j.number))
  joined_all s (zero, within, is) = inr (record { number = number; events = second }, (0, omega arith, refl), sym (ap (λ (r : Made). r.number) is))
  joined_all s (suc k, within, is) = absurd (omega arith)

pub BothAdd-whole : (at count number : ℕ) (one two h : Held) → number ≢ 0
    → Adds at count (makes (born 0) number) one → Adds at count (born number) two → h ≡ joins one two → BothAdd at count number h × IsWhole h
BothAdd-whole at count number one two h later first second is =
    let event = λ (a : ℕ). FetchAdd at 1 a in
    let whole = whole_pair number (map event first.0) (map event second.0) later in (
      (one, two, first, second, is),
      subst (λ (g : Held). IsWhole g) (sym (is ∙ (ap (λ (g : Held). joins g two) first.2 ∙ ap (λ (g : Held). joins (record (makes (born 0) number) { own = map event first.0 }) g) second.2))) whole,
    )

pub ruleset Adds_none = Adds-none

pub ok_more : {T E : Type 0} (P Q : T → Type 0) (r : Result T E) → IfOk r P → ((x : T) → P x → Q x) → IfOk r Q
ok_more P Q (Ok x) holds more = more x holds
ok_more P Q (Err e) holds more = tt
