-- Where one pass made every call, its own list is the history.
use Rattle.std.proofs.Common.{◌≡◌, ℕ, zero, suc, List, [], ◌∷◌, Contains, refl, sym, ap, ◌∙◌, subst, ⊎_elim, eq-eqb, ne_eqb, arith}
use Rattle.std.proofs.lemmas.Bool.{cases_eq}
use Rattle.word_mem.specs.declared.event.WordEvent.{WordEvent}
use Rattle.word_mem.specs.declared.event.Entry.{Entry}
use Rattle.word_mem.specs.Replay.{IsLegal}
use Rattle.word_mem.specs.Merge.{events, part}
use Rattle.word_mem.specs.Held.{Held, Joined, HasMerge}
use Rattle.word_mem.proofs.Lists.{Contains-none, Contains-here, Contains-there}

-- the part of the one pass that has entries is the whole
part-all : (n : ℕ) (m : List Entry) → ((x : Entry) → Contains m x → x.number ≡ n) → part n m ≡ events m
part-all n [] all = refl
part-all n (x ∷ m) all =
    rw (eq-eqb x.number n (all x (Contains-here x m))) (ap (λ (es : List WordEvent). x.event ∷ es) (part-all n m (λ y there. all y (Contains-there x y m there))))

-- the part of a pass with an entry isn't empty
part-some : (m : List Entry) (x : Entry) → Contains m x → part x.number m ≡ [] → ⊥
part-some [] x there none = Contains-none x there
part-some (y ∷ m) x (zero, within, is) none =
    let first : part x.number (y ∷ m) ≡ y.event ∷ part x.number m = rw (eq-eqb y.number x.number (ap (λ (z : Entry). z.number) is)) refl in
    let clash : y.event ∷ part x.number m ≡ [] = sym first ∙ none in
    cc
part-some (y ∷ m) x (suc k, within, is) none =
    ⊎_elim
    (λ (same : y.number ≡ x.number).
    let first : part x.number (y ∷ m) ≡ y.event ∷ part x.number m = rw (eq-eqb y.number x.number same) refl in
    let clash : y.event ∷ part x.number m ≡ [] = sym first ∙ none in
    let never : ⊥ = cc in
    never)
    (λ (other : y.number ≡ x.number → ⊥).
    let rest : part x.number (y ∷ m) ≡ part x.number m = rw (ne_eqb y.number x.number other) refl in
    part-some m x (k, omega arith, is) (sym rest ∙ none))
    (cases_eq y.number x.number)

pub own_is_legal : (opening : List ℕ) (h : Held) → HasMerge opening h → ((j : Joined) → Contains h.joined j → j.events ≡ []) → IsLegal opening h.own
own_is_legal opening h (m, merge, legal) empty =
    let by_own : (x : Entry) → Contains m x → x.number ≡ h.number = λ x there.
    ⊎_elim
    (λ (own : x.number ≡ h.number). own)
    (λ (other : (j : Joined) × Contains h.joined j × (x.number ≡ j.number)).
    let none : part x.number m ≡ [] = subst (λ (n : ℕ). part n m ≡ []) (sym other.2) (merge.joined other.0 other.1 ∙ empty other.0 other.1) in
    absurd (part-some m x there none))
    (merge.only x there) in
    subst (λ (es : List WordEvent). IsLegal opening es) (sym (part-all h.number m by_own) ∙ merge.own) legal
