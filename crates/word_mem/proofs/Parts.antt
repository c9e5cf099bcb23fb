-- The parts of a merge, and what follows a split in it.
use Rattle.std.proofs.Common.{◌≡◌, ◌≢◌, ◌≤◌, ℕ, eqb, List, [], ◌∷◌, ◌++◌, filter, length, Contains, refl, sym, ap, ◌∙◌, subst, ⊎_elim, eq-eqb, ne_eqb, append-nil, length-append, arith}
use Rattle.std.proofs.lemmas.List.{map-append}
use Rattle.std.proofs.lemmas.List.Elements.{filter-append}
use Rattle.word_mem.specs.declared.event.WordEvent.{WordEvent}
use Rattle.word_mem.specs.declared.event.Entry.{Entry}
use Rattle.word_mem.specs.Merge.{events, part}
use Rattle.word_mem.specs.Held.{Made, Follows}
use Rattle.word_mem.proofs.Lists.{Contains-here, Contains-there, Contains-middle, cut_at}

pub events-append : (a b : List Entry) → events (a ++ b) ≡ events a ++ events b
events-append a b = map-append (λ (x : Entry). x.event) a b

pub part-append : (n : ℕ) (a b : List Entry) → part n (a ++ b) ≡ part n a ++ part n b
part-append n a b = ap events (filter-append (λ (x : Entry). eqb x.number n) a b) ∙ events-append (filter (λ (x : Entry). eqb x.number n) a) (filter (λ (x : Entry). eqb x.number n) b)

pub part-one : (n : ℕ) (x : Entry) → x.number ≡ n → part n (x ∷ []) ≡ x.event ∷ []
part-one n x same = rw (eq-eqb x.number n same) refl

pub part-other : (n : ℕ) (x : Entry) → x.number ≢ n → part n (x ∷ []) ≡ []
part-other n x other = rw (ne_eqb x.number n other) refl

-- an entry of the pass is an event more of its part, and leaves the other parts
pub part-push : (n : ℕ) (m : List Entry) (x : Entry) → x.number ≡ n → part n (m ++ x ∷ []) ≡ part n m ++ x.event ∷ []
part-push n m x same = part-append n m (x ∷ []) ∙ ap (λ (es : List WordEvent). part n m ++ es) (part-one n x same)

pub part-push_other : (n : ℕ) (m : List Entry) (x : Entry) → x.number ≢ n → part n (m ++ x ∷ []) ≡ part n m
part-push_other n m x other = part-append n m (x ∷ []) ∙ (ap (λ (es : List WordEvent). part n m ++ es) (part-other n x other) ∙ append-nil (part n m))

-- a part gets no shorter
pub part-longer : (n : ℕ) (a b : List Entry) → length (part n a) ≤ length (part n (a ++ b))
part-longer n a b = rw (part-append n a b) (omega (arith, length-append (part n a) (part n b)))

-- the part of a pass without entries
pub part-none : (n : ℕ) (m : List Entry) → ((x : Entry) → Contains m x → x.number ≢ n) → part n m ≡ []
part-none n [] none = refl
part-none n (x ∷ m) none = rw (ne_eqb x.number n (none x (Contains-here x m))) (part-none n m (λ y there. none y (Contains-there x y m there)))

-- nothing follows a split of a pass without entries
pub Follows-none : (m : List Entry) (s : Made) → ((x : Entry) → Contains m x → x.number ≢ s.number) → Follows m s
Follows-none m s none front back e cut =
    let x : Entry = record { number = s.number; event = e } in
    absurd (none x (subst (λ (l : List Entry). Contains l x) (sym cut) (Contains-middle front x back)) refl)

-- one entry more, behind all that the maker had made
pub Follows-push : (m : List Entry) (x : Entry) (s : Made) → Follows m s → s.before ≤ length (part s.maker m) → Follows (m ++ x ∷ []) s
Follows-push m x s follows enough front back e cut =
    let y : Entry = record { number = s.number; event = e } in
    ⊎_elim
    (λ (last : (front ≡ m) × (y ≡ x)). subst (λ (l : List Entry). s.before ≤ length (part s.maker l)) (sym last.0) enough)
    (λ (before : (rest : List Entry) × (m ≡ front ++ y ∷ rest)). follows front before.0 e before.1)
    (cut_at m front back x y cut)
