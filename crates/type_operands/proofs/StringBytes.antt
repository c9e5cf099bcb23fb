-- What the words of a string hold at first, a byte at a time.
use Rattle.std.proofs.Common.{◌≡◌, ◌∙◌, refl, sym, ap, ℕ, ◌+◌, ◌<◌, ◌≤◌, nat_eq, Bool, true, false, if◌then◌else◌, List, [], ◌∷◌, ◌++◌, append_assoc, length, drop, get_or, drop-cons, add-one}
use Rattle.std.proofs.lemmas.List.{append-nil, drop_all}
use Rattle.type_rules.specs.Literals.{text_initially}
use Rattle.type_rules.specs.Seen.{Seen}
use Rattle.type_rules.specs.declared.notes.Initial.{Initial}
use Rattle.core_unit.specs.declared.words.Word.TheVariants as word
use Rattle.type_operands.specs.Strings.{byte_initially}

by_test : (test : Bool) (x : Initial) (rest : List Initial) → (if test then rest else x ∷ rest) ≡ (if test then [] else x ∷ []) ++ rest
by_test true x rest = refl
by_test false x rest = refl

byte_more : (at byte : ℕ) (bytes : List ℕ) → text_initially at (byte ∷ bytes) ≡ byte_initially at byte ++ text_initially (at + 1) bytes
unfolding text_initially
byte_more at byte bytes = by_test (nat_eq byte 0) (record { at = at; word = word.Number byte }) (text_initially (at + 1) bytes)

none_more : (at : ℕ) → text_initially at [] ≡ []
unfolding text_initially
none_more at = refl

-- with these words of static storage beside those before
abbrev pub held : Seen → List Initial → Seen
held s values = record s { static_values = s.static_values ++ values }

held_twice : (s : Seen) (xs ys : List Initial) → held (held s xs) ys ≡ held s (xs ++ ys)
held_twice s xs ys = ap (λ (v : List Initial). record s { static_values = v }) (append_assoc s.static_values xs ys)

held_nothing : (s : Seen) → held s [] ≡ s
held_nothing s = ap (λ (v : List Initial). record s { static_values = v }) (append-nil s.static_values)

-- A string is held as far as this byte: what is held once the others are is what the whole string holds.
pub record IsHeld (start now : Seen) (address : ℕ) (bytes : List ℕ) (at index : ℕ) : Type 0 where
  pub so_far : held start (text_initially address bytes) ≡ held now (text_initially at (drop index bytes))

pub held_first : (s : Seen) (address : ℕ) (bytes : List ℕ) → IsHeld s s address bytes address 0
held_first s address bytes = record { so_far = refl }

pub held_more : (start now next : Seen) (address at further index : ℕ) (bytes : List ℕ) → index < length bytes →
    IsHeld start now address bytes at index →
    next ≡ record now { static_values = now.static_values ++ byte_initially at (get_or bytes index 0) } → further ≡ at + 1 →
    IsHeld start next address bytes further (index + 1)
held_more start now next address at further index bytes within before step is_next =
    let byte : ℕ = get_or bytes index 0 in
    let rest : List ℕ = drop (index + 1) bytes in
    let cut : drop index bytes ≡ byte ∷ rest = drop-cons bytes index 0 within ∙ rw add-one refl in
    let go : held now (text_initially at (drop index bytes)) ≡ held next (text_initially further rest) =
    ap (λ (bs : List ℕ). held now (text_initially at bs)) cut ∙ ap (held now) (byte_more at byte rest)
    ∙ sym (held_twice now (byte_initially at byte) (text_initially (at + 1) rest)) ∙ rw (step, is_next) refl in
    record { so_far = before.so_far ∙ go }

pub held_whole : (start now : Seen) (address at index : ℕ) (bytes : List ℕ) → length bytes ≤ index → IsHeld start now address bytes at index →
    now ≡ record start { static_values = start.static_values ++ text_initially address bytes }
held_whole start now address at index bytes past all =
    sym (all.so_far ∙ ap (λ (bs : List ℕ). held now (text_initially at bs)) (drop_all index bytes past) ∙ ap (held now) (none_more at) ∙ held_nothing now)
