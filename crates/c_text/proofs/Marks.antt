-- The longest punctuator at the front of a text.
use Rattle.std.proofs.Common.{◌≡◌, ℕ, ◌+◌, ◌<◌, ◌≤◌, ◌⊎◌, inl, inr, Bool, true, false, ◌&&◌, ◌||◌, eqb, leb, if◌then◌else◌, List, [], ◌∷◌, ◌++◌, length, take, Some, refl, sym, ◌∙◌, ap, arith}
use Rattle.std.specs.List.{list_all}
use Rattle.std.specs.Str.{bytes_eq}
use Rattle.std.proofs.lemmas.Bool.Decides.{nat_tests}
use Rattle.std.proofs.lemmas.Bool.{cases_lt}
use Rattle.std.proofs.lemmas.List.{take_at, length-append}
use Rattle.std.proofs.lemmas.Slice.Eq.{bytes_eq-Decides}
use Rattle.c_text.specs.declared.TokenKind.TheVariants.{Punctuator}
use Rattle.c_text.specs.declared.form.Form.{Form}
use Rattle.c_text.specs.declared.form.Form.TheVariants.{Word, Stray}
use Rattle.c_text.specs.declared.form.StrayKind.TheVariants.{Byte}
use Rattle.c_text.specs.Forms.{mark_form, when}
use Rattle.c_text.specs.Spelling.{IsFront}
use Rattle.c_text.specs.Words.{is_one_of, punctuators, triples, doubles, singles}
use Rattle.c_text.proofs.Front.{front_of}

pass_at : (t v some : Bool) (test : List ℕ → Bool) (w word : List ℕ) → (t ≡ true → w ≡ word) → (test w && v) ≡ true → (t || some) ≡ true
    → (v ≡ true → some ≡ true → test word ≡ true) → test word ≡ true
pass_at true v some test w word same all h later = sym (ap test (same refl)) ∙ and_left (test w) v all
  where
    and_left : (a b : Bool) → (a && b) ≡ true → a ≡ true
    and_left true b e = refl
    and_left false b e = absurd cc
pass_at false v some test w word same all h later = later (and_right (test w) v all) h
  where
    and_right : (a b : Bool) → (a && b) ≡ true → b ≡ true
    and_right true b e = e
    and_right false b e = absurd cc

-- a test that every word of a list passes holds of each that is one of them
pub one_of_passes : (test : List ℕ → Bool) (words : List (List ℕ)) (word : List ℕ) → list_all test words ≡ true → is_one_of words word ≡ true → test word ≡ true
one_of_passes test [] word all h = absurd cc
one_of_passes test (w ∷ words) word all h =
    pass_at (bytes_eq w word) (list_all test words) (is_one_of words word) test w word (bytes_eq-Decides w word).0 all h (one_of_passes test words word)

-- a punctuator has one to three bytes
pub punctuator_short : (word : List ℕ) → is_one_of punctuators word ≡ true → (1 ≤ length word) × (length word ≤ 3)
punctuator_short word h =
    let low : leb 1 (length word) ≡ true = one_of_passes (λ w. leb 1 (length w)) punctuators word refl h in
    let high : leb (length word) 3 ≡ true = one_of_passes (λ w. leb (length w) 3) punctuators word refl h in
    (grind (arith, nat_tests), grind (arith, nat_tests))

mark_holds : (word : List ℕ) (f : Form) → mark_form word ≡ Some f → (is_one_of punctuators word ≡ true) ⊎ (length word ≡ 1)
mark_holds word f h = go (is_one_of punctuators word) refl h
  where
    single : (n : ℕ) (g : Form) → when (eqb n 1) (Stray Byte) ≡ Some g → n ≡ 1
    single n g e = let t : eqb n 1 ≡ true = holds (eqb n 1) e in grind (arith, nat_tests)
      where
        holds : (t : Bool) → when t (Stray Byte) ≡ Some g → t ≡ true
        holds true e = refl
        holds false e = absurd cc

    go : (t : Bool) → is_one_of punctuators word ≡ t → (if t then Some (Word Punctuator) else when (eqb (length word) 1) (Stray Byte)) ≡ Some f
        → (is_one_of punctuators word ≡ true) ⊎ (length word ≡ 1)
    go true e h = inl e
    go false e h = inr (single (length word) f h)

-- of the prefixes of a text, those longer than n bytes and up to three are no punctuators
abbrev pub NoLonger : List ℕ → ℕ → Type 0
NoLonger text n = (k : ℕ) → n < k → k ≤ length text → k ≤ 3 → is_one_of punctuators (take k text) ≡ false

pub front_mark : (text : List ℕ) (n : ℕ) (form : Form) → 1 ≤ n → n ≤ length text → mark_form (take n text) ≡ Some form → NoLonger text n
    → IsFront mark_form form n text
front_mark text n form some inside spelled none =
    front_of mark_form form n text inside spelled (λ word rest f split h. at_most word rest f split (mark_holds word f h))
  where
    at_most : (word rest : List ℕ) (f : Form) → text ≡ word ++ rest → ((is_one_of punctuators word ≡ true) ⊎ (length word ≡ 1)) → length word ≤ n
    at_most word rest f split (inr e) = omega (arith, e)
    at_most word rest f split (inl e) =
        let short : (1 ≤ length word) × (length word ≤ 3) = punctuator_short word e in
        let taken : take (length word) text ≡ word = ap (take (length word)) split ∙ take_at word rest (length word) refl in
        let size : length text ≡ length word + length rest = ap length split ∙ length-append word rest in
        elim (cases_lt n (length word)) [
          | inl longer ↦
              let not_one : is_one_of punctuators (take (length word) text) ≡ false = none (length word) longer (omega (arith, size)) short.1 in
              let one : is_one_of punctuators (take (length word) text) ≡ true = ap (is_one_of punctuators) taken ∙ e in
              absurd cc
          | inr within ↦ within
        ]

any_append : (xs ys : List (List ℕ)) (word : List ℕ) → is_one_of (xs ++ ys) word ≡ (is_one_of xs word || is_one_of ys word)
any_append [] ys word = refl
any_append (x ∷ xs) ys word =
    ap (λ t. bytes_eq x word || t) (any_append xs ys word) ∙ or_assoc (bytes_eq x word) (is_one_of xs word) (is_one_of ys word)
  where
    or_assoc : (a b c : Bool) → (a || (b || c)) ≡ ((a || b) || c)
    or_assoc true b c = refl
    or_assoc false b c = refl

-- words of another length aren't among them
other_length : (words : List (List ℕ)) (n : ℕ) (word : List ℕ) → list_all (λ w. eqb (length w) n) words ≡ true → (length word ≡ n → ⊥)
    → is_one_of words word ≡ false
other_length words n word all other = go (is_one_of words word) refl
  where
    go : (t : Bool) → is_one_of words word ≡ t → t ≡ false
    go false e = refl
    go true e =
        let same : eqb (length word) n ≡ true = one_of_passes (λ w. eqb (length w) n) words word all e in
        let size : length word ≡ n = grind (arith, nat_tests) in
        absurd (other size)

-- the punctuators of a length
by_parts : (word : List ℕ) → is_one_of punctuators word ≡ (is_one_of triples word || (is_one_of doubles word || is_one_of singles word))
by_parts word = any_append triples (doubles ++ singles) word ∙ ap (λ t. is_one_of triples word || t) (any_append doubles singles word)

or_false : (t : Bool) → (t || false) ≡ t
or_false true = refl
or_false false = refl

pub one_byte : (word : List ℕ) → length word ≡ 1 → is_one_of singles word ≡ is_one_of punctuators word
one_byte word h =
    let a : is_one_of triples word ≡ false = other_length triples 3 word refl (λ e. let x : ⊥ = omega (arith, h, e) in x) in
    let b : is_one_of doubles word ≡ false = other_length doubles 2 word refl (λ e. let x : ⊥ = omega (arith, h, e) in x) in
    sym (by_parts word ∙ ap (λ t. t || (is_one_of doubles word || is_one_of singles word)) a ∙ ap (λ t. t || is_one_of singles word) b)

pub two_bytes : (word : List ℕ) → length word ≡ 2 → is_one_of doubles word ≡ is_one_of punctuators word
two_bytes word h =
    let a : is_one_of triples word ≡ false = other_length triples 3 word refl (λ e. let x : ⊥ = omega (arith, h, e) in x) in
    let b : is_one_of singles word ≡ false = other_length singles 1 word refl (λ e. let x : ⊥ = omega (arith, h, e) in x) in
    sym (by_parts word ∙ ap (λ t. t || (is_one_of doubles word || is_one_of singles word)) a ∙ ap (λ t. is_one_of doubles word || t) b ∙ or_false _)

pub three_bytes : (word : List ℕ) → length word ≡ 3 → is_one_of triples word ≡ is_one_of punctuators word
three_bytes word h =
    let a : is_one_of doubles word ≡ false = other_length doubles 2 word refl (λ e. let x : ⊥ = omega (arith, h, e) in x) in
    let b : is_one_of singles word ≡ false = other_length singles 1 word refl (λ e. let x : ⊥ = omega (arith, h, e) in x) in
    sym (by_parts word ∙ ap (λ t. is_one_of triples word || (t || is_one_of singles word)) a ∙ ap (λ t. is_one_of triples word || t) b ∙ or_false _)

pub no_bytes : (word : List ℕ) → (length word ≡ 1 → ⊥) → (length word ≡ 2 → ⊥) → (length word ≡ 3 → ⊥) → false ≡ is_one_of punctuators word
no_bytes word one two three =
    let a : is_one_of triples word ≡ false = other_length triples 3 word refl three in
    let b : is_one_of doubles word ≡ false = other_length doubles 2 word refl two in
    let d : is_one_of singles word ≡ false = other_length singles 1 word refl one in
    sym (by_parts word ∙ ap (λ t. t || (is_one_of doubles word || is_one_of singles word)) a ∙ ap (λ t. t || is_one_of singles word) b ∙ d)
