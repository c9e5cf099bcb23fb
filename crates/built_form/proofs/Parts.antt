-- Laws of `Begins` and `Spells`: the first token decides what follows it.
use Rattle.std.proofs.Common.{◌≡◌, ℕ, suc, ◌<◌, ◌≤◌, List, [], ◌∷◌, ◌++◌, length, refl, sym, subst, ap, ◌∙◌, arith, Result, Ok, Err, OnErr, drop, get_or, drop-cons}
use Rattle.c_text.specs.declared.Token.{Token}
use Rattle.built_form.specs.Form.{Lexeme, Part, IsPart, Begins, Spells}
use Rattle.built_form.specs.Form.Part.{Sign, Keyword, Word, Ident}
use Rattle.built_form.specs.declared.fixed.Fixed.{Fixed}
use Rattle.built_form.specs.Reading.{EndsCalls, part_of, parts_of}

pub begins_same : (p q : Part) (a b c : List Lexeme) → Begins p a b → Begins q a c → b ≡ c
begins_same p q a b c x y = let e : x.first ∷ b ≡ y.first ∷ c = sym x.split ∙ y.split in cc

-- the token that two parts begin with
pub both_fit : (p q : Part) (a b c : List Lexeme) → Begins p a b → Begins q a c → (l : Lexeme) × IsPart l p × IsPart l q
both_fit p q a b c x y =
    let e : x.first ∷ b ≡ y.first ∷ c = sym x.split ∙ y.split in
    let f : y.first ≡ x.first = cc in
    (x.first, x.fits, subst (λ l. IsPart l q) f y.fits)

abbrev first_byte : List ℕ → ℕ
first_byte text = get_or text 0 0

-- two punctuators that begin one list have the same first byte, and so have two keywords
pub signs_first : (s t : List ℕ) (a b c : List Lexeme) → Begins (Sign s) a b → Begins (Sign t) a c → first_byte s ≡ first_byte t
signs_first s t a b c x y = let f = both_fit (Sign s) (Sign t) a b c x y in ap first_byte (sym f.1.1 ∙ f.2.1)

pub keywords_first : (s t : List ℕ) (a b c : List Lexeme) → Begins (Keyword s) a b → Begins (Keyword t) a c → first_byte s ≡ first_byte t
keywords_first s t a b c x y = let f = both_fit (Keyword s) (Keyword t) a b c x y in ap first_byte (sym f.1.1 ∙ f.2.1)

pub words_same : (s t : List ℕ) (a b c : List Lexeme) → Begins (Word s) a b → Begins (Word t) a c → s ≡ t
words_same s t a b c x y = let f = both_fit (Word s) (Word t) a b c x y in sym f.1 ∙ f.2

pub names_same : (n m : Token) (a b c : List Lexeme) → Begins (Ident n) a b → Begins (Ident m) a c → n ≡ m
names_same n m a b c x y = let f = both_fit (Ident n) (Ident m) a b c x y in sym f.1.0 ∙ f.2.0

-- a call doesn't begin where what ends the calls does
pub name_or_end : (n : Token) (parts more : List Part) (a b c : List Lexeme) → EndsCalls parts → Begins (Ident n) a b
    → Spells (parts ++ more) a c → ⊥
name_or_end n [] more a b c ends x y = absurd ends
name_or_end n (Sign t ∷ parts) more a b c ends x y =
    let f = both_fit (Ident n) (Sign t) a b y.0 x y.1 in
    let e = f.1.1 in let g = f.2.0 in cc
name_or_end n (Keyword t ∷ parts) more a b c ends x y =
    let f = both_fit (Ident n) (Keyword t) a b y.0 x y.1 in
    let e = f.1.1 in let g = f.2.0 in cc
name_or_end n (Word t ∷ parts) more a b c ends x y = absurd ends
name_or_end n (Ident m ∷ parts) more a b c ends x y = absurd ends

pub begins_shorter : (p : Part) (a b : List Lexeme) → Begins p a b → length b < length a
begins_shorter p a b x = omega (arith, ap length x.split)

pub spells_rest : {p : Part} {a b : List Lexeme} (ps : List Part) (c : List Lexeme) → Begins p a b → Spells (p ∷ ps) a c → Spells ps b c
spells_rest {p} {a} {b} ps c x y = subst (λ l. Spells ps l c) (begins_same p p a y.0 b y.1 x) y.2

pub spells_append : (ps qs : List Part) (a b c : List Lexeme) → Spells ps a b → Spells qs b c → Spells (ps ++ qs) a c
spells_append [] qs a b c e h = subst (λ l. Spells qs l c) (sym e) h
spells_append (p ∷ ps) qs a b c x y = (x.0, x.1, spells_append ps qs x.0 b c x.2 y)

pub spells_after : (ps qs : List Part) (a b c : List Lexeme) → Spells ps a b → Spells (ps ++ qs) a c → Spells qs b c
spells_after [] qs a b c e h = subst (λ l. Spells qs l c) e h
spells_after (p ∷ ps) qs a b c x y =
    spells_after ps qs x.0 b c x.2 (subst (λ l. Spells (ps ++ qs) l c) (begins_same p p a y.0 x.0 y.1 x.1) y.2)

pub spells_front : (ps qs : List Part) (a c : List Lexeme) → Spells (ps ++ qs) a c → (b : List Lexeme) × Spells ps a b
spells_front [] qs a c h = (a, refl)
spells_front (p ∷ ps) qs a c x = let rec = spells_front ps qs x.0 c x.2 in (rec.0, (x.0, x.1, rec.1))

pub spells_within : (ps : List Part) (a b : List Lexeme) → Spells ps a b → length b ≤ length a
spells_within [] a b e = omega (arith, ap length e)
spells_within (p ∷ ps) a b x = omega (arith, begins_shorter p a x.0 x.1, spells_within ps x.0 b x.2)

-- From `start` on some of the parts were read, these are left of them, and `now` is left of the lexemes.
pub record Passed (parts left : List Part) (start now : List Lexeme) : Type 0 where
  pub read : (end : List Lexeme) → Spells left now end → Spells parts start end
  pub only : (end : List Lexeme) → Spells parts start end → Spells left now end

-- the next of the parts doesn't come next
pub passed_none : (fixed : List Fixed) (i : ℕ) (d : Fixed) (start now : List Lexeme) → i < length fixed
    → Passed (parts_of fixed) (parts_of (drop i fixed)) start now
    → ((rest : List Lexeme) → Begins (part_of (get_or fixed i d)) now rest → ⊥)
    → (rest : List Lexeme) → Spells (parts_of fixed) start rest → ⊥
passed_none fixed i d start now lt passed none rest h =
    let left : Spells (parts_of (get_or fixed i d ∷ drop (suc i) fixed)) now rest =
    subst (λ (left : List Fixed). Spells (parts_of left) now rest) (drop-cons fixed i d lt) (passed.only rest h) in
    none left.0 left.1

pub any_err : {T E : Type 0} (P : Type 0) (r : Result T E) → P → OnErr r P
any_err P (Ok x) p = tt
any_err P (Err e) p = p
