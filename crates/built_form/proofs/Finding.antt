-- Where the two halves of a thing are found one after the other, the thing is found.
use Rattle.std.proofs.Common.{◌≡◌, List, ◌++◌, refl, sym, subst, ap, ◌∙◌, append_assoc}
use Rattle.built_form.specs.Form.{Lexeme, Part, Spells}
use Rattle.built_form.specs.Reading.{Finds, FindsNone}
use Rattle.built_form.proofs.Parts.{spells_append, spells_after, spells_front}

-- Things of the third kind are made of two halves, and spelled as they are, one after the other.
pub record Joins {A B C : Type 0} (f : A → List Part) (g : B → List Part) (spelled : C → List Part) (make : A → B → C) : Type 0 where
  pub spells : (x : A) (y : B) (parts : List Part) → spelled (make x y) ++ parts ≡ f x ++ (g y ++ parts)
  pub halves : (z : C) → (x : A) × (y : B) × (z ≡ make x y)

module _ {A B C : Type 0} {f : A → List Part} {g : B → List Part} {spelled : C → List Part} {make : A → B → C} (j : Joins f g spelled make) where
  -- a thing that is spelled here has its first half here
  split : (a : List Lexeme) (z : C) (parts : List Part) (end : List Lexeme) → Spells (spelled z ++ parts) a end
      → (x : A) × (y : B) × (z ≡ make x y) × Spells (f x ++ (g y ++ parts)) a end
  split a z parts end h =
      let (x, y, e) = j.halves z in
      (x, y, e, subst (λ ps. Spells ps a end) (j.spells x y parts) (subst (λ z. Spells (spelled z ++ parts) a end) e h))

  pub both_found : {a b c : List Lexeme} {x : A} {y : B} → Finds f a x b → Finds g b y c → Finds spelled a (make x y) c
  both_found {a} {b} {c} {x} {y} p q = record {
    read = λ parts end h. subst (λ ps. Spells ps a end) (sym (j.spells x y parts)) (p.read (g y ++ parts) end (q.read parts end h));
    only = λ z parts end h.
        let s = split a z parts end h in
        let u = p.only s.0 (g s.1 ++ parts) end s.3 in
        let v = q.only s.1 parts end u.1 in
        (s.2 ∙ (ap (λ x. make x s.1) u.0 ∙ ap (λ y. make x y) v.0), v.1);
  }

  pub first_none : {a : List Lexeme} → FindsNone f a → FindsNone spelled a
  first_none {a} p = record {
    none = λ z parts end h. let s = split a z parts end h in p.none s.0 (g s.1 ++ parts) end s.3;
  }

  pub second_none : {a b : List Lexeme} {x : A} → Finds f a x b → FindsNone g b → FindsNone spelled a
  second_none {a} {b} {x} p q = record {
    none = λ z parts end h.
        let s = split a z parts end h in
        let u = p.only s.0 (g s.1 ++ parts) end s.3 in
        q.none s.1 parts end u.1;
  }

-- two things, one after the other
abbrev pub paired : {A B : Type 0} → (A → List Part) → (B → List Part) → A × B → List Part
paired f g p = f p.0 ++ g p.1

pub pairs : {A B : Type 0} (f : A → List Part) (g : B → List Part) → Joins f g (paired f g) (λ x y. (x, y))
pairs f g = record {
  spells = λ x y parts. append_assoc (f x) (g y) parts;
  halves = λ z. (z.0, z.1, refl);
}

-- what is always spelled by these parts
abbrev pub always : List Part → Unit {0} → List Part
always parts nothing = parts

pub fixed_found : (parts : List Part) {a b : List Lexeme} → Spells parts a b → Finds (always parts) a tt b
fixed_found parts {a} {b} h = record {
  read = λ more end s. spells_append parts more a b end h s;
  only = λ y more end s. (refl, spells_after parts more a b end h s);
}

pub fixed_none : (parts : List Part) {a : List Lexeme} → ((rest : List Lexeme) → Spells parts a rest → ⊥) → FindsNone (always parts) a
fixed_none parts {a} none = record {
  none = λ y more end s. let front = spells_front parts more a end s in none front.0 front.1;
}
