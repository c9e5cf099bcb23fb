-- What a rule gives of spots, and how far bodies were read by then.
use Rattle.std.proofs.Common.{◌≡◌, ℕ, Bool, true, false, refl, sym, ◌∙◌, subst, List, [], ◌∷◌, ◌++◌}
use Rattle.std.specs.Prelude.{if◌then◌else◌}
use Rattle.eff_types.specs.declared.types.CType.{CType}
use Rattle.core_unit.specs.Places.{Spot, spots, place_spots}
use Rattle.core_unit.specs.declared.expressions.Expr.{Expr}
use Rattle.core_unit.specs.declared.expressions.Place.{Place}
use Rattle.type_rules.specs.Operands.{found_object, found_value}
use Rattle.type_rules.specs.Reading.{Read, Good, Bad, and_then}
use Rattle.type_rules.specs.Seen.{Seen}
use Rattle.type_rules.specs.declared.found.Form.{Form}
use Rattle.type_rules.specs.declared.found.Form.TheVariants.{Lvalue, Value}
use Rattle.type_rules.specs.declared.found.Found.{Found}
use Rattle.type_rules.specs.declared.found.Operand.{Operand}
use Rattle.type_laws.proofs.Progress.{Progress, progress}
use Rattle.type_laws.proofs.Triples.{Holds}

-- `P` is true of the spots of what is given, and of the progress by then.
pub record Reads {A : Type 0} (f : A → List Spot) (P : List Spot → Progress → Type 0) (r : Read A) : Type 0 where
  pub holds : Holds (λ a t. P (f a) (progress t)) r

-- what has no spots
abbrev pub none_of : {A : Type 0} → A → List Spot
none_of a = []

-- The progress stays, as where no call site is taken.
abbrev pub Stays : Progress → List Spot → Progress → Type 0
Stays n xs m = m ≡ n

abbrev pub IsIdle : {A : Type 0} → Progress → Read A → Type 0
IsIdle n r = Reads none_of (Stays n) r

module _ {A B : Type 0} {f : A → List Spot} {P : List Spot → Progress → Type 0} {g : B → List Spot} {Q : List Spot → Progress → Type 0} where
  pub then_reads : (r : Read A) (k : A → Seen → Read B) → Reads f P r → ((a : A) (t : Seen) → P (f a) (progress t) → Reads g Q (k a t)) → Reads g Q (and_then r k)
  unfolding and_then
  then_reads (Good a t) k first next = next a t first.holds
  then_reads (Bad number place) k first next = record { holds = tt }

-- whatever the first part was
module _ {A B : Type 0} {g : B → List Spot} {Q : List Spot → Progress → Type 0} where
  pub whatever_reads : (r : Read A) (k : A → Seen → Read B) → ((a : A) (t : Seen) → Reads g Q (k a t)) → Reads g Q (and_then r k)
  unfolding and_then
  whatever_reads (Good a t) k next = next a t
  whatever_reads (Bad number place) k next = record { holds = tt }

module _ {A : Type 0} {f : A → List Spot} {P : List Spot → Progress → Type 0} where
  pub gives_reads : (s : Seen) (a : A) → P (f a) (progress s) → Reads f P (Good a s)
  gives_reads s a p = record { holds = p }

  pub fails_reads : (number place : ℕ) → Reads f P (Bad number place)
  fails_reads number place = record { holds = tt }

  pub refused_reads : (s : Seen) (test : Bool) (number place : ℕ) (k : Unit {0} → Seen → Read A) → (test ≡ false → Reads f P (k tt s))
      → Reads f P (and_then (if test then Bad number place else Good tt s) k)
  unfolding and_then
  refused_reads s true number place k next = record { holds = tt }
  refused_reads s false number place k next = next refl

-- the same, said in other words
module _ {A : Type 0} {f : A → List Spot} {P : List Spot → Progress → Type 0} {g : A → List Spot} {Q : List Spot → Progress → Type 0} where
  pub reads_as : (r : Read A) → Reads f P r → ((a : A) (m : Progress) → P (f a) m → Q (g a) m) → Reads g Q r
  reads_as (Good a t) h as_well = record { holds = as_well a (progress t) h.holds }
  reads_as (Bad number place) h as_well = record { holds = tt }

module _ {A B : Type 0} where
  pub then_idle : (n : Progress) (r : Read A) (k : A → Seen → Read B) → IsIdle n r → ((a : A) (t : Seen) → IsIdle (progress t) (k a t)) → IsIdle n (and_then r k)
  then_idle n r k first next = then_reads r k first (λ a t e. reads_as (k a t) (next a t) (λ b m d. d ∙ e))

abbrev pub form_spots : Form → List Spot
form_spots (Lvalue p) = place_spots p []
form_spots (Value e) = spots e []

abbrev pub found_spots : Found → List Spot
found_spots f = form_spots f.form

abbrev pub operand_spots : Operand → List Spot
operand_spots o = spots o.node []

-- of several operands, one behind the other
abbrev pub given_spots : List Operand → List Spot
given_spots [] = []
given_spots (o ∷ os) = operand_spots o ++ given_spots os

-- a node of these spots is found
module _ {P : List Spot → Progress → Type 0} where
  pub value_found : (s : Seen) (place : ℕ) (kind : CType) (e : Expr) (xs : List Spot) → spots e [] ≡ xs → P xs (progress s)
      → Reads found_spots P (Good (found_value place kind e) s)
  value_found s place kind e xs is p = record { holds = subst (λ ys. P ys (progress s)) (sym is) p }

  pub object_found : (s : Seen) (place : ℕ) (kind : CType) (object : Place) (xs : List Spot) → place_spots object [] ≡ xs → P xs (progress s)
      → Reads found_spots P (Good (found_object place kind object) s)
  object_found s place kind object xs is p = record { holds = subst (λ ys. P ys (progress s)) (sym is) p }

-- what is true by one progress is so by another, which is the same
pub moved : (P : List Spot → Progress → Type 0) (xs : List Spot) (m n : Progress) → n ≡ m → P xs m → P xs n
moved P xs m n e p = subst (λ k. P xs k) (sym e) p
