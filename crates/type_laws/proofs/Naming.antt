-- Names stand for what is typed.
use Rattle.std.proofs.Common.{◌≡◌, ℕ, zero, suc, ◌<◌, Bool, true, false, cond, refl, ◌∙◌, subst, List, [], ◌∷◌, length, slice_get, Option, Some, None, arith}
use Rattle.std.specs.Prelude.{nat_eq}
use Rattle.std.specs.Map.{lookup}
use denote.Hole.Carrier.{hidden}
use Rattle.scopes.specs.Number.{number_of, noted as noted_names}
use Rattle.scopes.specs.Scope.{Scope, found, unless_found}
use Rattle.eff_types.specs.declared.levels.Effects.{Effects}
use Rattle.eff_types.specs.declared.types.CType.{CType, Void, Int}
use Rattle.eff_types.specs.declared.types.CType.TheBlock.{hidden-the_row-CType-0, shape-the_row-CType-0, hidden-the_row-CType-1, shape-the_row-CType-1}
use Rattle.eff_types.specs.declared.types.CType.TheVariants as a_type
use Rattle.eff_types.specs.declared.types.FnType.{FnType}
use Rattle.c_tree.specs.declared.words.Span.{Span}
use Rattle.core_unit.specs.Library.{row_types}
use Rattle.core_unit.specs.Shapes.{pointer_to}
use Rattle.core_unit.specs.Typed.{Tables, IsTyped, IsCallee, is_arrow}
use Rattle.core_unit.proofs.Equations.{type_of-Function, type_of-LibraryFunction, type_of-Number, type_of-Null, place_type-Variable}
use Rattle.core_unit.specs.declared.expressions.Expr.{Expr}
use Rattle.core_unit.specs.declared.expressions.Expr.TheBlock.{hidden-the_row-Expr-0, shape-the_row-Expr-0, hidden-the_row-Place-1, shape-the_row-Place-1, hidden-the_row-Expr-2, shape-the_row-Expr-2}
use Rattle.core_unit.specs.declared.expressions.Expr.TheVariants as expr
use Rattle.core_unit.specs.declared.expressions.Place.TheVariants as object
use Rattle.core_unit.specs.declared.expressions.Storage.{Storage}
use Rattle.core_unit.specs.declared.operators.Sign.TheVariants.{Signed}
use Rattle.core_unit.specs.declared.tables.FunctionInfo.{FunctionInfo}
use Rattle.core_unit.specs.declared.tables.StructInfo.{StructInfo}
use Rattle.type_rules.specs.Functions.{function_type, kind_at, effects_at}
use Rattle.type_rules.specs.Operands.{found_value, found_object}
use Rattle.type_rules.specs.Primaries.{named, name}
use Rattle.type_rules.specs.Reading.{Read, Good, Bad, and_then, name_number, text_of}
use Rattle.type_rules.specs.Seen.{Seen}
use Rattle.type_rules.specs.declared.found.Found.{Found}
use Rattle.type_rules.specs.declared.names.Entity.{Entity}
use Rattle.type_rules.specs.declared.names.Entity.TheVariants.{Variable, Function, TypeName, Enumerator, Library, NullPointer, MutexInitializer}
use Rattle.type_laws.proofs.Formed.{IsFormed}
use Rattle.type_laws.proofs.Operands.{IsFound, IsTypedFound, IsTypedAs, formed_pointer}
use Rattle.type_laws.proofs.Triples.{Each, EachEntity, IsLawfulEntity, IsKnownEntity, IsDeclared, Triple, Keeps, Always, Lawful, gives_keeps, fails_keeps}
use Rattle.type_laws.proofs.Typed as typed
use Rattle.type_laws.proofs.Types.{is_given}

-- what is true of each meaning is true of the one that is found
pub in_scope : (P : Entity → Type 0) (scope : Scope Entity) (number : ℕ) (e : Entity) → Each (λ entry. P entry.1) scope → lookup (nat_eq number) scope ≡ Some e → P e
in_scope P [] number e each is = absurd (cc)
in_scope P (entry ∷ rest) number e each is = of (nat_eq number entry.0) is (λ further. in_scope P rest number e each.1 further)
  where
    of : (test : Bool) → cond test (Some entry.1) (lookup (nat_eq number) rest) ≡ Some e → (lookup (nat_eq number) rest ≡ Some e → P e) → P e
    of true is further = let same : entry.1 ≡ e = cc in subst P same each.0
    of false is further = further is

pub found_is : (P : Entity → Type 0) (scopes : List (Scope Entity)) (number : ℕ) (e : Entity) → EachEntity P scopes → found scopes number ≡ Some e → P e
found_is P [] number e each is = absurd (cc)
found_is P (scope ∷ outer) number e each is = of (lookup (nat_eq number) scope) refl is (λ further. found_is P outer number e each.1 further)
  where
    of : (here : Option Entity) → lookup (nat_eq number) scope ≡ here → unless_found here (found outer number) ≡ Some e → (found outer number ≡ Some e → P e) → P e
    of (Some x) at is further = in_scope P scope number e each.0 (at ∙ is)
    of None at is further = further is

-- a function that is numbered was seen
has_function : (functions : List FunctionInfo) (i : ℕ) → i < length functions → (f : FunctionInfo) × (slice_get functions i ≡ Some f)
has_function [] i below = absurd (omega arith)
has_function (f ∷ fs) zero below = (f, refl)
has_function (f ∷ fs) (suc i) below = has_function fs i (omega arith)

each_function : (P : FunctionInfo → Type 0) (functions : List FunctionInfo) (i : ℕ) (f : FunctionInfo) → Each P functions → slice_get functions i ≡ Some f → P f
each_function P [] i f each e = absurd (cc)
each_function P (g ∷ gs) zero f each e = let same : g ≡ f = cc in subst P same each.0
each_function P (g ∷ gs) (suc i) f each e = each_function P gs i f each.1 e

-- effects make no difference to what is formed
pub formed_with : (structures : List StructInfo) (effects : Option Effects) (f : FnType) → IsFormed structures (a_type.Function f)
    → IsFormed structures (a_type.Function (effects_at effects f))
unfolding IsFormed hidden hidden-the_row-CType-0 shape-the_row-CType-0 hidden-the_row-CType-1 shape-the_row-CType-1
formed_with structures (Some e) f h = h
formed_with structures None f h = h

function_given : (f : FnType) → is_given (a_type.Function f) ≡ true
unfolding hidden hidden-the_row-CType-0 shape-the_row-CType-0 hidden-the_row-CType-1 shape-the_row-CType-1
function_given f = refl

variable_not_arrow : (at : ℕ) (storage : Storage) (t : CType) → is_arrow (object.Variable at storage t) ≡ false
unfolding hidden hidden-the_row-Expr-0 shape-the_row-Expr-0 hidden-the_row-Place-1 shape-the_row-Place-1 hidden-the_row-Expr-2 shape-the_row-Expr-2
variable_not_arrow at storage t = refl

library_callee : (u : Tables) (row : ℕ) → row < length row_types → IsCallee (expr.LibraryFunction row) (IsTyped u (expr.LibraryFunction row))
unfolding hidden hidden-the_row-Expr-0 shape-the_row-Expr-0 hidden-the_row-Place-1 shape-the_row-Place-1 hidden-the_row-Expr-2 shape-the_row-Expr-2
library_callee u row below = below

null_typed : (u : Tables) → IsTyped u expr.Null
unfolding IsTyped
null_typed u = tt

pub typed_as : (called : Bool) (u : Tables) (e : Expr) → IsTyped u e → IsTypedAs called u e
typed_as true u e h = typed.callee_of_typed u e h
typed_as false u e h = h

formed_plain : (structures : List StructInfo) → IsFormed structures Void × IsFormed structures Int
unfolding IsFormed
formed_plain structures = (tt, tt)

named_function : (pre : Tables → Type 0) (s : Seen) (called : Bool) (at number : ℕ) (found : Option FunctionInfo) → slice_get s.functions number ≡ found → Lawful s → number < length s.functions
    → Triple pre IsFound (IsTypedFound called) s (Good (found_value at (kind_at s.whole number found) (expr.Function number (kind_at s.whole number found))) s)
named_function pre s called at number None e lawful below = let there = has_function s.functions number below in absurd (cc)
named_function pre s called at number (Some f) e lawful below =
    let t = a_type.Function (effects_at (slice_get s.whole number) f.kind) in
    let declared = each_function (IsDeclared s.structures) s.functions number f lawful.functions_formed e in
    gives_keeps s (found_value at t (expr.Function number t)) lawful
    (formed_with s.structures (slice_get s.whole number) f.kind declared.formed, (type_of-Function number t, function_given (effects_at (slice_get s.whole number) f.kind)))
    (λ u leads knows p. typed_as called u (expr.Function number t) (typed.typed-Function u number t (leads.named number f e)))

module _ (pre : Tables → Type 0) (s : Seen) (lawful : Lawful s) (at number : ℕ) where
  named_keeps : (called : Bool) (entity : Option Entity) → found s.scopes number ≡ entity → Triple pre IsFound (IsTypedFound called) s (named called at entity s)
  unfolding and_then function_type
  named_keeps called None is = fails_keeps s 1 at
  named_keeps called (Some (Variable t storage n)) is =
      let entity = found_is (IsLawfulEntity s.structures (length s.functions)) s.scopes number (Variable t storage n) lawful.entities is in
      gives_keeps s (found_object at t (object.Variable at storage t)) lawful (entity.0, (place_type-Variable at storage t, entity.1, variable_not_arrow at storage t))
      (λ u leads knows p. typed.typed-Variable u at storage t (found_is (IsKnownEntity u) s.scopes number (Variable t storage n) knows is))
  named_keeps called (Some (Function n)) is =
      named_function pre s called at n (slice_get s.functions n) refl lawful
      (found_is (IsLawfulEntity s.structures (length s.functions)) s.scopes number (Function n) lawful.entities is)
  named_keeps called (Some (TypeName t)) is = fails_keeps s 1 at
  named_keeps called (Some (Enumerator bits)) is =
      gives_keeps s (found_value at Int (expr.Number Signed bits)) lawful ((formed_plain s.structures).1, (type_of-Number Signed bits, refl)) (λ u leads knows p.
      typed_as called u (expr.Number Signed bits) (typed.typed-Number u Signed bits (found_is (IsKnownEntity u) s.scopes number (Enumerator bits) knows is)))
  named_keeps true (Some (Library row)) is =
      gives_keeps s (found_value at Void (expr.LibraryFunction row)) lawful ((formed_plain s.structures).0, (type_of-LibraryFunction row, refl)) (λ u leads knows p.
      library_callee u row (found_is (IsLawfulEntity s.structures (length s.functions)) s.scopes number (Library row) lawful.entities is))
  named_keeps false (Some (Library row)) is = fails_keeps s 11 at
  named_keeps called (Some NullPointer) is =
      gives_keeps s (found_value at (pointer_to Void) expr.Null) lawful (formed_pointer s.structures Void (formed_plain s.structures).0, (type_of-Null, refl)) (λ u leads knows p.
      typed_as called u expr.Null (null_typed u))
  named_keeps called (Some MutexInitializer) is = fails_keeps s 9 at

pub name_keeps : (called : Bool) (at : Span) → Keeps Always IsFound (IsTypedFound called) (name called at)
unfolding name name_number and_then
name_keeps called at s lawful = moved (named called at.start (found s.scopes number) noted) (named_keeps Always noted lawful at.start number called (found s.scopes number) refl)
  where
    number : ℕ
    number = number_of s.names (text_of s.source at)

    noted : Seen
    noted = record s { names = noted_names s.names (text_of s.source at) }

    moved : (r : Read Found) → Triple Always IsFound (IsTypedFound called) noted r → Triple Always IsFound (IsTypedFound called) s r
    moved (Bad n p) h = record { holds = tt }
    moved (Good f t) h = record {
      holds = record {
        lawful = h.holds.lawful;
        stay = h.holds.stay;
        known = h.holds.known;
        outer = h.holds.outer;
        back = h.holds.back;
        begun = h.holds.begun;
        calm = h.holds.calm;
        here = h.holds.here;
        old = h.holds.old;
        tables = h.holds.tables;
      };
    }
