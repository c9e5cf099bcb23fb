-- The signatures of a unit that was read: few scalars as parameters, and a scalar or nothing as the result.
use Rattle.std.proofs.Common.{◌≡◌, ℕ, ◌≤◌, Bool, true, false, refl, subst, sym, List, length, slice_get, Option, Some, None, All}
use Rattle.std.specs.Prelude.{◌||◌}
use Rattle.eff_types.specs.Types.{is_void}
use Rattle.eff_types.specs.declared.types.CType.{CType, Function', Row_of-CType, end_of-CType, more_of-CType, items-the_row-CType}
use Rattle.eff_types.specs.declared.types.CType.TheVariants as a_type
use Rattle.eff_types.specs.declared.types.FnType.{FnType}
use Rattle.core_unit.specs.Shapes.{is_scalar, function_in}
use Rattle.core_unit.specs.Structures.{IsWithin}
use Rattle.core_unit.specs.Units.{IsParameter}
use Rattle.core_unit.proofs.Callees.{function_in-Function}
use Rattle.core_unit.specs.declared.tables.FunctionInfo.{FunctionInfo}
use Rattle.core_unit.specs.declared.tables.StructInfo.{StructInfo}
use Rattle.type_rules.specs.Seen.{Seen}
use Rattle.type_laws.proofs.Each.{Each, each_get}
use Rattle.type_laws.proofs.Filling.{all_of_each}
use Rattle.type_laws.proofs.Formed.{IsFormed, AreFormed, within_of_formed}
use Rattle.type_laws.proofs.Triples.{IsDeclared, Lawful}
use Rattle.type_laws.proofs.Whole.{IsWithinLimits, in_whole, same_params, same_result}

-- what a function type says, where it is formed
pub record IsSignature (structures : List StructInfo) (f : FnType) : Type 0 where
  pub params : Each (IsParameter structures) f.params
  pub result : is_scalar f.result || is_void f.result ≡ true
  pub within : IsWithin (length structures) f.result

abbrev SignatureIn : List StructInfo → Option FnType → Type 0
SignatureIn structures (Some f) = IsSignature structures f
SignatureIn structures None = Unit {0}

row_parameters : {n : _} (structures : List StructInfo) (ts : Row_of-CType n) → AreFormed structures ts → Each (IsParameter structures) (items-the_row-CType n ts)
unfolding IsFormed
row_parameters structures end_of-CType f = tt
row_parameters structures (more_of-CType t ts) f = (record { scalar = f.1; within = within_of_formed structures t f.0 }, row_parameters structures ts f.2)

either_way : (a b : Bool) → a || b ≡ true → b || a ≡ true
either_way true true e = refl
either_way true false e = refl
either_way false true e = refl
either_way false false e = e

signature_in : (structures : List StructInfo) (t : CType) → IsFormed structures t → SignatureIn structures (function_in t)
unfolding IsFormed
signature_in structures (Function' _ (more_of-CType r end_of-CType) _ ps effects) f = record {
  params = row_parameters structures ps f.2;
  result = either_way (is_void r) (is_scalar r) f.1;
  within = within_of_formed structures r f.0;
}
signature_in structures t f = tt

pub signature_of : (structures : List StructInfo) (f : FnType) → IsFormed structures (a_type.Function f) → IsSignature structures f
signature_of structures f formed = subst (SignatureIn structures) (function_in-Function f) (signature_in structures (a_type.Function f) formed)

-- of each function of the unit
pub record HasSignature (structures : List StructInfo) (f : FunctionInfo) : Type 0 where
  pub few : length f.kind.params ≤ 16
  pub params : All (IsParameter structures) f.kind.params
  pub result : is_scalar f.kind.result || is_void f.kind.result ≡ true
  pub within : IsWithin (length structures) f.kind.result

pub signatures_hold : (s : Seen) → Lawful s → IsWithinLimits s → (i : ℕ) (f : FunctionInfo) → slice_get s.functions i ≡ Some f → HasSignature s.structures (in_whole s.whole i f)
signatures_hold s lawful limits i f there =
    let h = signature_of s.structures f.kind (each_get (IsDeclared s.structures) s.functions i f lawful.functions_formed there).formed in
    let params = same_params (slice_get s.whole i) f.kind in
    let result = same_result (slice_get s.whole i) f.kind in
    record {
      few = subst (λ (ts : List CType). length ts ≤ 16) (sym params) (limits.parameters i f there);
      params = subst (λ ts. All (IsParameter s.structures) ts) (sym params) (all_of_each (IsParameter s.structures) f.kind.params h.params);
      result = subst (λ r. is_scalar r || is_void r ≡ true) (sym result) h.result;
      within = subst (IsWithin (length s.structures)) (sym result) h.within;
    }
