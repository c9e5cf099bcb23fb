-- Whether the calls of a unit are of the form.
use Rattle.std.proofs.Common.{◌≡◌, ℕ, Bool, IsTrue, ◌↔◌, List, Some, sym, subst}
use Rattle.std.specs.Prelude.{IsSomeAnd, slice_get}
use Rattle.built_unit.specs.declared.units.FunctionInfo.{FunctionInfo}
use Rattle.built_unit.specs.declared.units.SiteInfo.{SiteInfo}
use Rattle.built_form.specs.Built.{MayCall, IsCallBuilt}

-- the caller and the callee are those of these numbers, and no others
pub call_built : (functions : List FunctionInfo) (site : SiteInfo) (number : ℕ) (caller callee : FunctionInfo) (result : Bool)
    → site.direct ≡ Some number → slice_get functions site.function ≡ Some caller → slice_get functions number ≡ Some callee
    → (IsTrue result ↔ MayCall caller callee) → IsTrue result ↔ IsCallBuilt functions site
call_built functions site number caller callee result direct from to decides = (
  λ t. record {
    may = λ a b e f.
        let g : slice_get functions number ≡ Some b = subst (λ d. IsSomeAnd d (λ n. slice_get functions n ≡ Some b)) direct f in
        let p : caller ≡ a = cc in
        let q : callee ≡ b = cc in
        subst (λ x. MayCall x b) p (subst (λ x. MayCall caller x) q (decides.0 t));
  },
  λ h. decides.1 (h.may caller callee from (subst (λ d. IsSomeAnd d (λ n. slice_get functions n ≡ Some callee)) (sym direct) to)),
)
