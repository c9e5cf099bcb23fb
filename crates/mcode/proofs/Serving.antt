-- What a word for a function tells that serves a load: the function is defined, its result and its parameters are those of the type, and the level
-- of the word is at least that of the type.
use Rattle.std.proofs.Common.{◌≡◌, refl, sym, ap₂, ◌∙◌, ℕ, Bool, true, false, not, ◌&&◌, List, [], ◌∷◌, Option, Some, None, slice_get}
use Rattle.eff_types.proofs.Outside.{is_equal-likeness}
use Rattle.eff_types.proofs.Sameness.{same-is}
use Rattle.eff_types.specs.Comparison.{is_equal, less_alike, likeness_of, each_likeness, signature_likeness_of}
use Rattle.eff_types.specs.Effects.{is_below}
use Rattle.eff_types.specs.Types.{is_function_pointer}
use Rattle.eff_types.specs.declared.comparison.Likeness.{Likeness}
use Rattle.eff_types.specs.declared.comparison.Likeness.TheVariants.{Different, EffectsDiffer, Equal}
use Rattle.eff_types.specs.declared.levels.Level.{Level}
use Rattle.eff_types.specs.declared.types.CType.{CType}
use Rattle.eff_types.specs.declared.types.FnType.{FnType}
use Rattle.core_unit.specs.Shapes.{callee_of, level_in}
use Rattle.core_unit.specs.declared.body.Body.{Body}
use Rattle.core_unit.specs.declared.tables.FunctionInfo.{FunctionInfo}
use Rattle.core_unit.specs.declared.tables.UnitParts.{UnitParts}
use Rattle.core_unit.specs.declared.words.Word.TheVariants.{FunctionPointer}
use Rattle.mcode.specs.Words.{is_defined, is_same_signature, serves_function, serves}

both : (a b : Bool) → (a && b) ≡ true → (a ≡ true) × (b ≡ true)
both true b h = (refl, h)
both false b h = let clash : ⊥ = cc in absurd clash

both_equal : (a b : Likeness) → is_equal (less_alike a b) ≡ true → (is_equal a ≡ true) × (is_equal b ≡ true)
both_equal Equal b h = (refl, h)
both_equal Different b h = let clash : ⊥ = cc in absurd clash
both_equal EffectsDiffer Different h = let clash : ⊥ = cc in absurd clash
both_equal EffectsDiffer EffectsDiffer h = let clash : ⊥ = cc in absurd clash
both_equal EffectsDiffer Equal h = let clash : ⊥ = cc in absurd clash

type_equal : (t u : CType) → is_equal (likeness_of t u) ≡ true → t ≡ u
type_equal t u h = (same-is t u).0 (sym (is_equal-likeness t u) ∙ h)

types_equal : (ts us : List CType) → is_equal (each_likeness ts us) ≡ true → ts ≡ us
unfolding each_likeness
types_equal [] [] h = refl
types_equal (t ∷ ts) (u ∷ us) h =
    let parts = both_equal (likeness_of t u) (each_likeness ts us) h in
    ap₂ (λ x xs. x ∷ xs) (type_equal t u parts.0) (types_equal ts us parts.1)
types_equal [] (u ∷ us) h = let clash : ⊥ = cc in absurd clash
types_equal (t ∷ ts) [] h = let clash : ⊥ = cc in absurd clash

-- Function types that are equal but for their own effects have one result and the same parameters.
pub signature_equal : (f g : FnType) → is_equal (signature_likeness_of f g) ≡ true → (f.result ≡ g.result) × (f.params ≡ g.params)
unfolding signature_likeness_of
signature_equal f g h =
    let parts = both_equal (likeness_of f.result g.result) (each_likeness f.params g.params) h in
    (type_equal f.result g.result parts.0, types_equal f.params g.params parts.1)

pub record CanServe (u : UnitParts) (function : ℕ) (level : Level) (t : CType) : Type 0 where
  pub info : FunctionInfo
  pub body : Body
  pub signature : FnType
  pub known : slice_get u.functions function ≡ Some info
  pub defined : info.body ≡ Some body
  pub callee : callee_of t ≡ Some signature
  pub result : info.kind.result ≡ signature.result
  pub params : info.kind.params ≡ signature.params
  pub least : is_below level signature.effects.level ≡ false

false_of_not : (b : Bool) → not b ≡ true → b ≡ false
false_of_not false h = refl
false_of_not true h = let clash : ⊥ = cc in absurd clash

can_serve : (u : UnitParts) (function : ℕ) (level : Level) (t : CType) (info : FunctionInfo) → slice_get u.functions function ≡ Some info →
    (body : Option Body) → info.body ≡ body → is_defined body ≡ true →
    (callee : Option FnType) → callee_of t ≡ callee → is_same_signature info.kind callee ≡ true → is_below level (level_in callee) ≡ false → CanServe u function level t
can_serve u function level t info known (Some body) defined some (Some signature) called alike least =
    let equal = signature_equal info.kind signature alike in
    record {
      info = info;
      body = body;
      signature = signature;
      known = known;
      defined = defined;
      callee = called;
      result = equal.0;
      params = equal.1;
      least = least;
    }
can_serve u function level t info known None defined some callee called alike least = let clash : ⊥ = cc in absurd clash
can_serve u function level t info known (Some body) defined some None called alike least = let clash : ⊥ = cc in absurd clash

served_by : (u : UnitParts) (function : ℕ) (level : Level) (t : CType) (found : Option FunctionInfo) → slice_get u.functions function ≡ found → serves_function found level t ≡ true → CanServe u function level t
served_by u function level t None known h = let clash : ⊥ = cc in absurd clash
served_by u function level t (Some info) known h =
    let pointer = is_function_pointer t in
    let alike = is_same_signature info.kind (callee_of t) in
    let below = is_below level (level_in (callee_of t)) in
    let last = both ((pointer && is_defined info.body) && alike) (not below) h in
    let middle = both (pointer && is_defined info.body) alike last.0 in
    let first = both pointer (is_defined info.body) middle.0 in
    can_serve u function level t info known info.body refl first.1 (callee_of t) refl middle.1 (false_of_not below last.1)

pub function_serves : (u : UnitParts) (function : ℕ) (level : Level) (t : CType) → serves u t (FunctionPointer function level) ≡ true → CanServe u function level t
function_serves u function level t h = served_by u function level t (slice_get u.functions function) refl h
