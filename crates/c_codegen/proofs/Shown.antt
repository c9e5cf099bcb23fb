-- What the code asks of types tells what the definitions do.
use Rattle.std.proofs.Common.{◌≡◌, refl, sym, ap, ◌∙◌, ℕ, zero, suc, ◌+◌, ◌≤◌, Bool, true, false, List, [], ◌∷◌, length, drop, Option, Some, None, if◌then◌else◌, arith, slice_get}
use Rattle.std.proofs.lemmas.List.{drop_all}
use Rattle.eff_types.proofs.Outside.{is_equal-signature, same_outside-Function}
use Rattle.eff_types.specs.Types.{is_number, is_pointer, points_to, same_outside}
use Rattle.eff_types.specs.declared.levels.Level.TheVariants.{Plain}
use Rattle.eff_types.specs.declared.types.CType.{CType, Void, Char, Int, Unsigned, Mutex, Struct, Pointer', Array', Function', end_of-CType, more_of-CType}
use Rattle.eff_types.specs.declared.types.FnType.{FnType}
use Rattle.core_unit.specs.Shapes.{callee_of, level_of, is_aggregate}
use Rattle.core_unit.specs.declared.tables.FunctionInfo.{FunctionInfo}
use Rattle.core_unit.specs.declared.tables.UnitParts.{UnitParts}
use Rattle.mcode.specs.declared.code.Served.{Served}
use Rattle.mcode.specs.declared.code.Served.TheVariants.{Number, DataPointer, FunctionPointer, Nothing}
use Rattle.eff_types.specs.declared.types.CType.TheVariants.{Function}
use Rattle.mcode.specs.Words.{is_same_signature}
use Rattle.c_codegen.specs.Entries.{first_of_signature, signature_number, served}

-- by the kind of the type, and by the function type that it points to
abbrev pub served_by : UnitParts → CType → Option FnType → Served
served_by u t (Some f) = FunctionPointer (signature_number u (Some f)) (level_of t)
served_by u t None = DataPointer

pub served_is : (u : UnitParts) (t : CType) → served u t ≡ (if is_number t then Number else if is_pointer t then served_by u t (callee_of t) else Nothing)
unfolding points_to callee_of
served_is u Void = refl
served_is u Char = refl
served_is u Int = refl
served_is u Unsigned = refl
served_is u Mutex = refl
served_is u (Struct k) = refl
served_is u (Array' s t n) = refl
served_is u (Function' s r m ps e) = refl
served_is u (Pointer' s (more_of-CType (Function' _ (more_of-CType r end_of-CType) _ ps e) end_of-CType)) = refl
served_is u (Pointer' s (more_of-CType Void end_of-CType)) = refl
served_is u (Pointer' s (more_of-CType Char end_of-CType)) = refl
served_is u (Pointer' s (more_of-CType Int end_of-CType)) = refl
served_is u (Pointer' s (more_of-CType Unsigned end_of-CType)) = refl
served_is u (Pointer' s (more_of-CType Mutex end_of-CType)) = refl
served_is u (Pointer' s (more_of-CType (Struct k) end_of-CType)) = refl
served_is u (Pointer' s (more_of-CType (Array' _ t n) end_of-CType)) = refl
served_is u (Pointer' s (more_of-CType (Pointer' _ t) end_of-CType)) = refl

pub aggregate_served : (u : UnitParts) (t : CType) → is_aggregate t ≡ true → Nothing ≡ served u t
unfolding points_to
aggregate_served u (Struct k) h = refl
aggregate_served u (Array' s t n) h = refl
aggregate_served u Void h = let clash : ⊥ = cc in absurd clash
aggregate_served u Char h = let clash : ⊥ = cc in absurd clash
aggregate_served u Int h = let clash : ⊥ = cc in absurd clash
aggregate_served u Unsigned h = let clash : ⊥ = cc in absurd clash
aggregate_served u Mutex h = let clash : ⊥ = cc in absurd clash
aggregate_served u (Pointer' s t) h = let clash : ⊥ = cc in absurd clash
aggregate_served u (Function' s r m ps e) h = let clash : ⊥ = cc in absurd clash

pub aggregate_level : (t : CType) → is_aggregate t ≡ true → Plain ≡ level_of t
unfolding callee_of
aggregate_level (Struct k) h = refl
aggregate_level (Array' s t n) h = refl
aggregate_level Void h = let clash : ⊥ = cc in absurd clash
aggregate_level Char h = let clash : ⊥ = cc in absurd clash
aggregate_level Int h = let clash : ⊥ = cc in absurd clash
aggregate_level Unsigned h = let clash : ⊥ = cc in absurd clash
aggregate_level Mutex h = let clash : ⊥ = cc in absurd clash
aggregate_level (Pointer' s t) h = let clash : ⊥ = cc in absurd clash
aggregate_level (Function' s r m ps e) h = let clash : ⊥ = cc in absurd clash

-- The number of a type, function by function.
number_at : (fs : List FunctionInfo) (id base : ℕ) (f : FunctionInfo) (t : Option FnType) → slice_get fs id ≡ Some f →
    first_of_signature base (drop id fs) t ≡ (if is_same_signature f.kind t then base else first_of_signature (suc base) (drop (id + 1) fs) t)
number_at [] id base f t known = let clash : ⊥ = cc in absurd clash
number_at (x ∷ fs) zero base f t known =
    let same : x ≡ f = cc in ap (λ (y : FunctionInfo). if is_same_signature y.kind t then base else first_of_signature (suc base) fs t) same
number_at (x ∷ fs) (suc id) base f t known =
    let next : suc id + 1 ≡ suc (id + 1) = omega arith in
    number_at fs id base f t known ∙ ap (λ n. if is_same_signature f.kind t then base else first_of_signature (suc base) (drop n (x ∷ fs)) t) (sym next)

alike_test : (f g : FnType) → is_same_signature f (Some g) ≡ same_outside (Function f) (Function g)
alike_test f g = is_equal-signature f g ∙ sym (same_outside-Function f g)

pub number_found : (fs : List FunctionInfo) (id : ℕ) (f : FunctionInfo) (s : FnType) (b : Bool) → slice_get fs id ≡ Some f → b ≡ same_outside (Function f.kind) (Function s) → b ≡ true →
    first_of_signature 0 fs (Some s) ≡ first_of_signature id (drop id fs) (Some s) → id ≡ first_of_signature 0 fs (Some s)
number_found fs id f s b known test holds so_far =
    let same : is_same_signature f.kind (Some s) ≡ true = alike_test f.kind s ∙ sym test ∙ holds in
    sym (so_far ∙ number_at fs id id f (Some s) known ∙ ap (λ b. if b then id else first_of_signature (suc id) (drop (id + 1) fs) (Some s)) same)

pub number_next : (fs : List FunctionInfo) (id : ℕ) (f : FunctionInfo) (s : FnType) (b : Bool) → slice_get fs id ≡ Some f → b ≡ same_outside (Function f.kind) (Function s) → b ≡ false →
    first_of_signature 0 fs (Some s) ≡ first_of_signature id (drop id fs) (Some s) → first_of_signature 0 fs (Some s) ≡ first_of_signature (id + 1) (drop (id + 1) fs) (Some s)
number_next fs id f s b known test not_it so_far =
    let same : is_same_signature f.kind (Some s) ≡ false = alike_test f.kind s ∙ sym test ∙ not_it in
    let next : suc id ≡ id + 1 = omega arith in
    so_far ∙ number_at fs id id f (Some s) known ∙ ap (λ b. if b then id else first_of_signature (suc id) (drop (id + 1) fs) (Some s)) same
    ∙ ap (λ n. first_of_signature n (drop (id + 1) fs) (Some s)) next

pub number_last : (fs : List FunctionInfo) (id : ℕ) (s : FnType) → length fs ≤ id → id ≤ length fs →
    first_of_signature 0 fs (Some s) ≡ first_of_signature id (drop id fs) (Some s) → length fs ≡ first_of_signature 0 fs (Some s)
number_last fs id s low high so_far =
    let same : id ≡ length fs = omega (arith, low, high) in
    sym (so_far ∙ ap (λ l. first_of_signature id l (Some s)) (drop_all id fs low) ∙ same)
