-- The words that serve a load in compiled code are those that its type is served by.
use Rattle.std.proofs.Common.{◌≡◌, refl, sym, ap, ap₂, ◌∙◌, ℕ, zero, suc, ◌+◌, ◌<◌, ◌≤◌, Bool, true, false, not, ◌&&◌, List, [], ◌∷◌, length, Option, Some, None, nat_eq, arith, if◌then◌else◌, slice_get}
use Rattle.std.proofs.lemmas.Bool.Decides.{nat_tests}
use Rattle.eff_types.proofs.Outside.{is_equal-likeness}
use Rattle.eff_types.proofs.Sameness.{same-refl}
use Rattle.eff_types.specs.Comparison.{is_equal, less_alike, likeness_of, each_likeness, signature_likeness_of}
use Rattle.eff_types.specs.Effects.{is_below}
use Rattle.eff_types.specs.Types.{points_to, is_number, is_function, is_data_pointer, is_function_pointer}
use Rattle.eff_types.specs.declared.comparison.Likeness.{Likeness}
use Rattle.eff_types.specs.declared.comparison.Likeness.TheVariants.{Different, EffectsDiffer, Equal}
use Rattle.eff_types.specs.declared.levels.Level.{Level}
use Rattle.eff_types.specs.declared.types.CType.{CType, Void, Char, Int, Unsigned, Mutex, Struct, Pointer', Array', Function', end_of-CType, more_of-CType}
use Rattle.eff_types.specs.declared.types.FnType.{FnType}
use Rattle.core_unit.specs.Shapes.{callee_of, level_of}
use Rattle.core_unit.specs.declared.body.Body.{Body}
use Rattle.core_unit.specs.declared.tables.FunctionInfo.{FunctionInfo}
use Rattle.core_unit.specs.declared.tables.UnitParts.{UnitParts}
use Rattle.core_unit.specs.declared.words.Word.TheVariants as word
use Rattle.mcode.proofs.Serving.{signature_equal}
use Rattle.mcode.specs.Machine as machine
use Rattle.mcode.specs.Machine.{Program, entry_of, serves_at}
use Rattle.mcode.specs.Words.{is_defined, is_same_signature, serves_function}
use Rattle.mcode.specs.declared.code.Entry.{Entry}
use Rattle.mcode.specs.declared.code.Served.TheVariants.{Number, DataPointer, FunctionPointer, Nothing}
use Rattle.c_codegen.specs.Entries.{first_of_signature, signature_number, served, StandsFor}
use Rattle.c_codegen.specs.Compiled.{KnowsBody, Knows, Compiled}

equal_self : (l : Likeness) → is_equal l ≡ true → l ≡ Equal
equal_self Equal h = refl
equal_self Different h = let clash : ⊥ = cc in absurd clash
equal_self EffectsDiffer h = let clash : ⊥ = cc in absurd clash

type_self : (t : CType) → likeness_of t t ≡ Equal
type_self t = equal_self (likeness_of t t) (is_equal-likeness t t ∙ same-refl t)

types_self : (ts : List CType) → each_likeness ts ts ≡ Equal
unfolding each_likeness
types_self [] = refl
types_self (t ∷ ts) = ap₂ less_alike (type_self t) (types_self ts)

signature_self : (f : FnType) → is_equal (signature_likeness_of f f) ≡ true
unfolding signature_likeness_of
signature_self f = ap is_equal (ap₂ less_alike (type_self f.result) (types_self f.params))

-- function types of one result and the same parameters are alike for each other one
alike_moves : (f g h : FnType) → f.result ≡ g.result → f.params ≡ g.params → signature_likeness_of h f ≡ signature_likeness_of h g
unfolding signature_likeness_of
alike_moves f g h r p = ap₂ less_alike (ap (likeness_of h.result) r) (ap (each_likeness h.params) p)

first_moves : (f g : FnType) → f.result ≡ g.result → f.params ≡ g.params → (from : ℕ) (fs : List FunctionInfo) → first_of_signature from fs (Some f) ≡ first_of_signature from fs (Some g)
first_moves f g r p from [] = refl
first_moves f g r p from (h ∷ fs) =
    ap₂ (λ b n. if b then from else n) (ap is_equal (alike_moves f g h.kind r p)) (first_moves f g r p (suc from) fs)

pick_low : (b : Bool) (from n m : ℕ) → n < suc from + m → (if b then from else n) < from + suc m
pick_low true from n m low = omega arith
pick_low false from n m low = omega (arith, low)

pick_high : (b : Bool) (from n : ℕ) → suc from ≤ n → from ≤ (if b then from else n)
pick_high true from n low = omega arith
pick_high false from n low = omega (arith, low)

first_here : (b : Bool) (from n m : ℕ) → b ≡ true → (if b then from else n) < from + suc m
first_here true from n m e = omega arith
first_here false from n m e = let clash : ⊥ = cc in absurd clash

-- one that some function has is found
found : (f : FnType) (fs : List FunctionInfo) (from at : ℕ) (info : FunctionInfo) → slice_get fs at ≡ Some info → is_same_signature info.kind (Some f) ≡ true →
    first_of_signature from fs (Some f) < from + length fs
found f [] from at info known alike = let clash : ⊥ = cc in absurd clash
found f (h ∷ fs) from zero info known alike =
    let same : h ≡ info = cc in
    let here : is_same_signature h.kind (Some f) ≡ true = ap (λ (x : FunctionInfo). is_same_signature x.kind (Some f)) same ∙ alike in
    first_here (is_same_signature h.kind (Some f)) from (first_of_signature (suc from) fs (Some f)) (length fs) here
found f (h ∷ fs) from (suc at) info known alike =
    pick_low (is_same_signature h.kind (Some f)) from (first_of_signature (suc from) fs (Some f)) (length fs) (found f fs (suc from) at info known alike)

above : (t : Option FnType) (fs : List FunctionInfo) (from : ℕ) → from ≤ first_of_signature from fs t
above t [] from = omega arith
above t (h ∷ fs) from = pick_high (is_same_signature h.kind t) from (first_of_signature (suc from) fs t) (above t fs (suc from))

alike_by : (f g : FnType) (h : FunctionInfo) (fs : List FunctionInfo) (from : ℕ) →
    (first_of_signature (suc from) fs (Some f) ≡ first_of_signature (suc from) fs (Some g) → first_of_signature (suc from) fs (Some f) < suc from + length fs → is_equal (signature_likeness_of f g) ≡ true) →
    (a b : Bool) → is_same_signature h.kind (Some f) ≡ a → is_same_signature h.kind (Some g) ≡ b →
    (if a then from else first_of_signature (suc from) fs (Some f)) ≡ (if b then from else first_of_signature (suc from) fs (Some g)) →
    (if a then from else first_of_signature (suc from) fs (Some f)) < from + suc (length fs) → is_equal (signature_likeness_of f g) ≡ true
alike_by f g h fs from more true true p q same low =
    let of_f = signature_equal h.kind f p in
    let of_g = signature_equal h.kind g q in
    ap is_equal (sym (alike_moves f g f (sym of_f.0 ∙ of_g.0) (sym of_f.1 ∙ of_g.1))) ∙ signature_self f
alike_by f g h fs from more true false p q same low = let past = above (Some g) fs (suc from) in absurd (omega (arith, past, same))
alike_by f g h fs from more false true p q same low = let past = above (Some f) fs (suc from) in absurd (omega (arith, past, same))
alike_by f g h fs from more false false p q same low = more same (omega (arith, low))

-- types of one number, which some function has, are alike
alike : (f g : FnType) (fs : List FunctionInfo) (from : ℕ) → first_of_signature from fs (Some f) ≡ first_of_signature from fs (Some g) →
    first_of_signature from fs (Some f) < from + length fs → is_equal (signature_likeness_of f g) ≡ true
alike f g [] from same low = absurd (omega (arith, low))
alike f g (h ∷ fs) from same low =
    alike_by f g h fs from (alike f g fs (suc from)) (is_same_signature h.kind (Some f)) (is_same_signature h.kind (Some g)) refl refl same low

numbers_none : (fs : List FunctionInfo) (from : ℕ) → first_of_signature from fs None ≡ from + length fs
numbers_none [] from = omega arith
numbers_none (h ∷ fs) from = omega (arith, numbers_none fs (suc from))

-- The number of a function's type is that of another type exactly where they are alike.
number_tells : (u : UnitParts) (function : ℕ) (info : FunctionInfo) (t : Option FnType) → slice_get u.functions function ≡ Some info →
    nat_eq (signature_number u (Some info.kind)) (signature_number u t) ≡ is_same_signature info.kind t
unfolding signature_number
number_tells u function info (Some g) known = by (is_same_signature info.kind (Some g)) refl
  where
    low : first_of_signature 0 u.functions (Some info.kind) < 0 + length u.functions
    low = found info.kind u.functions 0 function info known (signature_self info.kind)

    by : (b : Bool) → is_same_signature info.kind (Some g) ≡ b → nat_eq (first_of_signature 0 u.functions (Some info.kind)) (first_of_signature 0 u.functions (Some g)) ≡ b
    by true e =
        let equal = signature_equal info.kind g e in
        let same : first_of_signature 0 u.functions (Some info.kind) ≡ first_of_signature 0 u.functions (Some g) = first_moves info.kind g equal.0 equal.1 0 u.functions in
        grind (arith, nat_tests)
    by false e = apart (nat_eq (first_of_signature 0 u.functions (Some info.kind)) (first_of_signature 0 u.functions (Some g))) refl
      where
        apart : (c : Bool) → nat_eq (first_of_signature 0 u.functions (Some info.kind)) (first_of_signature 0 u.functions (Some g)) ≡ c → c ≡ false
        apart false q = refl
        apart true q =
            let same : first_of_signature 0 u.functions (Some info.kind) ≡ first_of_signature 0 u.functions (Some g) = grind (arith, nat_tests) in
            let clash : true ≡ false = sym (alike info.kind g u.functions 0 same low) ∙ e in
            let none : ⊥ = cc in absurd none
number_tells u function info None known =
    let low = found info.kind u.functions 0 function info known (signature_self info.kind) in
    let past = numbers_none u.functions 0 in
    grind (arith, nat_tests)

function_stands : (u : UnitParts) (c : Program) (function : ℕ) (info : Option FunctionInfo) (entry : Option Entry) (level : Level) (t : CType) → is_function_pointer t ≡ true →
    slice_get u.functions function ≡ info → Knows u c function info entry →
    machine.serves_function entry level (FunctionPointer (signature_number u (callee_of t)) (level_of t)) ≡ serves_function info level t
function_stands u c function None entry level t pointer known k = rw k refl
function_stands u c function (Some info) entry level t pointer known k = by info.body refl k
  where
    by : (body : Option Body) → info.body ≡ body → KnowsBody u c function info body entry →
        machine.serves_function entry level (FunctionPointer (signature_number u (callee_of t)) (level_of t))
        ≡ (is_function_pointer t && is_defined info.body && is_same_signature info.kind (callee_of t) && not (is_below level (level_of t)))
    by None e k = rw (k, e, pointer) refl
    by (Some body) e k = rw (k.known, e, pointer) (ap (λ b. b && not (is_below level (level_of t))) (number_tells u function info (callee_of t) known))

serves_no_function : (entry : Option Entry) (level : Level) → machine.serves_function entry level Number ≡ false
serves_no_function None level = refl
serves_no_function (Some entry) level = refl

serves_no_function_either : (entry : Option Entry) (level : Level) → machine.serves_function entry level DataPointer ≡ false
serves_no_function_either None level = refl
serves_no_function_either (Some entry) level = refl

serves_nothing : (entry : Option Entry) (level : Level) → machine.serves_function entry level Nothing ≡ false
serves_nothing None level = refl
serves_nothing (Some entry) level = refl

not_served : (info : Option FunctionInfo) (level : Level) (t : CType) → is_function_pointer t ≡ false → serves_function info level t ≡ false
not_served None level t e = refl
not_served (Some info) level t e =
    rw e refl

module _ (u : UnitParts) (c : Program) (compiled : Compiled u c) where
  number_stands : (t : CType) → is_number t ≡ true → is_data_pointer t ≡ false → is_function_pointer t ≡ false → StandsFor u c Number t
  number_stands t n d f word.Zero = refl
  number_stands t n d f (word.Number bits) = sym n
  number_stands t n d f (word.DataPointer at) = sym d
  number_stands t n d f (word.FunctionPointer function level) =
      serves_no_function (entry_of c function) level ∙ sym (not_served (slice_get u.functions function) level t f)
  number_stands t n d f word.Undefined = refl
  number_stands t n d f (word.Mutex thread) = refl
  number_stands t n d f (word.Live count) = refl
  number_stands t n d f (word.Freed count) = refl

  nothing_stands : (t : CType) → is_number t ≡ false → is_data_pointer t ≡ false → is_function_pointer t ≡ false → StandsFor u c Nothing t
  nothing_stands t n d f word.Zero = refl
  nothing_stands t n d f (word.Number bits) = sym n
  nothing_stands t n d f (word.DataPointer at) = sym d
  nothing_stands t n d f (word.FunctionPointer function level) =
      serves_nothing (entry_of c function) level ∙ sym (not_served (slice_get u.functions function) level t f)
  nothing_stands t n d f word.Undefined = refl
  nothing_stands t n d f (word.Mutex thread) = refl
  nothing_stands t n d f (word.Live count) = refl
  nothing_stands t n d f (word.Freed count) = refl

  data_stands : (t : CType) → is_number t ≡ false → is_data_pointer t ≡ true → is_function_pointer t ≡ false → StandsFor u c DataPointer t
  data_stands t n d f word.Zero = refl
  data_stands t n d f (word.Number bits) = sym n
  data_stands t n d f (word.DataPointer at) = sym d
  data_stands t n d f (word.FunctionPointer function level) =
      serves_no_function_either (entry_of c function) level ∙ sym (not_served (slice_get u.functions function) level t f)
  data_stands t n d f word.Undefined = refl
  data_stands t n d f (word.Mutex thread) = refl
  data_stands t n d f (word.Live count) = refl
  data_stands t n d f (word.Freed count) = refl

  functions_stand : (t : CType) → is_number t ≡ false → is_data_pointer t ≡ false → is_function_pointer t ≡ true →
      StandsFor u c (FunctionPointer (signature_number u (callee_of t)) (level_of t)) t
  functions_stand t n d f word.Zero = refl
  functions_stand t n d f (word.Number bits) = sym n
  functions_stand t n d f (word.DataPointer at) = sym d
  functions_stand t n d f (word.FunctionPointer function level) =
      function_stands u c function (slice_get u.functions function) (entry_of c function) level t f refl (compiled.functions function)
  functions_stand t n d f word.Undefined = refl
  functions_stand t n d f (word.Mutex thread) = refl
  functions_stand t n d f (word.Live count) = refl
  functions_stand t n d f (word.Freed count) = refl

  pointer_stands : (t : CType) (b : Bool) → is_number t ≡ false → is_data_pointer t ≡ not b → is_function_pointer t ≡ b → StandsFor u c (served u t) t
  pointer_stands t false n d f = rw (n, d) (data_stands t n d f)
  pointer_stands t true n d f = rw (n, d, f) (functions_stand t n d f)

  -- Each load is served as its type is.
  pub stands_for : (t : CType) → StandsFor u c (served u t) t
  unfolding points_to
  stands_for Void = nothing_stands Void refl refl refl
  stands_for Char = number_stands Char refl refl refl
  stands_for Int = number_stands Int refl refl refl
  stands_for Unsigned = number_stands Unsigned refl refl refl
  stands_for Mutex = nothing_stands Mutex refl refl refl
  stands_for (Struct n) = nothing_stands (Struct n) refl refl refl
  stands_for (Array' s t n) = nothing_stands (Array' s t n) refl refl refl
  stands_for (Function' s r m ps e) = nothing_stands (Function' s r m ps e) refl refl refl
  stands_for (Pointer' s (more_of-CType t end_of-CType)) = pointer_stands (Pointer' s (more_of-CType t end_of-CType)) (is_function t) refl refl refl
