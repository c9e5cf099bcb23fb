-- A conversion that isn't warned of adds no level.
use Rattle.std.proofs.Common.{◌≡◌, ℕ, Bool, true, false, refl, sym, ◌∙◌, ap, subst, List, [], ◌∷◌, Option, Some, None, inl, inr}
use Rattle.std.specs.Prelude.{not, ◌⊎◌, ◌&&◌, ◌||◌, if◌then◌else◌, ◌++◌, Result, Ok, Err}
use denote.Hole.Carrier.{hidden}
use Rattle.eff_types.specs.Conversion.{conversion}
use Rattle.eff_types.specs.Effects.{added, plain}
use Rattle.eff_types.specs.Types.{is_number, is_function, is_pointer, is_function_pointer, is_data_pointer, is_void_pointer, points_to, same, same_outside, same_but_for_effects, target_effects}
use Rattle.eff_types.specs.declared.conversions.Conversion.{Conversion}
use Rattle.eff_types.specs.declared.conversions.Conversion.TheVariants as as_a
use Rattle.eff_types.specs.declared.conversions.Mismatch.{Mismatch}
use Rattle.eff_types.specs.declared.conversions.Mismatch.TheVariants as mismatch
use Rattle.eff_types.specs.declared.levels.Effects.{Effects}
use Rattle.eff_types.specs.declared.levels.Level.{Level}
use Rattle.eff_types.specs.declared.levels.Level.TheVariants.{Plain, NonAllocating, NonBlocking}
use Rattle.eff_types.specs.declared.types.CType.{CType, Void, Char, Int, Unsigned, Mutex, Struct, Pointer', Array', Function', end_of-CType, more_of-CType}
use Rattle.eff_types.proofs.Sameness.{same-eq}
use Rattle.core_unit.specs.Levels.{KeepsLevel}
use Rattle.core_unit.specs.Shapes.{is_scalar}
use Rattle.core_unit.specs.Typing.{type_of}
use Rattle.core_unit.specs.declared.expressions.Expr as tree
use Rattle.core_unit.specs.declared.expressions.Expr.{Expr, end_of-Expr, more_of-Expr}
use Rattle.core_unit.specs.declared.expressions.Expr.TheBlock.{hidden-the_row-Expr-0, shape-the_row-Expr-0, hidden-the_row-Place-1, shape-the_row-Place-1, hidden-the_row-Expr-2, shape-the_row-Expr-2}
use Rattle.core_unit.specs.declared.operators.Cause.{Cause}
use Rattle.core_unit.specs.declared.operators.Cause.TheVariants as cause
use Rattle.core_unit.specs.declared.tables.FunctionInfo.{FunctionInfo}
use Rattle.type_rules.specs.Constants.{worth, is_known, is_known_zero, is_zero_number, is_null, is_null_constant}
use Rattle.type_rules.specs.Conversions.{null_cause, converted_as, converted_by, converted}
use Rattle.type_rules.specs.Laws.{IsNoConversion}
use Rattle.type_rules.specs.Operands.{turned}
use Rattle.type_rules.specs.Reading.{Good, and_then}
use Rattle.type_rules.specs.Seen.{Seen}
use Rattle.type_rules.specs.declared.found.Operand.{Operand}
use Rattle.type_rules.specs.declared.found.Worth.{Worth}
use Rattle.type_rules.specs.declared.found.Worth.TheVariants.{Known, Trapped, Varying}
use Rattle.type_rules.specs.declared.notes.TypeWarning.{TypeWarning}
use Rattle.type_rules.specs.declared.notes.TypeWarning.TheVariants as warning
use Rattle.type_laws.proofs.Conversions.{Told, ToldOf, conversion_told}
use Rattle.type_laws.proofs.Converted.{null_type}
use Rattle.type_laws.proofs.Each.{Each}
use Rattle.type_laws.proofs.Fits.{why_of, void_is_data, data_is_pointer, function_pointer_is_pointer}
use Rattle.type_laws.proofs.Quiet.{Quiet, gives_quiet, fails_quiet}
use Rattle.type_laws.proofs.QuietNodes.{NullIsKnown, KeepsKind, Fits, Used, node-Convert}
use Rattle.type_laws.proofs.Types.{and_left, and_right, or_left, or_right}

-- an operand that adds no level
abbrev pub QuietOperand : Operand → List FunctionInfo → Type 0
QuietOperand o u = Used u o.kind o.node

-- a pointer to no function promises nothing
pub no_promise : (t : CType) → is_function_pointer t ≡ false → target_effects t ≡ plain
unfolding points_to target_effects
no_promise (Pointer' _ (more_of-CType (Function' _ _ _ _ _) end_of-CType)) e = absurd (cc)
no_promise (Pointer' _ (more_of-CType Void end_of-CType)) e = refl
no_promise (Pointer' _ (more_of-CType Char end_of-CType)) e = refl
no_promise (Pointer' _ (more_of-CType Int end_of-CType)) e = refl
no_promise (Pointer' _ (more_of-CType Unsigned end_of-CType)) e = refl
no_promise (Pointer' _ (more_of-CType Mutex end_of-CType)) e = refl
no_promise (Pointer' _ (more_of-CType (Struct k) end_of-CType)) e = refl
no_promise (Pointer' _ (more_of-CType (Pointer' _ _) end_of-CType)) e = refl
no_promise (Pointer' _ (more_of-CType (Array' _ _ _) end_of-CType)) e = refl
no_promise Void e = refl
no_promise Char e = refl
no_promise Int e = refl
no_promise Unsigned e = refl
no_promise Mutex e = refl
no_promise (Struct k) e = refl
no_promise (Array' _ _ _) e = refl
no_promise (Function' _ _ _ _ _) e = refl

pub number_is_no_function : (t : CType) → is_number t ≡ true → is_function_pointer t ≡ false
unfolding points_to
number_is_no_function Char e = refl
number_is_no_function Int e = refl
number_is_no_function Unsigned e = refl
number_is_no_function t e = absurd (cc)

pub data_is_no_function : (t : CType) → is_data_pointer t ≡ true → is_function_pointer t ≡ false
unfolding points_to
data_is_no_function (Pointer' _ (more_of-CType t end_of-CType)) e = of (is_function t) e
  where
    of : (test : Bool) → not test ≡ true → test ≡ false
    of true e = absurd (cc)
    of false e = refl
data_is_no_function t e = absurd (cc)

below_plain : (l : Level) (e : Effects) → added (record e { level = l }) plain ≡ None
unfolding added
below_plain Plain e = refl
below_plain NonAllocating e = refl
below_plain NonBlocking e = refl

pub added_none : (from to : CType) → is_function_pointer to ≡ false → added (target_effects from) (target_effects to) ≡ None
added_none from to none = ap (added (target_effects from)) (no_promise to none) ∙ below_plain (target_effects from).level (target_effects from)

same_level : (l : Level) (e : Effects) → added (record e { level = l }) (record e { level = l }) ≡ None
unfolding added
same_level Plain e = refl
same_level NonAllocating e = refl
same_level NonBlocking e = refl

pub added_same : (e : Effects) → added e e ≡ None
added_same e = same_level e.level e

-- a conversion between function pointers tells the level that it adds
abbrev pub LevelOf : (from to : CType) → Result Conversion Mismatch → Type 0
LevelOf from to (Ok (as_a.Effects level)) = level ≡ added (target_effects from) (target_effects to)
LevelOf from to _ = Unit {0}

module _ (from to : CType) where
  either : (test : Bool) (a b : Result Conversion Mismatch) → LevelOf from to a → LevelOf from to b → LevelOf from to (if test then a else b)
  either true a b h k = h
  either false a b h k = k

  pub level_told : (null explicit : Bool) → LevelOf from to (conversion from to null explicit)
  unfolding conversion
  level_told null explicit =
      either (same from to) (Ok as_a.Same) _ tt (
      either (is_number from && is_number to) (Ok as_a.Number) _ tt (
      either (null && is_pointer to) (Ok as_a.Null) _ tt (
      either (is_function_pointer from && is_function_pointer to && same_outside from to) (Ok (as_a.Effects (added (target_effects from) (target_effects to)))) _ refl (
      either (is_function_pointer from || is_function_pointer to) (Err mismatch.LeftOut) _ tt (
      either ((is_pointer from && is_number to) || (is_number from && is_pointer to)) (Err mismatch.LeftOut) _ tt (
      either (is_data_pointer from && is_data_pointer to && same_but_for_effects from to) (Err mismatch.LeftOut) _ tt (
      either (is_data_pointer from && is_data_pointer to && (is_void_pointer from || is_void_pointer to)) (Ok as_a.Pointer) _ tt (
      either (is_data_pointer from && is_data_pointer to && explicit) (Ok as_a.Pointer) (Err mismatch.Mismatch) tt tt))))))))

-- a pointer that isn't null keeps what is known of it
pub keeps_of_none : (why : Cause) (from to : CType) → added (target_effects from) (target_effects to) ≡ None → KeepsLevel why from to
keeps_of_none cause.Null from to e = tt
keeps_of_none cause.Implicit from to e = e
keeps_of_none cause.Cast from to e = e

zero_known : (w : Worth) → is_known_zero w ≡ true → is_known w ≡ true
zero_known (Known value) e = refl
zero_known Trapped e = e
zero_known Varying e = e

-- only a constant is null
pub null_known : (e : Expr) → is_null e ≡ true → is_known (worth e) ≡ true
unfolding is_null worth hidden hidden-the_row-Expr-0 shape-the_row-Expr-0 hidden-the_row-Place-1 shape-the_row-Place-1 hidden-the_row-Expr-2 shape-the_row-Expr-2
null_known tree.Null h = refl
null_known (tree.Convert' why to _ (more_of-Expr e end_of-Expr)) h =
    zero_known (worth e) (and_right (is_number (type_of e)) (is_known_zero (worth e)) (and_right (is_number to || is_void_pointer to) (is_zero_number e) h))
null_known e h = zero_known (worth e) (and_right (is_number (type_of e)) (is_known_zero (worth e)) h)

zero_of_no_null : (explicit : Bool) (e : Expr) → NullIsKnown (why_of explicit) e
zero_of_no_null true e = tt
zero_of_no_null false e = tt

no_function : (n v f : Bool) → n || v ≡ true → n || (v && f) ≡ false → f ≡ false
no_function true v f p q = absurd (cc)
no_function false true f p q = q
no_function false false f p q = absurd (cc)

-- the level of a null constant
pub null_level : (explicit : Bool) (from to : CType) (e : Expr) → type_of e ≡ from → is_null e ≡ true → KeepsLevel (null_cause (why_of explicit) from to) from to
null_level explicit from to e is null = of (is_number from || (is_void_pointer from && is_function_pointer to)) refl
  where
    of : (test : Bool) → is_number from || (is_void_pointer from && is_function_pointer to) ≡ test
        → KeepsLevel (if test then cause.Null else why_of explicit) from to
    of true h = tt
    of false h =
        let fits : is_number from || is_void_pointer from ≡ true = ap (λ t. is_number t || is_void_pointer t) (sym is) ∙ null_type e null in
        keeps_of_none (why_of explicit) from to (added_none from to (no_function (is_number from) (is_void_pointer from) (is_function_pointer to) fits h))

scalar_of : (n v p : Bool) → n || v ≡ true → (v ≡ true → p ≡ true) → n || p ≡ true
scalar_of true v p e h = refl
scalar_of false true p e h = h refl
scalar_of false false p e h = absurd (cc)

null_quiet : (explicit : Bool) (from to : CType) (e : Expr) → type_of e ≡ from → is_null e ≡ true → is_pointer to ≡ true
    → Fits (null_cause (why_of explicit) from to) from to e
null_quiet explicit from to e is null pointer =
    (null_level explicit from to e is null, of (is_number from || (is_void_pointer from && is_function_pointer to)), inr (scalar, or_right (is_number to) (is_pointer to) pointer))
  where
    of : (test : Bool) → NullIsKnown (if test then cause.Null else why_of explicit) e
    of true = null_known e null
    of false = zero_of_no_null explicit e

    scalar : is_scalar from ≡ true
    scalar = scalar_of (is_number from) (is_void_pointer from) (is_pointer from) (ap (λ t. is_number t || is_void_pointer t) (sym is) ∙ null_type e null)
        (λ void. data_is_pointer from (void_is_data from void))

-- to anything but a function
plain_quiet : (explicit : Bool) (from to : CType) (e : Expr) → is_function_pointer to ≡ false → is_scalar from ≡ true → is_scalar to ≡ true → Fits (why_of explicit) from to e
plain_quiet explicit from to e none scalar result =
    (keeps_of_none (why_of explicit) from to (added_none from to none), zero_of_no_null explicit e, inr (scalar, result))

-- with the level that it had
level_quiet : (explicit : Bool) (from to : CType) (e : Expr) → added (target_effects from) (target_effects to) ≡ None → KeepsKind from to
    → Fits (why_of explicit) from to e
level_quiet explicit from to e none kind = (keeps_of_none (why_of explicit) from to none, zero_of_no_null explicit e, kind)

last_is : (warnings : List TypeWarning) (w : TypeWarning) → Each IsNoConversion (warnings ++ w ∷ []) → IsNoConversion w
last_is [] w each = each.0
last_is (v ∷ vs) w each = last_is vs w each.1

-- an operand that is brought into a type
abbrev pub InType : CType → Operand → List FunctionInfo → Type 0
InType to c u = Used u to c.node

module _ (pre : List FunctionInfo → Type 0) (s : Seen) (to : CType) (o : Operand) (quiet : (u : List FunctionInfo) → pre u → QuietOperand o u) where
  turned_quiet : (why : Cause) → ((u : List FunctionInfo) → pre u → Fits why o.kind to o.node) → Quiet pre (InType to) s (Good (turned why to o) s)
  turned_quiet why fits = gives_quiet s (turned why to o) (λ u ends p. node-Convert u why o.kind to o.node (quiet u p) (fits u p))

  same_quiet : (explicit : Bool) → o.kind ≡ to → Fits (why_of explicit) o.kind to o.node
  same_quiet explicit is =
      level_quiet explicit o.kind to o.node (ap (λ t. added (target_effects o.kind) (target_effects t)) (sym is) ∙ added_same (target_effects o.kind))
      (inl is)

  noted_quiet : (why : Cause) (level : Level)
      → Quiet pre (InType to) s (Good (turned why to o) (record s { warnings = s.warnings ++ warning.Conversion o.place level ∷ [] }))
  noted_quiet why level = record { holds = λ u ends. absurd (last_is s.warnings (warning.Conversion o.place level) ends.unwarned) }

  warned_quiet : (explicit : Bool) (level : Option Level) → KeepsKind o.kind to → level ≡ added (target_effects o.kind) (target_effects to)
      → Quiet pre (InType to) s (converted_as (why_of explicit) to o (as_a.Effects level) s)
  unfolding and_then
  warned_quiet true None kind told = turned_quiet cause.Cast (λ u p. level_quiet true o.kind to o.node (sym told) kind)
  warned_quiet false None kind told = turned_quiet cause.Implicit (λ u p. level_quiet false o.kind to o.node (sym told) kind)
  warned_quiet true (Some level) kind told = noted_quiet cause.Cast level
  warned_quiet false (Some level) kind told = noted_quiet cause.Implicit level

  null_as : (explicit : Bool) → is_null_constant o && is_pointer to ≡ true → Quiet pre (InType to) s (Good (turned (null_cause (why_of explicit) o.kind to) to o) s)
  null_as explicit told = turned_quiet (null_cause (why_of explicit) o.kind to) (λ u p.
      null_quiet explicit o.kind to o.node (quiet u p).node.is (and_left (is_null_constant o) (is_pointer to) told) (and_right (is_null_constant o) (is_pointer to) told))

  number_quiet : (explicit : Bool) → is_number o.kind && is_number to ≡ true → Fits (why_of explicit) o.kind to o.node
  number_quiet explicit told =
      plain_quiet explicit o.kind to o.node (number_is_no_function to (and_right (is_number o.kind) (is_number to) told))
      (or_left (is_number o.kind) (is_pointer o.kind) (and_left (is_number o.kind) (is_number to) told))
      (or_left (is_number to) (is_pointer to) (and_right (is_number o.kind) (is_number to) told))

  data_both : (a b c d : Bool) → ((a && b && c) ≡ true) ⊎ ((a && b && d) ≡ true) → a && b ≡ true
  data_both a b c d (inl e) = and_left (a && b) c e
  data_both a b c d (inr e) = and_left (a && b) d e

  data_quiet : (explicit : Bool) → is_data_pointer o.kind && is_data_pointer to ≡ true → Fits (why_of explicit) o.kind to o.node
  data_quiet explicit told =
      plain_quiet explicit o.kind to o.node (data_is_no_function to (and_right (is_data_pointer o.kind) (is_data_pointer to) told))
      (or_right (is_number o.kind) (is_pointer o.kind) (data_is_pointer o.kind (and_left (is_data_pointer o.kind) (is_data_pointer to) told)))
      (or_right (is_number to) (is_pointer to) (data_is_pointer to (and_right (is_data_pointer o.kind) (is_data_pointer to) told)))

  function_scalar : (t : CType) → is_function_pointer t ≡ true → is_scalar t ≡ true
  function_scalar t e = or_right (is_number t) (is_pointer t) (function_pointer_is_pointer t e)

  function_kind : (explicit : Bool) (level : Option Level) → Told o.kind to (is_null_constant o) explicit (as_a.Effects level) → KeepsKind o.kind to
  function_kind explicit level told =
      let both = and_left (is_function_pointer o.kind && is_function_pointer to) (same_outside o.kind to) told.1 in
      inr (function_scalar o.kind (and_left (is_function_pointer o.kind) (is_function_pointer to) both), function_scalar to (and_right (is_function_pointer o.kind) (is_function_pointer to) both))

  as_quiet : (explicit : Bool) (how : Conversion) → Told o.kind to (is_null_constant o) explicit how → LevelOf o.kind to (Ok how)
      → Quiet pre (InType to) s (converted_as (why_of explicit) to o how s)
  as_quiet true as_a.Same told level = turned_quiet cause.Cast (λ u p. same_quiet true (same-eq o.kind to told))
  as_quiet false as_a.Same told level = gives_quiet s o (λ u ends p. subst (λ t. Used u t o.node) (same-eq o.kind to told) (quiet u p))
  as_quiet true as_a.Number told level = turned_quiet cause.Cast (λ u p. number_quiet true told.1)
  as_quiet false as_a.Number told level = turned_quiet cause.Implicit (λ u p. number_quiet false told.1)
  as_quiet true as_a.Pointer told level = turned_quiet cause.Cast (λ u p.
      data_quiet true (data_both (is_data_pointer o.kind) (is_data_pointer to) (is_void_pointer o.kind || is_void_pointer to) true told.1))
  as_quiet false as_a.Pointer told level = turned_quiet cause.Implicit (λ u p.
      data_quiet false (data_both (is_data_pointer o.kind) (is_data_pointer to) (is_void_pointer o.kind || is_void_pointer to) false told.1))
  as_quiet true as_a.Null told level = null_as true told.1
  as_quiet false as_a.Null told level = null_as false told.1
  as_quiet true (as_a.Effects level) told is = warned_quiet true level (function_kind true level told) is
  as_quiet false (as_a.Effects level) told is = warned_quiet false level (function_kind false level told) is

  by_quiet : (explicit : Bool) (at : ℕ) (r : Result Conversion Mismatch) → ToldOf o.kind to (is_null_constant o) explicit r → LevelOf o.kind to r
      → Quiet pre (InType to) s (converted_by (why_of explicit) at to o r s)
  by_quiet explicit at (Ok how) told level = as_quiet explicit how told level
  by_quiet explicit at (Err mismatch.Mismatch) told level = fails_quiet s 3 at
  by_quiet explicit at (Err mismatch.LeftOut) told level = fails_quiet s 11 o.place

  pub converted_quiet : Quiet pre (InType to) s (converted to o s)
  unfolding converted
  converted_quiet = by_quiet false o.place (conversion o.kind to (is_null_constant o) false) (conversion_told o.kind to (is_null_constant o) false)
      (level_told o.kind to (is_null_constant o) false)

  pub cast_by_quiet : (place : ℕ) → Quiet pre (InType to) s (converted_by cause.Cast place to o (conversion o.kind to (is_null_constant o) true) s)
  cast_by_quiet place = by_quiet true place (conversion o.kind to (is_null_constant o) true) (conversion_told o.kind to (is_null_constant o) true)
      (level_told o.kind to (is_null_constant o) true)
