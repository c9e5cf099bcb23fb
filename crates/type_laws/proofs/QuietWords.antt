-- What static words hold at first: a function at a level that it has.
use Rattle.std.proofs.Common.{◌≡◌, ℕ, Bool, true, false, refl, sym, ◌∙◌, ap, subst, List, [], ◌∷◌, None, inl, inr, arith}
use Rattle.std.specs.Prelude.{if◌then◌else◌, nat_eq, Result, Ok, Err}
use Rattle.arithmetic.specs.Operations.{operation_of}
use Rattle.arithmetic.specs.Operators.{computed, negated, truth}
use Rattle.arithmetic.specs.Values.{applied, applied_to, number, is_true, bits_in, as_value}
use Rattle.arithmetic.specs.declared.operations.Operation.{Operation}
use Rattle.arithmetic.specs.declared.operations.Operation.TheVariants.{Arithmetic, Compare, Move, Difference}
use Rattle.arithmetic.specs.declared.traps.TrapKind.{TrapKind}
use Rattle.eff_types.specs.Effects.{added}
use Rattle.eff_types.specs.Laws.{IsAtMost}
use Rattle.eff_types.specs.Types.{is_function, own_effects, target_effects}
use Rattle.eff_types.specs.declared.levels.Effects.{Effects}
use Rattle.eff_types.specs.declared.levels.Level.{Level}
use Rattle.eff_types.specs.declared.levels.Level.TheVariants.{Plain, NonAllocating, NonBlocking}
use Rattle.eff_types.specs.declared.types.CType.{CType, Void, Char, Int, Unsigned, Mutex, Struct, Pointer', Array', Function'}
use Rattle.core_unit.specs.Levels.{HasLevel, Keeps, KeepsLevel}
use Rattle.core_unit.specs.Shapes.{is_scalar, sign_of}
use Rattle.core_unit.specs.Typing.{type_of}
use Rattle.core_unit.specs.declared.expressions.Expr as expr
use Rattle.core_unit.specs.declared.expressions.Expr.{Expr, end_of-Expr, more_of-Expr, end_of-Place, more_of-Place}
use Rattle.core_unit.specs.declared.expressions.Place as place
use Rattle.core_unit.specs.declared.expressions.Place.{Place}
use Rattle.core_unit.specs.declared.expressions.Storage.TheVariants.{Automatic, Static, ThreadLocal}
use Rattle.core_unit.specs.declared.operators.Cause.{Cause}
use Rattle.core_unit.specs.declared.operators.Cause.TheVariants as cause
use Rattle.core_unit.specs.declared.operators.LogicalOperator.{LogicalOperator}
use Rattle.core_unit.specs.declared.operators.UnaryOperator.{UnaryOperator}
use Rattle.core_unit.specs.declared.operators.UnaryOperator.TheVariants as unary
use Rattle.core_unit.specs.declared.tables.FunctionInfo.{FunctionInfo}
use Rattle.core_unit.specs.declared.words.Word.{Word}
use Rattle.core_unit.specs.declared.words.Word.TheVariants as word
use Rattle.type_rules.specs.Constants.{outcome, of_one, of_both, decided, of_logical, of_choice, worth, is_known}
use Rattle.type_rules.specs.InitialValues.{object_word, pointer_word, word_worth, initial_word, unless_zero}
use Rattle.type_rules.specs.declared.found.Worth.{Worth}
use Rattle.type_rules.specs.declared.found.Worth.TheVariants.{Known, Trapped, Varying}
use Rattle.type_laws.proofs.Quiet.{IsLevelled, AreLevelled}
use Rattle.type_laws.proofs.QuietNodes.{NullIsKnown, KeepsKind, Leads, Used}

-- no function
abbrev pub IsPlain : Word → Type 0
IsPlain (word.FunctionPointer number level) = ⊥
IsPlain _ = Unit {0}

abbrev pub WorthIsPlain : Worth → Type 0
WorthIsPlain (Known value) = IsPlain value
WorthIsPlain _ = Unit {0}

number_plain : (n : ℕ) → IsPlain (number n)
number_plain n = of (nat_eq n 0)
  where
    of : (test : Bool) → IsPlain (if test then word.Zero else word.Number n)
    of true = tt
    of false = tt

number_given : (r : Result ℕ TrapKind) → WorthIsPlain (outcome (as_value number r))
number_given (Ok n) = number_plain n
number_given (Err trap) = tt

pointer_given : (r : Result ℕ TrapKind) → WorthIsPlain (outcome (as_value word.DataPointer r))
pointer_given (Ok n) = tt
pointer_given (Err trap) = tt

applied_plain : (operation : Operation) (a b : Word) → WorthIsPlain (outcome (applied operation a b))
applied_plain (Arithmetic operator sign) a b = number_given (computed operator sign (bits_in a) (bits_in b))
applied_plain (Compare operator what) a b = number_plain _
applied_plain (Move direction side sign words) a b = pointer_given _
applied_plain (Difference words) a b = number_plain _

applied_to_plain : (operator : UnaryOperator) (a : Word) → IsPlain a → WorthIsPlain (outcome (applied_to operator a))
applied_to_plain (unary.Plus sign) a p = p
applied_to_plain (unary.Minus sign) a p = number_given (negated sign (bits_in a))
applied_to_plain (unary.Complement sign) a p = number_plain _
applied_to_plain unary.Not a p = number_plain _

one_plain : (operator : UnaryOperator) (w : Worth) → WorthIsPlain w → WorthIsPlain (of_one (λ a. outcome (applied_to operator a)) w)
one_plain operator (Known a) plain = applied_to_plain operator a plain
one_plain operator Trapped plain = tt
one_plain operator Varying plain = tt

both_plain : (operation : Operation) (v w : Worth) → WorthIsPlain (of_both (λ x y. outcome (applied operation x y)) v w)
both_plain operation (Known a) (Known b) = applied_plain operation a b
both_plain operation (Known a) Trapped = tt
both_plain operation (Known a) Varying = tt
both_plain operation Trapped (Known b) = tt
both_plain operation Trapped Trapped = tt
both_plain operation Trapped Varying = tt
both_plain operation Varying w = tt

logical_plain : (operator : LogicalOperator) (v w : Worth) → WorthIsPlain (of_logical operator v w)
logical_plain operator (Known a) (Known b) = number_plain _
logical_plain operator (Known a) Trapped = of (decided operator (is_true a))
  where
    of : (test : Bool) → WorthIsPlain (if test then Known (number (truth (is_true a))) else Trapped)
    of true = number_plain (truth (is_true a))
    of false = tt
logical_plain operator (Known a) Varying = tt
logical_plain operator Trapped (Known b) = tt
logical_plain operator Trapped Trapped = tt
logical_plain operator Trapped Varying = tt
logical_plain operator Varying w = tt

choose_plain : (test : Bool) (v w : Worth) → WorthIsPlain v → WorthIsPlain w → WorthIsPlain (if test then v else w)
choose_plain true v w p q = p
choose_plain false v w p q = q

choice_plain : (c v w : Worth) → WorthIsPlain v → WorthIsPlain w → WorthIsPlain (of_choice c v w)
choice_plain Varying v w p q = tt
choice_plain (Known t) Varying w p q = tt
choice_plain Trapped Varying w p q = tt
choice_plain (Known t) (Known a) Varying p q = tt
choice_plain (Known t) Trapped Varying p q = tt
choice_plain Trapped (Known a) Varying p q = tt
choice_plain Trapped Trapped Varying p q = tt
choice_plain (Known t) (Known a) (Known b) p q = choose_plain (is_true t) (Known a) (Known b) p q
choice_plain (Known t) (Known a) Trapped p q = choose_plain (is_true t) (Known a) Trapped p q
choice_plain (Known t) Trapped (Known b) p q = choose_plain (is_true t) Trapped (Known b) p q
choice_plain (Known t) Trapped Trapped p q = choose_plain (is_true t) Trapped Trapped p q
choice_plain Trapped (Known a) (Known b) p q = tt
choice_plain Trapped (Known a) Trapped p q = tt
choice_plain Trapped Trapped (Known b) p q = tt
choice_plain Trapped Trapped Trapped p q = tt

-- a constant is no function
worth_plain : (e : Expr) → WorthIsPlain (worth e)
unfolding worth
worth_plain (expr.Number sign bits) = number_plain bits
worth_plain expr.Null = tt
worth_plain (expr.Sizeof words) = number_plain words
worth_plain (expr.Unary' operator _ (more_of-Expr e end_of-Expr)) = one_plain operator (worth e) (worth_plain e)
worth_plain (expr.Binary' operator _ (more_of-Expr a end_of-Expr) _ (more_of-Expr b end_of-Expr)) =
    both_plain (operation_of operator (sign_of (type_of a)) (sign_of (type_of b))) (worth a) (worth b)
worth_plain (expr.Logical' operator _ (more_of-Expr a end_of-Expr) _ (more_of-Expr b end_of-Expr)) = logical_plain operator (worth a) (worth b)
worth_plain (expr.Conditional' _ (more_of-Expr c end_of-Expr) _ (more_of-Expr a end_of-Expr) _ (more_of-Expr b end_of-Expr)) =
    choice_plain (worth c) (worth a) (worth b) (worth_plain a) (worth_plain b)
worth_plain (expr.Convert' why to _ (more_of-Expr e end_of-Expr)) = worth_plain e
worth_plain e = tt

plain_levelled : (u : List FunctionInfo) (value : Word) → IsPlain value → IsLevelled u value
plain_levelled u (word.FunctionPointer number level) h = absurd h
plain_levelled u value h = tt

object_levelled : (u : List FunctionInfo) (p : Place) → IsLevelled u (object_word p)
object_levelled u (place.Variable at (Static address) t) = tt
object_levelled u (place.Variable at (Automatic offset) t) = tt
object_levelled u (place.Variable at (ThreadLocal offset) t) = tt
object_levelled u (place.Text at words) = tt
object_levelled u (place.Indirection' _ e t) = tt
object_levelled u (place.Arrow' _ e k) = tt
object_levelled u (place.Element' _ a _ b side words t) = tt
object_levelled u (place.Member' _ p offset t) = tt

scalar_is_no_function : (t : CType) → is_scalar t ≡ true → is_function t ≡ true → ⊥
scalar_is_no_function (Function' _ _ _ _ _) s f = cc
scalar_is_no_function Void s f = cc
scalar_is_no_function Char s f = cc
scalar_is_no_function Int s f = cc
scalar_is_no_function Unsigned s f = cc
scalar_is_no_function Mutex s f = cc
scalar_is_no_function (Struct k) s f = cc
scalar_is_no_function (Pointer' _ _) s f = cc
scalar_is_no_function (Array' _ _ _) s f = cc

at_lower : (functions : List FunctionInfo) (number : ℕ) (level known : Level) → IsAtMost level known → HasLevel functions number known → HasLevel functions number level
at_lower functions number level known below h = record { info = h.info; known = h.known; above = let above = h.above in omega (arith, below, above) }

level_at_most : (l m : Level) (e f : Effects) → added (record e { level = l }) (record f { level = m }) ≡ None → IsAtMost m l
unfolding added
level_at_most Plain Plain e f none = omega arith
level_at_most NonAllocating Plain e f none = omega arith
level_at_most NonBlocking Plain e f none = omega arith
level_at_most NonAllocating NonAllocating e f none = omega arith
level_at_most NonBlocking NonAllocating e f none = omega arith
level_at_most NonBlocking NonBlocking e f none = omega arith
level_at_most Plain NonAllocating e f none = absurd (cc)
level_at_most Plain NonBlocking e f none = absurd (cc)
level_at_most NonAllocating NonBlocking e f none = absurd (cc)

-- a conversion of what isn't constant keeps the level
kept_level : (why : Cause) (from to : CType) (e : Expr) → KeepsLevel why from to → NullIsKnown why e → is_known (worth e) ≡ false
    → IsAtMost (target_effects to).level (target_effects from).level
kept_level cause.Null from to e keeps null varies = absurd (cc)
kept_level cause.Implicit from to e keeps null varies = level_at_most (target_effects from).level (target_effects to).level (target_effects from) (target_effects to) keeps
kept_level cause.Cast from to e keeps null varies = level_at_most (target_effects from).level (target_effects to).level (target_effects from) (target_effects to) keeps

-- what names a function
function_levelled : (u : List FunctionInfo) (level : Level) (e : Expr) → is_function (type_of e) ≡ true → Leads u e → IsAtMost level (own_effects (type_of e)).level
    → IsLevelled u (pointer_word level e)
unfolding Leads pointer_word type_of
function_levelled u level (expr.Function number t) function h below = at_lower u number level (own_effects t).level below (h.levelled function)
function_levelled u level (expr.FunctionPointer' _ (more_of-Expr e end_of-Expr)) function h below = absurd (cc)
function_levelled u level (expr.ArrayPointer' _ (more_of-Place p end_of-Place)) function h below = object_levelled u p
function_levelled u level (expr.AddressOf' _ (more_of-Place p end_of-Place)) function h below = object_levelled u p
function_levelled u level (expr.Convert' why to _ (more_of-Expr e end_of-Expr)) function h below =
    of h.1 (λ is. function_levelled u level e (ap is_function is ∙ function) h.2 (subst (λ t. IsAtMost level (own_effects t).level) (sym is) below))
  where
    of : KeepsKind (type_of e) to → (type_of e ≡ to → IsLevelled u (pointer_word level e)) → IsLevelled u (pointer_word level e)
    of (inl is) next = next is
    of (inr kinds) next = absurd (scalar_is_no_function to kinds.1 function)
function_levelled u level e function h below = tt

-- a pointer that isn't constant
pointer_levelled : (u : List FunctionInfo) (level : Level) (e : Expr) → is_known (worth e) ≡ false → is_scalar (type_of e) ≡ true → Keeps e → Leads u e
    → IsAtMost level (target_effects (type_of e)).level → IsLevelled u (pointer_word level e)
unfolding Leads Keeps pointer_word type_of worth target_effects
pointer_levelled u level (expr.Function number t) varies scalar keeps h below = let other = h.other in absurd (cc)
pointer_levelled u level (expr.FunctionPointer' _ (more_of-Expr e end_of-Expr)) varies scalar keeps h below = function_levelled u level e h.1 h.0 below
pointer_levelled u level (expr.ArrayPointer' _ (more_of-Place p end_of-Place)) varies scalar keeps h below = object_levelled u p
pointer_levelled u level (expr.AddressOf' _ (more_of-Place p end_of-Place)) varies scalar keeps h below = object_levelled u p
pointer_levelled u level (expr.Convert' why to _ (more_of-Expr e end_of-Expr)) varies scalar keeps h below =
    pointer_levelled u level e varies (of h.1) keeps.0 h.2 (let kept = kept_level why (type_of e) to e keeps.1 h.0 varies in omega (arith, below, kept))
  where
    of : KeepsKind (type_of e) to → is_scalar (type_of e) ≡ true
    of (inl is) = ap is_scalar is ∙ scalar
    of (inr kinds) = kinds.0
pointer_levelled u level e varies scalar keeps h below = tt

word_levelled : (u : List FunctionInfo) (t : CType) (e : Expr) (w : Worth) → worth e ≡ w → is_scalar t ≡ true → Used u t e → IsLevelled u (word_worth w e)
word_levelled u t e (Known value) is scalar h = plain_levelled u value (subst WorthIsPlain is (worth_plain e))
word_levelled u t e Trapped is scalar h =
    pointer_levelled u (target_effects (type_of e)).level e (ap is_known is) (ap is_scalar h.node.is ∙ scalar) h.node.keeps h.leads (omega arith)
word_levelled u t e Varying is scalar h =
    pointer_levelled u (target_effects (type_of e)).level e (ap is_known is) (ap is_scalar h.node.is ∙ scalar) h.node.keeps h.leads (omega arith)

unless_levelled : (u : List FunctionInfo) (at : ℕ) (value : Word) → IsLevelled u value → AreLevelled u (unless_zero at value)
unless_levelled u at value h = of (is_true value)
  where
    of : (test : Bool) → AreLevelled u (if test then record { at = at; word = value } ∷ [] else [])
    of true = (h, tt)
    of false = tt

pub expression_levelled : (u : List FunctionInfo) (t : CType) (e : Expr) (at : ℕ) → is_scalar t ≡ true → Used u t e → AreLevelled u (unless_zero at (initial_word e))
unfolding initial_word
expression_levelled u t e at scalar h = unless_levelled u at (word_worth (worth e) e) (word_levelled u t e (worth e) refl scalar h)
