-- How rules go on, and that each rule of a form reads its part first.
use Rattle.std.proofs.Common.{◌≡◌, ◌∙◌, refl, sym, ap, ℕ, Bool, List, ◌∷◌, [], ◌++◌, Option, Some, None}
use Rattle.c_tree.specs.declared.expressions.AccessOperator.{AccessOperator}
use Rattle.c_tree.specs.declared.expressions.AccessOperator.TheVariants.{Dot, Arrow}
use Rattle.c_tree.specs.declared.expressions.StepOperator.{StepOperator}
use Rattle.c_tree.specs.declared.expressions.StepOperator.TheVariants as step_operator
use Rattle.c_tree.specs.declared.expressions.UnaryOperator.{UnaryOperator}
use Rattle.c_tree.specs.declared.expressions.UnaryOperator.TheVariants as written
use Rattle.c_tree.specs.declared.words.Span.{Span}
use Rattle.core_unit.specs.declared.operators.ArithmeticOperator.{ArithmeticOperator}
use Rattle.core_unit.specs.declared.operators.StepValue.{StepValue}
use Rattle.core_unit.specs.declared.operators.Sign.{Sign}
use Rattle.core_unit.specs.declared.operators.UnaryOperator.{UnaryOperator as Operator}
use Rattle.core_unit.specs.declared.tables.MemberInfo.{MemberInfo}
use Rattle.eff_types.specs.declared.types.CType.{CType}
use Rattle.type_rules.specs.declared.specifiers.Specifiers.{Specifiers}
use Rattle.type_rules.specs.declared.declarators.Shape.{Shape}
use Rattle.type_rules.specs.declared.declarators.Parameter.{Parameter}
use Rattle.type_rules.specs.Access.{access, address, indirection, size, size_of_expression, size_of_type, unevaluated}
use Rattle.type_rules.specs.Assignments.{step}
use Rattle.type_rules.specs.Calls.{callee}
use Rattle.type_rules.specs.Constants.{number_constant}
use Rattle.type_rules.specs.Declarators.{array_size, member, parameter, type_name}
use Rattle.type_rules.specs.Expressions.{unary, postfix}
use Rattle.type_rules.specs.Operands.{operand}
use Rattle.type_rules.specs.Operators.{sign_operation, negation}
use Rattle.type_rules.specs.Reading.{Read, Good, Bad, Rule, and_then, gives, where_written}
use Rattle.type_rules.specs.Recursion.{expression}
use Rattle.type_rules.specs.Seen.{Seen}
use Rattle.type_rules.specs.Specifiers.{enumerator_value, enumerator_valued}
use Rattle.type_rules.specs.declared.found.Constant.{Constant}
use Rattle.type_rules.specs.declared.found.Found.{Found}
use Rattle.type_rules.specs.declared.found.Operand.{Operand}
use Rattle.c_tree.specs.declared.expressions.Expr.{Expr}
use Rattle.type_recursion.specs.Lists.{unary_of, size_of_type_name, written_as}
use Rattle.type_specifiers.specs.Given.{given}
use Rattle.typing_state.specs.Answers.{Gives}
use Rattle.typing_state.specs.declared.stop.Stop.{Stop}
use Rattle.typing_state.specs.declared.stop.Stop.TheVariants as stop
use Rattle.std.specs.Prelude.{Result, Ok, Err}

pub then_good : {A B : Type 0} (m : Read A) (k : A → Seen → Read B) (a : A) (s : Seen) → m ≡ Good a s → and_then m k ≡ k a s
unfolding and_then
then_good m k a s e = ap (λ r. and_then r k) e

pub then_bad : {A B : Type 0} (m : Read A) (k : A → Seen → Read B) (n p : ℕ) → m ≡ Bad n p → and_then m k ≡ Bad n p
unfolding and_then
then_bad m k n p e = ap (λ r. and_then r k) e

pub then_assoc : {A B C : Type 0} (m : Read A) (k : A → Seen → Read B) (l : B → Seen → Read C) →
    and_then (and_then m k) l ≡ and_then m (λ a s. and_then (k a s) l)
unfolding and_then
then_assoc (Good a s) k l = refl
then_assoc (Bad n p) k l = refl

pub then_alike : {A B : Type 0} (m : Read A) (k l : A → Seen → Read B) → ((a : A) (s : Seen) → k a s ≡ l a s) → and_then m k ≡ and_then m l
unfolding and_then
then_alike (Good a s) k l h = h a s
then_alike (Bad n p) k l h = refl

pub then_same : {A B : Type 0} (m n : Read A) (k : A → Seen → Read B) → m ≡ n → and_then m k ≡ and_then n k
then_same m n k e = ap (λ r. and_then r k) e

-- The rule reads this part first, and goes on with what it gave.
abbrev pub First : {A B : Type 0} → (Rule A → Rule B) → Type 0
First {A = A} rule = (m : Rule A) (s : Seen) → rule m s ≡ and_then (m s) (λ a t. rule (gives a) t)

pub direct : {A B : Type 0} (k : A → Rule B) (m : Rule A) (s : Seen) → and_then (m s) k ≡ and_then (m s) (λ a t. and_then (Good a t) k)
unfolding and_then
direct k m s = refl

pub operand-first : First operand
unfolding operand
operand-first m s = direct _ m s

pub callee-first : First callee
unfolding callee
callee-first m s = direct _ m s

-- What goes on behind such a rule reads the part first too.
pub behind_first : {A B C : Type 0} (rule : Rule A → Rule B) (k : B → Rule C) → First rule → First (λ m s. and_then (rule m s) k)
behind_first rule k first m s =
    ap (λ r. and_then r k) (first m s) ∙ then_assoc (m s) (λ a t. rule (gives a) t) k

pub access-first : (place : ℕ) (operator : AccessOperator) (name : Span) → First (access place operator name)
unfolding access
access-first place Dot name m s = direct _ m s
access-first place Arrow name m s = behind_first operand _ operand-first m s

pub step-first : (place : ℕ) (operator : ArithmeticOperator) (value : StepValue) → First (step place operator value)
unfolding step
step-first place operator value m s = direct _ m s

pub postfix-first : (place : ℕ) (operator : StepOperator) → First (postfix place operator)
postfix-first place step_operator.Increment m s = step-first place _ _ m s
postfix-first place step_operator.Decrement m s = step-first place _ _ m s

address-first : (place : ℕ) → First (address place)
unfolding address
address-first place m s = direct _ m s

indirection-first : (place : ℕ) → First (indirection place)
unfolding indirection
indirection-first place m s = behind_first operand _ operand-first m s

negation-first : (place : ℕ) → First (negation place)
unfolding negation
negation-first place m s = behind_first operand _ operand-first m s

signed-first : (place : ℕ) (operator : Sign → Operator) → First (sign_operation place operator)
unfolding sign_operation
signed-first place operator m s = behind_first operand _ operand-first m s

constant-first : First number_constant
unfolding number_constant
constant-first m s = behind_first operand _ operand-first m s

unevaluated-reads : {A B : Type 0} (m : Rule A) (s : Seen) (k : A → Rule B) →
    and_then (unevaluated m s) k ≡ and_then (m s) (λ a t. k a (record t { sites = s.sites }))
unfolding unevaluated and_then
unevaluated-reads m s k = then_assoc (m s) _ k

-- an operator before its operand
pub unary-reads : (place : ℕ) (operator : UnaryOperator) (m : Rule Found) (s : Seen) →
    unary place operator m s ≡ and_then (m s) (λ f t. unary_of s.sites place operator f t)
unfolding size_of_expression
unary-reads place written.Increment m s = step-first place _ _ m s
unary-reads place written.Decrement m s = step-first place _ _ m s
unary-reads place written.Address m s = address-first place m s
unary-reads place written.Indirection m s = indirection-first place m s
unary-reads place written.Plus m s = signed-first place _ m s
unary-reads place written.Minus m s = signed-first place _ m s
unary-reads place written.Complement m s = signed-first place _ m s
unary-reads place written.Not m s = negation-first place m s
unary-reads place written.Sizeof m s = unevaluated-reads m s (λ f. size place f.kind)

-- `sizeof` of a type
pub size-reads : (place : ℕ) (m : Rule CType) (s : Seen) → size_of_type place m s ≡ and_then (m s) (λ t u. size_of_type_name s.sites place t u)
unfolding size_of_type
size-reads place m s = unevaluated-reads m s (λ t. size place t)

-- the size of an array, where it is written
pub array_size-reads : (e : Option Expr) (s : Seen) → array_size (written_as e) s ≡ and_then (where_written e expression s) (λ f t. array_size (given f) t)
unfolding and_then
array_size-reads None s = refl
array_size-reads (Some e) s = behind_first number_constant _ constant-first (expression e) s ∙ sym (then_assoc (expression e s) _ _)

value-reads : (place : ℕ) (e : Option Expr) (next : Option ℕ) (s : Seen) →
    enumerator_value place (written_as e) next s ≡ and_then (where_written e expression s) (λ f t. enumerator_value place (given f) next t)
unfolding and_then
value-reads place None next s = refl
value-reads place (Some e) next s = behind_first number_constant _ constant-first (expression e) s ∙ sym (then_assoc (expression e s) _ _)

-- the value of an enumerator, where it is written
pub enumerator-reads : (name : Span) (number : ℕ) (e : Option Expr) (next : Option ℕ) (s : Seen) →
    enumerator_valued name number (written_as e) next s ≡ and_then (where_written e expression s) (λ f t. enumerator_valued name number (given f) next t)
enumerator-reads name number e next s = then_same _ _ _ (value-reads name.start e next s) ∙ then_assoc (where_written e expression s) _ _

pub member-first : (b : Specifiers) (before : List MemberInfo) → First (λ d. member b d before)
unfolding member
member-first b before m s = direct _ m s

pub parameter-first : (place : ℕ) (before : List Parameter) (b : Rule Specifiers) (d : Rule Shape) (s : Seen) →
    parameter place b d before s ≡ and_then (b s) (λ x t. and_then (d t) (λ y u. parameter place (gives x) (gives y) before u))
unfolding parameter and_then
parameter-first place before b d s = refl

pub type_name-first : (place : ℕ) (b : Rule Specifiers) (d : Rule Shape) (s : Seen) →
    type_name place b d s ≡ and_then (b s) (λ x t. and_then (d t) (λ y u. type_name place (gives x) (gives y) u))
unfolding type_name and_then
type_name-first place b d s = refl

pub written-None : (s : Seen) → where_written None expression s ≡ Good None s
written-None s = refl

pub written-Some : (e : Expr) (s : Seen) → where_written (Some e) expression s ≡ and_then (expression e s) (λ f t. Good (Some f) t)
written-Some e s = refl

pub ruleset written_rules = (then_good, then_bad, written-None, written-Some)

pub then_gives : {A B : Type 0} (k : A → Seen → Read B) (a : A) (s : Seen) → and_then (Good a s) k ≡ k a s
unfolding and_then
then_gives k a s = refl

-- nothing remains
pub then_end : {A : Type 0} (m : Read A) → and_then m (λ a s. Good a s) ≡ m
unfolding and_then
then_end (Good a s) = refl
then_end (Bad n p) = refl

pub ruleset then_rules = (then_good, then_bad, then_gives)

-- A rule that goes on is answered by the first part that fails, or by the last one.
pub after : {A B : Type 0} (whole : Read B) (m : Read A) (k : A → Seen → Read B) (a : A) (s : Seen) → whole ≡ and_then m k → m ≡ Good a s → whole ≡ k a s
after whole m k a s is good = is ∙ then_good m k a s good

pub stops : {A B : Type 0} (whole : Read B) (m : Read A) (k : A → Seen → Read B) (why : Stop) (t u : Seen) → whole ≡ and_then m k → Gives m (Err why) t → Gives whole (Err why) u
stops whole m k (stop.Fault number place) t u is bad = is ∙ then_bad m k number place bad
stops whole m k stop.NoMemory t u is bad = tt

pub ends : {A : Type 0} (whole last : Read A) (answer : Result A Stop) (t : Seen) → whole ≡ last → Gives last answer t → Gives whole answer t
ends whole last (Ok a) t is good = is ∙ good
ends whole last (Err (stop.Fault number place)) t is bad = is ∙ bad
ends whole last (Err stop.NoMemory) t is bad = tt
