-- How each form of expressions is read, part by part: one equation a form.
use Rattle.std.proofs.Common.{◌≡◌, ◌∙◌, refl, sym, ap, ℕ, ◌+◌, Bool, true, false, List, [], ◌∷◌, ◌++◌}
use Rattle.std.specs.Prelude.{Result, Err}
use denote.Hole.Carrier.{hidden}
use Rattle.c_tree.specs.declared.expressions.AccessOperator.{AccessOperator}
use Rattle.c_tree.specs.declared.expressions.AssignmentOperator.{AssignmentOperator}
use Rattle.c_tree.specs.declared.expressions.BinaryOperator.{BinaryOperator}
use Rattle.c_tree.specs.declared.expressions.Declarator.TheBlock.{hidden-the_row-Declarator-0, shape-the_row-Declarator-0, hidden-the_row-Expr-1, shape-the_row-Expr-1, hidden-the_row-Expr-2, shape-the_row-Expr-2, hidden-the_row-Spec-3, shape-the_row-Spec-3, hidden-the_row-TypeName-4, shape-the_row-TypeName-4}
use Rattle.c_tree.specs.declared.expressions.Expr.{Expr}
use Rattle.c_tree.specs.declared.expressions.Expr.TheVariants as expr
use Rattle.c_tree.specs.declared.expressions.Spec.{Spec}
use Rattle.c_tree.specs.declared.expressions.StepOperator.{StepOperator}
use Rattle.c_tree.specs.declared.expressions.TypeName.{TypeName}
use Rattle.c_tree.specs.declared.expressions.UnaryOperator.{UnaryOperator}
use Rattle.c_tree.specs.declared.words.Span.{Span}
use Rattle.eff_types.specs.declared.types.CType.{CType}
use Rattle.type_rules.specs.declared.specifiers.Specifiers.{Specifiers}
use Rattle.type_rules.specs.declared.declarators.Shape.{Shape}
use Rattle.type_rules.specs.Access.{access, element, element_by, size_of_type}
use Rattle.type_rules.specs.Assignments.{assignment, assigned_by, left_side}
use Rattle.type_rules.specs.Calls.{call, called, callee, fresh, spine, as_callee}
use Rattle.type_rules.specs.Conversions.{cast, cast_to}
use Rattle.type_rules.specs.Declarators.{type_name}
use Rattle.type_rules.specs.Expressions.{unary, postfix, with_argument}
use Rattle.type_rules.specs.Operands.{operand}
use Rattle.type_rules.specs.Operators.{operation, operation_on, choice, alternatives, chosen}
use Rattle.type_rules.specs.Primaries.{name, number, character, text, parenthesised}
use Rattle.type_rules.specs.Reading.{Read, Good, Bad, Rule, and_then, gives}
use Rattle.type_rules.specs.Recursion.{expression, value, arguments, specifiers, specifier, declarator}
use Rattle.type_rules.specs.Seen.{Seen}
use Rattle.type_rules.specs.Specifiers.{no_specifiers}
use Rattle.type_rules.specs.declared.found.Found.{Found}
use Rattle.type_rules.specs.declared.found.Operand.{Operand}
use Rattle.type_recursion.specs.Lists.{in_order, argument, fresh_value, element_behind, call_behind, cast_behind, operation_behind, choice_behind, alternatives_behind, right_side, assignment_behind, specifier_list, type_of_name, unary_of, size_of_type_name}
use Rattle.typing_state.specs.Answers.{Gives}
use Rattle.typing_state.specs.declared.stop.Stop.{Stop}
use Rattle.type_recursion.proofs.Continued.{ends, stops, then_assoc, then_same, then_alike, then_good, then_bad, operand-first, callee-first, access-first, postfix-first, unary-reads, size-reads, direct}

-- lists
arguments_row : (es : List Expr) (given : List Operand) (s : Seen) → arguments given (hidden-the_row-Expr-2 es) s ≡ in_order argument es given s
unfolding value with_argument in_order argument expression and_then hidden hidden-the_row-Expr-2 shape-the_row-Expr-2
arguments_row [] given s = refl
arguments_row (e ∷ es) given s =
    then_alike (operand (expression e) s) _ _ (λ o t. arguments_row es (given ++ o ∷ []) t) ∙ sym (then_assoc (operand (expression e) s) _ _)

pub specifiers_row : (ss : List Spec) (b : Specifiers) (s : Seen) → specifiers (hidden-the_row-Spec-3 ss) b s ≡ in_order specifier ss b s
unfolding value in_order hidden hidden-the_row-Spec-3 shape-the_row-Spec-3
specifiers_row [] b s = refl
specifiers_row (x ∷ xs) b s = then_alike (specifier x b s) _ _ (λ next t. specifiers_row xs next t)

-- a rule whose first part is read alike
type_name-alike : (place : ℕ) (m n : Rule Specifiers) (d : Rule Shape) (s : Seen) → m s ≡ n s → type_name place m d s ≡ type_name place n d s
unfolding type_name
type_name-alike place m n d s e = then_same _ _ _ e

type_of_name_row : (t : TypeName) (s : Seen) → type_name t.place (specifiers (hidden-the_row-Spec-3 t.specs) no_specifiers) (declarator t.declarator) s ≡ type_of_name t s
unfolding type_of_name
type_of_name_row t s = type_name-alike t.place _ _ (declarator t.declarator) s (specifiers_row t.specs no_specifiers s)

-- an expression that begins where none around it does
pub fresh-value : (called : Bool) (e : Expr) (s : Seen) → fresh_value called e s ≡ value called s.sites e (record s { sites = s.sites + spine e })
unfolding fresh fresh_value
fresh-value called e s = refl

-- The sites of its calls are numbered first.
pub fresh-numbered : (called : Bool) (e : Expr) (s t u : Seen) (first calls : ℕ) (answer : Result Found Stop) → first ≡ s.sites → calls ≡ spine e →
    t ≡ record s { sites = s.sites + calls } → Gives (value called first e t) answer u → Gives (fresh_value called e s) answer u
fresh-numbered called e s t u first calls answer is_first is_calls is_t given =
    let step : value called s.sites e (record s { sites = s.sites + spine e }) ≡ value called first e t =
    sym (ap (λ n. value called n e t) is_first ∙ ap (λ v. value called s.sites e v) (is_t ∙ ap (λ n. record s { sites = s.sites + n }) is_calls)) in
    ends _ _ answer u (fresh-value called e s ∙ step) given

pub expression-fresh : (e : Expr) (s : Seen) → expression e s ≡ fresh_value false e s
unfolding expression fresh_value
expression-fresh e s = refl

module _ (is_called : Bool) (first : ℕ) (s : Seen) where
  pub value-Name : (at : Span) → value is_called first (expr.Name at) s ≡ name is_called at s
  unfolding value
  value-Name at = refl

  pub value-Number : (at : Span) → value is_called first (expr.Number at) s ≡ number at s
  unfolding value
  value-Number at = refl

  pub value-Character : (at : Span) → value is_called first (expr.Character at) s ≡ character at s
  unfolding value
  value-Character at = refl

  pub value-Text : (strings : List Span) → value is_called first (expr.Text strings) s ≡ text strings s
  unfolding value
  value-Text strings = refl

  pub value-Parenthesised : (p : ℕ) (e : Expr) → value is_called first (expr.Parenthesised p e) s
      ≡ and_then (fresh_value is_called e s) (λ f t. Good (record f { place = p }) t)
  unfolding value parenthesised fresh_value hidden hidden-the_row-Expr-1 shape-the_row-Expr-1
  value-Parenthesised p e = refl

  pub value-Index : (p : ℕ) (a i : Expr) → value is_called first (expr.Index p a i) s
      ≡ and_then (operand (value false first a) s) (λ x t. element_behind p x i t)
  unfolding value element element_behind expression hidden hidden-the_row-Expr-1 shape-the_row-Expr-1
  value-Index p a i = refl

  pub value-Call : (p : ℕ) (f : Expr) (es : List Expr) → value is_called first (expr.Call p f es) s
      ≡ and_then (callee (value true first f) s) (λ g t. call_behind p (first + spine f) g es t)
  unfolding value call call_behind hidden hidden-the_row-Expr-1 shape-the_row-Expr-1 hidden-the_row-Expr-2 shape-the_row-Expr-2
  value-Call p f es =
      then_alike (callee (value true first f) s) _ _ (λ g t. ap (λ r. and_then r (λ given u. called p (first + spine f) g given u)) (arguments_row es [] t))

  pub value-Access : (p : ℕ) (e : Expr) (operator : AccessOperator) (at : Span) → value is_called first (expr.Access p e operator at) s
      ≡ and_then (value false first e s) (λ f t. access p operator at (gives f) t)
  unfolding value hidden hidden-the_row-Expr-1 shape-the_row-Expr-1
  value-Access p e operator at = access-first p operator at (value false first e) s

  pub value-Step : (p : ℕ) (e : Expr) (operator : StepOperator) → value is_called first (expr.Step p e operator) s
      ≡ and_then (value false first e s) (λ f t. postfix p operator (gives f) t)
  unfolding value hidden hidden-the_row-Expr-1 shape-the_row-Expr-1
  value-Step p e operator = postfix-first p operator (value false first e) s

  pub value-Unary : (p : ℕ) (operator : UnaryOperator) (e : Expr) → value is_called first (expr.Unary p operator e) s
      ≡ and_then (expression e s) (λ f t. unary_of s.sites p operator f t)
  unfolding value expression hidden hidden-the_row-Expr-1 shape-the_row-Expr-1
  value-Unary p operator e = unary-reads p operator (expression e) s

  pub value-SizeofType : (p : ℕ) (n : TypeName) → value is_called first (expr.SizeofType p n) s
      ≡ and_then (type_of_name n s) (λ t u. size_of_type_name s.sites p t u)
  unfolding value hidden hidden-the_row-Expr-1 shape-the_row-Expr-1 hidden-the_row-Declarator-0 shape-the_row-Declarator-0 hidden-the_row-Spec-3 shape-the_row-Spec-3 hidden-the_row-TypeName-4 shape-the_row-TypeName-4
  value-SizeofType p n = size-reads p _ s ∙ ap (λ r. and_then r (λ t u. size_of_type_name s.sites p t u)) (type_of_name_row n s)

  pub value-Cast : (p : ℕ) (n : TypeName) (e : Expr) → value is_called first (expr.Cast p n e) s
      ≡ and_then (type_of_name n s) (λ to t. cast_behind p to e t)
  unfolding value cast cast_behind expression hidden hidden-the_row-Expr-1 shape-the_row-Expr-1 hidden-the_row-Declarator-0 shape-the_row-Declarator-0 hidden-the_row-Spec-3 shape-the_row-Spec-3 hidden-the_row-TypeName-4 shape-the_row-TypeName-4
  value-Cast p n e = ap (λ r. and_then r (λ to t. and_then (operand (expression e) t) (λ o u. cast_to p to o u))) (type_of_name_row n s)

  pub value-Binary : (p : ℕ) (a : Expr) (operator : BinaryOperator) (at : ℕ) (b : Expr) → value is_called first (expr.Binary p a operator at b) s
      ≡ and_then (operand (value false first a) s) (λ x t. operation_behind p operator x b t)
  unfolding value operation operation_behind expression hidden hidden-the_row-Expr-1 shape-the_row-Expr-1
  value-Binary p a operator at b = refl

  pub value-Conditional : (p : ℕ) (c a b : Expr) → value is_called first (expr.Conditional p c a b) s
      ≡ and_then (operand (value false first c) s) (λ x t. alternatives_behind p x a b t)
  unfolding value choice alternatives alternatives_behind choice_behind expression hidden hidden-the_row-Expr-1 shape-the_row-Expr-1
  value-Conditional p c a b = refl

  pub value-Assignment : (p : ℕ) (a : Expr) (operator : AssignmentOperator) (at : ℕ) (b : Expr) → value is_called first (expr.Assignment p a operator at b) s
      ≡ and_then (value false first a s) (λ l t. assignment_behind p operator l b t)
  unfolding value assignment assignment_behind right_side expression hidden hidden-the_row-Expr-1 shape-the_row-Expr-1
  value-Assignment p a operator at b = refl

module _ (p : ℕ) (s : Seen) where
  pub element-behind : (a : Operand) (i : Expr) → element_behind p a i s ≡ and_then (operand (expression i) s) (λ b t. element_by p a b t)
  unfolding element_behind
  element-behind a i = refl

  pub call-behind : (site : ℕ) (f : Operand) (es : List Expr) → call_behind p site f es s ≡ and_then (in_order argument es [] s) (λ given t. called p site f given t)
  unfolding call_behind
  call-behind site f es = refl

  pub cast-behind : (to : CType) (e : Expr) → cast_behind p to e s ≡ and_then (operand (expression e) s) (λ o t. cast_to p to o t)
  unfolding cast_behind
  cast-behind to e = refl

  pub operation-behind : (operator : BinaryOperator) (a : Operand) (e : Expr) →
      operation_behind p operator a e s ≡ and_then (operand (expression e) s) (λ b t. operation_on p operator a b t)
  unfolding operation_behind
  operation-behind operator a e = refl

  pub choice-behind : (c a : Operand) (e : Expr) → choice_behind p c a e s ≡ and_then (operand (expression e) s) (λ b t. chosen p c a b t)
  unfolding choice_behind
  choice-behind c a e = refl

  pub alternatives-behind : (c : Operand) (a b : Expr) → alternatives_behind p c a b s ≡ and_then (operand (expression a) s) (λ x t. choice_behind p c x b t)
  unfolding alternatives_behind
  alternatives-behind c a b = refl

  pub right-side : (operator : AssignmentOperator) (l : Found) (e : Expr) →
      right_side p operator l e s ≡ and_then (operand (expression e) s) (λ b t. assigned_by p operator l b t)
  unfolding right_side
  right-side operator l e = refl

  pub assignment-behind : (operator : AssignmentOperator) (l : Found) (e : Expr) →
      assignment_behind p operator l e s ≡ and_then (left_side l s) (λ _ t. right_side p operator l e t)
  unfolding assignment_behind
  assignment-behind operator l e = refl

pub ruleset behind_rules = (then_good, then_bad, element-behind, call-behind, cast-behind, operation-behind, choice-behind, right-side, assignment-behind)

-- a choice whose condition is read
module _ (is_called : Bool) (first p : ℕ) (e c a b : Expr) (s t : Seen) (x : Operand) (is : e ≡ expr.Conditional p c a b) (test : operand (value false first c) s ≡ Good x t) where
  choice_reads : value is_called first e s ≡ and_then (operand (expression a) t) (λ y u. choice_behind p x y b u)
  choice_reads =
      ap (λ w. value is_called first w s) is ∙ value-Conditional is_called first s p c a b
      ∙ then_good (operand (value false first c) s) (λ y u. alternatives_behind p y a b u) x t test ∙ alternatives-behind p t x a b

  pub choice-goes : (y : Operand) (u v : Seen) (answer : Result Found Stop) → operand (expression a) t ≡ Good y u → Gives (choice_behind p x y b u) answer v →
      Gives (value is_called first e s) answer v
  choice-goes y u v answer left given =
      ends (value is_called first e s) (choice_behind p x y b u) answer v
      (choice_reads ∙ then_good (operand (expression a) t) (λ z w. choice_behind p x z b w) y u left) given

  pub choice-stops : (d : Expr) (why : Stop) (u v : Seen) → d ≡ a → Gives (operand (expression d) t) (Err why) u → Gives (value is_called first e s) (Err why) v
  choice-stops d why u v part bad =
      stops (value is_called first e s) (operand (expression d) t) (λ z w. choice_behind p x z b w) why u v
      (choice_reads ∙ ap (λ z. and_then (operand (expression z) t) (λ y w. choice_behind p x y b w)) (sym part)) bad

pub operand-value : (first : ℕ) (e : Expr) (s : Seen) → operand (value false first e) s ≡ and_then (value false first e s) (λ f t. operand (gives f) t)
operand-value first e s = operand-first (value false first e) s

pub operand-expression : (e : Expr) (s : Seen) → operand (expression e) s ≡ and_then (expression e s) (λ f t. operand (gives f) t)
operand-expression e s = operand-first (expression e) s

pub callee-value : (first : ℕ) (e : Expr) (s : Seen) → callee (value true first e) s ≡ and_then (value true first e s) (λ f t. callee (gives f) t)
callee-value first e s = callee-first (value true first e) s

pub ruleset fresh_rules = (fresh-value, expression-fresh)

pub ruleset operand_rules = (then_good, then_bad, operand-value, operand-expression, callee-value)

pub ruleset value_rules = (then_good, then_bad, alternatives-behind, value-Name, value-Number, value-Character, value-Text, value-Parenthesised, value-Index, value-Call, value-Access, value-Step, value-Unary, value-SizeofType, value-Cast, value-Binary, value-Conditional, value-Assignment)
