-- Expressions.
--
--     expr    = assign { "," assign } .
--     assign  = cond | unary assignop assign .
--     cond    = binary [ "?" expr ":" cond ] .
--     cast    = unary | "(" typename ")" cast .
--     unary   = postfix | ( "++" | "--" ) unary | ( "&" | "*" | "+" | "-" | "~" | "!" ) cast
--             | "sizeof" unary | "sizeof" "(" typename ")" .
--     postfix = primary { "[" expr "]" | "(" [ assign { "," assign } ] ")" | "." ident | "->" ident | "++" | "--" } .
--     primary = ident | number | charconst | string { string } | "(" expr ")" .
--
-- `binary` is made of `cast` by the levels of binary operators, each of which leans to the left.
use Rattle.std.specs.Prelude.{ℕ, Bool, false, not, ◌&&◌, List, [], ◌∷◌, if◌then◌else◌}
use Rattle.std.specs.Str.{bytes_eq}
use Rattle.grammar.specs.Parts.{Parts, Return, Take, Call, Either}
use Rattle.c_tree.specs.declared.words.Span.{Span}
use Rattle.c_tree.specs.declared.expressions.Expr.{Expr}
use Rattle.c_tree.specs.declared.expressions.Expr.TheVariants as e
use Rattle.c_tree.specs.declared.expressions.AccessOperator.TheVariants as access
use Rattle.c_tree.specs.declared.expressions.StepOperator.TheVariants as step
use Rattle.c_tree.specs.declared.expressions.UnaryOperator.{UnaryOperator}
use Rattle.c_tree.specs.declared.expressions.UnaryOperator.TheVariants as unary
use Rattle.c_tree.specs.declared.expressions.BinaryOperator.{BinaryOperator}
use Rattle.c_tree.specs.declared.expressions.BinaryOperator.TheVariants as binary
use Rattle.c_tree.specs.declared.expressions.AssignmentOperator.{AssignmentOperator}
use Rattle.c_tree.specs.declared.expressions.AssignmentOperator.TheVariants as assignment
use Rattle.c_grammar.specs.declared.terminal.Terminal.{Terminal}
use Rattle.c_grammar.specs.declared.terminal.Terminal.TheVariants as k
use Rattle.c_grammar.specs.Lexemes.{Lexeme, span, place, is, is_among}
use Rattle.c_grammar.specs.Trees.{place_of, is_cast, is_conditional, is_unary}
use Rattle.c_grammar.specs.declared.state.Front.{Front}
use Rattle.c_grammar.specs.declared.state.Precedence.{Precedence}
use Rattle.c_grammar.specs.declared.state.Front.TheVariants.{Cast as CastFront, Unary as UnaryFront, Bare as BareFront, Opened as OpenedFront}
use Rattle.c_grammar.specs.declared.state.Precedence.TheVariants.{LogicalOr, LogicalAnd, InclusiveOr, ExclusiveOr, BitwiseAnd, Equality, Relational, Shift, Additive, Multiplicative}
use Rattle.c_grammar.specs.Rules.{Declared, Scope, Rule, Expression, Assignment, Conditional, Prefix, Arguments, MoreArguments, TypeName, Binary, Operand, Postfix, Texts, ValueOf}

-- parts of a rule of this grammar
abbrev pub Reading : Type 0 → Type 0
Reading A = Parts Lexeme Rule ValueOf A

-- a token of this terminal
abbrev pub word : {A : Type 0} → Terminal → (Lexeme → Reading A) → Reading A
word terminal rest = Take (is terminal) rest

-- no token can stand here
abbrev pub dead_end : {A : Type 0} → A → Reading A
dead_end x = Take (λ t. false) (λ t. Return x)

-- The text is a typedef name: it was declared, and the last time as one.
abbrev pub is_type_name : List Declared → List ℕ → Bool
is_type_name [] text = false
is_type_name (latest ∷ before) text = if bytes_eq latest.name text then latest.is_type else is_type_name before text

abbrev pub has_type : List Declared → Lexeme → Bool
has_type types t = is_type_name types t.text

-- a name that is no typedef name in this scope
abbrev pub is_plain_name : Scope → Lexeme → Bool
is_plain_name s t = is k.Name t && not (has_type s.types t)

-- expr: commas, which lean to the left
abbrev pub comma_step : Scope → Expr → Reading Expr
comma_step s a = word k.Comma (λ t. Call (Assignment s) (λ b. Return (e.Binary (place_of a) a binary.Comma (place t) b)))

-- assign: a unary expression before an assignment operator begins as `cond` does, so the operator is asked for
-- behind a `cond`, and must stand behind a unary one. Nothing goes on behind the assignment, which is not unary.
abbrev pub assignment_operators : List Terminal
assignment_operators =
    k.Equal ∷ k.StarEqual ∷ k.SlashEqual ∷ k.PercentEqual ∷ k.PlusEqual ∷ k.MinusEqual ∷ k.LeftShiftEqual ∷ k.RightShiftEqual ∷ k.AmpersandEqual
    ∷ k.CaretEqual ∷ k.BarEqual ∷ []

abbrev pub assignment_operator : Terminal → AssignmentOperator
assignment_operator k.StarEqual = assignment.Multiply
assignment_operator k.SlashEqual = assignment.Divide
assignment_operator k.PercentEqual = assignment.Remainder
assignment_operator k.PlusEqual = assignment.Add
assignment_operator k.MinusEqual = assignment.Subtract
assignment_operator k.LeftShiftEqual = assignment.LeftShift
assignment_operator k.RightShiftEqual = assignment.RightShift
assignment_operator k.AmpersandEqual = assignment.And
assignment_operator k.CaretEqual = assignment.ExclusiveOr
assignment_operator k.BarEqual = assignment.Or
assignment_operator _ = assignment.Plain

abbrev pub assignment_step : Scope → Expr → Reading Expr
assignment_step s a =
    Take (λ t. is_among assignment_operators t && is_unary a)
    (λ t. Call (Assignment s) (λ b. Return (e.Assignment (place_of a) a (assignment_operator t.terminal) (place t) b)))

-- cond: the `?` behind a whole conditional expression would belong to the `cond` at its end
abbrev pub conditional_step : Scope → Expr → Reading Expr
conditional_step s a =
    Take (λ t. is k.Question t && not (is_conditional a))
    (λ t. Call (Expression s) (λ b. word k.Colon (λ u. Call (Conditional s) (λ c. Return (e.Conditional (place_of a) a b c)))))

-- the operators of a level
abbrev pub operators : Precedence → List Terminal
operators LogicalOr = k.OrOr ∷ []
operators LogicalAnd = k.AndAnd ∷ []
operators InclusiveOr = k.Bar ∷ []
operators ExclusiveOr = k.Caret ∷ []
operators BitwiseAnd = k.Ampersand ∷ []
operators Equality = k.EqualEqual ∷ k.NotEqual ∷ []
operators Relational = k.Less ∷ k.Greater ∷ k.LessOrEqual ∷ k.GreaterOrEqual ∷ []
operators Shift = k.LeftShift ∷ k.RightShift ∷ []
operators Additive = k.Plus ∷ k.Minus ∷ []
operators Multiplicative = k.Star ∷ k.Slash ∷ k.Percent ∷ []

abbrev pub binary_operator : Terminal → BinaryOperator
binary_operator k.OrOr = binary.LogicalOr
binary_operator k.AndAnd = binary.LogicalAnd
binary_operator k.Bar = binary.Or
binary_operator k.Caret = binary.ExclusiveOr
binary_operator k.Ampersand = binary.And
binary_operator k.EqualEqual = binary.Equal
binary_operator k.NotEqual = binary.NotEqual
binary_operator k.Less = binary.Less
binary_operator k.Greater = binary.Greater
binary_operator k.LessOrEqual = binary.LessOrEqual
binary_operator k.GreaterOrEqual = binary.GreaterOrEqual
binary_operator k.LeftShift = binary.LeftShift
binary_operator k.RightShift = binary.RightShift
binary_operator k.Plus = binary.Add
binary_operator k.Minus = binary.Subtract
binary_operator k.Star = binary.Multiply
binary_operator k.Slash = binary.Divide
binary_operator _ = binary.Remainder

-- what the operators of a level stand between: the next tighter level, and casts at the tightest
abbrev pub tighter : Precedence → Scope → (Expr → Reading Expr) → Reading Expr
tighter LogicalOr s = Call (Binary LogicalAnd s)
tighter LogicalAnd s = Call (Binary InclusiveOr s)
tighter InclusiveOr s = Call (Binary ExclusiveOr s)
tighter ExclusiveOr s = Call (Binary BitwiseAnd s)
tighter BitwiseAnd s = Call (Binary Equality s)
tighter Equality s = Call (Binary Relational s)
tighter Relational s = Call (Binary Shift s)
tighter Shift s = Call (Binary Additive s)
tighter Additive s = Call (Binary Multiplicative s)
tighter Multiplicative s = Call (Operand CastFront s)

abbrev pub binary_step : Precedence → Scope → Expr → Reading Expr
binary_step l s a =
    Take (is_among (operators l)) (λ t. tighter l s (λ b. Return (e.Binary (place_of a) a (binary_operator t.terminal) (place t) b)))

-- cast and unary: an operator before its operand, or a postfix expression. A cast begins as a primary in
-- parentheses does, and both are one node from the `(` on, so `Primary CastFront` reads either of them; nothing
-- of a postfix expression goes on behind a cast.
abbrev pub operand : Front → Scope → Reading Expr
operand (OpenedFront p) s = Call (Postfix (OpenedFront p) s) Return
operand f s = Either (Call (Prefix s) Return) (Call (Postfix f s) Return)

abbrev pub cast_operators : List Terminal
cast_operators = k.Ampersand ∷ k.Star ∷ k.Plus ∷ k.Minus ∷ k.Tilde ∷ k.Exclamation ∷ []

abbrev pub unary_operator : Terminal → UnaryOperator
unary_operator k.Increment = unary.Increment
unary_operator k.Decrement = unary.Decrement
unary_operator k.Ampersand = unary.Address
unary_operator k.Star = unary.Indirection
unary_operator k.Plus = unary.Plus
unary_operator k.Minus = unary.Minus
unary_operator k.Tilde = unary.Complement
unary_operator _ = unary.Not

-- sizeof: behind `sizeof (` stands a type name, or the rest of a unary expression that begins with this `(`. That
-- one is a node of its own, of which the `(` is the first token; since the type name has no such node, the `(` is
-- never refused for depth, and a node that begins with the token behind it asks the same.
abbrev pub sizeof_parts : Scope → ℕ → Reading Expr
sizeof_parts s p =
    Either (word k.OpenParen (λ o. Either
    (Call (TypeName s) (λ n. word k.CloseParen (λ c. Return (e.SizeofType p n))))
    (Call (Postfix (OpenedFront (place o)) s) (λ a. Return (e.Unary p unary.Sizeof a)))))
    (Call (Operand BareFront s) (λ a. Return (e.Unary p unary.Sizeof a)))

abbrev pub prefix : Scope → Reading Expr
prefix s =
    Either (Take (is_among (k.Increment ∷ k.Decrement ∷ []))
    (λ t. Call (Operand UnaryFront s) (λ a. Return (e.Unary (place t) (unary_operator t.terminal) a))))
    (Either (Take (is_among cast_operators)
    (λ t. Call (Operand CastFront s) (λ a. Return (e.Unary (place t) (unary_operator t.terminal) a))))
    (word k.Sizeof (λ t. sizeof_parts s (place t))))

-- postfix: each step stands behind what is no cast
abbrev pub behind : {A : Type 0} → Expr → Terminal → (Lexeme → Reading A) → Reading A
behind a terminal rest = Take (λ t. is terminal t && not (is_cast a)) rest

abbrev pub postfix_step : Scope → Expr → Reading Expr
postfix_step s a =
    Either (behind a k.OpenBracket (λ t. Call (Expression s) (λ i. word k.CloseBracket (λ c. Return (e.Index (place_of a) a i)))))
    (Either (behind a k.OpenParen (λ t. Call (Arguments s) (λ given. word k.CloseParen (λ c. Return (e.Call (place_of a) a given)))))
    (Either (behind a k.Dot (λ t. word k.Name (λ m. Return (e.Access (place_of a) a access.Dot (span m)))))
    (Either (behind a k.Arrow (λ t. word k.Name (λ m. Return (e.Access (place_of a) a access.Arrow (span m)))))
    (Either (behind a k.Increment (λ t. Return (e.Step (place_of a) a step.Increment)))
    (behind a k.Decrement (λ t. Return (e.Step (place_of a) a step.Decrement)))))))

abbrev pub arguments : Scope → Reading (List Expr)
arguments s = Either (Call (Assignment s) (λ a. Call (MoreArguments s) (λ more. Return (a ∷ more)))) (Return [])

abbrev pub more_arguments : Scope → Reading (List Expr)
more_arguments s =
    Either (word k.Comma (λ t. Call (Assignment s) (λ a. Call (MoreArguments s) (λ more. Return (a ∷ more))))) (Return [])

-- primary
abbrev pub texts : Reading (List Span)
texts = Either (word k.Text (λ t. Call Texts (λ more. Return (span t ∷ more)))) (Return [])

abbrev pub inside : Scope → ℕ → Reading Expr
inside s p = Call (Expression s) (λ a. word k.CloseParen (λ c. Return (e.Parenthesised p a)))

abbrev pub cast_rest : Scope → ℕ → Reading Expr
cast_rest s p = Call (TypeName s) (λ n. word k.CloseParen (λ c. Call (Operand CastFront s) (λ a. Return (e.Cast p n a))))

abbrev pub bare_primary : Scope → Reading Expr
bare_primary s =
    Either (Take (is_plain_name s) (λ t. Return (e.Name (span t))))
    (Either (word k.Number (λ t. Return (e.Number (span t))))
    (Either (word k.Character (λ t. Return (e.Character (span t))))
    (word k.Text (λ t. Call Texts (λ more. Return (e.Text (span t ∷ more)))))))

abbrev pub primary : Front → Scope → Reading Expr
primary CastFront s = Either (bare_primary s) (word k.OpenParen (λ t. Either (cast_rest s (place t)) (inside s (place t))))
primary UnaryFront s = Either (bare_primary s) (word k.OpenParen (λ t. inside s (place t)))
primary BareFront s = bare_primary s
primary (OpenedFront p) s = inside s p
