-- What a parser of this grammar looks at beside it, by the next token: what may begin each rule (its first set), what each
-- reads from no token (nullable), and what may stand behind it (its follow set). It is no part of the meaning: that it
-- fits the grammar is proved (`grammar_is_ll1`), and a grammar read by another way of parsing would have none of it.
use Rattle.std.specs.Prelude.{ℕ, ◌+◌, Bool, true, false, not, ◌&&◌, ◌||◌, List, [], ◌∷◌, Option, Some, None, take, is_none, codes}
use Rattle.grammar.specs.Parser.{Lookahead}
use Rattle.c_tree.specs.declared.words.AttrSpelling.{AttrSpelling}
use Rattle.c_tree.specs.declared.words.AttrSpelling.TheVariants.{Gnu}
use Rattle.c_grammar.specs.declared.terminal.Terminal.{Terminal}
use Rattle.c_grammar.specs.declared.terminal.Terminal.TheVariants as k
use Rattle.c_grammar.specs.Lexemes.{Lexeme, is, is_among}
use Rattle.c_grammar.specs.Trees.{is_cast}
use Rattle.c_grammar.specs.declared.state.Front.{Front}
use Rattle.c_grammar.specs.declared.state.Precedence.{Precedence}
use Rattle.c_grammar.specs.declared.state.SpecifierContext.{SpecifierContext}
use Rattle.c_grammar.specs.declared.state.DeclaratorKind.{DeclaratorKind}
use Rattle.c_grammar.specs.declared.state.Bracket.{Bracket}
use Rattle.c_grammar.specs.declared.state.Reach.{Reach}
use Rattle.c_grammar.specs.declared.state.Front.TheVariants.{Bare as BareFront, Opened as OpenedFront}
use Rattle.c_grammar.specs.declared.state.Precedence.TheVariants.{LogicalOr, LogicalAnd, InclusiveOr, ExclusiveOr, BitwiseAnd, Equality, Relational, Shift, Additive, Multiplicative}
use Rattle.c_grammar.specs.declared.state.SpecifierContext.TheVariants.{File as FileContext, Block as BlockContext, Member as MemberContext, «Type» as TypeContext}
use Rattle.c_grammar.specs.declared.state.DeclaratorKind.TheVariants.{Ordinary as OrdinaryKind, Member as MemberKind, Parameter as ParameterKind, Abstract as AbstractKind}
use Rattle.c_grammar.specs.declared.state.Bracket.TheVariants.{Unknown, Barred, Opened}
use Rattle.c_grammar.specs.declared.state.Reach.TheVariants.{Called}
use Rattle.c_grammar.specs.Rules.{Scope, SpecsState, SpecsRead, DeclaratorRead, Rule, Expression, Assignment, Conditional, Prefix, Arguments, MoreArguments, Binary, Operand, Postfix, Primary, Texts, Specs, Members, MemberDeclarators, Enumerators, TypeName, ClangWords, GnuWords, Effect, Attributes, Declarator, Direct, Pointer, Group, Qualifiers, Params, ParamList, Initializer, Braces, Initializers, InitDeclarators, MoreDeclarators, Declaration, MaybeExpression, Statement, Block, BlockItems, External, Externals, Unit, ValueOf}
use Rattle.c_grammar.specs.Expressions.{is_plain_name, assignment_operators, operand, cast_operators, prefix, primary}
use Rattle.c_grammar.specs.Specifiers.{no_specs, is_ordinary_name, is_qualifier, is_spec_word, is_whole, is_abstract, is_barred, is_word, has_argument, is_plain_effect, specs, attributes}
use Rattle.c_grammar.specs.Declarators.{absent, is_free_name, no_params, declarator}
use Rattle.c_grammar.specs.Statements.{externals, file_scope}

-- tokens that begin a primary, of which a parenthesis isn't one; a prefix; and an expression
abbrev pub starts_bare : Scope → Lexeme → Bool
starts_bare s t = is_among (k.Number ∷ k.Character ∷ k.Text ∷ []) t || is_plain_name s t

abbrev pub starts_prefix : Lexeme → Bool
starts_prefix t = is_among (k.Increment ∷ k.Decrement ∷ k.Sizeof ∷ cast_operators) t

abbrev pub starts_expression : Scope → Lexeme → Bool
starts_expression s t = starts_prefix t || (is k.OpenParen t || starts_bare s t)

abbrev pub starts_primary : Front → Scope → Lexeme → Bool
starts_primary BareFront s t = starts_bare s t
starts_primary (OpenedFront p) s t = starts_expression s t
starts_primary _ s t = is k.OpenParen t || starts_bare s t

abbrev pub starts_specs : SpecifierContext → Scope → SpecsState → Lexeme → Bool
starts_specs context s state t =
    is_spec_word context s state t
    || ((is k.Struct t && is_none state.type_specifiers)
    || ((is k.Enum t && is_none state.type_specifiers) || (is k.Attribute t || (is k.OpenBracket t && not (is_barred context)))))

-- what stands behind a `[` that makes an array
abbrev pub starts_size : Scope → Lexeme → Bool
starts_size s t = is k.CloseBracket t || starts_expression s t

abbrev pub starts_direct : Scope → DeclaratorKind → Bracket → Lexeme → Bool
starts_direct s kind (Opened p) t = starts_size s t
starts_direct s OrdinaryKind b t = is_ordinary_name t || is k.OpenParen t
starts_direct s MemberKind b t = is_among (k.Name ∷ k.OpenParen ∷ []) t
starts_direct s ParameterKind Unknown t = is_ordinary_name t || is_among (k.OpenParen ∷ k.OpenBracket ∷ []) t
starts_direct s ParameterKind Barred t = is_free_name s t || is k.OpenParen t
starts_direct s ParameterKind b t = is_ordinary_name t || is k.OpenParen t
starts_direct s AbstractKind Unknown t = is_among (k.OpenParen ∷ k.OpenBracket ∷ []) t
starts_direct s AbstractKind b t = is k.OpenParen t

abbrev pub starts_declarator : Scope → DeclaratorKind → Bracket → Lexeme → Bool
starts_declarator s kind (Opened p) t = starts_size s t
starts_declarator s kind b t = is k.Star t || starts_direct s kind b t

abbrev pub is_effect : AttrSpelling → Lexeme → Bool
is_effect spelling t = has_argument t || is_plain_effect spelling t

abbrev pub starts_statement : Scope → Bool → Lexeme → Bool
starts_statement s loop t =
    is_among (k.OpenBrace ∷ k.If ∷ k.While ∷ k.Do ∷ k.For ∷ k.Return ∷ k.Semicolon ∷ []) t
    || ((is_among (k.Break ∷ k.Continue ∷ []) t && loop) || starts_expression s t)

-- tokens that end an expression, an assignment, a conditional, a binary expression of each level, an operand
abbrev pub ends_expression : Lexeme → Bool
ends_expression t = is_among (k.CloseParen ∷ k.CloseBracket ∷ k.Semicolon ∷ k.Colon ∷ []) t

abbrev pub ends_assignment : Lexeme → Bool
ends_assignment t = is_among (k.Comma ∷ k.CloseBrace ∷ []) t || ends_expression t

abbrev pub ends_conditional : Lexeme → Bool
ends_conditional t = is_among assignment_operators t || ends_assignment t

-- all binary operators, from the loosest to the tightest, and how many of them are looser than a level
abbrev pub all_operators : List Terminal
all_operators =
    k.OrOr ∷ k.AndAnd ∷ k.Bar ∷ k.Caret ∷ k.Ampersand ∷ k.EqualEqual ∷ k.NotEqual ∷ k.Less ∷ k.Greater ∷ k.LessOrEqual ∷ k.GreaterOrEqual
    ∷ k.LeftShift ∷ k.RightShift ∷ k.Plus ∷ k.Minus ∷ k.Star ∷ k.Slash ∷ k.Percent ∷ []

abbrev pub looser : Precedence → ℕ
looser LogicalOr = 0
looser LogicalAnd = 1
looser InclusiveOr = 2
looser ExclusiveOr = 3
looser BitwiseAnd = 4
looser Equality = 5
looser Relational = 7
looser Shift = 11
looser Additive = 13
looser Multiplicative = 15

abbrev pub ends_binary : Precedence → Lexeme → Bool
ends_binary l t = is_among (take (looser l) all_operators) t || (is k.Question t || ends_conditional t)

abbrev pub ends_operand : Lexeme → Bool
ends_operand t = is_among all_operators t || (is k.Question t || ends_conditional t)

abbrev pub steps : List Terminal
steps = k.OpenBracket ∷ k.OpenParen ∷ k.Dot ∷ k.Arrow ∷ k.Increment ∷ k.Decrement ∷ []

abbrev pub ends_primary : Bool → Lexeme → Bool
ends_primary cast t = (is_among steps t && not cast) || ends_operand t

-- what may stand behind specifiers, behind a declarator, and behind a `[` whose array isn't read yet
abbrev pub ends_specs : SpecifierContext → Option ℕ → Scope → Lexeme → Bool
ends_specs context None s t = is_among (k.Star ∷ k.Name ∷ k.OpenParen ∷ k.Semicolon ∷ k.Comma ∷ k.CloseParen ∷ []) t
ends_specs context (Some p) s t = not (is_abstract context) || starts_size s t

abbrev pub ends_declarator : Lexeme → Bool
ends_declarator t = is_among (k.CloseParen ∷ k.Comma ∷ k.Semicolon ∷ k.Equal ∷ k.OpenBrace ∷ []) t

abbrev pub ends_direct : Option ℕ → Lexeme → Bool
ends_direct None t = ends_declarator t
ends_direct (Some p) t = false

abbrev pub is_called : Reach → Bool
is_called Called = true
is_called reach = false

abbrev pub ends_group : Option ℕ → Reach → Scope → Lexeme → Bool
ends_group None reach s t = (is k.OpenBracket t && not (is_called reach)) || (is k.OpenParen t || ends_declarator t)
ends_group (Some p) reach s t = starts_size s t

abbrev pub ends_attributes : Option ℕ → Scope → Lexeme → Bool
ends_attributes None s t = not (is_among (k.OpenBracket ∷ k.Attribute ∷ []) t)
ends_attributes (Some p) s t = starts_size s t

abbrev pub first_of : Rule → Lexeme → Bool
first_of (Expression s) t = starts_expression s t
first_of (Assignment s) t = starts_expression s t
first_of (Conditional s) t = starts_expression s t
first_of (Binary l s) t = starts_expression s t
first_of (Operand (OpenedFront p) s) t = starts_expression s t
first_of (Operand f s) t = starts_prefix t || starts_primary f s t
first_of (Prefix s) t = starts_prefix t
first_of (Postfix f s) t = starts_primary f s t
first_of (Primary f s) t = starts_primary f s t
first_of (Arguments s) t = starts_expression s t
first_of (MoreArguments s) t = is k.Comma t
first_of Texts t = is k.Text t
first_of (Specs context s state) t = starts_specs context s state t
first_of (Members s) t = starts_specs MemberContext s no_specs t
first_of (MemberDeclarators s) t = starts_declarator s MemberKind Unknown t
first_of (Enumerators s) t = is_ordinary_name t
first_of (TypeName s) t = starts_specs TypeContext s no_specs t
first_of ClangWords t = is_word (codes "clang") t
first_of GnuWords t = is_effect Gnu t
first_of (Effect spelling) t = is_effect spelling t
first_of (Attributes s) t = is_among (k.OpenBracket ∷ k.Attribute ∷ []) t
first_of (Declarator s kind b) t = starts_declarator s kind b t
first_of (Direct s kind b) t = starts_direct s kind b t
first_of (Pointer s kind) t = is k.Star t
first_of (Group s kind) t = is k.OpenParen t
first_of Qualifiers t = is_qualifier t
first_of (Params s) t = starts_specs TypeContext s no_specs t
first_of (ParamList context s before) t = starts_specs context s no_specs t
first_of (Initializer s) t = is k.OpenBrace t || starts_expression s t
first_of (Braces s) t = is k.OpenBrace t
first_of (Initializers s) t = is k.OpenBrace t || starts_expression s t
first_of (InitDeclarators s typedefs) t = starts_declarator s OrdinaryKind Unknown t
first_of (MoreDeclarators s typedefs) t = is_among (k.Comma ∷ k.Semicolon ∷ []) t
first_of (Declaration s) t = starts_specs BlockContext s no_specs t
first_of (MaybeExpression s) t = starts_expression s t
first_of (Statement s loop) t = starts_statement s loop t
first_of (Block s loop) t = is k.OpenBrace t
first_of (BlockItems s loop) t = starts_specs BlockContext s no_specs t || starts_statement s loop t
first_of (External s) t = starts_specs FileContext s no_specs t
first_of (Externals s) t = starts_specs FileContext s no_specs t
first_of Unit t = starts_specs FileContext file_scope no_specs t

-- the specifiers may end here
abbrev pub empty_specs : Bool → Option SpecsRead
empty_specs true = Some (record { specs = []; bracket = None })
empty_specs false = None

abbrev pub empty_direct : DeclaratorKind → Bracket → Option DeclaratorRead
empty_direct kind (Opened p) = Some (absent (Some p))
empty_direct kind Barred = None
empty_direct ParameterKind b = Some (absent None)
empty_direct AbstractKind b = Some (absent None)
empty_direct kind b = None

abbrev pub empty_declarator : DeclaratorKind → Bracket → Option DeclaratorRead
empty_declarator kind (Opened p) = None
empty_declarator kind b = empty_direct kind b

abbrev pub nullable_of : (n : Rule) → Option (ValueOf n)
nullable_of (Arguments s) = Some []
nullable_of (MoreArguments s) = Some []
nullable_of Texts = Some []
nullable_of (Specs context s state) = empty_specs (is_whole context state)
nullable_of (Attributes s) = Some (record { attributes = []; bracket = None })
nullable_of (Declarator s kind b) = empty_declarator kind b
nullable_of (Direct s kind b) = empty_direct kind b
nullable_of Qualifiers = Some []
nullable_of (Params s) = Some no_params
nullable_of (MaybeExpression s) = Some None
nullable_of (BlockItems s loop) = Some []
nullable_of (Externals s) = Some []
nullable_of Unit = Some (record { externals = [] })
nullable_of _ = None

-- What ends in a token that closes it may stand before any token.
abbrev pub follow_of : (n : Rule) → ValueOf n → Lexeme → Bool
follow_of (Expression s) x t = ends_expression t
follow_of (Assignment s) x t = ends_assignment t
follow_of (Conditional s) x t = ends_conditional t
follow_of (Binary l s) x t = ends_binary l t
follow_of (Operand f s) x t = ends_operand t
follow_of (Prefix s) x t = ends_operand t
follow_of (Postfix f s) x t = ends_operand t
follow_of (Primary f s) x t = ends_primary (is_cast x) t
follow_of (Arguments s) x t = is k.CloseParen t
follow_of (MoreArguments s) x t = is k.CloseParen t
follow_of Texts x t = ends_primary false t
follow_of (Specs context s state) x t = ends_specs context x.bracket s t
follow_of (TypeName s) x t = is k.CloseParen t
follow_of (Effect spelling) x t = is_among (k.Comma ∷ k.CloseBracket ∷ k.CloseParen ∷ []) t
follow_of (Attributes s) x t = ends_attributes x.bracket s t
follow_of (Declarator s kind b) x t = ends_declarator t
follow_of (Direct s kind b) x t = ends_direct x.bracket t
follow_of (Pointer s kind) x t = ends_declarator t
follow_of (Group s kind) x t = ends_group x.bracket x.reach s t
follow_of Qualifiers x t = not (is_qualifier t)
follow_of (Params s) x t = is k.CloseParen t
follow_of (ParamList context s before) x t = is k.CloseParen t
follow_of (Initializer s) x t = is_among (k.Comma ∷ k.CloseBrace ∷ k.Semicolon ∷ []) t
follow_of (MaybeExpression s) x t = is_among (k.Semicolon ∷ k.CloseParen ∷ []) t
follow_of (Statement s loop) x t = not (is k.Else t && x.is_open)
follow_of (BlockItems s loop) x t = is k.CloseBrace t
follow_of (Externals s) x t = false
follow_of Unit x t = false
follow_of _ x t = true

abbrev pub level_rank : Precedence → ℕ
level_rank LogicalOr = 19
level_rank LogicalAnd = 18
level_rank InclusiveOr = 17
level_rank ExclusiveOr = 16
level_rank BitwiseAnd = 15
level_rank Equality = 14
level_rank Relational = 13
level_rank Shift = 12
level_rank Additive = 11
level_rank Multiplicative = 10

-- A primary whose parenthesis was read before may begin with a whole expression.
abbrev pub primary_rank : Front → ℕ
primary_rank (OpenedFront p) = 23
primary_rank _ = 2

abbrev pub operand_rank : Front → ℕ
operand_rank (OpenedFront p) = 25
operand_rank _ = 4

abbrev pub rank_of_rule : Rule → ℕ
rank_of_rule (Expression s) = 22
rank_of_rule (Assignment s) = 21
rank_of_rule (Conditional s) = 20
rank_of_rule (Binary l s) = level_rank l
rank_of_rule (Operand f s) = operand_rank f
rank_of_rule (Postfix f s) = primary_rank f + 1
rank_of_rule (Primary f s) = primary_rank f
rank_of_rule (Arguments s) = 23
rank_of_rule (Members s) = 27
rank_of_rule (MemberDeclarators s) = 26
rank_of_rule (TypeName s) = 26
rank_of_rule GnuWords = 2
rank_of_rule (Declarator s kind b) = 25
rank_of_rule (Direct s kind b) = 24
rank_of_rule (Params s) = 27
rank_of_rule (ParamList context s before) = 26
rank_of_rule (Initializer s) = 24
rank_of_rule (Initializers s) = 25
rank_of_rule (InitDeclarators s typedefs) = 26
rank_of_rule (Declaration s) = 27
rank_of_rule (MaybeExpression s) = 24
rank_of_rule (Statement s loop) = 28
rank_of_rule (BlockItems s loop) = 29
rank_of_rule (External s) = 28
rank_of_rule (Externals s) = 29
rank_of_rule Unit = 30
rank_of_rule _ = 1

abbrev pub c_lookahead : Lookahead Lexeme Rule ValueOf
c_lookahead = record { first = first_of; nullable = nullable_of; follow = follow_of; rank = rank_of_rule; ranks = 40 }
