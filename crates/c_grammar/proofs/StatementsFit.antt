-- One token decides in initializers, declarations, statements and the file.
use Rattle.std.proofs.Common.{ℕ, Bool, true, false, not, ◌&&◌, ◌||◌, List, Option, Some, None, refl}
use Rattle.grammar.proofs.Checked.{within, apart, alike}
use Rattle.c_grammar.specs.Expressions.{has_type}
use Rattle.c_grammar.specs.declared.state.SpecifierContext.TheVariants.{File as FileContext, Block as BlockContext}
use Rattle.c_grammar.specs.declared.state.DeclaratorKind.TheVariants.{Ordinary as OrdinaryKind}
use Rattle.c_grammar.specs.declared.state.Bracket.TheVariants.{Unknown}
use Rattle.c_grammar.specs.Rules.{Declared, Scope, Specs, Initializer, Braces, Initializers, InitDeclarators, MoreDeclarators, Declaration, MaybeExpression, Statement, Block, BlockItems, External, Externals, Unit}
use Rattle.c_grammar.specs.declared.terminal.Terminal.TheVariants as k
use Rattle.c_grammar.specs.Lexemes.{is}
use Rattle.c_grammar.specs.Specifiers.{no_specs}
use Rattle.c_grammar.specs.Statements.{file_scope}
use Rattle.c_grammar.specs.Lookahead.{starts_specs, starts_expression, starts_statement, starts_declarator, ends_specs}
use Rattle.c_grammar.proofs.Every.{All, rows, self, call_first, optional_first, apart_empty, names_differ, names_apart, names_either}
use Rattle.c_grammar.proofs.Fine.{Fine, begins_not}

-- behind an `if` without `else` stands no `else`
else_begins : (open_if : Bool) → All (λ t. within ((is k.Else t && not open_if) || false) (not (is k.Else t && open_if)))
else_begins true = λ x p. refl
else_begins false = λ x p. refl

else_follows : (open_if : Bool) → All (λ t. within (not (is k.Else t && true)) (not (is k.Else t && open_if)))
else_follows true = λ x p. refl
else_follows false = λ x p. refl

while_follows : (open_if : Bool) → All (λ t. within (is k.While t) (not (is k.Else t && open_if)))
while_follows true = λ x p. refl
while_follows false = λ x p. refl

brace_follows : (open_if : Bool) → All (λ t. within (is k.CloseBrace t) (not (is k.Else t && open_if)))
brace_follows true = λ x p. refl
brace_follows false = λ x p. refl

item_follows : (s : Scope) (loop open_if : Bool)
    → All (λ t. within ((starts_specs BlockContext s no_specs t || starts_statement s loop t) || false) (not (is k.Else t && open_if)))
item_follows s loop true = λ x p. refl
item_follows s loop false = λ x p. refl

-- declarations and statements begin apart
for_first : (block : Bool) (types : List Declared)
    → All (λ t. apart (starts_specs BlockContext (record { types = types; block = block }) no_specs t || false)
    (starts_expression (record { types = types; block = block }) t || is k.Semicolon t))
for_first true types = λ x p. names_differ (has_type types (record { terminal = k.Name; token = p; text = x }))
for_first false types = λ x p. names_differ (has_type types (record { terminal = k.Name; token = p; text = x }))

item_first : (block loop : Bool) (types : List Declared)
    → All (λ t. apart (starts_specs BlockContext (record { types = types; block = block }) no_specs t || false)
    ((starts_statement (record { types = types; block = block }) loop t || false) || false))
item_first true loop types = λ x p. names_apart (has_type types (record { terminal = k.Name; token = p; text = x }))
item_first false loop types = λ x p. names_apart (has_type types (record { terminal = k.Name; token = p; text = x }))

items_first : (block loop : Bool) (types : List Declared)
    → All (λ t. alike (starts_specs BlockContext (record { types = types; block = block }) no_specs t || starts_statement (record { types = types; block = block }) loop t)
    ((starts_specs BlockContext (record { types = types; block = block }) no_specs t || false)
    || ((starts_statement (record { types = types; block = block }) loop t || false) || false)))
items_first true true types = λ x p. names_either (has_type types (record { terminal = k.Name; token = p; text = x }))
items_first true false types = λ x p. names_either (has_type types (record { terminal = k.Name; token = p; text = x }))
items_first false true types = λ x p. names_either (has_type types (record { terminal = k.Name; token = p; text = x }))
items_first false false types = λ x p. names_either (has_type types (record { terminal = k.Name; token = p; text = x }))

-- declarators and `;` follow specifiers of declarations
block_specs : (s : Scope) (o : Option ℕ) → All (λ t. within (is k.Semicolon t || (starts_declarator s OrdinaryKind Unknown t || false)) (ends_specs BlockContext o s t))
block_specs s None = λ x p. refl
block_specs s (Some q) = λ x p. refl

file_specs : (s : Scope) (o : Option ℕ) → All (λ t. within (is k.Semicolon t || (starts_declarator s OrdinaryKind Unknown t || false)) (ends_specs FileContext o s t))
file_specs s None = λ x p. refl
file_specs s (Some q) = λ x p. refl

pub initializer_fine : (s : Scope) → Fine (Initializer s)
initializer_fine s = (search rows depth 20, refl, ((refl, (λ a e. tt)), (refl, (λ a e. tt))), (refl, (λ x p. refl), (λ x p. refl), (λ a. ((λ x p. refl), (λ x p. refl), tt)), (λ a. ((λ x p. refl), (λ x p. refl), tt))))

pub braces_fine : (s : Scope) → Fine (Braces s)
braces_fine s = ((λ x p. refl), refl, refl, tt, (λ t e. (λ a. ((λ x p. refl), (λ x p. refl), tt))))

pub initializers_fine : (s : Scope) → Fine (Initializers s)
initializers_fine s = (search rows depth 20, refl, (refl, (λ a e. (tt, tt))), (λ a. ((λ x p. refl), (λ x p. refl), (refl, (λ x p. refl), (λ x p. refl), (λ t e. tt), (λ t e. (refl, (λ x p. refl), (λ x p. refl), (λ t e. tt), (λ a. ((λ x p. refl), (λ x p. refl), tt))))))))

pub init_declarators_fine : (s : Scope) (b : Bool) → Fine (InitDeclarators s b)
init_declarators_fine s b = (call_first (λ t. starts_declarator s OrdinaryKind Unknown t), refl, (refl, (λ a e. (tt, (refl, (λ a e. tt))))), (λ a. ((λ x p. refl), (λ x p. refl), (refl, (λ x p. refl), (λ x p. refl), (λ t e. (λ a. ((λ x p. refl), (λ x p. refl), (λ a. ((λ x p. refl), (λ x p. refl), tt))))), (λ a. ((λ x p. refl), (λ x p. refl), tt))))))

pub more_declarators_fine : (s : Scope) (b : Bool) → Fine (MoreDeclarators s b)
more_declarators_fine s b = ((λ x p. refl), refl, (tt, tt), (refl, (λ x p. refl), (λ x p. refl), (λ t e. (λ a. ((λ x p. refl), (λ x p. refl), tt))), (λ t e. tt)))

pub declaration_fine : (s : Scope) → Fine (Declaration s)
declaration_fine s = (call_first (λ t. starts_specs BlockContext s no_specs t), refl, refl, (refl, (λ a e. (tt, (refl, (λ a e. tt))))), (λ a. (block_specs s a.bracket, begins_not (Specs BlockContext s no_specs) a, (refl, (λ x p. refl), (λ x p. refl), (λ t e. tt), (λ a. ((λ x p. refl), (λ x p. refl), tt))))))

pub maybe_fine : (s : Scope) → Fine (MaybeExpression s)
maybe_fine s = (search rows depth 20, refl, ((refl, (λ a e. tt)), tt), (refl, apart_empty (λ t. starts_expression s t || false), (λ x p. refl), (λ a. ((λ x p. refl), (λ x p. refl), tt)), tt))

pub statement_fine : (s : Scope) (b : Bool) → Fine (Statement s b)
statement_fine s true = (search rows depth 20, refl, refl, (tt, (tt, (tt, (tt, (tt, (tt, (tt, (tt, (refl, (λ a e. tt)))))))))), (refl, (λ x p. refl), (λ x p. refl), (λ t e. (λ a. ((λ x p. refl), (λ x p. refl), (λ t e. tt)))), (refl, (λ x p. refl), (λ x p. refl), (λ t e. (λ t e. (λ a. ((λ x p. refl), (λ x p. refl), (λ t e. (λ a. (else_begins a.is_open, else_follows a.is_open, (refl, apart_empty (λ t. is k.Else t && not a.is_open), (λ x p. refl), (λ t e. (λ a. (begins_not (Statement s true) a, self (λ t. not (is k.Else t && a.is_open)), tt))), tt)))))))), (refl, (λ x p. refl), (λ x p. refl), (λ t e. (λ t e. (λ a. ((λ x p. refl), (λ x p. refl), (λ t e. (λ a. (begins_not (Statement s true) a, self (λ t. not (is k.Else t && a.is_open)), tt))))))), (refl, (λ x p. refl), (λ x p. refl), (λ t e. (λ a. (while_follows a.is_open, begins_not (Statement s true) a, (λ t e. (λ t e. (λ a. ((λ x p. refl), (λ x p. refl), (λ t e. (λ t e. tt))))))))), (refl, (λ x p. refl), (λ x p. refl), (λ t e. (λ t e. (refl, for_first s.block s.types, (λ x p. refl), (λ a. ((λ x p. refl), (λ x p. refl), (λ a. ((λ x p. refl), (λ x p. refl), (λ t e. (λ a. ((λ x p. refl), (λ x p. refl), (λ t e. (λ a. (begins_not (Statement s true) a, self (λ t. not (is k.Else t && a.is_open)), tt)))))))))), (λ a. ((λ x p. refl), (λ x p. refl), (λ t e. (λ a. ((λ x p. refl), (λ x p. refl), (λ t e. (λ a. ((λ x p. refl), (λ x p. refl), (λ t e. (λ a. (begins_not (Statement s true) a, self (λ t. not (is k.Else t && a.is_open)), tt)))))))))))))), (refl, (λ x p. refl), (λ x p. refl), (λ t e. (λ t e. tt)), (refl, (λ x p. refl), (λ x p. refl), (λ t e. (λ t e. tt)), (refl, (λ x p. refl), (λ x p. refl), (λ t e. (λ a. ((λ x p. refl), (λ x p. refl), (λ t e. tt)))), (λ a. ((λ x p. refl), (λ x p. refl), (λ t e. tt))))))))))))
statement_fine s false = (search rows depth 20, refl, refl, (tt, (tt, (tt, (tt, (tt, (tt, (tt, (tt, (refl, (λ a e. tt)))))))))), (refl, (λ x p. refl), (λ x p. refl), (λ t e. (λ a. ((λ x p. refl), (λ x p. refl), (λ t e. tt)))), (refl, (λ x p. refl), (λ x p. refl), (λ t e. (λ t e. (λ a. ((λ x p. refl), (λ x p. refl), (λ t e. (λ a. (else_begins a.is_open, else_follows a.is_open, (refl, apart_empty (λ t. is k.Else t && not a.is_open), (λ x p. refl), (λ t e. (λ a. (begins_not (Statement s false) a, self (λ t. not (is k.Else t && a.is_open)), tt))), tt)))))))), (refl, (λ x p. refl), (λ x p. refl), (λ t e. (λ t e. (λ a. ((λ x p. refl), (λ x p. refl), (λ t e. (λ a. (begins_not (Statement s true) a, self (λ t. not (is k.Else t && a.is_open)), tt))))))), (refl, (λ x p. refl), (λ x p. refl), (λ t e. (λ a. (while_follows a.is_open, begins_not (Statement s true) a, (λ t e. (λ t e. (λ a. ((λ x p. refl), (λ x p. refl), (λ t e. (λ t e. tt))))))))), (refl, (λ x p. refl), (λ x p. refl), (λ t e. (λ t e. (refl, for_first s.block s.types, (λ x p. refl), (λ a. ((λ x p. refl), (λ x p. refl), (λ a. ((λ x p. refl), (λ x p. refl), (λ t e. (λ a. ((λ x p. refl), (λ x p. refl), (λ t e. (λ a. (begins_not (Statement s true) a, self (λ t. not (is k.Else t && a.is_open)), tt)))))))))), (λ a. ((λ x p. refl), (λ x p. refl), (λ t e. (λ a. ((λ x p. refl), (λ x p. refl), (λ t e. (λ a. ((λ x p. refl), (λ x p. refl), (λ t e. (λ a. (begins_not (Statement s true) a, self (λ t. not (is k.Else t && a.is_open)), tt)))))))))))))), (refl, (λ x p. refl), (λ x p. refl), (λ t e. (λ t e. tt)), (refl, (λ x p. refl), (λ x p. refl), (λ t e. (λ t e. tt)), (refl, (λ x p. refl), (λ x p. refl), (λ t e. (λ a. ((λ x p. refl), (λ x p. refl), (λ t e. tt)))), (λ a. ((λ x p. refl), (λ x p. refl), (λ t e. tt))))))))))))

pub block_fine : (s : Scope) (b : Bool) → Fine (Block s b)
block_fine s b = ((λ x p. refl), refl, refl, tt, (λ t e. (λ a. ((λ x p. refl), (λ x p. refl), (λ t e. tt)))))

pub block_items_fine : (s : Scope) (b : Bool) → Fine (BlockItems s b)
block_items_fine s b = (items_first s.block b s.types, refl, ((refl, (λ a e. cc)), ((refl, (λ a e. cc)), tt)), (refl, item_first s.block b s.types, (λ x p. refl), (λ a. ((λ x p. refl), (λ x p. refl), (λ a. ((λ x p. refl), (λ x p. refl), tt)))), (refl, apart_empty (λ t. starts_statement s b t || false), (λ x p. refl), (λ a. (item_follows s b a.is_open, brace_follows a.is_open, (λ a. ((λ x p. refl), (λ x p. refl), tt)))), tt)))

pub external_fine : (s : Scope) → Fine (External s)
external_fine s = (call_first (λ t. starts_specs FileContext s no_specs t), refl, refl, (refl, (λ a e. (tt, (refl, (λ a e. ((refl, (λ a e. tt)), (tt, (refl, (λ a e. tt))))))))), (λ a. (file_specs s a.bracket, begins_not (Specs FileContext s no_specs) a, (refl, (λ x p. refl), (λ x p. refl), (λ t e. tt), (λ a. ((λ x p. refl), (λ x p. refl), (refl, (λ x p. refl), (λ x p. refl), (λ a. ((λ x p. refl), (λ x p. refl), tt)), (refl, (λ x p. refl), (λ x p. refl), (λ t e. (λ a. ((λ x p. refl), (λ x p. refl), (λ a. ((λ x p. refl), (λ x p. refl), tt))))), (λ a. ((λ x p. refl), (λ x p. refl), tt))))))))))

pub externals_fine : (s : Scope) → Fine (Externals s)
externals_fine s = (optional_first (λ t. starts_specs FileContext s no_specs t), refl, ((refl, (λ a e. cc)), tt), (refl, apart_empty (λ t. starts_specs FileContext s no_specs t || false), (λ x p. refl), (λ a. ((λ x p. refl), (λ x p. refl), (λ a. ((λ x p. refl), (λ x p. refl), tt)))), tt))

pub unit_fine : Fine Unit
unit_fine = (call_first (λ t. starts_specs FileContext file_scope no_specs t), refl, (refl, (λ a e. tt)), (λ a. ((λ x p. refl), (λ x p. refl), tt)))
