-- Bodies and definitions, part by part.
use Rattle.std.proofs.Common.{◌≡◌, ◌∙◌, refl, ℕ, List, [], ◌∷◌, drop, Option, Some, None}
use Rattle.c_tree.specs.declared.declarations.FunctionDefinition.{FunctionDefinition}
use Rattle.c_tree.specs.declared.statements.BlockItem.{BlockItem}
use Rattle.c_tree.specs.declared.words.Span.{Span}
use Rattle.core_unit.specs.declared.body.Stmt.{Stmt}
use Rattle.eff_types.specs.declared.types.FnType.{FnType}
use Rattle.type_recursion.proofs.Continued.{then_good, then_bad, then_gives, then_assoc, then_alike}
use Rattle.type_rules.specs.Declarations.{all_specifiers, defined_name, definition, named_at, without_statements}
use Rattle.type_rules.specs.Declarators.{made_here}
use Rattle.type_rules.specs.Functions.{body_opened, body_read, function_defined}
use Rattle.type_rules.specs.Reading.{Read, Good, Bad, Rule, and_then, name_number}
use Rattle.type_rules.specs.Recursion.{declarator}
use Rattle.type_rules.specs.Seen.{Seen}
use Rattle.type_rules.specs.Specifiers.{no_specifiers}
use Rattle.type_rules.specs.Statements.{block_items}
use Rattle.type_rules.specs.declared.declarators.Parameter.{Parameter}
use Rattle.type_rules.specs.declared.declarators.Shape.{Shape}
use Rattle.type_rules.specs.declared.specifiers.Specifiers.{Specifiers}
use Rattle.type_statements.proofs.Forms.{scoped-reads}
use Rattle.type_statements.specs.Defining.{defined, defined_at, defined_under}

pub body-form : (number : ℕ) (kind : FnType) (ps : List Parameter) (block : Rule (List Stmt)) (s : Seen) →
    body_read number kind ps block s
    ≡ and_then (body_opened kind ps (record s { scopes = [] ∷ s.scopes })) (λ _ t. and_then (block t) (λ items u. function_defined number items (record u { scopes = drop 1 u.scopes })))
unfolding body_read
body-form number kind ps block s =
    scoped-reads (λ t. and_then (body_opened kind ps t) (λ _. block)) (λ items. function_defined number items) s
    ∙ then_assoc (body_opened kind ps (record s { scopes = [] ∷ s.scopes })) _ _

pub ruleset body_rules = (then_good, then_bad, body-form)

-- what a definition declares gives no statement
no_statements : (read : Read (Unit {0})) → and_then (and_then read (λ _ t. Good [] t)) (λ (_ : List Stmt) t. Good tt t) ≡ read
unfolding and_then
no_statements (Good done t) = refl
no_statements (Bad n p) = refl

by_name : (b : Specifiers) (d : Shape) (body : List BlockItem) (name : Option Span) (s : Seen) →
    and_then (named_at b d None (without_statements (defined_name (block_items body))) name s) (λ _ t. Good tt t) ≡ defined_under b d body name s
unfolding defined_at
by_name b d body None s = then_gives _ [] s
by_name b d body (Some name) s =
    then_assoc (made_here b d name.start s) _ _
    ∙ then_alike (made_here b d name.start s) _ _ (λ m t. then_assoc (name_number name t) _ _
    ∙ then_alike (name_number name t) _ _ (λ number u. no_statements (defined_name (block_items body) _ u)))

pub definition-form : (f : FunctionDefinition) (s : Seen) →
    definition block_items f s
    ≡ and_then (all_specifiers f.specs no_specifiers s) (λ b t. and_then (declarator f.declarator t) (λ d u. defined b d f.body u))
unfolding definition
definition-form f s =
    then_alike (all_specifiers f.specs no_specifiers s) _ _ (λ b t. then_alike (declarator f.declarator t) _ _ (λ d u. by_name b d f.body d.name u))

pub ruleset definition_rules = (then_good, then_bad, definition-form)
