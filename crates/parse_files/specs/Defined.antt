-- The parts of definitions and declarations at file scope.
use Rattle.std.specs.Prelude.{ℕ, Bool, true, false, List, [], None}
use Rattle.grammar.specs.Parts.{Return, Call, Either}
use Rattle.c_tree.specs.declared.expressions.Spec.{Spec}
use Rattle.c_tree.specs.declared.expressions.Declarator as declarator
use Rattle.c_tree.specs.declared.statements.External as statements
use Rattle.c_grammar.specs.declared.state.DeclaratorKind.TheVariants.{Ordinary as OrdinaryKind}
use Rattle.c_grammar.specs.declared.state.Bracket.TheVariants.{Unknown}
use Rattle.c_grammar.specs.declared.state.Reach.TheVariants.{NameAlone}
use Rattle.c_grammar.specs.Rules.{Scope, SpecsRead, DeclaratorRead, DeclaratorsRead, ExternalRead, Declarator, Block}
use Rattle.c_grammar.specs.Expressions.{Reading}
use Rattle.c_grammar.specs.Trees.{has_typedef}
use Rattle.c_grammar.specs.Declarators.{hide_all}
use Rattle.c_grammar.specs.Statements.{declare, declared, defined, as_external, behind_declarator}

-- a definition or a declaration, and the scope behind it
abbrev pub external_read : statements.External → Scope → ExternalRead
external_read tree scope = record { tree = tree; scope = scope }

-- the scope of a body, in which these names hide typedef names
abbrev pub body_of : List (List ℕ) → Scope → Scope
body_of own s = record { types = (hide_all own s).types; block = true }

-- specifiers and a declarator by their trees, which is all that the parts ask of them
abbrev pub only_specs : List Spec → SpecsRead
only_specs specs = record { specs = specs; bracket = None }

abbrev pub only_tree : declarator.Declarator → DeclaratorRead
only_tree tree = record { tree = tree; reach = NameAlone; name = None; own = []; bracket = None }

-- what follows a declarator that was read, up to the `;`
unfoldable pub declarators_from : Scope → Bool → declarator.Declarator → Reading DeclaratorsRead
declarators_from s typedefs tree = behind_declarator s typedefs (only_tree tree) (λ all. all)

-- what follows specifiers at file scope, where it isn't a `;`
unfoldable pub behind_specs : Scope → List Spec → Reading ExternalRead
behind_specs s specs =
    Call (Declarator s OrdinaryKind Unknown) (λ y.
    Either (Call (Block (body_of y.own (declare s (has_typedef specs) y.name)) false)
    (λ body. Return (defined (declare s (has_typedef specs) y.name) (only_specs specs) y body)))
    (behind_declarator (declare s (has_typedef specs) y.name) (has_typedef specs) y (λ all. as_external (declared (only_specs specs) all))))
