-- Parts of the rules of members that are read by functions of their own.
use Rattle.grammar.specs.Parts.{Return, Call}
use Rattle.c_tree.specs.declared.expressions.Member.{Member}
use Rattle.c_grammar.specs.Trees.{specs_place}
use Rattle.c_grammar.specs.declared.state.SpecifierContext.TheVariants.{Member as MemberContext}
use Rattle.c_grammar.specs.Rules.{Scope, Specs, MemberDeclarators}
use Rattle.c_grammar.specs.Expressions.{Reading}
use Rattle.c_grammar.specs.Specifiers.{no_specs}

-- a line of members
abbrev pub member_line : Scope → Reading Member
member_line s =
    Call (Specs MemberContext s no_specs) (λ x. Call (MemberDeclarators s)
    (λ declarators. Return (record { place = specs_place x.specs; specs = x.specs; declarators = declarators })))
