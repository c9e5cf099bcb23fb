use Rattle.c_grammar.specs.declared.terminal.Terminal.TheVariants as k
use Rattle.c_grammar.specs.Lexemes.{is}
use Rattle.c_grammar.specs.declared.state.DeclaratorKind.TheVariants.{Member as MemberKind}
use Rattle.c_grammar.specs.declared.state.Bracket.TheVariants.{Unknown}
use Rattle.c_grammar.specs.Rules.{Declarator}
use Rattle.parse_input.proofs.Then.{falls_rule}
use Rattle.parse_parameters.proofs.rules.DeclaratorRules.member_declarators.Goals as goal

pub each-smaller : goal.each-smaller
each-smaller g c =
    falls_rule c.args.limits.room (is k.Comma) (Declarator c.each.input.scope MemberKind Unknown) c.in_ok-declared.declared.value c.in_ok-declared.declared.depth
    c.each.input c.declarator_here.new.input c.take-comma.new.self c.in_ok-declared.ensures.reads (cc) c.take-comma.ensures.rest
