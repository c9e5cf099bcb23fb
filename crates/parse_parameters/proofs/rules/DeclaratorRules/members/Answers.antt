use Rattle.parse_parameters.proofs.Lines.{line_falls}
use Rattle.parse_parameters.proofs.rules.DeclaratorRules.members.Goals as goal

pub each-smaller : goal.each-smaller
each-smaller g c =
    line_falls c.args.limits.room c.each.input.scope c.each.input.tokens c.member_line.new.input.tokens c.in_ok-line.line.value c.in_ok-line.line.depth
    c.in_ok-line.ensures.reads
