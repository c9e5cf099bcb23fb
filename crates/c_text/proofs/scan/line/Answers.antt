-- The line is a run of bytes up to its end, and what it is tells its form.
use Rattle.std.proofs.Common.{sym, ◌∙◌, ap, if◌then◌else◌}
use Rattle.c_text.specs.declared.form.Form.TheVariants.{Directive, Stray}
use Rattle.c_text.specs.declared.form.StrayKind.TheVariants.{Line}
use Rattle.c_text.proofs.FirstBytes.{front_line}
use Rattle.c_text.proofs.scan.line.Goals as goal

pub returns-then-is_directive : goal.returns-then-is_directive
returns-then-is_directive c =
    front_line c.args.alone c.args.rest.now c.line_length-length.result Directive c.if-not-alone.false c.line_length-length.ensures.value
    (ap (λ t. if t then Directive else Stray Line) (sym c.is_directive.ensures ∙ c.if-is_directive.true))

pub returns-else-is_directive : goal.returns-else-is_directive
returns-else-is_directive c =
    front_line c.args.alone c.args.rest.now c.line_length-length.result (Stray Line) c.if-not-alone.false c.line_length-length.ensures.value
    (ap (λ t. if t then Directive else Stray Line) (sym c.is_directive.ensures ∙ c.if-is_directive.false))
