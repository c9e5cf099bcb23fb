use Rattle.std.proofs.Common.{◌≡◌, map, drop}
use Rattle.c_grammar.specs.Declarators.{hide_all}
use Rattle.parse_input.specs.Input.{with_scope}
use Rattle.parse_files.proofs.externals.hide_all.Given as goal

abbrev pub invariant-each : goal.invariant-each
invariant-each l =
    with_scope l.fn.input (hide_all (map (λ text. text.now) l.names) l.fn.input.scope)
    ≡ with_scope l.input (hide_all (map (λ text. text.now) (drop l.name-index l.names)) l.input.scope)
