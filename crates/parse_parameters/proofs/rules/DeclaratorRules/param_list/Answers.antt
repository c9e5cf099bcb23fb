-- One parameter more, or the last.
use Rattle.std.proofs.Common.{◌≡◌, ℕ, true, false, List, Option, ap, ◌∙◌}
use Rattle.c_grammar.specs.declared.terminal.Terminal.TheVariants as k
use Rattle.c_grammar.specs.Lexemes.{is}
use Rattle.c_grammar.specs.Rules.{Scope}
use Rattle.c_grammar.specs.Declarators.{hide}
use Rattle.parse_input.specs.Input.{Input, sees, behind}
use Rattle.parse_parameters.proofs.Listing.{comma_less, goes_on, ends_so, cut_on, mark_on}
use Rattle.parse_parameters.proofs.rules.DeclaratorRules.param_list.Goals as goal

pub each-smaller : goal.each-smaller
each-smaller g c =
    let comma : sees (is k.Comma) c.param.new.input.tokens ≡ true = cc in
    let left = ap (λ (i : Input). i.tokens) c.in_ok-hide.ensures.hidden in
    let taken = ap (λ (i : Input). i.tokens) c.take-comma.ensures.rest in
    let rest : c.hide.new.input.tokens ≡ behind c.param.new.input.tokens = cc in
    comma_less c.args.limits.room c.each.context c.each.input.scope c.each.before c.each.input.tokens c.in_ok-read.read.value c.in_ok-read.read.depth c.param.new.input.tokens c.hide.new.input.tokens c.in_ok-read.ensures.reads comma rest

pub each-preserved : goal.each-preserved
each-preserved g c =
    let comma : sees (is k.Comma) c.param.new.input.tokens ≡ true = cc in
    let left = ap (λ (i : Input). i.tokens) c.in_ok-hide.ensures.hidden in
    let taken = ap (λ (i : Input). i.tokens) c.take-comma.ensures.rest in
    let rest : c.hide.new.input.tokens ≡ behind c.param.new.input.tokens = cc in
    let hidden = ap (λ (i : Input). i.scope) c.in_ok-hide.ensures.hidden in
    let kept = ap (λ (i : Input). i.scope) c.take-comma.ensures.rest in
    let scope : c.hide.new.input.scope ≡ hide c.in_ok-read.read.value.name c.each.input.scope =
    hidden ∙ ap (λ (n : Option (List ℕ)). hide n c.take-comma.new.self.scope) c.name-name.ensures
    ∙ ap (λ (s : Scope). hide c.in_ok-read.read.value.name s) (kept ∙ c.in_ok-read.ensures.kept) in
    let inv = c.each.invariant in (
      goes_on c.args.limits.room _ c.each.list.value c.each.list.depth c.each.context c.each.input.scope c.each.before c.each.input.tokens inv.0 c.in_ok-read.read.value c.in_ok-read.read.depth c.param.new.input.tokens c.in_ok-read.ensures.reads
          c.in_ok-list.list.value c.in_ok-list.list.depth c.hide.new.input.scope c.new-before.result c.hide.new.input.tokens comma c.in_ok-list.ensures.value c.in_ok-list.ensures.depth scope c.new-before.ensures rest,
      cut_on _ _ c.each.input.scope c.hide.new.input.scope _ scope inv.1 inv.2,
      mark_on _ _ c.each.input.scope c.hide.new.input.scope scope inv.2,
    )

pub returns-clause-reads : goal.returns-clause-reads
returns-clause-reads g c =
    let comma : sees (is k.Comma) c.param.new.input.tokens ≡ false = cc in
    let left = ap (λ (i : Input). i.tokens) c.restore.ensures in
    let rest : c.restore.new.self.tokens ≡ c.param.new.input.tokens = cc in
    let inv = c.each.invariant in
    ends_so c.args.limits.room _ c.each.list.value c.each.list.depth c.each.context c.each.input.scope c.each.before c.each.input.tokens inv.0 c.in_ok-read.read.value c.in_ok-read.read.depth c.param.new.input.tokens c.in_ok-read.ensures.reads
    c.in_ok-list.list.value c.in_ok-list.list.depth c.restore.new.self.tokens comma c.in_ok-list.ensures.value c.in_ok-list.ensures.depth rest
