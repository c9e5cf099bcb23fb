-- The items that were read suit what the unit asks of them.
use Rattle.std.proofs.Common.{sym, subst}
use Rattle.built_form.proofs.Inside.{unit_inside}
use Rattle.built_form.proofs.Known.{Suits, suits}
use Rattle.built_form.proofs.form.read_form.Goals as goal

pub unit-requires-clause-within : goal.unit-requires-clause-within
unit-requires-clause-within c =
    (subst (λ items. Suits c.args.source.now items) (sym c.as_slice.ensures.value)
    (suits c.args.source.now c.args.tokens.now c.in_ok-items.items.items c.requires.within c.requires.few c.requires.ordered
    c.in_ok-items.ensures.read)).within

pub unit-requires-clause-room : goal.unit-requires-clause-room
unit-requires-clause-room c =
    (subst (λ items. Suits c.args.source.now items) (sym c.as_slice.ensures.value)
    (suits c.args.source.now c.args.tokens.now c.in_ok-items.items.items c.requires.within c.requires.few c.requires.ordered
    c.in_ok-items.ensures.read)).room

pub unit-requires-clause-unit : goal.unit-requires-clause-unit
unit-requires-clause-unit c =
    (subst (λ items. Suits c.args.source.now items) (sym c.as_slice.ensures.value)
    (suits c.args.source.now c.args.tokens.now c.in_ok-items.items.items c.requires.within c.requires.few c.requires.ordered
    c.in_ok-items.ensures.read)).unit

pub returns-clause-placed : goal.returns-clause-placed
returns-clause-placed c =
    unit_inside c.args.source.now c.as_slice.result.now c.unit.result
    (subst (λ items. Suits c.args.source.now items) (sym c.as_slice.ensures.value)
    (suits c.args.source.now c.args.tokens.now c.in_ok-items.items.items c.requires.within c.requires.few c.requires.ordered
    c.in_ok-items.ensures.read)).within
    c.unit.ensures.means
