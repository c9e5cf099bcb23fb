-- What is so of the source, by what its typing came to.
use Rattle.std.proofs.Common.{[], ap}
use Rattle.c_text.specs.Place.{LineColumn}
use Rattle.read_order.proofs.Law.{read_trees_stand_in_order}
use Rattle.rtsan_core.proofs.Sources.{source_typed, source_untyped, source_large}
use Rattle.rtsan_core.proofs.reading.read_types.Goals as goal

pub type_unit-requires : goal.type_unit-requires
type_unit-requires c =
    read_trees_stand_in_order c.args.source.now c.args.tokens c.args.tree.now c.requires.tokens.ordered (c.requires.tree.parsed []).is.0

pub returns-in-Ok-clause-read : goal.returns-in-Ok-clause-read
returns-in-Ok-clause-read c =
    source_typed c.args.source.now c.args.tokens c.args.tree.now _ _ _ c.requires.short c.requires.tokens c.requires.tree c.in-Ok.ensures.parts c.in-Ok.ensures.warnings

pub returns-in-Err-Bad-clause-refused : goal.returns-in-Err-Bad-clause-refused
returns-in-Err-Bad-clause-refused c =
    let at_values = rw c.in-Err-Bad.field-0-is at c.in-Err-Bad.ensures in
    let breaks = rw (← c.in-Err-Bad.number-is, ← c.in-Err-Bad.place-is) at at_values in
    let told = rw c.new.ensures at c.line_column-at.ensures in
    λ file. source_untyped file c.args.source.now c.args.tokens c.args.tree.now _ _ _ _ c.requires.short c.requires.tokens c.requires.tree (ap (λ (p : LineColumn). p.line) told) (ap (λ (p : LineColumn). p.column) told) breaks

pub returns-in-Err-Limit-clause-refused : goal.returns-in-Err-Limit-clause-refused
returns-in-Err-Limit-clause-refused c =
    let at_limit = rw c.in-Err-Limit.field-0-is at c.in-Err-Limit.ensures in
    let passes = rw (← c.in-Err-Limit.limit-is) at at_limit in
    λ file. source_large file c.args.source.now c.args.tokens c.args.tree.now _ c.requires.short c.requires.tokens c.requires.tree passes
