use Rattle.std.proofs.Common.{◌≡◌, ℕ, ◌-◌, List, take, drop, arith, ◌∙◌, ap}
use Rattle.std.proofs.lemmas.List.{take_all, length-take}
use Rattle.c_text.specs.Place.{LineColumn, after_bytes}
use Rattle.c_text.proofs.Columns.{cursor_is_low, read_more, line_feed, other_byte, read_on}
use Rattle.c_text.proofs.place.LineCursor.advance.Goals as goal
use Rattle.c_text.proofs.place.LineCursor.advance.Goals.{then-byte-eq10, else-byte-eq10}

pub overflow_add-line : goal.overflow_add-line
overflow_add-line c =
    omega (arith, cursor_is_low c.args.source.now c.args.self.place c.args.self.line c.args.self.column c.requires.at, length-take (c.args.place - c.args.self.place) (drop c.args.self.place c.args.source.now))

pub overflow_add-column : goal.overflow_add-column
overflow_add-column c =
    omega (arith, cursor_is_low c.args.source.now c.args.self.place c.args.self.line c.args.self.column c.requires.at, length-take (c.args.place - c.args.self.place) (drop c.args.self.place c.args.source.now))

pub loop-byte-preserved : goal.loop-byte-preserved
loop-byte-preserved c =
    let from : LineColumn = record { line = c.args.self.line; column = c.args.self.column }
    in let now : LineColumn = record { line = c.loop-byte.line; column = c.loop-byte.column }
    in let next : LineColumn = record { line = c.if-byte-eq10.line; column = c.if-byte-eq10.column }
    in let read : List ℕ = take (c.args.place - c.args.self.place) (drop c.args.self.place c.args.source.now)
    in elim c.if-byte-eq10.branch [
      | then-byte-eq10 w ↦ record {
        reached = line_feed now next _ w.if-byte-eq10.true w.line-is w.column-is ∙ read_more from now read c.loop-byte.byte-index c.loop-byte-test.true c.loop-byte.invariant.reached;
        low_line = omega arith;
        low_column = omega arith;
      }
      | else-byte-eq10 w ↦ record {
        reached = other_byte now next _ w.if-byte-eq10.false w.line-is w.column-is ∙ read_more from now read c.loop-byte.byte-index c.loop-byte-test.true c.loop-byte.invariant.reached;
        low_line = omega arith;
        low_column = omega arith;
      }
    ]

pub returns-clause-at : goal.returns-clause-at
returns-clause-at c =
    let from : LineColumn = record { line = c.args.self.line; column = c.args.self.column }
    in let read : List ℕ = take (c.args.place - c.args.self.place) (drop c.args.self.place c.args.source.now)
    in let all : take c.loop-byte.byte-index read ≡ read = take_all c.loop-byte.byte-index read (omega arith)
    in c.loop-byte.invariant.reached ∙ ap (after_bytes from) all ∙ read_on c.args.source.now c.args.self.place c.args.place from c.requires.onward c.requires.at
