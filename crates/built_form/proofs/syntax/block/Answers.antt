-- A call more was read, or no call could be, before what closes the block.
use Rattle.std.proofs.Common.{◌≡◌, [], ◌∷◌, ◌++◌, arith}
use Rattle.built_form.specs.Form.{spelled_call}
use Rattle.built_form.specs.Reading.{parts_of}
use Rattle.built_form.proofs.Items.{Closes, still_open, call_shorter, block_found, block_no_call, block_no_end}
use Rattle.built_form.proofs.Progress.{progress_step}
use Rattle.built_form.proofs.syntax.block.Goals as goal

pub returns-in_err-name-clause-none : goal.returns-in_err-name-clause-none
returns-in_err-name-clause-none c =
    λ _. let name = c.calls-test.ensures.yes in
    block_no_call (parts_of c.args.closing.now) c.calls.calls c.args.cursor.now c.part.new.self c.calls.cursor name.1 name.0
    c.in_ok-part.ensures.read c.calls.invariant c.requires name.2 c.in_err-name.ensures.none

pub calls-smaller : goal.calls-smaller
calls-smaller c = call_shorter c.in_ok-name.name c.calls.cursor c.call.new.cursor c.in_ok-name.ensures.read

pub calls-preserved : goal.calls-preserved
calls-preserved c =
    let more : c.push.new.self ≡ c.calls.calls ++ c.in_ok-name.name ∷ [] = grind arith in
    let name = c.calls-test.ensures.yes in
    rw more
    (progress_step spelled_call (Closes (parts_of c.args.closing.now)) c.calls.calls c.in_ok-name.name c.part.new.self c.calls.cursor
    c.call.new.cursor c.calls.invariant c.in_ok-name.ensures.read
    (still_open (parts_of c.args.closing.now) name.0 c.calls.cursor name.1 c.requires name.2))

pub returns-in_err-parts-clause-none : goal.returns-in_err-parts-clause-none
returns-in_err-parts-clause-none c =
    λ _. block_no_end (parts_of c.args.closing.now) c.calls.calls c.args.cursor.now c.part.new.self c.calls.cursor
    c.in_ok-part.ensures.read c.calls.invariant c.calls-test.ensures.no c.in_err-parts.ensures.none

pub returns-clause-read : goal.returns-clause-read
returns-clause-read c =
    block_found (parts_of c.args.closing.now) c.calls.calls c.args.cursor.now c.part.new.self c.calls.cursor c.parts.new.self
    c.in_ok-part.ensures.read c.calls.invariant c.calls-test.ensures.no c.in_ok-parts.ensures.read
