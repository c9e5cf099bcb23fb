use Rattle.std.proofs.Common.{◌≡◌, ◌++◌, [], List, ℕ, subst}
use Rattle.built_model.specs.Source.{calls, return_of}
use Rattle.built_codegen.specs.Instructions.{tasks_code}
use Rattle.built_codegen.proofs.Emitted.{parts_join, meets_then, calls_then}
use Rattle.built_codegen.proofs.emission.emit_body.Goals as goal

pub returns : goal.returns
returns c =
    let u = c.args.unit.now in
    let body = c.args.body.now in
    let blocking = c.args.function.now.effects.no_block_inference in
    let called = subst (λ (sites : List ℕ). c.emit_calls.new.code ≡ c.emit_meeting.new.code ++ tasks_code (calls u sites [])) c.as_slice.ensures c.in_ok-emit_calls.ensures in
    parts_join _ _ _ _ _ _ _ _ _ c.in_ok-emit_meeting.ensures called c.in_ok-emit_return.ensures (meets_then blocking c.args.id (calls u body.calls (return_of body.returns))) (calls_then u body.calls (return_of body.returns))
