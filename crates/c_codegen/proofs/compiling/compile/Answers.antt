use Rattle.std.proofs.Common.{Err, ap}
use Rattle.c_codegen.specs.declared.compiling.CompileRefusal.TheVariants.{Undefined}
use Rattle.c_codegen.proofs.Refused.{has_entry, first_unique, none_or_first, undefined_same, no_entry_other, undefined_other, compiled_kept}
use Rattle.c_codegen.proofs.compiling.compile.Goals as goal

pub returns-in-Some-first_undefined-clause-undefined : goal.returns-in-Some-first_undefined-clause-undefined
returns-in-Some-first_undefined-clause-undefined c = λ n.
    let u = c.args.unit.now in
    let first = c.in-Some-first_undefined.ensures in
    (λ e. (has_entry u _ _ c.in-Some.ensures, undefined_same u c.in-Some-first_undefined.function n first (cc e)), λ q. ap (λ k. Err (Undefined k)) (first_unique u c.in-Some-first_undefined.function n first q.1))

pub returns-in-Some-first_undefined-clause-long : goal.returns-in-Some-first_undefined-clause-long
returns-in-Some-first_undefined-clause-long c =
    let u = c.args.unit.now in
    (λ e. cc e, λ q. absurd (none_or_first u c.in-Some-first_undefined.function c.in-Some-first_undefined.ensures q.1))

pub returns-in-None-clause-no_entry : goal.returns-in-None-clause-no_entry
returns-in-None-clause-no_entry c =
    let u = c.args.unit.now in
    (λ e. absurd (no_entry_other _ c.compile_defined.ensures.refusal e), λ h. absurd (has_entry u _ _ c.in-Some.ensures h))

pub returns-in-None-clause-undefined : goal.returns-in-None-clause-undefined
returns-in-None-clause-undefined c = λ n.
    (λ e. absurd (undefined_other _ n c.compile_defined.ensures.refusal e), λ q. absurd (none_or_first c.args.unit.now n q.1 c.in-None.ensures))

pub returns-in-None-clause-long : goal.returns-in-None-clause-long
returns-in-None-clause-long c =
    (λ e. (has_entry c.args.unit.now _ _ c.in-Some.ensures, c.in-None.ensures, c.compile_defined.ensures.long.0 e), λ q. c.compile_defined.ensures.long.1 q.2)

pub returns-in-None-clause-compiled : goal.returns-in-None-clause-compiled
returns-in-None-clause-compiled c =
    compiled_kept c.args.unit.now _ _ _ c.in-Some.ensures c.compile_defined.ensures.behaves c.compile_defined.ensures.entry
