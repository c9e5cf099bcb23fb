use Rattle.std.proofs.Common.{◌≡◌, ◌+◌, drop, sym, ◌∙◌, ap, arith}
use Rattle.eff_types.specs.Comparison.{likeness_of, less_alike, each_likeness}
use Rattle.eff_types.proofs.Likenesses.{likeness-Pointer, likeness-Array, likeness-Function, likeness-not_Pointer, likeness-not_Array, likeness-not_Function, each_likeness-lengths, each_likeness-step, each_likeness-end, less_alike-Equal}
use Rattle.eff_types.proofs.comparison.+comparing.Goals as goal

pub compare-returns-in-Pointer-Pointer : goal.compare-returns-in-Pointer-Pointer
compare-returns-in-Pointer-Pointer t c = grind (arith, likeness-Pointer)

pub compare-returns-in-Array-Array : goal.compare-returns-in-Array-Array
compare-returns-in-Array-Array t c = grind (arith, likeness-Array)

pub compare-returns-in-Function-Function : goal.compare-returns-in-Function-Function
compare-returns-in-Function-Function t c = grind (arith, likeness-Function)

pub compare-returns-in_default-7 : goal.compare-returns-in_default-7
compare-returns-in_default-7 t c =
    sym (ap (λ x. likeness_of x c.args.b.now) c.in_default.is-0 ∙ likeness-not_Pointer _ _ c.in_default.not-Pointer-1)

pub compare-returns-in_default-8 : goal.compare-returns-in_default-8
compare-returns-in_default-8 t c =
    sym (ap (λ x. likeness_of x c.args.b.now) c.in_default.is-0 ∙ likeness-not_Array _ _ _ c.in_default.not-Array-1)

pub compare-returns-in_default-9 : goal.compare-returns-in_default-9
compare-returns-in_default-9 t c =
    sym (ap (λ x. likeness_of x c.args.b.now) c.in_default.is-0 ∙ likeness-not_Function _ _ c.in_default.not-Function-1)

pub list_likeness-returns-then-a-b : goal.list_likeness-returns-then-a-b
list_likeness-returns-then-a-b t c = sym (each_likeness-lengths _ _ c.if-a-b.true)

pub list_likeness-loop-i-preserved : goal.list_likeness-loop-i-preserved
list_likeness-loop-i-preserved t c =
    let step = each_likeness-step c.args.a.now c.args.b.now c.loop-i.i c.index-a-i.result c.index-b-i.result c.loop-i.least
    (omega arith) (omega arith) c.index-a-i.is c.index-b-i.is in
    let kept = c.loop-i.invariant.1 in
    let least : c.less_alike-least.result ≡ less_alike c.loop-i.least (likeness_of c.index-a-i.result c.index-b-i.result) = cc in
    (c.loop-i.invariant.0, kept ∙ step ∙ ap (λ x. less_alike x (each_likeness (drop (c.loop-i.i + 1) c.args.a.now) (drop (c.loop-i.i + 1) c.args.b.now))) (sym least))

pub list_likeness-returns : goal.list_likeness-returns
list_likeness-returns t c =
    let rest = each_likeness-end c.args.a.now c.args.b.now c.loop-i.i (omega arith) (omega arith) in
    sym (c.loop-i.invariant.1 ∙ ap (less_alike c.loop-i.least) rest ∙ less_alike-Equal c.loop-i.least)
