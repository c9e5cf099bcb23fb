use Rattle.std.proofs.Common.{◌≡◌, ap, arith, length, length-append, ◌++◌, ◌∷◌, []}
use Rattle.thread_run.proofs.Dealt.{spared_more, numbers_more, left_more}
use Rattle.thread_run.proofs.blank.blanks.Goals as goal

pub each-preserved : goal.each-preserved
each-preserved g c =
    let left : c.each.spares.items ≡ c.pop.new.self.items ++ c.in-Some.spare ∷ [] = c.in-Some.ensures.items in
    let longer : c.push.new.self.items ≡ c.each.list.items ++ c.in_ok-blank.blank ∷ [] = c.in_ok-push.ensures.items in
    let many = length-append c.each.list.items (c.in_ok-blank.blank ∷ []) in
    record {
      count = omega (arith, ap length longer, many, c.in-Some.ensures.len, c.each.invariant.count);
      spared = spared_more (λ b. b.spare) c.args.spares.items c.each.spares.items c.pop.new.self.items c.each.list.items c.push.new.self.items c.in_ok-blank.blank c.in-Some.spare c.each.invariant.spared left longer c.in_ok-blank.ensures.spare;
      numbers = numbers_more (λ b. b.number) c.each.list.items c.push.new.self.items c.in_ok-blank.blank c.each.invariant.numbers longer (omega (arith, c.in_ok-blank.ensures.number, c.len.ensures, c.in-Some.ensures.len, c.each.invariant.count));
      left = left_more g.W.Words.number c.each.spares.items c.pop.new.self.items c.in-Some.spare c.each.invariant.left left;
    }
