use Rattle.std.proofs.Common.{rules, arith, ◌≡◌, ◌<◌, ◌≤◌, ◌++◌, length, take}
use Rattle.std.proofs.lemmas.Grind.{common_steps}
use Rattle.rt_base.proofs.Contents.{IsFront-empty, IsFront-more, keeps_all, keeps_on}
use Rattle.rt_base.proofs.ReadChain.{Reads-begun, Reads-more, Reads-past}
use Rattle.rt_base.proofs.reading.read_all.Goals as goal

pub loop-count-init : goal.loop-count-init
loop-count-init g c = record {
  front = rw c.new-bytes.ensures (IsFront-empty ((g.F.Files.state c.args.files.now).contents c.args.name.now));
  reads = Reads-begun g.F.Files.read_gives c.args.name.now c.args.files.now c.new-bytes.result c.new-bytes.ensures;
  within = search rules;
  room = search rules;
  kept = keeps_all _;
}

pub returns-then-count-limit-clause-past : goal.returns-then-count-limit-clause-past
returns-then-count-limit-clause-past g c _ =
    Reads-past g.F.Files.read_gives c.args.name.now c.args.files.now c.loop-count.files c.read.new.self c.loop-count.bytes c.read.new.buf c.len-at.result c.in-Ok.count c.args.limit
    c.loop-count.invariant.reads c.len-at.ensures c.in-Ok.ensures.gives (search rules) c.loop-count.invariant.within (search rules)

pub loop-count-preserved : goal.loop-count-preserved
loop-count-preserved g c =
    let grown : c.extend.new.self ≡ c.loop-count.bytes ++ take c.in-Ok.count c.read.new.buf = c.in-Ok-extend.ensures.ok in
    let some : 0 < c.in-Ok.count = search rules in
    let fits : c.in-Ok.count ≤ length c.read.new.buf = search rules in
    record {
      front = rw grown (IsFront-more ((g.F.Files.state c.args.files.now).contents c.args.name.now) c.loop-count.bytes c.read.new.buf c.in-Ok.count c.loop-count.invariant.front (rw (← c.loop-count.invariant.kept.same c.args.name.now, ← c.len-at.ensures) c.in-Ok.ensures.bytes) fits);
      reads =
          Reads-more g.F.Files.read_gives c.args.name.now c.args.files.now c.loop-count.files c.read.new.self c.loop-count.bytes c.read.new.buf c.extend.new.self c.len-at.result c.in-Ok.count
          c.loop-count.invariant.reads c.len-at.ensures c.in-Ok.ensures.gives some fits grown;
      within = grind (arith, common_steps, grown);
      room = search rules;
      kept = keeps_on _ _ _ c.loop-count.invariant.kept c.in-Ok.ensures.kept;
    }
