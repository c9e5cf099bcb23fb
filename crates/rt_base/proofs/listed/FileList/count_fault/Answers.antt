use Rattle.std.proofs.Common.{◌≡◌, ◌<◌, ◌≤◌, rules, arith, length, vec_len, ap, ◌∙◌}
use Rattle.rt_base.specs.Memory.{with_fault}
use Rattle.rt_base.proofs.Faults.{with_fault-store, file_named-store, with_fault-none, file_named-none}
use Rattle.rt_base.proofs.listed.FileList.count_fault.Goals as goal

pub returns-then-is_named-clause-found : goal.returns-then-is_named-clause-found
returns-then-is_named-clause-found c =
    let whole : c.loop-i.self-inside.items.items ≡ c.args.self.now = ap (λ v. v.items) c.loop-i.invariant.kept ∙ c.self.view_is in
    let within : c.loop-i.i < length c.loop-i.self-inside.items.items = omega (arith, c.loop-i.self-inside.items.ok.0, ap (λ v. vec_len v) c.loop-i.invariant.kept) in
    let named = file_named-store c.args.self.now c.loop-i.self-inside.items.items c.loop-i.i c.args.name.now c.index.result.now whole c.loop-i.invariant.none within c.index.ensures c.if-is_named.ensures in
    rw named (search rules)

pub returns-then-is_named-clause-counted : goal.returns-then-is_named-clause-counted
returns-then-is_named-clause-counted c =
    let whole : c.loop-i.self-inside.items.items ≡ c.args.self.now = ap (λ v. v.items) c.loop-i.invariant.kept ∙ c.self.view_is in
    let within : c.loop-i.i < length c.loop-i.self-inside.items.items = omega (arith, c.loop-i.self-inside.items.ok.0, ap (λ v. vec_len v) c.loop-i.invariant.kept) in
    with_fault-store c.args.self.now c.loop-i.self-inside.items.items c.loop-i.i c.args.name.now c.index.result.now c.index-then-is_named.result.now c.index_mut.result.now c.saturating_add.result whole c.loop-i.invariant.none within c.index.ensures c.index-then-is_named.ensures c.index_mut.ensures.value c.if-is_named.ensures c.saturating_add.ensures (search rules)

pub returns-clause-found : goal.returns-clause-found
returns-clause-found c =
    let whole : c.loop-i.self-inside.items.items ≡ c.args.self.now = ap (λ v. v.items) c.loop-i.invariant.kept ∙ c.self.view_is in
    let past : length c.loop-i.self-inside.items.items ≤ c.loop-i.i = omega (arith, c.loop-i.self-inside.items.ok.0, ap (λ v. vec_len v) c.loop-i.invariant.kept) in
    let lacks = rw whole at (file_named-none c.loop-i.self-inside.items.items c.loop-i.i c.args.name.now c.loop-i.invariant.none past) in
    rw lacks (search rules)

pub returns-clause-counted : goal.returns-clause-counted
returns-clause-counted c =
    let whole : c.loop-i.self-inside.items.items ≡ c.args.self.now = ap (λ v. v.items) c.loop-i.invariant.kept ∙ c.self.view_is in
    let past : length c.loop-i.self-inside.items.items ≤ c.loop-i.i = omega (arith, c.loop-i.self-inside.items.ok.0, ap (λ v. vec_len v) c.loop-i.invariant.kept) in
    with_fault-none c.loop-i.self-inside.items.items c.loop-i.i c.args.name.now c.loop-i.invariant.none past ∙ ap (λ l. with_fault l c.args.name.now) whole
