use Rattle.std.proofs.Common.{◌≡◌, ℕ, List, subst}
use Rattle.word_mem.specs.Held.{Closes}
use Rattle.word_mem.proofs.SpareLists.{only_spare}
use Rattle.word_table.specs.declared.memory.TableSpare.{TableSpare}
use Rattle.word_table.specs.Steps.{IsSpareOf}
use Rattle.word_threads.specs.Work.{BothAdd, AddsInTwo}
use Rattle.word_threads.proofs.Adding.{ok_more}
use Rattle.word_threads.proofs.memories.add_in_two.Goals as goal

pub add_both-pass-requires-clause-belongs : goal.add_both-pass-requires-clause-belongs
add_both-pass-requires-clause-belongs g c κs within =
    let made = c.in_ok-memory.ensures in
    let table = c.in_ok-memory.memory.table.shared.table_id in
    let spare = only_spare (λ (s : TableSpare). s.number) (λ (s : TableSpare). s.calls) c.args.count (λ (s : TableSpare). (s.seat.table_id ≡ table) × IsSpareOf s.number s.seat.me) _ _ c.in-Some.spare made.spares c.in-Some.ensures.items made.count in
    (made.first.2, spare.2)

pub add_both-pass-requires-clause-first : goal.add_both-pass-requires-clause-first
add_both-pass-requires-clause-first g c κs within =
    let spare = (add_both-pass-requires-clause-belongs g c κs within).1 in
    (c.in_ok-memory.ensures.first.0, spare.1.later)

pub returns : goal.returns
returns g c =
    let made = c.in_ok-memory.ensures in
    let table = c.in_ok-memory.memory.table.shared.table_id in
    let spare = only_spare (λ (s : TableSpare). s.number) (λ (s : TableSpare). s.calls) c.args.count (λ (s : TableSpare). (s.seat.table_id ≡ table) × IsSpareOf s.number s.seat.me) _ _ c.in-Some.spare made.spares c.in-Some.ensures.items made.count in
    let held = c.add_both-pass.result.seat.me.0.held in
    let both : BothAdd c.args.at c.args.count 1 held = subst (λ (n : ℕ). BothAdd c.args.at c.args.count n held) spare.0 c.add_both-pass.ensures.held in
    ok_more (λ r. Closes c.in_ok-memory.memory.table.shared.key.value held r) (λ r. AddsInTwo c.args.words c.args.at c.args.count r) c.close.result c.close.ensures
    (λ r closes. (held, both, subst (λ (o : List ℕ). Closes o held r) made.opening closes))
