-- The edge has its number, there is no room, or it is added.
use Rattle.std.proofs.Common.{◌≡◌, ◌<◌, ◌≤◌, ◌++◌, ◌∷◌, [], length, get_or, false, Some, refl, sym, ap, ◌∙◌, subst, arith}
use Rattle.std.specs.HashMap.{Updates}
use Rattle.std.specs.Vec.{vec_capacity}
use Rattle.reports.specs.Prefixes.{has, room}
use Rattle.prefix_table.specs.Edges.{IsBelow, IsTable, made_by, stacks_of, is_same_edge}
use Rattle.prefix_table.proofs.EdgeLaws.{table_push}
use Rattle.prefix_table.proofs.Entering.{known_held, full_held, new_held, at_room, below_room}
use Rattle.prefix_table.proofs.Walked.{first_ones}
use Rattle.prefix_table.proofs.table.PrefixTable.enter_edge.Goals as goal

pub returns-in-Some-clause-held : goal.returns-in-Some-clause-held
returns-in-Some-clause-held c =
    let known = known_held c.self.inside.numbers c.self.inside.edges.items (vec_capacity c.self.inside.edges) c.self.invariant c.args.edge c.in-Some.number.now (sym c.in-Some.ensures.value) in
    subst (λ stacks. stacks ≡ first_ones (stacks ++ made_by stacks c.args.edge ∷ [])) c.self.view_is known.0

pub returns-in-Some-clause-number : goal.returns-in-Some-clause-number
returns-in-Some-clause-number c =
    let known = known_held c.self.inside.numbers c.self.inside.edges.items (vec_capacity c.self.inside.edges) c.self.invariant c.args.edge c.in-Some.number.now (sym c.in-Some.ensures.value) in
    rw c.in-Some.number-is (subst (λ stacks. (c.in-Some.number.now < length stacks) × (get_or stacks c.in-Some.number.now [] ≡ made_by stacks c.args.edge)) c.self.view_is (known.1, known.2))

pub returns-then-number-eq-ROOM-clause-held : goal.returns-then-number-eq-ROOM-clause-held
returns-then-number-eq-ROOM-clause-held c =
    let ok = c.self.inside.edges.ok.0 in
    let count : c.len-number.result ≡ length c.self.inside.edges.items = omega (arith, c.len-number.ensures, ok) in
    let below = subst (λ n. IsBelow c.args.edge.parent n) (ap length (sym c.self.view_is) ∙ c.self.invariant.lawful.many) c.requires in
    let full = full_held c.self.inside.numbers c.self.inside.edges.items (vec_capacity c.self.inside.edges) c.self.invariant c.args.edge below (sym c.in_default.ensures.value) (at_room c.len-number.result (length c.self.inside.edges.items) count c.if-number-eq-ROOM.true) in
    subst (λ stacks. stacks ≡ first_ones (stacks ++ made_by stacks c.args.edge ∷ [])) c.self.view_is full.0

pub returns-then-number-eq-ROOM-clause-none : goal.returns-then-number-eq-ROOM-clause-none
returns-then-number-eq-ROOM-clause-none c =
    let ok = c.self.inside.edges.ok.0 in
    let count : c.len-number.result ≡ length c.self.inside.edges.items = omega (arith, c.len-number.ensures, ok) in
    let below = subst (λ n. IsBelow c.args.edge.parent n) (ap length (sym c.self.view_is) ∙ c.self.invariant.lawful.many) c.requires in
    let full = full_held c.self.inside.numbers c.self.inside.edges.items (vec_capacity c.self.inside.edges) c.self.invariant c.args.edge below (sym c.in_default.ensures.value) (at_room c.len-number.result (length c.self.inside.edges.items) count c.if-number-eq-ROOM.true) in
    let here = subst (λ stacks. (has stacks (made_by stacks c.args.edge) ≡ false) × (room ≤ length stacks)) c.self.view_is (full.1, full.2) in
    (refl, here.0, here.1)

pub invariant_of-self : goal.invariant_of-self
invariant_of-self c =
    let ok = c.self.inside.edges.ok.0 in
    let count : c.len-number.result ≡ length c.self.inside.edges.items = omega (arith, c.len-number.ensures, ok) in
    let below = subst (λ n. IsBelow c.args.edge.parent n) (ap length (sym c.self.view_is) ∙ c.self.invariant.lawful.many) c.requires in
    let updates = subst (λ n. Updates is_same_edge c.self.inside.numbers c.insert.new.self c.args.edge (Some n)) count c.in-Ok.ensures.updates in
    let pushed = table_push c.self.inside.numbers c.insert.new.self c.self.inside.edges.items (vec_capacity c.self.inside.edges) (vec_capacity c.push.new.self) c.self.invariant c.args.edge below (sym c.in_default.ensures.value) (below_room c.len-number.result (length c.self.inside.edges.items) count c.self.invariant.few c.if-number-eq-ROOM.false) updates c.in-Ok.ensures.spare c.in-Ok-push.ensures.capacity in
    subst (λ items. IsTable c.insert.new.self items (vec_capacity c.push.new.self)) (sym c.in-Ok-push.ensures.items) pushed

pub returns-clause-held : goal.returns-clause-held
returns-clause-held c =
    let ok = c.self.inside.edges.ok.0 in
    let count : c.len-number.result ≡ length c.self.inside.edges.items = omega (arith, c.len-number.ensures, ok) in
    let below = subst (λ n. IsBelow c.args.edge.parent n) (ap length (sym c.self.view_is) ∙ c.self.invariant.lawful.many) c.requires in
    let new = new_held c.self.inside.numbers c.self.inside.edges.items (vec_capacity c.self.inside.edges) c.self.invariant c.args.edge below (sym c.in_default.ensures.value) (below_room c.len-number.result (length c.self.inside.edges.items) count c.self.invariant.few c.if-number-eq-ROOM.false) in
    ap stacks_of c.in-Ok-push.ensures.items ∙ subst (λ stacks. stacks_of (c.self.inside.edges.items ++ c.args.edge ∷ []) ≡ first_ones (stacks ++ made_by stacks c.args.edge ∷ [])) c.self.view_is new.0
