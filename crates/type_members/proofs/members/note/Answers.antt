-- The number tells whether the name is known; one that isn't is noted behind the others.
use Rattle.std.proofs.Common.{◌≡◌, length, nat_lt, sym, ◌∙◌}
use Rattle.type_members.specs.Listed.{is_member}
use Rattle.type_members.proofs.Listed.{member_by_number, noted_behind}
use Rattle.type_members.proofs.members.note.Goals as goal

pub returns-clause-known : goal.returns-clause-known
returns-clause-known c = rw (c.in_ok-number.ensures.number, c.requires) (member_by_number c.args.others.now c.args.text.now)

pub returns-clause-noted : goal.returns-clause-noted
returns-clause-noted c = λ new.
    let known : nat_lt c.in_ok-number.number (length c.args.others.now) ≡ is_member c.args.text.now c.args.others.now =
    rw (c.in_ok-number.ensures.number, c.requires) (member_by_number c.args.others.now c.args.text.now) in
    rw (c.in_ok-number.ensures.names, c.requires) (noted_behind c.args.others.now c.args.text.now (sym known ∙ new))
