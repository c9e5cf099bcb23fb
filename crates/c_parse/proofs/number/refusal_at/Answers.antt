-- The refused token is the one of which so many are left.
use Rattle.std.proofs.Common.{◌≤◌, length, rules, refl, arith}
use Rattle.c_parse.proofs.Places.{left_within, at_end, at_token}
use Rattle.c_parse.proofs.number.refusal_at.Goals as goal

pub overflow_sub-at : goal.overflow_sub-at
overflow_sub-at c = left_within c.args.source.now c.args.tokens.now c.args.deep c.args.left c.requires.refused

pub returns-then-left-eq0-clause-refused : goal.returns-then-left-eq0-clause-refused
returns-then-left-eq0-clause-refused c =
    at_end c.args.source.now c.args.tokens.now c.args.deep c.args.left c.requires.refused (search rules) c.number_by_depth.result c.number_by_depth.ensures

pub bounds-tokens-at : goal.bounds-tokens-at
bounds-tokens-at c =
    let within : c.args.left ≤ length c.args.tokens.now = left_within c.args.source.now c.args.tokens.now c.args.deep c.args.left c.requires.refused in
    omega arith

pub returns-in-Ok-clause-refused : goal.returns-in-Ok-clause-refused
returns-in-Ok-clause-refused c =
    at_token c.args.source.now c.args.tokens.now c.args.deep c.args.left c.requires.refused (search rules) _ _ c.in-Ok.number refl (search rules)
