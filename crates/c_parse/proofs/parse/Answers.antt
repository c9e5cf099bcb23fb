-- What is answered is all that is so of the tokens.
use Rattle.c_parse.proofs.Laws.{parsed, one_tree, not_both, one_refusal, if_bad}
use Rattle.c_parse.proofs.parse.Goals as goal

pub returns-in-Ok-clause-parsed : goal.returns-in-Ok-clause-parsed
returns-in-Ok-clause-parsed c = parsed c.args.source.now c.args.tokens.now c.in-Ok.tree c.in-Ok.ensures

pub returns-in-Ok-clause-only_parsed : goal.returns-in-Ok-clause-only_parsed
returns-in-Ok-clause-only_parsed c = λ other p.
    one_tree c.args.source.now c.args.tokens.now c.in-Ok.tree other (parsed c.args.source.now c.args.tokens.now c.in-Ok.tree c.in-Ok.ensures) p

pub returns-in-Ok-clause-not_refused : goal.returns-in-Ok-clause-not_refused
returns-in-Ok-clause-not_refused c = λ number token place r.
    not_both c.args.source.now c.args.tokens.now c.in-Ok.tree number token place
    (parsed c.args.source.now c.args.tokens.now c.in-Ok.tree c.in-Ok.ensures) r

pub returns-in-Err-Refused-clause-only_refused : goal.returns-in-Err-Refused-clause-only_refused
returns-in-Err-Refused-clause-only_refused c =
    if_bad (λ n t p r other index spot s. one_refusal c.args.source.now c.args.tokens.now n t p other index spot r s) c.refusal_at.result c.refusal_at.ensures.refused

pub returns-in-Err-Refused-clause-not_parsed : goal.returns-in-Err-Refused-clause-not_parsed
returns-in-Err-Refused-clause-not_parsed c =
    if_bad (λ n t p r tree w. not_both c.args.source.now c.args.tokens.now tree n t p w r) c.refusal_at.result c.refusal_at.ensures.refused
