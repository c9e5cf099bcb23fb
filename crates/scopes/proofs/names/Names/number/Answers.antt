-- The set's keys are the texts.
use Rattle.std.proofs.Common.{◌∙◌, ap}
use Rattle.scopes.specs.Number.{number_of, noted, spelled}
use Rattle.scopes.proofs.Numbers.{number_is, noted_is}
use Rattle.scopes.proofs.names.Names.number.Goals as goal

pub returns-clause-number : goal.returns-clause-number
returns-clause-number c =
    c.in-Ok.ensures.index ∙ number_is c.self.inside.texts.keys c.args.text ∙ ap (λ texts. number_of texts c.args.text.now) c.self.view_is

pub returns-clause-names : goal.returns-clause-names
returns-clause-names c =
    ap spelled c.in-Ok.ensures.keys ∙ noted_is c.self.inside.texts.keys c.args.text ∙ ap (λ texts. noted texts c.args.text.now) c.self.view_is
