-- A look-up among references is one among their texts.
use Rattle.std.proofs.Common.{sym, ap, ◌∙◌, ℕ, List, Bor}
use Rattle.std.specs.List.{list_any}
use Rattle.std.specs.Str.{bytes_eq}
use Rattle.built_form.specs.Built.{number_of}
use Rattle.built_form.proofs.Names.{number_of-map, list_any-map}
use Rattle.built_form.proofs.scope.Scope.number.Goals as goal

pub returns-clause-number : goal.returns-clause-number
returns-clause-number c =
    c.get_index_of.ensures.index
    ∙ (sym (number_of-map c.args.name.now c.self.inside.names.keys) ∙ ap (λ s. number_of s c.args.name.now) c.self.view_is)

pub returns-clause-found : goal.returns-clause-found
returns-clause-found c =
    c.get_index_of.ensures.found
    ∙ (sym (list_any-map (bytes_eq c.args.name.now) (λ (n : Bor (List ℕ)). n.now) c.self.inside.names.keys)
    ∙ ap (λ s. list_any (bytes_eq c.args.name.now) s) c.self.view_is)
