-- The name was not there, so it goes last.
use Rattle.std.proofs.Common.{◌≡◌, false, sym, ap, ◌∙◌, refl, ℕ, List, [], ◌∷◌, ◌++◌, Bor, map}
use Rattle.std.specs.List.{list_any}
use Rattle.std.specs.Str.{bytes_eq}
use Rattle.built_form.proofs.Names.{added_last}
use Rattle.built_form.proofs.scope.Scope.declare.Goals as goal
use Rattle.built_form.proofs.scope.Scope.declare.Goals.{in-Ok, in-Err}

pub returns-clause-added : goal.returns-clause-added
returns-clause-added c =
    let absent : list_any (bytes_eq c.args.name.now) c.args.self.now ≡ false =
    sym c.number.ensures.found ∙ (sym c.is_some.ensures ∙ c.if-is_some.false) in
    let none : list_any (bytes_eq c.args.name.now) (map (λ (n : Bor (List ℕ)). n.now) c.self.inside.names.keys) ≡ false =
    ap (λ s. list_any (bytes_eq c.args.name.now) s) c.self.view_is ∙ absent in
    elim c.match-insert.branch [
      | in-Ok w ↦ rw w.result-is
          (ap (λ ks. map (λ (n : Bor (List ℕ)). n.now) ks) w.in-Ok.ensures.keys
          ∙ (added_last c.args.name.now c.self.inside.names.keys c.args.name refl none
          ∙ ap (λ s. s ++ c.args.name.now ∷ []) c.self.view_is))
      | in-Err w ↦ rw w.result-is tt
    ]
