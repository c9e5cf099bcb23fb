use Rattle.std.proofs.Common.{◌≡◌, ◌∙◌, sym, ap, Some}
use Rattle.scopes.specs.Scope.{found_here}
use Rattle.type_declarations.proofs.Further.{further-form}
use Rattle.type_declarations.specs.Declared.{declared_again}
use Rattle.type_recursion.proofs.Continued.{ends}
use Rattle.type_rules.specs.Declarations as spec
use Rattle.type_declarations.proofs.variables.file_variable.Goals as goal

pub returns-in-Some : goal.returns-in-Some
returns-in-Some c =
    let said = c.args.said.now in
    let made = c.args.made.now in
    let kind = c.args.kind.now in
    let seen = c.args.typing.now in
    let found : Some c.in-Some.entity.now ≡ found_here seen.scopes c.args.number = c.in-Some.ensures in
    let whole : spec.file_variable c.args.name c.args.number said made c.args.initialized kind (found_here seen.scopes c.args.number) seen
    ≡ declared_again c.args.name said made c.args.initialized kind c.file_place-variable.result seen =
    ap (λ e. spec.file_variable c.args.name c.args.number said made c.args.initialized kind e seen) (sym found)
    ∙ further-form c.args.name c.args.number said made c.args.initialized kind c.in-Some.entity.now seen
    ∙ ap (λ p. declared_again c.args.name said made c.args.initialized kind p seen) (sym c.file_place-variable.ensures) in
    ends _ _ c.declared_again.result c.declared_again.new.typing whole c.declared_again.ensures
