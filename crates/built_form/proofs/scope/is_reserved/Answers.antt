-- The table of the code is that of the definition.
use Rattle.built_form.specs.Built.{is_reserved, reserved_names}
use Rattle.built_form.proofs.scope.is_reserved.Goals as goal

pub returns : goal.returns
unfolding is_reserved reserved_names
returns c = c.is_among.ensures
