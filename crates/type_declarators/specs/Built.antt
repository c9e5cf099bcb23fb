-- What the parts of a declarator make of a type, with what is wrong with them.
use Rattle.std.specs.Prelude.{◌||◌, List}
use Rattle.std.specs.List.{list_any}
use Rattle.eff_types.specs.declared.types.CType.{CType}
use Rattle.core_unit.specs.declared.tables.StructInfo.{StructInfo}
use Rattle.type_declarators.specs.declared.parts.Built.{Built}
use Rattle.type_rules.specs.declared.declarators.Part.{Part}
use Rattle.type_rules.specs.Declarators.{is_misplaced, are_misplaced, part_type, parts_type, part_conflicts, part_is_incomplete, are_incomplete}

abbrev pub built_of : List StructInfo → CType → List Part → Built
built_of structures t parts = record {
  kind = parts_type t parts;
  misplaced = are_misplaced t parts;
  conflicting = list_any part_conflicts parts;
  incomplete = are_incomplete structures t parts;
}

-- The parts stand from the name outwards: what stands before the others goes round what they made.
abbrev pub built_around : List StructInfo → Part → Built → Built
built_around structures p inside = record {
  kind = part_type p inside.kind;
  misplaced = is_misplaced p inside.kind || inside.misplaced;
  conflicting = part_conflicts p || inside.conflicting;
  incomplete = part_is_incomplete structures p inside.kind || inside.incomplete;
}
