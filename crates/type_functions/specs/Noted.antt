-- The declaration of a function by its parts: its faults, and what is noted of it. The code's own words.
use Rattle.std.specs.Prelude.{ℕ, false, not, ◌&&◌, ◌||◌, [], ◌∷◌, ◌++◌, length, is_some, Option, Some, None}
use Rattle.eff_types.specs.Effects.{added, conflict, union}
use Rattle.eff_types.specs.Types.{same_outside}
use Rattle.eff_types.specs.declared.levels.Effects.{Effects}
use Rattle.eff_types.specs.declared.types.CType.TheVariants as a_type
use Rattle.core_unit.specs.declared.tables.FunctionInfo.{FunctionInfo}
use Rattle.type_rules.specs.Declarators.{faults}
use Rattle.type_rules.specs.Functions.{function_set}
use Rattle.type_rules.specs.Reading.{Rule, ◌>>=◌, ◌>>◌, gives, fails, seen, declared, warned, text_of, changes}
use Rattle.type_rules.specs.declared.declarators.FunctionDeclaration.{FunctionDeclaration}
use Rattle.type_rules.specs.declared.names.Entity.TheVariants.{Function}
use Rattle.type_rules.specs.declared.notes.TypeWarning.TheVariants.{Redeclaration}

-- The first declaration, with these effects.
abbrev pub first_faults : FunctionDeclaration → Effects → Rule (Unit {0})
first_faults d effects = faults false d.mistyped (d.made.conflicting || conflict (effects ∷ [])) d.made.incomplete d.name.start

abbrev pub first_noted : FunctionDeclaration → Effects → Rule ℕ
first_noted d effects = do
  s ← seen
  changes (λ t. record t {
    functions = t.functions ++ record {
      name = text_of s.source d.name;
      kind = record d.kind { effects = effects };
      noreturn = d.made.noreturn;
      internal = d.internal;
      place = d.name.start;
      body = None;
      frame_words = 0;
    } ∷ [];
  })
  declared d.number (Function (length s.functions))
  gives (length s.functions)

-- A further one.
abbrev pub faults_beside : FunctionDeclaration → Effects → FunctionInfo → Rule (Unit {0})
faults_beside d effects f =
    faults (is_some f.body && d.has_body) (d.mistyped || not (same_outside (a_type.Function f.kind) (a_type.Function d.kind)))
    (d.made.conflicting || conflict (f.kind.effects ∷ effects ∷ [])) d.made.incomplete d.name.start

abbrev pub further_faults : FunctionDeclaration → Effects → Option FunctionInfo → Rule (Unit {0})
further_faults d effects None = fails 2 d.name.start
further_faults d effects (Some f) = faults_beside d effects f

abbrev pub further_noted : FunctionDeclaration → ℕ → Effects → Option FunctionInfo → Rule ℕ
further_noted d number effects None = fails 2 d.name.start
further_noted d number effects (Some f) = do
  warned (added effects f.kind.effects) (Redeclaration d.name.start)
  function_set number (record f {
    kind = record f.kind { effects = union (f.kind.effects ∷ effects ∷ []) };
    noreturn = f.noreturn || d.made.noreturn;
    internal = f.internal || d.internal;
  })
  gives number
