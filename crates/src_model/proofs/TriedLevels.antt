-- What the statement of soundness asks of a unit, on small ones: which places break a level, and a unit that isn't accepted.
use Rattle.std.proofs.Common.{◌≡◌, refl, List, [], ◌∷◌}
use Rattle.chains.specs.declared.marks.Mark.TheVariants.{Passes, Violates, StepsTo}
use Rattle.core_unit.specs.Library.{takes}
use Rattle.core_unit.specs.Places.{places, place_spots, initializer_spots, stmt_spots}
use Rattle.core_unit.specs.declared.expressions.Expr.TheVariants as expr
use Rattle.core_unit.specs.declared.expressions.Place.TheVariants as place
use Rattle.core_unit.specs.declared.tables.FunctionInfo.{FunctionInfo}
use Rattle.eff_types.specs.declared.levels.Level.TheVariants.{Plain, NonBlocking}
use Rattle.eff_types.specs.declared.types.CType.{Void}
use Rattle.eff_types.specs.declared.types.FnType.{FnType}
use Rattle.src_model.specs.Soundness.{KeepsLevel}
use Rattle.unit_marks.specs.Marks.{mark_rows, look_for}
use Rattle.src_model.proofs.Trial.{nonblocking, with_effects, definition, call, library_call, run, noreturn, computing}

abbrev void : FnType
void = takes Void []

-- void say(void) { puts("x"); }
-- void mid(void) { say(); }
-- void f(void) [[clang::nonblocking]] { mid(); die(); }
-- _Noreturn void die(void) { say(); }
abbrev functions : List FunctionInfo
functions =
    definition "say" void 0 (run (library_call 1 8 (expr.ArrayPointer (place.Text 1 2) ∷ [])) ∷ [])
    ∷ definition "mid" void 0 (run (call 2 0 void []) ∷ [])
    ∷ definition "f" (with_effects nonblocking void) 0 (run (call 3 1 void []) ∷ run (call 4 3 void []) ∷ [])
    ∷ noreturn (definition "die" void 0 (run (call 5 0 void []) ∷ []))
    ∷ []

marked_places :
    look_for functions NonBlocking 0 0 ∷ look_for functions NonBlocking 1 0 ∷ look_for functions NonBlocking 2 0 ∷ look_for functions NonBlocking 2 1
    ∷ look_for functions NonBlocking 2 2 ∷ []
    ≡ Violates ∷ StepsTo 0 ∷ StepsTo 1 ∷ Passes ∷ Passes ∷ []
unfolding computing mark_rows places place_spots initializer_spots stmt_spots
marked_places = refl

-- So a chain leads from the first place of f to a violation, and f doesn't keep its level.
broken_level : KeepsLevel functions NonBlocking 2 → ⊥
unfolding computing mark_rows places place_spots initializer_spots stmt_spots
broken_level keeps = keeps 0 (0 ∷ 0 ∷ [], (1, refl, (0, refl, refl)))

-- A function without a level may do what it likes.
level_of_none : KeepsLevel functions Plain 0
level_of_none = tt
