-- Functions of a unit add no level but where a conversion is warned of: their declarations raise levels alone, and their definitions have bodies.
use Rattle.std.proofs.Common.{◌≡◌, ℕ, zero, suc, ◌+◌, Bool, true, false, refl, sym, subst, List, [], ◌∷◌, length, slice_get, slice_set, Option, Some, None, arith}
use Rattle.std.specs.Prelude.{not, ◌&&◌, ◌||◌, ◌++◌, is_some}
use Rattle.scopes.specs.Scope.{Scope, declare}
use Rattle.eff_types.specs.Effects.{added, conflict, union}
use Rattle.eff_types.specs.Laws.{IsAtMost}
use Rattle.eff_types.specs.Types.{same_outside}
use Rattle.eff_types.specs.declared.levels.Effects.{Effects}
use Rattle.eff_types.specs.declared.levels.Level.{Level}
use Rattle.eff_types.specs.declared.types.CType.TheVariants as a_type
use Rattle.eff_types.specs.declared.types.FnType.{FnType}
use Rattle.core_unit.specs.Levels.{HasLevel, StmtKeeps, BodyKeeps}
use Rattle.core_unit.specs.declared.body.Stmt.{Stmt}
use Rattle.core_unit.specs.declared.expressions.Storage.TheVariants.{Automatic}
use Rattle.core_unit.specs.declared.tables.FunctionInfo.{FunctionInfo}
use Rattle.type_rules.specs.Declarators.{faults}
use Rattle.type_rules.specs.Functions.{effects_at, marked, first_declaration, further_declaration, function_declared, declared_at, parameters_declared, body_begun, body_opened, with_body, function_defined, body_read}
use Rattle.type_rules.specs.Laws.{IsNoConversion}
use Rattle.type_rules.specs.Reading.{Read, Good, and_then, warned, declared, scoped}
use Rattle.type_rules.specs.Seen.{Seen}
use Rattle.type_rules.specs.Units.{with_whole}
use Rattle.type_rules.specs.declared.declarators.FunctionDeclaration.{FunctionDeclaration}
use Rattle.type_rules.specs.declared.declarators.Parameter.{Parameter}
use Rattle.type_rules.specs.declared.names.Entity.{Entity}
use Rattle.type_rules.specs.declared.names.Entity.TheVariants.{Variable, Function, TypeName, Enumerator, Library, NullPointer, MutexInitializer}
use Rattle.type_rules.specs.declared.notes.TypeWarning.{TypeWarning}
use Rattle.type_rules.specs.declared.notes.TypeWarning.TheVariants.{Redeclaration}
use Rattle.type_laws.proofs.Each.{Each, each_get, each_more, each_set}
use Rattle.type_laws.proofs.Filling.{all_of_each}
use Rattle.type_laws.proofs.Functions.{union_rises}
use Rattle.type_laws.proofs.Quiet.{Kept, Always, Anything, Quiet, Quietly, then_quiet, moves_quiet, fails_quiet, anyway, scoped_quiet}
use Rattle.type_laws.proofs.QuietDeclarations.{QuietStmts}
use Rattle.type_laws.proofs.QuietSpecifiers.{steady, declared_quiet}
use Rattle.type_laws.proofs.Whole.{in_whole}

-- what is asked of a name before it is declared changes nothing
pub faults_then : {A : Type 0} {pre : List FunctionInfo → Type 0} {K : A → List FunctionInfo → Type 0} (s : Seen) (redefined mistyped conflicting incomplete : Bool) (place : ℕ)
    (k : Unit {0} → Seen → Read A) → Quiet pre K s (k tt s) → Quiet pre K s (and_then (faults redefined mistyped conflicting incomplete place s) k)
unfolding and_then
faults_then s true m c i place k next = fails_quiet s 2 place
faults_then s false true c i place k next = fails_quiet s 3 place
faults_then s false false true i place k next = fails_quiet s 4 place
faults_then s false false false true place k next = fails_quiet s 10 place
faults_then s false false false false place k next = next

-- a function more takes no level from the others
more_levels : (whole : List Effects) (n : ℕ) (fs : List FunctionInfo) (new : FunctionInfo) (k : ℕ) (level : Level) → HasLevel (with_whole whole n fs) k level
    → HasLevel (with_whole whole n (fs ++ new ∷ [])) k level
more_levels whole n [] new k level h = let known = h.known in absurd (cc)
more_levels whole n (f ∷ fs) new zero level h = record { info = h.info; known = h.known; above = h.above }
more_levels whole n (f ∷ fs) new (suc k) level h =
    let later = more_levels whole (n + 1) fs new k level (record { info = h.info; known = h.known; above = h.above }) in
    record { info = later.info; known = later.known; above = later.above }

effects_rise : (whole : Option Effects) (f new : FunctionInfo) → IsAtMost f.kind.effects.level new.kind.effects.level
    → IsAtMost (effects_at whole f.kind).effects.level (effects_at whole new.kind).effects.level
effects_rise (Some e) f new rises = omega arith
effects_rise None f new rises = rises

-- nor does one that changes to a level that isn't below its own
set_levels : (whole : List Effects) (n : ℕ) (fs : List FunctionInfo) (number : ℕ) (f new : FunctionInfo) (k : ℕ) (level : Level) → slice_get fs number ≡ Some f
    → IsAtMost f.kind.effects.level new.kind.effects.level → HasLevel (with_whole whole n fs) k level → HasLevel (with_whole whole n (slice_set fs number new)) k level
set_levels whole n [] number f new k level known rises h = absurd (cc)
set_levels whole n (g ∷ gs) zero f new zero level known rises h =
    let same : g ≡ f = cc in
    let first : in_whole whole n g ≡ h.info = let there = h.known in cc in
    let above : IsAtMost level (effects_at (slice_get whole n) f.kind).effects.level =
    subst (λ (x : FunctionInfo). IsAtMost level (effects_at (slice_get whole n) x.kind).effects.level) same (subst (λ (x : FunctionInfo). IsAtMost level x.kind.effects.level) (sym first) h.above) in
    let more = effects_rise (slice_get whole n) f new rises in
    record { info = in_whole whole n new; known = refl; above = omega (arith, above, more) }
set_levels whole n (g ∷ gs) zero f new (suc k) level known rises h = record { info = h.info; known = h.known; above = h.above }
set_levels whole n (g ∷ gs) (suc number) f new zero level known rises h = record { info = h.info; known = h.known; above = h.above }
set_levels whole n (g ∷ gs) (suc number) f new (suc k) level known rises h =
    let later = set_levels whole (n + 1) gs number f new k level known rises (record { info = h.info; known = h.known; above = h.above }) in
    record { info = later.info; known = later.known; above = later.above }

module _ {A : Type 0} (pre : List FunctionInfo → Type 0) (s : Seen) where
  -- a function is declared first
  grown_quiet : (new : FunctionInfo) (scopes : List (Scope Entity)) (a : A) → new.body ≡ None
      → Quiet pre Anything s (Good a (record s { functions = s.functions ++ new ∷ []; scopes = scopes }))
  grown_quiet new scopes a none =
      moves_quiet s _ a (λ u ends. record { unwarned = ends.unwarned; levels = λ k level h. ends.levels k level (more_levels s.whole 0 s.functions new k level h) })
      (λ u kept. record {
        bodies = each_more (λ f. BodyKeeps f.body) s.functions new kept.bodies (subst BodyKeeps (sym none) tt);
        statics = kept.statics;
        threads = kept.threads;
      }) (λ u ends p. tt)

  -- or changes
  changed_quiet : (number : ℕ) (f new : FunctionInfo) (warnings : List TypeWarning) (definitions : List ℕ) (a : A) → slice_get s.functions number ≡ Some f
      → IsAtMost f.kind.effects.level new.kind.effects.level → (Each IsNoConversion warnings → Each IsNoConversion s.warnings)
      → ((u : List FunctionInfo) → Kept u s → pre u → BodyKeeps new.body)
      → Quiet pre Anything s (Good a (record s { functions = slice_set s.functions number new; warnings = warnings; definitions = definitions }))
  changed_quiet number f new warnings definitions a known rises older body = record {
    holds = λ u ends. (
      record {
        unwarned = older ends.unwarned;
        levels = λ k level h. ends.levels k level (set_levels s.whole 0 s.functions number f new k level known rises h);
      },
      λ kept p. (
        record {
          bodies = each_set (λ g. BodyKeeps g.body) s.functions number new kept.bodies (body u kept p);
          statics = kept.statics;
          threads = kept.threads;
        },
        tt,
      ),
    );
  }

each_before : (P : TypeWarning → Type 0) (ws : List TypeWarning) (w : TypeWarning) → Each P (ws ++ w ∷ []) → Each P ws
each_before P [] w each = tt
each_before P (v ∷ vs) w each = (each.0, each_before P vs w each.1)

first_quiet : (pre : List FunctionInfo → Type 0) (d : FunctionDeclaration) (s : Seen) → Quiet pre Anything s (first_declaration d s)
unfolding and_then
first_quiet pre d s =
    faults_then s false d.mistyped (d.made.conflicting || conflict (marked s.marks (length s.functions) d.kind.effects ∷ [])) d.made.incomplete d.name.start _
    (grown_quiet pre s _ (declare s.scopes d.number (Function (length s.functions))) (length s.functions) refl)

further_quiet : (pre : List FunctionInfo → Type 0) (d : FunctionDeclaration) (s : Seen) (number : ℕ) (found : Option FunctionInfo) → slice_get s.functions number ≡ found
    → Quiet pre Anything s (further_declaration d s.marks number found s)
unfolding and_then
further_quiet pre d s number None known = fails_quiet s 2 d.name.start
further_quiet pre d s number (Some f) known =
    faults_then s (is_some f.body && d.has_body) (d.mistyped || not (same_outside (a_type.Function f.kind) (a_type.Function d.kind)))
    (d.made.conflicting || conflict (f.kind.effects ∷ marked s.marks number d.kind.effects ∷ [])) d.made.incomplete d.name.start _
    (of (added (marked s.marks number d.kind.effects) f.kind.effects))
  where
    again : FunctionInfo
    again = record f {
      kind = record f.kind { effects = union (f.kind.effects ∷ marked s.marks number d.kind.effects ∷ []) };
      noreturn = f.noreturn || d.made.noreturn;
      internal = f.internal || d.internal;
    }

    rises : IsAtMost f.kind.effects.level again.kind.effects.level
    rises = union_rises f.kind.effects (marked s.marks number d.kind.effects)

    body : (u : List FunctionInfo) → Kept u s → BodyKeeps f.body
    body u kept = each_get (λ (g : FunctionInfo). BodyKeeps g.body) s.functions number f kept.bodies known

    of : (raised : Option Level) → Quiet pre Anything s
        (and_then (warned raised (Redeclaration d.name.start) s) (λ _ t. Good number (record t { functions = slice_set t.functions number again })))
    of None = changed_quiet pre s number f again s.warnings s.definitions number known rises (λ each. each) (λ u kept p. body u kept)
    of (Some l) =
        changed_quiet pre s number f again (s.warnings ++ Redeclaration d.name.start l ∷ []) s.definitions number known rises
        (each_before IsNoConversion s.warnings (Redeclaration d.name.start l)) (λ u kept p. body u kept)

pub function_quiet : (pre : List FunctionInfo → Type 0) (d : FunctionDeclaration) (here : Option Entity) (s : Seen) → Quiet pre Anything s (function_declared d here s)
unfolding and_then
function_quiet pre d None s = first_quiet pre d s
function_quiet pre d (Some (Function number)) s = further_quiet pre d s number (slice_get s.functions number) refl
function_quiet pre d (Some (Variable t storage n)) s = fails_quiet s 2 d.name.start
function_quiet pre d (Some (TypeName t)) s = fails_quiet s 2 d.name.start
function_quiet pre d (Some (Enumerator bits)) s = fails_quiet s 2 d.name.start
function_quiet pre d (Some (Library row)) s = fails_quiet s 2 d.name.start
function_quiet pre d (Some NullPointer) s = fails_quiet s 2 d.name.start
function_quiet pre d (Some MutexInitializer) s = fails_quiet s 2 d.name.start

parameters_quiet : (pre : List FunctionInfo → Type 0) (offset : ℕ) (ps : List Parameter) (s : Seen) → Quiet pre Anything s (parameters_declared offset ps s)
parameters_quiet pre offset [] s = steady s tt
parameters_quiet pre offset (p ∷ ps) s =
    then_quiet s (declared_at offset p.name p.kind s) _ (at_quiet pre p.name) (λ x t. parameters_quiet _ (offset + 1) ps t)
  where
    at_quiet : (pre : List FunctionInfo → Type 0) (name : Option ℕ) → Quiet pre Anything s (declared_at offset name p.kind s)
    at_quiet pre (Some name) = declared_quiet pre s name (Variable p.kind (Automatic offset) None)
    at_quiet pre None = steady s tt

opened_quiet : (kind : FnType) (ps : List Parameter) (s : Seen) → Quiet Always Anything s (body_opened kind ps s)
opened_quiet kind ps s =
    then_quiet s (parameters_declared 0 ps s) _ (parameters_quiet Always 0 ps s) (λ x t. begun_quiet _ kind t)
  where
    begun_quiet : (pre : List FunctionInfo → Type 0) (kind : FnType) (t : Seen) → Quiet pre Anything t (body_begun kind t)
    begun_quiet pre kind t = moves_quiet t _ tt (λ u ends. ends) (λ u kept. kept) (λ u ends p. tt)

defined_quiet : (pre : List FunctionInfo → Type 0) (number : ℕ) (items : List Stmt) (s : Seen) → ((u : List FunctionInfo) → pre u → QuietStmts items u)
    → Quiet pre Anything s (function_defined number items s)
unfolding and_then
defined_quiet pre number items s h = of (slice_get s.functions number) refl
  where
    of : (found : Option FunctionInfo) → slice_get s.functions number ≡ found → Quiet pre Anything s
        (and_then (with_body found number items s.frame s) (λ x t. Good (tt {0}) (record t { definitions = t.definitions ++ number ∷ [] })))
    of None known = moves_quiet s _ tt (λ u ends. ends) (λ u kept. kept) (λ u ends p. tt)
    of (Some f) known =
        changed_quiet pre s number f (record f { body = Some (record { items = items }); frame_words = s.frame }) s.warnings (s.definitions ++ number ∷ []) tt known (omega arith)
        (λ each. each) (λ u kept p. all_of_each StmtKeeps items (h u p))

pub body_quiet : (pre : List FunctionInfo → Type 0) (number : ℕ) (kind : FnType) (ps : List Parameter) (block : Seen → Read (List Stmt)) → Quietly QuietStmts block → (s : Seen)
    → Quiet pre Anything s (body_read number kind ps block s)
unfolding body_read
body_quiet pre number kind ps block keeps s =
    then_quiet s (scoped (λ t. and_then (body_opened kind ps t) (λ x. block)) s) _
    (anyway s _ (scoped_quiet QuietStmts _ (λ t. then_quiet t (body_opened kind ps t) _ (opened_quiet kind ps t) (λ x v. anyway v (block v) (keeps v))) s)) (λ items t.
    defined_quiet _ number items t (λ u p. p.1))
