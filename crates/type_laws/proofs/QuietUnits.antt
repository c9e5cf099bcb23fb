-- A unit adds no level where no conversion is warned of: its external declarations, one after the other, its bodies, and what its words hold at first.
use Rattle.std.proofs.Common.{◌≡◌, ℕ, zero, suc, ◌≤◌, ◌+◌, Bool, true, false, refl, sym, ◌∙◌, ap, subst, List, [], ◌∷◌, length, slice_get, Option, Some, None, arith, All}
use Rattle.std.specs.Prelude.{not, ◌&&◌, ◌||◌, if◌then◌else◌, is_some, nat_eq}
use Rattle.eff_types.specs.Effects.{rank}
use Rattle.eff_types.specs.Types.{same}
use Rattle.eff_types.specs.declared.levels.Effects.{Effects}
use Rattle.eff_types.specs.declared.levels.Level.{Level}
use Rattle.eff_types.specs.declared.levels.Level.TheVariants.{Plain, NonAllocating, NonBlocking}
use Rattle.eff_types.specs.declared.types.CType.{CType}
use Rattle.eff_types.specs.declared.types.FnType.{FnType}
use Rattle.c_tree.specs.declared.declarations.Decl.{Decl}
use Rattle.c_tree.specs.declared.declarations.FunctionDefinition.{FunctionDefinition}
use Rattle.c_tree.specs.declared.declarations.Init.{Init}
use Rattle.c_tree.specs.declared.statements.BlockItem.{BlockItem}
use Rattle.c_tree.specs.declared.statements.External.{External}
use Rattle.c_tree.specs.declared.statements.External.TheVariants as external
use Rattle.c_tree.specs.declared.statements.Tree.{Tree}
use Rattle.c_tree.specs.declared.words.Span.{Span}
use Rattle.core_unit.specs.Layout.{words_of}
use Rattle.core_unit.specs.Levels.{IsLevelKept, BodyKeeps, AddsNoLevel}
use Rattle.core_unit.specs.Shapes.{function_in, is_unsized}
use Rattle.core_unit.specs.Typed.{where_in}
use Rattle.core_unit.specs.Words.{packed}
use Rattle.core_unit.specs.declared.body.Stmt.{Stmt}
use Rattle.core_unit.specs.declared.expressions.Storage.{Storage}
use Rattle.core_unit.specs.declared.tables.FunctionInfo.{FunctionInfo}
use Rattle.core_unit.specs.declared.tables.UnitParts.{UnitParts}
use Rattle.core_unit.specs.declared.tables.VariableInfo.{VariableInfo}
use Rattle.core_unit.specs.declared.units.Which.{Which}
use Rattle.core_unit.specs.declared.words.Word.{Word}
use Rattle.core_unit.specs.declared.words.Word.TheVariants as word
use Rattle.scopes.specs.Scope.{found_here}
use Rattle.type_rules.specs.Declarations.{Named, no_initializer, is_other_type, typedef_declared, function_of, function_named, is_mistyped, file_duration, same_words, first_variable, further_variable, file_variable, sized, statically, variable_named, name_declared, file_name, named_by, without_statements, declaration, file_declaration, all_specifiers, is_redefined, not_defined, defined_as, defined_name, definition}
use Rattle.type_rules.specs.Declarators.{made}
use Rattle.type_rules.specs.Functions.{function_declared}
use Rattle.type_rules.specs.Initializers.{init_place, initialized}
use Rattle.type_rules.specs.Laws.{IsNoConversion, UnwarnedUnitsAddNoLevel}
use Rattle.type_rules.specs.Reading.{Read, Good, Bad, and_then, declared}
use Rattle.type_rules.specs.Recursion.{declarator}
use Rattle.type_rules.specs.Seen.{Seen}
use Rattle.type_rules.specs.Specifiers.{no_specifiers}
use Rattle.type_rules.specs.Statements.{block_items}
use Rattle.type_rules.specs.Storage.{kept_for}
use Rattle.type_rules.specs.Types.{is_incomplete}
use Rattle.type_rules.specs.Units.{external_read, externals, opening, read_unit, with_whole, words_from, value_at, parts_of, exceeded, effects_of_all, typed, outcome, outcome_of, IsTyped}
use Rattle.type_rules.specs.declared.declarators.Made.{Made}
use Rattle.type_rules.specs.declared.declarators.Parameter.{Parameter}
use Rattle.type_rules.specs.declared.names.Entity.{Entity}
use Rattle.type_rules.specs.declared.names.Entity.TheVariants.{Variable, Function, TypeName, Enumerator, Library, NullPointer, MutexInitializer}
use Rattle.type_rules.specs.declared.notes.Initial.{Initial}
use Rattle.type_rules.specs.declared.notes.TypeWarning.{TypeWarning}
use Rattle.type_rules.specs.declared.specifiers.Specifiers.{Specifiers}
use Rattle.type_laws.proofs.Each.{Each}
use Rattle.type_laws.proofs.Filling.{all_of_each}
use Rattle.type_laws.proofs.Lists.{get_inside}
use Rattle.type_laws.proofs.Quiet.{Ends, IsLevelled, AreLevelled, Always, Anything, Quiet, Quietly, then_quiet, gives_quiet, moves_quiet, fails_quiet, refused_quiet, either_quiet, anyway}
use Rattle.type_laws.proofs.QuietDeclarations.{QuietStmts, all_specifiers_quiet, kept_for_quiet, initially_quiet, sized_quiet, array_completed_quiet, named_at_quiet, declaration_quiet}
use Rattle.type_laws.proofs.QuietFunctions.{faults_then, function_quiet, body_quiet}
use Rattle.type_laws.proofs.QuietInitializers.{initialized_quiet}
use Rattle.type_laws.proofs.QuietSpecifiers.{steady, declared_quiet}
use Rattle.type_laws.proofs.QuietStatements.{block_items_quiet}
use Rattle.type_laws.proofs.QuietTrees.{declarator_quiet}
use Rattle.type_laws.proofs.Values.{each_of_all}
use Rattle.type_laws.proofs.Whole.{limits_hold, whole_length}

no_initializer_quiet : (pre : List FunctionInfo → Type 0) (i : Option Init) (s : Seen) → Quiet pre Anything s (no_initializer i s)
no_initializer_quiet pre None s = steady s tt
no_initializer_quiet pre (Some i) s = fails_quiet s 9 (init_place i)

typedef_quiet : (d : Named) (here : Option Entity) → Quietly Anything (typedef_declared d here)
unfolding typedef_declared
typedef_quiet d here s =
    faults_then s (is_other_type here d.made.kind) (d.made.mistyped || d.made.noreturn || d.specifiers.is_thread_local) d.made.conflicting
    (d.made.incomplete || is_unsized d.made.kind) d.name.start _
    (then_quiet s (declared d.number (TypeName d.made.kind) s) _ (declared_quiet Always s d.number (TypeName d.made.kind)) (λ x t. no_initializer_quiet _ d.init t))

function_named_quiet : (d : Named) (f : FnType) (here : Option Entity) → Quietly Anything (function_named d f here)
unfolding function_named
function_named_quiet d f here s =
    let declaration = function_of d.name d.number d.specifiers d.made f false in
    then_quiet s (function_declared declaration here s) _ (function_quiet Always declaration here s) (λ n t. no_initializer_quiet _ d.init t)

first_variable_quiet : (pre : List FunctionInfo → Type 0) (name : Span) (number : ℕ) (b : Specifiers) (m : Made) (initialized : Bool) (t : CType) (s : Seen)
    → Quiet pre Anything s (first_variable name number b m initialized t s)
unfolding and_then
first_variable_quiet pre name number b m initialized t s =
    faults_then s false (is_mistyped m) m.conflicting (m.incomplete || is_incomplete s.structures t) name.start _
    (then_quiet s (kept_for (file_duration b) (words_of s.structures t) (Some (length s.variables)) s) _
    (kept_for_quiet pre s (file_duration b) (words_of s.structures t) (Some (length s.variables))) (λ storage v.
    moves_quiet v _ storage (λ u ends. ends) (λ u kept. kept) (λ u ends p. tt)))

further_variable_quiet : (pre : List FunctionInfo → Type 0) (name : Span) (b : Specifiers) (m : Made) (initialized : Bool) (t : CType) (number : ℕ) (storage : Storage)
    (found : Option VariableInfo) (s : Seen) → Quiet pre Anything s (further_variable name b m initialized t number storage found s)
unfolding and_then
further_variable_quiet pre name b m initialized t number storage None s = fails_quiet s 2 name.start
further_variable_quiet pre name b m initialized t number storage (Some v) s =
    faults_then s (v.initialized && initialized) (is_mistyped m || not (same v.kind t) || not (same_words v.thread_local b.is_thread_local)) m.conflicting m.incomplete name.start _
    (moves_quiet s _ storage (λ u ends. ends) (λ u kept. kept) (λ u ends p. tt))

file_variable_quiet : (pre : List FunctionInfo → Type 0) (name : Span) (own : ℕ) (b : Specifiers) (m : Made) (initialized : Bool) (t : CType) (here : Option Entity) (s : Seen)
    → Quiet pre Anything s (file_variable name own b m initialized t here s)
unfolding and_then
file_variable_quiet pre name own b m initialized t None s = first_variable_quiet pre name own b m initialized t s
file_variable_quiet pre name own b m initialized t (Some (Variable k storage (Some number))) s =
    further_variable_quiet pre name b m initialized t number storage (slice_get s.variables number) s
file_variable_quiet pre name own b m initialized t (Some (Variable k storage None)) s = fails_quiet s 2 name.start
file_variable_quiet pre name own b m initialized t (Some (Function n)) s = fails_quiet s 2 name.start
file_variable_quiet pre name own b m initialized t (Some (TypeName k)) s = fails_quiet s 2 name.start
file_variable_quiet pre name own b m initialized t (Some (Enumerator bits)) s = fails_quiet s 2 name.start
file_variable_quiet pre name own b m initialized t (Some (Library row)) s = fails_quiet s 2 name.start
file_variable_quiet pre name own b m initialized t (Some NullPointer) s = fails_quiet s 2 name.start
file_variable_quiet pre name own b m initialized t (Some MutexInitializer) s = fails_quiet s 2 name.start

statically_quiet : (pre : List FunctionInfo → Type 0) (i : Option Init) (t : CType) (storage : Storage) (s : Seen) → Quiet pre Anything s (statically i t storage s)
statically_quiet pre None t storage s = steady s tt
statically_quiet pre (Some i) t storage s =
    then_quiet s (initialized true t i s) _ (anyway s _ (initialized_quiet i true t s)) (λ given v. initially_quiet _ v storage _ (λ u p. p.1.1 (where_in storage)))

variable_quiet : (d : Named) (here : Option Entity) → Quietly Anything (variable_named d here)
unfolding variable_named
variable_quiet d here s =
    then_quiet s (sized d.init d.made.kind s) _ (sized_quiet Always d.init d.made.kind s) (λ t v.
    then_quiet v (file_variable d.name d.number d.specifiers d.made (is_some d.init) t here v) _ (file_variable_quiet _ d.name d.number d.specifiers d.made (is_some d.init) t here v) (λ storage w.
    then_quiet w (statically d.init t storage w) _ (statically_quiet _ d.init t storage w) (λ x y.
    array_completed_quiet _ d.number t (is_unsized d.made.kind) y)))

name_quiet : (d : Named) (f : Option FnType) (here : Option Entity) → Quietly Anything (name_declared d f here)
name_quiet d (Some f) here s = function_named_quiet d f here s
name_quiet d None here s = variable_quiet d here s

file_name_quiet : (d : Named) → Quietly Anything (file_name d)
unfolding and_then
file_name_quiet d s =
    either_quiet s d.specifiers.is_typedef _ _ (λ e. typedef_quiet d (found_here s.scopes d.number) s) (λ e. name_quiet d (function_in d.made.kind) (found_here s.scopes d.number) s)

without_quiet : (next : Named → Seen → Read (Unit {0})) → ((d : Named) → Quietly Anything (next d)) → (d : Named) → Quietly QuietStmts (without_statements next d)
without_quiet next keeps d s = then_quiet s (next d s) _ (keeps d s) (λ x t. gives_quiet t [] (λ u ends p. tt))

file_declaration_quiet : (d : Decl) → Quietly Anything (file_declaration d)
unfolding file_declaration
file_declaration_quiet d s =
    then_quiet s (declaration (without_statements file_name) d s) _ (declaration_quiet (without_statements file_name) d (without_quiet file_name file_name_quiet) s) (λ x t. steady t tt)

not_defined_quiet : (name : Span) (is_function : Bool) (here : Option Entity) → Quietly Anything (not_defined name is_function here)
unfolding and_then
not_defined_quiet name is_function here s = refused_quiet s (is_redefined s.functions is_function here) 2 name.start _ (λ e. fails_quiet s 3 name.start)

defined_as_quiet : (d : Named) (f : Option FnType) (ps : Option (List Parameter)) (block : Seen → Read (List Stmt)) (here : Option Entity) → Quietly QuietStmts block
    → Quietly Anything (defined_as d f ps block here)
defined_as_quiet d (Some f) (Some ps) block here keeps s =
    let declaration = function_of d.name d.number d.specifiers d.made f true in
    then_quiet s (function_declared declaration here s) _ (function_quiet Always declaration here s) (λ number t. body_quiet _ number f ps block keeps t)
defined_as_quiet d (Some f) None block here keeps s = not_defined_quiet d.name true here s
defined_as_quiet d None ps block here keeps s = not_defined_quiet d.name false here s

defined_name_quiet : (block : Seen → Read (List Stmt)) → Quietly QuietStmts block → (d : Named) → Quietly Anything (defined_name block d)
unfolding defined_name and_then
defined_name_quiet block keeps d s =
    either_quiet s d.specifiers.is_typedef _ _
    (λ e. refused_quiet s (is_other_type (found_here s.scopes d.number) d.made.kind) 2 d.name.start _ (λ f. fails_quiet s 3 d.name.start))
    (λ e. defined_as_quiet d (function_in d.made.kind) d.made.parameters block (found_here s.scopes d.number) keeps s)

definition_quiet : (block : List BlockItem → Seen → Read (List Stmt)) (f : FunctionDefinition) → ((items : List BlockItem) → Quietly QuietStmts (block items))
    → Quietly Anything (definition block f)
unfolding definition
definition_quiet block f keeps s =
    then_quiet s (all_specifiers f.specs no_specifiers s) _ (all_specifiers_quiet f.specs no_specifiers s) (λ b t.
    then_quiet t (declarator f.declarator t) _ (anyway t _ (declarator_quiet f.declarator t)) (λ shape v.
    then_quiet v (named_by b shape None (without_statements (defined_name (block f.body))) v) _
    (named_at_quiet _ b shape None (without_statements (defined_name (block f.body))) shape.name
    (without_quiet (defined_name (block f.body)) (defined_name_quiet (block f.body) (keeps f.body))) v) (λ x w. steady w tt)))

external_quiet : (e : External) → Quietly Anything (external_read e)
external_quiet (external.Declaration d) s = file_declaration_quiet d s
external_quiet (external.Function f) s = definition_quiet block_items f block_items_quiet s

externals_quiet : (es : List External) → Quietly Anything (externals es)
externals_quiet [] s = steady s tt
externals_quiet (e ∷ es) s = then_quiet s (external_read e s) _ (external_quiet e s) (λ x t. anyway t _ (externals_quiet es t))

-- the bodies of functions don't change with their effects
bodies_whole : (whole : List Effects) (n : ℕ) (fs : List FunctionInfo) → Each (λ f. BodyKeeps f.body) fs → Each (λ f. BodyKeeps f.body) (with_whole whole n fs)
bodies_whole whole n [] each = tt
bodies_whole whole n (f ∷ fs) each = (each.0, bodies_whole whole (n + 1) fs each.1)

rank_small : (level : Level) → rank level ≤ 2
rank_small Plain = omega arith
rank_small NonAllocating = omega arith
rank_small NonBlocking = omega arith

-- what a word holds at first
word_kept : (u : List FunctionInfo) (value : Word) → length u ≤ 4096 → IsLevelled u value → IsLevelKept u (packed value)
unfolding packed
word_kept u (word.FunctionPointer number known) few h function level p =
    let inside = get_inside u number h.info h.known in
    let range = p.in_range in
    let small = rank_small level in
    let least = rank_small known in
    let same : number ≡ function = omega (arith, p.bits, inside, few, range, small, least) in
    let levels : rank level ≡ rank known = omega (arith, p.bits, inside, few, range, small, least) in
    let above = h.above in
    record { info = h.info; known = ap (slice_get u) (sym same) ∙ h.known; above = omega (arith, levels, above) }
word_kept u word.Zero few h function level p = let clash : ⊥ = (let small = rank_small level in omega (arith, p.bits, small)) in absurd clash
word_kept u word.Undefined few h function level p = let clash : ⊥ = (let small = rank_small level in omega (arith, p.bits, small)) in absurd clash
word_kept u (word.Number bits) few h function level p = let clash : ⊥ = (let small = rank_small level in omega (arith, p.bits, small)) in absurd clash
word_kept u (word.DataPointer address) few h function level p = let clash : ⊥ = (let small = rank_small level in omega (arith, p.bits, small)) in absurd clash
word_kept u (word.Mutex thread) few h function level p = let clash : ⊥ = (let small = rank_small level in omega (arith, p.bits, small)) in absurd clash
word_kept u (word.Live words) few h function level p = let clash : ⊥ = (let small = rank_small level in omega (arith, p.bits, small)) in absurd clash
word_kept u (word.Freed words) few h function level p = let clash : ⊥ = (let small = rank_small level in omega (arith, p.bits, small)) in absurd clash

module _ (u : List FunctionInfo) (few : length u ≤ 4096) where
  value_kept : (at before : ℕ) (values : List Initial) → AreLevelled u values → IsLevelKept u before → IsLevelKept u (value_at at values before)
  value_kept at before [] each h = h
  value_kept at before (i ∷ is) each h =
      value_kept at (if nat_eq i.at at then packed i.word else before) is each.1 (chosen (nat_eq i.at at) (packed i.word) before (word_kept u i.word few each.0) h)
    where
      chosen : (test : Bool) (a b : ℕ) → IsLevelKept u a → IsLevelKept u b → IsLevelKept u (if test then a else b)
      chosen true a b p q = p
      chosen false a b p q = q

  words_kept : (first n : ℕ) (values : List Initial) → AreLevelled u values → Each (IsLevelKept u) (words_from first n values)
  unfolding packed
  words_kept first zero values each = tt
  words_kept first (suc n) values each = (value_kept first 0 values each (word_kept u word.Zero few tt), words_kept (first + 1) n values each)

module _ (source marks : List ℕ) (tree : Tree) (u : UnitParts) (warnings : List TypeWarning) (unwarned : All IsNoConversion warnings) where
  abbrev Comes : Read (Unit {0}) → Type 0
  Comes r = outcome_of r ≡ IsTyped u warnings

  -- a reading that ends like this
  adds_none : (whole : List Effects) (s : Seen) → read_unit source marks whole tree ≡ Good tt s → Each IsNoConversion s.warnings → length s.functions ≤ 4096 → AddsNoLevel (parts_of s)
  unfolding parts_of
  adds_none whole s is each few =
      let functions = with_whole s.whole 0 s.functions in
      let read : Quiet Always Anything (opening source marks whole) (Good tt s) = subst (λ r. Quiet Always Anything (opening source marks whole) r) is (externals_quiet tree.externals (opening source marks whole)) in
      let ends : Ends functions s = record { unwarned = each; levels = λ k level h. h } in
      let all = read.holds functions ends in
      let made = all.1 (record { bodies = tt; statics = tt; threads = tt }) tt in
      let kept = made.0 in
      let many : length functions ≤ 4096 = subst (λ n. n ≤ 4096) (sym (whole_length s.whole 0 s.functions)) few in
      record {
        bodies = all_of_each (λ f. BodyKeeps f.body) functions (bodies_whole s.whole 0 s.functions kept.bodies);
        statics = all_of_each (IsLevelKept functions) _ (words_kept functions many 1 s.static_words s.static_values kept.statics);
        thread_locals = all_of_each (IsLevelKept functions) _ (words_kept functions many 0 s.thread_words s.thread_values kept.threads);
      }

  of_limits : (whole : List Effects) (s : Seen) (passed : Option Which) → exceeded s ≡ passed → read_unit source marks whole tree ≡ Good tt s → Comes (Good tt s) → AddsNoLevel u
  of_limits whole s (Some limit) e read is = let clash = rw e at is in absurd (cc)
  of_limits whole s None e read is =
      let comes = rw e at is in
      let same : parts_of s ≡ u = cc in
      let noted : s.warnings ≡ warnings = cc in
      subst AddsNoLevel same (adds_none whole s read (each_of_all IsNoConversion s.warnings (subst (All IsNoConversion) (sym noted) unwarned)) (limits_hold s e).functions)

  of_second : (whole : List Effects) (r : Read (Unit {0})) → read_unit source marks whole tree ≡ r → Comes r → AddsNoLevel u
  of_second whole (Bad number place) e is = absurd (cc)
  of_second whole (Good a s) e is = of_limits whole s (exceeded s) refl e is

  of_first : (r : Read (Unit {0})) → Comes (and_then r (λ _ s. read_unit source marks (effects_of_all s.functions) tree)) → AddsNoLevel u
  unfolding and_then
  of_first (Bad number place) is = absurd (cc)
  of_first (Good a s) is = of_second (effects_of_all s.functions) (read_unit source marks (effects_of_all s.functions) tree) refl is

-- A unit adds no level where no conversion is warned of.
pub unwarned_units_add_no_level : UnwarnedUnitsAddNoLevel
unfolding outcome typed
unwarned_units_add_no_level source marks tree u warnings is unwarned = of_first source marks tree u warnings unwarned (read_unit source marks [] tree) is
