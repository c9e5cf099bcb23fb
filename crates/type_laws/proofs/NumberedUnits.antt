-- The calls of all bodies of a unit are numbered in order of place, definition after definition, where its tree stands in order.
use Rattle.std.proofs.Common.{◌≡◌, ℕ, zero, suc, ◌+◌, ◌<◌, ◌^◌, Bool, true, false, refl, sym, ◌∙◌, ap, subst, List, [], ◌∷◌, ◌++◌, length, slice_get, is_some, Option, Some, None, All, eqb-true}
use Rattle.std.proofs.lemmas.Bool.{eqb-false}
use Rattle.std.specs.Prelude.{not, ◌&&◌, ◌||◌, nat_eq, slice_set, if◌then◌else◌}
use Rattle.scopes.specs.Scope.{found_here}
use Rattle.c_tree.specs.declared.declarations.Decl.{Decl}
use Rattle.c_tree.specs.declared.declarations.FunctionDefinition.{FunctionDefinition}
use Rattle.c_tree.specs.declared.declarations.Init.{Init}
use Rattle.c_tree.specs.declared.declarations.InitDeclarator.{InitDeclarator}
use Rattle.c_tree.specs.declared.statements.BlockItem.{BlockItem}
use Rattle.c_tree.specs.declared.statements.External.{External}
use Rattle.c_tree.specs.declared.statements.External.TheVariants as external
use Rattle.c_tree.specs.declared.statements.Tree.{Tree}
use Rattle.c_tree.specs.declared.words.Span.{Span}
use Rattle.tree_order.specs.Stands.{ListStands, ExternalStands, ExternalsStand, StandsInOrder}
use Rattle.eff_types.specs.Effects.{added, conflict, union}
use Rattle.eff_types.specs.Types.{same_outside, same}
use Rattle.eff_types.specs.declared.levels.Effects.{Effects}
use Rattle.eff_types.specs.declared.levels.Level.{Level}
use Rattle.eff_types.specs.declared.types.CType.{CType}
use Rattle.eff_types.specs.declared.types.CType.TheVariants as a_type
use Rattle.eff_types.specs.declared.types.FnType.{FnType}
use Rattle.core_unit.specs.Places.{Spot}
use Rattle.core_unit.specs.Shapes.{function_in, is_unsized}
use Rattle.core_unit.specs.Typed.{where_in}
use Rattle.core_unit.specs.Units.{HasBody, body_in, IsUnit}
use Rattle.core_unit.specs.declared.body.Body.{Body}
use Rattle.core_unit.specs.declared.body.Stmt.{Stmt}
use Rattle.core_unit.specs.declared.expressions.Storage.{Storage}
use Rattle.core_unit.specs.declared.tables.FunctionInfo.{FunctionInfo}
use Rattle.core_unit.specs.declared.tables.UnitParts.{UnitParts}
use Rattle.core_unit.specs.declared.tables.VariableInfo.{VariableInfo}
use Rattle.core_unit.specs.declared.units.Which.{Which}
use Rattle.type_rules.specs.Declarations.{Named, all_specifiers, no_initializer, is_other_type, typedef_declared, function_of, function_named, sized, first_variable, further_variable, file_variable, statically, variable_named, name_declared, file_name, named_at, named_by, init_declarator, is_attributed, init_declarators, is_bare, declaration, without_statements, file_declaration, is_redefined, defined_as, typedef_defined, defined_name, definition, file_duration, is_mistyped, same_words}
use Rattle.type_rules.specs.Declarators.{faults}
use Rattle.type_rules.specs.Functions.{marked, first_declaration, further_declaration, function_declared, parameters_declared, body_opened, declared_at, with_body, function_defined, body_read}
use Rattle.type_rules.specs.InitialValues.{initial_values}
use Rattle.type_rules.specs.Initializers.{static_initializer}
use Rattle.type_rules.specs.Reading.{Read, Good, Bad, and_then, name_number, scoped, warned}
use Rattle.type_rules.specs.Recursion.{declarator}
use Rattle.type_rules.specs.Seen.{Seen}
use Rattle.type_rules.specs.Specifiers.{no_specifiers}
use Rattle.type_rules.specs.Statements.{block_items}
use Rattle.type_rules.specs.Storage.{kept_for}
use Rattle.type_rules.specs.Units.{external_read, externals, opening, read_unit, effects_of_all, typed, with_whole, parts_of, exceeded, outcome, outcome_of, IsTyped}
use Rattle.type_rules.specs.declared.declarators.FunctionDeclaration.{FunctionDeclaration}
use Rattle.type_rules.specs.declared.declarators.Made.{Made}
use Rattle.type_rules.specs.declared.declarators.Parameter.{Parameter}
use Rattle.type_rules.specs.declared.declarators.Shape.{Shape}
use Rattle.type_rules.specs.declared.names.Entity.{Entity}
use Rattle.type_rules.specs.declared.names.Entity.TheVariants.{Variable, Function}
use Rattle.type_rules.specs.declared.notes.TypeWarning.{TypeWarning}
use Rattle.type_rules.specs.declared.notes.TypeWarning.TheVariants.{Redeclaration}
use Rattle.type_rules.specs.declared.specifiers.Specifiers.{Specifiers}
use Rattle.type_laws.proofs.Each.{Each, each_as, each_more}
use Rattle.type_laws.proofs.Lists.{get_before, get_inside, get_last, get_set, get_other}
use Rattle.type_laws.proofs.Numbered.{Reads, IsIdle, then_reads, then_idle, gives_reads, fails_reads, reads_as}
use Rattle.type_laws.proofs.NumberedInitializers.{initial_spots, initialized_reads}
use Rattle.type_laws.proofs.NumberedOperators.{ReadsFrom}
use Rattle.type_laws.proofs.NumberedStatements.{list_alone, all_specifiers_idle, sized_idle, kept_idle, initially_idle, completed_idle, scoped_reads, block_items_read}
use Rattle.type_laws.proofs.NumberedTrees.{declarator_idle}
use Rattle.type_laws.proofs.NumberedTypes.{AlwaysIdle, faults_reads}
use Rattle.type_laws.proofs.Ordered.{IsOrdered, BodyIsOrdered, AreOrdered, ordered_units_are_units}
use Rattle.type_laws.proofs.Progress.{Progress, progress, RunAt, counted_at, nothing_at}
use Rattle.type_laws.proofs.SiteRanges.{run_agrees}
use Rattle.type_laws.proofs.Triples.{Holds}
use Rattle.type_laws.proofs.Whole.{limits_hold}
use Rattle.core_unit.specs.Layout.{words_of}
use Rattle.type_rules.specs.Types.{is_incomplete}

-- what is true of what a rule gives, and of what was seen by then
record After {A : Type 0} (P : A → Seen → Type 0) (r : Read A) : Type 0 where
  holds : Holds P r

module _ {A B : Type 0} {P : A → Seen → Type 0} {Q : B → Seen → Type 0} where
  then_after : (r : Read A) (k : A → Seen → Read B) → After P r → ((a : A) (t : Seen) → P a t → After Q (k a t)) → After Q (and_then r k)
  unfolding and_then
  then_after (Good a t) k first next = next a t first.holds
  then_after (Bad number place) k first next = record { holds = tt }

module _ {A : Type 0} {P : A → Seen → Type 0} where
  gives_after : (s : Seen) (a : A) → P a s → After P (Good a s)
  gives_after s a p = record { holds = p }

  fails_after : (number place : ℕ) → After P (Bad number place)
  fails_after number place = record { holds = tt }

  refused_after : (s : Seen) (test : Bool) (number place : ℕ) (k : Unit {0} → Seen → Read A) → (test ≡ false → After P (k tt s))
      → After P (and_then (if test then Bad number place else Good tt s) k)
  unfolding and_then
  refused_after s true number place k next = record { holds = tt }
  refused_after s false number place k next = next refl

after_as : {A : Type 0} (P Q : A → Seen → Type 0) (r : Read A) → After P r → ((a : A) (t : Seen) → P a t → Q a t) → After Q r
after_as P Q (Good a t) h as_well = record { holds = as_well a t h.holds }
after_as P Q (Bad number place) h as_well = record { holds = tt }

after_reads : {A : Type 0} (f : A → List Spot) (P : List Spot → Progress → Type 0) (r : Read A) → Reads f P r → After (λ a t. P (f a) (progress t)) r
after_reads f P (Good a t) h = record { holds = h.holds }
after_reads f P (Bad number place) h = record { holds = tt }

-- The bodies of the definitions so far are ordered.
record InOrder (n : Progress) : Type 0 where
  ordered : AreOrdered n.functions 1 n.definitions n.sites
  bodied : Each (λ d. HasBody (body_in n.functions d)) n.definitions

abbrev in_order : {A : Type 0} → A → Seen → Type 0
in_order a t = InOrder (progress t)

module _ (fs gs : List FunctionInfo) (stays : (d : ℕ) → HasBody (body_in fs d) → body_in gs d ≡ body_in fs d) where
  ordered_stay : (first : ℕ) (ds : List ℕ) (last : ℕ) → Each (λ d. HasBody (body_in fs d)) ds → AreOrdered fs first ds last → AreOrdered gs first ds last
  ordered_stay first [] last each h = h
  ordered_stay first (d ∷ ds) last each h =
      (h.0, subst (λ b. BodyIsOrdered first h.0 b) (sym (stays d each.0)) h.1, ordered_stay h.0 ds last each.1 h.2)

  bodied_stay : (ds : List ℕ) → Each (λ d. HasBody (body_in fs d)) ds → Each (λ d. HasBody (body_in gs d)) ds
  bodied_stay ds each = each_as (λ d. HasBody (body_in fs d)) (λ d. HasBody (body_in gs d)) ds (λ d h. subst HasBody (sym (stays d h)) h) each

ordered_more : (fs : List FunctionInfo) (first : ℕ) (ds : List ℕ) (middle d last : ℕ) → AreOrdered fs first ds middle → BodyIsOrdered middle last (body_in fs d)
    → AreOrdered fs first (ds ++ d ∷ []) last
ordered_more fs first [] middle d last h body = (last, subst (λ n. BodyIsOrdered n last (body_in fs d)) (sym h) body, refl)
ordered_more fs first (x ∷ xs) middle d last h body = (h.0, h.1, ordered_more fs h.0 xs middle d last h.2 body)

-- functions that change, and keep their bodies
body_is : (fs : List FunctionInfo) (n : ℕ) (f : FunctionInfo) → slice_get fs n ≡ Some f → body_in fs n ≡ f.body
body_is fs n f known = of (slice_get fs n) refl known
  where
    of : (found : Option FunctionInfo) → slice_get fs n ≡ found → found ≡ Some f → body_in fs n ≡ f.body
    of None e is = absurd (cc)
    of (Some g) e is = rw (e ∙ is) refl

body_of_none : (fs : List FunctionInfo) (n : ℕ) → slice_get fs n ≡ None → HasBody (body_in fs n) → ⊥
body_of_none fs n none has = subst HasBody (of none) has
  where
    of : slice_get fs n ≡ None → body_in fs n ≡ None
    of e = rw e refl

body_more : (fs : List FunctionInfo) (new : FunctionInfo) (d : ℕ) → HasBody (body_in fs d) → body_in (fs ++ new ∷ []) d ≡ body_in fs d
body_more fs new d has = of (slice_get fs d) refl
  where
    of : (found : Option FunctionInfo) → slice_get fs d ≡ found → body_in (fs ++ new ∷ []) d ≡ body_in fs d
    of None e = absurd (body_of_none fs d e has)
    of (Some f) e = body_is (fs ++ new ∷ []) d f (get_before fs new d f e) ∙ sym (body_is fs d f e)

body_other : (fs : List FunctionInfo) (n d : ℕ) (new : FunctionInfo) → (d ≡ n → ⊥) → body_in (slice_set fs n new) d ≡ body_in fs d
body_other fs n d new other = rw (get_other fs n new d other) refl

body_again : (fs : List FunctionInfo) (n : ℕ) (f new : FunctionInfo) → slice_get fs n ≡ Some f → new.body ≡ f.body → (d : ℕ) → body_in (slice_set fs n new) d ≡ body_in fs d
body_again fs n f new known same d = of (nat_eq d n) refl
  where
    of : (test : Bool) → nat_eq d n ≡ test → body_in (slice_set fs n new) d ≡ body_in fs d
    of true e =
        let is = eqb-true d n e in
        subst (λ k. body_in (slice_set fs n new) k ≡ body_in fs k) (sym is)
        (body_is (slice_set fs n new) n new (get_set fs n new (get_inside fs n f known)) ∙ (same ∙ sym (body_is fs n f known)))
    of false e = body_other fs n d new (eqb-false d n e)

-- where a function of this number has no body yet
record IsUndefined (number : ℕ) (functions : List FunctionInfo) : Type 0 where
  info : FunctionInfo
  known : slice_get functions number ≡ Some info
  empty : info.body ≡ None

-- A declaration of a function keeps the bodies, and one with a body is the first of that kind.
record Declares (has_body : Bool) (number : ℕ) (t : Seen) : Type 0 where
  kept : InOrder (progress t)
  fresh : has_body ≡ true → IsUndefined number t.functions

empty_told : (b : Option Body) (has_body : Bool) → is_some b && has_body ≡ false → has_body ≡ true → b ≡ None
empty_told None has_body e is = refl
empty_told (Some b) true e is = absurd (cc)
empty_told (Some b) false e is = absurd (cc)

faults_after : {A : Type 0} {P : A → Seen → Type 0} (redefined mistyped conflicting incomplete : Bool) (place : ℕ) (s : Seen) (k : Unit {0} → Seen → Read A)
    → (redefined ≡ false → After P (k tt s)) → After P (and_then (faults redefined mistyped conflicting incomplete place s) k)
unfolding and_then
faults_after true mistyped conflicting incomplete place s k next = record { holds = tt }
faults_after false true conflicting incomplete place s k next = record { holds = tt }
faults_after false false true incomplete place s k next = record { holds = tt }
faults_after false false false true place s k next = record { holds = tt }
faults_after false false false false place s k next = next refl

module _ (d : FunctionDeclaration) (s : Seen) (so_far : InOrder (progress s)) where
  more_kept : (new : FunctionInfo) → InOrder (record { sites = s.sites; functions = s.functions ++ new ∷ []; definitions = s.definitions })
  more_kept new = record {
    ordered = ordered_stay s.functions (s.functions ++ new ∷ []) (body_more s.functions new) 1 s.definitions s.sites so_far.bodied so_far.ordered;
    bodied = bodied_stay s.functions (s.functions ++ new ∷ []) (body_more s.functions new) s.definitions so_far.bodied;
  }

  again_kept : (number : ℕ) (f new : FunctionInfo) → slice_get s.functions number ≡ Some f → new.body ≡ f.body
      → InOrder (record { sites = s.sites; functions = slice_set s.functions number new; definitions = s.definitions })
  again_kept number f new known same = record {
    ordered = ordered_stay s.functions (slice_set s.functions number new) (λ x has. body_again s.functions number f new known same x) 1 s.definitions s.sites so_far.bodied so_far.ordered;
    bodied = bodied_stay s.functions (slice_set s.functions number new) (λ x has. body_again s.functions number f new known same x) s.definitions so_far.bodied;
  }

  first_after : After (Declares d.has_body) (first_declaration d s)
  unfolding and_then
  first_after =
      faults_after false d.mistyped (d.made.conflicting || conflict (marked s.marks (length s.functions) d.kind.effects ∷ [])) d.made.incomplete d.name.start s _ (λ e. record {
        holds = record { kept = more_kept _; fresh = λ has. record { info = _; known = get_last s.functions _; empty = refl } };
      })

  abbrev again : ℕ → FunctionInfo → FunctionInfo
  again number f = record f {
    kind = record f.kind { effects = union (f.kind.effects ∷ marked s.marks number d.kind.effects ∷ []) };
    noreturn = f.noreturn || d.made.noreturn;
    internal = f.internal || d.internal;
  }

  again_declares : (number : ℕ) (f : FunctionInfo) (warnings : List TypeWarning) → slice_get s.functions number ≡ Some f → is_some f.body && d.has_body ≡ false
      → Declares d.has_body number (record s { functions = slice_set s.functions number (again number f); warnings = warnings })
  again_declares number f warnings known once = record {
    kept = again_kept number f (again number f) known refl;
    fresh = λ has. record {
      info = again number f;
      known = get_set s.functions number (again number f) (get_inside s.functions number f known);
      empty = empty_told f.body d.has_body once has;
    };
  }

  further_after : (number : ℕ) (found : Option FunctionInfo) → slice_get s.functions number ≡ found → After (Declares d.has_body) (further_declaration d s.marks number found s)
  unfolding and_then
  further_after number None known = fails_after 2 d.name.start
  further_after number (Some f) known =
      faults_after (is_some f.body && d.has_body) (d.mistyped || not (same_outside (a_type.Function f.kind) (a_type.Function d.kind)))
      (d.made.conflicting || conflict (f.kind.effects ∷ marked s.marks number d.kind.effects ∷ [])) d.made.incomplete d.name.start s _ (λ once.
      of (added (marked s.marks number d.kind.effects) f.kind.effects) once)
    where
      of : (raised : Option Level) → is_some f.body && d.has_body ≡ false
          → After (Declares d.has_body) (and_then (warned raised (Redeclaration d.name.start) s) (λ _ t. Good number (record t { functions = slice_set t.functions number (again number f) })))
      of None once = record { holds = again_declares number f s.warnings known once }
      of (Some level) once = record { holds = again_declares number f (s.warnings ++ Redeclaration d.name.start level ∷ []) known once }

  function_after : (here : Option Entity) → After (Declares d.has_body) (function_declared d here s)
  unfolding and_then
  function_after None = first_after
  function_after (Some (Function number)) = further_after number (slice_get s.functions number) refl
  function_after (Some e) = fails_after 2 d.name.start

-- what changes no body and no definition, and takes no call site
idle_after : {A : Type 0} (s : Seen) (r : Read A) → IsIdle (progress s) r → InOrder (progress s) → After in_order r
idle_after s r idle so_far = after_as _ in_order r (after_reads _ _ r idle) (λ a t e. subst InOrder (sym e) so_far)

no_initializer_after : (i : Option Init) (s : Seen) → InOrder (progress s) → After in_order (no_initializer i s)
no_initializer_after None s so_far = gives_after s tt so_far
no_initializer_after (Some i) s so_far = fails_after 9 _

typedef_after : (d : Named) (here : Option Entity) (s : Seen) → InOrder (progress s) → After in_order (typedef_declared d here s)
unfolding typedef_declared and_then
typedef_after d here s so_far =
    faults_after (is_other_type here d.made.kind) (d.made.mistyped || d.made.noreturn || d.specifiers.is_thread_local) d.made.conflicting
    (d.made.incomplete || is_unsized d.made.kind) d.name.start s _ (λ e. no_initializer_after d.init _ so_far)

function_named_after : (d : Named) (f : FnType) (here : Option Entity) (s : Seen) → InOrder (progress s) → After in_order (function_named d f here s)
unfolding function_named and_then
function_named_after d f here s so_far =
    then_after (function_declared (function_of d.name d.number d.specifiers d.made f false) here s) _
    (function_after (function_of d.name d.number d.specifiers d.made f false) s so_far here) (λ n t h. no_initializer_after d.init t h.kept)

-- variables of file scope
first_variable_idle : (name : Span) (number : ℕ) (b : Specifiers) (m : Made) (initialized : Bool) (t : CType) → AlwaysIdle (first_variable name number b m initialized t)
unfolding and_then
first_variable_idle name number b m initialized t s =
    let words = words_of s.structures t in
    let own = Some (length s.variables) in
    faults_reads s false (is_mistyped m) m.conflicting (m.incomplete || is_incomplete s.structures t) name.start _
    (then_reads (kept_for (file_duration b) words own s) _ (kept_idle (file_duration b) words own s) (λ storage v e. record { holds = e }))

further_variable_idle : (name : Span) (b : Specifiers) (m : Made) (initialized : Bool) (t : CType) (number : ℕ) (storage : Storage) (found : Option VariableInfo)
    → AlwaysIdle (further_variable name b m initialized t number storage found)
unfolding and_then
further_variable_idle name b m initialized t number storage None s = fails_reads 2 name.start
further_variable_idle name b m initialized t number storage (Some v) s =
    faults_reads s (v.initialized && initialized) (is_mistyped m || not (same v.kind t) || not (same_words v.thread_local b.is_thread_local)) m.conflicting m.incomplete
    name.start _ (record { holds = refl })

file_variable_idle : (name : Span) (own : ℕ) (b : Specifiers) (m : Made) (initialized : Bool) (t : CType) (here : Option Entity)
    → AlwaysIdle (file_variable name own b m initialized t here)
unfolding and_then
file_variable_idle name own b m initialized t None s = first_variable_idle name own b m initialized t s
file_variable_idle name own b m initialized t (Some (Variable u storage (Some number))) s =
    further_variable_idle name b m initialized t number storage (slice_get s.variables number) s
file_variable_idle name own b m initialized t (Some e) s = fails_reads 2 name.start

-- What a static object holds calls nothing.
static_idle : (t : CType) (i : Init) → AlwaysIdle (static_initializer t i)
static_idle t i s =
    reads_as (static_initializer t i s) (initialized_reads i true t s) (λ given m p.
    nothing_at (progress s) (initial_spots given) m (counted_at _ (progress s) (initial_spots given) m p.run) (p.quiet refl))

statically_idle : (i : Option Init) (t : CType) (storage : Storage) → AlwaysIdle (statically i t storage)
unfolding and_then
statically_idle None t storage s = gives_reads s tt refl
statically_idle (Some i) t storage s =
    then_idle (progress s) (static_initializer t i s) _ (static_idle t i s) (λ given v. initially_idle storage (initial_values (where_in storage) given) v)

variable_named_idle : (d : Named) (here : Option Entity) → AlwaysIdle (variable_named d here)
unfolding variable_named and_then
variable_named_idle d here s =
    then_idle (progress s) (sized d.init d.made.kind s) _ (sized_idle d.init d.made.kind s) (λ t v.
    then_idle (progress v) (file_variable d.name d.number d.specifiers d.made (is_some d.init) t here v) _
    (file_variable_idle d.name d.number d.specifiers d.made (is_some d.init) t here v) (λ storage w.
    then_idle (progress w) (statically d.init t storage w) _ (statically_idle d.init t storage w) (λ a x. completed_idle d.number t (is_unsized d.made.kind) x)))

name_after : (d : Named) (found : Option FnType) (here : Option Entity) (s : Seen) → InOrder (progress s) → After in_order (name_declared d found here s)
name_after d (Some f) here s so_far = function_named_after d f here s so_far
name_after d None here s so_far = idle_after s (variable_named d here s) (variable_named_idle d here s) so_far

file_name_after : (d : Named) (s : Seen) → InOrder (progress s) → After in_order (file_name d s)
unfolding and_then
file_name_after d s so_far = of d.specifiers.is_typedef
  where
    of : (test : Bool) → After in_order ((if test then typedef_declared d (found_here s.scopes d.number) else name_declared d (function_in d.made.kind) (found_here s.scopes d.number)) s)
    of true = typedef_after d (found_here s.scopes d.number) s so_far
    of false = name_after d (function_in d.made.kind) (found_here s.scopes d.number) s so_far

-- declarators, each with what follows its name
module _ (next : Named → Seen → Read (Unit {0})) (keeps : (d : Named) (s : Seen) → InOrder (progress s) → After in_order (next d s)) where
  without_after : (d : Named) (s : Seen) → InOrder (progress s) → After in_order (without_statements next d s)
  unfolding and_then
  without_after d s so_far = then_after (next d s) _ (keeps d s so_far) (λ a t h. gives_after t [] h)

  named_after : (b : Specifiers) (d : Shape) (i : Option Init) (name : Option Span) (s : Seen) → InOrder (progress s) → After in_order (named_at b d i (without_statements next) name s)
  unfolding name_number and_then
  named_after b d i None s so_far = gives_after s [] so_far
  named_after b d i (Some name) s so_far = without_after _ _ so_far

  declarator_after : (b : Specifiers) (d : InitDeclarator) (s : Seen) → InOrder (progress s) → After in_order (init_declarator b (without_statements next) d s)
  unfolding init_declarator and_then
  declarator_after b d s so_far =
      then_after (declarator d.declarator s) _ (idle_after s (declarator d.declarator s) (declarator_idle d.declarator s) so_far) (λ shape t h. named_after b shape d.init shape.name t h)

  declarators_after : (b : Specifiers) (ds : List InitDeclarator) (s : Seen) → InOrder (progress s) → After in_order (init_declarators b (without_statements next) ds s)
  unfolding and_then
  declarators_after b [] s so_far = gives_after s [] so_far
  declarators_after b (d ∷ ds) s so_far =
      then_after (init_declarator b (without_statements next) d s) _ (declarator_after b d s so_far) (λ here t h.
      then_after (init_declarators b (without_statements next) ds t) _ (declarators_after b ds t h) (λ others v g. gives_after v (here ++ others) g))

  declaration_after : (d : Decl) (s : Seen) → InOrder (progress s) → After in_order (declaration (without_statements next) d s)
  unfolding declaration and_then
  declaration_after d s so_far =
      then_after (all_specifiers d.specs no_specifiers s) _ (idle_after s _ (all_specifiers_idle d.specs no_specifiers s) so_far) (λ b t h.
      refused_after t (is_bare d.declarators && is_attributed b) 3 d.place _ (λ e. declarators_after b d.declarators t h))

file_declaration_after : (d : Decl) (s : Seen) → InOrder (progress s) → After in_order (file_declaration d s)
unfolding file_declaration and_then
file_declaration_after d s so_far = then_after (declaration (without_statements file_name) d s) _ (declaration_after file_name file_name_after d s so_far) (λ items t h. gives_after t tt h)

-- bodies
parameters_declared_idle : (offset : ℕ) (ps : List Parameter) → AlwaysIdle (parameters_declared offset ps)
unfolding and_then
parameters_declared_idle offset [] s = gives_reads s tt refl
parameters_declared_idle offset (p ∷ ps) s =
    then_idle (progress s) (declared_at offset p.name p.kind s) _ (one p.name) (λ a t. parameters_declared_idle (offset + 1) ps t)
  where
    one : (name : Option ℕ) → IsIdle (progress s) (declared_at offset name p.kind s)
    one None = gives_reads s tt refl
    one (Some name) = record { holds = refl }

body_opened_idle : (kind : FnType) (ps : List Parameter) → AlwaysIdle (body_opened kind ps)
unfolding and_then
body_opened_idle kind ps s =
    then_idle (progress s) (parameters_declared 0 ps s) _ (parameters_declared_idle 0 ps s) (λ a t. record { holds = refl })

module _ (body : List BlockItem) (from to : ℕ) (stands : ListStands body from to) where
  block_reads : (kind : FnType) (ps : List Parameter) → ReadsFrom list_alone (RunAt (ListStands body)) (λ s. and_then (body_opened kind ps s) (λ a t. block_items body t))
  block_reads kind ps s =
      then_reads (body_opened kind ps s) _ (body_opened_idle kind ps s) (λ a t e.
      subst (λ n. Reads list_alone (RunAt (ListStands body) n) (block_items body t)) e (block_items_read body t))

  -- the function takes the body that was read
  module _ (number : ℕ) (t : Seen) (kept : InOrder (progress t)) (fresh : IsUndefined number t.functions) (items : List Stmt) (w : Seen)
      (run : RunAt (ListStands body) (progress t) (list_alone items) (progress w)) (f : FunctionInfo) (known : slice_get w.functions number ≡ Some f) where
    abbrev defined : FunctionInfo
    defined = record f { body = Some (record { items = items }); frame_words = w.frame }

    empty : f.body ≡ None
    empty =
        let there : Some f ≡ Some fresh.info = sym known ∙ ap (λ fs. slice_get fs number) run.same.functions_are ∙ fresh.known in
        let same : f ≡ fresh.info = cc in
        ap (λ (x : FunctionInfo). x.body) same ∙ fresh.empty

    ordered_before : AreOrdered w.functions 1 w.definitions t.sites
    ordered_before = subst (λ fs. AreOrdered fs 1 w.definitions t.sites) (sym run.same.functions_are) (subst (λ ds. AreOrdered t.functions 1 ds t.sites) (sym run.same.definitions_are) kept.ordered)

    bodied : Each (λ d. HasBody (body_in w.functions d)) w.definitions
    bodied =
        subst (λ fs. Each (λ d. HasBody (body_in fs d)) w.definitions) (sym run.same.functions_are)
        (subst (λ ds. Each (λ d. HasBody (body_in t.functions d)) ds) (sym run.same.definitions_are) kept.bodied)

    stay : (d : ℕ) → HasBody (body_in w.functions d) → body_in (slice_set w.functions number defined) d ≡ body_in w.functions d
    stay d has =
        body_other w.functions number d defined (λ same.
        subst HasBody (ap (body_in w.functions) same ∙ body_is w.functions number f known ∙ empty) has)

    taken : body_in (slice_set w.functions number defined) number ≡ Some (record { items = items })
    taken = body_is (slice_set w.functions number defined) number defined (get_set w.functions number defined (get_inside w.functions number f known))

    is_ordered : IsOrdered t.sites w.sites (record { items = items })
    is_ordered = record {
      far = run.run.far;
      agree = run_agrees (ListStands body) t.sites (list_alone items) w.sites from to run.run stands;
      counts = run.run.counts;
    }

    defined_kept : InOrder (record { sites = w.sites; functions = slice_set w.functions number defined; definitions = w.definitions ++ number ∷ [] })
    defined_kept = record {
      ordered = ordered_more (slice_set w.functions number defined) 1 w.definitions t.sites number w.sites
          (ordered_stay w.functions (slice_set w.functions number defined) stay 1 w.definitions t.sites bodied ordered_before)
          (subst (λ b. BodyIsOrdered t.sites w.sites b) (sym taken) is_ordered);
      bodied = each_more (λ d. HasBody (body_in (slice_set w.functions number defined) d)) w.definitions number
          (bodied_stay w.functions (slice_set w.functions number defined) stay w.definitions bodied) (subst HasBody (sym taken) tt);
    }

  module _ (number : ℕ) (t : Seen) (kept : InOrder (progress t)) (fresh : IsUndefined number t.functions) where
    defined_after : (items : List Stmt) (w : Seen) → RunAt (ListStands body) (progress t) (list_alone items) (progress w) → After in_order (function_defined number items w)
    unfolding and_then
    defined_after items w run = of (slice_get w.functions number) refl
      where
        of : (found : Option FunctionInfo) → slice_get w.functions number ≡ found
            → After {A = Unit {0}} in_order (and_then (with_body found number items w.frame w) (λ _ x. Good tt (record x { definitions = x.definitions ++ number ∷ [] })))
        of (Some f) known = record { holds = defined_kept number t kept fresh items w run f known }
        of None known =
            let clash : None ≡ Some fresh.info = sym known ∙ ap (λ fs. slice_get fs number) run.same.functions_are ∙ fresh.known in absurd (cc)

    body_after : (kind : FnType) (ps : List Parameter) → After in_order (body_read number kind ps (block_items body) t)
    unfolding body_read and_then
    body_after kind ps =
        then_after (scoped (λ s. and_then (body_opened kind ps s) (λ a v. block_items body v)) t) _
        (after_reads list_alone (RunAt (ListStands body) (progress t)) _ (scoped_reads list_alone (RunAt (ListStands body)) _ (block_reads kind ps) t)) (λ items w run.
        defined_after items w run)

  as_after : (d : Named) (found : Option FnType) (given : Option (List Parameter)) (here : Option Entity) (s : Seen) → InOrder (progress s)
      → After in_order (defined_as d found given (block_items body) here s)
  unfolding and_then
  as_after d (Some f) (Some ps) here s so_far =
      then_after (function_declared (function_of d.name d.number d.specifiers d.made f true) here s) _
      (function_after (function_of d.name d.number d.specifiers d.made f true) s so_far here) (λ n t h. body_after n t h.kept (h.fresh refl) f ps)
  as_after d (Some f) None here s so_far = refused_after s (is_redefined s.functions true here) 2 d.name.start _ (λ e. fails_after 3 d.name.start)
  as_after d None (Some ps) here s so_far = refused_after s (is_redefined s.functions false here) 2 d.name.start _ (λ e. fails_after 3 d.name.start)
  as_after d None None here s so_far = refused_after s (is_redefined s.functions false here) 2 d.name.start _ (λ e. fails_after 3 d.name.start)

  defined_name_after : (d : Named) (s : Seen) → InOrder (progress s) → After in_order (defined_name (block_items body) d s)
  unfolding defined_name and_then
  defined_name_after d s so_far = of d.specifiers.is_typedef
    where
      here : Option Entity
      here = found_here s.scopes d.number

      of : (test : Bool) → After in_order ((if test then typedef_defined d.name d.made here else defined_as d (function_in d.made.kind) d.made.parameters (block_items body) here) s)
      of true = refused_after s (is_other_type here d.made.kind) 2 d.name.start _ (λ e. fails_after 3 d.name.start)
      of false = as_after d (function_in d.made.kind) d.made.parameters here s so_far

definition_after : (f : FunctionDefinition) (from to : ℕ) → ListStands f.body from to → (s : Seen) → InOrder (progress s) → After in_order (definition block_items f s)
unfolding definition and_then
definition_after f from to stands s so_far =
    then_after (all_specifiers f.specs no_specifiers s) _ (idle_after s _ (all_specifiers_idle f.specs no_specifiers s) so_far) (λ b t h.
    then_after (declarator f.declarator t) _ (idle_after t _ (declarator_idle f.declarator t) h) (λ d v g.
    then_after (named_by b d None (without_statements (defined_name (block_items f.body))) v) _
    (named_after (defined_name (block_items f.body)) (defined_name_after f.body from to stands) b d None d.name v g) (λ items w k. gives_after w tt k)))

external_after : (e : External) → ExternalStands e → (s : Seen) → InOrder (progress s) → After in_order (external_read e s)
external_after (external.Declaration d) stands s so_far = file_declaration_after d s so_far
external_after (external.Function f) stands s so_far = definition_after f stands.0 stands.1 stands.2 s so_far

externals_after : (es : List External) → ExternalsStand es → (s : Seen) → InOrder (progress s) → After in_order (externals es s)
unfolding and_then
externals_after [] stands s so_far = gives_after s tt so_far
externals_after (e ∷ es) stands s so_far = then_after (external_read e s) _ (external_after e stands.0 s so_far) (λ a t h. externals_after es stands.1 t h)

-- the functions with their effects in the whole unit have the same bodies
whole_bodies : (whole : List Effects) (n : ℕ) (fs : List FunctionInfo) (i : ℕ) → body_in (with_whole whole n fs) i ≡ body_in fs i
whole_bodies whole n [] i = refl
whole_bodies whole n (f ∷ fs) zero = refl
whole_bodies whole n (f ∷ fs) (suc i) = whole_bodies whole (n + 1) fs i

parts_ordered : (s : Seen) → InOrder (progress s) → AreOrdered (parts_of s).functions 1 (parts_of s).definitions s.sites
unfolding parts_of
parts_ordered s so_far =
    ordered_stay s.functions (with_whole s.whole 0 s.functions) (λ d has. whole_bodies s.whole 0 s.functions d) 1 s.definitions s.sites so_far.bodied so_far.ordered

module _ (source marks : List ℕ) (tree : Tree) (u : UnitParts) (warnings : List TypeWarning) (bytes : All (λ byte. byte < 256) source) (stands : StandsInOrder tree)
    (is : outcome source marks tree ≡ IsTyped u warnings) (few_structures : length u.structures < 2 ^ 32) where
  read_in_order : (whole : List Effects) → After in_order (read_unit source marks whole tree)
  unfolding StandsInOrder
  read_in_order whole = externals_after tree.externals stands (opening source marks whole) (record { ordered = refl; bodied = tt })

  of_limits : (s : Seen) (passed : Option Which) → exceeded s ≡ passed → InOrder (progress s) → outcome_of (Good tt s) ≡ IsTyped u warnings → IsUnit u
  of_limits s (Some limit) e so_far comes = let clash = rw e at comes in absurd (cc)
  of_limits s None e so_far comes =
      let within = rw e at comes in
      let same : parts_of s ≡ u = cc in
      ordered_units_are_units source marks tree u warnings s.sites bytes is
      (subst (λ (v : UnitParts). AreOrdered v.functions 1 v.definitions s.sites) same (parts_ordered s so_far)) (limits_hold s e).sites few_structures

  of_second : (r : Read (Unit {0})) → After in_order r → outcome_of r ≡ IsTyped u warnings → IsUnit u
  of_second (Bad number place) h comes = absurd (cc)
  of_second (Good a s) h comes = of_limits s (exceeded s) refl h.holds comes

  of_first : (r : Read (Unit {0})) → outcome_of (and_then r (λ _ s. read_unit source marks (effects_of_all s.functions) tree)) ≡ IsTyped u warnings → IsUnit u
  unfolding and_then
  of_first (Bad number place) comes = absurd (cc)
  of_first (Good a s) comes =
      of_second (read_unit source marks (effects_of_all s.functions) tree) (read_in_order (effects_of_all s.functions)) comes

-- A typed unit is a unit, where its tree stands in order in its source.
pub in_order_units_are_units : (source marks : List ℕ) (tree : Tree) (u : UnitParts) (warnings : List TypeWarning) → All (λ byte. byte < 256) source → StandsInOrder tree
    → outcome source marks tree ≡ IsTyped u warnings → length u.structures < 2 ^ 32 → IsUnit u
unfolding outcome typed
in_order_units_are_units source marks tree u warnings bytes stands is few_structures =
    of_first source marks tree u warnings bytes stands is few_structures (read_unit source marks [] tree) is
