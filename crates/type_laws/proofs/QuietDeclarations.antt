-- Declarations add no level but where a conversion is warned of, in a block and, up to the declared name, at file scope.
use Rattle.std.proofs.Common.{ℕ, Bool, true, false, List, [], ◌∷◌, Option, Some, None}
use Rattle.std.specs.Prelude.{◌&&◌, ◌||◌, ◌++◌, is_some}
use Rattle.eff_types.specs.Types.{is_function}
use Rattle.eff_types.specs.declared.types.CType.{CType}
use Rattle.c_tree.specs.declared.declarations.Decl.{Decl}
use Rattle.c_tree.specs.declared.declarations.Init.{Init}
use Rattle.c_tree.specs.declared.declarations.InitDeclarator.{InitDeclarator}
use Rattle.c_tree.specs.declared.expressions.Spec.{Spec}
use Rattle.c_tree.specs.declared.words.Span.{Span}
use Rattle.core_unit.specs.Levels.{StmtKeeps}
use Rattle.core_unit.specs.Shapes.{is_unsized}
use Rattle.core_unit.specs.Typed.{where_in}
use Rattle.core_unit.specs.declared.body.Initializer.TheVariants as init
use Rattle.core_unit.specs.declared.body.Stmt.{Stmt}
use Rattle.core_unit.specs.declared.expressions.Storage.{Storage}
use Rattle.core_unit.specs.declared.expressions.Storage.TheVariants.{Automatic, Static, ThreadLocal}
use Rattle.core_unit.specs.declared.tables.FunctionInfo.{FunctionInfo}
use Rattle.scopes.specs.Scope.{found_here}
use Rattle.type_rules.specs.Declarations.{all_specifiers, Named, is_mistyped, sized, sized_by, block_duration, block_initializer, block_words, block_kept, block_initialized, with_size, array_completed, block_name, named_at, init_declarator, is_bare, is_attributed, init_declarators, declaration, block_declaration}
use Rattle.type_rules.specs.Declarators.{faults}
use Rattle.type_rules.specs.InitialValues.{initial_values}
use Rattle.type_rules.specs.Initializers.{initial_size, initialized}
use Rattle.type_rules.specs.Reading.{Read, Good, and_then, name_number, declared}
use Rattle.type_rules.specs.Recursion.{specifier, declarator}
use Rattle.type_rules.specs.Seen.{Seen}
use Rattle.type_rules.specs.Specifiers.{no_specifiers}
use Rattle.type_rules.specs.Storage.{initially, kept_for}
use Rattle.type_rules.specs.Types.{is_incomplete}
use Rattle.type_rules.specs.declared.declarators.Made.{Made}
use Rattle.type_rules.specs.declared.declarators.Shape.{Shape}
use Rattle.type_rules.specs.declared.durations.Duration.{Duration}
use Rattle.type_rules.specs.declared.durations.Duration.TheVariants.{Automatic as IsAutomatic, Static as IsStatic, ThreadLocal as IsThreadLocal}
use Rattle.type_rules.specs.declared.names.Entity.{Entity}
use Rattle.type_rules.specs.declared.names.Entity.TheVariants.{Variable, Function, TypeName, Enumerator, Library, NullPointer, MutexInitializer}
use Rattle.type_rules.specs.declared.notes.Initial.{Initial}
use Rattle.type_rules.specs.declared.specifiers.Specifiers.{Specifiers}
use Rattle.type_laws.proofs.Each.{Each, each_joined}
use Rattle.type_laws.proofs.Quiet.{IsLevelled, AreLevelled, Always, Anything, Quiet, Quietly, then_quiet, gives_quiet, moves_quiet, refused_quiet, anyway}
use Rattle.type_laws.proofs.QuietCalls.{name_number_quiet}
use Rattle.type_laws.proofs.QuietInitializers.{QuietInitial, initial-Absent, initialized_quiet}
use Rattle.type_laws.proofs.QuietSpecifiers.{steady, faults_quiet, declared_quiet}
use Rattle.type_laws.proofs.QuietTrees.{specifier_quiet, declarator_quiet}

-- statements that add no level
abbrev pub QuietStmts : List Stmt → List FunctionInfo → Type 0
QuietStmts ss u = Each StmtKeeps ss

pub all_specifiers_quiet : (ss : List Spec) (b : Specifiers) → Quietly Anything (all_specifiers ss b)
all_specifiers_quiet [] b s = steady s b
all_specifiers_quiet (x ∷ xs) b s = then_quiet s (specifier x b s) _ (specifier_quiet x b s) (λ next t. anyway t _ (all_specifiers_quiet xs next t))

-- what words hold at first
pub initially_quiet : (pre : List FunctionInfo → Type 0) (s : Seen) (storage : Storage) (values : List Initial) → ((u : List FunctionInfo) → pre u → AreLevelled u values)
    → Quiet pre Anything s (initially storage values s)
initially_quiet pre s (Automatic offset) values h = steady s tt
initially_quiet pre s (Static address) values h = record {
  holds = λ u ends. (
    ends,
    λ kept p. (
      record {
        bodies = kept.bodies;
        statics = each_joined (λ i. IsLevelled u i.word) s.static_values values kept.statics (h u p);
        threads = kept.threads;
      },
      tt,
    ),
  );
}
initially_quiet pre s (ThreadLocal offset) values h = record {
  holds = λ u ends. (
    ends,
    λ kept p. (
      record {
        bodies = kept.bodies;
        statics = kept.statics;
        threads = each_joined (λ i. IsLevelled u i.word) s.thread_values values kept.threads (h u p);
      },
      tt,
    ),
  );
}

pub kept_for_quiet : (pre : List FunctionInfo → Type 0) (s : Seen) (duration : Duration) (words : ℕ) (variable : Option ℕ) → Quiet pre Anything s (kept_for duration words variable s)
unfolding and_then
kept_for_quiet pre s IsAutomatic words variable = moves_quiet s _ _ (λ u ends. ends) (λ u kept. kept) (λ u ends p. tt)
kept_for_quiet pre s IsStatic words variable = moves_quiet s _ _ (λ u ends. ends) (λ u kept. kept) (λ u ends p. tt)
kept_for_quiet pre s IsThreadLocal words variable = moves_quiet s _ _ (λ u ends. ends) (λ u kept. kept) (λ u ends p. tt)

sized_by_quiet : (pre : List FunctionInfo → Type 0) (i : Init) (t : CType) (unsized : Bool) (s : Seen) → Quiet pre Anything s (sized_by i t unsized s)
unfolding and_then initial_size
sized_by_quiet pre i t true s = steady s _
sized_by_quiet pre i t false s = steady s t

pub sized_quiet : (pre : List FunctionInfo → Type 0) (i : Option Init) (t : CType) (s : Seen) → Quiet pre Anything s (sized i t s)
sized_quiet pre None t s = steady s t
sized_quiet pre (Some i) t s = sized_by_quiet pre i t (is_unsized t) s

with_size_quiet : (pre : List FunctionInfo → Type 0) (t : CType) (name : ℕ) (here : Option Entity) (s : Seen) → Quiet pre Anything s (with_size t name here s)
with_size_quiet pre t name (Some (Variable k storage number)) s = declared_quiet pre s name (Variable t storage number)
with_size_quiet pre t name (Some (Function n)) s = steady s tt
with_size_quiet pre t name (Some (TypeName k)) s = steady s tt
with_size_quiet pre t name (Some (Enumerator bits)) s = steady s tt
with_size_quiet pre t name (Some (Library row)) s = steady s tt
with_size_quiet pre t name (Some NullPointer) s = steady s tt
with_size_quiet pre t name (Some MutexInitializer) s = steady s tt
with_size_quiet pre t name None s = steady s tt

pub array_completed_quiet : (pre : List FunctionInfo → Type 0) (number : ℕ) (t : CType) (unsized : Bool) (s : Seen) → Quiet pre Anything s (array_completed number t unsized s)
unfolding and_then
array_completed_quiet pre number t true s = with_size_quiet pre t number (found_here s.scopes number) s
array_completed_quiet pre number t false s = steady s tt

-- a static object, in a block or at file scope
static_quiet : (pre : List FunctionInfo → Type 0) (t : CType) (i : Init) (storage : Storage) (s : Seen)
    → Quiet pre QuietInitial s (and_then (initialized true t i s) (λ given v. and_then (initially storage (initial_values (where_in storage) given) v) (λ x w. Good given w)))
static_quiet pre t i storage s =
    then_quiet s (initialized true t i s) _ (anyway s _ (initialized_quiet i true t s)) (λ given v.
    then_quiet v (initially storage (initial_values (where_in storage) given) v) _ (initially_quiet _ v storage _ (λ u p. p.1.1 (where_in storage))) (λ x w.
    gives_quiet w given (λ u ends p. p.0.1)))

block_initializer_quiet : (pre : List FunctionInfo → Type 0) (duration : Duration) (t : CType) (i : Option Init) (storage : Storage) (words : ℕ) (s : Seen)
    → Quiet pre QuietInitial s (block_initializer duration t i storage words s)
block_initializer_quiet pre duration t None storage words s = gives_quiet s (init.Absent words) (λ u ends p. initial-Absent u words)
block_initializer_quiet pre IsAutomatic t (Some i) storage words s = anyway s _ (initialized_quiet i false t s)
block_initializer_quiet pre IsStatic t (Some i) storage words s = static_quiet pre t i storage s
block_initializer_quiet pre IsThreadLocal t (Some i) storage words s = static_quiet pre t i storage s

block_words_quiet : (pre : List FunctionInfo → Type 0) (name : Span) (number : ℕ) (m : Made) (t : CType) (s : Seen) → Quiet pre Anything s (block_words name number m t s)
unfolding and_then
block_words_quiet pre name number m t s =
    then_quiet s (faults (is_some (found_here s.scopes number)) (is_mistyped m || is_function t) m.conflicting (m.incomplete || is_incomplete s.structures t) name.start s) _
    (faults_quiet pre _ _ m.conflicting _ name.start s) (λ x v. steady v _)

block_kept_quiet : (pre : List FunctionInfo → Type 0) (number : ℕ) (duration : Duration) (t : CType) (words : ℕ) (s : Seen) → Quiet pre Anything s (block_kept number duration t words s)
block_kept_quiet pre number duration t words s =
    then_quiet s (kept_for duration words None s) _ (kept_for_quiet pre s duration words None) (λ storage v.
    then_quiet v (declared number (Variable t storage None) v) _ (declared_quiet _ v number (Variable t storage None)) (λ x w. steady w storage))

block_initialized_quiet : (pre : List FunctionInfo → Type 0) (number : ℕ) (duration : Duration) (unsized : Bool) (t : CType) (i : Option Init) (storage : Storage) (words : ℕ) (s : Seen)
    → Quiet pre QuietInitial s (block_initialized number duration unsized t i storage words s)
block_initialized_quiet pre number duration unsized t i storage words s =
    then_quiet s (block_initializer duration t i storage words s) _ (block_initializer_quiet pre duration t i storage words s) (λ given v.
    then_quiet v (array_completed number t unsized v) _ (array_completed_quiet _ number t unsized v) (λ x w.
    gives_quiet w given (λ u ends p. p.0.1)))

block_name_quiet : (d : Named) → Quietly QuietStmts (block_name d)
unfolding block_name StmtKeeps
block_name_quiet d s =
    then_quiet s (sized d.init d.made.kind s) _ (sized_quiet Always d.init d.made.kind s) (λ t v.
    then_quiet v (block_words d.name d.number d.made t v) _ (block_words_quiet _ d.name d.number d.made t v) (λ words w.
    then_quiet w (block_kept d.number (block_duration d.specifiers) d.made.kind words w) _ (block_kept_quiet _ d.number (block_duration d.specifiers) d.made.kind words w) (λ storage x.
    then_quiet x (block_initialized d.number (block_duration d.specifiers) (is_unsized d.made.kind) t d.init storage words x) _
    (block_initialized_quiet _ d.number (block_duration d.specifiers) (is_unsized d.made.kind) t d.init storage words x) (λ i y.
    gives_quiet y _ (λ u ends p. (p.1.0, tt))))))

pub named_at_quiet : (pre : List FunctionInfo → Type 0) (b : Specifiers) (d : Shape) (i : Option Init) (next : Named → Seen → Read (List Stmt)) (name : Option Span)
    → ((n : Named) → Quietly QuietStmts (next n)) → (s : Seen) → Quiet pre QuietStmts s (named_at b d i next name s)
unfolding and_then
named_at_quiet pre b d i next None keeps s = gives_quiet s [] (λ u ends p. tt)
named_at_quiet pre b d i next (Some name) keeps s =
    then_quiet s (name_number name s) _ (name_number_quiet pre s name) (λ number t. anyway t _ (keeps _ t))

init_declarator_quiet : (b : Specifiers) (next : Named → Seen → Read (List Stmt)) (d : InitDeclarator) → ((n : Named) → Quietly QuietStmts (next n))
    → Quietly QuietStmts (init_declarator b next d)
unfolding init_declarator
init_declarator_quiet b next d keeps s =
    then_quiet s (declarator d.declarator s) _ (declarator_quiet d.declarator s) (λ shape t. named_at_quiet _ b shape d.init next shape.name keeps t)

init_declarators_quiet : (b : Specifiers) (next : Named → Seen → Read (List Stmt)) (ds : List InitDeclarator) → ((n : Named) → Quietly QuietStmts (next n))
    → Quietly QuietStmts (init_declarators b next ds)
init_declarators_quiet b next [] keeps s = gives_quiet s [] (λ u ends p. tt)
init_declarators_quiet b next (d ∷ ds) keeps s =
    then_quiet s (init_declarator b next d s) _ (init_declarator_quiet b next d keeps s) (λ here t.
    then_quiet t (init_declarators b next ds t) _ (anyway t _ (init_declarators_quiet b next ds keeps t)) (λ others v.
    gives_quiet v (here ++ others) (λ u ends p. each_joined StmtKeeps here others p.0.1 p.1)))

pub declaration_quiet : (next : Named → Seen → Read (List Stmt)) (d : Decl) → ((n : Named) → Quietly QuietStmts (next n)) → Quietly QuietStmts (declaration next d)
unfolding declaration
declaration_quiet next d keeps s =
    then_quiet s (all_specifiers d.specs no_specifiers s) _ (all_specifiers_quiet d.specs no_specifiers s) (λ b t.
    refused_quiet t (is_bare d.declarators && is_attributed b) 3 d.place _ (λ e. anyway t _ (init_declarators_quiet b next d.declarators keeps t)))

pub block_declaration_quiet : (d : Decl) → Quietly QuietStmts (block_declaration d)
unfolding block_declaration
block_declaration_quiet d = declaration_quiet block_name d block_name_quiet
