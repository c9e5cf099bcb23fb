-- Typing (C17 6.9): the unit and the warnings of a tree, its first fault, or the limit that it passes.
use Rattle.std.specs.Prelude.{ℕ, zero, suc, ◌+◌, ◌^◌, nat_lt, nat_eq, if◌then◌else◌, List, [], ◌∷◌, map, length, slice_get, codes, Option, Some, None}
use Rattle.std.specs.List.{list_any}
use Rattle.scopes.specs.Scope.{Scope}
use Rattle.c_tree.specs.declared.statements.External.{External}
use Rattle.c_tree.specs.declared.statements.External.TheVariants as external
use Rattle.c_tree.specs.declared.statements.Tree.{Tree}
use Rattle.eff_types.specs.declared.levels.Effects.{Effects}
use Rattle.eff_types.specs.declared.types.CType.{Void, Unsigned, Mutex}
use Rattle.core_unit.specs.Library.{rows}
use Rattle.core_unit.specs.Units.{calls_of}
use Rattle.core_unit.specs.Words.{packed}
use Rattle.core_unit.specs.declared.tables.FunctionInfo.{FunctionInfo}
use Rattle.core_unit.specs.declared.tables.UnitParts.{UnitParts}
use Rattle.core_unit.specs.declared.units.Which.{Which}
use Rattle.core_unit.specs.declared.units.Which.TheVariants as which
use Rattle.type_rules.specs.Declarations.{file_declaration, definition}
use Rattle.type_rules.specs.Functions.{effects_at}
use Rattle.type_rules.specs.Reading.{Rule, Read, Good, Bad, and_then, ◌>>◌, gives}
use Rattle.type_rules.specs.Seen.{Seen}
use Rattle.type_rules.specs.Statements.{block_items}
use Rattle.type_rules.specs.declared.names.Entity.{Entity}
use Rattle.type_rules.specs.declared.names.Entity.TheVariants.{TypeName, Library, NullPointer, MutexInitializer}
use Rattle.type_rules.specs.declared.names.Tag.{Tag}
use Rattle.type_rules.specs.declared.notes.Initial.{Initial}
use Rattle.type_rules.specs.declared.notes.TypeWarning.{TypeWarning}

-- The reserved names and what they mean: they are known in each unit, and none of them is declared (this project's own rule; C17 7.1.3).
abbrev pub reserved : List (List ℕ × Entity)
reserved =
    (codes "NULL", NullPointer) ∷ (codes "size_t", TypeName Unsigned) ∷ (codes "pthread_t", TypeName Unsigned)
    ∷ (codes "pthread_mutex_t", TypeName Mutex) ∷ (codes "PTHREAD_MUTEX_INITIALIZER", MutexInitializer) ∷ library_names 0 (map (λ r. r.name) rows)
  where
    library_names : ℕ → List (List ℕ) → List (List ℕ × Entity)
    library_names row [] = []
    library_names row (name ∷ names) = (name, Library row) ∷ library_names (row + 1) names

abbrev numbered : {A : Type 0} → ℕ → List A → List (ℕ × A)
numbered first [] = []
numbered first (a ∷ rest) = (first, a) ∷ numbered (first + 1) rest

abbrev pub reserved_scope : Scope Entity
reserved_scope = numbered 0 (map (λ r. r.1) reserved)

-- a source of which no declaration was read, with the names that are known and what they mean
abbrev pub unread : (source marks : List ℕ) → List Effects → (names : List (List ℕ)) → List (Scope Entity) → List (Scope Tag) → Seen
unread source marks whole names scopes tags = record {
  source = source;
  marks = marks;
  whole = whole;
  names = names;
  scopes = scopes;
  tags = tags;
  functions = [];
  definitions = [];
  variables = [];
  structures = [];
  sizes = [];
  statics = [];
  static_words = 0;
  thread_locals = [];
  thread_words = 0;
  static_values = [];
  thread_values = [];
  sites = 1;
  frame = 0;
  result = Void;
  warnings = [];
}

-- what is known before the first declaration
abbrev pub opening : List ℕ → List ℕ → List Effects → Seen
opening source marks whole = unread source marks whole (map (λ r. r.0) reserved) ([] ∷ reserved_scope ∷ []) ([] ∷ [])

-- an external declaration (C17 6.9)
abbrev pub external_read : External → Rule (Unit {0})
external_read (external.Declaration d) = file_declaration d
external_read (external.Function f) = definition block_items f

-- all of them, in source order
abbrev pub externals : List External → Rule (Unit {0})
externals [] = gives tt
externals (e ∷ es) = external_read e >> externals es

abbrev pub read_unit : List ℕ → List ℕ → List Effects → Tree → Read (Unit {0})
read_unit source marks whole tree = externals tree.externals (opening source marks whole)

-- the effects of the functions, in order of first declaration
abbrev pub effects_of_all : List FunctionInfo → List Effects
effects_of_all functions = map (λ f. f.kind.effects) functions

-- A unit is read twice: first each function's name has the effects of the declarations before it, and then those of the whole unit
-- (Clang's manual 'Function Effect Analysis'; that they hold also before a later declaration is this project's own rule). No rule is
-- broken in the second reading where none is in the first.
unfoldable pub typed : List ℕ → List ℕ → Tree → Read (Unit {0})
typed source marks tree = and_then (read_unit source marks [] tree) (λ _ s. read_unit source marks (effects_of_all s.functions) tree)

-- What the words hold at first, from this place on: the last value that is noted of a word, and zero where none is.
abbrev pub value_at : ℕ → List Initial → ℕ → ℕ
value_at at [] before = before
value_at at (i ∷ is) before = value_at at is (if nat_eq i.at at then packed i.word else before)

abbrev pub words_from : ℕ → ℕ → List Initial → List ℕ
words_from first zero values = []
words_from first (suc n) values = value_at first values 0 ∷ words_from (first + 1) n values

-- the functions, each with its effects in the whole unit
abbrev pub with_whole : List Effects → ℕ → List FunctionInfo → List FunctionInfo
with_whole whole number [] = []
with_whole whole number (f ∷ fs) = record f { kind = effects_at (slice_get whole number) f.kind } ∷ with_whole whole (number + 1) fs

-- The parts of the unit, but for the table of its sites.
abbrev pub without_sites : Seen → UnitParts
without_sites s = record {
  functions = with_whole s.whole 0 s.functions;
  definitions = s.definitions;
  sites = [];
  variables = s.variables;
  structures = s.structures;
  statics = s.statics;
  thread_locals = s.thread_locals;
  static_words = words_from 1 s.static_words s.static_values;
  thread_words = words_from 0 s.thread_words s.thread_values;
}

-- The sites are those of the calls in all bodies, definition after definition, in order of place.
unfoldable pub parts_of : Seen → UnitParts
parts_of s = record (without_sites s) { sites = map (λ call. call.info) (calls_of (without_sites s)) }

-- The first limit that the unit passes (this project's own limits), in this order.
unfoldable pub exceeded : Seen → Option Which
exceeded s =
    if nat_lt 4096 (length s.functions) then Some which.Functions
    else if list_any (λ f. nat_lt 16 (length f.kind.params)) s.functions then Some which.Parameters
    else if nat_lt (2 ^ 20) s.sites then Some which.CallSites
    else if nat_lt 524288 s.static_words then Some which.StaticWords
    else if nat_lt 1024 s.thread_words then Some which.ThreadWords
    else if list_any (λ f. nat_lt 4096 f.frame_words) s.functions then Some which.FrameWords
    else None

-- What a tree comes to.
pub data Outcome : Type 0 where
  IsTyped : UnitParts → List TypeWarning → Outcome
  Breaks : (number place : ℕ) → Outcome
  Passes : Which → Outcome

abbrev within : Seen → Option Which → Outcome
within s None = IsTyped (parts_of s) s.warnings
within s (Some limit) = Passes limit

abbrev pub outcome_of : Read (Unit {0}) → Outcome
outcome_of (Good _ s) = within s (exceeded s)
outcome_of (Bad number place) = Breaks number place

-- the outcome of a tree, where the functions of these numbers are marked
unfoldable pub outcome : List ℕ → List ℕ → Tree → Outcome
outcome source marks tree = outcome_of (typed source marks tree)
