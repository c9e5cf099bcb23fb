-- Words for trials: small units that are written down as trees by hand, and the events of one thread over a memory of its own.
use Rattle.std.proofs.Common.{ℕ, zero, suc, ◌+◌, ◌-◌, Bool, true, false, List, [], ◌∷◌, ◌++◌, length, map, take, Option, Some, codes, nat_eq, if◌then◌else◌}
use denote.Hole.Carrier.{hidden}
use Rattle.core_unit.specs.Library.{takes, row_type}
use Rattle.core_unit.specs.Shapes.{callee_of}
use Rattle.core_unit.specs.Stores.{stores}
use Rattle.core_unit.specs.Typing.{type_of}
use Rattle.core_unit.specs.declared.body.Initializer.TheBlock.{hidden-the_row-Initializer-0, shape-the_row-Initializer-0}
use Rattle.core_unit.specs.declared.body.Stmt.TheBlock.{hidden-the_row-Stmt-0, shape-the_row-Stmt-0, hidden-the_row-Stmt-1, shape-the_row-Stmt-1}
use Rattle.core_unit.specs.declared.expressions.Expr.TheBlock.{hidden-the_row-Expr-0, shape-the_row-Expr-0, hidden-the_row-Place-1, shape-the_row-Place-1, hidden-the_row-Expr-2, shape-the_row-Expr-2}
use Rattle.eff_types.specs.Comparison.{likeness_of, each_likeness, signature_likeness_of}
use Rattle.eff_types.specs.Types.{points_to, same}
use Rattle.eff_types.specs.declared.types.CType.TheBlock.{hidden-the_row-CType-0, shape-the_row-CType-0, hidden-the_row-CType-1, shape-the_row-CType-1}
use Rattle.mcode.specs.Words.{unpacked}
use Rattle.src_model.specs.Weights.{measure, statement_measure}
use Rattle.ctx_set.specs.Prefixes.{prefixes, distinct, has}
use Rattle.ctx_set.specs.declared.steps.StackStep.{StackStep}
use Rattle.std.specs.Prelude.{flat_map}
use Rattle.std.specs.List.{list_all}
use Rattle.src_model.specs.Runs.{Setting}
use Rattle.src_model.specs.Scheduled.{Shared, Live, Running, has_room, scheduled_over}
use Rattle.src_model.specs.declared.runs.End.{End}
use Rattle.src_model.specs.declared.runs.Options.{Options}
use Rattle.suppress.specs.declared.suppressions.Suppression.{Suppression}
use Rattle.word_mem.specs.Replay.{place_of, word_after}
use Rattle.word_mem.specs.declared.event.WordEvent.{WordEvent}
use Prim.Native.String.{String}
use Rattle.core_unit.specs.Words.{packed}
use Rattle.core_unit.specs.declared.body.Braces.TheVariants.{Bare}
use Rattle.core_unit.specs.declared.body.Initializer.{Initializer}
use Rattle.core_unit.specs.declared.body.Initializer.TheVariants as init
use Rattle.core_unit.specs.declared.body.Stmt.{Stmt}
use Rattle.core_unit.specs.declared.body.Stmt.TheVariants as stmt
use Rattle.core_unit.specs.declared.expressions.Expr.{Expr}
use Rattle.core_unit.specs.declared.expressions.Expr.TheVariants as expr
use Rattle.core_unit.specs.declared.expressions.Place.{Place}
use Rattle.core_unit.specs.declared.expressions.Place.TheVariants as place
use Rattle.core_unit.specs.declared.expressions.Storage.TheVariants.{Automatic, Static}
use Rattle.core_unit.specs.declared.operators.ArithmeticOperator.{ArithmeticOperator}
use Rattle.core_unit.specs.declared.operators.BinaryOperator.TheVariants as binary
use Rattle.core_unit.specs.declared.operators.Sign.TheVariants.{Signed}
use Rattle.core_unit.specs.declared.tables.FunctionInfo.{FunctionInfo}
use Rattle.core_unit.specs.declared.tables.UnitParts.{UnitParts}
use Rattle.core_unit.specs.declared.words.Word.TheVariants.{Number}
use Rattle.eff_types.specs.declared.levels.Effects.{Effects}
use Rattle.eff_types.specs.declared.levels.Level.TheVariants.{Plain, NonBlocking}
use Rattle.eff_types.specs.declared.types.CType.{CType, Int}
use Rattle.eff_types.specs.declared.types.CType.TheVariants as a_type
use Rattle.eff_types.specs.declared.types.FnType.{FnType}
use Rattle.mcode.specs.Memory.{break_word}
use Rattle.mcode.specs.declared.events.Ask.{Ask}
use Rattle.mcode.specs.declared.events.Ask.TheVariants.{Load, Store, Exchange, FetchAdd, FetchSub, Reach, Create, Over}
use Rattle.mcode.specs.declared.events.Turned.{Turned}
use Rattle.src_model.specs.Source.{next, after, turned, start, cut}
use Rattle.src_model.specs.Tasks.{State}

-- what trials compute with
unfoldable pub computing : ℕ
unfolding measure statement_measure stores type_of callee_of row_type points_to likeness_of each_likeness signature_likeness_of same packed unpacked hidden hidden-the_row-CType-0 shape-the_row-CType-0 hidden-the_row-CType-1 shape-the_row-CType-1 hidden-the_row-Expr-0 shape-the_row-Expr-0 hidden-the_row-Place-1 shape-the_row-Place-1 hidden-the_row-Expr-2 shape-the_row-Expr-2 hidden-the_row-Stmt-0 shape-the_row-Stmt-0 hidden-the_row-Stmt-1 shape-the_row-Stmt-1 hidden-the_row-Initializer-0 shape-the_row-Initializer-0
computing = 0

-- effects
abbrev pub nonblocking : Effects
nonblocking = record { level = NonBlocking; no_block_inference = false; no_alloc_inference = false }

abbrev pub blocking : Effects
blocking = record { level = Plain; no_block_inference = true; no_alloc_inference = false }

abbrev pub with_effects : Effects → FnType → FnType
with_effects effects f = record f { effects = effects }

-- a definition: its type, the words of its frame, its statements
abbrev pub definition : String → FnType → ℕ → List Stmt → FunctionInfo
definition name kind words items = record {
  name = codes name;
  kind = kind;
  noreturn = false;
  internal = false;
  place = 0;
  body = Some (record { items = items });
  frame_words = words;
}

abbrev pub noreturn : FunctionInfo → FunctionInfo
noreturn info = record info { noreturn = true }

-- a unit of these functions and static words
abbrev pub unit : List FunctionInfo → List ℕ → UnitParts
unit functions static_words = record {
  functions = functions;
  definitions = [];
  sites = [];
  variables = [];
  structures = [];
  statics = [];
  thread_locals = [];
  static_words = static_words;
  thread_words = [];
}

-- of `int main(void)` alone
abbrev pub main_of : ℕ → List Stmt → UnitParts
main_of words items = unit (definition "main" (takes Int []) words items ∷ []) []

-- expressions and statements
abbrev pub int : ℕ → Expr
int n = expr.Number Signed n

abbrev pub local : ℕ → CType → Place
local offset t = place.Variable 0 (Automatic offset) t

abbrev pub static : ℕ → CType → Place
static address t = place.Variable 0 (Static address) t

abbrev pub value : ℕ → CType → Expr
value offset t = expr.Load (local offset t)

abbrev pub named : ℕ → FnType → Expr
named function kind = expr.Function function (a_type.Function kind)

abbrev pub call : (site function : ℕ) → FnType → List Expr → Expr
call site function kind es = expr.Call 0 site (named function kind) es

-- of the library function of a row
abbrev pub library_call : (site row : ℕ) → List Expr → Expr
library_call site row es = expr.Call 0 site (expr.LibraryFunction row) es

abbrev pub arithmetic : ArithmeticOperator → Expr → Expr → Expr
arithmetic operator a b = expr.Binary (binary.Arithmetic operator Signed) a b

abbrev pub run : Expr → Stmt
run e = stmt.Expression e

abbrev pub returns : Expr → Stmt
returns e = stmt.Return (Some e)

abbrev pub variable : ℕ → CType → Initializer → Stmt
variable offset t initializer = stmt.Variable (record { place = 0; storage = Automatic offset; kind = t; initializer = initializer })

abbrev pub variable_is : ℕ → CType → Expr → Stmt
variable_is offset t e = variable offset t (init.Value Bare e)

-- the word of a number other than 0
abbrev pub number_word : ℕ → ℕ
number_word bits = packed (Number bits)

-- a memory: the words that aren't 0
pub record Cell : Type 0 where
  pub at : ℕ
  pub word : ℕ

abbrev pub word_at : List Cell → ℕ → ℕ
word_at [] at = 0
word_at (cell ∷ cells) at = if nat_eq cell.at at then cell.word else word_at cells at

abbrev pub cell : ℕ → ℕ → Cell
cell at word = record { at = at; word = word }

-- the word that answers an event; a thread that is started has number 1
abbrev pub answer_of : List Cell → Ask → ℕ
answer_of cells (Load at) = word_at cells at
answer_of cells (Exchange at old new) = word_at cells at
answer_of cells (FetchAdd at n) = word_at cells at
answer_of cells (FetchSub at n) = word_at cells at
answer_of cells (Create function argument) = 1
answer_of cells _ = 0

abbrev pub cells_after : List Cell → Ask → List Cell
cells_after cells (Store at word) = cell at word ∷ cells
cells_after cells (Exchange at old new) = if nat_eq (word_at cells at) old then cell at new ∷ cells else cells
cells_after cells (FetchAdd at n) = cell at (word_at cells at + n) ∷ cells
cells_after cells (FetchSub at n) = cell at (word_at cells at - n) ∷ cells
cells_after cells _ = cells

-- the thread after an event; where the event says so it is cut short
abbrev pub moved : UnitParts → (stop : Ask → Bool) → List Cell → State → Ask → State
moved u stop cells s event = if stop event then cut (after u s (answer_of cells event)) else after u s (answer_of cells event)

-- from the state, whose next event it is
abbrev pub along : UnitParts → (State → Ask → List Ask) → State → List Ask
along u go s = go s (next u s)

-- the events of a thread, at most so many, and its finish
abbrev pub follow : UnitParts → (stop : Ask → Bool) → ℕ → List Cell → State → Ask → List Ask
follow u stop zero cells s event = []
follow u stop (suc n) cells s (Over finish) = Over finish ∷ []
follow u stop (suc n) cells s event = event ∷ along u (follow u stop n (cells_after cells event)) (moved u stop cells s event)

abbrev pub never : Ask → Bool
never event = false

abbrev pub at_reach : ℕ → Ask → Bool
at_reach target (Reach reached site) = nat_eq reached target
at_reach target _ = false

-- what memory holds at first: the static words, from address 1 on, and where the heap begins
abbrev pub cells_of : ℕ → List ℕ → List Cell
cells_of at [] = []
cells_of at (word ∷ words) = cell at word ∷ cells_of (suc at) words

abbrev pub opening : UnitParts → List Cell
opening u = cell break_word (1 + length u.static_words + 327680) ∷ cells_of 1 u.static_words

-- the events of a thread of this number from a function with these arguments, where memory holds these words too
abbrev pub events_from : (Ask → Bool) → ℕ → UnitParts → List Cell → (number function : ℕ) → List ℕ → List Ask
events_from stop most u cells number function arguments =
    follow u stop most (append cells (opening u)) (start number function arguments) (next u (start number function arguments))
  where
    append : List Cell → List Cell → List Cell
    append [] ds = ds
    append (c ∷ cs) ds = c ∷ append cs ds

-- the events of thread 0 from a function without parameters
abbrev pub events_until : (Ask → Bool) → ℕ → UnitParts → (function : ℕ) → List Ask
events_until stop most u function = events_from stop most u [] 0 function []

abbrev pub events : ℕ → UnitParts → (function : ℕ) → List Ask
events = events_until never

-- whether each of the first events was a failed try
abbrev pub along_tries : UnitParts → (State → Ask → List Turned) → State → List Turned
along_tries u go s = go s (next u s)

abbrev pub tries : UnitParts → ℕ → List Cell → State → Ask → List Turned
tries u zero cells s event = []
tries u (suc n) cells s event =
    turned u s (answer_of cells event) ∷ along_tries u (tries u n (cells_after cells event)) (after u s (answer_of cells event))

abbrev pub turns : ℕ → UnitParts → (function : ℕ) → List Turned
turns most u function = tries u most (opening u) (start 0 function []) (next u (start 0 function []))

-- a run of `main` without arguments
abbrev pub defaults : Options
defaults = record { halt_on_error = true; print_stats = false; events = 10000000; wait_limit = 2000000 }

abbrev pub setting : UnitParts → Options → List Suppression → Setting
setting u options suppressions = record { unit = u; entry = codes "main"; arguments = []; options = options; suppressions = suppressions }

abbrev pub step : (target site : ℕ) → StackStep
step target site = record { target = target; site = site }

-- a memory of runs that keeps the words which aren't 0
abbrev pub noted : List Cell → List WordEvent → List Cell
noted cells [] = cells
noted cells (e ∷ es) = noted (cell (place_of e) (word_after e (word_at cells (place_of e))) ∷ cells) es

abbrev pub as_cells : Shared (List Cell)
as_cells = record { word_at = word_at; after_events = noted; has_room = has_room }

abbrev pub over : Setting → (schedule : List ℕ) → Running (List Cell)
over w schedule = scheduled_over as_cells w schedule (opening w.unit)

-- the same with a board that has room for so many prefixes
abbrev pub room_within : ℕ → (asked : List (List StackStep)) → List StackStep → Bool
room_within n asked stack = list_all (has (take n (distinct (flat_map prefixes asked ++ prefixes stack)))) (prefixes stack)

abbrev pub over_board : ℕ → Setting → (schedule : List ℕ) → Running (List Cell)
over_board n w schedule = scheduled_over (record as_cells { has_room = room_within n }) w schedule (opening w.unit)

-- how the threads of a scheduled run end
abbrev pub ends : Setting → (schedule : List ℕ) → List (Option End)
ends w schedule = map (λ (t : Live). t.end) (over w schedule).threads
