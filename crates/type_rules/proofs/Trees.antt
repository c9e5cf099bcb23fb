-- Words for the trials: syntax trees that are written down by hand, and what is declared before them. Each trial has its text, so places are those
-- of a real source.
use Rattle.std.proofs.Common.{ℕ, zero, suc, false, List, [], ◌∷◌, Some, None, codes}
use Prim.Native.String.{String}
use Rattle.eff_types.specs.Effects.{plain}
use Rattle.eff_types.specs.declared.levels.Effects.{Effects}
use Rattle.eff_types.specs.declared.levels.Level.TheVariants.{NonBlocking}
use Rattle.eff_types.specs.declared.types.CType.{CType, Void, Char, Int, Unsigned, Mutex, Struct}
use Rattle.eff_types.specs.declared.types.CType.TheVariants as a_type
use Rattle.eff_types.specs.declared.types.FnType.{FnType}
use Rattle.c_tree.specs.declared.expressions.AccessOperator.{AccessOperator}
use Rattle.c_tree.specs.declared.expressions.AssignmentOperator.{AssignmentOperator}
use Rattle.c_tree.specs.declared.expressions.BinaryOperator.{BinaryOperator}
use Rattle.c_tree.specs.declared.expressions.Declarator.{Declarator}
use Rattle.c_tree.specs.declared.expressions.Declarator.TheVariants as declarator
use Rattle.c_tree.specs.declared.expressions.Expr.{Expr}
use Rattle.c_tree.specs.declared.expressions.Expr.TheVariants as tree
use Rattle.c_tree.specs.declared.expressions.Spec.TheVariants as spec
use Rattle.c_tree.specs.declared.expressions.StepOperator.{StepOperator}
use Rattle.c_tree.specs.declared.expressions.TypeName.{TypeName}
use Rattle.c_tree.specs.declared.expressions.UnaryOperator.{UnaryOperator}
use Rattle.c_tree.specs.declared.words.Span.{Span}
use Rattle.c_tree.specs.declared.words.TypeWord.{TypeWord}
use Rattle.core_unit.specs.Library.{takes}
use Rattle.core_unit.specs.Shapes.{pointer_to, array_of}
use Rattle.core_unit.specs.declared.expressions.Storage.TheVariants.{Automatic, Static, ThreadLocal}
use Rattle.core_unit.specs.declared.tables.FunctionInfo.{FunctionInfo}
use Rattle.core_unit.specs.declared.tables.StructInfo.{StructInfo}
use Rattle.type_rules.specs.Seen.{Seen}
use Rattle.type_rules.specs.declared.names.Entity.{Entity}
use Rattle.type_rules.specs.declared.names.Entity.TheVariants as entity

abbrev pub at : ℕ → ℕ → Span
at start end = record { start = start; end = end }

abbrev pub nam : ℕ → ℕ → Expr
nam start end = tree.Name (at start end)

abbrev pub num : ℕ → ℕ → Expr
num start end = tree.Number (at start end)

abbrev pub chr : ℕ → ℕ → Expr
chr start end = tree.Character (at start end)

abbrev pub str : List Span → Expr
str strings = tree.Text strings

abbrev pub par : ℕ → Expr → Expr
par place e = tree.Parenthesised place e

abbrev pub idx : ℕ → Expr → Expr → Expr
idx place a i = tree.Index place a i

abbrev pub call : ℕ → Expr → List Expr → Expr
call place f es = tree.Call place f es

abbrev pub mem : ℕ → Expr → AccessOperator → ℕ → ℕ → Expr
mem place e operator start end = tree.Access place e operator (at start end)

abbrev pub post : ℕ → Expr → StepOperator → Expr
post place e operator = tree.Step place e operator

abbrev pub pre : ℕ → UnaryOperator → Expr → Expr
pre place operator e = tree.Unary place operator e

abbrev pub pointers : ℕ → Declarator
pointers zero = declarator.Absent
pointers (suc n) = declarator.Pointer 0 [] (pointers n)

abbrev pub named_type : ℕ → TypeWord → ℕ → TypeName
named_type place word stars = record { place = place; specs = spec.«Type» place word ∷ []; declarator = pointers stars }

abbrev pub size_type : ℕ → TypeName → Expr
size_type place t = tree.SizeofType place t

abbrev pub cast : ℕ → TypeName → Expr → Expr
cast place t e = tree.Cast place t e

abbrev pub bin : ℕ → Expr → BinaryOperator → ℕ → Expr → Expr
bin place a operator at b = tree.Binary place a operator at b

abbrev pub choose : ℕ → Expr → Expr → Expr → Expr
choose place c a b = tree.Conditional place c a b

abbrev pub asg : ℕ → Expr → AssignmentOperator → ℕ → Expr → Expr
asg place a operator at b = tree.Assignment place a operator at b

abbrev pub nonblocking : Effects
nonblocking = record { level = NonBlocking; no_block_inference = false; no_alloc_inference = false }

abbrev pub takes_int : CType → Effects → FnType
takes_int result effects = record { result = result; params = Int ∷ []; effects = effects }

abbrev pub pointer_with : Effects → CType
pointer_with effects = pointer_to (a_type.Function (takes_int Int effects))

abbrev local : ℕ → CType → Entity
local offset t = entity.Variable t (Automatic offset) None

abbrev function : FnType → FunctionInfo
function kind = record { name = codes "f"; kind = kind; noreturn = false; internal = false; place = 0; body = None; frame_words = 0 }

abbrev structure : StructInfo
structure = record { tag = None; members = Some (record { name = codes "a"; kind = Int } ∷ record { name = codes "b"; kind = Int } ∷ []); words = 2 }

abbrev open_structure : StructInfo
open_structure = record { tag = None; members = None; words = 0 }

-- What is declared:
--
--     int i, j; char c; unsigned u; int *p; char *q; void *v;
--     struct { int a, b; } s, *r; struct open *z; pthread_mutex_t x; int y[3]; int **t; char B[4];
--     int f(int); int g(int) [[clang::nonblocking]]; void l(void); int (*m(int))(int);
--     int (*h)(int); int (*k)(int) [[clang::nonblocking]]; int (**P)(int); int (**Q)(int) [[clang::nonblocking]];
--     enum { e = 5, o = 0 }; static int w; static int b[4]; static _Thread_local int n;
--     A is `abs`, N is `NULL`, M is `PTHREAD_MUTEX_INITIALIZER`.
abbrev pub opening : String → Seen
opening text = record {
  source = codes text;
  marks = [];
  whole = [];
  names = codes "i" ∷ codes "j" ∷ codes "c" ∷ codes "u" ∷ codes "p" ∷ codes "q" ∷ codes "v" ∷ codes "s" ∷ codes "r" ∷ codes "z" ∷ codes "x"
      ∷ codes "y" ∷ codes "t" ∷ codes "B" ∷ codes "f" ∷ codes "g" ∷ codes "l" ∷ codes "m" ∷ codes "h" ∷ codes "k" ∷ codes "P" ∷ codes "Q"
      ∷ codes "e" ∷ codes "o" ∷ codes "w" ∷ codes "b" ∷ codes "n" ∷ codes "A" ∷ codes "N" ∷ codes "M" ∷ [];
  scopes =
      ((0, local 0 Int) ∷ (1, local 1 Int) ∷ (2, local 2 Char) ∷ (3, local 3 Unsigned) ∷ (4, local 4 (pointer_to Int)) ∷ (5, local 5 (pointer_to Char))
      ∷ (6, local 6 (pointer_to Void)) ∷ (7, local 7 (Struct 0)) ∷ (8, local 9 (pointer_to (Struct 0))) ∷ (9, local 10 (pointer_to (Struct 1)))
      ∷ (10, local 11 Mutex) ∷ (11, local 12 (array_of Int 3)) ∷ (12, local 15 (pointer_to (pointer_to Int))) ∷ (13, local 16 (array_of Char 4))
      ∷ (14, entity.Function 0) ∷ (15, entity.Function 1) ∷ (16, entity.Function 2) ∷ (17, entity.Function 3)
      ∷ (18, local 20 (pointer_with plain)) ∷ (19, local 21 (pointer_with nonblocking))
      ∷ (20, local 22 (pointer_to (pointer_with plain))) ∷ (21, local 23 (pointer_to (pointer_with nonblocking)))
      ∷ (22, entity.Enumerator 5) ∷ (23, entity.Enumerator 0) ∷ (24, entity.Variable Int (Static 7) None)
      ∷ (25, entity.Variable (array_of Int 4) (Static 20) None) ∷ (26, entity.Variable Int (ThreadLocal 3) None)
      ∷ (27, entity.Library 10) ∷ (28, entity.NullPointer) ∷ (29, entity.MutexInitializer) ∷ []) ∷ [];
  tags = [] ∷ [];
  functions = function (takes_int Int plain) ∷ function (takes_int Int nonblocking) ∷ function (takes Void []) ∷ function (takes_int (pointer_with plain) plain) ∷ [];
  definitions = [];
  variables = [];
  structures = structure ∷ open_structure ∷ [];
  sizes = 2 ∷ 0 ∷ [];
  statics = [];
  static_words = 30;
  thread_locals = [];
  thread_words = 4;
  static_values = [];
  thread_values = [];
  sites = 1;
  frame = 24;
  result = Int;
  warnings = [];
}
