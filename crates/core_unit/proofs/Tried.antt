-- The definitions, tried on functions that are written down as trees by hand.
use Rattle.std.proofs.Common.{◌≡◌, refl, ℕ, true, false, List, [], ◌∷◌, Some, None, codes, arith}
use Rattle.std.proofs.lemmas.List.Elements.{All-nil, All-cons}
use denote.Hole.Carrier.{hidden}
use Rattle.eff_types.specs.Types.{points_to, same}
use Rattle.eff_types.specs.declared.types.CType.{CType, Void, Char, Int, Unsigned, Mutex, Struct}
use Rattle.eff_types.specs.declared.types.CType.TheVariants as a_type
use Rattle.core_unit.specs.Layout.{automatics, words_of, frame_of, object}
use Rattle.core_unit.specs.Library.{takes}
use Rattle.core_unit.specs.Nodes.{nodes, stmt_nodes, initializer_nodes, definition_nodes}
use Rattle.core_unit.specs.Places.{places, spots, stmt_spots, initializer_spots, Spot, Calls, Named, Row}
use Rattle.core_unit.specs.Shapes.{pointer_to, array_of, callee_of}
use Rattle.core_unit.specs.Structures.{IsWithin, IsSized, IsSizedMember}
use Rattle.core_unit.specs.Typed.{is_conversion, Tables, IsTyped, IsTypedPlace, IsTypedStmt}
use Rattle.core_unit.specs.Typing.{type_of, place_type}
use Rattle.core_unit.specs.declared.body.Body.{Body}
use Rattle.core_unit.specs.declared.body.Braces.TheVariants.{Bare}
use Rattle.core_unit.specs.declared.body.Initializer.TheBlock.{hidden-the_row-Initializer-0, shape-the_row-Initializer-0}
use Rattle.core_unit.specs.declared.body.Initializer.TheVariants as init
use Rattle.core_unit.specs.declared.body.Stmt.{Stmt}
use Rattle.core_unit.specs.declared.body.Stmt.TheBlock.{hidden-the_row-Stmt-0, shape-the_row-Stmt-0, hidden-the_row-Stmt-1, shape-the_row-Stmt-1}
use Rattle.core_unit.specs.declared.body.Stmt.TheVariants as stmt
use Rattle.core_unit.specs.declared.expressions.Expr.{Expr}
use Rattle.core_unit.specs.declared.expressions.Expr.TheBlock.{hidden-the_row-Expr-0, shape-the_row-Expr-0, hidden-the_row-Place-1, shape-the_row-Place-1, hidden-the_row-Expr-2, shape-the_row-Expr-2}
use Rattle.core_unit.specs.declared.expressions.Expr.TheVariants as expr
use Rattle.core_unit.specs.declared.expressions.Place.{Place}
use Rattle.core_unit.specs.declared.expressions.Place.TheVariants as place
use Rattle.core_unit.specs.declared.expressions.Storage.TheVariants.{Automatic, Static}
use Rattle.core_unit.specs.declared.operators.ArithmeticOperator.TheVariants.{Multiply, Remainder, Add, Subtract}
use Rattle.core_unit.specs.declared.operators.BinaryOperator.TheVariants as binary
use Rattle.core_unit.specs.declared.operators.Cause.TheVariants as cause
use Rattle.core_unit.specs.declared.operators.Comparands.TheVariants as comparands
use Rattle.core_unit.specs.declared.operators.ComparisonOperator.TheVariants.{Equal, Less}
use Rattle.core_unit.specs.declared.operators.PointerSide.TheVariants.{Left}
use Rattle.core_unit.specs.declared.operators.Sign.TheVariants.{Signed, Unsigned as Without}
use Rattle.core_unit.specs.declared.operators.StepValue.TheVariants.{Postfix}
use Rattle.core_unit.specs.declared.operators.UnaryOperator.TheVariants as unary
use Rattle.core_unit.specs.declared.operators.Update.TheVariants as update
use Rattle.core_unit.specs.declared.tables.MemberInfo.{MemberInfo}
use Rattle.core_unit.specs.declared.tables.StructInfo.{StructInfo}

-- words for trees
abbrev local : ℕ → CType → Place
local offset t = place.Variable 0 (Automatic offset) t

abbrev value : ℕ → CType → Expr
value offset t = expr.Load (local offset t)

abbrev int : ℕ → Expr
int n = expr.Number Signed n

abbrev unsigned_int : ℕ → Expr
unsigned_int n = expr.Convert cause.Implicit Unsigned (int n)

abbrev variable : ℕ → CType → Expr → Stmt
variable offset t e = stmt.Variable (record { place = 0; storage = Automatic offset; kind = t; initializer = init.Value Bare e })

-- typedef struct { int samples[64]; unsigned head; unsigned tail; } ring_t;
abbrev ring : CType
ring = pointer_to (Struct 0)

abbrev member : ℕ → CType → Place
member offset t = place.Member (place.Arrow (value 0 ring) 0) offset t

abbrev head : Expr
head = expr.Load (member 64 Unsigned)

abbrev tail : Expr
tail = expr.Load (member 65 Unsigned)

-- static int ring_pop(ring_t *r, int *v) {
--   if (r->head == r->tail) return 0;
--   *v = r->samples[r->head % SIZE];
--   r->head = r->head + 1;
--   return 1;
-- }
abbrev ring_pop : Body
ring_pop = record {
  items =
      stmt.If (expr.Binary (binary.Compare Equal (comparands.Numbers Without)) head tail) (stmt.Return (Some (int 0))) []
      ∷ stmt.Expression (expr.Assign (place.Indirection (value 1 (pointer_to Int)) Int)
      (expr.Load (place.Element (expr.ArrayPointer (member 0 (array_of Int 64)))
      (expr.Binary (binary.Arithmetic Remainder Without) head (unsigned_int 64)) Left 1 Int)))
      ∷ stmt.Expression (expr.Assign (member 64 Unsigned) (expr.Binary (binary.Arithmetic Add Without) head (unsigned_int 1)))
      ∷ stmt.Return (Some (int 1))
      ∷ [];
}

abbrev function : ℕ → Expr
function number = expr.Function number (a_type.Function (takes Int []))

-- a call at a place, from a site
abbrev call : ℕ → ℕ → Expr → List Expr → Expr
call at site callee arguments = expr.Call at site callee arguments

abbrev run : Expr → Stmt
run e = stmt.Expression e

-- for (int i = 0; i < count; i++) body
abbrev counted : ℕ → Expr → Stmt → Stmt
counted i count body =
    stmt.For (variable i Int (int 0) ∷ []) (Some (expr.Binary (binary.Compare Less (comparands.Numbers Signed)) (value i Int) count))
    (Some (expr.Step (local i Int) (update.Arithmetic Add Signed) Postfix)) body

-- static int process(ring_t *r, int *out, int n) [[clang::nonblocking]] {
--   int got = 0;
--   for (int i = 0; i < n; i++) {
--     int v = 0;
--     if (ring_pop(r, &v)) got++;
--     out[i] = clip(abs(v) * 3);
--   }
--   return got;
-- }
-- ring_pop is function 0, clip function 2, abs the row 10; the sites are numbered in order of place.
abbrev process : Body
process = record {
  items =
      variable 3 Int (int 0)
      ∷ counted 4 (value 2 Int) (stmt.Block (
      variable 5 Int (int 0)
      ∷ stmt.If (call 10 1 (function 0) (value 0 ring ∷ expr.AddressOf (local 5 Int) ∷ []))
      (run (expr.Step (local 3 Int) (update.Arithmetic Add Signed) Postfix)) []
      ∷ run (expr.Assign (place.Element (value 1 (pointer_to Int)) (value 4 Int) Left 1 Int)
      (call 20 2 (function 2) (expr.Binary (binary.Arithmetic Multiply Signed) (call 25 3 (expr.LibraryFunction 10) (value 5 Int ∷ [])) (int 3) ∷ [])))
      ∷ []))
      ∷ stmt.Return (Some (value 3 Int))
      ∷ [];
}

-- static void *fill(void *arg) {
--   ring_t *r = arg;
--   for (int i = 0; i < 200; i++)
--     if (!ring_push(r, i * 7 - 500)) usleep(10);
--   pthread_mutex_lock(&log_lock);
--   puts("filled");
--   pthread_mutex_unlock(&log_lock);
--   return NULL;
-- }
abbrev log_lock : Place
log_lock = place.Variable 0 (Static 67) Mutex

abbrev fill : Body
fill = record {
  items =
      variable 1 ring (expr.Convert cause.Implicit ring (value 0 (pointer_to Void)))
      ∷ counted 2 (int 200) (stmt.If
      (expr.Unary unary.Not (call 10 1 (function 1) (value 1 ring
      ∷ expr.Binary (binary.Arithmetic Subtract Signed) (expr.Binary (binary.Arithmetic Multiply Signed) (value 2 Int) (int 7)) (int 500) ∷ [])))
      (run (call 20 2 (expr.LibraryFunction 7) (unsigned_int 10 ∷ []))) [])
      ∷ run (call 30 3 (expr.LibraryFunction 5) (expr.AddressOf log_lock ∷ []))
      ∷ run (call 40 4 (expr.LibraryFunction 8) (expr.ArrayPointer (place.Text 68 7) ∷ []))
      ∷ run (call 50 5 (expr.LibraryFunction 6) (expr.AddressOf log_lock ∷ []))
      ∷ stmt.Return (Some expr.Null)
      ∷ [];
}

-- a[i] += f(x);
abbrev element_plus_call : Stmt
element_plus_call = run (expr.Compound (place.Element (expr.ArrayPointer (local 0 (array_of Int 5))) (value 5 Int) Left 1 Int) (update.Arithmetic Add Signed)
    (call 8 1 (function 0) (value 6 Int ∷ [])))

-- (c ? g : h)();
abbrev chosen_call : Stmt
chosen_call = run (call 0 1 (expr.Conditional (value 0 Int) (expr.FunctionPointer (function 1)) (expr.FunctionPointer (function 2))) [])

-- static char *names[2] = { "ab", "c" };
abbrev strings : Stmt
strings = stmt.Variable (record {
  place = 0;
  storage = Static 1;
  kind = array_of (pointer_to Char) 2;
  initializer =
      init.List (init.Value Bare (expr.ArrayPointer (place.Text 3 3)) ∷ init.Value Bare (expr.ArrayPointer (place.Text 6 2)) ∷ []) 0;
})

-- pairs[1].second = 2;
abbrev structure_in_an_array : Stmt
structure_in_an_array =
    run (expr.Assign (place.Member (place.Element (expr.ArrayPointer (local 0 (array_of (Struct 0) 4))) (int 1) Left 2 (Struct 0)) 1 Int) (int 2))

-- c += 1; and c = c + 1; of a char
abbrev compound_char : Stmt
compound_char = run (expr.Compound (local 0 Char) (update.Arithmetic Add Signed) (int 1))

abbrev assigned_char : Stmt
assigned_char = run (expr.Assign (local 0 Char) (expr.Convert cause.Implicit Char
    (expr.Binary (binary.Arithmetic Add Signed) (expr.Convert cause.Implicit Int (value 0 Char)) (int 1))))

-- f()(), whose calls have one place, and f(g()), whose calls have two
abbrev call_of_a_call : Body
call_of_a_call = record { items = run (call 0 2 (call 0 1 (function 0) []) []) ∷ run (call 9 3 (function 0) (call 11 4 (function 1) [] ∷ [])) ∷ [] }

-- The nodes of each.
nodes_of : definition_nodes 2 ring_pop ∷ definition_nodes 3 process ∷ definition_nodes 1 fill ∷ stmt_nodes element_plus_call ∷ stmt_nodes chosen_call
    ∷ stmt_nodes strings ∷ stmt_nodes structure_in_an_array ∷ stmt_nodes compound_char ∷ stmt_nodes assigned_char ∷ []
    ≡ 36 ∷ 44 ∷ 48 ∷ 9 ∷ 8 ∷ 8 ∷ 8 ∷ 6 ∷ 8 ∷ []
unfolding stmt_nodes initializer_nodes nodes place_type hidden hidden-the_row-Expr-0 shape-the_row-Expr-0 hidden-the_row-Place-1 shape-the_row-Place-1 hidden-the_row-Expr-2 shape-the_row-Expr-2 hidden-the_row-Stmt-0 shape-the_row-Stmt-0 hidden-the_row-Stmt-1 shape-the_row-Stmt-1 hidden-the_row-Initializer-0 shape-the_row-Initializer-0
nodes_of = refl

-- Their places, the inner one first.
places_of_process : places process ≡ Calls 10 1 (Named 0) ∷ Calls 20 2 (Named 2) ∷ Calls 25 3 (Row 10) ∷ []
unfolding places stmt_spots initializer_spots spots type_of callee_of hidden hidden-the_row-Expr-0 shape-the_row-Expr-0 hidden-the_row-Place-1 shape-the_row-Place-1 hidden-the_row-Expr-2 shape-the_row-Expr-2 hidden-the_row-Stmt-0 shape-the_row-Stmt-0 hidden-the_row-Stmt-1 shape-the_row-Stmt-1 hidden-the_row-Initializer-0 shape-the_row-Initializer-0
places_of_process = refl

abbrev site_numbers : List Spot → List ℕ
site_numbers [] = []
site_numbers (Calls at number callee ∷ rest) = number ∷ site_numbers rest
site_numbers (_ ∷ rest) = site_numbers rest

sites_of_calls : site_numbers (places call_of_a_call) ≡ 1 ∷ 2 ∷ 3 ∷ 4 ∷ []
unfolding places stmt_spots initializer_spots spots type_of callee_of hidden hidden-the_row-Expr-0 shape-the_row-Expr-0 hidden-the_row-Place-1 shape-the_row-Place-1 hidden-the_row-Expr-2 shape-the_row-Expr-2 hidden-the_row-Stmt-0 shape-the_row-Stmt-0 hidden-the_row-Stmt-1 shape-the_row-Stmt-1 hidden-the_row-Initializer-0 shape-the_row-Initializer-0
sites_of_calls = refl

-- The frame of `process`: three parameters and three variables.
frame_of_process : frame_of [] (ring ∷ pointer_to Int ∷ Int ∷ []) process
    ≡ object 0 1 ∷ object 1 1 ∷ object 2 1 ∷ object 3 1 ∷ object 4 1 ∷ object 5 1 ∷ []
unfolding automatics words_of hidden hidden-the_row-Expr-0 shape-the_row-Expr-0 hidden-the_row-Place-1 shape-the_row-Place-1 hidden-the_row-Expr-2 shape-the_row-Expr-2 hidden-the_row-Stmt-0 shape-the_row-Stmt-0 hidden-the_row-Stmt-1 shape-the_row-Stmt-1 hidden-the_row-Initializer-0 shape-the_row-Initializer-0
frame_of_process = refl

-- struct { int samples[64]; unsigned head; unsigned tail; }
abbrev samples_member : MemberInfo
samples_member = record { name = codes "samples"; kind = array_of Int 64 }

abbrev head_member : MemberInfo
head_member = record { name = codes "head"; kind = Unsigned }

abbrev tail_member : MemberInfo
tail_member = record { name = codes "tail"; kind = Unsigned }

abbrev ring_members : List MemberInfo
ring_members = samples_member ∷ head_member ∷ tail_member ∷ []

abbrev ring_info : StructInfo
ring_info = record { tag = None; members = Some ring_members; words = 66 }

ring_is_sized : IsSized (ring_info ∷ []) ring_info
unfolding words_of IsWithin
ring_is_sized = (
  refl,
  All-cons (IsSizedMember (ring_info ∷ [])) samples_member (head_member ∷ tail_member ∷ []) (record { within = tt; some = omega arith })
      (All-cons (IsSizedMember (ring_info ∷ [])) head_member (tail_member ∷ []) (record { within = tt; some = omega arith })
      (All-cons (IsSizedMember (ring_info ∷ [])) tail_member [] (record { within = tt; some = omega arith }) (All-nil (IsSizedMember (ring_info ∷ []))))),
)

abbrev tables : Tables
tables = record { functions = []; structures = ring_info ∷ []; statics = []; thread_locals = []; frame = object 0 1 ∷ object 1 1 ∷ [] }

-- r->head = r->head + 1; is typed.
pointer_is_typed : IsTyped tables (value 0 ring)
unfolding IsTyped IsWithin words_of place_type hidden hidden-the_row-Expr-0 shape-the_row-Expr-0 hidden-the_row-Place-1 shape-the_row-Place-1 hidden-the_row-Expr-2 shape-the_row-Expr-2 hidden-the_row-Stmt-0 shape-the_row-Stmt-0 hidden-the_row-Stmt-1 shape-the_row-Stmt-1 hidden-the_row-Initializer-0 shape-the_row-Initializer-0
pointer_is_typed = (
  record {
    within = omega arith;
    words = 1;
    there = record { index = 0; object = object 0 1; known = refl; begins = refl; long = refl; some = omega arith };
    long = λ sized. refl;
  },
  refl,
)

head_is_typed : IsTypedPlace tables (member 64 Unsigned)
unfolding IsTyped words_of place_type points_to hidden hidden-the_row-Expr-0 shape-the_row-Expr-0 hidden-the_row-Place-1 shape-the_row-Place-1 hidden-the_row-Expr-2 shape-the_row-Expr-2 hidden-the_row-Stmt-0 shape-the_row-Stmt-0 hidden-the_row-Stmt-1 shape-the_row-Stmt-1 hidden-the_row-Initializer-0 shape-the_row-Initializer-0
head_is_typed = (
  (pointer_is_typed, refl),
  record {
    number = 0;
    info = ring_info;
    members = ring_members;
    index = 1;
    member = head_member;
    structure = refl;
    known = refl;
    complete = refl;
    there = refl;
    kind = refl;
    after = refl;
  },
)

step_is_typed : IsTypedStmt tables Int false (stmt.Expression (expr.Assign (member 64 Unsigned) (expr.Binary (binary.Arithmetic Add Without) head (unsigned_int 1))))
unfolding IsTypedStmt IsTyped IsWithin words_of place_type same hidden hidden-the_row-Expr-0 shape-the_row-Expr-0 hidden-the_row-Place-1 shape-the_row-Place-1 hidden-the_row-Expr-2 shape-the_row-Expr-2 hidden-the_row-Stmt-0 shape-the_row-Stmt-0 hidden-the_row-Stmt-1 shape-the_row-Stmt-1 hidden-the_row-Initializer-0 shape-the_row-Initializer-0
step_is_typed = ((head_is_typed, refl, ((head_is_typed, refl), (omega arith, tt, refl), (refl, refl)), refl), refl)

-- What is converted without a cast, by one, and as a null pointer constant.
without_a_cast : is_conversion cause.Implicit Char Int ∷ is_conversion cause.Implicit Int Int ∷ is_conversion cause.Implicit (pointer_to Int) (pointer_to Void)
    ∷ is_conversion cause.Implicit (pointer_to Int) (pointer_to Char) ∷ is_conversion cause.Implicit Int Void ∷ []
    ≡ true ∷ false ∷ true ∷ false ∷ false ∷ []
unfolding same points_to
without_a_cast = refl

by_a_cast : is_conversion cause.Cast Int Int ∷ is_conversion cause.Cast (pointer_to Int) (pointer_to (Struct 0)) ∷ is_conversion cause.Cast Int (pointer_to Int)
    ∷ is_conversion cause.Cast Int Void ∷ []
    ≡ true ∷ true ∷ false ∷ false ∷ []
unfolding same points_to
by_a_cast = refl

of_null : is_conversion cause.Null Int (pointer_to Int) ∷ is_conversion cause.Null (pointer_to Void) (pointer_to (a_type.Function (takes Int [])))
    ∷ is_conversion cause.Null (pointer_to Void) (pointer_to Int) ∷ is_conversion cause.Null Int Int ∷ []
    ≡ true ∷ true ∷ false ∷ false ∷ []
unfolding same points_to
of_null = refl
