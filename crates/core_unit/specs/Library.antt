-- The functions of the library that a unit may call (C17 7.22 and 7.21, POSIX, and Clang's manual 'RealtimeSanitizer'), in the order of
-- their rows. Their types have no effects; `size_t` and `pthread_t` are `unsigned int` here.
use Rattle.std.specs.Prelude.{ℕ, Bool, true, false, codes, List, [], ◌∷◌, map, Option, slice_get}
use Prim.Native.String.{String}
use Rattle.eff_types.specs.Effects.{plain}
use Rattle.eff_types.specs.declared.types.FnType.{FnType}
use Rattle.eff_types.specs.declared.types.CType.{CType, Void, Char, Int, Unsigned, Mutex}
use Rattle.eff_types.specs.declared.types.CType.TheVariants.{Function}
use Rattle.core_unit.specs.Shapes.{pointer_to}
use Rattle.core_unit.specs.declared.rows.LibRow.{LibRow}
use Rattle.core_unit.specs.declared.signatures.LibType.{LibType}
use Rattle.core_unit.specs.declared.signatures.LibType.TheVariants as lib
use Rattle.core_unit.specs.declared.signatures.Signature.{Signature}

abbrev pub takes : CType → List CType → FnType
takes result params = record { result = result; params = params; effects = plain }

abbrev pub void_pointer : CType
void_pointer = pointer_to Void

-- `void *(void *)`, what a thread begins with
abbrev pub thread_start : CType
thread_start = Function (takes void_pointer (void_pointer ∷ []))

-- the types of the code's signatures
abbrev pub made : LibType → CType
made lib.Void = Void
made lib.Int = Int
made lib.Unsigned = Unsigned
made lib.VoidPointer = void_pointer
made lib.CharPointer = pointer_to Char
made lib.UnsignedPointer = pointer_to Unsigned
made lib.MutexPointer = pointer_to Mutex
made lib.VoidPointerPointer = pointer_to void_pointer
made lib.ThreadStart = pointer_to thread_start

abbrev pub signed : Signature → FnType
signed s = takes (made s.result) (map made s.params.now)

abbrev pub row_types : List FnType
row_types =
    takes void_pointer (Unsigned ∷ [])  -- malloc
    ∷ takes void_pointer (Unsigned ∷ Unsigned ∷ [])  -- calloc
    ∷ takes Void (void_pointer ∷ [])  -- free
    ∷ takes Int (pointer_to Unsigned ∷ void_pointer ∷ pointer_to thread_start ∷ void_pointer ∷ [])  -- pthread_create
    ∷ takes Int (Unsigned ∷ pointer_to void_pointer ∷ [])  -- pthread_join
    ∷ takes Int (pointer_to Mutex ∷ [])  -- pthread_mutex_lock
    ∷ takes Int (pointer_to Mutex ∷ [])  -- pthread_mutex_unlock
    ∷ takes Int (Unsigned ∷ [])  -- usleep
    ∷ takes Int (pointer_to Char ∷ [])  -- puts
    ∷ takes Int (Int ∷ [])  -- putchar
    ∷ takes Int (Int ∷ [])  -- abs
    ∷ takes Void []  -- __rtsan_disable
    ∷ takes Void []  -- __rtsan_enable
    ∷ takes Void (Int ∷ [])  -- exit
    ∷ takes Void []  -- abort
    ∷ []

-- the type of the function of a row, which counts from 0
unfoldable pub row_type : ℕ → Option FnType
row_type row = slice_get row_types row

-- what the analysis and the detector know of a library function
pub record Row : Type 0 where
  pub name : List ℕ
  pub nonblocking_safe : Bool
  pub nonallocating_safe : Bool
  pub intercepted : Bool
  pub noreturn : Bool

-- what a row of the code says
abbrev pub seen : LibRow → Row
seen r = record {
  name = r.name.now;
  nonblocking_safe = r.nonblocking_safe;
  nonallocating_safe = r.nonallocating_safe;
  intercepted = r.intercepted;
  noreturn = r.noreturn;
}

-- a function that blocks or allocates and that the detector intercepts
abbrev pub unsafe : String → Row
unsafe name = record { name = codes name; nonblocking_safe = false; nonallocating_safe = false; intercepted = true; noreturn = false }

-- one that may be called in each context
abbrev pub safe : String → Row
safe name = record { name = codes name; nonblocking_safe = true; nonallocating_safe = true; intercepted = false; noreturn = false }

-- one that ends the thread
abbrev pub ending : String → Row
ending name = record { name = codes name; nonblocking_safe = false; nonallocating_safe = false; intercepted = false; noreturn = true }

-- the library table
abbrev pub rows : List Row
rows =
    unsafe "malloc" ∷
    unsafe "calloc" ∷
    unsafe "free" ∷
    unsafe "pthread_create" ∷
    unsafe "pthread_join" ∷
    unsafe "pthread_mutex_lock" ∷
    unsafe "pthread_mutex_unlock" ∷
    unsafe "usleep" ∷
    unsafe "puts" ∷
    unsafe "putchar" ∷
    safe "abs" ∷
    safe "__rtsan_disable" ∷
    safe "__rtsan_enable" ∷
    ending "exit" ∷
    ending "abort" ∷
    []
