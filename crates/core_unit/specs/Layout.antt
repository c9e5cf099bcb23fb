-- Where objects are kept, how many words they have, and what memory holds at first (this project's own rules).
use Rattle.std.specs.Prelude.{◌≡◌, ℕ, zero, suc, ◌+◌, ◌-◌, ◌*◌, ◌^◌, ◌<◌, min, List, [], ◌∷◌, ◌++◌, map, length, sum, replicate, slice_get, Option, Some, None}
use Rattle.eff_types.specs.declared.types.CType.{CType, Void, Struct, Array', Function', end_of-CType, more_of-CType}
use Rattle.core_unit.specs.declared.body.Body.{Body}
use Rattle.core_unit.specs.declared.body.Stmt as stmt
use Rattle.core_unit.specs.declared.body.Stmt.{Stmt, Row_of-Stmt, end_of-Stmt, more_of-Stmt}
use Rattle.core_unit.specs.declared.expressions.Storage.{Storage}
use Rattle.core_unit.specs.declared.expressions.Storage.TheVariants.{Automatic}
use Rattle.core_unit.specs.declared.tables.MemberInfo.{MemberInfo}
use Rattle.core_unit.specs.declared.tables.Object.{Object}
use Rattle.core_unit.specs.declared.tables.StructInfo.{StructInfo}

-- as far as 32 bits tell it
abbrev pub told : ℕ → ℕ
told n = min n (2 ^ 32 - 1)

abbrev pub struct_words : Option StructInfo → ℕ
struct_words (Some s) = s.words
struct_words None = 0

-- The words of an object of a type: one for a scalar or a mutex, those of all elements for an array, and what the table says for a structure.
unfoldable pub words_of : List StructInfo → CType → ℕ
words_of structures Void = 0
words_of structures (Function' _ _ _ _ _) = 0
words_of structures (Array' _ (more_of-CType t end_of-CType) n) = told (n * words_of structures t)
words_of structures (Struct k) = struct_words (slice_get structures k)
words_of structures _ = 1

-- of members that stand in order, each at the next word
abbrev pub members_words : List StructInfo → List MemberInfo → ℕ
members_words structures members = told (sum (map (λ m. words_of structures m.kind) members))

-- The objects stand in order from the first place on, each where the one before ends, and the last one ends at the last place. Each has words.
abbrev pub LaidOut : ℕ → List Object → ℕ → Type 0
LaidOut first [] last = first ≡ last
LaidOut first (o ∷ os) last = (o.at ≡ first) × (0 < o.words) × LaidOut (first + o.words) os last

-- an object that no variable of file scope is
abbrev pub object : ℕ → ℕ → Object
object at words = record { at = at; words = words; variable = None }

-- Parameters stand at the beginning of a frame, each with one word.
abbrev pub parameter_objects : ℕ → List CType → List Object
parameter_objects at [] = []
parameter_objects at (t ∷ ts) = object at 1 ∷ parameter_objects (at + 1) ts

abbrev pub automatic : Storage → ℕ → List Object
automatic (Automatic offset) words = object offset words ∷ []
automatic _ words = []

-- the automatic variables, in order of appearance
unfoldable mutual
  pub automatics : List StructInfo → Stmt → List Object
  automatics u (stmt.Block' _ items) = all_automatics u items
  automatics u (stmt.Variable v) = automatic v.storage (words_of u v.kind)
  automatics u (stmt.If' c _ (more_of-Stmt s end_of-Stmt) _ other) = automatics u s ++ all_automatics u other
  automatics u (stmt.Loop' kind c _ (more_of-Stmt s end_of-Stmt)) = automatics u s
  automatics u (stmt.For' _ start test step _ (more_of-Stmt s end_of-Stmt)) = all_automatics u start ++ automatics u s
  automatics u _ = []

  pub all_automatics : {n : _} → List StructInfo → Row_of-Stmt n → List Object
  all_automatics u end_of-Stmt = []
  all_automatics u (more_of-Stmt s ss) = automatics u s ++ all_automatics u ss

abbrev pub list_automatics : List StructInfo → List Stmt → List Object
list_automatics u [] = []
list_automatics u (s ∷ ss) = automatics u s ++ list_automatics u ss

-- The frame of a function: its parameters, and then its automatic variables, each with words of its own.
abbrev pub frame_of : List StructInfo → List CType → Body → List Object
frame_of u params body = parameter_objects 0 params ++ list_automatics u body.items

-- Memory is a table of 1,048,768 words. Address 0 is never used; the objects of static storage stand from address 1 on. Behind them each of 64
-- threads has a region of 1,024 words for its thread-local variables and 4,096 for its stack. Behind these is the heap, up to the halt word at
-- 2^20. The break, at the next word, is where the heap begins at first.
abbrev pub region : List ℕ → List ℕ
region thread_words = thread_words ++ replicate (5120 - length thread_words) 0

abbrev pub copies : ℕ → List ℕ → List ℕ
copies zero words = []
copies (suc n) words = words ++ copies n words

abbrev pub heap_start : ℕ → ℕ
heap_start static_words = 1 + static_words + 64 * 5120

-- what memory holds at first
unfoldable pub opening_of : List ℕ → List ℕ → List ℕ
opening_of static_words thread_words =
    let start = heap_start (length static_words) in
    (0 ∷ static_words) ++ copies 64 (region thread_words) ++ replicate (2 ^ 20 + 1 - start) 0 ++ start ∷ replicate 190 0
