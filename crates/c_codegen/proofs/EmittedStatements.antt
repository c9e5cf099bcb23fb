-- What the compiler appends for initializers, statements and functions is their code, form by form.
use Rattle.std.proofs.Common.{◌≡◌, refl, sym, ap, ◌∙◌, subst, ℕ, zero, suc, ◌+◌, ◌<◌, ◌≤◌, true, false, List, [], ◌∷◌, ◌++◌, map, replicate, length, Option, Some, None, arith, length-append, append_assoc, slice_index}
use denote.Hole.Carrier.{hidden}
use Rattle.core_unit.specs.Shapes.{level_of}
use Rattle.core_unit.specs.Stores.{stores, all_stores, Stored, Byte, Zero as StoredZero, Undefined as StoredUndefined}
use Rattle.core_unit.specs.Typing.{type_of}
use Rattle.core_unit.specs.Words.{packed}
use Rattle.core_unit.specs.declared.body.Body.{Body}
use Rattle.core_unit.specs.declared.body.Braces.{Braces}
use Rattle.core_unit.specs.declared.body.Initializer.{Initializer}
use Rattle.core_unit.specs.declared.body.Initializer.TheBlock.{hidden-the_row-Initializer-0, shape-the_row-Initializer-0}
use Rattle.core_unit.specs.declared.body.Initializer.TheVariants as init
use Rattle.core_unit.specs.declared.body.LocalVariable.{LocalVariable}
use Rattle.core_unit.specs.declared.body.LoopKind.TheVariants as loop_kind
use Rattle.core_unit.specs.declared.body.Stmt.{Stmt}
use Rattle.core_unit.specs.declared.body.Stmt.TheBlock.{hidden-the_row-Stmt-0, shape-the_row-Stmt-0, hidden-the_row-Stmt-1, shape-the_row-Stmt-1}
use Rattle.core_unit.specs.declared.body.Stmt.TheVariants as form
use Rattle.core_unit.specs.declared.expressions.Expr.{Expr}
use Rattle.core_unit.specs.declared.expressions.Storage.TheVariants.{Automatic, Static, ThreadLocal}
use Rattle.core_unit.specs.declared.tables.FunctionInfo.{FunctionInfo}
use Rattle.core_unit.specs.declared.tables.UnitParts.{UnitParts}
use Rattle.core_unit.specs.declared.words.Word.TheVariants as word
use Rattle.eff_types.specs.declared.types.CType.{CType}
use Rattle.mcode.specs.Machine.{Program}
use Rattle.mcode.specs.declared.code.Instruction.{Instruction}
use Rattle.mcode.specs.declared.code.Instruction.TheVariants as i
use Rattle.c_codegen.specs.declared.draft.Draft.{Draft}
use Rattle.c_codegen.specs.Emits.{Emits, here, EmitsOne, EmitsValue, EmitsStatement, EmitsStatements, FillsFrom, EmitsInitializer, EmitsInitializers, listed_stores, EmitsTest, EmitsOptional, EmitsBinds, EmitsMeets, EmitsFunction}
use Rattle.c_codegen.specs.Lies.{One, word_stored, IsRun, IsText, Filled, nothing, value, words, characters, text_limit, VariableLies, Lies, TestLies, Stands, AllStand, ListStands, Binds}
use Rattle.c_codegen.specs.Sizes.{size, initializer_size, initializers_size, listed_size, variable_size, test_size, optional_size, statement_size, statements_size, list_size}
use Rattle.c_codegen.proofs.Emitted.{emits_then, emits_as, emits_none}

append_nil : {A : Type 0} (l : List A) → l ++ [] ≡ l
append_nil [] = refl
append_nil (x ∷ l) = ap (λ k. x ∷ k) (append_nil l)

-- Initializers.

run_of : (item : Stored) (raw count : ℕ) (others : List Stored) → (word_stored item ≡ Some raw) → IsRun raw count (replicate count item ++ others) others
run_of item raw zero others e = refl
run_of item raw (suc count) others e = (e, run_of item raw count others e)

length_replicate : {A : Type 0} (count : ℕ) (x : A) → length (replicate count x) ≡ count
length_replicate zero x = refl
length_replicate (suc count) x = ap suc (length_replicate count x)

length_map : {A B : Type 0} (f : A → B) (l : List A) → length (map f l) ≡ length l
length_map f [] = refl
length_map f (x ∷ l) = ap suc (length_map f l)

-- a run of words
fills_run : (u : UnitParts) (c : Program) (item : Stored) (raw offset count from to : ℕ) → word_stored item ≡ Some raw → One c (i.Fill offset raw count) from to →
    FillsFrom u c offset (replicate count item) from to
fills_run u c item raw offset count from to e one others end filled =
    words offset raw count (replicate count item ++ others) others from to end one (run_of item raw count others e)
    (subst (λ n. Filled u c (offset + n) others to end) (length_replicate count item) filled)

text_of : (texts : List ℕ) (at : ℕ) (bytes : List ℕ) (others : List Stored) → ((k : ℕ) → k < length bytes → slice_index texts (at + k) ≡ slice_index bytes k) → IsText texts at (length bytes) (map Byte bytes ++ others) others
text_of texts at [] others e = refl
text_of texts at (byte ∷ bytes) others e = (
  ap Byte (sym (ap (slice_index texts) (omega arith) ∙ e 0 (omega arith))),
  text_of texts (suc at) bytes others (λ k low. ap (slice_index texts) (omega arith) ∙ e (suc k) (omega (arith, low))),
)

-- one stretch after another
fills_then : (u : UnitParts) (c : Program) (offset : ℕ) (a b : List Stored) (from at to : ℕ) → FillsFrom u c offset a from at → FillsFrom u c (offset + length a) b at to →
    FillsFrom u c offset (a ++ b) from to
fills_then u c offset a b from at to x y others end filled =
    subst (λ l. Filled u c offset l from end) (sym (append_assoc a b others))
    (x (b ++ others) end (y others end (subst (λ n. Filled u c n others to end) (omega (arith, length-append a b)) filled)))

pub emits-Absent : (u : UnitParts) (d0 d1 : Draft) (offset count : ℕ) → EmitsOne d0 d1 (i.Fill offset (packed word.Undefined) count) → EmitsInitializer u d0 d1 offset (init.Absent count)
unfolding initializer_size stores EmitsOne EmitsValue EmitsStatement EmitsStatements EmitsInitializer EmitsInitializers EmitsTest EmitsOptional EmitsBinds EmitsMeets EmitsFunction
emits-Absent u d0 d1 offset count p0 =
    emits_as d0 d1 _ _ _ _ p0 refl (λ c q. fills_run u c StoredUndefined (packed word.Undefined) offset count (here d0) (here d1) refl q)

pub emits-Zeros : (u : UnitParts) (d0 d1 : Draft) (offset count : ℕ) → EmitsOne d0 d1 (i.Fill offset (packed word.Zero) count) → EmitsInitializer u d0 d1 offset (init.Zeros count)
unfolding initializer_size stores EmitsOne EmitsValue EmitsStatement EmitsStatements EmitsInitializer EmitsInitializers EmitsTest EmitsOptional EmitsBinds EmitsMeets EmitsFunction
emits-Zeros u d0 d1 offset count p0 =
    emits_as d0 d1 _ _ _ _ p0 refl (λ c q. fills_run u c StoredZero (packed word.Zero) offset count (here d0) (here d1) refl q)

pub emits-Mutex : (u : UnitParts) (d0 d1 : Draft) (offset : ℕ) → EmitsOne d0 d1 (i.Fill offset (packed word.Zero) 1) → EmitsInitializer u d0 d1 offset init.Mutex
unfolding initializer_size stores EmitsOne EmitsValue EmitsStatement EmitsStatements EmitsInitializer EmitsInitializers EmitsTest EmitsOptional EmitsBinds EmitsMeets EmitsFunction
emits-Mutex u d0 d1 offset p0 =
    emits_as d0 d1 _ _ _ _ p0 refl (λ c q. fills_run u c StoredZero (packed word.Zero) offset 1 (here d0) (here d1) refl q)

pub emits-Value : (u : UnitParts) (d0 d1 d2 : Draft) (offset : ℕ) (round : Braces) (e : Expr) → EmitsValue u d0 d1 e → EmitsOne d1 d2 (i.Put offset (level_of (type_of e))) →
    EmitsInitializer u d0 d2 offset (init.Value round e)
unfolding initializer_size stores EmitsOne EmitsValue EmitsStatement EmitsStatements EmitsInitializer EmitsInitializers EmitsTest EmitsOptional EmitsBinds EmitsMeets EmitsFunction
emits-Value u d0 d1 d2 offset round e p0 p1 =
    emits_as d0 d2 _ _ _ _ (emits_then d0 d1 d2 _ _ _ _ p0 p1) refl
    (λ c q others end filled. value offset e others (here d0) (here d1) (here d2) end q.0 q.1 (subst (λ n. Filled u c n others (here d2) end) (omega arith) filled))

-- initializers of a list, one more at the end
pub listed_stores_more : (is : List Initializer) (x : Initializer) → listed_stores (is ++ x ∷ []) ≡ listed_stores is ++ stores x
listed_stores_more [] x = append_nil (stores x)
listed_stores_more (y ∷ is) x = ap (λ l. stores y ++ l) (listed_stores_more is x) ∙ sym (append_assoc (stores y) (listed_stores is) (stores x))

pub listed_size_more : (is : List Initializer) (x : Initializer) → listed_size (is ++ x ∷ []) ≡ listed_size is + initializer_size x
listed_size_more [] x = omega arith
listed_size_more (y ∷ is) x = omega (arith, listed_size_more is x)

pub emits_no_initializers : (u : UnitParts) (old new : Draft) (offset : ℕ) → new ≡ old → EmitsInitializers u old new offset []
unfolding EmitsOne EmitsValue EmitsStatement EmitsStatements EmitsInitializer EmitsInitializers EmitsTest EmitsOptional EmitsBinds EmitsMeets EmitsFunction
emits_no_initializers u old new offset e =
    emits_as old new _ _ _ _ (emits_none old new e) refl
    (λ c q others end filled. subst (λ n. Filled u c offset others n end) (sym q) (subst (λ n. Filled u c n others (here new) end) (omega arith) filled))

pub emits_initializer : (u : UnitParts) (d0 d1 d2 : Draft) (offset next : ℕ) (is : List Initializer) (x : Initializer) → EmitsInitializers u d0 d1 offset is →
    next ≡ offset + length (listed_stores is) → EmitsInitializer u d1 d2 next x → EmitsInitializers u d0 d2 offset (is ++ x ∷ [])
unfolding EmitsOne EmitsValue EmitsStatement EmitsStatements EmitsInitializer EmitsInitializers EmitsTest EmitsOptional EmitsBinds EmitsMeets EmitsFunction
emits_initializer u d0 d1 d2 offset next is x p0 e p1 =
    emits_as d0 d2 _ _ _ _ (emits_then d0 d1 d2 _ _ _ _ p0 p1) (sym (listed_size_more is x))
    (λ c q. subst (λ l. FillsFrom u c offset l (here d0) (here d2)) (sym (listed_stores_more is x))
    (fills_then u c offset (listed_stores is) (stores x) (here d0) (here d1) (here d2) q.0 (subst (λ n. FillsFrom u c n (stores x) (here d1) (here d2)) e q.1)))

stores_row : (is : List Initializer) → all_stores (hidden-the_row-Initializer-0 is) ≡ listed_stores is
unfolding stores hidden hidden-the_row-Initializer-0 shape-the_row-Initializer-0
stores_row [] = refl
stores_row (x ∷ is) = ap (λ l. stores x ++ l) (stores_row is)

size_row : (is : List Initializer) → initializers_size (hidden-the_row-Initializer-0 is) ≡ listed_size is
unfolding initializer_size hidden hidden-the_row-Initializer-0 shape-the_row-Initializer-0
size_row [] = refl
size_row (x ∷ is) = ap (λ n. initializer_size x + n) (size_row is)

pub emits-List : (u : UnitParts) (d0 d1 d2 : Draft) (offset next count : ℕ) (is : List Initializer) → EmitsInitializers u d0 d1 offset is → next ≡ offset + length (listed_stores is) →
    EmitsOne d1 d2 (i.Fill next (packed word.Zero) count) → EmitsInitializer u d0 d2 offset (init.List is count)
unfolding initializer_size stores hidden hidden-the_row-Initializer-0 shape-the_row-Initializer-0 EmitsOne EmitsValue EmitsStatement EmitsStatements EmitsInitializer EmitsInitializers EmitsTest EmitsOptional EmitsBinds EmitsMeets EmitsFunction
emits-List u d0 d1 d2 offset next count is p0 e p1 =
    emits_as d0 d2 _ _ _ _ (emits_then d0 d1 d2 _ _ _ _ p0 p1) (ap (λ n. n + 1) (sym (size_row is)))
    (λ c q. subst (λ l. FillsFrom u c offset (l ++ replicate count StoredZero) (here d0) (here d2)) (sym (stores_row is))
    (fills_then u c offset (listed_stores is) (replicate count StoredZero) (here d0) (here d1) (here d2) q.0
    (subst (λ n. FillsFrom u c n (replicate count StoredZero) (here d1) (here d2)) e (fills_run u c StoredZero (packed word.Zero) next count (here d1) (here d2) refl q.1))))

-- a variable
pub emits-automatic : (u : UnitParts) (d0 d1 : Draft) (v : LocalVariable) (offset : ℕ) (out back : ℕ) → v.storage ≡ Automatic offset → EmitsInitializer u d0 d1 offset v.initializer →
    EmitsStatement u d0 d1 (form.Variable v) out back
unfolding statement_size Stands hidden hidden-the_row-Stmt-0 shape-the_row-Stmt-0 hidden-the_row-Stmt-1 shape-the_row-Stmt-1 EmitsOne EmitsValue EmitsStatement EmitsStatements EmitsInitializer EmitsInitializers EmitsTest EmitsOptional EmitsBinds EmitsMeets EmitsFunction
emits-automatic u d0 d1 v offset out back k p0 =
    emits_as d0 d1 _ _ _ _ p0 (ap (λ s. variable_size s v.initializer) (sym k))
    (λ c q. subst (λ s. VariableLies u c s v.initializer (here d0) (here d1)) (sym k)
    (subst (λ l. Filled u c offset l (here d0) (here d1)) (append_nil (stores v.initializer)) (q [] (here d1) (nothing (offset + length (stores v.initializer)) (here d1)))))

-- characters of a text, behind those that stand there
index_front : (b r : List ℕ) (k : ℕ) → k < length b → slice_index (b ++ r) k ≡ slice_index b k
index_front [] r k low = absurd (omega (arith, low))
index_front (x ∷ b) r zero low = refl
index_front (x ∷ b) r (suc k) low = index_front b r k (omega (arith, low))

index_behind : (a b r : List ℕ) (k : ℕ) → k < length b → slice_index ((a ++ b) ++ r) (length a + k) ≡ slice_index b k
index_behind [] b r k low = let same : 0 + k ≡ k = omega arith in ap (slice_index (b ++ r)) same ∙ index_front b r k low
index_behind (x ∷ a) b r k low =
    let same : suc (length a) + k ≡ suc (length a + k) = omega arith in ap (slice_index (x ∷ ((a ++ b) ++ r))) same ∙ index_behind a b r k low

abbrev TextStands : Draft → List ℕ → Program → Type 0
TextStands d bytes c = (k : ℕ) → k < length bytes → slice_index c.texts (length d.texts + k) ≡ slice_index bytes k

emits_text : (d0 d1 : Draft) (bytes : List ℕ) → d1.instructions ≡ d0.instructions → d1.texts ≡ d0.texts ++ bytes → Emits d0 d1 0 (TextStands d0 bytes)
emits_text d0 d1 bytes same e = record {
  instructions = ([], append_nil d0.instructions ∙ sym same);
  texts = (bytes, sym e);
  long = omega (arith, ap length same);
  holds = λ c begins k low.
      ap (λ l. slice_index l (length d0.texts + k)) (sym (ap (λ l. l ++ begins.texts.0) (sym e) ∙ begins.texts.1)) ∙ index_behind d0.texts bytes begins.texts.0 k low;
}

pub emits-Text : (u : UnitParts) (d0 d1 d2 d3 : Draft) (offset at next count : ℕ) (bytes : List ℕ) → d1.instructions ≡ d0.instructions → d1.texts ≡ d0.texts ++ bytes →
    EmitsOne d1 d2 (i.FillText offset at (length bytes)) → at ≡ length d0.texts → at ≤ text_limit → next ≡ offset + length bytes → EmitsOne d2 d3 (i.Fill next (packed word.Zero) count) →
    EmitsInitializer u d0 d3 offset (init.Text bytes count)
unfolding initializer_size stores EmitsOne EmitsValue EmitsStatement EmitsStatements EmitsInitializer EmitsInitializers EmitsTest EmitsOptional EmitsBinds EmitsMeets EmitsFunction
emits-Text u d0 d1 d2 d3 offset at next count bytes same e p0 there low f p1 =
    emits_as d0 d3 _ _ _ _ (emits_then d0 d1 d3 _ _ _ _ (emits_text d0 d1 bytes same e) (emits_then d1 d2 d3 _ _ _ _ p0 p1)) refl
    (λ c q. fills_then u c offset (map Byte bytes) (replicate count StoredZero) (here d0) (here d2) (here d3)
    (λ others end filled.
    characters offset at (length bytes) (map Byte bytes ++ others) others (here d0) (here d2) end low (subst (λ n. One c (i.FillText offset at (length bytes)) n (here d2)) (ap length same) q.1.0)
    (subst (λ n. IsText c.texts n (length bytes) (map Byte bytes ++ others) others) (sym there) (text_of c.texts (length d0.texts) bytes others q.0))
    (subst (λ n. Filled u c (offset + n) others (here d2) end) (length_map Byte bytes) filled))
    (subst (λ n. FillsFrom u c n (replicate count StoredZero) (here d2) (here d3)) (f ∙ ap (λ n. offset + n) (sym (length_map Byte bytes)))
    (fills_run u c StoredZero (packed word.Zero) next count (here d2) (here d3) refl q.1.1)))

-- Statements.

pub emits-static : (u : UnitParts) (d0 d1 : Draft) (v : LocalVariable) (address out back : ℕ) → v.storage ≡ Static address → d1 ≡ d0 → EmitsStatement u d0 d1 (form.Variable v) out back
unfolding statement_size Stands hidden hidden-the_row-Stmt-0 shape-the_row-Stmt-0 hidden-the_row-Stmt-1 shape-the_row-Stmt-1 EmitsOne EmitsValue EmitsStatement EmitsStatements EmitsInitializer EmitsInitializers EmitsTest EmitsOptional EmitsBinds EmitsMeets EmitsFunction
emits-static u d0 d1 v address out back k e =
    emits_as d0 d1 _ _ _ _ (emits_none d0 d1 e) (ap (λ s. variable_size s v.initializer) (sym k))
    (λ c q. subst (λ s. VariableLies u c s v.initializer (here d0) (here d1)) (sym k) q)

pub emits-thread_local : (u : UnitParts) (d0 d1 : Draft) (v : LocalVariable) (offset out back : ℕ) → v.storage ≡ ThreadLocal offset → d1 ≡ d0 → EmitsStatement u d0 d1 (form.Variable v) out back
unfolding statement_size Stands hidden hidden-the_row-Stmt-0 shape-the_row-Stmt-0 hidden-the_row-Stmt-1 shape-the_row-Stmt-1 EmitsOne EmitsValue EmitsStatement EmitsStatements EmitsInitializer EmitsInitializers EmitsTest EmitsOptional EmitsBinds EmitsMeets EmitsFunction
emits-thread_local u d0 d1 v offset out back k e =
    emits_as d0 d1 _ _ _ _ (emits_none d0 d1 e) (ap (λ s. variable_size s v.initializer) (sym k))
    (λ c q. subst (λ s. VariableLies u c s v.initializer (here d0) (here d1)) (sym k) q)

pub emits-Empty : (u : UnitParts) (d0 d1 : Draft) (out back : ℕ) → d1 ≡ d0 → EmitsStatement u d0 d1 form.Empty out back
unfolding statement_size Stands hidden hidden-the_row-Stmt-0 shape-the_row-Stmt-0 hidden-the_row-Stmt-1 shape-the_row-Stmt-1 EmitsOne EmitsValue EmitsStatement EmitsStatements EmitsInitializer EmitsInitializers EmitsTest EmitsOptional EmitsBinds EmitsMeets EmitsFunction
emits-Empty u d0 d1 out back e = emits_none d0 d1 e

pub emits-Expression : (u : UnitParts) (d0 d1 : Draft) (e : Expr) (out back : ℕ) → EmitsValue u d0 d1 e → EmitsStatement u d0 d1 (form.Expression e) out back
unfolding statement_size Stands hidden hidden-the_row-Stmt-0 shape-the_row-Stmt-0 hidden-the_row-Stmt-1 shape-the_row-Stmt-1 EmitsOne EmitsValue EmitsStatement EmitsStatements EmitsInitializer EmitsInitializers EmitsTest EmitsOptional EmitsBinds EmitsMeets EmitsFunction
emits-Expression u d0 d1 e out back p0 = p0

pub emits-Break : (u : UnitParts) (d0 d1 : Draft) (out back : ℕ) → EmitsOne d0 d1 (i.GoTo out) → EmitsStatement u d0 d1 form.Break out back
unfolding statement_size Stands hidden hidden-the_row-Stmt-0 shape-the_row-Stmt-0 hidden-the_row-Stmt-1 shape-the_row-Stmt-1 EmitsOne EmitsValue EmitsStatement EmitsStatements EmitsInitializer EmitsInitializers EmitsTest EmitsOptional EmitsBinds EmitsMeets EmitsFunction
emits-Break u d0 d1 out back p0 = p0

pub emits-Continue : (u : UnitParts) (d0 d1 : Draft) (out back : ℕ) → EmitsOne d0 d1 (i.GoTo back) → EmitsStatement u d0 d1 form.Continue out back
unfolding statement_size Stands hidden hidden-the_row-Stmt-0 shape-the_row-Stmt-0 hidden-the_row-Stmt-1 shape-the_row-Stmt-1 EmitsOne EmitsValue EmitsStatement EmitsStatements EmitsInitializer EmitsInitializers EmitsTest EmitsOptional EmitsBinds EmitsMeets EmitsFunction
emits-Continue u d0 d1 out back p0 = p0

pub emits-Return : (u : UnitParts) (d0 d1 d2 : Draft) (e : Expr) (out back : ℕ) → EmitsValue u d0 d1 e → EmitsOne d1 d2 i.LeaveFunction → EmitsStatement u d0 d2 (form.Return (Some e)) out back
unfolding statement_size Stands hidden hidden-the_row-Stmt-0 shape-the_row-Stmt-0 hidden-the_row-Stmt-1 shape-the_row-Stmt-1 EmitsOne EmitsValue EmitsStatement EmitsStatements EmitsInitializer EmitsInitializers EmitsTest EmitsOptional EmitsBinds EmitsMeets EmitsFunction
emits-Return u d0 d1 d2 e out back p0 p1 = emits_as d0 d2 _ _ _ _ (emits_then d0 d1 d2 _ _ _ _ p0 p1) refl (λ c q. (here d1, q.0, q.1))

pub emits-ReturnNothing : (u : UnitParts) (d0 d1 d2 : Draft) (out back : ℕ) → EmitsOne d0 d1 (i.SetValue word.Zero) → EmitsOne d1 d2 i.LeaveFunction → EmitsStatement u d0 d2 (form.Return None) out back
unfolding statement_size Stands hidden hidden-the_row-Stmt-0 shape-the_row-Stmt-0 hidden-the_row-Stmt-1 shape-the_row-Stmt-1 EmitsOne EmitsValue EmitsStatement EmitsStatements EmitsInitializer EmitsInitializers EmitsTest EmitsOptional EmitsBinds EmitsMeets EmitsFunction
emits-ReturnNothing u d0 d1 d2 out back p0 p1 = emits_as d0 d2 _ _ _ _ (emits_then d0 d1 d2 _ _ _ _ p0 p1) refl (λ c q. (here d1, q.0, q.1))

-- statements, one more at the end
list_stands_more : (u : UnitParts) (c : Program) (items : List Stmt) (item : Stmt) (out back from p to : ℕ) → ListStands u c items out back from p → Stands u c item out back p to →
    ListStands u c (items ++ item ∷ []) out back from to
list_stands_more u c [] item out back from p to l x = (to, subst (λ n. Stands u c item out back n to) (sym l) x, refl)
list_stands_more u c (first ∷ items) item out back from p to l x = (l.0, l.1, list_stands_more u c items item out back l.0 p to l.2 x)

pub list_size_more : (items : List Stmt) (item : Stmt) → list_size (items ++ item ∷ []) ≡ list_size items + statement_size item
list_size_more [] item = omega arith
list_size_more (first ∷ items) item = omega (arith, list_size_more items item)

pub emits_no_statements : (u : UnitParts) (old new : Draft) (out back : ℕ) → new ≡ old → EmitsStatements u old new [] out back
unfolding EmitsOne EmitsValue EmitsStatement EmitsStatements EmitsInitializer EmitsInitializers EmitsTest EmitsOptional EmitsBinds EmitsMeets EmitsFunction
emits_no_statements u old new out back e = emits_none old new e

pub emits_statement : (u : UnitParts) (d0 d1 d2 : Draft) (items : List Stmt) (item : Stmt) (out back : ℕ) → EmitsStatements u d0 d1 items out back → EmitsStatement u d1 d2 item out back →
    EmitsStatements u d0 d2 (items ++ item ∷ []) out back
unfolding EmitsOne EmitsValue EmitsStatement EmitsStatements EmitsInitializer EmitsInitializers EmitsTest EmitsOptional EmitsBinds EmitsMeets EmitsFunction
emits_statement u d0 d1 d2 items item out back p0 p1 =
    emits_as d0 d2 _ _ _ _ (emits_then d0 d1 d2 _ _ _ _ p0 p1) (sym (list_size_more items item))
    (λ c q. list_stands_more u c items item out back (here d0) (here d1) (here d2) q.0 q.1)

row_stands : (u : UnitParts) (c : Program) (items : List Stmt) (out back from to : ℕ) → ListStands u c items out back from to → AllStand u c (hidden-the_row-Stmt-0 items) out back from to
unfolding statement_size Stands hidden hidden-the_row-Stmt-0 shape-the_row-Stmt-0 hidden-the_row-Stmt-1 shape-the_row-Stmt-1
row_stands u c [] out back from to l = l
row_stands u c (item ∷ items) out back from to l = (l.0, l.1, row_stands u c items out back l.0 to l.2)

row_size : (items : List Stmt) → statements_size (hidden-the_row-Stmt-0 items) ≡ list_size items
unfolding statement_size Stands hidden hidden-the_row-Stmt-0 shape-the_row-Stmt-0 hidden-the_row-Stmt-1 shape-the_row-Stmt-1
row_size [] = refl
row_size (item ∷ items) = ap (λ n. statement_size item + n) (row_size items)

pub emits-Block : (u : UnitParts) (d0 d1 : Draft) (items : List Stmt) (out back : ℕ) → EmitsStatements u d0 d1 items out back → EmitsStatement u d0 d1 (form.Block items) out back
unfolding statement_size Stands hidden hidden-the_row-Stmt-0 shape-the_row-Stmt-0 hidden-the_row-Stmt-1 shape-the_row-Stmt-1 EmitsOne EmitsValue EmitsStatement EmitsStatements EmitsInitializer EmitsInitializers EmitsTest EmitsOptional EmitsBinds EmitsMeets EmitsFunction
emits-Block u d0 d1 items out back p0 = emits_as d0 d1 _ _ _ _ p0 (sym (row_size items)) (λ c q. row_stands u c items out back (here d0) (here d1) q)

-- a jump whose place is told in another way
jump_to : (old new : Draft) (jump : ℕ → Instruction) (place there : ℕ) → place ≡ there → EmitsOne old new (jump place) → EmitsOne old new (jump there)
unfolding EmitsOne EmitsValue EmitsStatement EmitsStatements EmitsInitializer EmitsInitializers EmitsTest EmitsOptional EmitsBinds EmitsMeets EmitsFunction
jump_to old new jump place there e p = subst (λ n. EmitsOne old new (jump n)) e p

body_to : (u : UnitParts) (old new : Draft) (item : Stmt) (out out' back back' : ℕ) → out ≡ out' → back ≡ back' → EmitsStatement u old new item out back → EmitsStatement u old new item out' back'
unfolding EmitsOne EmitsValue EmitsStatement EmitsStatements EmitsInitializer EmitsInitializers EmitsTest EmitsOptional EmitsBinds EmitsMeets EmitsFunction
body_to u old new item out out' back back' e f p = subst (λ n. EmitsStatement u old new item n back') e (subst (λ n. EmitsStatement u old new item out n) f p)

pub emits-If : (u : UnitParts) (d0 d1 d2 d3 : Draft) (e : Expr) (item : Stmt) (out back end : ℕ) → EmitsValue u d0 d1 e → EmitsOne d1 d2 (i.GoIfZero end) →
    end ≡ here d1 + statement_size item + 1 → EmitsStatement u d2 d3 item out back → EmitsStatement u d0 d3 (form.If e item []) out back
unfolding statement_size Stands hidden hidden-the_row-Stmt-0 shape-the_row-Stmt-0 hidden-the_row-Stmt-1 shape-the_row-Stmt-1 EmitsOne EmitsValue EmitsStatement EmitsStatements EmitsInitializer EmitsInitializers EmitsTest EmitsOptional EmitsBinds EmitsMeets EmitsFunction
emits-If u d0 d1 d2 d3 e item out back end p0 p1 f p2 =
    let last : end ≡ here d3 = omega (arith, f, p1.long, p2.long) in
    emits_as d0 d3 _ _ _ _ (emits_then d0 d1 d3 _ _ _ _ p0 (emits_then d1 d2 d3 _ _ _ _ (jump_to d1 d2 i.GoIfZero end (here d3) last p1) p2)) (omega arith)
    (λ c q. (here d1, q.0, (q.1.0.0, subst (λ n. Stands u c item out back n (here d3)) (sym q.1.0.1) q.1.1)))

pub emits-IfElse : (u : UnitParts) (d0 d1 d2 d3 d4 d5 : Draft) (e : Expr) (item first : Stmt) (others : List Stmt) (out back other end : ℕ) → EmitsValue u d0 d1 e →
    EmitsOne d1 d2 (i.GoIfZero other) → other ≡ here d1 + statement_size item + 2 → EmitsStatement u d2 d3 item out back → EmitsOne d3 d4 (i.GoTo end) →
    end ≡ here d1 + statement_size item + list_size (first ∷ others) + 2 → EmitsStatements u d4 d5 (first ∷ others) out back → EmitsStatement u d0 d5 (form.If e item (first ∷ others)) out back
unfolding statement_size Stands hidden hidden-the_row-Stmt-0 shape-the_row-Stmt-0 hidden-the_row-Stmt-1 shape-the_row-Stmt-1 EmitsOne EmitsValue EmitsStatement EmitsStatements EmitsInitializer EmitsInitializers EmitsTest EmitsOptional EmitsBinds EmitsMeets EmitsFunction
emits-IfElse u d0 d1 d2 d3 d4 d5 e item first others out back other end p0 p1 f p2 p3 g p4 =
    let over : other ≡ suc (here d3) = omega (arith, f, p1.long, p2.long) in
    let last : end ≡ here d5 = omega (arith, g, p1.long, p2.long, p3.long, p4.long) in
    emits_as d0 d5 _ _ _ _ (emits_then d0 d1 d5 _ _ _ _ p0 (emits_then d1 d2 d5 _ _ _ _ (jump_to d1 d2 i.GoIfZero other (suc (here d3)) over p1)
    (emits_then d2 d3 d5 _ _ _ _ p2 (emits_then d3 d4 d5 _ _ _ _ (jump_to d3 d4 i.GoTo end (here d5) last p3) p4)))) (omega (arith, row_size others))
    (λ c q. (
      here d1,
      q.0,
      (
        here d3,
        q.1.0.0,
        subst (λ n. Stands u c item out back n (here d3)) (sym q.1.0.1) q.1.1.0,
        q.1.1.1.0.0,
        row_stands u c (first ∷ others) out back (suc (here d3)) (here d5) (subst (λ n. ListStands u c (first ∷ others) out back n (here d5)) (sym q.1.1.1.0.1) q.1.1.1.1),
      ),
    ))

pub emits-While : (u : UnitParts) (d0 d1 d2 d3 d4 d5 : Draft) (e : Expr) (body : Stmt) (out back end again top : ℕ) → EmitsOne d0 d1 i.CheckHalt → EmitsValue u d1 d2 e →
    EmitsOne d2 d3 (i.GoIfZero end) → end ≡ here d0 + size e + statement_size body + 3 → EmitsStatement u d3 d4 body end again → again ≡ here d0 + size e + statement_size body + 2 →
    EmitsOne d4 d5 (i.GoTo top) → top ≡ here d0 → EmitsStatement u d0 d5 (form.Loop loop_kind.While e body) out back
unfolding statement_size Stands hidden hidden-the_row-Stmt-0 shape-the_row-Stmt-0 hidden-the_row-Stmt-1 shape-the_row-Stmt-1 EmitsOne EmitsValue EmitsStatement EmitsStatements EmitsInitializer EmitsInitializers EmitsTest EmitsOptional EmitsBinds EmitsMeets EmitsFunction
emits-While u d0 d1 d2 d3 d4 d5 e body out back end again top p0 p1 p2 f p3 g p4 h =
    let last : end ≡ here d5 = omega (arith, f, p0.long, p1.long, p2.long, p3.long, p4.long) in
    let round : again ≡ here d4 = omega (arith, g, p0.long, p1.long, p2.long, p3.long) in
    emits_as d0 d5 _ _ _ _ (emits_then d0 d1 d5 _ _ _ _ p0 (emits_then d1 d2 d5 _ _ _ _ p1 (emits_then d2 d3 d5 _ _ _ _ (jump_to d2 d3 i.GoIfZero end (here d5) last p2)
    (emits_then d3 d4 d5 _ _ _ _ (body_to u d3 d4 body end (here d5) again (here d4) last round p3) (jump_to d4 d5 i.GoTo top (here d0) h p4))))) (omega arith)
    (λ c q. (
      here d2,
      here d4,
      (
        q.0.0,
        subst (λ n. Lies u c e n (here d2)) (sym q.0.1) q.1.0,
        q.1.1.0.0,
        subst (λ n. Stands u c body (here d5) (here d4) n (here d4)) (sym q.1.1.0.1) q.1.1.1.0,
        q.1.1.1.1,
      ),
    ))

pub emits-DoWhile : (u : UnitParts) (d0 d1 d2 d3 d4 : Draft) (e : Expr) (body : Stmt) (out back end again top : ℕ) → EmitsOne d0 d1 i.CheckHalt → EmitsStatement u d1 d2 body end again →
    end ≡ here d0 + size e + statement_size body + 2 → again ≡ here d0 + statement_size body + 1 → EmitsValue u d2 d3 e → EmitsOne d3 d4 (i.GoIfNotZero top) → top ≡ here d0 →
    EmitsStatement u d0 d4 (form.Loop loop_kind.DoWhile e body) out back
unfolding statement_size Stands hidden hidden-the_row-Stmt-0 shape-the_row-Stmt-0 hidden-the_row-Stmt-1 shape-the_row-Stmt-1 EmitsOne EmitsValue EmitsStatement EmitsStatements EmitsInitializer EmitsInitializers EmitsTest EmitsOptional EmitsBinds EmitsMeets EmitsFunction
emits-DoWhile u d0 d1 d2 d3 d4 e body out back end again top p0 p1 f g p2 p3 h =
    let last : end ≡ here d4 = omega (arith, f, p0.long, p1.long, p2.long, p3.long) in
    let round : again ≡ here d2 = omega (arith, g, p0.long, p1.long) in
    emits_as d0 d4 _ _ _ _ (emits_then d0 d1 d4 _ _ _ _ p0 (emits_then d1 d2 d4 _ _ _ _ (body_to u d1 d2 body end (here d4) again (here d2) last round p1)
    (emits_then d2 d3 d4 _ _ _ _ p2 (jump_to d3 d4 i.GoIfNotZero top (here d0) h p3)))) (omega arith)
    (λ c q. (here d3, here d2, (q.0.0, subst (λ n. Stands u c body (here d4) (here d2) n (here d2)) (sym q.0.1) q.1.0, q.1.1.0, q.1.1.1)))

-- the condition of a `for`, where it has one, and what ends each turn
pub emits_no_test : (u : UnitParts) (d0 d1 : Draft) (end : ℕ) → d1 ≡ d0 → EmitsTest u d0 d1 None end
unfolding EmitsOne EmitsValue EmitsStatement EmitsStatements EmitsInitializer EmitsInitializers EmitsTest EmitsOptional EmitsBinds EmitsMeets EmitsFunction
emits_no_test u d0 d1 end e = emits_as d0 d1 _ _ _ _ (emits_none d0 d1 e) refl (λ c q. (here d0, q))

pub emits_test : (u : UnitParts) (d0 d1 d2 : Draft) (e : Expr) (end : ℕ) → EmitsValue u d0 d1 e → EmitsOne d1 d2 (i.GoIfZero end) → EmitsTest u d0 d2 (Some e) end
unfolding EmitsOne EmitsValue EmitsStatement EmitsStatements EmitsInitializer EmitsInitializers EmitsTest EmitsOptional EmitsBinds EmitsMeets EmitsFunction
emits_test u d0 d1 d2 e end p0 p1 = emits_as d0 d2 _ _ _ _ (emits_then d0 d1 d2 _ _ _ _ p0 p1) refl (λ c q. (here d1, (q.0, q.1)))

pub emits_no_step : (u : UnitParts) (d0 d1 : Draft) → d1 ≡ d0 → EmitsOptional u d0 d1 None
unfolding EmitsOne EmitsValue EmitsStatement EmitsStatements EmitsInitializer EmitsInitializers EmitsTest EmitsOptional EmitsBinds EmitsMeets EmitsFunction
emits_no_step u d0 d1 e = emits_none d0 d1 e

pub emits_step : (u : UnitParts) (d0 d1 : Draft) (e : Expr) → EmitsValue u d0 d1 e → EmitsOptional u d0 d1 (Some e)
unfolding EmitsOne EmitsValue EmitsStatement EmitsStatements EmitsInitializer EmitsInitializers EmitsTest EmitsOptional EmitsBinds EmitsMeets EmitsFunction
emits_step u d0 d1 e p0 = p0

pub emits-For : (u : UnitParts) (d0 d1 d2 d3 d4 d5 d6 : Draft) (start : List Stmt) (test step : Option Expr) (body : Stmt) (out back end again top : ℕ) →
    EmitsStatements u d0 d1 start out back → EmitsOne d1 d2 i.CheckHalt → EmitsTest u d2 d3 test end → end ≡ here d1 + test_size test + statement_size body + optional_size step + 2 →
    EmitsStatement u d3 d4 body end again → again ≡ here d1 + test_size test + statement_size body + 1 → EmitsOptional u d4 d5 step → EmitsOne d5 d6 (i.GoTo top) → top ≡ here d1 →
    EmitsStatement u d0 d6 (form.For start test step body) out back
unfolding statement_size Stands hidden hidden-the_row-Stmt-0 shape-the_row-Stmt-0 hidden-the_row-Stmt-1 shape-the_row-Stmt-1 EmitsOne EmitsValue EmitsStatement EmitsStatements EmitsInitializer EmitsInitializers EmitsTest EmitsOptional EmitsBinds EmitsMeets EmitsFunction
emits-For u d0 d1 d2 d3 d4 d5 d6 start test step body out back end again top p0 p1 p2 f p3 g p4 p5 h =
    let last : end ≡ here d6 = omega (arith, f, p1.long, p2.long, p3.long, p4.long, p5.long) in
    let round : again ≡ here d4 = omega (arith, g, p1.long, p2.long, p3.long) in
    emits_as d0 d6 _ _ _ _ (emits_then d0 d1 d6 _ _ _ _ p0 (emits_then d1 d2 d6 _ _ _ _ p1 (emits_then d2 d3 d6 _ _ _ _ (subst (EmitsTest u d2 d3 test) last p2)
    (emits_then d3 d4 d6 _ _ _ _ (body_to u d3 d4 body end (here d6) again (here d4) last round p3) (emits_then d4 d5 d6 _ _ _ _ p4 (jump_to d5 d6 i.GoTo top (here d1) h p5))))))
    (omega (arith, row_size start))
    (λ c q. (
      here d1,
      q.1.1.0.0,
      here d4,
      row_stands u c start out back (here d0) (here d1) q.0,
      (here d3, here d5, q.1.0.0, subst (λ n. TestLies u c test q.1.1.0.0 (here d6) n (here d3)) (sym q.1.0.1) q.1.1.0.1, q.1.1.1.0, q.1.1.1.1.0, q.1.1.1.1.1),
    ))

-- Functions.

pub emits_no_binds : (d0 d1 : Draft) (ts : List CType) → d1 ≡ d0 → EmitsBinds d0 d1 0 ts ts
unfolding EmitsOne EmitsValue EmitsStatement EmitsStatements EmitsInitializer EmitsInitializers EmitsTest EmitsOptional EmitsBinds EmitsMeets EmitsFunction
emits_no_binds d0 d1 ts e = emits_as d0 d1 _ _ _ _ (emits_none d0 d1 e) refl (λ c q to l. subst (λ n. Binds c 0 ts n to) (sym q) l)

pub emits_bind : (d0 d1 d2 : Draft) (count back : ℕ) (ts : List CType) (t : CType) (rest : List CType) → EmitsBinds d0 d1 count ts (t ∷ rest) → back ≡ length rest →
    EmitsOne d1 d2 (i.Bind count back (level_of t)) → EmitsBinds d0 d2 (suc count) ts rest
unfolding EmitsOne EmitsValue EmitsStatement EmitsStatements EmitsInitializer EmitsInitializers EmitsTest EmitsOptional EmitsBinds EmitsMeets EmitsFunction
emits_bind d0 d1 d2 count back ts t rest p0 e p1 =
    emits_as d0 d2 _ _ _ _ (emits_then d0 d1 d2 _ _ _ _ p0 p1) (omega arith)
    (λ c q to l. q.0 to (here d2, subst (λ n. One c (i.Bind count n (level_of t)) (here d1) (here d2)) e q.1, l))

pub emits_meets : (d0 d1 : Draft) (function : ℕ) → EmitsOne d0 d1 (i.ReachFunction function) → EmitsMeets d0 d1 true function
unfolding EmitsOne EmitsValue EmitsStatement EmitsStatements EmitsInitializer EmitsInitializers EmitsTest EmitsOptional EmitsBinds EmitsMeets EmitsFunction
emits_meets d0 d1 function p = p

pub emits_no_meets : (d0 d1 : Draft) (function : ℕ) → d1 ≡ d0 → EmitsMeets d0 d1 false function
unfolding EmitsOne EmitsValue EmitsStatement EmitsStatements EmitsInitializer EmitsInitializers EmitsTest EmitsOptional EmitsBinds EmitsMeets EmitsFunction
emits_no_meets d0 d1 function e = emits_none d0 d1 e

pub emits_function : (u : UnitParts) (d0 d1 d2 d3 d4 d5 d6 : Draft) (function : ℕ) (f : FunctionInfo) (body : Body) (end : ℕ) → EmitsMeets d0 d1 f.kind.effects.no_block_inference function →
    EmitsBinds d1 d2 (length f.kind.params) f.kind.params [] → EmitsOne d2 d3 (i.Forget (length f.kind.params)) → EmitsStatements u d3 d4 body.items end end →
    end ≡ here d3 + list_size body.items → EmitsOne d4 d5 i.FallOff → EmitsOne d5 d6 i.LeaveFunction → EmitsFunction u d0 d6 function f body
unfolding EmitsOne EmitsValue EmitsStatement EmitsStatements EmitsInitializer EmitsInitializers EmitsTest EmitsOptional EmitsBinds EmitsMeets EmitsFunction
emits_function u d0 d1 d2 d3 d4 d5 d6 function f body end p0 p1 p2 p3 e p4 p5 =
    let there : end ≡ here d4 = omega (arith, e, p3.long) in
    emits_as d0 d6 _ _ _ _ (emits_then d0 d1 d6 _ _ _ _ p0 (emits_then d1 d2 d6 _ _ _ _ p1 (emits_then d2 d3 d6 _ _ _ _ p2
    (emits_then d3 d4 d6 _ _ _ _ (subst (λ n. EmitsStatements u d3 d4 body.items n n) there p3) (emits_then d4 d5 d6 _ _ _ _ p4 p5))))) (omega arith)
    (λ c q. (here d1, here d2, here d3, here d4, here d5, q.0, q.1.0 (here d2) refl, q.1.1.0, q.1.1.1.0, q.1.1.1.1.0, q.1.1.1.1.1))
