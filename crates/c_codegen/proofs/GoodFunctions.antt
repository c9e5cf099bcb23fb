-- Code of block variables, statements and functions that lies as told is code.
use Rattle.std.proofs.Common.{◌≡◌, refl, ap, ◌∙◌, subst, ℕ, zero, suc, ◌+◌, ◌*◌, ◌^◌, ◌≤◌, Bool, true, false, List, [], ◌∷◌, ◌++◌, map, replicate, length, Option, Some, None, arith, slice_get, length-append}
use Rattle.std.proofs.lemmas.Bool.{eqb-true}
use Rattle.core_unit.specs.Layout.{words_of, LaidOut, told}
use Rattle.core_unit.specs.Places.{Spot, spots, optional_spots, initializer_spots, initializers_spots, stmt_spots, stmts_spots, list_spots, body_spots}
use Rattle.core_unit.specs.Shapes.{is_scalar, is_unsized}
use Rattle.core_unit.specs.Stores.{stores, all_stores, Stored, Value as StoredValue, Byte, Zero as StoredZero, Undefined as StoredUndefined}
use Rattle.core_unit.specs.Typed.{Tables, IsTyped, IsInitializer, AreInitializers, IsTypedStmt, AreTypedStmts, ListIsTyped, IsCondition, IsEvaluated, IsOptional, IsKept, IsObject}
use Rattle.core_unit.specs.Units.{IsUnit, IsDefinition, tables_of}
use Rattle.core_unit.specs.declared.body.Body.{Body}
use Rattle.core_unit.specs.declared.body.Initializer as init
use Rattle.core_unit.specs.declared.body.Initializer.{Initializer, Row_of-Initializer, end_of-Initializer, more_of-Initializer}
use Rattle.core_unit.specs.declared.body.LoopKind.TheVariants as loop_kind
use Rattle.core_unit.specs.declared.body.Stmt as stmt
use Rattle.core_unit.specs.declared.body.Stmt.{Stmt, Row_of-Stmt, end_of-Stmt, more_of-Stmt}
use Rattle.core_unit.specs.declared.expressions.Expr.{Expr}
use Rattle.core_unit.specs.declared.expressions.Storage.{Storage}
use Rattle.core_unit.specs.declared.expressions.Storage.TheVariants.{Automatic, Static, ThreadLocal}
use Rattle.core_unit.specs.declared.tables.FunctionInfo.{FunctionInfo}
use Rattle.core_unit.specs.declared.tables.Object.{Object}
use Rattle.core_unit.specs.declared.tables.StructInfo.{StructInfo}
use Rattle.core_unit.specs.declared.tables.UnitParts.{UnitParts}
use Rattle.eff_types.specs.declared.types.CType.{CType, Void, Char, Int, Unsigned, Mutex, Struct, Pointer', Array', Function', end_of-CType, more_of-CType}
use Rattle.mcode.specs.Machine.{Program}
use Rattle.mcode.specs.declared.code.Instruction.TheVariants as i
use Rattle.c_codegen.specs.Lies.{IsRun, IsText, Filled, nothing, value, words, characters, VariableLies, Branches, TestLies, OptionalLies, Stands, AllStand, ListStands, Binds, Meets, FunctionLies}
use Rattle.c_codegen.proofs.Good.{Good, good_self, good_then, good_one, lands_on, lands_back, AreLow, value_good}
use Rattle.c_codegen.proofs.Sites.{AreLowSpots, IsSited, behind, behind_optional, behind_declared, behind_initializer, behind_statement, behind_statements}

-- each expression that is stored is typed, and its calls have low sites
abbrev pub AreStored : Tables → List Stored → Type 0
AreStored t [] = Unit {0}
AreStored t (StoredValue e ∷ stored) = IsTyped t e × IsSited e × AreStored t stored
AreStored t (Byte byte ∷ stored) = AreStored t stored
AreStored t (StoredZero ∷ stored) = AreStored t stored
AreStored t (StoredUndefined ∷ stored) = AreStored t stored

stored_append : (t : Tables) (a b : List Stored) → AreStored t a → AreStored t b → AreStored t (a ++ b)
stored_append t [] b p q = q
stored_append t (StoredValue e ∷ a) b p q = (p.0, p.1, stored_append t a b p.2 q)
stored_append t (Byte byte ∷ a) b p q = stored_append t a b p q
stored_append t (StoredZero ∷ a) b p q = stored_append t a b p q
stored_append t (StoredUndefined ∷ a) b p q = stored_append t a b p q

stored_zeros : (t : Tables) (count : ℕ) → AreStored t (replicate count StoredZero)
stored_zeros t zero = tt
stored_zeros t (suc count) = stored_zeros t count

stored_undefined : (t : Tables) (count : ℕ) → AreStored t (replicate count StoredUndefined)
stored_undefined t zero = tt
stored_undefined t (suc count) = stored_undefined t count

stored_bytes : (t : Tables) (bytes : List ℕ) → AreStored t (map Byte bytes)
stored_bytes t [] = tt
stored_bytes t (byte ∷ bytes) = stored_bytes t bytes

mutual
  unfolding stores IsInitializer initializer_spots

  pub stored_typed : (t : Tables) (v : CType) (x : Initializer) (rest : List Spot) → IsInitializer t v x → AreLowSpots (initializer_spots x rest) → AreStored t (stores x)
  stored_typed t v (init.Absent count) rest h m = stored_undefined t count
  stored_typed t v (init.Value round e) rest h m = (h.0, (rest, m), tt)
  stored_typed t v (init.List' s inits zeros) rest h m =
      stored_append t (all_stores inits) (replicate zeros StoredZero) (all_stored t _ inits rest h.2 m) (stored_zeros t zeros)
  stored_typed t v (init.Text bytes zeros) rest h m = stored_append t (map Byte bytes) (replicate zeros StoredZero) (stored_bytes t bytes) (stored_zeros t zeros)
  stored_typed t v (init.Zeros count) rest h m = stored_zeros t count
  stored_typed t v init.Mutex rest h m = tt

  all_stored : {n : _} (t : Tables) (vs : List CType) (xs : Row_of-Initializer n) (rest : List Spot) → AreInitializers t vs xs → AreLowSpots (initializers_spots xs rest) → AreStored t (all_stores xs)
  all_stored t vs end_of-Initializer rest h m = tt
  all_stored t (v ∷ vs) (more_of-Initializer x xs) rest h m =
      stored_append t (stores x) (all_stores xs) (stored_typed t v x (initializers_spots xs rest) h.0 m)
      (all_stored t vs xs rest h.2 (behind_initializer x (initializers_spots xs rest) m))
  all_stored t [] (more_of-Initializer x xs) rest h m = absurd h

-- No more words are stored than the object has.

length_replicate : {A : Type 0} (count : ℕ) (x : A) → length (replicate count x) ≡ count
length_replicate zero x = refl
length_replicate (suc count) x = ap suc (length_replicate count x)

length_map : {A B : Type 0} (f : A → B) (l : List A) → length (map f l) ≡ length l
length_map f [] = refl
length_map f (x ∷ l) = ap suc (length_map f l)

scalar_words : (structures : List StructInfo) (v : CType) → is_scalar v ≡ true → words_of structures v ≡ 1
unfolding words_of
scalar_words structures Char h = refl
scalar_words structures Int h = refl
scalar_words structures Unsigned h = refl
scalar_words structures (Pointer' _ v) h = refl
scalar_words structures Void h = let clash : ⊥ = cc in absurd clash
scalar_words structures Mutex h = let clash : ⊥ = cc in absurd clash
scalar_words structures (Struct k) h = let clash : ⊥ = cc in absurd clash
scalar_words structures (Array' _ v n) h = let clash : ⊥ = cc in absurd clash
scalar_words structures (Function' _ r _ ps e) h = let clash : ⊥ = cc in absurd clash

pub stores_low : (t : Tables) (v : CType) (x : Initializer) (n : ℕ) → IsInitializer t v x → words_of t.structures v ≤ n → n ≤ 2 ^ 20 → length (stores x) ≤ n
unfolding stores IsInitializer words_of
stores_low t v (init.Absent count) n h low small = omega (arith, low, h, length_replicate count StoredUndefined)
stores_low t v (init.Value round e) n h low small = omega (arith, low, scalar_words t.structures v h.2)
stores_low t v (init.List' s inits zeros) n h low small = omega (arith, low, h.3)
stores_low t v (init.Text bytes zeros) n h low small =
    let words : words_of t.structures v ≡ told ((length bytes + zeros) * 1) = ap (words_of t.structures) h.0 in
    omega (arith, low, small, words, length-append (map Byte bytes) (replicate zeros StoredZero), length_map Byte bytes, length_replicate zeros StoredZero)
stores_low t v (init.Zeros count) n h low small = omega (arith, low, h, length_replicate count StoredZero)
stores_low t v init.Mutex n h low small = omega (arith, low, ap (words_of t.structures) h)

told_none : (n : ℕ) → told (0 * n) ≡ 0
told_none n = omega arith

unsized_none : (structures : List StructInfo) (v : CType) → is_unsized v ≡ true → words_of structures v ≡ 0
unfolding words_of
unsized_none structures (Array' _ (more_of-CType v end_of-CType) n) h =
    let none : n ≡ 0 = eqb-true n 0 h in
    ap (λ k. told (k * words_of structures v)) none ∙ told_none (words_of structures v)
unsized_none structures Char h = let clash : ⊥ = cc in absurd clash
unsized_none structures Int h = let clash : ⊥ = cc in absurd clash
unsized_none structures Unsigned h = let clash : ⊥ = cc in absurd clash
unsized_none structures (Pointer' _ v) h = let clash : ⊥ = cc in absurd clash
unsized_none structures Void h = let clash : ⊥ = cc in absurd clash
unsized_none structures Mutex h = let clash : ⊥ = cc in absurd clash
unsized_none structures (Struct k) h = let clash : ⊥ = cc in absurd clash
unsized_none structures (Function' _ r _ ps e) h = let clash : ⊥ = cc in absurd clash

pub kept_words : (structures : List StructInfo) (v : CType) (n : ℕ) → (is_unsized v ≡ false → n ≡ words_of structures v) → (b : Bool) → is_unsized v ≡ b → words_of structures v ≤ n
kept_words structures v n long true e = omega (arith, unsized_none structures v e)
kept_words structures v n long false e = omega (arith, long e)

-- what comes behind a run of words or characters
run_left : (t : Tables) (raw count : ℕ) (stored others : List Stored) → IsRun raw count stored others → AreStored t stored → (length stored ≡ count + length others) × AreStored t others
run_left t raw zero stored others is h = (omega (arith, ap length is), subst (AreStored t) is h)
run_left t raw (suc count) [] others is h = absurd is
run_left t raw (suc count) (StoredValue e ∷ stored) others is h = let first = is.0 in let clash : ⊥ = cc in absurd clash
run_left t raw (suc count) (Byte byte ∷ stored) others is h = let rest = run_left t raw count stored others is.1 h in (omega (arith, rest.0), rest.1)
run_left t raw (suc count) (StoredZero ∷ stored) others is h = let rest = run_left t raw count stored others is.1 h in (omega (arith, rest.0), rest.1)
run_left t raw (suc count) (StoredUndefined ∷ stored) others is h = let rest = run_left t raw count stored others is.1 h in (omega (arith, rest.0), rest.1)

text_left : (t : Tables) (texts : List ℕ) (at count : ℕ) (stored others : List Stored) → IsText texts at count stored others → AreStored t stored → (length stored ≡ count + length others) × AreStored t others
text_left t texts at zero stored others is h = (omega (arith, ap length is), subst (AreStored t) is h)
text_left t texts at (suc count) [] others is h = absurd is
text_left t texts at (suc count) (StoredValue e ∷ stored) others is h = let first = is.0 in let clash : ⊥ = cc in absurd clash
text_left t texts at (suc count) (Byte byte ∷ stored) others is h = let rest = text_left t texts (suc at) count stored others is.1 h in (omega (arith, rest.0), rest.1)
text_left t texts at (suc count) (StoredZero ∷ stored) others is h = let rest = text_left t texts (suc at) count stored others is.1 h in (omega (arith, rest.0), rest.1)
text_left t texts at (suc count) (StoredUndefined ∷ stored) others is h = let rest = text_left t texts (suc at) count stored others is.1 h in (omega (arith, rest.0), rest.1)

-- the objects of a list that is laid out end where it does
laid_on : (first last : ℕ) (os : List Object) → LaidOut first os last → first ≤ last
laid_on first last [] h = omega (arith, h)
laid_on first last (o ∷ os) h = let rest = laid_on (first + o.words) last os h.2 in omega (arith, rest)

pub laid_low : (first last : ℕ) (os : List Object) (index : ℕ) (o : Object) → LaidOut first os last → slice_get os index ≡ Some o → o.at + o.words ≤ last
laid_low first last [] index o h is = let clash : ⊥ = cc in absurd clash
laid_low first last (x ∷ os) zero o h is =
    let same : x ≡ o = cc in let rest = laid_on (first + x.words) last os h.2 in
    subst (λ (y : Object). y.at + y.words ≤ last) same (omega (arith, rest, h.0))
laid_low first last (x ∷ os) (suc index) o h is = laid_low (first + x.words) last os index o h.2 is

pub object_low : (last : ℕ) (os : List Object) (at n : ℕ) → LaidOut 0 os last → last ≤ 2 ^ 20 → IsObject os at n → at + n ≤ 2 ^ 20
object_low last os at n h small o = omega (arith, laid_low 0 last os o.index o.object h o.known, o.begins, o.long, small)

module _ (u : UnitParts) (c : Program) (t : Tables) (low : AreLow t) where
  filled_good : (offset : ℕ) (stored : List Stored) (from to : ℕ) → Filled u c offset stored from to → offset + length stored ≤ 2 ^ 20 → AreStored t stored → Good c from to
  filled_good _ _ _ _ (nothing offset at) small h = good_self c at at refl
  filled_good _ _ _ _ (value offset e stored from p q to l put filled) small h =
      good_then c from p to (value_good u c t low e from p h.0 h.1 l) (good_then c p q to (good_one c _ p q put tt (omega (arith, small)))
      (filled_good (suc offset) stored q to filled (omega (arith, small)) h.2))
  filled_good _ _ _ _ (words offset raw count stored others from p to fill is filled) small h =
      let left = run_left t raw count stored others is h in
      good_then c from p to (good_one c _ from p fill tt (omega (arith, small))) (filled_good (offset + count) others p to filled (omega (arith, small, left.0)) left.1)
  filled_good _ _ _ _ (characters offset at count stored others from p to fits fill is filled) small h =
      let left = text_left t c.texts at count stored others is h in
      good_then c from p to (good_one c _ from p fill tt (omega (arith, small), fits)) (filled_good (offset + count) others p to filled (omega (arith, small, left.0)) left.1)

  variable_good : (storage : Storage) (v : CType) (x : Initializer) (rest : List Spot) (from to : ℕ) → IsKept t storage v → IsInitializer t v x → AreLowSpots (initializer_spots x rest) →
      VariableLies u c storage x from to → Good c from to
  variable_good (Automatic offset) v x rest from to kept h m l =
      let fits = low.frame offset kept.words kept.there in
      let few = stores_low t v x kept.words h (kept_words t.structures v kept.words kept.long (is_unsized v) refl) (omega (arith, fits)) in
      filled_good offset (stores x) from to l (omega (arith, fits, few)) (stored_typed t v x rest h m)
  variable_good (Static address) v x rest from to kept h m l = good_self c from to l
  variable_good (ThreadLocal offset) v x rest from to kept h m l = good_self c from to l

  test_good : (e : Option Expr) (rest : List Spot) (decision out from to : ℕ) → IsOptional (IsCondition t) e → AreLowSpots (optional_spots e rest) →
      TestLies u c e decision out from to → to ≤ out → Good c from to
  test_good None rest decision out from to h m l on = good_self c from to l
  test_good (Some e) rest decision out from to h m l on =
      good_then c from decision to (value_good u c t low e from decision h.0 (rest, m) l.0)
      (good_one c (i.GoIfZero out) decision to l.1 (lands_on c decision out (omega (arith, on, l.1.1))) tt)

  step_good : (e : Option Expr) (rest : List Spot) (from to : ℕ) → IsOptional (IsEvaluated t) e → AreLowSpots (optional_spots e rest) → OptionalLies u c e from to → Good c from to
  step_good None rest from to h m l = good_self c from to l
  step_good (Some e) rest from to h m l = value_good u c t low e from to h.0 (rest, m) l

  branches_good : {n : _} (item : ℕ → ℕ → Type 0) (others : Row_of-Stmt n) (other : ℕ → ℕ → Type 0) (from to : ℕ) → ((p q : ℕ) → q ≤ to → item p q → Good c p q) →
      ((p q : ℕ) → q ≤ to → other p q → Good c p q) → Branches c item others other from to → Good c from to
  branches_good item end_of-Stmt other from to f g l =
      let part = f (suc from) to (omega arith) l.1 in
      good_then c from (suc from) to (good_one c (i.GoIfZero to) from (suc from) (l.0, refl) (lands_on c from to (omega (arith, part.0))) tt) part
  branches_good item (more_of-Stmt s ss) other from to f g l =
      let second = g (suc l.0) to (omega arith) l.4 in
      let first = f (suc from) l.0 (omega (arith, second.0)) l.2 in
      good_then c from (suc from) to (good_one c (i.GoIfZero (suc l.0)) from (suc from) (l.1, refl) (lands_on c from (suc l.0) (omega (arith, first.0))) tt)
      (good_then c (suc from) l.0 to first
      (good_then c l.0 (suc l.0) to (good_one c (i.GoTo to) l.0 (suc l.0) (l.3, refl) (lands_on c l.0 to (omega (arith, second.0))) tt) second))

  mutual
    unfolding Stands IsTypedStmt stmt_spots

    pub statement_good : (item : Stmt) (r : CType) (looped : Bool) (rest : List Spot) (out back from to : ℕ) → IsTypedStmt t r looped item → AreLowSpots (stmt_spots item rest) →
        Stands u c item out back from to → to ≤ out → to ≤ back → Good c from to
    statement_good (stmt.Block' _ items) r looped rest out back from to h m l on off = all_good items r looped rest out back from to h m l on off
    statement_good (stmt.Variable v) r looped rest out back from to h m l on off =
        variable_good v.storage v.kind v.initializer rest from to h.0 h.1 (behind_declared v.storage v.place (initializer_spots v.initializer rest) m) l
    statement_good stmt.Empty r looped rest out back from to h m l on off = good_self c from to l
    statement_good (stmt.Expression e) r looped rest out back from to h m l on off = value_good u c t low e from to h.0 (rest, m) l
    statement_good (stmt.If' e _ (more_of-Stmt item end_of-Stmt) _ other) r looped rest out back from to h m l on off =
        let others = stmts_spots other rest in
        let later = behind e (stmt_spots item others) m in
        good_then c from l.0 to (value_good u c t low e from l.0 h.0.0 (stmt_spots item others, m) l.1)
        (branches_good (Stands u c item out back) other (AllStand u c other out back) l.0 to
        (λ p q low n. statement_good item r looped others out back p q h.1 later n (omega (arith, on, low)) (omega (arith, off, low)))
        (λ p q low n. all_good other r looped rest out back p q h.2 (behind_statement item others later) n (omega (arith, on, low)) (omega (arith, off, low))) l.2)
    statement_good (stmt.Loop' loop_kind.While e _ (more_of-Stmt body end_of-Stmt)) r looped rest out back from to h m l on off =
        let parts = l.2 in
        let round = statement_good body r true rest to l.1 (suc l.0) l.1 h.1 (behind e (stmt_spots body rest) m) parts.3 (omega (arith, parts.4.1)) (omega arith) in
        good_then c from (suc from) to (good_one c i.CheckHalt from (suc from) (parts.0, refl) tt tt)
        (good_then c (suc from) l.0 to (value_good u c t low e (suc from) l.0 h.0.0 (stmt_spots body rest, m) parts.1)
        (good_then c l.0 (suc l.0) to (good_one c (i.GoIfZero to) l.0 (suc l.0) (parts.2, refl) (lands_on c l.0 to (omega (arith, round.0, parts.4.1))) tt)
        (good_then c (suc l.0) l.1 to round (good_one c (i.GoTo from) l.1 to parts.4 (lands_back c l.1 from parts.0) tt))))
    statement_good (stmt.Loop' loop_kind.DoWhile e _ (more_of-Stmt body end_of-Stmt)) r looped rest out back from to h m l on off =
        let parts = l.2 in
        let test = value_good u c t low e l.1 l.0 h.0.0 (rest, behind_statement body (spots e rest) m) parts.2 in
        let round = statement_good body r true (spots e rest) to l.1 (suc from) l.1 h.1 m parts.1 (omega (arith, test.0, parts.3.1)) (omega arith) in
        good_then c from (suc from) to (good_one c i.CheckHalt from (suc from) (parts.0, refl) tt tt)
        (good_then c (suc from) l.1 to round (good_then c l.1 l.0 to test (good_one c (i.GoIfNotZero from) l.0 to parts.3 (lands_back c l.0 from parts.0) tt)))
    statement_good (stmt.For' _ start test step _ (more_of-Stmt body end_of-Stmt)) r looped rest out back from to h m l on off =
        let top = l.0 in let again = l.2 in let parts = l.4 in let begin = parts.0 in let last = parts.1 in
        let stepped = optional_spots step rest in
        let turned = stmt_spots body stepped in
        let tested = behind_statements start (optional_spots test turned) m in
        let bodied = behind_optional test turned tested in
        let steps = step_good step rest again last h.3 (behind_statement body stepped bodied) parts.5 in
        let turn = good_one c (i.GoTo top) last to parts.6 (lands_back c last top parts.2) tt in
        let round = statement_good body r true stepped to again begin again h.4 bodied parts.4 (omega (arith, steps.0, turn.0)) (omega arith) in
        let tests = test_good test turned l.1 to (suc top) begin h.2 tested parts.3 (omega (arith, steps.0, turn.0, round.0)) in
        let starts = all_good start r false (optional_spots test turned) out back from top h.0 m l.3 (omega (arith, on, tests.0, round.0, steps.0, turn.0)) (omega (arith, off, tests.0, round.0, steps.0, turn.0)) in
        good_then c from top to starts (good_then c top (suc top) to (good_one c i.CheckHalt top (suc top) (parts.2, refl) tt tt)
        (good_then c (suc top) begin to tests (good_then c begin again to round (good_then c again last to steps turn))))
    statement_good stmt.Break r looped rest out back from to h m l on off = good_one c (i.GoTo out) from to l (lands_on c from out (omega (arith, on, l.1))) tt
    statement_good stmt.Continue r looped rest out back from to h m l on off = good_one c (i.GoTo back) from to l (lands_on c from back (omega (arith, off, l.1))) tt
    statement_good (stmt.Return (Some e)) r looped rest out back from to h m l on off =
        good_then c from l.0 to (value_good u c t low e from l.0 h.0 (rest, m) l.1) (good_one c _ l.0 to l.2 tt tt)
    statement_good (stmt.Return None) r looped rest out back from to h m l on off = good_then c from l.0 to (good_one c _ from l.0 l.1 tt tt) (good_one c _ l.0 to l.2 tt tt)

    all_good : {n : _} (items : Row_of-Stmt n) (r : CType) (looped : Bool) (rest : List Spot) (out back from to : ℕ) → AreTypedStmts t r looped items → AreLowSpots (stmts_spots items rest) →
        AllStand u c items out back from to → to ≤ out → to ≤ back → Good c from to
    all_good end_of-Stmt r looped rest out back from to h m l on off = good_self c from to l
    all_good (more_of-Stmt item items) r looped rest out back from to h m l on off =
        let later = all_good items r looped rest out back l.0 to h.1 (behind_statement item (stmts_spots items rest) m) l.2 on off in
        good_then c from l.0 to (statement_good item r looped (stmts_spots items rest) out back from l.0 h.0 m l.1 (omega (arith, on, later.0)) (omega (arith, off, later.0))) later

  list_good : (items : List Stmt) (r : CType) (looped : Bool) (rest : List Spot) (out back from to : ℕ) → ListIsTyped t r looped items → AreLowSpots (list_spots items rest) →
      ListStands u c items out back from to → to ≤ out → to ≤ back → Good c from to
  list_good [] r looped rest out back from to h m l on off = good_self c from to l
  list_good (item ∷ items) r looped rest out back from to h m l on off =
      let later = list_good items r looped rest out back l.0 to h.1 (behind_statement item (list_spots items rest) m) l.2 on off in
      good_then c from l.0 to (statement_good item r looped (list_spots items rest) out back from l.0 h.0 m l.1 (omega (arith, on, later.0)) (omega (arith, off, later.0))) later

binds_good : (c : Program) (offset : ℕ) (ts : List CType) (from to : ℕ) → offset + length ts ≤ 2 ^ 20 → Binds c offset ts from to → Good c from to
binds_good c offset [] from to small l = good_self c from to l
binds_good c offset (v ∷ ts) from to small l =
    good_then c from l.0 to (good_one c _ from l.0 l.1 tt (omega (arith, small))) (binds_good c (suc offset) ts l.0 to (omega (arith, small)) l.2)

meets_good : (c : Program) (b : Bool) (function from to : ℕ) → Meets c b function from to → Good c from to
meets_good c true function from to l = good_one c _ from to l tt tt
meets_good c false function from to l = good_self c from to l

-- the code of a function of a unit
pub function_good : (u : UnitParts) (c : Program) (function : ℕ) (f : FunctionInfo) (body : Body) (from to : ℕ) → IsUnit u → length f.kind.params ≤ 16 → IsDefinition u f body → AreLowSpots (body_spots body) →
    FunctionLies u c function f body from to → Good c from to
function_good u c function f body from to lawful few typed sited l =
    let t = tables_of u f body in
    let low : AreLow t = record {
      frame = λ offset n o. object_low f.frame_words t.frame offset n typed.frame (let small = typed.small in omega (arith, small)) o;
      region = λ offset n o. object_low (length u.thread_words) u.thread_locals offset n lawful.thread_locals (let small = lawful.few_thread_words in omega (arith, small)) o;
    } in
    good_then c from l.0 to (meets_good c f.kind.effects.no_block_inference function from l.0 l.5)
    (good_then c l.0 l.1 to (binds_good c 0 f.kind.params l.0 l.1 (omega (arith, few)) l.6)
    (good_then c l.1 l.2 to (good_one c _ l.1 l.2 l.7 tt tt)
    (good_then c l.2 l.3 to (list_good u c t low body.items f.kind.result false [] l.3 l.3 l.2 l.3 typed.typed sited l.8 (omega arith) (omega arith))
    (good_then c l.3 l.4 to (good_one c _ l.3 l.4 l.9 tt tt) (good_one c _ l.4 to l.10 tt tt)))))
