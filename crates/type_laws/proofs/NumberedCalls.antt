-- Calls, casts, names and constants: the spots of a call are those of its callee, those of its arguments, and then its own.
use Rattle.std.proofs.Common.{◌≡◌, ℕ, ◌+◌, ◌≤◌, Bool, true, false, refl, sym, ◌∙◌, ap, subst, List, [], ◌∷◌, ◌++◌, length, slice_get, Option, Some, None, arith, eqb-true, append_assoc}
use Rattle.std.proofs.lemmas.List.{append-nil}
use Rattle.std.specs.Prelude.{not, ◌==◌, if◌then◌else◌}
use Rattle.eff_types.specs.Conversion.{conversion}
use Rattle.eff_types.specs.Types.{is_function}
use Rattle.eff_types.specs.declared.types.CType.{CType, Void, Char, Int}
use Rattle.eff_types.specs.declared.types.FnType.{FnType}
use Rattle.c_tree.specs.declared.words.Span.{Span}
use Rattle.core_unit.proofs.Equations.{place_spots-Variable, place_spots-Text, spots-Number, spots-Null, spots-Function, spots-LibraryFunction, spots-Call, spots-Discard}
use Rattle.core_unit.specs.Places.{Spot, Callee, Calls, Uses, callee as called_at, spots, arguments_spots}
use Rattle.core_unit.specs.Shapes.{pointer_to, array_of, number_type}
use Rattle.core_unit.specs.Typing.{called_as}
use Rattle.core_unit.specs.declared.expressions.Expr.{Expr}
use Rattle.core_unit.specs.declared.expressions.Expr.TheVariants as expr
use Rattle.core_unit.specs.declared.expressions.Place.TheVariants as object
use Rattle.core_unit.specs.declared.expressions.Storage.{Storage}
use Rattle.core_unit.specs.declared.expressions.Storage.TheVariants.{Automatic, Static, ThreadLocal}
use Rattle.core_unit.specs.declared.operators.Cause.TheVariants as cause
use Rattle.core_unit.specs.declared.operators.Sign.TheVariants.{Signed}
use Rattle.type_rules.specs.Calls.{callee_in, callee, passed, called_by, call, fresh}
use Rattle.type_rules.specs.Constants.{is_null_constant}
use Rattle.type_rules.specs.Conversions.{converted_by, converted, cast_to, cast}
use Rattle.type_rules.specs.Expressions.{with_argument}
use Rattle.type_rules.specs.Functions.{function_type, kind_at}
use Rattle.type_rules.specs.Literals.{number_in, character_in, text_in}
use Rattle.type_rules.specs.Operands.{operand, operand_of, as_value, is_whole, found_object, found_value}
use Rattle.type_rules.specs.Primaries.{named, name, number, character, holds_initially, string_object, first_place, text_found, text, parenthesised}
use Rattle.type_rules.specs.Reading.{Read, Good, and_then, name_number}
use Rattle.type_rules.specs.Seen.{Seen}
use Rattle.type_rules.specs.declared.found.Form.{Form}
use Rattle.type_rules.specs.declared.found.Form.TheVariants.{Lvalue, Value}
use Rattle.type_rules.specs.declared.found.Found.{Found}
use Rattle.type_rules.specs.declared.found.Operand.{Operand}
use Rattle.type_rules.specs.declared.names.Entity.{Entity}
use Rattle.type_rules.specs.declared.names.Entity.TheVariants.{Variable, Function, TypeName, Enumerator, Library, NullPointer, MutexInitializer}
use Rattle.type_laws.proofs.Numbered.{Reads, IsIdle, then_reads, gives_reads, fails_reads, refused_reads, reads_as, form_spots, found_spots, operand_spots, given_spots, value_found, object_found, moved}
use Rattle.type_laws.proofs.NumberedOperators.{ReadsFrom, IsSame, as_value_spots, operand_reads, by_reads, converted_reads}
use Rattle.type_laws.proofs.Progress.{Progress, progress, RunAt, SpineAt, run_of_spine_at}
use Rattle.type_laws.proofs.SpotsJoined.{spots_join}
use Rattle.type_laws.proofs.Types.{not_refused}

-- what is called
callee_value : (place : ℕ) (kind : CType) (e : Expr) (function : Bool) (o : Operand) → operand_spots o ≡ spots e []
    → operand_spots (if function then operand_of place kind e else o) ≡ spots e []
callee_value place kind e true o is = refl
callee_value place kind e false o is = is

callee_spots : (f : Found) (form : Form) → f.form ≡ form → operand_spots (callee_in f.place f.kind form f) ≡ found_spots f
unfolding callee_in
callee_spots f (Lvalue p) e = as_value_spots f
callee_spots f (Value node) e =
    let same : spots node [] ≡ found_spots f = ap form_spots (sym e) in
    callee_value f.place f.kind node (is_function f.kind) (as_value f) (as_value_spots f ∙ sym same) ∙ same

callee_reads : (P : List Spot → Progress → Type 0) (rule : Seen → Read Found) (s : Seen) → Reads found_spots P (rule s) → Reads operand_spots P (callee rule s)
unfolding callee and_then
callee_reads P rule s h =
    then_reads (rule s) _ h (λ f t p.
    refused_reads t (is_whole f.kind) 3 f.place _ (λ e.
    gives_reads t (callee_in f.place f.kind f.form f) (subst (λ xs. P xs (progress t)) (sym (callee_spots f f.form refl)) p)))

-- arguments
abbrev passed_spots : List Expr → List Spot
passed_spots es = arguments_spots es []

passed_reads : (ts : List CType) (os : List Operand) (s : Seen) → length ts ≡ length os → Reads passed_spots (IsSame (given_spots os) (progress s)) (passed ts os s)
unfolding passed and_then
passed_reads [] [] s alike = gives_reads s [] (refl, refl)
passed_reads [] (o ∷ os) s alike = absurd (omega arith)
passed_reads (t ∷ ts) [] s alike = absurd (omega arith)
passed_reads (t ∷ ts) (o ∷ os) s alike =
    then_reads (converted t o s) _ (converted_reads t o s) (λ v w x.
    then_reads (passed ts os w) _ (passed_reads ts os w (omega arith)) (λ vs u y.
    gives_reads u (v.node ∷ vs) (
      spots_join v.node (passed_spots vs) ∙ (ap (λ zs. zs ++ passed_spots vs) x.0 ∙ ap (λ zs. operand_spots o ++ zs) y.0),
      y.1 ∙ x.1,
    )))

call_spots : (place site : ℕ) (f : Expr) (es : List Expr) (xs ys : List Spot) → spots f [] ≡ xs → passed_spots es ≡ ys
    → spots (expr.Call place site f es) [] ≡ (xs ++ ys) ++ Calls place site (called_at f) ∷ []
call_spots place site f es xs ys p q =
    let own : List Spot = Calls place site (called_at f) ∷ [] in
    spots-Call [] place site f es ∙ (spots_join f (arguments_spots es own) ∙ (ap (λ zs. spots f [] ++ zs) (arguments_join es own)
    ∙ (ap (λ zs. zs ++ (passed_spots es ++ own)) p ∙ (ap (λ zs. xs ++ (zs ++ own)) q ∙ sym (append_assoc xs ys own)))))
  where
    arguments_join : (es : List Expr) (rest : List Spot) → arguments_spots es rest ≡ passed_spots es ++ rest
    arguments_join [] rest = refl
    arguments_join (e ∷ es) rest =
        ap (spots e) (arguments_join es rest) ∙ (spots_join e (passed_spots es ++ rest)
        ∙ (sym (append_assoc (spots e []) (passed_spots es) rest) ∙ ap (λ zs. zs ++ rest) (sym (spots_join e (passed_spots es)))))

module _ (R : List Spot → Progress → Type 0) where
  called_reads : (s : Seen) (place site : ℕ) (f : Expr) (given : List Operand) (found : Option FnType)
      → R ((spots f [] ++ given_spots given) ++ Calls place site (called_at f) ∷ []) (progress s) → Reads found_spots R (called_by place site f given found s)
  unfolding and_then
  called_reads s place site f given None p = fails_reads 3 place
  called_reads s place site f given (Some t) p =
      refused_reads s (not (length t.params == length given)) 5 place _ (λ r.
      let alike : length t.params ≡ length given = eqb-true (length t.params) (length given) (not_refused (length t.params == length given) r) in
      then_reads (passed t.params given s) _ (passed_reads t.params given s alike) (λ es u x.
      value_found u place t.result (expr.Call place site f es) ((spots f [] ++ given_spots given) ++ Calls place site (called_at f) ∷ [])
      (call_spots place site f es (spots f []) (given_spots given) refl x.0)
      (moved R ((spots f [] ++ given_spots given) ++ Calls place site (called_at f) ∷ []) (progress s) (progress u) x.1 p)))

module _ (P : List Spot → Progress → Type 0) (Q : Progress → List Spot → Progress → Type 0) (R : List Spot → Progress → Type 0) (place site : ℕ)
    (joined : (xs ys : List Spot) (m l : Progress) (c : Callee) → P xs m → Q m ys l → R ((xs ++ ys) ++ Calls place site c ∷ []) l) where
  pub calls_read : (function : Seen → Read Found) (arguments : Seen → Read (List Operand)) (s : Seen) → Reads found_spots P (function s) → ReadsFrom given_spots Q arguments
      → Reads found_spots R (call place site function arguments s)
  unfolding call and_then
  calls_read function arguments s p q =
      then_reads (callee function s) _ (callee_reads P function s p) (λ f t x.
      then_reads (arguments t) _ (q t) (λ given v y.
      called_reads R v place site f.node given (called_as f.node f.kind) (joined (operand_spots f) (given_spots given) (progress t) (progress v) (called_at f.node) x y)))

-- One argument more stands behind those that were read, of which `xs` are the spots.
pub record IsMore (before : List Spot) (Q : List Spot → Progress → Type 0) (xs : List Spot) (m : Progress) : Type 0 where
  pub more : List Spot
  pub is : xs ≡ before ++ more
  pub holds : Q more m

pub given_more : (given : List Operand) (o : Operand) → given_spots (given ++ o ∷ []) ≡ given_spots given ++ operand_spots o
given_more [] o = append-nil (operand_spots o)
given_more (x ∷ xs) o = ap (λ ys. operand_spots x ++ ys) (given_more xs o) ∙ sym (append_assoc (operand_spots x) (given_spots xs) (operand_spots o))

module _ (P : List Spot → Progress → Type 0) (Q : Progress → List Spot → Progress → Type 0) (R : List Spot → Progress → Type 0) (joined : (xs ys : List Spot) (m l : Progress) → P xs m → Q m ys l → R (xs ++ ys) l) where
  pub argument_reads : (given : List Operand) (expression : Seen → Read Found) (rest : List Operand → Seen → Read (List Operand)) (s : Seen)
      → Reads found_spots P (expression s) → ((all : List Operand) (t : Seen) → Reads given_spots (IsMore (given_spots all) (Q (progress t))) (rest all t))
      → Reads given_spots (IsMore (given_spots given) R) (with_argument given expression rest s)
  unfolding with_argument and_then
  argument_reads given expression rest s p q =
      then_reads (operand expression s) _ (operand_reads P expression s p) (λ o t x.
      reads_as (rest (given ++ o ∷ []) t) (q (given ++ o ∷ []) t) (λ all m y. record {
        more = operand_spots o ++ y.more;
        is = y.is ∙ (ap (λ zs. zs ++ y.more) (given_more given o) ∙ append_assoc (given_spots given) (operand_spots o) y.more);
        holds = joined (operand_spots o) y.more (progress t) m x y.holds;
      }))

-- An expression that begins where none around it does takes the next numbers.
pub fresh_reads : (stands : ℕ → ℕ → Type 0) (calls : ℕ) (expression : ℕ → Seen → Read Found)
    → ((first : ℕ) (t : Seen) → first + calls ≤ t.sites → Reads found_spots (SpineAt stands first calls (progress t)) (expression first t))
    → ReadsFrom found_spots (RunAt stands) (fresh calls expression)
unfolding fresh
fresh_reads stands calls expression reads s =
    reads_as (expression s.sites (record s { sites = s.sites + calls })) (reads s.sites (record s { sites = s.sites + calls }) (omega arith)) (λ f m h.
    run_of_spine_at stands calls (progress s) (found_spots f) m h)

-- casts
module _ (P : List Spot → Progress → Type 0) where
  as_another : (s : Seen) (place : ℕ) (to : CType) (o : Operand) → P (operand_spots o) (progress s)
      → Reads found_spots P (and_then (converted_by cause.Cast place to o (conversion o.kind to (is_null_constant o) true) s) (λ c t. Good (found_value place to c.node) t))
  unfolding and_then
  as_another s place to o p =
      then_reads (converted_by cause.Cast place to o (conversion o.kind to (is_null_constant o) true) s) _
      (by_reads cause.Cast place to o s (conversion o.kind to (is_null_constant o) true)) (λ c t x.
      value_found t place to c.node (operand_spots o) x.0 (moved P (operand_spots o) (progress s) (progress t) x.1 p))

  cast_to_reads : (s : Seen) (place : ℕ) (to : CType) (o : Operand) → P (operand_spots o) (progress s) → Reads found_spots P (cast_to place to o s)
  cast_to_reads s place Void o p = value_found s place Void (expr.Discard o.node) (operand_spots o) (spots-Discard [] o.node) p
  cast_to_reads s place to o p = as_another s place to o p

module _ (Q : Progress → List Spot → Progress → Type 0) where
  pub casts_read : (place : ℕ) (type_name : Seen → Read CType) (expression : Seen → Read Found) (s : Seen) → IsIdle (progress s) (type_name s) → ReadsFrom found_spots Q expression
      → Reads found_spots (Q (progress s)) (cast place type_name expression s)
  unfolding cast and_then
  casts_read place type_name expression s idle q =
      then_reads (type_name s) _ idle (λ to t e.
      then_reads (operand expression t) _ (operand_reads (Q (progress s)) expression t (subst (λ n. Reads found_spots (Q n) (expression t)) e (q t))) (λ o v x.
      cast_to_reads (Q (progress s)) v place to o x))

-- Names and constants call nothing.
module _ (P : List Spot → Progress → Type 0) where
  variable_found : (s : Seen) (at : ℕ) (storage : Storage) (t : CType) → P [] (progress s) → ((place : ℕ) → P (Uses place ∷ []) (progress s))
      → Reads found_spots P (Good (found_object at t (object.Variable at storage t)) s)
  variable_found s at (Automatic offset) t p q = object_found s at t (object.Variable at (Automatic offset) t) [] (place_spots-Variable [] at (Automatic offset) t) p
  variable_found s at (Static address) t p q = object_found s at t (object.Variable at (Static address) t) [] (place_spots-Variable [] at (Static address) t) p
  variable_found s at (ThreadLocal offset) t p q =
      object_found s at t (object.Variable at (ThreadLocal offset) t) (Uses at ∷ []) (place_spots-Variable [] at (ThreadLocal offset) t) (q at)

  named_reads : (called : Bool) (at : ℕ) (entity : Option Entity) (s : Seen) → P [] (progress s) → ((place : ℕ) → P (Uses place ∷ []) (progress s))
      → Reads found_spots P (named called at entity s)
  unfolding function_type and_then
  named_reads called at None s p q = fails_reads 1 at
  named_reads called at (Some (Variable t storage number)) s p q = variable_found s at storage t p q
  named_reads called at (Some (Function number)) s p q =
      let t = kind_at s.whole number (slice_get s.functions number) in value_found s at t (expr.Function number t) [] (spots-Function [] number t) p
  named_reads called at (Some (TypeName t)) s p q = fails_reads 1 at
  named_reads called at (Some (Enumerator bits)) s p q = value_found s at Int (expr.Number Signed bits) [] (spots-Number [] Signed bits) p
  named_reads true at (Some (Library row)) s p q = value_found s at Void (expr.LibraryFunction row) [] (spots-LibraryFunction [] row) p
  named_reads false at (Some (Library row)) s p q = fails_reads 11 at
  named_reads called at (Some NullPointer) s p q = value_found s at (pointer_to Void) expr.Null [] (spots-Null []) p
  named_reads called at (Some MutexInitializer) s p q = fails_reads 9 at

  pub name_reads : (called : Bool) (at : Span) (s : Seen) → P [] (progress s) → ((place : ℕ) → P (Uses place ∷ []) (progress s)) → Reads found_spots P (name called at s)
  unfolding name name_number and_then
  name_reads called at s p q = named_reads called at.start _ _ p q

  pub number_reads : (at : Span) (s : Seen) → P [] (progress s) → Reads found_spots P (number at s)
  unfolding number
  number_reads at s p =
      let l = number_in s.source at in value_found s at.start (number_type l.sign) (expr.Number l.sign l.bits) [] (spots-Number [] l.sign l.bits) p

  pub character_reads : (at : Span) (s : Seen) → P [] (progress s) → Reads found_spots P (character at s)
  unfolding character
  character_reads at s p =
      let bits = character_in s.source at in value_found s at.start Int (expr.Number Signed bits) [] (spots-Number [] Signed bits) p

pub string_idle : (bytes : List ℕ) (s : Seen) → IsIdle (progress s) (string_object bytes s)
unfolding string_object holds_initially and_then
string_idle bytes s = record { holds = refl }

module _ (P : List Spot → Progress → Type 0) where
  text_found_reads : (at : ℕ) (bytes : List ℕ) (s : Seen) → P [] (progress s) → Reads found_spots P (text_found at bytes s)
  unfolding text_found and_then
  text_found_reads at bytes s p =
      then_reads (string_object bytes s) _ (string_idle bytes s) (λ address t e.
      object_found t at (array_of Char (length bytes + 1)) (object.Text address (length bytes + 1)) [] (place_spots-Text [] address (length bytes + 1)) (moved P [] (progress s) (progress t) e p))

  pub text_reads : (strings : List Span) (s : Seen) → P [] (progress s) → Reads found_spots P (text strings s)
  unfolding text
  text_reads strings s p = text_found_reads (first_place strings) (text_in s.source strings) s p

  pub parenthesised_reads : (place : ℕ) (expression : Seen → Read Found) (s : Seen) → Reads found_spots P (expression s) → Reads found_spots P (parenthesised place expression s)
  unfolding parenthesised and_then
  parenthesised_reads place expression s p =
      then_reads (expression s) _ p (λ f t x.
      gives_reads t (record f { place = place }) (subst (λ xs. P xs (progress t)) (same_form f (record f { place = place }) refl) x))
    where
      same_form : (f g : Found) → f.form ≡ g.form → found_spots f ≡ found_spots g
      same_form f g e = ap form_spots e
