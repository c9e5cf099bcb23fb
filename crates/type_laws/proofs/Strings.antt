-- Strings are objects of static storage, and `sizeof` counts words.
use Rattle.std.proofs.Common.{◌≡◌, ℕ, zero, suc, ◌<◌, ◌+◌, ◌^◌, Bool, true, false, refl, sym, ap, subst, List, [], ◌∷◌, ◌++◌, length, slice_get, Option, None, arith}
use denote.Hole.Carrier.{hidden}
use Rattle.c_tree.specs.declared.words.Span.{Span}
use Rattle.eff_types.specs.Types.{is_function}
use Rattle.eff_types.specs.declared.types.CType.{CType, Void, Char, Int, Unsigned, Mutex, Struct, Pointer', Array', Function', end_of-CType, more_of-CType}
use Rattle.core_unit.specs.Layout.{LaidOut, told, words_of}
use Rattle.core_unit.specs.Shapes.{array_of}
use Rattle.core_unit.specs.Typed.{Tables, IsObject, is_arrow}
use Rattle.core_unit.proofs.Equations.{place_type-Text, type_of-Sizeof}
use Rattle.core_unit.specs.declared.expressions.Expr.TheBlock.{hidden-the_row-Expr-0, shape-the_row-Expr-0, hidden-the_row-Place-1, shape-the_row-Place-1, hidden-the_row-Expr-2, shape-the_row-Expr-2}
use Rattle.core_unit.specs.declared.expressions.Expr.TheVariants as expr
use Rattle.core_unit.specs.declared.expressions.Place.TheVariants as object
use Rattle.core_unit.specs.declared.operators.Sign.TheVariants.{Unsigned as Without}
use Rattle.core_unit.specs.declared.tables.Object.{Object}
use Rattle.type_rules.specs.Access.{size, size_of_expression, size_of_type, unevaluated}
use Rattle.type_rules.specs.Literals.{text_in}
use Rattle.type_rules.specs.Primaries.{holds_initially, string_object, text_found, text, first_place}
use Rattle.type_rules.specs.Reading.{Read, Good, Bad, and_then}
use Rattle.type_rules.specs.Seen.{Seen}
use Rattle.type_rules.specs.Sizes.{size_of, known_size}
use Rattle.type_rules.specs.Types.{is_incomplete}
use Rattle.type_rules.specs.declared.found.Form.{Form}
use Rattle.type_rules.specs.declared.found.Form.TheVariants.{Lvalue, Value}
use Rattle.type_rules.specs.declared.found.Found.{Found}
use Rattle.type_laws.proofs.Accessing.{object_keeps}
use Rattle.type_laws.proofs.Formed.{IsFormed, stay_same}
use Rattle.type_laws.proofs.Literals.{IsType, Nothing}
use Rattle.type_laws.proofs.Each.{each_joined}
use Rattle.type_laws.proofs.Objects.{static_and_none}
use Rattle.type_laws.proofs.Texts.{text_bytes}
use Rattle.type_laws.proofs.Valued.{IsValue, text_valued}
use Rattle.type_laws.proofs.Operands.{IsFound, IsTypedFound, FormIsTyped}
use Rattle.type_laws.proofs.Operations.{number_keeps}
use Rattle.type_laws.proofs.Lists.{get_before, get_last}
use Rattle.type_laws.proofs.Triples.{Each, AreLaidOut, Triple, Keeps, Always, Lawful, then_keeps, refused_keeps}
use Rattle.type_laws.proofs.Typed as typed

-- one object more
pub laid_out_more : (first last words : ℕ) (objects : List Object) (variable : Option ℕ) → LaidOut first objects last → 0 < words
    → LaidOut first (objects ++ record { at = last; words = words; variable = variable } ∷ []) (last + words)
laid_out_more first last words [] variable laid some = (sym laid, some, ap (λ n. n + words) laid)
laid_out_more first last words (o ∷ os) variable laid some = (laid.0, laid.1, laid_out_more (first + o.words) last words os variable laid.2 some)

pub stand_more : (words n : ℕ) (objects : List Object) (variable : Option ℕ) → AreLaidOut 1 objects words → 0 < n
    → AreLaidOut 1 (objects ++ record { at = words + 1; words = n; variable = variable } ∷ []) (told (words + n))
stand_more words n objects variable stand some few =
    let here : LaidOut 1 objects (words + 1) = subst (λ last. LaidOut 1 objects last) (omega arith) (stand (omega arith)) in
    let last : words + 1 + n ≡ 1 + told (words + n) = omega arith in
    subst (λ last. LaidOut 1 (objects ++ record { at = words + 1; words = n; variable = variable } ∷ []) last) last
    (laid_out_more 1 (words + 1) n objects variable here some)

-- an object of so many words, with what it holds at first
pub object_kept : (pre : Tables → Type 0) (s : Seen) (bytes : List ℕ) → Each (λ byte. byte < 256) bytes → Lawful s
    → Triple pre (λ address t. Unit {0}) (λ address u. IsObject u.statics address (length bytes + 1)) s (string_object bytes s)
unfolding string_object holds_initially and_then
object_kept pre s bytes each lawful = record {
  holds = record {
    lawful = record {
      bytes = lawful.bytes;
      scoped = lawful.scoped;
      entities = lawful.entities;
      functions_formed = lawful.functions_formed;
      open_are_empty = lawful.open_are_empty;
      complete_have_words = lawful.complete_have_words;
      members_lawful = lawful.members_lawful;
      sized = lawful.sized;
      few = lawful.few;
      threads_stand = lawful.threads_stand;
      tags_lawful = lawful.tags_lawful;
      ranked = lawful.ranked;
      variables_solid = lawful.variables_solid;
      objects_known = static_and_none s.structures s.variables s.statics s.thread_locals lawful.objects_known (s.static_words + 1) (length bytes + 1);
      whole_fits = lawful.whole_fits;
      statics_stand = stand_more s.static_words (length bytes + 1) s.statics None lawful.statics_stand (omega arith);
    };
    stay = stay_same s.structures;
    known = tt;
    outer = refl;
    back = λ u leads. record {
      named = leads.named;
      stay = leads.stay;
      begin = λ i x e. leads.begin i x (get_before s.statics _ i x e);
      thread_begin = leads.thread_begin;
    };
    begun = λ k begun. begun;
    calm = record {
      whole_is = refl;
      functions_are = refl;
      definitions_are = refl;
      variables_are = refl;
      thread_locals_are = refl;
      thread_words_are = refl;
      thread_values_are = refl;
      values_kept = λ u h. each_joined (λ i. IsValue u i.word) s.static_values _ h (text_valued u (s.static_words + 1) bytes each);
      frame_is = refl;
      result_is = refl;
    };
    here = λ n e is. is;
    old = λ n t' storage k is. is;
    tables = λ u leads knows p. (
      knows,
      record {
        index = length s.statics;
        object = record { at = s.static_words + 1; words = length bytes + 1; variable = None };
        known = leads.begin (length s.statics) _ (get_last s.statics _);
        begins = refl;
        long = refl;
        some = omega arith;
      },
    );
  };
}

text_formed : (s : Seen) (n : ℕ) → IsFormed s.structures (array_of Char (n + 1))
unfolding IsFormed words_of
text_formed s n = (tt, omega arith)

text_not_arrow : (at words : ℕ) → is_arrow (object.Text at words) ≡ false
unfolding hidden hidden-the_row-Expr-0 shape-the_row-Expr-0 hidden-the_row-Place-1 shape-the_row-Place-1 hidden-the_row-Expr-2 shape-the_row-Expr-2
text_not_arrow at words = refl

pub found_as : (called : Bool) (s : Seen) (r : Read Found) → Triple Always IsFound (IsTypedFound false) s r → Triple Always IsFound (IsTypedFound called) s r
found_as false s r h = h
found_as true s (Bad n p) h = record { holds = tt }
found_as true s (Good f t) h = record {
  holds = record {
    lawful = h.holds.lawful;
    stay = h.holds.stay;
    known = h.holds.known;
    outer = h.holds.outer;
    back = h.holds.back;
    begun = h.holds.begun;
    calm = h.holds.calm;
    here = h.holds.here;
    old = h.holds.old;
    tables = λ u leads knows p. let old = h.holds.tables u leads knows p in (old.0, of f.form u old.1);
  };
}
  where
    of : (form : Form) (u : Tables) → FormIsTyped false u form → FormIsTyped true u form
    of (Lvalue p) u h = h
    of (Value e) u h = typed.callee_of_typed u e h

pub text_keeps : (strings : List Span) → Keeps Always IsFound (IsTypedFound false) (text strings)
unfolding text text_found and_then
text_keeps strings s lawful =
    then_keeps s (string_object (text_in s.source strings) s) _ (object_kept Always s (text_in s.source strings) (text_bytes s.source strings lawful.bytes) lawful) (λ address t t_lawful t_stay known.
    let n = length (text_in s.source strings) in
    object_keeps _ t (first_place strings) (array_of Char (n + 1)) (object.Text address (n + 1)) t_lawful (text_formed t n)
    (place_type-Text address (n + 1)) refl (text_not_arrow address (n + 1)) (λ u leads p. typed.typed-Text u address (n + 1) p.1))

-- `sizeof`
known_fits : (sizes : List ℕ) (k : ℕ) → Each (λ words. words < 2 ^ 32) sizes → known_size (slice_get sizes k) < 2 ^ 32
known_fits [] k each = omega arith
known_fits (w ∷ ws) zero each = each.0
known_fits (w ∷ ws) (suc k) each = known_fits ws k each.1

size_fits : (sizes : List ℕ) (t : CType) → Each (λ words. words < 2 ^ 32) sizes → size_of sizes t < 2 ^ 32
unfolding size_of
size_fits sizes Void each = omega arith
size_fits sizes (Function' _ _ _ _ _) each = omega arith
size_fits sizes (Array' _ (more_of-CType t end_of-CType) n) each = omega arith
size_fits sizes (Struct k) each = known_fits sizes k each
size_fits sizes Char each = omega arith
size_fits sizes Int each = omega arith
size_fits sizes Unsigned each = omega arith
size_fits sizes Mutex each = omega arith
size_fits sizes (Pointer' _ t) each = omega arith

size_keeps : (pre : Tables → Type 0) (s : Seen) (place : ℕ) (t : CType) → Lawful s → Triple pre IsFound (IsTypedFound false) s (size place t s)
unfolding size and_then
size_keeps pre s place t lawful =
    refused_keeps s (is_function t) 3 place _ (λ e.
    refused_keeps s (is_incomplete s.structures t) 10 place _ (λ f.
    number_keeps pre s place Without (expr.Sizeof (size_of s.sizes t)) lawful (type_of-Sizeof (size_of s.sizes t)) (λ u leads p.
    typed.typed-Sizeof u (size_of s.sizes t) (size_fits s.sizes t lawful.few))))

unevaluated_keeps : {A : Type 0} (K : A → Seen → Type 0) (P : A → Tables → Type 0) (rule : Seen → Read A) → ((a : A) (t : Seen) (n : ℕ) → K a t → K a (record t { sites = n }))
    → Keeps Always K P rule → Keeps Always K P (unevaluated rule)
unfolding unevaluated and_then
unevaluated_keeps {A = A} K P rule same keeps s lawful = of (rule s) (keeps s lawful)
  where
    of : (r : Read A) → Triple Always K P s r → Triple Always K P s (and_then r (λ a t. Good a (record t { sites = s.sites })))
    of (Bad n p) h = record { holds = tt }
    of (Good a t) h = record {
      holds = record {
        lawful = h.holds.lawful;
        stay = h.holds.stay;
        known = same a t s.sites h.holds.known;
        outer = h.holds.outer;
        back = h.holds.back;
        begun = h.holds.begun;
        calm = h.holds.calm;
        here = h.holds.here;
        old = h.holds.old;
        tables = h.holds.tables;
      };
    }

pub sizes_of_expressions_keep : (place : ℕ) (expression : Seen → Read Found) → Keeps Always IsFound (IsTypedFound false) expression
    → Keeps Always IsFound (IsTypedFound false) (size_of_expression place expression)
unfolding size_of_expression and_then
sizes_of_expressions_keep place expression keeps s lawful =
    then_keeps s (unevaluated expression s) _ (unevaluated_keeps IsFound (IsTypedFound false) expression (λ f t n known. known) keeps s lawful) (λ f t t_lawful t_stay known.
    size_keeps _ t place f.kind t_lawful)

pub sizes_of_types_keep : (place : ℕ) (name : Seen → Read CType) → Keeps Always IsType Nothing name → Keeps Always IsFound (IsTypedFound false) (size_of_type place name)
unfolding size_of_type and_then
sizes_of_types_keep place name keeps s lawful =
    then_keeps s (unevaluated name s) _ (unevaluated_keeps IsType Nothing name (λ t v n known. known) keeps s lawful) (λ t v v_lawful v_stay known. size_keeps _ v place t v_lawful)
