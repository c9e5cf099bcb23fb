-- Calls, names, constants, strings and casts add no level but where a conversion is warned of.
use Rattle.std.proofs.Common.{◌≡◌, ℕ, Bool, true, false, refl, List, [], ◌∷◌, length, Option, Some, None, arith}
use Rattle.std.specs.Prelude.{not, nat_eq, ◌+◌, ◌==◌, ◌++◌, if◌then◌else◌, slice_get}
use denote.Hole.Carrier.{hidden}
use Rattle.scopes.specs.Scope.{found}
use Rattle.eff_types.specs.Conversion.{conversion}
use Rattle.eff_types.specs.Types.{is_function, is_number}
use Rattle.eff_types.specs.declared.types.CType.TheBlock.{hidden-the_row-CType-0, shape-the_row-CType-0}
use Rattle.eff_types.specs.declared.types.CType.{CType, Void, Char, Int, Unsigned, Mutex, Struct, Pointer', Array', Function'}
use Rattle.eff_types.specs.declared.types.FnType.{FnType}
use Rattle.eff_types.specs.declared.levels.Effects.{Effects}
use Rattle.c_tree.specs.declared.words.Span.{Span}
use Rattle.core_unit.specs.Shapes.{pointer_to}
use Rattle.core_unit.specs.Typing.{called_as}
use Rattle.core_unit.specs.declared.expressions.Expr.TheVariants as expr
use Rattle.core_unit.specs.declared.operators.Cause.TheVariants as cause
use Rattle.core_unit.specs.declared.operators.Sign.TheVariants.{Signed}
use Rattle.core_unit.specs.declared.tables.FunctionInfo.{FunctionInfo}
use Rattle.core_unit.specs.declared.words.Word.TheVariants as word
use Rattle.type_rules.specs.Calls.{fresh, callee_in, callee, passed, called_by, called, call}
use Rattle.type_rules.specs.Constants.{number_constant, is_null_constant, worth, is_known}
use Rattle.type_rules.specs.Conversions.{converted, converted_by, cast_to, cast}
use Rattle.type_rules.specs.Expressions.{with_argument}
use Rattle.type_rules.specs.Functions.{function_type, kind_at, effects_at}
use Rattle.type_rules.specs.Operands.{found_value, found_object, operand_of, operand, as_value, is_whole}
use Rattle.type_rules.specs.Literals.{text_initially, text_in}
use Rattle.type_rules.specs.Primaries.{named, name, number, character, holds_initially, string_object, text_found, text, parenthesised}
use Rattle.type_rules.specs.Reading.{Read, Good, Bad, and_then, name_number}
use Rattle.type_rules.specs.Seen.{Seen}
use Rattle.type_rules.specs.declared.found.Form.{Form}
use Rattle.type_rules.specs.declared.found.Form.TheVariants.{Lvalue, Value}
use Rattle.type_rules.specs.declared.found.Found.{Found}
use Rattle.type_rules.specs.declared.found.Operand.{Operand}
use Rattle.type_rules.specs.declared.names.Entity.{Entity}
use Rattle.type_rules.specs.declared.names.Entity.TheVariants.{Variable, Function, TypeName, Enumerator, Library, NullPointer, MutexInitializer}
use Rattle.type_rules.specs.declared.notes.Initial.{Initial}
use Rattle.type_rules.specs.declared.notes.TypeWarning.{TypeWarning}
use Rattle.type_laws.proofs.Each.{Each, each_more, each_joined}
use Rattle.type_laws.proofs.Quiet.{EndsIn, Ends, IsLevelled, AreLevelled, Always, Anything, Quiet, Quietly, then_quiet, gives_quiet, moves_quiet, fails_quiet, refused_quiet, anyway}
use Rattle.type_laws.proofs.QuietConversions.{QuietOperand, converted_quiet, cast_by_quiet}
use Rattle.type_laws.proofs.QuietNodes.{IsNameOf, EachKeeps, object-Variable, object-Text, node-Number, node-Null, node-Function, node-LibraryFunction, node-Call, node-Discard}
use Rattle.type_laws.proofs.QuietOperands.{QuietForm, QuietFound, value_quiet, operand_quiet}
use Rattle.type_laws.proofs.Whole.{whole_at, in_whole}

callee_in_quiet : (u : List FunctionInfo) (f : Found) (place : ℕ) (kind : CType) (form : Form) → QuietForm kind form u → QuietFound f u
    → QuietOperand (callee_in place kind form f) u
unfolding callee_in
callee_in_quiet u f place kind (Value node) h whole = of (is_function kind)
  where
    of : (test : Bool) → QuietOperand (if test then operand_of place kind node else as_value f) u
    of true = h
    of false = value_quiet u f whole
callee_in_quiet u f place kind (Lvalue p) h whole = value_quiet u f whole

callee_quiet : (function : Seen → Read Found) → Quietly QuietFound function → Quietly QuietOperand (callee function)
unfolding callee
callee_quiet function keeps s =
    then_quiet s (function s) _ (keeps s) (λ f t.
    refused_quiet t (is_whole f.kind) 3 f.place _ (λ whole.
    gives_quiet t _ (λ u ends p. callee_in_quiet u f f.place f.kind f.form p.1 p.1)))

-- what is given to a call
abbrev pub QuietGiven : List Operand → List FunctionInfo → Type 0
QuietGiven given u = Each (λ o. QuietOperand o u) given

passed_quiet : (pre : List FunctionInfo → Type 0) (s : Seen) (ts : List CType) (os : List Operand) → ((u : List FunctionInfo) → pre u → QuietGiven os u)
    → Quiet pre (λ vs u. EachKeeps vs) s (passed ts os s)
unfolding passed
passed_quiet pre s [] [] h = gives_quiet s [] (λ u ends p. tt)
passed_quiet pre s [] (o ∷ os) h = gives_quiet s [] (λ u ends p. tt)
passed_quiet pre s (t ∷ ts) [] h = gives_quiet s [] (λ u ends p. tt)
passed_quiet pre s (t ∷ ts) (o ∷ os) h =
    then_quiet s (converted t o s) _ (converted_quiet pre s t o (λ u p. (h u p).0)) (λ v w.
    then_quiet w (passed ts os w) _ (passed_quiet _ w ts os (λ u p. (h u p.0).1)) (λ vs x.
    gives_quiet x (v.node ∷ vs) (λ u ends p. (p.0.1.node.keeps, p.1))))

called_quiet : (pre : List FunctionInfo → Type 0) (s : Seen) (place site : ℕ) (f : Operand) (given : List Operand)
    → ((u : List FunctionInfo) → pre u → QuietOperand f u) → ((u : List FunctionInfo) → pre u → QuietGiven given u)
    → Quiet pre QuietFound s (called place site f given s)
called_quiet pre s place site f given qf qg = of (called_as f.node f.kind) refl
  where
    of : (o : Option FnType) → called_as f.node f.kind ≡ o → Quiet pre QuietFound s (called_by place site f.node given o s)
    of None e = fails_quiet s 3 place
    of (Some t) e =
        refused_quiet s (not (length t.params == length given)) 5 place _ (λ many.
        then_quiet s (passed t.params given s) _ (passed_quiet pre s t.params given qg) (λ vs v.
        gives_quiet v (found_value place t.result _) (λ u ends p. node-Call u t f.kind place site f.node vs (qf u p.0).node e p.1)))

pub call_quiet : (place site : ℕ) (function : Seen → Read Found) (arguments : Seen → Read (List Operand)) → Quietly QuietFound function
    → Quietly QuietGiven arguments → Quietly QuietFound (call place site function arguments)
unfolding call
call_quiet place site function arguments first second s =
    then_quiet s (callee function s) _ (callee_quiet function first s) (λ f t.
    then_quiet t (arguments t) _ (anyway t (arguments t) (second t)) (λ given v.
    called_quiet _ v place site f given (λ u p. p.0.1) (λ u p. p.1)))

-- an argument more
pub argument_quiet : (pre : List FunctionInfo → Type 0) (given : List Operand) (expression : Seen → Read Found) (rest : List Operand → Seen → Read (List Operand))
    → Quietly QuietFound expression
    → ((all : List Operand) (pre' : List FunctionInfo → Type 0) (t : Seen) → ((u : List FunctionInfo) → pre' u → QuietGiven all u) → Quiet pre' QuietGiven t (rest all t))
    → (s : Seen) → ((u : List FunctionInfo) → pre u → QuietGiven given u) → Quiet pre QuietGiven s (with_argument given expression rest s)
unfolding with_argument
argument_quiet pre given expression rest keeps rest_keeps s h =
    then_quiet s (operand expression s) _ (operand_quiet pre s expression keeps) (λ o t.
    rest_keeps (given ++ o ∷ []) _ t (λ u p. each_more (λ x. QuietOperand x u) given o (h u p.0) p.1))

-- the numbers of call sites are nothing to levels
pub fresh_quiet : (calls : ℕ) (expression : ℕ → Seen → Read Found) → ((first : ℕ) → Quietly QuietFound (expression first)) → Quietly QuietFound (fresh calls expression)
unfolding fresh
fresh_quiet calls expression keeps s = moved (expression s.sites (record s { sites = s.sites + calls })) (keeps s.sites (record s { sites = s.sites + calls }))
  where
    moved : (r : Read Found) → Quiet Always QuietFound (record s { sites = s.sites + calls }) r → Quiet Always QuietFound s r
    moved (Bad n p) h = record { holds = tt }
    moved (Good f t) h = record { holds = h.holds }

-- the name of a function, at the level that is known of the function
name_levelled : (u : List FunctionInfo) (whole : List Effects) (functions : List FunctionInfo) (warnings : List TypeWarning) (number : ℕ) (f : FunctionInfo)
    → EndsIn u warnings whole functions → slice_get functions number ≡ Some f → IsNameOf u number (kind_at whole number (Some f))
unfolding hidden hidden-the_row-CType-0 shape-the_row-CType-0
name_levelled u whole functions warnings number f ends there = record {
  other = refl;
  levelled = λ function. ends.levels number (effects_at (slice_get whole number) f.kind).effects.level (record {
    info = in_whole whole number f;
    known = whole_at whole functions 0 number number f (omega arith) there;
    above = omega arith;
  });
}

kind_quiet : (u : List FunctionInfo) (s : Seen) (number : ℕ) (found : Option FunctionInfo) → slice_get s.functions number ≡ found → Ends u s
    → IsNameOf u number (kind_at s.whole number found)
kind_quiet u s number (Some f) there ends = name_levelled u s.whole s.functions s.warnings number f ends there
kind_quiet u s number None there ends = record { other = refl; levelled = λ function. absurd (cc) }

function_quiet : (pre : List FunctionInfo → Type 0) (s : Seen) (at number : ℕ)
    → Quiet pre QuietFound s (Good (found_value at (kind_at s.whole number (slice_get s.functions number)) (expr.Function number (kind_at s.whole number (slice_get s.functions number)))) s)
function_quiet pre s at number = gives_quiet s (found_value at (kind_at s.whole number (slice_get s.functions number)) _) (λ u ends p.
    node-Function u number (kind_at s.whole number (slice_get s.functions number)) (kind_quiet u s number (slice_get s.functions number) refl ends))

named_quiet : (pre : List FunctionInfo → Type 0) (called : Bool) (at : ℕ) (entity : Option Entity) (s : Seen) → Quiet pre QuietFound s (named called at entity s)
unfolding function_type and_then
named_quiet pre called at None s = fails_quiet s 1 at
named_quiet pre called at (Some (Variable t storage number)) s = gives_quiet s (found_object at t _) (λ u ends p. object-Variable at storage t)
named_quiet pre called at (Some (Function number)) s = function_quiet pre s at number
named_quiet pre called at (Some (TypeName t)) s = fails_quiet s 1 at
named_quiet pre called at (Some (Enumerator bits)) s = gives_quiet s (found_value at Int _) (λ u ends p. node-Number u Signed bits)
named_quiet pre true at (Some (Library row)) s = gives_quiet s (found_value at Void _) (λ u ends p. node-LibraryFunction u row)
named_quiet pre false at (Some (Library row)) s = fails_quiet s 11 at
named_quiet pre called at (Some NullPointer) s = gives_quiet s (found_value at (pointer_to Void) _) (λ u ends p. node-Null u)
named_quiet pre called at (Some MutexInitializer) s = fails_quiet s 9 at

-- a name has its number
pub name_number_quiet : (pre : List FunctionInfo → Type 0) (s : Seen) (name : Span) → Quiet pre Anything s (name_number name s)
unfolding name_number
name_number_quiet pre s name = moves_quiet s _ _ (λ u ends. ends) (λ u kept. kept) (λ u ends p. tt)

pub names_quiet : (called : Bool) (at : Span) → Quietly QuietFound (name called at)
unfolding name
names_quiet called at s =
    then_quiet s (name_number at s) _ (name_number_quiet Always s at) (λ number t.
    then_quiet t (Good (found t.scopes number) t) _ (gives_quiet {K = Anything} t (found t.scopes number) (λ u ends p. tt)) (λ entity v.
    named_quiet _ called at.start entity v))

pub numbers_quiet : (at : Span) → Quietly QuietFound (number at)
unfolding number
numbers_quiet at s = gives_quiet s _ (λ u ends p. node-Number u _ _)

pub characters_quiet : (at : Span) → Quietly QuietFound (character at)
unfolding character
characters_quiet at s = gives_quiet s _ (λ u ends p. node-Number u Signed _)

-- a text holds no function
pub text_levelled : (u : List FunctionInfo) (at : ℕ) (bytes : List ℕ) → AreLevelled u (text_initially at bytes)
unfolding text_initially
text_levelled u at [] = tt
text_levelled u at (byte ∷ bytes) = of (nat_eq byte 0) (text_initially (at + 1) bytes) (text_levelled u (at + 1) bytes)
  where
    of : (test : Bool) (values : List Initial) → AreLevelled u values → AreLevelled u (if test then values else record { at = at; word = word.Number byte } ∷ values)
    of true values rest = rest
    of false values rest = (tt, rest)

pub string_quiet : (pre : List FunctionInfo → Type 0) (s : Seen) (bytes : List ℕ) → Quiet pre Anything s (string_object bytes s)
unfolding string_object and_then holds_initially
string_quiet pre s bytes = moves_quiet s _ _ (λ u ends. ends)
    (λ u kept. record {
      bodies = kept.bodies;
      statics = each_joined (λ i. IsLevelled u i.word) s.static_values _ kept.statics (text_levelled u (s.static_words + 1) bytes);
      threads = kept.threads;
    }) (λ u ends p. tt)

pub texts_quiet : (strings : List Span) → Quietly QuietFound (text strings)
unfolding text text_found
texts_quiet strings s =
    then_quiet s (string_object (text_in s.source strings) s) _ (string_quiet Always s (text_in s.source strings)) (λ address t.
    gives_quiet t (found_object _ _ _) (λ u ends p. object-Text address (length (text_in s.source strings) + 1)))

pub parenthesised_quiet : (place : ℕ) (expression : Seen → Read Found) → Quietly QuietFound expression → Quietly QuietFound (parenthesised place expression)
unfolding parenthesised
parenthesised_quiet place expression keeps s =
    then_quiet s (expression s) _ (keeps s) (λ f t. gives_quiet t (record f { place = place }) (λ u ends p. p.1))

converted_to_quiet : (pre : List FunctionInfo → Type 0) (s : Seen) (place : ℕ) (to : CType) (o : Operand) → ((u : List FunctionInfo) → pre u → QuietOperand o u)
    → Quiet pre QuietFound s (and_then (converted_by cause.Cast place to o (conversion o.kind to (is_null_constant o) true) s) (λ c t. Good (found_value place to c.node) t))
converted_to_quiet pre s place to o h =
    then_quiet s (converted_by cause.Cast place to o (conversion o.kind to (is_null_constant o) true) s) _ (cast_by_quiet pre s to o h place) (λ c t.
    gives_quiet t (found_value place to c.node) (λ u ends p. p.1))

cast_to_quiet : (pre : List FunctionInfo → Type 0) (s : Seen) (place : ℕ) (to : CType) (o : Operand) → ((u : List FunctionInfo) → pre u → QuietOperand o u)
    → Quiet pre QuietFound s (cast_to place to o s)
cast_to_quiet pre s place Void o h = gives_quiet s (found_value place Void _) (λ u ends p. node-Discard u o.node (h u p).node.keeps)
cast_to_quiet pre s place Char o h = converted_to_quiet pre s place Char o h
cast_to_quiet pre s place Int o h = converted_to_quiet pre s place Int o h
cast_to_quiet pre s place Unsigned o h = converted_to_quiet pre s place Unsigned o h
cast_to_quiet pre s place Mutex o h = converted_to_quiet pre s place Mutex o h
cast_to_quiet pre s place (Struct k) o h = converted_to_quiet pre s place (Struct k) o h
cast_to_quiet pre s place (Pointer' a b) o h = converted_to_quiet pre s place (Pointer' a b) o h
cast_to_quiet pre s place (Array' a b c) o h = converted_to_quiet pre s place (Array' a b c) o h
cast_to_quiet pre s place (Function' a b c d e) o h = converted_to_quiet pre s place (Function' a b c d e) o h

pub cast_quiet : (place : ℕ) (name : Seen → Read CType) (expression : Seen → Read Found) → Quietly Anything name → Quietly QuietFound expression
    → Quietly QuietFound (cast place name expression)
unfolding cast
cast_quiet place name expression first second s =
    then_quiet s (name s) _ (first s) (λ to t.
    then_quiet t (operand expression t) _ (operand_quiet _ t expression second) (λ o v.
    cast_to_quiet _ v place to o (λ u p. p.1)))

pub number_constant_quiet : (pre : List FunctionInfo → Type 0) (s : Seen) (expression : Seen → Read Found) → Quietly QuietFound expression
    → Quiet pre Anything s (number_constant expression s)
unfolding number_constant
number_constant_quiet pre s expression keeps =
    then_quiet s (operand expression s) _ (operand_quiet pre s expression keeps) (λ o t.
    refused_quiet t (not (is_number o.kind)) 3 o.place _ (λ e.
    refused_quiet t (not (is_known (worth o.node))) 7 o.place _ (λ f.
    gives_quiet t _ (λ u ends p. tt))))
