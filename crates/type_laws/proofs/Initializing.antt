-- Initializers keep what was seen, and fill their objects where 32 bits tell how many words these have.
use Rattle.std.proofs.Common.{◌≡◌, ℕ, ◌<◌, ◌≤◌, ◌+◌, ◌-◌, ◌^◌, Bool, true, false, refl, sym, ◌∙◌, ap, subst, List, [], ◌∷◌, ◌++◌, length, Option, Some, None, arith, ltb-false}
use Rattle.std.specs.Prelude.{not, ◌||◌, nat_eq, nat_lt, if◌then◌else◌}
use Rattle.std.proofs.lemmas.Bool.{eqb-false}
use Rattle.c_tree.specs.declared.declarations.Init as written
use Rattle.c_tree.specs.declared.declarations.Init.{Init, Row_of-Init, end_of-Init, more_of-Init}
use Rattle.c_tree.specs.declared.expressions.Expr as tree
use Rattle.c_tree.specs.declared.words.Span.{Span}
use Rattle.scopes.specs.Number.{number_of, noted}
use Rattle.scopes.specs.Scope.{found}
use Rattle.eff_types.specs.declared.types.CType.{CType, Void, Char, Int, Unsigned, Mutex, Struct, Pointer', Array', Function', end_of-CType, more_of-CType}
use Rattle.core_unit.specs.Layout.{words_of}
use Rattle.core_unit.specs.Shapes.{is_scalar, is_aggregate, array_of}
use Rattle.core_unit.specs.Typed.{Tables, IsTyped, IsInitializer, part_types, is_zero, is_zeroing}
use Rattle.core_unit.specs.Typing.{type_of}
use Rattle.core_unit.specs.declared.body.Braces.{Braces}
use Rattle.core_unit.specs.declared.body.Braces.TheVariants.{Bare, Braced}
use Rattle.core_unit.specs.declared.body.Initializer.{Initializer}
use Rattle.core_unit.specs.declared.body.Initializer.TheVariants as init
use Rattle.core_unit.specs.declared.expressions.Expr.{Expr}
use Rattle.core_unit.specs.declared.tables.StructInfo.{StructInfo}
use Rattle.type_rules.specs.InitialValues.{initializer_words}
use Rattle.type_rules.specs.Initializers.{is_fixed, mismatches, scalar, text_fits, is_unfixed, by_other, mutex_named, by_name, object_by, scalar_by, by_expression, is_zeroing as is_zeroing_list, braced_node, braced, part_type, part_as, part, listed, finished, by_list, count, initialized, parts}
use Rattle.type_rules.specs.Literals.{text_in}
use Rattle.type_rules.specs.Operands.{as_value, is_whole}
use Rattle.type_rules.specs.Primaries.{name, string_object, first_place}
use Rattle.type_rules.specs.Reading.{Read, Good, Bad, and_then, text_of, name_number}
use Rattle.type_rules.specs.Recursion.{expression}
use Rattle.type_rules.specs.Seen.{Seen}
use Rattle.type_rules.specs.declared.found.Found.{Found}
use Rattle.type_rules.specs.declared.names.Entity.{Entity}
use Rattle.type_rules.specs.declared.names.Entity.TheVariants.{Variable, Function, TypeName, Enumerator, Library, NullPointer, MutexInitializer}
use Rattle.type_laws.proofs.Characters.{IsByte}
use Rattle.type_laws.proofs.Converted.{IsIn, converted_keeps}
use Rattle.type_laws.proofs.Declarators.{or_first}
use Rattle.type_laws.proofs.Each.{Each}
use Rattle.type_laws.proofs.Filling.{IsFilled, AreFilled, filled_more, total, part_of_total, filled-Zeros, listed_filled, sum_fits, all_of_each}
use Rattle.type_laws.proofs.Formed.{IsFormed, Stay, OpenAreEmpty, stay_twice, formed_stays, words_stay}
use Rattle.type_laws.proofs.Lists.{length_more}
use Rattle.type_laws.proofs.Naming.{name_keeps}
use Rattle.type_laws.proofs.Operands.{IsFound, IsTypedFound, IsTypedOperand, value_is_known, value_is_typed}
use Rattle.type_laws.proofs.Parts.{told_total, IsPart, part_is}
use Rattle.type_laws.proofs.Steps.{noted_triple, under}
use Rattle.type_laws.proofs.Strings.{object_kept}
use Rattle.type_laws.proofs.Texts.{text_bytes}
use Rattle.type_laws.proofs.Trees.{expression_keeps}
use Rattle.type_laws.proofs.Triples.{Triple, Keeps, Always, Lawful, then_keeps, gives_keeps, refused_keeps, fails_keeps, anyway}

-- where 32 bits tell the words of the type
abbrev pub Fills : CType → Initializer → Tables → Type 0
Fills t i u = words_of u.structures t < 2 ^ 32 - 1 → IsFilled u t i

abbrev pub Anything : {A : Type 0} → A → Seen → Type 0
Anything a s = Unit {0}

-- a type of which an object may be
pub record IsSolid (structures : List StructInfo) (t : CType) : Type 0 where
  pub formed : IsFormed structures t
  pub some : 0 < words_of structures t

pub solid_stays : (s t : Seen) (kind : CType) → Stay s.structures t.structures → OpenAreEmpty s.structures → IsSolid s.structures kind → IsSolid t.structures kind
solid_stays s t kind stay empty h = record {
  formed = formed_stays s.structures t.structures kind stay empty h.formed;
  some = subst (λ words. 0 < words) (sym (words_stay s.structures t.structures kind stay empty h.formed h.some)) h.some;
}

-- one expression for a scalar
pub scalar_words : (structures : List StructInfo) (t : CType) → is_scalar t ≡ true → words_of structures t ≡ 1
unfolding words_of
scalar_words structures Char e = refl
scalar_words structures Int e = refl
scalar_words structures Unsigned e = refl
scalar_words structures (Pointer' _ t) e = refl
scalar_words structures Mutex e = refl
scalar_words structures Void e = absurd (cc)
scalar_words structures (Struct k) e = absurd (cc)
scalar_words structures (Array' _ t n) e = absurd (cc)
scalar_words structures (Function' _ _ _ _ _) e = absurd (cc)

filled-Value : (u : Tables) (t : CType) (how : Braces) (e : Expr) → IsTyped u e → type_of e ≡ t → is_scalar t ≡ true → is_zeroing how e ≡ false → IsFilled u t (init.Value how e)
unfolding IsInitializer initializer_words
filled-Value u t how e typed is single other = ((typed, is, single, other), refl, sym (scalar_words u.structures t single))

scalar_keeps : (fixed : Bool) (t : CType) (read : Seen → Read Found) → Keeps Always IsFound (IsTypedFound false) read → (s : Seen) → Lawful s → IsFormed s.structures t
    → Triple Always (IsIn t) IsTypedOperand s (scalar fixed t read s)
unfolding scalar and_then
scalar_keeps fixed t read keeps s lawful formed =
    then_keeps s (read s) _ (keeps s lawful) (λ f v v_lawful v_stay known.
    refused_keeps v (is_whole f.kind || mismatches t (as_value f)) 3 f.place _ (λ e.
    let whole = or_first (is_whole f.kind) (mismatches t (as_value f)) e in
    refused_keeps v (if fixed then not (is_fixed f.form) else false) 7 f.place _ (λ g.
    converted_keeps _ v t (as_value f) v_lawful (formed_stays s.structures v.structures t v_stay lawful.open_are_empty formed) (value_is_known v f known whole)
    (λ u p. value_is_typed v u f known whole p.1))))

scalar_filled : (fixed : Bool) (t : CType) (read : Seen → Read Found) → Keeps Always IsFound (IsTypedFound false) read → (s : Seen) → Lawful s → IsFormed s.structures t
    → is_scalar t ≡ true → Triple Always Anything (Fills t) s (scalar_by fixed t read s)
unfolding and_then
scalar_filled fixed t read keeps s lawful formed is =
    then_keeps s (scalar fixed t read s) _ (scalar_keeps fixed t read keeps s lawful formed) (λ v w w_lawful w_stay known.
    gives_keeps w (init.Value Bare v.node) w_lawful tt (λ u leads knows p few. filled-Value u t Bare v.node p.1 (known.0.1 ∙ known.1) is refl))

-- a scalar in braces
braced_filled : (u : Tables) (t : CType) (e : Expr) (zeroes : Bool) → is_zero e ≡ zeroes → IsTyped u e → type_of e ≡ t → is_scalar t ≡ true
    → IsFilled u t (if zeroes then init.Zeros 1 else init.Value Braced e)
braced_filled u t e true test typed is single = filled-Zeros u t 1 (sym (scalar_words u.structures t single))
braced_filled u t e false test typed is single = filled-Value u t Braced e typed is single test

braced_keeps : {n : _} (fixed : Bool) (place : ℕ) (t : CType) (inits : Row_of-Init n) (s : Seen) → Lawful s → IsFormed s.structures t → is_scalar t ≡ true
    → Triple Always Anything (Fills t) s (braced fixed place t inits s)
unfolding and_then
braced_keeps fixed place t (more_of-Init (written.Value e) end_of-Init) s lawful formed is =
    then_keeps s (scalar fixed t (expression e) s) _ (scalar_keeps fixed t (expression e) (expression_keeps e) s lawful formed) (λ v w w_lawful w_stay known.
    gives_keeps w (braced_node v.node) w_lawful tt (λ u leads knows p few. braced_filled u t v.node (is_zero v.node) refl p.1 (known.0.1 ∙ known.1) is))
braced_keeps fixed place t (more_of-Init (written.Value e) (more_of-Init i is')) s lawful formed is =
    then_keeps s (scalar fixed t (expression e) s) _ (scalar_keeps fixed t (expression e) (expression_keeps e) s lawful formed) (λ v w w_lawful w_stay known.
    fails_keeps w 9 place)
braced_keeps fixed place t end_of-Init s lawful formed is = fails_keeps s 9 place
braced_keeps fixed place t (more_of-Init (written.List' p z inits) rest) s lawful formed is = fails_keeps s 9 place

array_words : (structures : List StructInfo) (n : ℕ) → words_of structures (array_of Char n) < 2 ^ 32 - 1 → words_of structures (array_of Char n) ≡ n
unfolding words_of
array_words structures n few = omega arith

filled-Text : (u : Tables) (t : CType) (bytes : List ℕ) (after : ℕ) → t ≡ array_of Char (length bytes + after) → Each IsByte bytes → words_of u.structures t ≡ length bytes + after
    → IsFilled u t (init.Text bytes after)
unfolding IsInitializer initializer_words
filled-Text u t bytes after is each words = ((is, all_of_each IsByte bytes each), refl, sym words)

text_filled : (s : Seen) (t : CType) (size : ℕ) (place : ℕ) (bytes : List ℕ) → Lawful s → t ≡ array_of Char size → Each IsByte bytes
    → Triple Always Anything (Fills t) s (text_fits place size bytes s)
unfolding text_fits and_then
text_filled s t size place bytes lawful is each =
    then_keeps s (string_object bytes s) _ (object_kept Always s bytes each lawful) (λ address v v_lawful v_stay known.
    refused_keeps v (nat_lt size (length bytes)) 9 place _ (λ e.
    let fits = ltb-false size (length bytes) e in
    let whole : size ≡ length bytes + (size - length bytes) = omega (arith, fits) in
    gives_keeps v (init.Text bytes (size - length bytes)) v_lawful tt (λ u leads knows p few.
    filled-Text u t bytes (size - length bytes) (is ∙ ap (array_of Char) whole) each
    (ap (words_of u.structures) is ∙ array_words u.structures size (subst (λ x. words_of u.structures x < 2 ^ 32 - 1) is few) ∙ whole))))

-- what is read and refused
other_keeps : (t : CType) (fixed : Bool) (read : Seen → Read Found) → Keeps Always IsFound (IsTypedFound false) read → (s : Seen) → Lawful s
    → Triple Always Anything (Fills t) s (by_other fixed read s)
unfolding and_then
other_keeps t fixed read keeps s lawful =
    then_keeps s (read s) _ (keeps s lawful) (λ f v v_lawful v_stay known. refused_keeps v (is_unfixed fixed f) 7 f.place _ (λ e. fails_keeps v 9 f.place))

filled-Mutex : (u : Tables) → IsFilled u Mutex init.Mutex
unfolding IsInitializer initializer_words words_of
filled-Mutex u = (refl, refl, refl)

mutex_keeps : (fixed : Bool) (at : Span) (s : Seen) → Lawful s → Triple Always Anything (Fills Mutex) s (by_name fixed at s)
unfolding by_name name_number and_then
mutex_keeps fixed at s lawful = noted_triple s (noted s.names (text_of s.source at)) s.sites _ (of (found s.scopes (number_of s.names (text_of s.source at))))
  where
    after : Seen
    after = record s { names = noted s.names (text_of s.source at) }

    of : (e : Option Entity) → Triple Always Anything (Fills Mutex) after (mutex_named fixed at e after)
    of (Some MutexInitializer) = gives_keeps after init.Mutex lawful tt (λ u leads knows p few. filled-Mutex u)
    of None = other_keeps Mutex fixed (name false at) (name_keeps false at) after lawful
    of (Some (Variable t storage n)) = other_keeps Mutex fixed (name false at) (name_keeps false at) after lawful
    of (Some (Function n)) = other_keeps Mutex fixed (name false at) (name_keeps false at) after lawful
    of (Some (TypeName t)) = other_keeps Mutex fixed (name false at) (name_keeps false at) after lawful
    of (Some (Enumerator bits)) = other_keeps Mutex fixed (name false at) (name_keeps false at) after lawful
    of (Some (Library row)) = other_keeps Mutex fixed (name false at) (name_keeps false at) after lawful
    of (Some NullPointer) = other_keeps Mutex fixed (name false at) (name_keeps false at) after lawful

object_keeps : (fixed : Bool) (t : CType) (e : tree.Expr) (s : Seen) → Lawful s → Triple Always Anything (Fills t) s (object_by fixed t e s)
object_keeps fixed (Array' p (more_of-CType Char end_of-CType) size) (tree.Text strings) s lawful =
    text_filled s (Array' p (more_of-CType Char end_of-CType) size) size (first_place strings) (text_in s.source strings) lawful refl (text_bytes s.source strings lawful.bytes)
object_keeps fixed Mutex (tree.Name at) s lawful = mutex_keeps fixed at s lawful
object_keeps fixed t e s lawful = other_keeps t fixed (expression e) (expression_keeps e) s lawful

expression_filled : (fixed : Bool) (t : CType) (e : tree.Expr) (s : Seen) → Lawful s → IsFormed s.structures t → Triple Always Anything (Fills t) s (by_expression fixed t e s)
unfolding by_expression
expression_filled fixed t e s lawful formed = of (is_scalar t) refl
  where
    of : (test : Bool) → is_scalar t ≡ test → Triple Always Anything (Fills t) s ((if test then scalar_by fixed t (expression e) else object_by fixed t e) s)
    of true is = scalar_filled fixed t (expression e) (expression_keeps e) s lawful formed is
    of false is = object_keeps fixed t e s lawful

-- the first parts of an object
abbrev FillsParts : CType → List Initializer → Tables → Type 0
FillsParts t given u = words_of u.structures t < 2 ^ 32 - 1 → AreFilled u (part_types u.structures t) given

finished_keeps : (t : CType) (given : List Initializer) (s : Seen) → Lawful s → IsSolid s.structures t → is_aggregate t ≡ true → 0 < length given
    → Triple (FillsParts t given) Anything (Fills t) s (finished t given s)
unfolding finished and_then
finished_keeps t given s lawful solid aggregate some =
    gives_keeps s (listed (words_of s.structures t) given) lawful tt (λ u leads knows filled few.
    let words = words_stay s.structures u.structures t leads.stay lawful.open_are_empty solid.formed solid.some in
    let sums = told_total s lawful u leads.stay t aggregate solid.some in
    let fits : total u.structures (part_types u.structures t) ≤ words_of s.structures t = omega (arith, words, sums, few) in
    listed_filled u t (words_of s.structures t) aggregate (sym words) given some (filled few)
    (sum_fits u t (words_of s.structures t) aggregate (sym words) given (filled few) fits))

-- one part more
part_filled : (s : Seen) (t : CType) (given : List Initializer) (x : CType) (i : Initializer) (u : Tables) → Lawful s → Stay s.structures u.structures → IsSolid s.structures t
    → is_aggregate t ≡ true → IsPart s t (length given) x → FillsParts t given u → Fills x i u → FillsParts t (given ++ i ∷ []) u
part_filled s t given x i u lawful stay solid aggregate is_part filled fills few =
    let sums = told_total s lawful u stay t aggregate solid.some in
    let there = is_part.there u stay in
    let below = part_of_total u.structures (part_types u.structures t) (length given) x there in
    let small : words_of u.structures x < 2 ^ 32 - 1 = omega (arith, sums, below, few) in
    filled_more u (part_types u.structures t) given x i (filled few) there (fills small)

module _ (place : ℕ) (t : CType) (given : List Initializer) (read : CType → Seen → Read Initializer) (rest : Initializer → Seen → Read Initializer) (s : Seen) (lawful : Lawful s)
    (solid : IsSolid s.structures t) (aggregate : is_aggregate t ≡ true)
    (read_keeps : (x : CType) → IsSolid s.structures x → Triple Always Anything (Fills x) s (read x s))
    (rest_keeps : (y : Initializer) (v : Seen) → Lawful v → IsSolid v.structures t → Triple (FillsParts t (given ++ y ∷ [])) Anything (Fills t) v (rest y v)) where
  as_keeps : (found : Option CType) → part_type s.structures t (length given) ≡ found → Triple (FillsParts t given) Anything (Fills t) s (part_as place read rest found s)
  unfolding and_then
  as_keeps None e = fails_keeps s 9 place
  as_keeps (Some x) e =
      let here = part_is s lawful (length given) x t solid.formed e in
      then_keeps s (read x s) _ (anyway s _ (read_keeps x (record { formed = here.formed; some = here.some }))) (λ y v v_lawful v_stay known.
      under (FillsParts t (given ++ y ∷ [])) _ v _ (λ u leads p.
      part_filled s t given x y u lawful (stay_twice s.structures v.structures u.structures v_stay leads.stay) solid aggregate here p.0 p.1)
      (rest_keeps y v v_lawful (solid_stays s v t v_stay lawful.open_are_empty solid)))

  one_part : (index : ℕ) → index ≡ length given → Triple (FillsParts t given) Anything (Fills t) s (part place t index read rest s)
  unfolding part and_then
  one_part index at =
      subst (λ n. Triple (FillsParts t given) Anything (Fills t) s (part_as place read rest (part_type s.structures t n) s)) (sym at)
      (as_keeps (part_type s.structures t (length given)) refl)

zeros_keep : (t : CType) (s : Seen) → Lawful s → IsSolid s.structures t → Triple Always Anything (Fills t) s (Good (init.Zeros (words_of s.structures t)) s)
zeros_keep t s lawful solid =
    gives_keeps s (init.Zeros (words_of s.structures t)) lawful tt (λ u leads knows p few.
    filled-Zeros u t (words_of s.structures t) (sym (words_stay s.structures u.structures t leads.stay lawful.open_are_empty solid.formed solid.some)))

lists_keep : (place : ℕ) (t : CType) (is_empty : Bool) (zeroing : List ℕ → Bool) (scalar_read parts_read : Seen → Read Initializer) (s : Seen) → Lawful s → IsSolid s.structures t
    → (is_scalar t ≡ true → Triple Always Anything (Fills t) s (scalar_read s))
    → (is_empty ≡ false → is_aggregate t ≡ true → Triple Always Anything (Fills t) s (parts_read s))
    → Triple Always Anything (Fills t) s (by_list place t is_empty zeroing scalar_read parts_read s)
unfolding by_list
lists_keep place t is_empty zeroing scalar_read parts_read s lawful solid scalar_keeps parts_keep = of is_empty (zeroing s.source) (is_scalar t) (is_aggregate t) refl refl refl
  where
    of : (empty zero scalar aggregate : Bool) → is_empty ≡ empty → is_scalar t ≡ scalar → is_aggregate t ≡ aggregate → Triple Always Anything (Fills t) s
        (if empty then Bad 9 place
        else if zero then Good (init.Zeros (words_of s.structures t)) s
        else if scalar then scalar_read s
        else if aggregate then parts_read s
        else Bad 9 place)
    of true z c a e f g = fails_keeps s 9 place
    of false true c a e f g = zeros_keep t s lawful solid
    of false false true a e f g = scalar_keeps f
    of false false false true e f g = parts_keep e g
    of false false false false e f g = fails_keeps s 9 place

mutual
  unfolding initialized count part and_then

  pub initialized_keeps : (i : Init) (fixed : Bool) (t : CType) (s : Seen) → Lawful s → IsSolid s.structures t → Triple Always Anything (Fills t) s (initialized fixed t i s)
  initialized_keeps (written.Value e) fixed t s lawful solid = expression_filled fixed t e s lawful solid.formed
  initialized_keeps (written.List' place _ inits) fixed t s lawful solid =
      lists_keep place t (nat_eq (count inits) 0) (is_zeroing_list inits) (braced fixed place t inits) (parts fixed place t 0 [] inits) s lawful solid
      (λ is. braced_keeps fixed place t inits s lawful solid.formed is)
      (λ some aggregate. under (FillsParts t []) Always s _ (λ u leads p few. tt)
      (parts_keep inits fixed place t 0 [] s lawful solid aggregate refl (let more = eqb-false (count inits) 0 some in omega (arith, more))))

  parts_keep : {n : _} (is : Row_of-Init n) (fixed : Bool) (place : ℕ) (t : CType) (index : ℕ) (given : List Initializer) (s : Seen) → Lawful s → IsSolid s.structures t
      → is_aggregate t ≡ true → index ≡ length given → 0 < length given + count is → Triple (FillsParts t given) Anything (Fills t) s (parts fixed place t index given is s)
  parts_keep end_of-Init fixed place t index given s lawful solid aggregate at some = finished_keeps t given s lawful solid aggregate (omega arith)
  parts_keep (more_of-Init i is) fixed place t index given s lawful solid aggregate at some =
      one_part place t given (λ x. initialized fixed x i) (λ y. parts fixed place t (index + 1) (given ++ y ∷ []) is) s lawful solid aggregate
      (λ x x_solid. initialized_keeps i fixed x s lawful x_solid)
      (λ y v v_lawful v_solid.
      parts_keep is fixed place t (index + 1) (given ++ y ∷ []) v v_lawful v_solid aggregate
      (let more = length_more given y in omega (arith, more)) (let more = length_more given y in omega (arith, more))) index at
