-- The calls of an initializer have consecutive numbers; those of static objects call nothing.
use Rattle.std.proofs.Common.{◌≡◌, ℕ, ◌+◌, ◌≤◌, Bool, true, false, refl, sym, ◌∙◌, ap, subst, List, [], ◌∷◌, ◌++◌, length, Option, Some, None, arith, append_assoc}
use Rattle.std.proofs.lemmas.List.{append-nil}
use Rattle.std.specs.Prelude.{not, ◌||◌, nat_eq, nat_lt, ◌-◌, if◌then◌else◌, map, sum}
use Rattle.scopes.specs.Number.{number_of, noted}
use Rattle.scopes.specs.Scope.{found}
use Rattle.eff_types.specs.declared.types.CType.{CType, Char, Mutex, Array', end_of-CType, more_of-CType}
use Rattle.c_tree.specs.declared.declarations.Init as written
use Rattle.c_tree.specs.declared.declarations.Init.{Init, Row_of-Init, end_of-Init, more_of-Init}
use Rattle.c_tree.specs.declared.expressions.Expr as tree
use Rattle.c_tree.specs.declared.words.Span.{Span}
use Rattle.tree_order.specs.Stands.{Then, Behind, ExprStands, InitStands, InitsStand}
use Rattle.core_unit.specs.Layout.{words_of}
use Rattle.core_unit.specs.Places.{Spot, spots, initializer_spots}
use Rattle.core_unit.specs.Shapes.{is_scalar, is_aggregate}
use Rattle.core_unit.specs.Typed.{is_zero}
use Rattle.core_unit.specs.declared.body.Braces.TheVariants.{Bare, Braced}
use Rattle.core_unit.specs.declared.body.Initializer as form
use Rattle.core_unit.specs.declared.body.Initializer.{Initializer}
use Rattle.core_unit.specs.declared.body.Initializer.TheVariants as init
use Rattle.core_unit.specs.declared.expressions.Expr as expr
use Rattle.core_unit.specs.declared.expressions.Expr.{Expr}
use Rattle.type_rules.specs.Conversions.{converted}
use Rattle.type_rules.specs.Initializers.{is_fixed, mismatches, scalar, text_fits, is_unfixed, by_other, mutex_named, by_name, object_by, scalar_by, by_expression, is_zeroing, braced_node, braced, part_type, part_as, part, listed, finished, by_list, count, initialized, parts}
use Rattle.type_rules.specs.Literals.{text_in}
use Rattle.type_rules.specs.Operands.{as_value, is_whole}
use Rattle.type_rules.specs.Primaries.{name, string_object, first_place}
use Rattle.type_rules.specs.Reading.{Read, Good, Bad, and_then, text_of, name_number}
use Rattle.type_rules.specs.Recursion.{expression}
use Rattle.type_rules.specs.Seen.{Seen}
use Rattle.type_rules.specs.declared.found.Found.{Found}
use Rattle.type_rules.specs.declared.found.Operand.{Operand}
use Rattle.type_rules.specs.declared.names.Entity.{Entity}
use Rattle.type_rules.specs.declared.names.Entity.TheVariants.{MutexInitializer}
use Rattle.type_laws.proofs.Numbered.{Reads, then_reads, whatever_reads, gives_reads, fails_reads, refused_reads, reads_as, found_spots, operand_spots, moved}
use Rattle.type_laws.proofs.NumberedCalls.{IsMore, string_idle}
use Rattle.type_laws.proofs.NumberedConstants.{fixed_quiet}
use Rattle.type_laws.proofs.NumberedOperators.{as_value_spots, converted_reads}
use Rattle.type_laws.proofs.NumberedTrees.{expr_long, expression_reads}
use Rattle.type_laws.proofs.Progress.{Progress, progress, RunAt, none_at, behind_at, joined_at, further_at}
use Rattle.type_laws.proofs.SiteRanges.{AtMost, CallsNothing, occurrences_joined}
use Rattle.type_laws.proofs.SpotsJoined.{listed_spots, list_spots_are, listed_more}
use Rattle.type_laws.proofs.Types.{not_refused}
use Rattle.type_rules.specs.InitialValues.{initializer_words}

abbrev pub initial_spots : Initializer → List Spot
initial_spots i = initializer_spots i []

-- what was read of an initializer: the one of a static object calls nothing
pub record IsInitial (fixed : Bool) (stands : ℕ → ℕ → Type 0) (n : Progress) (xs : List Spot) (m : Progress) : Type 0 where
  pub run : RunAt stands n xs m
  pub quiet : fixed ≡ true → CallsNothing xs

initial_none : (fixed : Bool) (stands : ℕ → ℕ → Type 0) (n : Progress) → ((from to : ℕ) → stands from to → from ≤ to) → IsInitial fixed stands n [] n
initial_none fixed stands n far = record { run = none_at stands n far; quiet = λ e k. refl }

initial_joined : (fixed : Bool) (first second : ℕ → ℕ → Type 0) (n : Progress) (xs ys : List Spot) (m l : Progress) → IsInitial fixed first n xs m → IsInitial fixed second m ys l
    → IsInitial fixed (Then first second) n (xs ++ ys) l
initial_joined fixed first second n xs ys m l p q = record {
  run = joined_at first second n xs ys m l p.run q.run;
  quiet = λ e k. let sum = occurrences_joined k xs ys in let left = p.quiet e k in let right = q.quiet e k in omega (arith, sum, left, right);
}

expr_far : (e : tree.Expr) (from to : ℕ) → ExprStands e from to → from ≤ to
expr_far e from to h = let long = expr_long e from to h in omega (arith, long)

mutual
  unfolding InitStands

  pub init_far : (i : Init) (from to : ℕ) → InitStands i from to → from ≤ to
  init_far (written.Value e) from to h = expr_far e from to h
  init_far (written.List' place _ inits) from to h = let begin = h.1 in let rest = inits_far inits h.0 to h.2 in omega (arith, begin, rest)

  inits_far : {n : _} (is : Row_of-Init n) (from to : ℕ) → InitsStand is from to → from ≤ to
  inits_far end_of-Init from to h = h
  inits_far (more_of-Init i is) from to h = let first = init_far i from h.0 h.1 in let rest = inits_far is h.0 to h.2 in omega (arith, first, rest)

fixed_told : (fixed known : Bool) → (if fixed then not known else false) ≡ false → fixed ≡ true → known ≡ true
fixed_told true known e is = not_refused known e
fixed_told false known e is = absurd (cc)

-- a scalar
scalar_reads : (fixed : Bool) (t : CType) (e : tree.Expr) (s : Seen) → Reads operand_spots (IsInitial fixed (ExprStands e) (progress s)) (scalar fixed t (expression e) s)
unfolding scalar and_then
scalar_reads fixed t e s =
    then_reads (expression e s) _ (expression_reads e s) (λ f v run.
    refused_reads v (is_whole f.kind || mismatches t (as_value f)) 3 f.place _ (λ whole.
    refused_reads v (if fixed then not (is_fixed f.form) else false) 7 f.place _ (λ known.
    reads_as (converted t (as_value f) v) (converted_reads t (as_value f) v) (λ o m same.
    let is : operand_spots o ≡ found_spots f = same.0 ∙ as_value_spots f in
    subst (λ xs. IsInitial fixed (ExprStands e) (progress s) xs m) (sym is) (moved (IsInitial fixed (ExprStands e) (progress s)) (found_spots f) (progress v) m same.1 (record {
      run = run;
      quiet = λ fixes. fixed_quiet f.form (fixed_told fixed (is_fixed f.form) known fixes);
    }))))))

bare_given : (fixed : Bool) (stands : ℕ → ℕ → Type 0) (n : Progress) (o : Operand) (s : Seen) → IsInitial fixed stands n (operand_spots o) (progress s)
    → Reads initial_spots (IsInitial fixed stands n) (Good (init.Value Bare o.node) s)
unfolding initializer_spots
bare_given fixed stands n o s p = record { holds = p }

scalar_by_reads : (fixed : Bool) (t : CType) (e : tree.Expr) (s : Seen) → Reads initial_spots (IsInitial fixed (ExprStands e) (progress s)) (scalar_by fixed t (expression e) s)
unfolding and_then
scalar_by_reads fixed t e s =
    then_reads (scalar fixed t (expression e) s) (λ v w. Good (init.Value Bare v.node) w) (scalar_reads fixed t e s) (λ v w p. bare_given fixed (ExprStands e) (progress s) v w p)

-- what is no scalar
module _ (fixed : Bool) (e : tree.Expr) where
  abbrev Alone : Seen → List Spot → Progress → Type 0
  Alone s = IsInitial fixed (ExprStands e) (progress s)

  alone_none : (s : Seen) → Alone s [] (progress s)
  alone_none s = initial_none fixed (ExprStands e) (progress s) (expr_far e)

  text_fits_reads : (place size : ℕ) (bytes : List ℕ) (s : Seen) → Reads initial_spots (Alone s) (text_fits place size bytes s)
  unfolding text_fits initializer_spots and_then
  text_fits_reads place size bytes s =
      then_reads (string_object bytes s) _ (string_idle bytes s) (λ address t same.
      refused_reads t (nat_lt size (length bytes)) 9 place _ (λ fits.
      gives_reads t (init.Text bytes (size - length bytes)) (moved (Alone s) [] (progress s) (progress t) same (alone_none s))))

  other_reads : (n : Progress) (read : Seen → Read Found) (s : Seen) → Reads initial_spots (IsInitial fixed (ExprStands e) n) (by_other fixed read s)
  unfolding and_then
  other_reads n read s = whatever_reads (read s) _ (λ f t. refused_reads t (is_unfixed fixed f) 7 f.place _ (λ known. fails_reads 9 f.place))

  mutex_named_reads : (at : Span) (entity : Option Entity) (s : Seen) → Reads initial_spots (Alone s) (mutex_named fixed at entity s)
  unfolding initializer_spots
  mutex_named_reads at (Some MutexInitializer) s = gives_reads s init.Mutex (alone_none s)
  mutex_named_reads at entity s = other_reads (progress s) (name false at) s

  by_name_reads : (at : Span) (s : Seen) → Reads initial_spots (Alone s) (by_name fixed at s)
  unfolding by_name name_number and_then
  by_name_reads at s = mutex_named_reads at (found s.scopes (number_of s.names (text_of s.source at))) (record s { names = noted s.names (text_of s.source at) })

object_by_reads : (fixed : Bool) (t : CType) (e : tree.Expr) (s : Seen) → Reads initial_spots (IsInitial fixed (ExprStands e) (progress s)) (object_by fixed t e s)
object_by_reads fixed (Array' p (more_of-CType Char end_of-CType) size) (tree.Text strings) s =
    text_fits_reads fixed (tree.Text strings) (first_place strings) size (text_in s.source strings) s
object_by_reads fixed Mutex (tree.Name at) s = by_name_reads fixed (tree.Name at) at s
object_by_reads fixed t e s = other_reads fixed e (progress s) (expression e) s

by_expression_reads : (fixed : Bool) (t : CType) (e : tree.Expr) (s : Seen) → Reads initial_spots (IsInitial fixed (ExprStands e) (progress s)) (by_expression fixed t e s)
unfolding by_expression
by_expression_reads fixed t e s = of (is_scalar t)
  where
    of : (test : Bool) → Reads initial_spots (IsInitial fixed (ExprStands e) (progress s)) ((if test then scalar_by fixed t (expression e) else object_by fixed t e) s)
    of true = scalar_by_reads fixed t e s
    of false = object_by_reads fixed t e s

-- in braces
zero_spots : (e : Expr) → is_zero e ≡ true → spots e [] ≡ []
unfolding spots
zero_spots (expr.Number sign bits) is = refl
zero_spots e is = absurd (cc)

braced_spots : (e : Expr) → initial_spots (braced_node e) ≡ spots e []
unfolding initializer_spots
braced_spots e = of (is_zero e) refl
  where
    of : (zero : Bool) → is_zero e ≡ zero → initial_spots (if zero then init.Zeros 1 else init.Value Braced e) ≡ spots e []
    of true is = sym (zero_spots e is)
    of false is = refl

initial_further : (fixed : Bool) (stands : ℕ → ℕ → Type 0) (n : Progress) (xs : List Spot) (m : Progress) → IsInitial fixed stands n xs m → IsInitial fixed (Then stands AtMost) n xs m
initial_further fixed stands n xs m p = record { run = further_at stands n xs m p.run; quiet = p.quiet }

braced_reads : {n : _} (fixed : Bool) (place : ℕ) (t : CType) (is : Row_of-Init n) (s : Seen) → Reads initial_spots (IsInitial fixed (InitsStand is) (progress s)) (braced fixed place t is s)
unfolding InitStands and_then
braced_reads fixed place t (more_of-Init (written.Value e) end_of-Init) s =
    then_reads (scalar fixed t (expression e) s) _ (scalar_reads fixed t e s) (λ v w p.
    gives_reads w (braced_node v.node) (subst (λ xs. IsInitial fixed (Then (ExprStands e) AtMost) (progress s) xs (progress w)) (sym (braced_spots v.node))
    (initial_further fixed (ExprStands e) (progress s) (operand_spots v) (progress w) p)))
braced_reads fixed place t (more_of-Init (written.Value e) (more_of-Init i is)) s =
    then_reads (scalar fixed t (expression e) s) _ (scalar_reads fixed t e s) (λ v w p. fails_reads 9 place)
braced_reads fixed place t end_of-Init s = fails_reads 9 place
braced_reads fixed place t (more_of-Init (written.List' p _ inits) rest) s = fails_reads 9 place

-- the parts of an object
listed_spots_are : (words : ℕ) (given : List Initializer) → initial_spots (listed words given) ≡ listed_spots given []
unfolding initializer_spots
listed_spots_are words (form.Value Bare e ∷ []) = of (is_zero e) refl
  where
    of : (zero : Bool) → is_zero e ≡ zero → initial_spots (if zero then init.Zeros words else init.List (init.Value Bare e ∷ []) (words - 1)) ≡ spots e []
    of true is = sym (zero_spots e is)
    of false is = list_spots_are (init.Value Bare e ∷ []) (words - 1) []
listed_spots_are words given = list_spots_are given (words - sum (map initializer_words given)) []

module _ (P : List Spot → Progress → Type 0) (Q : Progress → List Spot → Progress → Type 0) (R : List Spot → Progress → Type 0) (joined : (xs ys : List Spot) (m l : Progress) → P xs m → Q m ys l → R (xs ++ ys) l)
    (place : ℕ) (given : List Initializer) (read : CType → Seen → Read Initializer) (rest : Initializer → Seen → Read Initializer) (s : Seen)
    (reads : (x : CType) → Reads initial_spots P (read x s))
    (rest_reads : (y : Initializer) (v : Seen) → Reads initial_spots (IsMore (listed_spots (given ++ y ∷ []) []) (Q (progress v))) (rest y v)) where
  part_as_reads : (found : Option CType) → Reads initial_spots (IsMore (listed_spots given []) R) (part_as place read rest found s)
  unfolding and_then
  part_as_reads None = fails_reads 9 place
  part_as_reads (Some x) =
      then_reads (read x s) _ (reads x) (λ y v p.
      reads_as (rest y v) (rest_reads y v) (λ all m q. record {
        more = initial_spots y ++ q.more;
        is = q.is ∙ (ap (λ zs. zs ++ q.more) (listed_more given y) ∙ append_assoc (listed_spots given []) (initial_spots y) q.more);
        holds = joined (initial_spots y) q.more (progress v) m p q.holds;
      }))

  part_reads : (t : CType) (index : ℕ) → Reads initial_spots (IsMore (listed_spots given []) R) (part place t index read rest s)
  unfolding part and_then
  part_reads t index = part_as_reads (part_type s.structures t index)

all_parts : (fixed : Bool) (stands : ℕ → ℕ → Type 0) (n : Progress) (r : Read Initializer) → Reads initial_spots (IsMore [] (IsInitial fixed stands n)) r
    → Reads initial_spots (IsInitial fixed stands n) r
all_parts fixed stands n r h = reads_as r h (λ i m x. subst (λ xs. IsInitial fixed stands n xs m) (sym x.is) x.holds)

lists_read : (fixed : Bool) (stands : ℕ → ℕ → Type 0) → ((from to : ℕ) → stands from to → from ≤ to) → (place : ℕ) (t : CType) (is_empty : Bool) (zeroing : List ℕ → Bool)
    (scalar_read parts_read : Seen → Read Initializer) (s : Seen) → Reads initial_spots (IsInitial fixed stands (progress s)) (scalar_read s)
    → Reads initial_spots (IsInitial fixed stands (progress s)) (parts_read s)
    → Reads initial_spots (IsInitial fixed stands (progress s)) (by_list place t is_empty zeroing scalar_read parts_read s)
unfolding by_list initializer_spots
lists_read fixed stands far place t is_empty zeroing scalar_read parts_read s p q = of is_empty (zeroing s.source) (is_scalar t) (is_aggregate t)
  where
    of : (empty zero scalar aggregate : Bool) → Reads initial_spots (IsInitial fixed stands (progress s))
        (if empty then Bad 9 place
        else if zero then Good (init.Zeros (words_of s.structures t)) s
        else if scalar then scalar_read s
        else if aggregate then parts_read s
        else Bad 9 place)
    of true zero scalar aggregate = fails_reads 9 place
    of false true scalar aggregate = gives_reads s (init.Zeros (words_of s.structures t)) (initial_none fixed stands (progress s) far)
    of false false true aggregate = p
    of false false false true = q
    of false false false false = fails_reads 9 place

behind_initial : (fixed : Bool) (stands : ℕ → ℕ → Type 0) (n : Progress) (r : Read Initializer) → Reads initial_spots (IsInitial fixed stands n) r
    → Reads initial_spots (IsInitial fixed (Behind stands) n) r
behind_initial fixed stands n r h = reads_as r h (λ i m p. record { run = behind_at stands n (initial_spots i) m p.run; quiet = p.quiet })

mutual
  unfolding initialized InitStands finished and_then

  pub initialized_reads : (i : Init) (fixed : Bool) (t : CType) (s : Seen) → Reads initial_spots (IsInitial fixed (InitStands i) (progress s)) (initialized fixed t i s)
  initialized_reads (written.Value e) fixed t s = by_expression_reads fixed t e s
  initialized_reads (written.List' place _ inits) fixed t s =
      behind_initial fixed (InitsStand inits) (progress s) _
      (lists_read fixed (InitsStand inits) (inits_far inits) place t (nat_eq (count inits) 0) (is_zeroing inits) (braced fixed place t inits) (parts fixed place t 0 [] inits) s
      (braced_reads fixed place t inits s) (all_parts fixed (InitsStand inits) (progress s) _ (parts_read inits fixed place t 0 [] s)))

  parts_read : {n : _} (is : Row_of-Init n) (fixed : Bool) (place : ℕ) (t : CType) (index : ℕ) (given : List Initializer) (s : Seen)
      → Reads initial_spots (IsMore (listed_spots given []) (IsInitial fixed (InitsStand is) (progress s))) (parts fixed place t index given is s)
  parts_read end_of-Init fixed place t index given s =
      gives_reads s (listed (words_of s.structures t) given) (record {
        more = [];
        is = listed_spots_are (words_of s.structures t) given ∙ sym (append-nil (listed_spots given []));
        holds = initial_none fixed AtMost (progress s) (λ from to h. h);
      })
  parts_read (more_of-Init i is) fixed place t index given s =
      part_reads (IsInitial fixed (InitStands i) (progress s)) (IsInitial fixed (InitsStand is)) (IsInitial fixed (Then (InitStands i) (InitsStand is)) (progress s))
      (initial_joined fixed (InitStands i) (InitsStand is) (progress s)) place given (λ x. initialized fixed x i) (λ y. parts fixed place t (index + 1) (given ++ y ∷ []) is) s
      (λ x. initialized_reads i fixed x s) (λ y v. parts_read is fixed place t (index + 1) (given ++ y ∷ []) v) t index
