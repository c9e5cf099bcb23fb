-- What an initializer stores fills its object: the words of its parts, and zeros behind them.
use Rattle.std.proofs.Common.{◌≡◌, ℕ, zero, suc, ◌<◌, ◌≤◌, ◌+◌, ◌-◌, Bool, true, false, refl, sym, ◌∙◌, ap, subst, List, [], ◌∷◌, ◌++◌, map, sum, length, length-append, replicate, slice_get, Some, arith, All}
use Rattle.std.proofs.lemmas.List.{length-map, length-replicate}
use Rattle.std.proofs.lemmas.List.Sums.{sum_by-cons}
use Rattle.std.specs.Prelude.{not, if◌then◌else◌}
use denote.Hole.Carrier.{hidden}
use Rattle.eff_types.specs.declared.types.CType.{CType}
use Rattle.core_unit.specs.Layout.{words_of}
use Rattle.core_unit.specs.Shapes.{is_aggregate}
use Rattle.core_unit.specs.Stores.{stores, all_stores, Byte, Zero, Undefined}
use Rattle.core_unit.specs.Typed.{Tables, IsInitializer, AreInitializers, part_types, is_zero, is_absent, is_listed}
use Rattle.core_unit.specs.declared.body.Braces.TheVariants.{Bare, Braced}
use Rattle.core_unit.specs.declared.body.Initializer as form
use Rattle.core_unit.specs.declared.body.Initializer.{Initializer, Row_of-Initializer, end_of-Initializer, more_of-Initializer}
use Rattle.core_unit.specs.declared.body.Initializer.TheBlock.{hidden-the_row-Initializer-0, shape-the_row-Initializer-0}
use Rattle.core_unit.specs.declared.body.Initializer.TheVariants as init
use Rattle.core_unit.specs.declared.expressions.Expr.{Expr}
use Rattle.core_unit.specs.declared.tables.StructInfo.{StructInfo}
use Rattle.type_rules.specs.InitialValues.{initializer_words, initializers_words}
use Rattle.type_rules.specs.Initializers.{listed}
use Rattle.type_laws.proofs.Each.{Each}

pub all_of_each : {A : Type 0} (P : A → Type 0) (xs : List A) → Each P xs → All P xs
all_of_each P [] each k d below = absurd (omega arith)
all_of_each P (x ∷ xs) each zero d below = each.0
all_of_each P (x ∷ xs) each (suc k) d below = all_of_each P xs each.1 k d (omega arith)

-- an initializer of a type, with the words of the type
abbrev pub IsFilled : Tables → CType → Initializer → Type 0
IsFilled u t i = IsInitializer u t i × (is_absent i ≡ false) × (initializer_words i ≡ words_of u.structures t)

-- those of the first parts
abbrev pub AreFilled : Tables → List CType → List Initializer → Type 0
AreFilled u ts [] = Unit {0}
AreFilled u (t ∷ ts) (i ∷ is) = IsFilled u t i × AreFilled u ts is
AreFilled u [] (i ∷ is) = ⊥

pub filled_more : (u : Tables) (ts : List CType) (given : List Initializer) (t : CType) (i : Initializer) → AreFilled u ts given → slice_get ts (length given) ≡ Some t
    → IsFilled u t i → AreFilled u ts (given ++ i ∷ [])
filled_more u (x ∷ xs) [] t i filled there here = let same : x ≡ t = cc in (subst (λ y. IsFilled u y i) (sym same) here, tt)
filled_more u (x ∷ xs) (g ∷ gs) t i filled there here = (filled.0, filled_more u xs gs t i filled.1 there here)
filled_more u [] [] t i filled there here = absurd (cc)
filled_more u [] (g ∷ gs) t i filled there here = filled

filled_row : (u : Tables) (ts : List CType) (given : List Initializer) → AreFilled u ts given → AreInitializers u ts (hidden-the_row-Initializer-0 given)
unfolding IsInitializer hidden hidden-the_row-Initializer-0 shape-the_row-Initializer-0
filled_row u ts [] filled = tt
filled_row u (t ∷ ts) (i ∷ is) filled = (filled.0.0, filled.0.1, filled_row u ts is filled.1)
filled_row u [] (i ∷ is) filled = filled

-- the words of all types of a list
abbrev pub total : List StructInfo → List CType → ℕ
total structures [] = 0
total structures (t ∷ ts) = words_of structures t + total structures ts

filled_sum : (u : Tables) (ts : List CType) (given : List Initializer) → AreFilled u ts given → sum (map initializer_words given) ≤ total u.structures ts
filled_sum u ts [] filled = omega arith
filled_sum u (t ∷ ts) (i ∷ is) filled =
    let first = sum_by-cons (λ (x : ℕ). x) (initializer_words i) (map initializer_words is) in
    let here = filled.0.2 in
    let rest = filled_sum u ts is filled.1 in
    omega (arith, first)
filled_sum u [] (i ∷ is) filled = absurd filled

pub part_of_total : (structures : List StructInfo) (ts : List CType) (k : ℕ) (t : CType) → slice_get ts k ≡ Some t → words_of structures t ≤ total structures ts
part_of_total structures [] k t e = absurd (cc)
part_of_total structures (x ∷ xs) zero t e = let same : x ≡ t = cc in subst (λ y. words_of structures y ≤ words_of structures x + total structures xs) same (omega arith)
part_of_total structures (x ∷ xs) (suc k) t e = let rest = part_of_total structures xs k t e in omega arith

-- so many words are stored
mutual
  unfolding stores initializer_words

  pub stored_words : (i : Initializer) → length (stores i) ≡ initializer_words i
  stored_words (form.Absent words) = length-replicate words Undefined
  stored_words (form.Value _ e) = refl
  stored_words (form.List' _ is zeros) =
      let rest = all_stored_words is in
      let sums = length-append (all_stores is) (replicate zeros Zero) in
      let none = length-replicate zeros Zero in
      omega (arith, rest, sums, none)
  stored_words (form.Text bytes zeros) =
      let sums = length-append (map Byte bytes) (replicate zeros Zero) in
      let none = length-replicate zeros Zero in
      let all = length-map bytes Byte in
      omega (arith, sums, none, all)
  stored_words (form.Zeros words) = length-replicate words Zero
  stored_words form.Mutex = refl

  all_stored_words : {n : _} (is : Row_of-Initializer n) → length (all_stores is) ≡ initializers_words is
  all_stored_words end_of-Initializer = refl
  all_stored_words (more_of-Initializer i is) =
      let sums = length-append (stores i) (all_stores is) in
      let here = stored_words i in
      let rest = all_stored_words is in
      omega (arith, sums, here, rest)

row_words : (given : List Initializer) → initializers_words (hidden-the_row-Initializer-0 given) ≡ sum (map initializer_words given)
unfolding initializer_words hidden hidden-the_row-Initializer-0 shape-the_row-Initializer-0
row_words [] = refl
row_words (i ∷ is) = ap (λ n. initializer_words i + n) (row_words is) ∙ sym (sum_by-cons (λ (x : ℕ). x) (initializer_words i) (map initializer_words is))

list_words : (given : List Initializer) (zeros : ℕ) → initializer_words (init.List given zeros) ≡ sum (map initializer_words given) + zeros
unfolding initializer_words hidden hidden-the_row-Initializer-0 shape-the_row-Initializer-0
list_words given zeros = ap (λ n. n + zeros) (row_words given)

-- a list of initializers
pub filled-List : (u : Tables) (t : CType) (given : List Initializer) (zeros : ℕ) → is_aggregate t ≡ true → is_listed (hidden-the_row-Initializer-0 given) ≡ true
    → AreFilled u (part_types u.structures t) given → initializer_words (init.List given zeros) ≡ words_of u.structures t → IsFilled u t (init.List given zeros)
unfolding IsInitializer hidden hidden-the_row-Initializer-0 shape-the_row-Initializer-0
filled-List u t given zeros aggregate listed filled words =
    ((aggregate, listed, filled_row u (part_types u.structures t) given filled, stored_words (init.List given zeros) ∙ words), refl, words)

pub filled-Zeros : (u : Tables) (t : CType) (words : ℕ) → words ≡ words_of u.structures t → IsFilled u t (init.Zeros words)
unfolding IsInitializer initializer_words
filled-Zeros u t words e = (e, refl, e)

all_listed : (given : List Initializer) (zeros : ℕ) (words : ℕ) → zeros ≡ words - sum (map initializer_words given) → sum (map initializer_words given) ≤ words
    → initializer_words (init.List given zeros) ≡ words
all_listed given zeros words e fits = list_words given zeros ∙ (omega arith)

-- one number 0 alone zeroes the object, and all other lists are lists
module _ (u : Tables) (t : CType) (words : ℕ) (aggregate : is_aggregate t ≡ true) (is : words ≡ words_of u.structures t) where
  list_filled : (given : List Initializer) → is_listed (hidden-the_row-Initializer-0 given) ≡ true → AreFilled u (part_types u.structures t) given
      → sum (map initializer_words given) ≤ words → IsFilled u t (init.List given (words - sum (map initializer_words given)))
  list_filled given listed filled fits =
      filled-List u t given (words - sum (map initializer_words given)) aggregate listed filled
      (all_listed given (words - sum (map initializer_words given)) words refl fits ∙ is)

  one_filled : (e : Expr) (zeroes : Bool) → is_zero e ≡ zeroes → AreFilled u (part_types u.structures t) (init.Value Bare e ∷ []) → 1 ≤ words
      → IsFilled u t (if zeroes then init.Zeros words else init.List (init.Value Bare e ∷ []) (words - 1))
  unfolding initializer_words hidden hidden-the_row-Initializer-0 shape-the_row-Initializer-0
  one_filled e true zeroes filled fits = filled-Zeros u t words is
  one_filled e false zeroes filled fits =
      filled-List u t (init.Value Bare e ∷ []) (words - 1) aggregate (ap not zeroes) filled (all_listed (init.Value Bare e ∷ []) (words - 1) words refl (omega arith) ∙ is)

  pub listed_filled : (given : List Initializer) → 0 < length given → AreFilled u (part_types u.structures t) given → sum (map initializer_words given) ≤ words
      → IsFilled u t (listed words given)
  unfolding initializer_words hidden hidden-the_row-Initializer-0 shape-the_row-Initializer-0
  listed_filled [] some filled fits = absurd (omega arith)
  listed_filled (form.Value Bare e ∷ []) some filled fits = one_filled e (is_zero e) refl filled (omega arith)
  listed_filled (form.Value Braced e ∷ []) some filled fits = list_filled (form.Value Braced e ∷ []) refl filled fits
  listed_filled (form.Absent n ∷ []) some filled fits = list_filled (form.Absent n ∷ []) refl filled fits
  listed_filled (form.List' s is zeros ∷ []) some filled fits = list_filled (form.List' s is zeros ∷ []) refl filled fits
  listed_filled (form.Text bytes zeros ∷ []) some filled fits = list_filled (form.Text bytes zeros ∷ []) refl filled fits
  listed_filled (form.Zeros n ∷ []) some filled fits = list_filled (form.Zeros n ∷ []) refl filled fits
  listed_filled (form.Mutex ∷ []) some filled fits = list_filled (form.Mutex ∷ []) refl filled fits
  listed_filled (form.Value Bare e ∷ j ∷ js) some filled fits = list_filled (form.Value Bare e ∷ j ∷ js) refl filled fits
  listed_filled (form.Value Braced e ∷ j ∷ js) some filled fits = list_filled (form.Value Braced e ∷ j ∷ js) refl filled fits
  listed_filled (form.Absent n ∷ j ∷ js) some filled fits = list_filled (form.Absent n ∷ j ∷ js) refl filled fits
  listed_filled (form.List' s is zeros ∷ j ∷ js) some filled fits = list_filled (form.List' s is zeros ∷ j ∷ js) refl filled fits
  listed_filled (form.Text bytes zeros ∷ j ∷ js) some filled fits = list_filled (form.Text bytes zeros ∷ j ∷ js) refl filled fits
  listed_filled (form.Zeros n ∷ j ∷ js) some filled fits = list_filled (form.Zeros n ∷ j ∷ js) refl filled fits
  listed_filled (form.Mutex ∷ j ∷ js) some filled fits = list_filled (form.Mutex ∷ j ∷ js) refl filled fits

  -- no more words than the object has
  pub sum_fits : (given : List Initializer) → AreFilled u (part_types u.structures t) given → total u.structures (part_types u.structures t) ≤ words
      → sum (map initializer_words given) ≤ words
  sum_fits given filled fits = let sums = filled_sum u (part_types u.structures t) given filled in omega arith
