-- The words that the entry is called with, one by one: as many as its parameters.
use Rattle.std.proofs.Common.{◌≡◌, refl, sym, ap, ◌∙◌, subst, arith, ℕ, zero, suc, ◌+◌, ◌<◌, ◌≤◌, Bool, true, false, if◌then◌else◌, List, [], ◌∷◌, ◌++◌, length, drop, Some, None, slice_get, slice_index_or, get_or}
use Rattle.std.specs.Prelude.{ℤ, pos}
use Rattle.std.specs.Option.{option_map_or}
use Rattle.std.proofs.lemmas.List.{append_assoc, drop_more, get_or-drop}
use Rattle.std.proofs.lemmas.Option.{slice_get_within, get_or_from_slice_get}
use Rattle.arithmetic.specs.Numbers.{bits_of}
use Rattle.arithmetic.specs.Values.{number}
use Rattle.core_unit.specs.Units.{IsUnit, IsFunction}
use Rattle.core_unit.specs.Words.{packed}
use Rattle.core_unit.specs.declared.tables.FunctionInfo.{FunctionInfo}
use Rattle.core_unit.specs.declared.tables.UnitParts.{UnitParts}
use Rattle.eff_types.specs.Types.{is_number}
use Rattle.eff_types.specs.declared.types.CType.{CType}
use Rattle.src_model.specs.Runs.{argument_words}
use Rattle.thread_run.specs.Threads.{entry_words}
use Rattle.thread_run.specs.Worlds.{WorldParts}

long_if : (b : Bool) (word : ℕ) (xs ys : List ℕ) (n : ℕ) → length xs ≡ n → length ys ≡ n → length (if b then word ∷ xs else 0 ∷ ys) ≡ suc n
long_if true word xs ys n p q = ap suc p
long_if false word xs ys n p q = ap suc q

pub words_many : (ts : List CType) (arguments : List ℤ) → length (argument_words ts arguments) ≡ length ts
words_many [] arguments = refl
words_many (t ∷ ts) arguments = long_if (is_number t) _ (argument_words ts (drop 1 arguments)) (argument_words ts arguments) (length ts) (words_many ts (drop 1 arguments)) (words_many ts arguments)

pub few_at : (u : UnitParts) → IsUnit u → (function : ℕ) (info : FunctionInfo) → slice_get u.functions function ≡ Some info → length info.kind.params ≤ 16
few_at u lawful function info e =
    let f : IsFunction u info = subst (IsFunction u) (get_or_from_slice_get u.functions function info info e) (lawful.functions function info (slice_get_within u.functions function info e)) in
    f.few

-- where there is no such function, it is called with none
pub none_here : (w : WorldParts) (arguments : List ℤ) (items : List ℕ) → items ≡ [] → slice_get w.unit.functions w.code.entry ≡ None → items ≡ entry_words w.unit w.code.entry arguments
none_here w arguments items e none = e ∙ sym (ap (λ o. option_map_or (λ (f : FunctionInfo). argument_words f.kind.params arguments) o []) none)

-- behind those that are used stand the argument at their number and the rest
first_left : (xs : List ℤ) (used : ℕ) → slice_index_or (drop used xs) 0 (pos 0) ≡ slice_index_or xs used (pos 0)
first_left xs used = get_or-drop used xs 0 (pos 0) ∙ ap (λ n. slice_index_or xs n (pos 0)) (omega arith)

none_left : (n : ℕ) → drop {A = ℤ} n [] ≡ []
none_left zero = refl
none_left (suc n) = refl

rest_left : (xs : List ℤ) (used : ℕ) → drop 1 (drop used xs) ≡ drop (used + 1) xs
rest_left [] used = ap (drop 1) (none_left used) ∙ sym (none_left (used + 1))
rest_left (x ∷ xs) zero = refl
rest_left (x ∷ xs) (suc n) = let next : suc (n + 1) ≡ suc n + 1 = omega arith in rest_left xs n ∙ ap (λ m. drop m (x ∷ xs)) next

-- a parameter more
module _ (ts : List CType) (arguments : List ℤ) (k used : ℕ) (t : CType) (words : List ℕ) (so_far : words ++ argument_words (drop k ts) (drop used arguments) ≡ argument_words ts arguments) (below : k < length ts) (is : t ≡ get_or ts k t) where
  front : drop k ts ≡ t ∷ drop (k + 1) ts
  front = drop_more ts k t below ∙ ap (λ x. x ∷ drop (k + 1) ts) (sym is)

  whole : (b : Bool) → is_number t ≡ b → words ++ (if b then packed (number (bits_of (slice_index_or (drop used arguments) 0 (pos 0)))) ∷ argument_words (drop (k + 1) ts) (drop 1 (drop used arguments)) else 0 ∷ argument_words (drop (k + 1) ts) (drop used arguments)) ≡ argument_words ts arguments
  whole b e = ap (λ x. words ++ (if x then packed (number (bits_of (slice_index_or (drop used arguments) 0 (pos 0)))) ∷ argument_words (drop (k + 1) ts) (drop 1 (drop used arguments)) else 0 ∷ argument_words (drop (k + 1) ts) (drop used arguments))) (sym e)
      ∙ ap (λ xs. words ++ argument_words xs (drop used arguments)) (sym front) ∙ so_far

  pub number_more : is_number t ≡ true → (word : ℕ) (new : List ℕ) → word ≡ packed (number (bits_of (slice_index_or arguments used (pos 0)))) → new ≡ words ++ word ∷ [] → new ++ argument_words (drop (k + 1) ts) (drop (used + 1) arguments) ≡ argument_words ts arguments
  number_more e word new w n =
      ap (λ xs. xs ++ argument_words (drop (k + 1) ts) (drop (used + 1) arguments)) n
      ∙ append_assoc words (word ∷ []) (argument_words (drop (k + 1) ts) (drop (used + 1) arguments))
      ∙ ap (λ x. words ++ x ∷ argument_words (drop (k + 1) ts) (drop (used + 1) arguments)) (w ∙ ap (λ x. packed (number (bits_of x))) (sym (first_left arguments used)))
      ∙ ap (λ xs. words ++ packed (number (bits_of (slice_index_or (drop used arguments) 0 (pos 0)))) ∷ argument_words (drop (k + 1) ts) xs) (sym (rest_left arguments used))
      ∙ whole true e

  pub pointer_more : is_number t ≡ false → (new : List ℕ) → new ≡ words ++ 0 ∷ [] → new ++ argument_words (drop (k + 1) ts) (drop used arguments) ≡ argument_words ts arguments
  pointer_more e new n =
      ap (λ xs. xs ++ argument_words (drop (k + 1) ts) (drop used arguments)) n
      ∙ append_assoc words (0 ∷ []) (argument_words (drop (k + 1) ts) (drop used arguments))
      ∙ whole false e
