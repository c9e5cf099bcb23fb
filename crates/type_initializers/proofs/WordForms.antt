-- How many words each form of initializers stores.
use Rattle.std.proofs.Common.{◌≡◌, ◌∙◌, refl, sym, ap, ℕ, ◌+◌, List, [], ◌∷◌, map, length, sum}
use Rattle.std.proofs.lemmas.List.Sums.{sum_by-cons}
use denote.Hole.Carrier.{hidden}
use Rattle.core_unit.proofs.Sums.{IsSumOf, few, told_sum}
use Rattle.core_unit.specs.declared.body.Braces.{Braces}
use Rattle.core_unit.specs.declared.body.Initializer.{Initializer}
use Rattle.core_unit.specs.declared.body.Initializer.TheBlock.{hidden-the_row-Initializer-0, shape-the_row-Initializer-0}
use Rattle.core_unit.specs.declared.body.Initializer.TheVariants as init
use Rattle.core_unit.specs.declared.expressions.Expr.{Expr}
use Rattle.type_rules.specs.InitialValues.{initializer_words, initializers_words}

-- a list's words are those of its first part and those of the rest
pub words-more : (i : Initializer) (is : List Initializer) → sum (map initializer_words (i ∷ is)) ≡ initializer_words i + sum (map initializer_words is)
words-more i is = sum_by-cons (λ (n : ℕ). n) (initializer_words i) (map initializer_words is)

words_row : (is : List Initializer) → initializers_words (hidden-the_row-Initializer-0 is) ≡ sum (map initializer_words is)
unfolding initializer_words hidden hidden-the_row-Initializer-0 shape-the_row-Initializer-0
words_row [] = refl
words_row (i ∷ is) = ap (λ n. initializer_words i + n) (words_row is) ∙ sym (words-more i is)

pub words-Absent : (n : ℕ) → initializer_words (init.Absent n) ≡ n
unfolding initializer_words
words-Absent n = refl

pub words-Value : (b : Braces) (e : Expr) → initializer_words (init.Value b e) ≡ 1
unfolding initializer_words
words-Value b e = refl

pub words-List : (is : List Initializer) (padding : ℕ) → initializer_words (init.List is padding) ≡ sum (map initializer_words is) + padding
unfolding initializer_words hidden hidden-the_row-Initializer-0 shape-the_row-Initializer-0
words-List is padding = ap (λ n. n + padding) (words_row is)

pub words-Text : (bytes : List ℕ) (padding : ℕ) → initializer_words (init.Text bytes padding) ≡ length bytes + padding
unfolding initializer_words
words-Text bytes padding = refl

pub words-Zeros : (n : ℕ) → initializer_words (init.Zeros n) ≡ n
unfolding initializer_words
words-Zeros n = refl

pub words-Mutex : initializer_words init.Mutex ≡ 1
unfolding initializer_words
words-Mutex = refl

pub words_sum : IsSumOf initializer_words (λ is. sum (map initializer_words is))
words_sum = record { none = refl; more = λ i is. words-more i is }

pub ruleset word_rules = (few, words-Absent, words-Value, words-List, words-Text, words-Zeros, words-Mutex)
