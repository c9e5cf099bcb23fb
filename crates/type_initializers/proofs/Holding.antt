-- What initializers hold at first, part by part.
use Rattle.std.proofs.Common.{◌≡◌, ◌∙◌, refl, sym, ap, ℕ, ◌+◌, ◌<◌, ◌≤◌, nat_eq, Bool, true, false, if◌then◌else◌, List, [], ◌∷◌, ◌++◌, map, sum, length, get_or, drop, arith}
use Rattle.std.proofs.Math.ListN.{drop_of_length-le}
use Rattle.std.proofs.lemmas.List.{drop_more}
use denote.Hole.Carrier.{hidden}
use Rattle.core_unit.specs.declared.body.Braces.{Braces}
use Rattle.core_unit.specs.declared.body.Initializer.{Initializer}
use Rattle.core_unit.specs.declared.body.Initializer.TheBlock.{hidden-the_row-Initializer-0, shape-the_row-Initializer-0}
use Rattle.core_unit.specs.declared.body.Initializer.TheVariants as init
use Rattle.core_unit.specs.declared.expressions.Expr.{Expr}
use Rattle.core_unit.specs.declared.expressions.Storage.TheVariants as storage
use Rattle.core_unit.specs.declared.expressions.Storage.{Storage}
use Rattle.core_unit.specs.declared.words.Word.{Word}
use Rattle.core_unit.specs.declared.words.Word.TheVariants as word
use Rattle.type_initializers.proofs.Levels.{held-more, held-none}
use Rattle.type_initializers.proofs.WordForms.{word_rules, words-more}
use Rattle.type_initializers.specs.Held.{held, byte_word, values_from}
use Rattle.type_rules.specs.InitialValues.{initial_values, all_initial_values, initial_word, initializer_words, unless_zero}
use Rattle.type_rules.specs.Literals.{text_initially}
use Rattle.type_rules.specs.Reading.{Good}
use Rattle.type_rules.specs.Seen.{Seen}
use Rattle.type_rules.specs.Storage.{initially}
use Rattle.type_rules.specs.declared.notes.Initial.{Initial}

values_row : (at : ℕ) (is : List Initializer) → all_initial_values at (hidden-the_row-Initializer-0 is) ≡ values_from at is
unfolding initial_values values_from hidden hidden-the_row-Initializer-0 shape-the_row-Initializer-0
values_row at [] = refl
values_row at (i ∷ is) = ap (λ rest. initial_values at i ++ rest) (values_row (at + initializer_words i) is)

module _ (at : ℕ) where
  pub values-Absent : (n : ℕ) → initial_values at (init.Absent n) ≡ []
  unfolding initial_values
  values-Absent n = refl

  pub values-Value : (b : Braces) (e : Expr) → initial_values at (init.Value b e) ≡ unless_zero at (initial_word e)
  unfolding initial_values
  values-Value b e = refl

  pub values-List : (is : List Initializer) (padding : ℕ) → initial_values at (init.List is padding) ≡ values_from at is
  unfolding initial_values hidden hidden-the_row-Initializer-0 shape-the_row-Initializer-0
  values-List is padding = values_row at is

  pub values-Text : (bytes : List ℕ) (padding : ℕ) → initial_values at (init.Text bytes padding) ≡ text_initially at bytes
  unfolding initial_values
  values-Text bytes padding = refl

  pub values-Zeros : (n : ℕ) → initial_values at (init.Zeros n) ≡ []
  unfolding initial_values
  values-Zeros n = refl

  pub values-Mutex : initial_values at init.Mutex ≡ []
  unfolding initial_values
  values-Mutex = refl

pub initially-held : (s : Storage) (values : List Initial) (t : Seen) → initially s values t ≡ Good tt (held s values t)
initially-held (storage.Automatic offset) values t = refl
initially-held (storage.Static address) values t = refl
initially-held (storage.ThreadLocal offset) values t = refl

here : {A : Type 0} (xs : List A) (i : ℕ) (x : A) → i < length xs → x ≡ get_or xs i x → drop i xs ≡ x ∷ drop (i + 1) xs
here xs i x below is = drop_more xs i x below ∙ ap (λ y. y ∷ drop (i + 1) xs) (sym is)

-- one part more is noted
pub part-held : (s : Storage) (is : List Initializer) (n : ℕ) (i : Initializer) (at next : ℕ) (t u whole : Seen) → n < length is → i ≡ get_or is n i →
    whole ≡ held s (values_from at (drop n is)) t → u ≡ held s (initial_values at i) t → next ≡ at + initializer_words i →
    whole ≡ held s (values_from next (drop (n + 1) is)) u
unfolding values_from
part-held s is n i at next t u whole below at_n so_far noted moved =
    so_far ∙ ap (λ js. held s (values_from at js) t) (here is n i below at_n)
    ∙ sym (held-more s (initial_values at i) (values_from (at + initializer_words i) (drop (n + 1) is)) t)
    ∙ ap (λ v. held s (values_from (at + initializer_words i) (drop (n + 1) is)) v) (sym noted)
    ∙ ap (λ k. held s (values_from k (drop (n + 1) is)) u) (sym moved)

pub part-words : (is : List Initializer) (n : ℕ) (i : Initializer) (whole at next : ℕ) → n < length is → i ≡ get_or is n i →
    whole ≡ at + sum (map initializer_words (drop n is)) → next ≡ at + initializer_words i → whole ≡ next + sum (map initializer_words (drop (n + 1) is))
part-words is n i whole at next below at_n so_far moved =
    let front : sum (map initializer_words (drop n is)) ≡ initializer_words i + sum (map initializer_words (drop (n + 1) is)) =
    ap (λ js. sum (map initializer_words js)) (here is n i below at_n) ∙ words-more i (drop (n + 1) is) in omega arith

pub parts-held : (s : Storage) (is : List Initializer) (n at : ℕ) (t whole : Seen) → length is ≤ n → whole ≡ held s (values_from at (drop n is)) t → t ≡ whole
unfolding values_from
parts-held s is n at t whole past so_far = sym (so_far ∙ ap (λ js. held s (values_from at js) t) (drop_of_length-le is past) ∙ held-none s t)

pub parts-words : (is : List Initializer) (n at whole : ℕ) → length is ≤ n → whole ≡ at + sum (map initializer_words (drop n is)) → at ≡ whole
parts-words is n at whole past so_far =
    let none : sum (map initializer_words (drop n is)) ≡ 0 = ap (λ js. sum (map initializer_words js)) (drop_of_length-le is past) in omega arith

-- a byte of a text
by_test : (test : Bool) (x : Initial) (rest : List Initial) → (if test then rest else x ∷ rest) ≡ (if test then [] else x ∷ []) ++ rest
by_test true x rest = refl
by_test false x rest = refl

as_word : (at byte : ℕ) (test : Bool) → unless_zero at (if test then word.Zero else word.Number byte) ≡ (if test then [] else record { at = at; word = word.Number byte } ∷ [])
as_word at byte true = refl
as_word at byte false = refl

byte-more : (at byte : ℕ) (bytes : List ℕ) → text_initially at (byte ∷ bytes) ≡ unless_zero at (byte_word byte) ++ text_initially (at + 1) bytes
unfolding text_initially
byte-more at byte bytes =
    by_test (nat_eq byte 0) (record { at = at; word = word.Number byte }) (text_initially (at + 1) bytes)
    ∙ ap (λ front. front ++ text_initially (at + 1) bytes) (sym (as_word at byte (nat_eq byte 0)))

-- one byte more is noted
pub byte-held : (s : Storage) (bytes : List ℕ) (n at next : ℕ) (value : Word) (t u whole : Seen) → n < length bytes → value ≡ byte_word (get_or bytes n 0) →
    whole ≡ held s (text_initially at (drop n bytes)) t → u ≡ held s (unless_zero at value) t → next ≡ at + 1 →
    whole ≡ held s (text_initially next (drop (n + 1) bytes)) u
byte-held s bytes n at next value t u whole below is so_far noted moved =
    let byte : ℕ = get_or bytes n 0 in
    let rest : List ℕ = drop (n + 1) bytes in
    so_far ∙ ap (λ bs. held s (text_initially at bs) t) (drop_more bytes n 0 below)
    ∙ ap (λ values. held s values t) (byte-more at byte rest)
    ∙ sym (held-more s (unless_zero at (byte_word byte)) (text_initially (at + 1) rest) t)
    ∙ ap (λ v. held s (text_initially (at + 1) rest) v) (sym (noted ∙ ap (λ w. held s (unless_zero at w) t) is))
    ∙ ap (λ k. held s (text_initially k rest) u) (sym moved)

pub bytes-held : (s : Storage) (bytes : List ℕ) (n at : ℕ) (t whole : Seen) → length bytes ≤ n → whole ≡ held s (text_initially at (drop n bytes)) t → t ≡ whole
unfolding text_initially
bytes-held s bytes n at t whole past so_far = sym (so_far ∙ ap (λ bs. held s (text_initially at bs) t) (drop_of_length-le bytes past) ∙ held-none s t)

pub ruleset holding_rules = (held-none, word_rules, values-Absent, values-Value, values-List, values-Text, values-Zeros, values-Mutex)

pub ruleset kept_rules = (initially-held)
