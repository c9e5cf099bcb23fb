-- Lists that are read item by item, and parts that are one rule.
use Rattle.std.proofs.Common.{◌≡◌, refl, ℕ, zero, max, List, [], ◌∷◌, ◌++◌, ap, ◌∙◌, append_assoc, sym, arith}
use Rattle.grammar.specs.Parts.{Return, Call}
use Rattle.grammar.specs.Parser.{Outcome, Got, Bad, after, deepen}
use Rattle.c_grammar.specs.Lexemes.{Lexeme}
use Rattle.c_grammar.specs.Rules.{Rule, ValueOf}
use Rattle.parse_input.specs.Reads.{reads}

-- these items, and their depth, in front of a list that is read
abbrev pub gathered : {A : Type 0} → List A → ℕ → Outcome Lexeme (List A) → Outcome Lexeme (List A)
gathered xs depth (Got more deeper left) = Got (xs ++ more) (max depth deeper) left
gathered xs depth (Bad deep left) = Bad deep left

pub gathered_none : {A : Type 0} (o : Outcome Lexeme (List A)) → o ≡ gathered [] 0 o
gathered_none (Got x d left) = ap (λ n. Got x n left) (zero_max d)
  where
    zero_max : (n : ℕ) → n ≡ max 0 n
    zero_max n = omega arith
gathered_none (Bad deep left) = refl

pub gathered_both : {A : Type 0} (xs ys : List A) (d e : ℕ) (o : Outcome Lexeme (List A))
    → gathered xs d (gathered ys e o) ≡ gathered (xs ++ ys) (max d e) o
gathered_both xs ys d e (Got more f left) = ap (λ all. Got all (max d (max e f)) left) (sym (append_assoc xs ys more)) ∙ ap (λ n. Got ((xs ++ ys) ++ more) n left) (max_three d e f)
  where
    max_three : (d e f : ℕ) → max d (max e f) ≡ max (max d e) f
    max_three d e f = omega arith
gathered_both xs ys d e (Bad deep left) = refl

-- one item, in front of the list that is read behind it
pub gathered_first : {A : Type 0} (x : A) (d : ℕ) (o : Outcome Lexeme (List A))
    → deepen d (after (λ more depth left. deepen depth (Got (x ∷ more) zero left)) o) ≡ gathered (x ∷ []) d o
gathered_first x d (Got more e left) = ap (λ n. Got (x ∷ more) (max d n) left) (max_zero e)
  where
    max_zero : (n : ℕ) → max n 0 ≡ n
    max_zero n = omega arith
gathered_first x d (Bad deep left) = refl

-- the value of what is read, by a function of it
abbrev pub mapped : {A B : Type 0} → (A → B) → Outcome Lexeme A → Outcome Lexeme B
mapped f (Got x depth left) = Got (f x) depth left
mapped f (Bad deep left) = Bad deep left

pub one_call : {A : Type 0} (call : (n : Rule) → List Lexeme → Outcome Lexeme (ValueOf n)) (n : Rule) (f : ValueOf n → A) (ts : List Lexeme)
    → reads call (Call n (λ x. Return (f x))) ts ≡ mapped f (call n ts)
one_call call n f ts = go (call n ts)
  where
    max_zero : (n : ℕ) → max n 0 ≡ n
    max_zero n = omega arith

    go : (o : Outcome Lexeme (ValueOf n)) → after (λ a depth left. deepen depth (Got (f a) zero left)) o ≡ mapped f o
    go (Got x d left) = ap (λ n. Got (f x) n left) (max_zero d)
    go (Bad deep left) = refl

pub mapped_same : {A : Type 0} (o : Outcome Lexeme A) → mapped (λ a. a) o ≡ o
mapped_same (Got x d left) = refl
mapped_same (Bad deep left) = refl
