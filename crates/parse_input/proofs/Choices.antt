-- Tests of the next token, choices by them, and parts that are one rule.
use Rattle.std.proofs.Common.{◌≡◌, refl, zero, Bool, true, false, cond, ◌||◌, List, [], ◌∷◌, ap}
use Rattle.grammar.specs.Parser.{Outcome, Got, Bad, after, deepen}
use Rattle.c_grammar.specs.Lexemes.{Lexeme}
use Rattle.parse_input.specs.Input.{sees}
use Rattle.parse_input.proofs.Steps.{max_zero}

-- a test, written in another way
pub sees_alike : (one other : Lexeme → Bool) → ((t : Lexeme) → one t ≡ other t) → (ts : List Lexeme) → sees one ts ≡ sees other ts
unfolding sees
sees_alike one other same [] = refl
sees_alike one other same (t ∷ ts) = same t

pub sees_never : (ts : List Lexeme) → sees (λ t. false) ts ≡ false
unfolding sees
sees_never [] = refl
sees_never (t ∷ ts) = refl

pub or_false : (b : Bool) → (b || false) ≡ b
or_false true = refl
or_false false = refl

-- parts that begin with one rule, which is not empty
pub sees_first : (test : Lexeme → Bool) (ts : List Lexeme) → sees (λ t. test t || false) ts ≡ sees test ts
sees_first test ts = sees_alike (λ t. test t || false) test (λ t. or_false (test t)) ts

-- parts that are one rule
pub passed : {A : Type 0} (o : Outcome Lexeme A) → after (λ x d left. deepen d (Got x zero left)) o ≡ o
passed (Got x d left) = ap (λ n. Got x n left) (max_zero d)
passed (Bad deep left) = refl

-- a choice, part by part
pub either : {A : Type 0} {b c : Bool} {x y v w : A} → b ≡ c → x ≡ v → y ≡ w → cond b x y ≡ cond c v w
either e f g = rw (e, f, g) refl

-- the same test of the same token
pub twice : {A : Type 0} (b : Bool) (x y z : A) → cond b (cond b x y) z ≡ cond b x z
twice true x y z = refl
twice false x y z = refl
