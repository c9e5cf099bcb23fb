-- A question about all tokens is asked once for each terminal.
use Rattle.grammar.proofs.Checked.{alike, within, apart}
pub use Rattle.grammar.proofs.Checked.{alike_self}
use Rattle.std.proofs.Common.{◌≡◌, ℕ, zero, suc, Bool, true, false, not, ◌&&◌, ◌||◌, List, [], ◌∷◌, Option, Some, None, refl, subst}
use Rattle.c_text.specs.declared.Token.{Token}
use Rattle.c_grammar.specs.declared.terminal.Terminal.{Terminal}
use Rattle.c_grammar.specs.declared.terminal.Terminal.TheVariants as k
use Rattle.c_grammar.specs.Lexemes.{Lexeme, number, terminals}

-- all pass; of one alone only its own answer is asked
abbrev pub every : (Terminal → Bool) → List Terminal → Bool
every test [] = true
every test (s ∷ []) = test s
every test (s ∷ t ∷ rest) = test s && every test (t ∷ rest)

abbrev pub nth : ℕ → List Terminal → Option Terminal
nth n [] = None
nth zero (s ∷ rest) = Some s
nth (suc n) (s ∷ rest) = nth n rest

abbrev pub All : (Lexeme → Bool) → Type 0
All test = (text : List ℕ) (token : Token) → every (λ s. test (record { terminal = s; token = token; text = text })) terminals ≡ true

listed : (s : Terminal) → nth (number s) terminals ≡ Some s
listed k.Name = refl
listed _ = refl

and_first : (a b : Bool) → (a && b) ≡ true → a ≡ true
and_first true b h = refl
and_first false b h = h

and_second : (a b : Bool) → (a && b) ≡ true → b ≡ true
and_second true b h = h
and_second false b h = cc

of_every : (test : Terminal → Bool) (all : List Terminal) → every test all ≡ true → (n : ℕ) (s : Terminal) → nth n all ≡ Some s → test s ≡ true
of_every test [] h n s e = cc
of_every test (t ∷ []) h zero s e = let same : t ≡ s = cc in subst (λ u. test u ≡ true) same h
of_every test (t ∷ []) h (suc n) s e = cc
of_every test (t ∷ u ∷ rest) h zero s e =
    let same : t ≡ s = cc in subst (λ w. test w ≡ true) same (and_first (test t) (every test (u ∷ rest)) h)
of_every test (t ∷ u ∷ rest) h (suc n) s e = of_every test (u ∷ rest) (and_second (test t) (every test (u ∷ rest)) h) n s e

pub all : (test : Lexeme → Bool) → All test → (t : Lexeme) → test t ≡ true
all test h t =
    of_every (λ s. test (record { terminal = s; token = t.token; text = t.text })) terminals (h t.text t.token) (number t.terminal) t.terminal (listed t.terminal)

-- What is left of such a question is about the row of names alone, whose tests depend on the scope.
pub alike_one : (a : Bool) → alike a (a || false) ≡ true
alike_one true = refl
alike_one false = refl

pub alike_two : (a : Bool) → alike a ((a || false) || false) ≡ true
alike_two true = refl
alike_two false = refl

pub alike_three : (a : Bool) → alike a (((a || false) || false) || false) ≡ true
alike_three true = refl
alike_three false = refl

pub within_self : (a : Bool) → within a a ≡ true
within_self true = refl
within_self false = refl

pub within_one : (a : Bool) → within (a || false) a ≡ true
within_one true = refl
within_one false = refl

pub apart_not : (a : Bool) → apart (not a) a ≡ true
apart_not true = refl
apart_not false = refl

pub not_apart : (a : Bool) → apart a (not a) ≡ true
not_apart true = refl
not_apart false = refl

pub apart_not_one : (a : Bool) → apart a (not a || false) ≡ true
apart_not_one true = refl
apart_not_one false = refl

pub apart_none : (a : Bool) → apart a false ≡ true
apart_none true = refl
apart_none false = refl

pub within_false : (a : Bool) → within false a ≡ true
within_false true = refl
within_false false = refl

pub and_both : (a b : Bool) → a ≡ true → b ≡ true → (a && b) ≡ true
and_both true b p q = q
and_both false b p q = p

pub apart_or_not : (a : Bool) → apart (a || false) (not a || false) ≡ true
apart_or_not true = refl
apart_or_not false = refl

pub apart_guard : (a b : Bool) → apart ((a || false) || false) (((not a && b) || false) || false) ≡ true
apart_guard true b = refl
apart_guard false b = refl

pub or_none : (a : Bool) → (a || false) ≡ a
or_none true = refl
or_none false = refl

pub apart_also : (a b : Bool) → apart a (not a && b) ≡ true
apart_also true b = refl
apart_also false b = refl

pub names_differ : (a : Bool) → apart ((a || false) || false) (not a || false) ≡ true
names_differ true = refl
names_differ false = refl

pub ruleset rows = (or_none, apart_also, apart_or_not, alike_self, alike_one, alike_two, alike_three, within_self, within_one, apart_not, not_apart, apart_not_one, apart_none, within_false, and_both, apart_guard)

-- What holds whatever the tests are.
every_none : (test : Terminal → Bool) (all : List Terminal) → every (λ s. within false (test s)) all ≡ true
every_none test [] = refl
every_none test (s ∷ []) = within_false (test s)
every_none test (s ∷ t ∷ rest) = and_both (within false (test s)) (every (λ s. within false (test s)) (t ∷ rest)) (within_false (test s)) (every_none test (t ∷ rest))

every_self : (test : Terminal → Bool) (all : List Terminal) → every (λ s. within (test s) (test s)) all ≡ true
every_self test [] = refl
every_self test (s ∷ []) = within_self (test s)
every_self test (s ∷ t ∷ rest) = and_both (within (test s) (test s)) (every (λ s. within (test s) (test s)) (t ∷ rest)) (within_self (test s)) (every_self test (t ∷ rest))

pub none : (test : Lexeme → Bool) → All (λ t. within false (test t))
none test text token = every_none (λ s. test (record { terminal = s; token = token; text = text })) terminals

pub self : (test : Lexeme → Bool) → All (λ t. within (test t) (test t))
self test text token = every_self (λ s. test (record { terminal = s; token = token; text = text })) terminals

-- what calls a rule alone begins as the rule does
every_call : (test : Terminal → Bool) (all : List Terminal) → every (λ s. alike (test s) (test s || false)) all ≡ true
every_call test [] = refl
every_call test (s ∷ []) = alike_one (test s)
every_call test (s ∷ t ∷ rest) = and_both (alike (test s) (test s || false)) (every (λ s. alike (test s) (test s || false)) (t ∷ rest)) (alike_one (test s)) (every_call test (t ∷ rest))

every_optional : (test : Terminal → Bool) (all : List Terminal) → every (λ s. alike (test s) ((test s || false) || false)) all ≡ true
every_optional test [] = refl
every_optional test (s ∷ []) = alike_two (test s)
every_optional test (s ∷ t ∷ rest) = and_both (alike (test s) ((test s || false) || false)) (every (λ s. alike (test s) ((test s || false) || false)) (t ∷ rest)) (alike_two (test s)) (every_optional test (t ∷ rest))

pub call_first : (test : Lexeme → Bool) → All (λ t. alike (test t) (test t || false))
call_first test text token = every_call (λ s. test (record { terminal = s; token = token; text = text })) terminals

pub optional_first : (test : Lexeme → Bool) → All (λ t. alike (test t) ((test t || false) || false))
optional_first test text token = every_optional (λ s. test (record { terminal = s; token = token; text = text })) terminals

pub names_apart : (a : Bool) → apart ((a || false) || false) ((not a || false) || false) ≡ true
names_apart true = refl
names_apart false = refl

pub names_either : (a : Bool) → alike ((a || false) || not a) (((a || false) || false) || ((not a || false) || false)) ≡ true
names_either true = refl
names_either false = refl

every_empty : (test : Terminal → Bool) (all : List Terminal) → every (λ s. apart (test s) false) all ≡ true
every_empty test [] = refl
every_empty test (s ∷ []) = apart_none (test s)
every_empty test (s ∷ t ∷ rest) = and_both (apart (test s) false) (every (λ s. apart (test s) false) (t ∷ rest)) (apart_none (test s)) (every_empty test (t ∷ rest))

-- what is no token begins apart from everything
pub apart_empty : (test : Lexeme → Bool) → All (λ t. apart (test t) false)
apart_empty test text token = every_empty (λ s. test (record { terminal = s; token = token; text = text })) terminals

every_each : (test : Terminal → Bool) → ((s : Terminal) → test s ≡ true) → (all : List Terminal) → every test all ≡ true
every_each test h [] = refl
every_each test h (s ∷ []) = h s
every_each test h (s ∷ t ∷ rest) = and_both (test s) (every test (t ∷ rest)) (h s) (every_each test h (t ∷ rest))

-- what holds of each token
pub each : (test : Lexeme → Bool) → ((t : Lexeme) → test t ≡ true) → All test
each test h text token = every_each (λ s. test (record { terminal = s; token = token; text = text })) (λ s. h (record { terminal = s; token = token; text = text })) terminals

-- one test lies within another that is apart from the third
pub apart_through : (a w b : Bool) → within a w ≡ true → apart w b ≡ true → apart a b ≡ true
apart_through true true b h k = k
apart_through true false b h k = cc
apart_through false w b h k = refl

pub alike_five : (a b c d e : Bool) → alike (a || (b || (c || (d || e)))) (a || (b || (c || (d || (e || false))))) ≡ true
alike_five true b c d e = refl
alike_five false true c d e = refl
alike_five false false true d e = refl
alike_five false false false true e = refl
alike_five false false false false true = refl
alike_five false false false false false = refl
