-- One token decides in the small grammar.
use Rattle.std.proofs.Common.{◌≡◌, ◌<◌, true, false, ◌||◌, refl, lit<}
use Rattle.grammar.specs.LL1.{IsLL1Production, IsLL1}
use Rattle.grammar.specs.Example.{Terminal, Digit, Minus, Open, Close, Semicolon, Rule, Sums, Additive, Atom, is_digit, is_minus, is_open, is_close, is_semicolon, rule, rank_of_rule, sums, sums_lookahead}

first_at : (t : Terminal) → (is_digit t || is_open t) ≡ (((is_digit t || is_open t) || false) || false)
first_at Digit = refl
first_at Open = refl
first_at _ = refl

semicolon_follows : (t : Terminal) → is_semicolon t ≡ true → (is_semicolon t || is_close t) ≡ true
semicolon_follows Semicolon e = refl
semicolon_follows _ e = cc

close_follows : (t : Terminal) → is_close t ≡ true → (is_semicolon t || is_close t) ≡ true
close_follows Close e = refl
close_follows _ e = cc

after_atom : (t : Terminal) → ((is_semicolon t || is_close t) || is_minus t) ≡ true → (is_minus t || (is_semicolon t || is_close t)) ≡ true
after_atom Minus e = refl
after_atom Close e = refl
after_atom Semicolon e = refl
after_atom _ e = cc

no_step : (t : Terminal) → (is_semicolon t || is_close t) ≡ true → is_minus t ≡ false
no_step Minus e = cc
no_step _ e = refl

one_alternative : (t : Terminal) → is_digit t ≡ true → is_open t ≡ false
one_alternative Open e = cc
one_alternative _ e = refl

rule_fits : (n : Rule) → IsLL1Production sums_lookahead n (rule n)
rule_fits Sums = (
  (λ t. first_at t),
  refl,
  ((lit< tt, (λ a e. tt)), tt),
  (
    refl,
    (λ t e. refl),
    (λ x t e f. cc),
    (λ a. ((λ t e. semicolon_follows t e), (λ x t e f. cc), (λ t e others. ((λ u f. cc), (λ x u f g. cc), tt)))),
    tt,
  ),
)
rule_fits Additive = (
  (λ t. first_at t),
  refl,
  (lit< tt, (λ a e. tt)),
  (λ a. ((λ t e. cc), (λ x t e f. after_atom t f), tt)),
  (λ y. refl),
  (λ y. tt),
  (λ y t e a. ((λ u f. cc), (λ x u f g. after_atom u g), tt)),
  (λ x t e. no_step t e),
)
rule_fits Atom = (
  (λ t. refl),
  refl,
  refl,
  (tt, tt),
  (
    refl,
    (λ t e. one_alternative t e),
    (λ x t e f. cc),
    (λ t e. tt),
    (λ t e x. ((λ u f. close_follows u f), (λ y u f g. cc), (λ u f. tt))),
  ),
)

ranks : (n : Rule) → rank_of_rule n < 3
ranks Sums = lit< tt
ranks Additive = lit< tt
ranks Atom = lit< tt

pub sums_fits : IsLL1 sums sums_lookahead
sums_fits n = (ranks n, rule_fits n)
