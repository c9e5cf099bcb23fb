-- Help with showing that lookahead fit a grammar.
use Rattle.std.proofs.Common.{◌≡◌, Bool, true}
use Rattle.grammar.specs.Parts.{Parts, Return, Take, Call, Either}
use Rattle.grammar.specs.Parser.{Lookahead}
use Rattle.grammar.specs.LL1.{Decided}

module _ {T N : Type 0} {V : N → Type 0} (lookahead : Lookahead T N V) where
  -- What one token decides stays decided where fewer tokens may follow. So parts that several productions
  -- share are shown once, for all that may follow any of them.
  pub decided_less : {A : Type 0} (follows less : A → T → Bool) → ((x : A) (t : T) → less x t ≡ true → follows x t ≡ true)
      → (g : Parts T N V A) → Decided lookahead follows g → Decided lookahead less g
  decided_less follows less w (Return x) d = tt
  decided_less follows less w (Take p k) d = λ t e. decided_less follows less w (k t) (d t e)
  decided_less follows less w (Call n k) d =
      λ a. ((d a).0, (λ x t e f. (d a).1 x t e (w x t f)), decided_less follows less w (k a) (d a).2)
  decided_less follows less w (Either g h) d =
      (d.0, d.1, (λ x t e f. d.2 x t e (w x t f)), decided_less follows less w g d.3, decided_less follows less w h d.4)
