-- The parser as equations, for the code that parses: one or two for each kind of production. At a grammar
-- that is written out the premise about the production is `refl`.
use Rattle.std.proofs.Common.{◌≡◌, ℕ, zero, suc, ◌-◌, ◌≤◌, ◌<◌, max, Bool, true, false, cond, List, length, None, inl, inr, ap, ◌∙◌, subst, le-leb, arith}
use Rattle.std.proofs.lemmas.Bool.{lt-leb}
use Rattle.grammar.specs.Parts.{Parts, Return, Call, Plain, Node, Chain, Grammar}
use Rattle.grammar.specs.Reading.{IsRead, IsViable}
use Rattle.grammar.specs.Parser.{Lookahead, Outcome, Got, Bad, New, Past, starts, run, after, one_more, produce, advance, go_on, parse}
use Rattle.grammar.specs.LL1.{IsLL1}
use Rattle.grammar.proofs.Closed.{is_read_up, is_viable_up}
use Rattle.grammar.proofs.Answered.{NameAnswered, PartsAnswered, answered_run}
use Rattle.grammar.proofs.Short.{left, parse_short, run_short}
use Rattle.grammar.proofs.Step.{Falls, told, name_falls}
use Rattle.grammar.proofs.Hit.{parse_new, parse_past}

pub max_zero : (n : ℕ) → max n 0 ≡ n
max_zero n = omega arith

-- parts that are one name
module _ {T N : Type 0} {V : N → Type 0} {A : Type 0} (lookahead : Lookahead T N V) (P : (m : N) → List T → Outcome T (V m)) (n : N) (f : V n → A) where
  pub run_call : (ts : List T) (a : V n) (d : ℕ) (rest : List T) → P n ts ≡ Got a d rest → run lookahead P (Call n (λ b. Return (f b))) ts ≡ Got (f a) d rest
  run_call ts a d rest e = rw e (ap (λ k. Got (f a) k rest) (max_zero d))

  pub run_call_bad : (ts : List T) (deep : Bool) (rest : List T) → P n ts ≡ Bad deep rest → run lookahead P (Call n (λ b. Return (f b))) ts ≡ Bad deep rest
  run_call_bad ts deep rest e = rw e

module _ (gr : Grammar) (lookahead : Lookahead gr.Token gr.Name gr.Value) (fits : IsLL1 gr lookahead) where
  pub at_plain : (room : ℕ) (n : gr.Name) (ts : List gr.Token) (g : Parts gr.Token gr.Name gr.Value (gr.Value n)) → gr.production n ≡ Plain g
      → parse gr lookahead room n New ts ≡ run lookahead (λ m us. parse gr lookahead room m New us) g ts
  at_plain room n ts g e =
      parse_new gr lookahead fits room n ts
      ∙ ap (λ p. produce lookahead (λ w m us. parse gr lookahead w m New us) (λ x d us. parse gr lookahead room n (Past x d) us) p room ts) e

  -- a node for which there is room
  pub at_node : (room : ℕ) (n : gr.Name) (ts : List gr.Token) (g : Parts gr.Token gr.Name gr.Value (gr.Value n)) → gr.production n ≡ Node g
      → 0 < room → parse gr lookahead room n New ts ≡ one_more (run lookahead (λ m us. parse gr lookahead (room - 1) m New us) g ts)
  at_node zero n ts g e l = absurd (omega arith)
  at_node (suc room) n ts g e l =
      let same : room ≡ suc room - 1 = omega arith in
      parse_new gr lookahead fits (suc room) n ts
      ∙ ap (λ p. produce lookahead (λ w m us. parse gr lookahead w m New us) (λ x d us. parse gr lookahead (suc room) n (Past x d) us) p (suc room) ts) e
      ∙ ap (λ r. one_more (run lookahead (λ m us. parse gr lookahead r m New us) g ts)) same

  -- a node for which there is none
  pub no_node : (n : gr.Name) (ts : List gr.Token) (g : Parts gr.Token gr.Name gr.Value (gr.Value n)) → gr.production n ≡ Node g
      → parse gr lookahead 0 n New ts ≡ Bad (starts lookahead g ts) ts
  no_node n ts g e =
      parse_new gr lookahead fits 0 n ts
      ∙ ap (λ p. produce lookahead (λ w m us. parse gr lookahead w m New us) (λ x d us. parse gr lookahead 0 n (Past x d) us) p 0 ts) e

  -- the beginning of a chain
  pub at_chain : (room : ℕ) (n : gr.Name) (ts : List gr.Token) (b : Parts gr.Token gr.Name gr.Value (gr.Value n))
      (step : gr.Value n → Parts gr.Token gr.Name gr.Value (gr.Value n)) → gr.production n ≡ Chain b step
      → parse gr lookahead room n New ts
      ≡ after (λ x d us. parse gr lookahead room n (Past x d) us) (run lookahead (λ m us. parse gr lookahead room m New us) b ts)
  at_chain room n ts b step e =
      parse_new gr lookahead fits room n ts
      ∙ ap (λ p. produce lookahead (λ w m us. parse gr lookahead w m New us) (λ x d us. parse gr lookahead room n (Past x d) us) p room ts) e

  from_past : (room : ℕ) (n : gr.Name) (x : gr.Value n) (d : ℕ) (ts : List gr.Token) (b : Parts gr.Token gr.Name gr.Value (gr.Value n))
      (step : gr.Value n → Parts gr.Token gr.Name gr.Value (gr.Value n)) → gr.production n ≡ Chain b step
      → parse gr lookahead room n (Past x d) ts
      ≡ cond (starts lookahead (step x) ts)
      (advance lookahead (λ w m us. parse gr lookahead w m New us) (λ y e us. parse gr lookahead room n (Past y e) us) (step x) room d ts) (Got x d ts)
  from_past room n x d ts b step e =
      parse_past gr lookahead fits room n x d ts
      ∙ ap (λ p. go_on lookahead (λ w m us. parse gr lookahead w m New us) (λ y f us. parse gr lookahead room n (Past y f) us) p room x d ts) e

  -- a chain whose next token does not go on with it
  pub chain_end : (room : ℕ) (n : gr.Name) (x : gr.Value n) (d : ℕ) (ts : List gr.Token) (b : Parts gr.Token gr.Name gr.Value (gr.Value n))
      (step : gr.Value n → Parts gr.Token gr.Name gr.Value (gr.Value n)) → gr.production n ≡ Chain b step
      → starts lookahead (step x) ts ≡ false → parse gr lookahead room n (Past x d) ts ≡ Got x d ts
  chain_end room n x d ts b step e s =
      from_past room n x d ts b step e
      ∙ ap (λ w. cond w (advance lookahead (λ w m us. parse gr lookahead w m New us) (λ y f us. parse gr lookahead room n (Past y f) us) (step x) room d ts)
      (Got x d ts)) s

  -- a chain that goes on, with no room for a node around what was read
  pub chain_full : (room : ℕ) (n : gr.Name) (x : gr.Value n) (d : ℕ) (ts : List gr.Token) (b : Parts gr.Token gr.Name gr.Value (gr.Value n))
      (step : gr.Value n → Parts gr.Token gr.Name gr.Value (gr.Value n)) → gr.production n ≡ Chain b step
      → starts lookahead (step x) ts ≡ true → room ≤ d → parse gr lookahead room n (Past x d) ts ≡ Bad true ts
  chain_full zero n x d ts b step e s l = from_past zero n x d ts b step e ∙ ap (λ w. cond w (Bad true ts) (Got x d ts)) s
  chain_full (suc room) n x d ts b step e s l =
      from_past (suc room) n x d ts b step e
      ∙ ap (λ w. cond w (advance lookahead (λ w m us. parse gr lookahead w m New us) (λ y f us. parse gr lookahead (suc room) n (Past y f) us) (step x) (suc room) d ts)
      (Got x d ts)) s
      ∙ ap (λ w. cond w (after (λ y f us. parse gr lookahead (suc room) n (Past y (suc (max d f))) us)
      (run lookahead (λ m us. parse gr lookahead room m New us) (step x) ts)) (Bad true ts)) (lt-leb d room l)

  -- a chain that goes on
  pub chain_goes : (room : ℕ) (n : gr.Name) (x : gr.Value n) (d : ℕ) (ts : List gr.Token) (b : Parts gr.Token gr.Name gr.Value (gr.Value n))
      (step : gr.Value n → Parts gr.Token gr.Name gr.Value (gr.Value n)) → gr.production n ≡ Chain b step
      → starts lookahead (step x) ts ≡ true → d < room
      → parse gr lookahead room n (Past x d) ts
      ≡ after (λ y f us. parse gr lookahead room n (Past y (suc (max d f))) us) (run lookahead (λ m us. parse gr lookahead (room - 1) m New us) (step x) ts)
  chain_goes zero n x d ts b step e s l = absurd (omega arith)
  chain_goes (suc room) n x d ts b step e s l =
      let same : room ≡ suc room - 1 = omega arith in
      let le : d ≤ room = omega arith in
      from_past (suc room) n x d ts b step e
      ∙ ap (λ w. cond w (advance lookahead (λ w m us. parse gr lookahead w m New us) (λ y f us. parse gr lookahead (suc room) n (Past y f) us) (step x) (suc room) d ts)
      (Got x d ts)) s
      ∙ ap (λ w. cond w (after (λ y f us. parse gr lookahead (suc room) n (Past y (suc (max d f))) us)
      (run lookahead (λ m us. parse gr lookahead room m New us) (step x) ts)) (Bad true ts)) (le-leb d room le)
      ∙ ap (λ r. after (λ y f us. parse gr lookahead (suc room) n (Past y (suc (max d f))) us) (run lookahead (λ m us. parse gr lookahead r m New us) (step x) ts)) same

  -- the depth is within the room
  pub within : (room : ℕ) (n : gr.Name) (ts : List gr.Token) (x : gr.Value n) (d : ℕ) (rest : List gr.Token)
      → parse gr lookahead room n New ts ≡ Got x d rest → d ≤ room
  within room n ts x d rest e = let h = subst (λ o. NameAnswered gr room n ts o) e (told gr lookahead fits room n New ts) in h.3

  pub run_within : {A : Type 0} (room : ℕ) (g : Parts gr.Token gr.Name gr.Value A) (ts : List gr.Token) (x : A) (d : ℕ) (rest : List gr.Token)
      → run lookahead (λ m us. parse gr lookahead room m New us) g ts ≡ Got x d rest → d ≤ room
  run_within room g ts x d rest e =
      let h = subst (λ o. PartsAnswered lookahead (λ v m vs y. IsRead gr v m vs y) (λ v m vs. IsViable gr v m vs) room g ts o) e
      (answered_run lookahead (λ v m vs y. IsRead gr v m vs y) (λ v m vs. IsViable gr v m vs)
      (λ v u m vs y. is_read_up gr v u m vs y) (λ v u m vs. is_viable_up gr v u m vs) room
      (λ m us. parse gr lookahead room m New us) (λ m us. told gr lookahead fits room m New us) g ts) in
      h.3

  -- no more tokens are left than there were
  pub shorter : (room : ℕ) (n : gr.Name) (ts : List gr.Token) (x : gr.Value n) (d : ℕ) (rest : List gr.Token)
      → parse gr lookahead room n New ts ≡ Got x d rest → length rest ≤ length ts
  shorter room n ts x d rest e = subst (λ o. left o ≤ length ts) e (parse_short gr lookahead room n New ts)

  pub run_shorter : {A : Type 0} (room : ℕ) (g : Parts gr.Token gr.Name gr.Value A) (ts : List gr.Token) (x : A) (d : ℕ) (rest : List gr.Token)
      → run lookahead (λ m us. parse gr lookahead room m New us) g ts ≡ Got x d rest → length rest ≤ length ts
  run_shorter room g ts x d rest e =
      subst (λ o. left o ≤ length ts) e (run_short lookahead (λ m us. parse gr lookahead room m New us) (λ m us. parse_short gr lookahead room m New us) g ts)

  -- fewer are left after what is never empty
  pub less : (room : ℕ) (n : gr.Name) (ts : List gr.Token) (x : gr.Value n) (d : ℕ) (rest : List gr.Token) → lookahead.nullable n ≡ None
      → parse gr lookahead room n New ts ≡ Got x d rest → length rest < length ts
  less room n ts x d rest none e =
      go (name_falls gr lookahead fits room n ts x d rest (subst (λ o. NameAnswered gr room n ts o) e (told gr lookahead fits room n New ts)))
    where
      go : Falls ts rest (lookahead.nullable n) x → length rest < length ts
      go (inl l) = l
      go (inr (f, g)) = let clash : ⊥ = cc in absurd clash
