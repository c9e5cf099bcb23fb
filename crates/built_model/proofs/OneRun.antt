-- A unit has one run from an entry.
use Rattle.std.proofs.Common.{◌≡◌, ℕ, suc, ◌<◌, List, [], ◌∷◌, length, Some, None, ◌⊎◌, inl, inr, refl, sym, ap, ap₂, ◌∙◌, arith}
use Rattle.std.proofs.lemmas.Bool.{cases_eq, cases_order}
use Rattle.built_unit.specs.Units.{UnitParts}
use Rattle.built_code.specs.declared.events.Ask.{Ask}
use Rattle.built_model.specs.declared.runs.Made.{Made}
use Rattle.built_model.specs.declared.runs.End.{End}
use Rattle.built_model.specs.Replay.{IsLegal, answer_of, words_after}
use Rattle.built_model.specs.Source.{next}
use Rattle.built_model.specs.Run.{state_after, IsSourceRun, IsGoingOn, ending_after, IsRun}

-- what a trace is before its last event
record IsBegun (u : UnitParts) (f : ℕ) (trace : List Made) : Type 0 where
  pub source : IsSourceRun u 0 f trace
  pub legal : IsLegal trace
  pub going_on : IsGoingOn u 0 f trace

abbrev made_of : Ask → ℕ → Made
made_of ask word = record { ask = ask; word = word }

same_made : (m n : Made) → m.ask ≡ n.ask → m.word ≡ n.word → m ≡ n
same_made m n asks words = ap₂ made_of asks words

-- two traces of one length are one
same_length : (u : UnitParts) (f : ℕ) (a b : List Made) → IsBegun u f a → IsBegun u f b → length a ≡ length b → a ≡ b
same_length u f [] [] p q e = refl
same_length u f [] (m ∷ b) p q e = absurd (omega (arith, e))
same_length u f (m ∷ a) [] p q e = absurd (omega (arith, e))
same_length u f (m ∷ a) (n ∷ b) p q e =
    let before : IsBegun u f a = record { source = p.source.1; legal = p.legal.1; going_on = p.going_on.1 } in
    let other : IsBegun u f b = record { source = q.source.1; legal = q.legal.1; going_on = q.going_on.1 } in
    let t : a ≡ b = same_length u f a b before other (omega (arith, e)) in
    let asks : m.ask ≡ n.ask = sym p.source.0 ∙ ap (λ t. next u (state_after u 0 f t)) t ∙ q.source.0 in
    let words : m.word ≡ n.word = p.legal.0 ∙ ap (λ ask. answer_of ask (words_after a)) asks ∙ ap (λ t. answer_of n.ask (words_after t)) t ∙ sym q.legal.0 in
    ap₂ (λ x t. x ∷ t) (same_made m n asks words) t

-- a trace that goes on beyond the length of another one hadn't ended there
beyond : (u : UnitParts) (f : ℕ) (a b : List Made) → IsBegun u f a → IsBegun u f b → length a < length b → ending_after u 0 f a ≡ None
beyond u f a [] p q h = absurd (omega (arith, h))
beyond u f a (n ∷ b) p q h =
    let before : IsBegun u f b = record { source = q.source.1; legal = q.legal.1; going_on = q.going_on.1 } in
    step before (λ l. beyond u f a b p before l) (cases_eq (length a) (length b))
  where
    step : IsBegun u f b → (length a < length b → ending_after u 0 f a ≡ None) → (length a ≡ length b) ⊎ ((length a ≡ length b) → ⊥) → ending_after u 0 f a ≡ None
    step before further (inl e) = ap (λ t. ending_after u 0 f t) (same_length u f a b p before e) ∙ q.going_on.0
    step before further (inr ne) = further (shorter (length a) (length b) h ne)
      where
        shorter : (m n : ℕ) → m < suc n → (m ≡ n → ⊥) → m < n
        shorter m n l x = omega (arith, l, x)

-- a run's trace isn't shorter than another run's
not_shorter : (u : UnitParts) (f : ℕ) (a b : List Made) (end : End) → IsBegun u f a → IsBegun u f b → ending_after u 0 f a ≡ Some end → length a < length b → ⊥
not_shorter u f a b end p q e h = let none = beyond u f a b p q h in cc

begun : (u : UnitParts) (f : ℕ) (trace : List Made) (end : End) → IsRun u f trace end → IsBegun u f trace
begun u f trace end r = record { source = r.source; legal = r.legal; going_on = r.going_on }

pub one_trace : (u : UnitParts) (f : ℕ) (a b : List Made) (x y : End) → IsRun u f a x → IsRun u f b y → a ≡ b
one_trace u f a b x y p q = go (cases_order (length a) (length b))
  where
    go : (length a ≡ length b) ⊎ ((length a < length b) ⊎ (length b < length a)) → a ≡ b
    go (inl e) = same_length u f a b (begun u f a x p) (begun u f b y q) e
    go (inr (inl h)) = absurd (not_shorter u f a b x (begun u f a x p) (begun u f b y q) p.ends h)
    go (inr (inr h)) = absurd (not_shorter u f b a y (begun u f b y q) (begun u f a x p) q.ends h)

pub one_ending : (u : UnitParts) (f : ℕ) (a b : List Made) (x y : End) → IsRun u f a x → IsRun u f b y → x ≡ y
one_ending u f a b x y p q =
    let t : a ≡ b = one_trace u f a b x y p q in
    let e : Some x ≡ Some y = sym p.ends ∙ ap (λ t. ending_after u 0 f t) t ∙ q.ends in
    cc
