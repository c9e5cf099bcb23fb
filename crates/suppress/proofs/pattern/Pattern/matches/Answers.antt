use Rattle.std.proofs.Common.{◌≡◌, ◌∷◌, ℕ, List, length, Some, None, sym, ◌∙◌, ap, eq-eqb}
use Rattle.std.proofs.lemmas.Bool.{eqb-true}
use Rattle.std.proofs.lemmas.Bool.Decides.{Decides-eqb}
use Rattle.std.proofs.lemmas.List.{nil_from_length}
use Rattle.std.proofs.lemmas.Slice.Eq.{strip_prefix_is}
use Rattle.suppress.proofs.LayoutLemmas.{IsLaidOut_at_start, no_prefix_of_IsLaidOut, IsLaidOut_after_start}
use Rattle.suppress.proofs.pattern.Pattern.matches.Goals as goal

pub returns-in_default : goal.returns-in_default
returns-in_default c =
    let none : length c.args.self.now.pieces ≡ 0 = rw c.as_slice-pieces.ensures at c.in_default.ensures.cases in
    let answer = IsLaidOut_at_start c.args.self.now.anchored_start c.args.self.now.anchored_end c.args.self.now.pieces c.args.text.now c.if-not-self.false none in (
      λ empty. answer.0 (nil_from_length _ (eqb-true _ _ (sym c.is_empty.ensures ∙ empty))),
      λ laid. c.is_empty.ensures ∙ eq-eqb _ _ (ap length (answer.1 laid)),
    )

pub returns-in-None : goal.returns-in-None
returns-in-None c =
    let none = strip_prefix_is Decides-eqb c.args.text.now c.as_bytes.result.now None c.in-None.ensures.cases in (
      λ no. absurd (cc no),
      λ laid. absurd (no_prefix_of_IsLaidOut c.args.self.now.anchored_start c.args.self.now.anchored_end c.as_bytes.result.now c.args.self.now.pieces c.in-Some.later.now c.args.text.now c.if-not-self.false (sym c.as_slice-pieces.ensures ∙ c.in-Some.ensures.cases.0 ∙ ap (λ (f : List ℕ). f ∷ c.in-Some.later.now) (sym c.as_bytes.ensures)) none laid),
    )

pub returns-in-Some-strip_prefix : goal.returns-in-Some-strip_prefix
returns-in-Some-strip_prefix c =
    let begins = strip_prefix_is Decides-eqb c.args.text.now c.as_bytes.result.now (Some c.in-Some-strip_prefix.rest) c.in-Some-strip_prefix.ensures.cases in
    IsLaidOut_after_start c.args.self.now.anchored_start c.args.self.now.anchored_end c.as_bytes.result.now c.args.self.now.pieces c.in-Some.later.now c.args.text.now c.in-Some-strip_prefix.rest.now c.follow_in_order-in-Some-strip_prefix.result c.if-not-self.false (sym c.as_slice-pieces.ensures ∙ c.in-Some.ensures.cases.0 ∙ ap (λ (f : List ℕ). f ∷ c.in-Some.later.now) (sym c.as_bytes.ensures)) begins c.follow_in_order-in-Some-strip_prefix.ensures
