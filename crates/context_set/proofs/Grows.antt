-- A slot that has a key keeps it, and with it all that was said of it.
use Rattle.std.proofs.Common.{◌≡◌, ◌<◌, ℕ, Result, Ok, Err, sym, ap, ◌∙◌, subst, inl, inr}
use Rattle.ctx_set.specs.declared.steps.StackStep.{StackStep}
use Rattle.context_set.specs.declared.node.Node.{Node}
use Rattle.context_set.specs.declared.node.CtxFull.{CtxFull}
use Rattle.context_set.specs.declared.view.CtxView.{CtxView}
use Rattle.context_set.specs.Paths.{Path}
use Rattle.context_set.specs.Keys.{place}
use Rattle.context_set.specs.Rule.{IsWay, IsOther, IsSlot, HasPath, IsFull, IsAnswer, Fits}
use Rattle.std.proofs.Common.{◌++◌, ◌∷◌, []}

abbrev pub Grows : ℕ → (ℕ → ℕ) → (ℕ → Path) → (ℕ → ℕ) → (ℕ → Path) → Type 0
Grows n r path r' path' = (i : ℕ) → i < n → 0 < r i → (r' i ≡ r i) × (path' i ≡ path i)

module _ (n : ℕ) (r : ℕ → ℕ) (path : ℕ → Path) (r' : ℕ → ℕ) (path' : ℕ → Path) (grows : Grows n r path r' path') where
  pub holds-grows : (i : ℕ) → i < n → 0 < r i → 0 < r' i
  holds-grows i within holds = subst (λ (x : ℕ). 0 < x) (sym (grows i within holds).0) holds

  pub way-grows : (parent : ℕ) (step : StackStep) (p : Path) → IsWay n r path parent step p → IsWay n r' path' parent step p
  way-grows parent step p (inl root) = inl root
  way-grows parent step p (inr (within, holds, is)) =
      inr (within, holds-grows parent within holds, is ∙ ap (λ (q : Path). q ++ step ∷ []) (sym (grows parent within holds).1))

  pub path-grows : (i : ℕ) (p : Path) → HasPath n r path i p → HasPath n r' path' i p
  path-grows i p (within, holds, is) = (within, holds-grows i within holds, (grows i within holds).1 ∙ is)

  pub other-grows : (key i : ℕ) → IsOther n r key i → IsOther n r' key i
  other-grows key i (within, holds, other) = (within, holds-grows i within holds, λ (e : r' i ≡ key). other (sym (grows i within holds).0 ∙ e))

  pub full-grows : (p : Path) → IsFull n r path p → IsFull n r' path' p
  full-grows p full i within =
      let old = full i within in
      (holds-grows i within old.0, λ (e : path' i ≡ p). old.1 (sym (grows i within old.0).1 ∙ e))

  pub answer-grows : (p : Path) (answer : Result Node CtxFull) → IsAnswer n r path p answer → IsAnswer n r' path' p answer
  answer-grows p (Ok node) has = path-grows node.number p has
  answer-grows p (Err full) is = full-grows p is

  pub slot-grows : (i : ℕ) → i < n → 0 < r i → IsSlot n r path i → IsSlot n r' path' i
  slot-grows i within holds slot =
      let same = grows i within holds in record {
        parent = slot.parent;
        step = slot.step;
        small = slot.small;
        is = same.0 ∙ slot.is;
        way = subst (λ (p : Path). IsWay n r' path' slot.parent slot.step p) (sym same.1) (way-grows slot.parent slot.step (path i) slot.way);
        tried = slot.tried;
        here = slot.here ∙ ap (λ (key : ℕ). place n key slot.tried) (sym same.0);
        before = λ t earlier.
            let old = slot.before t earlier in
            let there : (place n (r i) t < n) × (0 < r' (place n (r i) t)) = (old.0, holds-grows (place n (r i) t) old.0 old.1) in
            subst (λ (key : ℕ). (place n key t < n) × (0 < r' (place n key t))) (sym same.0) there;
      }

  pub fits-grows : (v : CtxView) → Fits n r path v → Fits n r' path' v
  fits-grows v fits = record {
    slots = fits.slots;
    known = λ k there. path-grows k.node.number k.path (fits.known k there);
    seen = λ t earlier. other-grows v.trying (place n v.trying t) (fits.seen t earlier);
    entered = λ e there. answer-grows e.path e.answer (fits.entered e there);
    counted = λ c there. let old = fits.counted c there in (old.0, path-grows old.0 c.path old.1);
    spent = fits.spent;
  }
