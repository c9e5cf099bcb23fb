-- The rule goes on: a view that changes, a key that is set, a count.
use Rattle.std.proofs.Common.{◌≡◌, ◌≢◌, ◌<◌, ◌+◌, ◌⊎◌, ℕ, zero, suc, true, Option, Some, None, Result, Ok, Err, List, [], ◌∷◌, ◌++◌, set, length, get_or, map, flat_map, Contains, refl, sym, ap, ◌∙◌, subst, inl, inr, ⊎_elim, eq-eqb, ne_eqb, true≢false, arith}
use Rattle.std.proofs.lemmas.Bool.{cases_eq}
use Rattle.std.proofs.lemmas.List.Elements.{Contains-push, Contains-push_cases, Contains-append_cases, Contains-append_left, Contains-append_right}
use Rattle.std.proofs.lemmas.List.{map-set}
use Rattle.ctx_set.specs.declared.steps.StackStep.{StackStep}
use Rattle.context_set.specs.declared.node.Node.{Node}
use Rattle.context_set.specs.declared.node.CtxFull.{CtxFull}
use Rattle.context_set.specs.declared.view.CtxView.{CtxView}
use Rattle.context_set.specs.Paths.{Path}
use Rattle.context_set.specs.Held.{KnowsParent, Entry, Known, Joined, Held, enters, path_of, KnowsNode, others_of, all_entered, all_counted}
use Rattle.context_set.specs.Keys.{number_of, place}
use Rattle.context_set.specs.Rule.{IsWay, IsOther, HasPath, IsFull, IsAnswer, Fits, branch_of}
use Rattle.context_set.specs.Steps.{found, missed, wanted, IsBefore}
use Rattle.context_set.proofs.KeyLemmas.{every_place}

-- one element more in the middle
module _ {A : Type 0} where
  pub middle_cases : (a b : List A) (x y : A) → Contains ((a ++ x ∷ []) ++ b) y → Contains (a ++ b) y ⊎ (x ≡ y)
  middle_cases a b x y there =
      ⊎_elim
      (λ (front : Contains (a ++ x ∷ []) y). ⊎_elim (λ (before : Contains a y). inl (Contains-append_left a b y before)) inr (Contains-push_cases a x y front))
      (λ (back : Contains b y). inl (Contains-append_right a b y back))
      (Contains-append_cases (a ++ x ∷ []) b y there)

  pub middle_more : (a b : List A) (x y : A) → Contains (a ++ b) y → Contains ((a ++ x ∷ []) ++ b) y
  middle_more a b x y there =
      ⊎_elim
      (λ (front : Contains a y). Contains-append_left (a ++ x ∷ []) b y (Contains-append_left a (x ∷ []) y front))
      (λ (back : Contains b y). Contains-append_right (a ++ x ∷ []) b y back)
      (Contains-append_cases a b y there)

  pub middle_new : (a b : List A) (x : A) → Contains ((a ++ x ∷ []) ++ b) x
  middle_new a b x = Contains-append_left (a ++ x ∷ []) b x (Contains-push a x)

pub branches_set : (views : List CtxView) (id : ℕ) (w : CtxView) → map branch_of (set views id w) ≡ set (map branch_of views) id (branch_of w)
branches_set views id w = map-set branch_of views id w

-- a view that has entered more, and is alike otherwise
pub record Alike (v w : CtxView) : Type 0 where
  pub branch : branch_of w ≡ branch_of v
  pub more : (e : Entry) → Contains (all_entered v.held) e → Contains (all_entered w.held) e
  pub counted : all_counted w.held ≡ all_counted v.held
  pub own : (w.held.entered ≡ v.held.entered) ⊎ ((e : Entry) × (w.held.entered ≡ v.held.entered ++ e ∷ []))
  pub others : others_of w.held ≡ others_of v.held

pub alike_itself : (v : CtxView) → Alike v v
alike_itself v = record { branch = refl; more = λ e there. there; counted = refl; own = inl refl; others = refl }

pub alike_found : (v : CtxView) (i : ℕ) (p : Path) → Alike v (found v i p)
alike_found v i p = record {
  branch = refl;
  more = λ e there. middle_more v.held.entered (others_of v.held) record { path = p; answer = Ok record { number = i } } e there;
  counted = refl;
  own = inr (record { path = p; answer = Ok record { number = i } }, refl);
  others = refl;
}

-- the two ways to miss
abbrev pub refused : CtxView → Path → CtxView
refused v p = record v { held = enters v.held p (Err record {}); tried = 0 }

abbrev pub tried_more : CtxView → ℕ → ℕ → CtxView
tried_more v key tried = record v { trying = key; tried = tried + 1 }

pub missed_last : (v : CtxView) (key tried : ℕ) (p : Path) → tried + 1 ≡ v.slots → missed v key tried p ≡ refused v p
missed_last v key tried p last = rw (eq-eqb (tried + 1) v.slots last) refl

pub missed_one : (v : CtxView) (key tried : ℕ) (p : Path) → tried + 1 ≢ v.slots → missed v key tried p ≡ tried_more v key tried
missed_one v key tried p not_last = rw (ne_eqb (tried + 1) v.slots not_last) refl

alike_refused : (v : CtxView) (p : Path) → Alike v (refused v p)
alike_refused v p = record {
  branch = refl;
  more = λ e there. middle_more v.held.entered (others_of v.held) record { path = p; answer = Err record {} } e there;
  counted = refl;
  own = inr (record { path = p; answer = Err record {} }, refl);
  others = refl;
}

alike_tried : (v : CtxView) (key tried : ℕ) → Alike v (tried_more v key tried)
alike_tried v key tried = record { branch = refl; more = λ e there. there; counted = refl; own = inl refl; others = refl }

pub alike_missed : (v : CtxView) (key tried : ℕ) (p : Path) → Alike v (missed v key tried p)
alike_missed v key tried p =
    ⊎_elim
    (λ (last : tried + 1 ≡ v.slots). subst (λ (w : CtxView). Alike v w) (sym (missed_last v key tried p last)) (alike_refused v p))
    (λ (other : tried + 1 ≡ v.slots → ⊥). subst (λ (w : CtxView). Alike v w) (sym (missed_one v key tried p other)) (alike_tried v key tried))
    (cases_eq (tried + 1) v.slots)

-- what the view of a seat says stays so
module _ (n : ℕ) (r : ℕ → ℕ) (path : ℕ → Path) (v : CtxView) (fits : Fits n r path v) where
  -- a node that is known is that of its path
  pub known_path : (node : Node) → KnowsNode v.held node → HasPath n r path node.number (path_of v.held.known node)
  known_path node knows = go v.held.known fits.known knows where
    go : (ks : List Known) → ((k : Known) → Contains ks k → HasPath n r path k.node.number k.path)
        → (k : Known) × Contains ks k × (k.node ≡ node) → HasPath n r path node.number (path_of ks node)
    go [] all (k, there, is) = absurd (omega (arith, there.1))
    go (x ∷ ks) all (k, (place, within, at), is) =
        ⊎_elim
        (λ (same : x.node.number ≡ node.number).
        let first = all x (0, omega arith, refl) in
        rw (eq-eqb x.node.number node.number same) (subst (λ (i : ℕ). HasPath n r path i x.path) same first))
        (λ (other : x.node.number ≡ node.number → ⊥).
        rw (ne_eqb x.node.number node.number other) (go ks (λ k' there'. all k' (suc there'.0, omega (arith, there'.1), there'.2)) (later place within at other)))
        (cases_eq x.node.number node.number)
      where
        later : (place : ℕ) → place < length (x ∷ ks) → get_or (x ∷ ks) place k ≡ k → (x.node.number ≡ node.number → ⊥) → (k' : Known) × Contains ks k' × (k'.node ≡ node)
        later zero within at other = absurd (other (ap (λ (k' : Known). k'.node.number) at ∙ ap (λ (m : Node). m.number) is))
        later (suc place) within at other = (k, (place, omega arith, at), is)

  pub wanted_way : (parent : Option Node) (step : StackStep) → KnowsParent v.held parent → IsWay n r path (number_of parent) step (wanted v parent step)
  wanted_way None step knows = inl (refl, refl)
  wanted_way (Some node) step knows = let has = known_path node knows in inr (has.0, has.1, ap (λ (q : Path). q ++ step ∷ []) (sym has.2))

  pub seen_before : (key tried : ℕ) → IsBefore v key tried → (t : ℕ) → t < tried → IsOther n r key (place n key t)
  seen_before key tried (inl none) t earlier = absurd (omega arith)
  seen_before key tried (inr (same, many)) t earlier = subst (λ (k : ℕ). IsOther n r k (place n k t)) same (fits.seen t (omega arith))

  -- the view where an entry is more
  pub entered_fits : (h : Held) (p : Path) (answer : Result Node CtxFull) → h ≡ enters v.held p answer → v.live ≡ true → IsAnswer n r path p answer
      → Fits n r path (record v { held = h; tried = 0 })
  entered_fits h p (Ok node) is lives has = subst (λ (g : Held). Fits n r path (record v { held = g; tried = 0 })) (sym is) record {
    slots = fits.slots;
    known = λ k there. ⊎_elim (fits.known k) (λ (new : record { node = node; path = p } ≡ k). subst (λ (k' : Known). HasPath n r path k'.node.number k'.path) new has) (Contains-push_cases v.held.known record { node = node; path = p } k there);
    seen = λ t earlier. absurd (omega arith);
    entered = λ e there. ⊎_elim (fits.entered e) (λ (new : record { path = p; answer = Ok node } ≡ e). subst (λ (x : Entry). IsAnswer n r path x.path x.answer) new has) (middle_cases v.held.entered (flat_map (λ (j : Joined). j.entered) v.held.joined) record { path = p; answer = Ok node } e there);
    counted = fits.counted;
    spent = λ dead. absurd (true≢false (sym lives ∙ dead));
  }
  entered_fits h p (Err full) is lives has = subst (λ (g : Held). Fits n r path (record v { held = g; tried = 0 })) (sym is) record {
    slots = fits.slots;
    known = fits.known;
    seen = λ t earlier. absurd (omega arith);
    entered = λ e there. ⊎_elim (fits.entered e) (λ (new : record { path = p; answer = Err full } ≡ e). subst (λ (x : Entry). IsAnswer n r path x.path x.answer) new has) (middle_cases v.held.entered (flat_map (λ (j : Joined). j.entered) v.held.joined) record { path = p; answer = Err full } e there);
    counted = fits.counted;
    spent = λ dead. absurd (true≢false (sym lives ∙ dead));
  }

  pub found_fits : (i : ℕ) (p : Path) → v.live ≡ true → HasPath n r path i p → Fits n r path (found v i p)
  found_fits i p lives has = entered_fits (enters v.held p (Ok record { number = i })) p (Ok record { number = i }) refl lives has

  -- one more slot was seen with another key
  pub missed_fits : (key tried : ℕ) (p : Path) → v.live ≡ true → IsBefore v key tried → IsOther n r key (place n key tried)
      → ((i : ℕ) → i < n → 0 < r i → path i ≡ p → r i ≡ key) → Fits n r path (missed v key tried p)
  missed_fits key tried p lives before other only =
      ⊎_elim
      (λ (last : tried + 1 ≡ v.slots).
      subst (λ (w : CtxView). Fits n r path w) (sym (missed_last v key tried p last)) (last_fits last))
      (λ (not_last : tried + 1 ≡ v.slots → ⊥).
      subst (λ (w : CtxView). Fits n r path w) (sym (missed_one v key tried p not_last)) more_fits)
      (cases_eq (tried + 1) v.slots)
    where
      seen : (t : ℕ) → t < tried + 1 → IsOther n r key (place n key t)
      seen t earlier =
          ⊎_elim
          (λ (same : t ≡ tried). subst (λ (k : ℕ). IsOther n r key (place n key k)) (sym same) other)
          (λ (apart : t ≡ tried → ⊥). seen_before key tried before t (omega arith))
          (cases_eq t tried)

      full : tried + 1 ≡ v.slots → IsFull n r path p
      full last i within =
          let at = every_place n key i within in
          let many : v.slots ≡ n = fits.slots lives in
          let one = seen at.0 (omega (arith, at.1)) in
          let here = subst (λ (j : ℕ). IsOther n r key j) at.2 one in
          (here.1, λ (same : path i ≡ p). here.2 (only i within here.1 same))

      last_fits : tried + 1 ≡ v.slots → Fits n r path (refused v p)
      last_fits last = entered_fits (enters v.held p (Err record {})) p (Err record {}) refl lives (full last)

      more_fits : Fits n r path (tried_more v key tried)
      more_fits = record {
        slots = fits.slots;
        known = fits.known;
        seen = seen;
        entered = fits.entered;
        counted = fits.counted;
        spent = fits.spent;
      }
