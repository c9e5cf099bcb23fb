-- What a pass tells of its lists.
use Rattle.atomic_table.specs.Table.{Me}
use Rattle.std.proofs.Common.{◌≡◌, ℕ, zero, suc, Ok, List, [], ◌∷◌, Contains, refl, sym, ap, subst, ⊎_elim, eq-eqb, ne_eqb, arith}
use Rattle.std.proofs.lemmas.Bool.{cases_eq}
use Rattle.std.proofs.lemmas.List.Elements.{Contains-push}
use Rattle.context_set.specs.declared.node.Node.{Node}
use Rattle.context_set.specs.declared.table.CtxPass.{CtxPass}
use Rattle.context_set.specs.declared.view.CtxView.{CtxView}
use Rattle.context_set.specs.Paths.{Path}
use Rattle.context_set.specs.Held.{Known, Held, enters, path_of, HasOnePath, IsWhole}
use Rattle.context_set.specs.Sound.{IsSound}
use Rattle.context_set.specs.Passes.{SetPlace, held_of, IsPassOf}
use Rattle.context_set.specs.Steps.{first_view, Tells, IsSeat}
use Rattle.context_set.proofs.Filled.{none_before}

-- a known node has the path that it is known with
pub path_known : (known : List Known) → HasOnePath known → (k : Known) → Contains known k → path_of known k.node ≡ k.path
path_known [] one k there = absurd (omega (arith, there.1))
path_known (x ∷ xs) one k (zero, within, at) =
    let same : x.node.number ≡ k.node.number = ap (λ (y : Known). y.node.number) at in
    rw (eq-eqb x.node.number k.node.number same) (ap (λ (y : Known). y.path) at)
path_known (x ∷ xs) one k (suc i, within, at) =
    ⊎_elim
    (λ (same : x.node.number ≡ k.node.number). rw (eq-eqb x.node.number k.node.number same) (one x k (0, omega arith, refl) (suc i, within, at) same))
    (λ (other : x.node.number ≡ k.node.number → ⊥).
    rw (ne_eqb x.node.number k.node.number other)
    (path_known xs (λ a b in_a in_b. one a b (suc in_a.0, omega (arith, in_a.1), in_a.2) (suc in_b.0, omega (arith, in_b.1), in_b.2)) k (i, omega arith, at)))
    (cases_eq x.node.number k.node.number)

-- the node that was given last has the path that was entered
pub entered_path : (old new : Held) (p : Path) (node : Node) → new ≡ enters old p (Ok node) → HasOnePath new.known → path_of new.known node ≡ p
entered_path old new p node is one =
    let k : Known = record { node = node; path = p } in
    path_known new.known one k (subst (λ (h : Held). Contains h.known k) (sym is) (Contains-push old.known k))

-- what is so of all lists that a whole pass holds
pub pass_sound : (at : SetPlace) (p : CtxPass) → IsPassOf at p → IsWhole (held_of p) → IsSound at.slots (held_of p)
pass_sound at p belongs whole = subst (λ (n : ℕ). IsSound n (held_of p)) belongs.1.slots (belongs.1.tells.sound whole)

-- a new set
pub first_tells : (n : ℕ) → Tells (first_view n)
first_tells n = record {
  sound = λ whole. record {
    one_first = λ few p some. absurd (omega arith);
    counted = λ c there. absurd (omega (arith, there.1));
    known = λ k there. absurd (omega (arith, there.1));
    within = λ p node there. absurd (omega (arith, there.1));
    same_node = λ p a b there there'. absurd (omega (arith, there.1));
    same_path = λ p q node there there'. absurd (omega (arith, there.1));
    apart = λ p node there refused. absurd (omega (arith, there.1));
    full = λ p refused. absurd (omega (arith, refused.1.1));
    filled = λ before after p full same i within. absurd (none_before before after _ same);
  };
  known = λ a b in_a in_b same. absurd (omega (arith, in_a.1));
}

pub seat_first : (n : ℕ) (me : Me ℕ CtxView) → me ≡ (first_view n, []) → IsSeat n me
seat_first n me is = record {
  bare = ap (λ (m : Me ℕ CtxView). m.1) is;
  lives = ap (λ (m : Me ℕ CtxView). m.0.live) is;
  slots = ap (λ (m : Me ℕ CtxView). m.0.slots) is;
  nodes = λ k there.
      let none : Contains [] k = subst (λ (m : Me ℕ CtxView). Contains m.0.held.known k) is there in
      absurd (omega (arith, none.1));
  tells = subst (λ (m : Me ℕ CtxView). Tells m.0) (sym is) (first_tells n);
}
