-- A stack that is entered step by step, and then counted.
use Rattle.std.proofs.Common.{◌≡◌, ◌<◌, ◌+◌, ℕ, Option, Some, None, Result, Ok, Err, List, [], ◌∷◌, ◌++◌, take, drop, get_or, length, map, refl, sym, ap, ◌∙◌, subst, ⊎_elim, append_assoc, arith}
use Rattle.std.proofs.lemmas.List.{append-nil, map-append, take_more, take-append-drop}
use Rattle.std.proofs.lemmas.List.Elements.{All-contains, Contains-get_or, Contains-push_cases}
use Rattle.ctx_set.specs.declared.steps.StackStep.{StackStep}
use Rattle.context_set.specs.declared.node.Node.{Node}
use Rattle.context_set.specs.declared.node.CtxFull.{CtxFull}
use Rattle.context_set.specs.declared.node.Counted.TheVariants as counts
use Rattle.context_set.specs.Paths.{Path}
use Rattle.context_set.specs.Paths as contexts
use Rattle.context_set.specs.Held.{Entry, Count, Held, KnowsNode, KnowsParent, enters, path_of, path_to}
use Rattle.context_set.specs.Held as held
use Rattle.reports.specs.declared.board.Noted.TheVariants.{First, Again, Full}
use Rattle.reports.specs.Stacks.{IsStack, IsStep}
use Rattle.reports.specs.Prefixes.{prefixes}
use Rattle.prefix_table.proofs.Firsts.{prefixes_push}
use Rattle.prefix_table.proofs.Walks.{prefixes_split}
use Rattle.set_board.specs.Mirrors.{Enters, IsAt, IsWalking, HasStopped, IsNoted}
use Rattle.set_board.proofs.Lists.{nothing}

pub enters_none : (h : Held) → Enters h h []
enters_none h = record { number = refl; entered = sym (append-nil h.entered); counted = refl; made = refl; joined = refl }

enters_one : (h : Held) (p : Path) (answer : Result Node CtxFull) → Enters h (enters h p answer) (record { path = p; answer = answer } ∷ [])
enters_one h p (Ok node) = record { number = refl; entered = refl; counted = refl; made = refl; joined = refl }
enters_one h p (Err full) = record { number = refl; entered = refl; counted = refl; made = refl; joined = refl }

enters_both : (a b c : Held) (v w : List Entry) → Enters a b v → Enters b c w → Enters a c (v ++ w)
enters_both a b c v w e f = record {
  number = f.number ∙ e.number;
  entered = f.entered ∙ (ap (λ (l : List Entry). l ++ w) e.entered ∙ append_assoc a.entered v w);
  counted = f.counted ∙ e.counted;
  made = f.made ∙ e.made;
  joined = f.joined ∙ e.joined;
}

enters_more : (old now new : Held) (walk : List Entry) (p : Path) (answer : Result Node CtxFull) → Enters old now walk → new ≡ enters now p answer → Enters old new (walk ++ record { path = p; answer = answer } ∷ [])
enters_more old now new walk p answer e is =
    subst (λ (h : Held). Enters old h (walk ++ record { path = p; answer = answer } ∷ [])) (sym is) (enters_both old now (enters now p answer) walk (record { path = p; answer = answer } ∷ []) e (enters_one now p answer))

pub walking_begins : (h : Held) → IsWalking h h [] None
walking_begins h = record { walk = []; enters = enters_none h; through = record { given = λ e there. absurd (nothing e there); paths = refl }; here = refl }

-- the node that a walk stands at is known
pub parent_known : (h : Held) (steps : List StackStep) (at : Option Node) → IsAt h steps at → KnowsParent h at
parent_known h steps None here = tt
parent_known h steps (Some node) here = here.0

next_path : (h : Held) (steps : List StackStep) (at : Option Node) (step : StackStep) → IsAt h steps at → path_to h.known at step ≡ steps ++ step ∷ []
next_path h steps None step here = ap (λ (l : List StackStep). l ++ step ∷ []) (sym here)
next_path h steps (Some node) step here = ap (λ (l : List StackStep). l ++ step ∷ []) here.1

module _ (old now new : Held) (steps : List StackStep) (at : Option Node) (step : StackStep) (w : IsWalking old now steps at) where
  walking_next : (node : Node) → new ≡ enters now (path_to now.known at step) (Ok node) → KnowsNode new node → path_of new.known node ≡ path_to now.known at step → IsWalking old new (steps ++ step ∷ []) (Some node)
  walking_next node is knows path = record {
    walk = w.walk ++ record { path = path_to now.known at step; answer = Ok node } ∷ [];
    enters = enters_more old now new w.walk (path_to now.known at step) (Ok node) w.enters is;
    through = record {
      given = λ e there.
          ⊎_elim (w.through.given e)
          (λ (new_one : record { path = path_to now.known at step; answer = Ok node } ≡ e). let got : (m : Node) × (e.answer ≡ Ok m) = (node, ap (λ (x : Entry). x.answer) (sym new_one)) in got)
          (Contains-push_cases w.walk record { path = path_to now.known at step; answer = Ok node } e there);
      paths = map-append (λ (e : Entry). e.path) w.walk (record { path = path_to now.known at step; answer = Ok node } ∷ [])
          ∙ (ap (λ (l : List Path). l ++ path_to now.known at step ∷ []) w.through.paths
          ∙ (ap (λ (p : Path). prefixes steps ++ p ∷ []) (next_path now steps at step w.here) ∙ sym (prefixes_push steps step)));
    };
    here = (knows, path ∙ next_path now steps at step w.here);
  }

  walking_stops : (full : CtxFull) (rest : List StackStep) → new ≡ enters now (path_to now.known at step) (Err full) → HasStopped old new (steps ++ step ∷ rest)
  walking_stops full rest is = record {
    walk = w.walk ++ record { path = path_to now.known at step; answer = Err full } ∷ [];
    enters = enters_more old now new w.walk (path_to now.known at step) (Err full) w.enters is;
    stops = record {
      front = w.walk;
      path = path_to now.known at step;
      full = full;
      rest = map (λ (q : Path). steps ++ q) (map (λ (q : Path). step ∷ q) (prefixes rest));
      is = refl;
      given = w.through.given;
      paths = ap (λ (l : List Path). l ++ path_to now.known at step ∷ map (λ (q : Path). steps ++ q) (map (λ (q : Path). step ∷ q) (prefixes rest))) w.through.paths
          ∙ (ap (λ (p : Path). prefixes steps ++ p ∷ map (λ (q : Path). steps ++ q) (map (λ (q : Path). step ∷ q) (prefixes rest))) (next_path now steps at step w.here)
          ∙ sym (prefixes_split steps (step ∷ rest)));
    };
  }

-- the same, by the place of the step in the stack
module _ (old now new : Held) (stack : List StackStep) (i : ℕ) (d : StackStep) (within : i < length stack) (at : Option Node) (w : IsWalking old now (take i stack) at) where
  pub walk_step : (node : Node) → new ≡ enters now (path_to now.known at (get_or stack i d)) (Ok node) → KnowsNode new node → path_of new.known node ≡ path_to now.known at (get_or stack i d)
      → IsWalking old new (take (i + 1) stack) (Some node)
  walk_step node is knows path = subst (λ (l : List StackStep). IsWalking old new l (Some node)) (sym (take_more stack i d within)) (walking_next old now new (take i stack) at (get_or stack i d) w node is knows path)

  pub walk_stops : (full : CtxFull) → new ≡ enters now (path_to now.known at (get_or stack i d)) (Err full) → HasStopped old new stack
  walk_stops full is =
      let whole : take i stack ++ (get_or stack i d ∷ drop (i + 1) stack) ≡ stack =
      sym (append_assoc (take i stack) (get_or stack i d ∷ []) (drop (i + 1) stack)) ∙ ap (λ (front : List StackStep). front ++ drop (i + 1) stack) (sym (take_more stack i d within)) ∙ take-append-drop (i + 1) stack in
      subst (λ (l : List StackStep). HasStopped old new l) whole (walking_stops old now new (take i stack) at (get_or stack i d) w full (drop (i + 1) stack) is)

-- a step of a stack is one that the set takes
pub step_fits : (stack : List StackStep) → IsStack stack → (i : ℕ) (d : StackStep) → i < length stack → contexts.IsStep (get_or stack i d)
step_fits stack is i d within = let step = All-contains IsStep stack (get_or stack i d) is.steps (Contains-get_or stack i d within) in (step.function, step.call)

-- the end of a walk stands at a node
pub walk_ends : (old now : Held) (stack : List StackStep) (at : Option Node) → 0 < length stack → IsWalking old now stack at → (node : Node) × (at ≡ Some node)
walk_ends old now stack None some w = let none : length stack ≡ 0 = ap length w.here in absurd (omega (arith, none, some))
walk_ends old now stack (Some node) some w = (node, refl)

-- the whole was entered, and counted
pub noted_first : (old now new : Held) (stack : List StackStep) (node : Node) → IsWalking old now stack (Some node) → new ≡ held.counts now (path_of now.known node) counts.First → IsNoted old new stack First
noted_first old now new stack node w is = subst (λ (h : Held). IsNoted old h stack First) (sym is) record {
  walk = w.walk;
  is = w.through;
  number = w.enters.number;
  entered = w.enters.entered;
  counted = ap (λ (l : List Count). l ++ record { path = path_of now.known node; answer = counts.First } ∷ []) w.enters.counted ∙ ap (λ (p : Path). old.counted ++ record { path = p; answer = counts.First } ∷ []) w.here.1;
  made = w.enters.made;
  joined = w.enters.joined;
}

pub noted_again : (old now new : Held) (stack : List StackStep) (node : Node) → IsWalking old now stack (Some node) → new ≡ held.counts now (path_of now.known node) counts.Again → IsNoted old new stack Again
noted_again old now new stack node w is = subst (λ (h : Held). IsNoted old h stack Again) (sym is) record {
  walk = w.walk;
  is = w.through;
  number = w.enters.number;
  entered = w.enters.entered;
  counted = ap (λ (l : List Count). l ++ record { path = path_of now.known node; answer = counts.Again } ∷ []) w.enters.counted ∙ ap (λ (p : Path). old.counted ++ record { path = p; answer = counts.Again } ∷ []) w.here.1;
  made = w.enters.made;
  joined = w.enters.joined;
}

pub noted_full : (old new : Held) (stack : List StackStep) → HasStopped old new stack → IsNoted old new stack Full
noted_full old new stack s = record {
  walk = s.walk;
  is = s.stops;
  number = s.enters.number;
  entered = s.enters.entered;
  counted = s.enters.counted ∙ sym (append-nil old.counted);
  made = s.enters.made;
  joined = s.enters.joined;
}
