-- The steps of a stack that are walked so far, and one step more.
use Rattle.std.proofs.Common.{◌≡◌, ℕ, ◌+◌, ◌<◌, ◌≤◌, true, false, List, [], ◌∷◌, ◌++◌, take, drop, length, get_or, Option, None, Some, refl, sym, ap, ◌∙◌, subst, arith, append_assoc}
use Rattle.std.specs.Prelude.{is_some, fold, IfSome}
use Rattle.std.specs.List.{list_all}
use Rattle.std.proofs.lemmas.List.{append-nil, take_more, take-append-drop}
use Rattle.std.proofs.lemmas.List.Folds.{list_all-append}
use Rattle.ctx_set.specs.declared.steps.StackStep.{StackStep}
use Rattle.reports.specs.Prefixes.{prefixes, distinct, has, room}
use Rattle.prefix_table.specs.Edges.{start_of, IsBelow}
use Rattle.prefix_table.proofs.EdgeLaws.{has_at}
use Rattle.prefix_table.proofs.Firsts.{entered, firsts_of_firsts, firsts_more, firsts_entered, all_stay, prefixes_push}
use Rattle.prefix_table.proofs.Walks.{refused_here, held_here}

abbrev pub first_ones : List (List StackStep) → List (List StackStep)
first_ones stacks = take room (distinct stacks)

-- All prefixes of these steps are held, and the last of them has this number.
pub record IsWalked (old held : List (List StackStep)) (steps : List StackStep) (parent : Option ℕ) : Type 0 where
  pub before : first_ones old ≡ old
  pub kept : held ≡ first_ones (old ++ prefixes steps)
  pub start : start_of held parent ≡ steps
  pub below : IsBelow parent (length held)
  pub all : list_all (has held) (prefixes steps) ≡ true

pub walk_begins : (old : List (List StackStep)) → first_ones old ≡ old → IsWalked old old [] None
walk_begins old same = record {
  before = same;
  kept = sym (ap first_ones (append-nil old) ∙ same);
  start = refl;
  below = tt;
  all = refl;
}

same_held : (old held : List (List StackStep)) (steps : List StackStep) → held ≡ first_ones (old ++ prefixes steps) → first_ones held ≡ held
same_held old held steps e = ap first_ones e ∙ firsts_of_firsts room (old ++ prefixes steps) ∙ sym e

-- a prefix more is held
pub walk_goes_on : (old held : List (List StackStep)) (steps : List StackStep) (parent : Option ℕ) (step : StackStep) (next : List (List StackStep)) (number : ℕ) → IsWalked old held steps parent → next ≡ first_ones (held ++ (start_of held parent ++ step ∷ []) ∷ []) → number < length next → get_or next number [] ≡ start_of held parent ++ step ∷ [] → IsWalked old next (steps ++ step ∷ []) (Some number)
walk_goes_on old held steps parent step next number w e low here = record {
  before = w.before;
  kept = entry ∙ ap (λ h. first_ones (h ++ q ∷ [])) w.kept ∙ firsts_more room (old ++ prefixes steps) (q ∷ []) ∙ ap first_ones (append_assoc old (prefixes steps) (q ∷ []) ∙ ap (λ ps. old ++ ps) (sym (prefixes_push steps step)));
  start = here ∙ longer;
  below = low;
  all = ap (list_all (has next)) (prefixes_push steps step) ∙ list_all-append (has next) (prefixes steps) (q ∷ []) ∙ rw (stay, last) refl;
}
  where
    q : List StackStep
    q = steps ++ step ∷ []

    longer : start_of held parent ++ step ∷ [] ≡ q
    longer = ap (λ s. s ++ step ∷ []) w.start

    entry : next ≡ first_ones (held ++ q ∷ [])
    entry = e ∙ ap (λ s. first_ones (held ++ s ∷ [])) longer

    entered_one : next ≡ entered room held q
    entered_one = entry ∙ firsts_entered room held (q ∷ []) (same_held old held steps w.kept)

    stay : list_all (has next) (prefixes steps) ≡ true
    stay = ap (λ h. list_all (has h) (prefixes steps)) entered_one ∙ all_stay room held q (prefixes steps) w.all

    last : has next q ≡ true
    last = ap (has next) (sym (here ∙ longer)) ∙ has_at next number low

-- a prefix isn't held, and there is no room for it
pub walk_is_refused : (old held : List (List StackStep)) (steps : List StackStep) (parent : Option ℕ) (step : StackStep) (rest : List StackStep) → IsWalked old held steps parent → has held (start_of held parent ++ step ∷ []) ≡ false → room ≤ length held → (held ≡ first_ones (old ++ prefixes (steps ++ step ∷ rest))) × (false ≡ list_all (has held) (prefixes (steps ++ step ∷ rest)))
walk_is_refused old held steps parent step rest w absent full =
    let entry : held ≡ fold (entered room) old (prefixes steps) = w.kept ∙ firsts_entered room old (prefixes steps) w.before in
    let whole : first_ones (old ++ prefixes (steps ++ step ∷ rest)) ≡ held = firsts_entered room old (prefixes (steps ++ step ∷ rest)) w.before ∙ held_here room old held steps (step ∷ rest) entry full in
    let gone : has held (steps ++ step ∷ []) ≡ false = ap (λ s. has held (s ++ step ∷ [])) (sym w.start) ∙ absent in
    (sym whole, sym (refused_here held steps step rest gone))

-- the end of the walk
pub walk_ends : (old held : List (List StackStep)) (steps : List StackStep) (parent : Option ℕ) → 0 < length steps → IsWalked old held steps parent → IfSome parent (λ number. (number < length held) × (get_or held number [] ≡ steps)) × (is_some parent ≡ list_all (has held) (prefixes steps))
walk_ends old held steps None long w = let none : 0 ≡ length steps = ap length w.start in absurd (let clash : ⊥ = omega (arith, none, long) in clash)
walk_ends old held steps (Some number) long w = ((w.below, w.start), sym w.all)

-- the same, by the place of the step in the whole stack
pub walk_step : (old held next : List (List StackStep)) (stack : List StackStep) (i : ℕ) (d : StackStep) (parent : Option ℕ) (number : ℕ) → i < length stack → IsWalked old held (take i stack) parent → next ≡ first_ones (held ++ (start_of held parent ++ get_or stack i d ∷ []) ∷ []) → (number < length next) × (get_or next number [] ≡ start_of held parent ++ get_or stack i d ∷ []) → IsWalked old next (take (i + 1) stack) (Some number)
walk_step old held next stack i d parent number within w e here =
    subst (λ steps. IsWalked old next steps (Some number)) (sym (take_more stack i d within)) (walk_goes_on old held (take i stack) parent (get_or stack i d) next number w e here.0 here.1)

pub walk_stops : (old held next : List (List StackStep)) (stack : List StackStep) (i : ℕ) (d : StackStep) (parent : Option ℕ) → i < length stack → IsWalked old held (take i stack) parent → (next ≡ held) × (has held (start_of held parent ++ get_or stack i d ∷ []) ≡ false) × (room ≤ length held) → (next ≡ first_ones (old ++ prefixes stack)) × (false ≡ list_all (has next) (prefixes stack))
walk_stops old held next stack i d parent within w none =
    let whole : take i stack ++ (get_or stack i d ∷ drop (i + 1) stack) ≡ stack =
    sym (append_assoc (take i stack) (get_or stack i d ∷ []) (drop (i + 1) stack)) ∙ ap (λ front. front ++ drop (i + 1) stack) (sym (take_more stack i d within)) ∙ take-append-drop (i + 1) stack in
    let refused = walk_is_refused old held (take i stack) parent (get_or stack i d) (drop (i + 1) stack) w none.1 none.2 in
    (none.0 ∙ refused.0 ∙ ap (λ s. first_ones (old ++ prefixes s)) whole, refused.1 ∙ ap (λ h. list_all (has h) (prefixes (take i stack ++ (get_or stack i d ∷ drop (i + 1) stack)))) (sym none.0) ∙ ap (λ s. list_all (has next) (prefixes s)) whole)
