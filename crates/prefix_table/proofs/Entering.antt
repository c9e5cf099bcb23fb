-- One edge is entered: it has its number, there is no room, or it is added.
use Rattle.std.proofs.lemmas.Bool.{cases_lt}
use Rattle.std.proofs.Common.{◌≡◌, ◌≢◌, inl, inr, ℕ, ◌+◌, ◌<◌, ◌≤◌, true, false, List, [], ◌∷◌, ◌++◌, length, get_or, None, Some, refl, sym, ap, ◌∙◌, arith, length-append}
use Rattle.std.proofs.lemmas.List.{get_or_push}
use Rattle.std.specs.HashMap.{HashMap, get, spare, IsEmpty}
use Rattle.std.specs.Map.{lookup}
use Rattle.std.specs.declared.hash.FoldHasher.{FoldHasher}
use Rattle.std.specs.declared.hash.BuildHasherDefault.{BuildHasherDefault}
use Rattle.ctx_set.specs.declared.steps.StackStep.{StackStep}
use Rattle.prefix_table.specs.declared.table.Edge.{Edge}
use Rattle.reports.specs.Prefixes.{has, room}
use Rattle.prefix_table.specs.Edges.{made_by, stacks_of, IsBelow, IsTable, is_same_edge}
use Rattle.prefix_table.proofs.EdgeLaws.{found, has_found, absent, stacks_push}
use Rattle.prefix_table.proofs.Firsts.{entered, entered_full, entered_roomy, new_one, none_first, firsts_entered}
use Rattle.prefix_table.proofs.Walked.{first_ones}

-- the test for room
pub at_room : (n len : ℕ) → n ≡ len → n ≡ 65536 → room ≤ len
at_room n len e full = omega (arith, full, e)

pub below_room : (n len : ℕ) → n ≡ len → len ≤ room → n ≢ 65536 → len < room
below_room n len e few other = elim (cases_lt len room) [ inl low ↦ low | inr high ↦ absurd (other (omega (arith, e, few, high))) ]

no_number : (numbers : HashMap Edge ℕ (BuildHasherDefault FoldHasher)) → IsEmpty numbers → (edge : Edge) (i : ℕ) → get is_same_edge numbers edge ≡ Some i → ⊥
no_number numbers e edge i known =
    let none : get is_same_edge numbers edge ≡ None = ap (λ entries. lookup (is_same_edge edge) entries) e in
    let both : None ≡ Some i = sym none ∙ known in
    let clash : ⊥ = cc in clash

-- the table without edges
pub empty_table : (numbers : HashMap Edge ℕ (BuildHasherDefault FoldHasher)) (capacity : ℕ) → IsEmpty numbers → room ≤ spare numbers → room ≤ capacity → IsTable numbers [] capacity
empty_table numbers capacity e places memory = record {
  lawful = record {
    many = refl;
    below = λ i d h. absurd (let no : ⊥ = omega arith in no);
    made = λ i d h. absurd (let no : ⊥ = omega arith in no);
    apart = λ i j h k same. absurd (let no : ⊥ = omega arith in no);
  };
  numbered = λ i d h. absurd (let no : ⊥ = omega arith in no);
  known = λ edge i d known. absurd (no_number numbers e edge i known);
  few = omega arith;
  places = omega (arith, places);
  memory = memory;
  firsts = none_first room;
}

module _ (numbers : HashMap Edge ℕ (BuildHasherDefault FoldHasher)) (edges : List Edge) (capacity : ℕ) (t : IsTable numbers edges capacity) (edge : Edge) where
  abbrev held : List (List StackStep)
  held = stacks_of edges

  abbrev p : List StackStep
  p = made_by (stacks_of edges) edge

  as_entered : first_ones (held ++ p ∷ []) ≡ entered room held p
  as_entered = firsts_entered room held (p ∷ []) t.firsts

  kept : has held p ≡ true → entered room held p ≡ held
  kept e = rw e refl

  pub known_held : (i : ℕ) → get is_same_edge numbers edge ≡ Some i → (stacks_of edges ≡ first_ones (stacks_of edges ++ made_by (stacks_of edges) edge ∷ [])) × (i < length (stacks_of edges)) × (get_or (stacks_of edges) i [] ≡ made_by (stacks_of edges) edge)
  known_held i e =
      let f = found numbers edges capacity t edge i e in
      let many = t.lawful.many in
      (sym (as_entered ∙ kept (has_found numbers edges capacity t edge i e)), omega (arith, f.0, many), f.1)

  pub full_held : IsBelow edge.parent (length edges) → get is_same_edge numbers edge ≡ None → room ≤ length edges → (stacks_of edges ≡ first_ones (stacks_of edges ++ made_by (stacks_of edges) edge ∷ [])) × (has (stacks_of edges) (made_by (stacks_of edges) edge) ≡ false) × (room ≤ length (stacks_of edges))
  full_held b none full =
      let many = t.lawful.many in
      let at : room ≤ length (stacks_of edges) = omega (arith, many, full) in
      (sym (as_entered ∙ entered_full room held p at), absent numbers edges capacity t edge b none, at)

  pub new_held : IsBelow edge.parent (length edges) → get is_same_edge numbers edge ≡ None → length edges < room → (stacks_of (edges ++ edge ∷ []) ≡ first_ones (stacks_of edges ++ made_by (stacks_of edges) edge ∷ [])) × (length edges < length (stacks_of (edges ++ edge ∷ []))) × (get_or (stacks_of (edges ++ edge ∷ [])) (length edges) [] ≡ made_by (stacks_of edges) edge)
  new_held b none roomy =
      let many = t.lawful.many in
      let short : length (stacks_of edges) < room = omega (arith, many, roomy) in
      let pushed = stacks_push edges edge in
      let long : length (stacks_of edges ++ p ∷ []) ≡ length (stacks_of edges) + 1 = rw length-append (omega arith) in
      let same : length (stacks_of (edges ++ edge ∷ [])) ≡ length (stacks_of edges ++ p ∷ []) = ap length pushed in
      (pushed ∙ ap (λ h. held ++ new_one h p) (sym (absent numbers edges capacity t edge b none)) ∙ sym (entered_roomy room held p short) ∙ sym as_entered, omega (arith, many, long, same), ap (λ stacks. get_or stacks (length edges) []) pushed ∙ get_or_push held p [] (length edges) many)
