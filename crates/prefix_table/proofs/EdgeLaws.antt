-- Edges, their prefixes, and one edge more.
use Rattle.std.proofs.Common.{◌≡◌, inl, inr, ℕ, ◌+◌, ◌<◌, ◌≤◌, Bool, true, false, List, [], ◌∷◌, ◌++◌, length, get_or, Option, None, Some, refl, sym, ap, ◌∙◌, subst, arith, length-append}
use Rattle.std.specs.Prelude.{take, cond, nat_eq}
use Rattle.std.specs.Option.{option_eq}
use Rattle.std.proofs.lemmas.Bool.{cases_lt}
use Rattle.std.proofs.lemmas.List.{get_or_append_left, get_or_push, get_or_default}
use Rattle.std.proofs.lemmas.List.Sums.{fold-append}
use Rattle.std.proofs.lemmas.List.Folds.{Any-from_list_any, list_any-from_Any}
use Rattle.ctx_set.specs.declared.steps.StackStep.{StackStep}
use Rattle.prefix_table.specs.declared.table.Edge.{Edge}
use Rattle.reports.specs.Stacks.{is_same}
use Rattle.reports.specs.Prefixes.{distinct, has, room}
use Rattle.std.specs.HashMap.{HashMap, get, spare, Updates}
use Rattle.std.specs.declared.hash.FoldHasher.{FoldHasher}
use Rattle.std.specs.declared.hash.BuildHasherDefault.{BuildHasherDefault}
use Rattle.prefix_table.specs.Edges.{start_of, made_by, stacks_of, IsBelow, AreEdges, IsTable, is_same_edge}
use Rattle.reports.proofs.Sames.{same_is, same_itself, step_is, step_itself, both}
use Rattle.prefix_table.proofs.Firsts.{entered, entered_roomy, new_one, take_push}

not_empty : {A : Type 0} (xs : List A) (x : A) → [] ≡ xs ++ x ∷ [] → ⊥
not_empty xs x e = let long : 0 ≡ length xs + 1 = ap length e ∙ rw length-append (omega arith) in omega arith

-- lists with a last element that are one
pub same_lasts : {A : Type 0} (xs ys : List A) (x y : A) → xs ++ x ∷ [] ≡ ys ++ y ∷ [] → (xs ≡ ys) × (x ≡ y)
same_lasts [] [] x y e = (refl, cc)
same_lasts [] (b ∷ ys) x y e = let rest : [] ≡ ys ++ y ∷ [] = cc in absurd (not_empty ys y rest)
same_lasts (a ∷ xs) [] x y e = let rest : [] ≡ xs ++ x ∷ [] = cc in absurd (not_empty xs x rest)
same_lasts (a ∷ xs) (b ∷ ys) x y e =
    let rest : xs ++ x ∷ [] ≡ ys ++ y ∷ [] = cc in
    let head : a ≡ b = cc in
    let both = same_lasts xs ys x y rest in
    let front : xs ≡ ys = both.0 in
    (cc, both.1)

pub stacks_push : (edges : List Edge) (node : Edge) → stacks_of (edges ++ node ∷ []) ≡ stacks_of edges ++ made_by (stacks_of edges) node ∷ []
stacks_push edges node = fold-append (λ stacks (n : Edge). stacks ++ made_by stacks n ∷ []) [] edges (node ∷ [])

start_kept : (stacks more : List (List StackStep)) (parent : Option ℕ) → IsBelow parent (length stacks) → start_of (stacks ++ more) parent ≡ start_of stacks parent
start_kept stacks more None h = refl
start_kept stacks more (Some node) h = get_or_append_left stacks more [] node h

pub made_kept : (stacks more : List (List StackStep)) (edge : Edge) → IsBelow edge.parent (length stacks) → made_by (stacks ++ more) edge ≡ made_by stacks edge
made_kept stacks more edge h = ap (λ start. start ++ edge.step ∷ []) (start_kept stacks more edge.parent h)

below_more : (parent : Option ℕ) (m n : ℕ) → m ≤ n → IsBelow parent m → IsBelow parent n
below_more None m n l h = h
below_more (Some node) m n l h = omega arith

-- starts that are one are of one parent
same_starts : (edges : List Edge) (l : AreEdges edges) (d : Edge) (p q : Option ℕ) → IsBelow p (length edges) → IsBelow q (length edges) → start_of (stacks_of edges) p ≡ start_of (stacks_of edges) q → p ≡ q
same_starts edges l d None None a b e = refl
same_starts edges l d None (Some k) a b e = absurd (not_empty _ _ (e ∙ l.made k d b))
same_starts edges l d (Some j) None a b e = absurd (not_empty _ _ (sym e ∙ l.made j d a))
same_starts edges l d (Some j) (Some k) a b e = ap Some (l.apart j k a b e)

-- edges that make one prefix are one
pub same_edges : (edges : List Edge) (l : AreEdges edges) (d : Edge) (a b : Edge) → IsBelow a.parent (length edges) → IsBelow b.parent (length edges) → made_by (stacks_of edges) a ≡ made_by (stacks_of edges) b → a ≡ b
same_edges edges l d a b p q e =
    let parts = same_lasts (start_of (stacks_of edges) a.parent) (start_of (stacks_of edges) b.parent) a.step b.step e in
    let parents : a.parent ≡ b.parent = same_starts edges l d a.parent b.parent p q parts.0 in
    let steps : a.step ≡ b.step = parts.1 in
    ap (λ parent. record { parent = parent; step = a.step }) parents ∙ ap (λ step. record { parent = b.parent; step = step }) steps

-- an edge with a number has the node of its prefix
pub found : (numbers : HashMap Edge ℕ (BuildHasherDefault FoldHasher)) (edges : List Edge) (capacity : ℕ) (t : IsTable numbers edges capacity) (edge : Edge) (i : ℕ) → get is_same_edge numbers edge ≡ Some i → (i < length edges) × (get_or (stacks_of edges) i [] ≡ made_by (stacks_of edges) edge)
found numbers edges capacity t edge i e =
    let k = t.known edge i edge e in
    (k.0, t.lawful.made i edge k.0 ∙ ap (made_by (stacks_of edges)) k.1)

pub has_at : (stacks : List (List StackStep)) (i : ℕ) → i < length stacks → has stacks (get_or stacks i []) ≡ true
has_at stacks i h = list_any-from_Any (is_same (get_or stacks i [])) stacks (i, get_or stacks i [], h, get_or_default stacks i (get_or stacks i []) [] h, same_itself (get_or stacks i []))

pub has_found : (numbers : HashMap Edge ℕ (BuildHasherDefault FoldHasher)) (edges : List Edge) (capacity : ℕ) (t : IsTable numbers edges capacity) (edge : Edge) (i : ℕ) → get is_same_edge numbers edge ≡ Some i → has (stacks_of edges) (made_by (stacks_of edges) edge) ≡ true
has_found numbers edges capacity t edge i e =
    let f = found numbers edges capacity t edge i e in
    let many = t.lawful.many in
    ap (has (stacks_of edges)) (sym f.1) ∙ has_at (stacks_of edges) i (omega (arith, f.0, many))

-- an edge without a number makes a new prefix
absent_is : (numbers : HashMap Edge ℕ (BuildHasherDefault FoldHasher)) (edges : List Edge) (capacity : ℕ) (t : IsTable numbers edges capacity) (edge : Edge) (h : Bool) → IsBelow edge.parent (length edges) → get is_same_edge numbers edge ≡ None → has (stacks_of edges) (made_by (stacks_of edges) edge) ≡ h → h ≡ false
absent_is numbers edges capacity t edge false b n e = refl
absent_is numbers edges capacity t edge true b n e =
    let any = Any-from_list_any (is_same (made_by (stacks_of edges) edge)) (stacks_of edges) e in
    let many = t.lawful.many in
    let short : any.0 < length edges = omega (arith, any.2, many) in
    let here : get_or (stacks_of edges) any.0 [] ≡ any.1 = get_or_default (stacks_of edges) any.0 [] any.1 any.2 ∙ any.3 in
    let same : made_by (stacks_of edges) edge ≡ any.1 = same_is (made_by (stacks_of edges) edge) any.1 any.4 in
    let one = same_edges edges t.lawful edge edge (get_or edges any.0 edge) b (below_more _ _ _ (omega arith) (t.lawful.below any.0 edge short)) (same ∙ sym here ∙ t.lawful.made any.0 edge short) in
    let numbered = t.numbered any.0 edge short in
    let both : None ≡ Some any.0 = sym n ∙ ap (get is_same_edge numbers) one ∙ numbered in
    absurd (let clash : ⊥ = cc in clash)

pub absent : (numbers : HashMap Edge ℕ (BuildHasherDefault FoldHasher)) (edges : List Edge) (capacity : ℕ) (t : IsTable numbers edges capacity) (edge : Edge) → IsBelow edge.parent (length edges) → get is_same_edge numbers edge ≡ None → has (stacks_of edges) (made_by (stacks_of edges) edge) ≡ false
absent numbers edges capacity t edge b n =
    absent_is numbers edges capacity t edge (has (stacks_of edges) (made_by (stacks_of edges) edge)) b n refl

-- the test of two edges is equality
same_parents : (p q : Option ℕ) → option_eq nat_eq p q ≡ true → p ≡ q
same_parents None None e = refl
same_parents None (Some k) e = absurd (let clash : ⊥ = cc in clash)
same_parents (Some j) None e = absurd (let clash : ⊥ = cc in clash)
same_parents (Some j) (Some k) e = ap Some (grind arith)

parent_itself : (p : Option ℕ) → option_eq nat_eq p p ≡ true
parent_itself None = refl
parent_itself (Some k) = grind arith

pub edge_is : (a b : Edge) → is_same_edge a b ≡ true → a ≡ b
edge_is a b e =
    let parts = both (option_eq nat_eq a.parent b.parent) _ e in
    let parents : a.parent ≡ b.parent = same_parents a.parent b.parent parts.0 in
    let steps : a.step ≡ b.step = step_is a.step b.step parts.1 in
    ap (λ parent. record { parent = parent; step = a.step }) parents ∙ ap (λ step. record { parent = b.parent; step = step }) steps

pub edge_itself : (a : Edge) → is_same_edge a a ≡ true
edge_itself a = rw (parent_itself a.parent) (step_itself a.step)

-- what holds of each element holds of each after one more
each_push : {X : Type 0} (P : ℕ → X → Type 0) (xs : List X) (x : X) → ((i : ℕ) (d : X) → i < length xs → P i (get_or xs i d)) → P (length xs) x → (i : ℕ) (d : X) → i < length (xs ++ x ∷ []) → P i (get_or (xs ++ x ∷ []) i d)
each_push P xs x old new i d h = elim (cases_lt i (length xs)) [ inl l ↦ subst (P i) (sym (get_or_append_left xs (x ∷ []) d i l)) (old i d l) | inr g ↦ last (let n : length (xs ++ x ∷ []) ≡ length xs + 1 = rw length-append (omega arith) in omega (arith, n, h, g)) ]
  where
    last : i ≡ length xs → P i (get_or (xs ++ x ∷ []) i d)
    last e = subst (λ k. P k (get_or (xs ++ x ∷ []) k d)) (sym e) (subst (P (length xs)) (sym (get_or_push xs x d (length xs) refl)) new)

-- one node more, of an edge that makes a new prefix
module _ (edges : List Edge) (l : AreEdges edges) (edge : Edge) (b : IsBelow edge.parent (length edges)) (new : has (stacks_of edges) (made_by (stacks_of edges) edge) ≡ false) where
  abbrev S : List (List StackStep)
  S = stacks_of edges

  abbrev p : List StackStep
  p = made_by S edge

  at_length : IsBelow edge.parent (length S)
  at_length = below_more edge.parent (length edges) (length S) (let many = l.many in omega arith) b

  not_held : (j : ℕ) → j < length edges → get_or S j [] ≡ p → ⊥
  not_held j h e =
      let held : has S p ≡ true = ap (has S) (sym e) ∙ has_at S j (let many = l.many in omega arith) in
      let clash : false ≡ true = sym new ∙ held in
      let no : ⊥ = cc in no

  many_push : length (S ++ p ∷ []) ≡ length (edges ++ edge ∷ [])
  many_push = let many = l.many in rw (length-append, length-append) (omega arith)

  made_old : (i : ℕ) (d : Edge) → i < length edges → get_or (S ++ p ∷ []) i [] ≡ made_by (S ++ p ∷ []) (get_or edges i d)
  made_old i d h =
      let many = l.many in
      get_or_append_left S (p ∷ []) [] i (omega arith) ∙ l.made i d h
      ∙ sym (made_kept S (p ∷ []) (get_or edges i d) (below_more (get_or edges i d).parent i (length S) (omega arith) (l.below i d h)))

  made_new : get_or (S ++ p ∷ []) (length edges) [] ≡ made_by (S ++ p ∷ []) edge
  made_new = get_or_push S p [] (length edges) l.many ∙ sym (made_kept S (p ∷ []) edge at_length)

  apart_push : (i j : ℕ) → i < length edges + 1 → j < length edges + 1 → get_or (S ++ p ∷ []) i [] ≡ get_or (S ++ p ∷ []) j [] → i ≡ j
  apart_push i j h k e = elim (cases_lt i (length edges)) [ inl a ↦ elim (cases_lt j (length edges)) [ inl c ↦ l.apart i j a c (sym (low i a) ∙ e ∙ low j c) | inr c ↦ absurd (not_held i a (sym (low i a) ∙ e ∙ high j (omega arith))) ] | inr a ↦ elim (cases_lt j (length edges)) [ inl c ↦ absurd (not_held j c (sym (low j c) ∙ sym e ∙ high i (omega arith))) | inr c ↦ omega arith ] ]
    where
      low : (i : ℕ) → i < length edges → get_or (S ++ p ∷ []) i [] ≡ get_or S i []
      low i a = let many = l.many in get_or_append_left S (p ∷ []) [] i (omega arith)

      high : (i : ℕ) → i ≡ length edges → get_or (S ++ p ∷ []) i [] ≡ p
      high i a = get_or_push S p [] i (l.many ∙ sym a)

  pub edges_push : AreEdges (edges ++ edge ∷ [])
  edges_push = record {
    many = ap length (stacks_push edges edge) ∙ many_push;
    below = each_push (λ i (n : Edge). IsBelow n.parent i) edges edge l.below b;
    made = λ i d h. subst (λ stacks. get_or stacks i [] ≡ made_by stacks (get_or (edges ++ edge ∷ []) i d)) (sym (stacks_push edges edge)) (each_push (λ i (n : Edge). get_or (S ++ p ∷ []) i [] ≡ made_by (S ++ p ∷ []) n) edges edge made_old made_new i d h);
    apart = λ i j h k e. apart_push i j (let n : length (edges ++ edge ∷ []) ≡ length edges + 1 = rw length-append (omega arith) in omega arith) (let n : length (edges ++ edge ∷ []) ≡ length edges + 1 = rw length-append (omega arith) in omega arith) (subst (λ stacks. get_or stacks i [] ≡ get_or stacks j []) (stacks_push edges edge) e);
  }

-- the numbers after one more
module _ (numbers after : HashMap Edge ℕ (BuildHasherDefault FoldHasher)) (edges : List Edge) (capacity later : ℕ) (t : IsTable numbers edges capacity) (edge : Edge) (b : IsBelow edge.parent (length edges)) (none : get is_same_edge numbers edge ≡ None) (roomy : length edges < room) (updates : Updates is_same_edge numbers after edge (Some (length edges))) (spares : spare numbers ≤ spare after + 1) (memory : capacity ≤ later) where
  numbered_old : (i : ℕ) (d : Edge) (s : Bool) → i < length edges → is_same_edge edge (get_or edges i d) ≡ s → get is_same_edge after (get_or edges i d) ≡ Some i
  numbered_old i d true h e =
      let same = edge_is edge (get_or edges i d) e in
      let number : get is_same_edge numbers edge ≡ Some i = ap (get is_same_edge numbers) same ∙ t.numbered i d h in
      let clash : None ≡ Some i = sym none ∙ number in
      let no : ⊥ = cc in absurd no
  numbered_old i d false h e = updates.0 (get_or edges i d) ∙ ap (λ s. cond s (Some (length edges)) (get is_same_edge numbers (get_or edges i d))) e ∙ t.numbered i d h

  numbered_new : get is_same_edge after edge ≡ Some (length edges)
  numbered_new = updates.1

  known_push : (other : Edge) (i : ℕ) (d : Edge) (s : Bool) → is_same_edge edge other ≡ s → get is_same_edge after other ≡ Some i → (i < length (edges ++ edge ∷ [])) × ((get_or (edges ++ edge ∷ []) i d) ≡ other)
  known_push other i d true e found =
      let which : Some (length edges) ≡ Some i = sym (updates.0 other ∙ ap (λ s. cond s (Some (length edges)) (get is_same_edge numbers other)) e) ∙ found in
      let at : length edges ≡ i = cc in
      let n : length (edges ++ edge ∷ []) ≡ length edges + 1 = rw length-append (omega arith) in
      (omega arith, ap (λ (n : Edge). n) (get_or_push edges edge d i at) ∙ edge_is edge other e)
  known_push other i d false e found =
      let before : get is_same_edge numbers other ≡ Some i = sym (updates.0 other ∙ ap (λ s. cond s (Some (length edges)) (get is_same_edge numbers other)) e) ∙ found in
      let k = t.known other i d before in
      let n : length (edges ++ edge ∷ []) ≡ length edges + 1 = rw length-append (omega arith) in
      (omega (arith, k.0, n), ap (λ (n : Edge). n) (get_or_append_left edges (edge ∷ []) d i k.0) ∙ k.1)

  short : length (stacks_of edges) < room
  short = let many = t.lawful.many in omega (arith, many, roomy)

  firsts_push : take room (distinct (stacks_of (edges ++ edge ∷ []))) ≡ stacks_of (edges ++ edge ∷ [])
  firsts_push =
      let S = stacks_of edges in
      let p = made_by (stacks_of edges) edge in
      ap (λ l. take room (distinct l)) (stacks_push edges edge) ∙ take_push room S p ∙ ap (λ h. entered room h p) t.firsts
      ∙ entered_roomy room S p short ∙ ap (λ h. S ++ new_one h p) (absent numbers edges capacity t edge b none) ∙ sym (stacks_push edges edge)

  pub table_push : IsTable after (edges ++ edge ∷ []) later
  table_push = record {
    lawful = edges_push edges t.lawful edge b (absent numbers edges capacity t edge b none);
    numbered = each_push (λ i (n : Edge). get is_same_edge after n ≡ Some i) edges edge (λ i d h. numbered_old i d (is_same_edge edge (get_or edges i d)) h refl) numbered_new;
    known = λ other i d found. known_push other i d (is_same_edge edge other) refl found;
    few = let n : length (edges ++ edge ∷ []) ≡ length edges + 1 = rw length-append (omega arith) in omega (arith, n, roomy);
    places = let n : length (edges ++ edge ∷ []) ≡ length edges + 1 = rw length-append (omega arith) in let old = t.places in omega (arith, n, old, spares);
    memory = let old = t.memory in omega (arith, old, memory);
    firsts = firsts_push;
  }
