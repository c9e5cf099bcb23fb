-- Before a path was refused to a pass, each node had been given.
use Rattle.std.proofs.Common.{◌≡◌, ◌≢◌, ◌<◌, ◌⊎◌, ℕ, Ok, Err, List, [], ◌∷◌, ◌++◌, set, length, Contains, refl, sym, ap, ◌∙◌, subst, inl, inr, ⊎_elim, length-append, arith}
use Rattle.std.proofs.lemmas.Bool.{cases_eq}
use Rattle.std.proofs.lemmas.List.Concat.{flat_map-append}
use Rattle.std.proofs.lemmas.List.Elements.{Contains-append_cases, Contains-append_left, Contains-append_right}
use mathlib.Core.Option.{some}
use lib.ListN.{get_elem?}
use Rattle.atomic_table.proofs.Lists.{set_here, set_else, at_longer}
use Rattle.context_set.specs.declared.node.CtxFull.{CtxFull}
use Rattle.context_set.specs.declared.view.CtxView.{CtxView}
use Rattle.context_set.specs.Paths.{Path}
use Rattle.context_set.specs.Held.{Entry, Joined, Held, Gives, joins, lists_of, others_of, all_entered}
use Rattle.context_set.specs.Rule.{WasEntered, IsGivenElsewhere, IsFilled}
use Rattle.context_set.specs.Steps.{splits, split_off, takes_in, spent}
use Rattle.context_set.proofs.Seats.{at_within, same_at, seats_set, seats_longer}
use Rattle.context_set.proofs.Lists.{all_entered-joins}

-- an element of a list that is one longer is the last one, or stands in the list
snoc_cases : {A : Type 0} (l : List A) (e : A) (before after : List A) (x : A) → l ++ e ∷ [] ≡ before ++ x ∷ after
    → ((before ≡ l) × (e ≡ x)) ⊎ ((rest : List A) × (l ≡ before ++ x ∷ rest))
snoc_cases [] e [] after x same = let last : e ≡ x = cc in inl (refl, last)
snoc_cases [] e (b ∷ bs) after x same = let long = ap length same in absurd (omega (arith, length-append bs (x ∷ after)))
snoc_cases {A} (y ∷ ys) e [] after x same = let first : y ≡ x = cc in inr (ys, ap (λ (z : A). z ∷ ys) first)
snoc_cases {A} (y ∷ ys) e (b ∷ bs) after x same =
    let first : y ≡ b = cc in
    let tails : ys ++ e ∷ [] ≡ bs ++ x ∷ after = cc in
    ⊎_elim
    (λ (t : (bs ≡ ys) × (e ≡ x)). inl (ap (λ (z : A). z ∷ bs) (sym first) ∙ ap (λ (l : List A). y ∷ l) t.0, t.1))
    (λ (t : (rest : List A) × (ys ≡ bs ++ x ∷ rest)). inr (t.0, ap (λ (z : A). z ∷ ys) first ∙ ap (λ (l : List A). b ∷ l) t.1))
    (snoc_cases ys e bs after x tails)

-- an empty list has no element
pub none_before : {A : Type 0} (before after : List A) (x : A) → [] ≡ before ++ x ∷ after → ⊥
none_before before after x same = let long = ap length same in absurd (omega (arith, length-append before (x ∷ after)))

pub gives_more : (a b : List Entry) (i : ℕ) → ((e : Entry) → Contains a e → Contains b e) → Gives a i → Gives b i
gives_more a b i more (p, there) = (p, more record { path = p; answer = Ok record { number = i } } there)

-- more stand behind the same
behind : {A : Type 0} (a b c : List A) → ((e : A) → Contains b e → Contains c e) → (e : A) → Contains (a ++ b) e → Contains (a ++ c) e
behind {A} a b c more e there =
    ⊎_elim
    (λ (front : Contains a e). Contains-append_left a c e front)
    (λ (back : Contains b e). Contains-append_right a c e (more e back))
    (Contains-append_cases a b e there)

-- what a pass has of those that it joined
others_first : (h other : Held) (e : Entry) → Contains (others_of h) e → Contains (others_of (joins h other)) e
others_first h other e there =
    subst (λ (l : List Entry). Contains l e) (sym (flat_map-append (λ (j : Joined). j.entered) h.joined (lists_of other ∷ other.joined)))
    (Contains-append_left (others_of h) (all_entered other) e there)

others_second : (h other : Held) (e : Entry) → Contains (all_entered other) e → Contains (others_of (joins h other)) e
others_second h other e there =
    subst (λ (l : List Entry). Contains l e) (sym (flat_map-append (λ (j : Joined). j.entered) h.joined (lists_of other ∷ other.joined)))
    (Contains-append_right (others_of h) (all_entered other) e there)

pub spent_filled : (n : ℕ) (views : List CtxView) (id : ℕ) (v : CtxView) → v.held.entered ≡ [] → IsFilled n views id v
spent_filled n views id v none before after p full same i within =
    absurd (none_before before after record { path = p; answer = Err full } (sym none ∙ same))

module _ (n : ℕ) (views : List CtxView) (filled : (s : ℕ) (u : CtxView) → get_elem? views s ≡ some u → IsFilled n views s u)
    (id : ℕ) (v : CtxView) (there : get_elem? views id ≡ some v) where
  -- a view has entered more
  module _ (w : CtxView) (more : (e : Entry) → Contains (all_entered v.held) e → Contains (all_entered w.held) e) where
    elsewhere_set : (s i : ℕ) → IsGivenElsewhere views s i → IsGivenElsewhere (set views id w) s i
    elsewhere_set s i g =
        ⊎_elim
        (λ (here : g.seat ≡ id).
        let same = same_at views id g.view v (subst (λ (k : ℕ). get_elem? views k ≡ some g.view) here g.there) there in
        let next : IsGivenElsewhere (set views id w) s i = record {
          seat = id;
          view = w;
          there = set_here views id w (at_within views id v there);
          other = λ (e : id ≡ s). g.other (here ∙ e);
          gives = gives_more (all_entered v.held) (all_entered w.held) i more (subst (λ (u : CtxView). Gives (all_entered u.held) i) same g.gives);
        } in next)
        (λ (other : g.seat ≡ id → ⊥).
        let next : IsGivenElsewhere (set views id w) s i = record {
          seat = g.seat;
          view = g.view;
          there = set_else views id g.seat w other ∙ g.there;
          other = g.other;
          gives = g.gives;
        } in next)
        (cases_eq g.seat id)

    pub filled_set : IsFilled n (set views id w) id w → (s : ℕ) (u : CtxView) → get_elem? (set views id w) s ≡ some u → IsFilled n (set views id w) s u
    filled_set this =
        seats_set (λ s u. IsFilled n (set views id w) s u) views id w
        (λ s u other at before after p full same i within. ⊎_elim inl (λ (g : IsGivenElsewhere views s i). inr (elsewhere_set s i g)) (filled s u at before after p full same i within))
        this

    -- its own list is as it was
    pub filled_same : w.held.entered ≡ v.held.entered → others_of w.held ≡ others_of v.held → IsFilled n (set views id w) id w
    filled_same own others before after p full same i within =
        ⊎_elim
        (λ (g : Gives (before ++ others_of v.held) i). inl (subst (λ (l : List Entry). Gives (before ++ l) i) (sym others) g))
        (λ (g : IsGivenElsewhere views id i). inr (elsewhere_set id i g))
        (filled id v there before after p full (sym own ∙ same) i within)

    -- its own list has an entry more; where that one is refused, each node was given before
    pub filled_entry : (e : Entry) → w.held.entered ≡ v.held.entered ++ e ∷ [] → others_of w.held ≡ others_of v.held
        → ((p : Path) (full : CtxFull) → e ≡ record { path = p; answer = Err full } → (i : ℕ) → i < n → (q : Path) × WasEntered views q i)
        → IsFilled n (set views id w) id w
    filled_entry e own others given before after p full same i within =
        ⊎_elim
        (λ (t : (before ≡ v.held.entered) × (e ≡ record { path = p; answer = Err full })). last t.0 (given p full t.1 i within))
        (λ (t : (rest : List Entry) × (v.held.entered ≡ before ++ record { path = p; answer = Err full } ∷ rest)).
        ⊎_elim
        (λ (g : Gives (before ++ others_of v.held) i). inl (subst (λ (l : List Entry). Gives (before ++ l) i) (sym others) g))
        (λ (g : IsGivenElsewhere views id i). inr (elsewhere_set id i g))
        (filled id v there before t.0 p full t.1 i within))
        (snoc_cases v.held.entered e before after record { path = p; answer = Err full } (sym own ∙ same))
      where
        last : before ≡ v.held.entered → (q : Path) × WasEntered views q i → Gives (before ++ others_of w.held) i ⊎ IsGivenElsewhere (set views id w) id i
        last whole (q, was) =
            let entry : Entry = record { path = q; answer = Ok record { number = i } } in
            ⊎_elim
            (λ (here : was.seat ≡ id).
            let equal = same_at views id was.view v (subst (λ (k : ℕ). get_elem? views k ≡ some was.view) here was.there) there in
            let mine : Contains (v.held.entered ++ others_of v.held) entry = subst (λ (u : CtxView). Contains (all_entered u.held) entry) equal was.entry in
            inl (q, subst (λ (l : List Entry). Contains (before ++ l) entry) (sym others) (subst (λ (l : List Entry). Contains (l ++ others_of v.held) entry) (sym whole) mine)))
            (λ (other : was.seat ≡ id → ⊥).
            let next : IsGivenElsewhere views id i = record { seat = was.seat; view = was.view; there = was.there; other = other; gives = (q, was.entry) } in
            inr (elsewhere_set id i next))
            (cases_eq was.seat id)

  elsewhere_longer : (views' : List CtxView) (w : CtxView) (s i : ℕ) → IsGivenElsewhere views' s i → IsGivenElsewhere (views' ++ w ∷ []) s i
  elsewhere_longer views' w s i g = record {
    seat = g.seat;
    view = g.view;
    there = at_longer views' (w ∷ []) g.seat g.view g.there;
    other = g.other;
    gives = g.gives;
  }

  -- a pass is split
  pub filled_split : (s : ℕ) (u : CtxView) → get_elem? (set views id (splits v) ++ split_off v ∷ []) s ≡ some u → IsFilled n (set views id (splits v) ++ split_off v ∷ []) s u
  filled_split =
      let old = filled_set (splits v) (λ e in_entered. in_entered) (filled_same (splits v) (λ e in_entered. in_entered) refl refl) in
      seats_longer (λ s u. IsFilled n (set views id (splits v) ++ split_off v ∷ []) s u) (set views id (splits v)) (split_off v)
      (λ s u at before after p full same i within.
      ⊎_elim inl (λ (g : IsGivenElsewhere (set views id (splits v)) s i). inr (elsewhere_longer (set views id (splits v)) (split_off v) s i g)) (old s u at before after p full same i within))
      (spent_filled n (set views id (splits v) ++ split_off v ∷ []) (length (set views id (splits v))) (split_off v) refl)

  -- a pass is joined into another
  module _ (from : ℕ) (w : CtxView) (from_there : get_elem? views from ≡ some w) (apart : from ≢ id) where
    at_both : get_elem? (set (set views id (takes_in v w)) from spent) id ≡ some (takes_in v w)
    at_both = set_else (set views id (takes_in v w)) from id spent (λ (e : id ≡ from). apart (sym e)) ∙ set_here views id (takes_in v w) (at_within views id v there)

    elsewhere_both : (s i : ℕ) → s ≢ id → Gives (all_entered (joins v.held w.held)) i → IsGivenElsewhere (set (set views id (takes_in v w)) from spent) s i
    elsewhere_both s i other gives = record {
      seat = id;
      view = takes_in v w;
      there = at_both;
      other = λ (e : id ≡ s). other (sym e);
      gives = gives;
    }

    all_first : (e : Entry) → Contains (all_entered v.held) e → Contains (all_entered (joins v.held w.held)) e
    all_first e in_first = subst (λ (l : List Entry). Contains l e) (sym (all_entered-joins v.held w.held)) (Contains-append_left (all_entered v.held) (all_entered w.held) e in_first)

    all_second : (e : Entry) → Contains (all_entered w.held) e → Contains (all_entered (joins v.held w.held)) e
    all_second e in_second = subst (λ (l : List Entry). Contains l e) (sym (all_entered-joins v.held w.held)) (Contains-append_right (all_entered v.held) (all_entered w.held) e in_second)

    elsewhere_kept : (s i : ℕ) (g : IsGivenElsewhere views s i) → g.seat ≢ id → g.seat ≢ from → IsGivenElsewhere (set (set views id (takes_in v w)) from spent) s i
    elsewhere_kept s i g not_id not_from = record {
      seat = g.seat;
      view = g.view;
      there = set_else (set views id (takes_in v w)) from g.seat spent not_from ∙ (set_else views id g.seat (takes_in v w) not_id ∙ g.there);
      other = g.other;
      gives = g.gives;
    }

    elsewhere_join : (s i : ℕ) → s ≢ id → IsGivenElsewhere views s i → IsGivenElsewhere (set (set views id (takes_in v w)) from spent) s i
    elsewhere_join s i other g =
        ⊎_elim
        (λ (here : g.seat ≡ id).
        let same = same_at views id g.view v (subst (λ (k : ℕ). get_elem? views k ≡ some g.view) here g.there) there in
        elsewhere_both s i other (gives_more (all_entered v.held) (all_entered (joins v.held w.held)) i all_first (subst (λ (u : CtxView). Gives (all_entered u.held) i) same g.gives)))
        (λ (not_id : g.seat ≡ id → ⊥).
        ⊎_elim
        (λ (taken : g.seat ≡ from).
        let same = same_at views from g.view w (subst (λ (k : ℕ). get_elem? views k ≡ some g.view) taken g.there) from_there in
        elsewhere_both s i other (gives_more (all_entered w.held) (all_entered (joins v.held w.held)) i all_second (subst (λ (u : CtxView). Gives (all_entered u.held) i) same g.gives)))
        (λ (not_from : g.seat ≡ from → ⊥). elsewhere_kept s i g not_id not_from)
        (cases_eq g.seat from))
        (cases_eq g.seat id)

    both_filled : IsFilled n (set (set views id (takes_in v w)) from spent) id (takes_in v w)
    both_filled before after p full same i within =
        ⊎_elim
        (λ (g : Gives (before ++ others_of v.held) i).
        inl (gives_more (before ++ others_of v.held) (before ++ others_of (joins v.held w.held)) i (behind before (others_of v.held) (others_of (joins v.held w.held)) (others_first v.held w.held)) g))
        (λ (g : IsGivenElsewhere views id i).
        ⊎_elim
        (λ (taken : g.seat ≡ from).
        let equal = same_at views from g.view w (subst (λ (k : ℕ). get_elem? views k ≡ some g.view) taken g.there) from_there in
        inl (gives_more (all_entered w.held) (before ++ others_of (joins v.held w.held)) i
        (λ e in_other. Contains-append_right before (others_of (joins v.held w.held)) e (others_second v.held w.held e in_other))
        (subst (λ (u : CtxView). Gives (all_entered u.held) i) equal g.gives)))
        (λ (not_from : g.seat ≡ from → ⊥). inr (elsewhere_kept id i g g.other not_from))
        (cases_eq g.seat from))
        (filled id v there before after p full same i within)

    pub filled_join : (s : ℕ) (u : CtxView) → get_elem? (set (set views id (takes_in v w)) from spent) s ≡ some u → IsFilled n (set (set views id (takes_in v w)) from spent) s u
    filled_join =
        seats_set (λ s u. IsFilled n (set (set views id (takes_in v w)) from spent) s u) (set views id (takes_in v w)) from spent
        (λ s u not_from at.
        seats_set (λ s u. IsFilled n (set (set views id (takes_in v w)) from spent) s u) views id (takes_in v w)
        (λ s u other at before after p full same i within. ⊎_elim inl (λ (g : IsGivenElsewhere views s i). inr (elsewhere_join s i other g)) (filled s u at before after p full same i within))
        both_filled s u at)
        (spent_filled n (set (set views id (takes_in v w)) from spent) from spent refl)
