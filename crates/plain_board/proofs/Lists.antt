-- Lists of prefixes: what a longer one holds, and that none of the first different ones stands twice.
use Rattle.std.proofs.Common.{◌≡◌, ◌<◌, ◌≤◌, ◌+◌, ℕ, Bool, true, false, not, List, [], ◌∷◌, ◌++◌, map, take, length, get_or, refl, sym, ap, ◌∙◌, inl, inr, arith, append_assoc}
use Rattle.std.specs.Prelude.{count_by, fold, filter, nat_lt, ◌||◌, All}
use Rattle.std.specs.List.{list_all}
use Rattle.std.proofs.lemmas.Bool.{cases_lt}
use Rattle.std.proofs.lemmas.List.{append-nil, get_or_default}
use Rattle.std.proofs.lemmas.List.Elements.{All-nil, All-cons, All-append}
use Rattle.std.proofs.lemmas.List.Folds.{list_any-append, list_all-map}
use Rattle.std.proofs.lemmas.List.Sums.{sum_by-cons, sum_by-take-le, list_all-from_AllPass}
use Rattle.ctx_set.specs.declared.steps.StackStep.{StackStep}
use Rattle.reports.specs.Stacks.{is_same}
use Rattle.reports.specs.Prefixes.{prefixes, distinct, has}
use Rattle.reports.proofs.Sames.{same_is, same_itself, same_sym, both}
use Rattle.prefix_table.proofs.EdgeLaws.{has_at}
use Rattle.prefix_table.proofs.Firsts.{entered}
use Rattle.stack_counts.proofs.Ordered.{counts_two}
use Rattle.plain_board.specs.Gathered.{among}
use Rattle.stack_counts.proofs.Bits.{bit}

or_true : (b : Bool) → (b || true) ≡ true
or_true true = refl
or_true false = refl

pub has_left : (held more : List (List StackStep)) (p : List StackStep) → has held p ≡ true → has (held ++ more) p ≡ true
has_left held more p e = list_any-append (is_same p) held more ∙ rw e refl

pub has_right : (front held : List (List StackStep)) (p : List StackStep) → has held p ≡ true → has (front ++ held) p ≡ true
has_right front held p e = list_any-append (is_same p) front held ∙ rw e (or_true (has front p))

-- what passes one test passes another
pub all_pass : (f g : List StackStep → Bool) → ((p : List StackStep) → f p ≡ true → g p ≡ true) → (ps : List (List StackStep)) → list_all f ps ≡ true → list_all g ps ≡ true
all_pass f g h [] e = refl
all_pass f g h (p ∷ ps) e =
    let parts = both (f p) (list_all f ps) e in
    let here : g p ≡ true = h p parts.0 in
    rw here (all_pass f g h ps parts.1)

pub all_itself : (ps : List (List StackStep)) → list_all (has ps) ps ≡ true
all_itself ps = list_all-from_AllPass (has ps) ps (λ k d within. ap (has ps) (get_or_default ps k d [] within) ∙ has_at ps k within)

-- a stack is the longest of its prefixes
pub own_prefix : (f : List StackStep → Bool) (stack : List StackStep) → 0 < length stack → list_all f (prefixes stack) ≡ true → f stack ≡ true
own_prefix f [] some e = absurd (omega arith)
own_prefix f (x ∷ []) some e = (both (f (x ∷ [])) true e).0
own_prefix f (x ∷ y ∷ ys) some e =
    own_prefix (λ (q : List StackStep). f (x ∷ q)) (y ∷ ys) (omega arith)
    (sym (list_all-map f (λ (q : List StackStep). x ∷ q) (prefixes (y ∷ ys))) ∙ (both (f (x ∷ [])) (list_all f (map (λ (q : List StackStep). x ∷ q) (prefixes (y ∷ ys)))) e).1)

-- What is held later: the new ones stand behind, and none of them was held before.
pub record Later (held next : List (List StackStep)) : Type 0 where
  pub more : List (List StackStep)
  pub is : next ≡ held ++ more
  pub fresh : All (λ (p : List StackStep). has held p ≡ false) more

later_none : (held next : List (List StackStep)) → next ≡ held → Later held next
later_none held next e = record { more = []; is = e ∙ sym (append-nil held); fresh = All-nil (λ (p : List StackStep). has held p ≡ false) }

later_one : (n : ℕ) (held : List (List StackStep)) (p : List StackStep) (h s : Bool) → has held p ≡ h → nat_lt (length held) n ≡ s → Later held (entered n held p)
later_one n held p true s e f = later_none held (entered n held p) (rw e refl)
later_one n held p false false e f = later_none held (entered n held p) (rw (e, f) refl)
later_one n held p false true e f = record {
  more = p ∷ [];
  is = rw (e, f) refl;
  fresh = All-cons (λ (q : List StackStep). has held q ≡ false) p [] e (All-nil (λ (q : List StackStep). has held q ≡ false));
}

not_before : (held more : List (List StackStep)) (p : List StackStep) (h : Bool) → has held p ≡ h → has (held ++ more) p ≡ false → h ≡ false
not_before held more p false e f = refl
not_before held more p true e f =
    let clash : true ≡ false = sym (has_left held more p e) ∙ f in
    absurd (let no : ⊥ = cc in no)

later_on : (a b c : List (List StackStep)) → Later a b → Later b c → Later a c
later_on a b c l m = record {
  more = l.more ++ m.more;
  is = m.is ∙ ap (λ (h : List (List StackStep)). h ++ m.more) l.is ∙ append_assoc a l.more m.more;
  fresh = All-append (λ (p : List StackStep). has a p ≡ false) l.more m.more l.fresh
      (λ k d within. not_before a l.more (get_or m.more k d) _ refl (ap (λ (h : List (List StackStep)). has h (get_or m.more k d)) (sym l.is) ∙ m.fresh k d within));
}

pub later : (n : ℕ) (ys held : List (List StackStep)) → Later held (fold (entered n) held ys)
later n [] held = later_none held held refl
later n (y ∷ ys) held = later_on held (entered n held y) (fold (entered n) held (y ∷ ys)) (later_one n held y _ _ refl refl) (later n ys (entered n held y))

-- counting
module _ {X : Type 0} (t : X → Bool) where
  count_cons : (x : X) (xs : List X) (b : Bool) → t x ≡ b → count_by t (x ∷ xs) ≡ bit b + count_by t xs
  count_cons x xs b e = sum_by-cons (λ (y : X). bit (t y)) x xs ∙ ap (λ c. bit c + count_by t xs) e

  filter_head : (q : X → Bool) (y : X) (ys : List X) (b c : Bool) → q y ≡ b → t y ≡ c → count_by t (filter q ys) ≤ count_by t ys → count_by t (filter q (y ∷ ys)) ≤ count_by t (y ∷ ys)
  filter_head q y ys true c e f less =
      let whole = count_cons y ys c f in
      let part = count_cons y (filter q ys) c f in
      rw e (omega (arith, whole, part, less))
  filter_head q y ys false c e f less =
      let whole = count_cons y ys c f in
      rw e (omega (arith, whole, less))

  filter_fewer : (q : X → Bool) (ys : List X) → count_by t (filter q ys) ≤ count_by t ys
  filter_fewer q [] = omega arith
  filter_fewer q (y ∷ ys) = filter_head q y ys _ _ refl refl (filter_fewer q ys)

-- none is left of a stack that is taken out
none_head : (x stack y : List StackStep) (ys : List (List StackStep)) (s : Bool) → is_same x stack ≡ true → is_same x y ≡ s → among stack (filter (λ other. not (is_same x other)) ys) ≡ 0 → among stack (filter (λ other. not (is_same x other)) (y ∷ ys)) ≡ 0
none_head x stack y ys true e f rest = rw f rest
none_head x stack y ys false e f rest =
    let other : is_same y stack ≡ false = same_sym y stack ∙ ap (λ (a : List StackStep). is_same a y) (sym (same_is x stack e)) ∙ f in
    let whole = count_cons (λ (prefix : List StackStep). is_same prefix stack) y (filter (λ other. not (is_same x other)) ys) false other in
    rw f (omega (arith, whole, rest))

none_left : (x stack : List StackStep) (ys : List (List StackStep)) → is_same x stack ≡ true → among stack (filter (λ other. not (is_same x other)) ys) ≡ 0
none_left x stack [] e = refl
none_left x stack (y ∷ ys) e = none_head x stack y ys _ e refl (none_left x stack ys e)

once_head : (x stack : List StackStep) (ys : List (List StackStep)) (s : Bool) → is_same x stack ≡ s → among stack ys ≤ 1 → among stack (x ∷ filter (λ other. not (is_same x other)) ys) ≤ 1
once_head x stack ys true e most =
    let whole = count_cons (λ (prefix : List StackStep). is_same prefix stack) x (filter (λ other. not (is_same x other)) ys) true e in
    let none = none_left x stack ys e in
    omega (arith, whole, none)
once_head x stack ys false e most =
    let whole = count_cons (λ (prefix : List StackStep). is_same prefix stack) x (filter (λ other. not (is_same x other)) ys) false e in
    let less = filter_fewer (λ (prefix : List StackStep). is_same prefix stack) (λ other. not (is_same x other)) ys in
    omega (arith, whole, less, most)

distinct_once : (stack : List StackStep) (xs : List (List StackStep)) → among stack (distinct xs) ≤ 1
distinct_once stack [] = omega arith
distinct_once stack (x ∷ xs) = once_head x stack (distinct xs) _ refl (distinct_once stack xs)

pub firsts_once : (stack : List StackStep) (n : ℕ) (xs : List (List StackStep)) → among stack (take n (distinct xs)) ≤ 1
firsts_once stack n xs =
    let less = sum_by-take-le (λ (prefix : List StackStep). bit (is_same prefix stack)) (distinct xs) n in
    let most = distinct_once stack xs in
    omega (arith, less, most)

-- so a stack has one place
module _ (held : List (List StackStep)) (once : (stack : List StackStep) → among stack held ≤ 1) (stack : List StackStep) where
  not_twice : (i j : ℕ) → i < j → j < length held → get_or held i [] ≡ stack → get_or held j [] ≡ stack → ⊥
  not_twice i j before within e f =
      let here : is_same (get_or held i []) stack ≡ true = ap (λ (s : List StackStep). is_same s stack) e ∙ same_itself stack in
      let there : is_same (get_or held j []) stack ≡ true = ap (λ (s : List StackStep). is_same s stack) f ∙ same_itself stack in
      let two = counts_two (λ (prefix : List StackStep). is_same prefix stack) held i j [] before within here there in
      let most = once stack in
      omega (arith, two, most)

  pub one_place : (i j : ℕ) → i < length held → j < length held → get_or held i [] ≡ stack → get_or held j [] ≡ stack → i ≡ j
  one_place i j low high e f = elim (cases_lt i j) [ inl before ↦ absurd (not_twice i j before high e f) | inr behind ↦ elim (cases_lt j i) [ inl before ↦ absurd (not_twice j i before low f e) | inr at ↦ omega (arith, behind, at) ] ]
