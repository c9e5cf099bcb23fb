-- The first different prefixes, and one more of them.
use Rattle.std.proofs.Common.{◌≡◌, ℕ, ◌<◌, ◌≤◌, inl, inr, Bool, true, false, not, List, [], ◌∷◌, ◌++◌, map, take, length, refl, sym, ap, ◌∙◌, arith, append_assoc, length-append}
use Rattle.std.specs.Prelude.{◌||◌, filter, fold, nat_lt, if◌then◌else◌}
use Rattle.std.specs.List.{list_all}
use Rattle.std.proofs.lemmas.Bool.{cases_lt, le-ltb}
use Rattle.std.proofs.lemmas.List.{take-append-le, length-take-le, take_all, append-nil, map-append}
use Rattle.std.proofs.lemmas.List.Elements.{filter-append}
use Rattle.std.proofs.lemmas.List.Folds.{list_any-append}
use Rattle.ctx_set.specs.declared.steps.StackStep.{StackStep}
use Rattle.reports.specs.Stacks.{is_same}
use Rattle.reports.specs.Prefixes.{prefixes, distinct, has}
use Rattle.reports.proofs.Sames.{same_is, same_sym, both}

-- the prefixes that are held after one more was asked for, where there is room for so many: it is added where it is new and there is room
abbrev pub entered : ℕ → List (List StackStep) → List StackStep → List (List StackStep)
entered most held prefix = if has held prefix || not (nat_lt (length held) most) then held else held ++ prefix ∷ []

-- what one more brings
abbrev pub new_one : Bool → List StackStep → List (List StackStep)
new_one true p = []
new_one false p = p ∷ []

kept_one : (x p : List StackStep) (h s : Bool) → is_same x p ≡ s → is_same p x ≡ s → filter (λ other. not (is_same x other)) (new_one h p) ≡ new_one (is_same p x || h) p
kept_one x p true true e f = rw f refl
kept_one x p true false e f = rw f refl
kept_one x p false true e f = rw (e, f) refl
kept_one x p false false e f = rw (e, f) refl

pub distinct_push : (xs : List (List StackStep)) (p : List StackStep) → distinct (xs ++ p ∷ []) ≡ distinct xs ++ new_one (has xs p) p
distinct_push [] p = refl
distinct_push (x ∷ xs) p =
    let t : List StackStep → Bool = λ other. not (is_same x other) in
    ap (λ ys. x ∷ filter t ys) (distinct_push xs p)
    ∙ ap (λ ys. x ∷ ys) (filter-append t (distinct xs) (new_one (has xs p) p) ∙ ap (λ ys. filter t (distinct xs) ++ ys) (kept_one x p (has xs p) (is_same x p) refl (same_sym p x)))

has_one : (x p y : List StackStep) (ys : List (List StackStep)) (s : Bool) → is_same x y ≡ s → is_same p x ≡ false → has (filter (λ other. not (is_same x other)) ys) p ≡ has ys p → has (filter (λ other. not (is_same x other)) (y ∷ ys)) p ≡ has (y ∷ ys) p
has_one x p y ys true e f ih = let other : is_same p y ≡ false = rw (same_is x y e) at f in rw (e, other) ih
has_one x p y ys false e f ih = rw e (ap (λ h. is_same p y || h) ih)

has_filtered : (x p : List StackStep) → is_same p x ≡ false → (ys : List (List StackStep)) → has (filter (λ other. not (is_same x other)) ys) p ≡ has ys p
has_filtered x p f [] = refl
has_filtered x p f (y ∷ ys) = has_one x p y ys (is_same x y) refl f (has_filtered x p f ys)

has_head : (x p : List StackStep) (xs : List (List StackStep)) (s : Bool) → is_same p x ≡ s → has (distinct xs) p ≡ has xs p → has (distinct (x ∷ xs)) p ≡ has (x ∷ xs) p
has_head x p xs true e ih = rw e refl
has_head x p xs false e ih = ap (λ h. is_same p x || h) (has_filtered x p e (distinct xs) ∙ ih)

pub has_distinct : (xs : List (List StackStep)) (p : List StackStep) → has (distinct xs) p ≡ has xs p
has_distinct [] p = refl
has_distinct (x ∷ xs) p = has_head x p xs (is_same p x) refl (has_distinct xs p)

-- where there is no room nothing changes
or_true : (b : Bool) → (b || true) ≡ true
or_true true = refl
or_true false = refl

pub entered_full : (n : ℕ) (held : List (List StackStep)) (p : List StackStep) → n ≤ length held → entered n held p ≡ held
entered_full n held p full = rw (le-ltb (length held) n full, or_true (has held p)) refl

entered_known : (n : ℕ) (held : List (List StackStep)) (p : List StackStep) (h : Bool) → has held p ≡ h → length held < n → entered n held p ≡ held ++ new_one h p
entered_known n held p true e roomy = rw e (sym (append-nil held))
entered_known n held p false e roomy = let short : nat_lt (length held) n ≡ true = grind arith in rw (e, short) refl

pub entered_roomy : (n : ℕ) (held : List (List StackStep)) (p : List StackStep) → length held < n → entered n held p ≡ held ++ new_one (has held p) p
entered_roomy n held p roomy = entered_known n held p (has held p) refl roomy

at_most_one : (h : Bool) (p : List StackStep) → length (new_one h p) ≤ 1
at_most_one true p = omega arith
at_most_one false p = omega arith

-- the first n different ones, and one more
pub take_push : (n : ℕ) (xs : List (List StackStep)) (p : List StackStep) → take n (distinct (xs ++ p ∷ [])) ≡ entered n (take n (distinct xs)) p
take_push n xs p = ap (take n) (distinct_push xs p) ∙ (elim (cases_lt (length (distinct xs)) n) [ inl roomy ↦ short roomy | inr full ↦ long full ])
  where
    d : List (List StackStep)
    d = distinct xs

    short : length (distinct xs) < n → take n (distinct xs ++ new_one (has xs p) p) ≡ entered n (take n (distinct xs)) p
    short roomy =
        let one = at_most_one (has xs p) p in
        let joined : length (distinct xs ++ new_one (has xs p) p) ≤ n = rw length-append (omega arith) in
        take_all n (distinct xs ++ new_one (has xs p) p) joined
        ∙ ap (λ h. distinct xs ++ new_one h p) (sym (has_distinct xs p))
        ∙ sym (ap (λ held. entered n held p) (take_all n (distinct xs) (omega arith)) ∙ entered_roomy n (distinct xs) p roomy)

    long : n ≤ length (distinct xs) → take n (distinct xs ++ new_one (has xs p) p) ≡ entered n (take n (distinct xs)) p
    long full =
        take-append-le n (distinct xs) (new_one (has xs p) p) full
        ∙ sym (entered_full n (take n (distinct xs)) p (let l = length-take-le n (distinct xs) full in omega arith))

-- and many more
pub take_more : (n : ℕ) (xs ys : List (List StackStep)) → take n (distinct (xs ++ ys)) ≡ fold (entered n) (take n (distinct xs)) ys
take_more n xs [] = ap (λ l. take n (distinct l)) (append-nil xs)
take_more n xs (y ∷ ys) =
    ap (λ l. take n (distinct l)) (sym (append_assoc xs (y ∷ []) ys)) ∙ take_more n (xs ++ y ∷ []) ys
    ∙ ap (λ held. fold (entered n) held ys) (take_push n xs y)

pub fold_full : (n : ℕ) (held ys : List (List StackStep)) → n ≤ length held → fold (entered n) held ys ≡ held
fold_full n held [] full = refl
fold_full n held (y ∷ ys) full = ap (λ h. fold (entered n) h ys) (entered_full n held y full) ∙ fold_full n held ys full

-- the first different ones of those are those
module _ (n : ℕ) where
  abbrev firsts : List (List StackStep) → List (List StackStep)
  firsts xs = take n (distinct xs)

  pub none_first : firsts [] ≡ []
  none_first = take_all n [] (omega arith)

  stays_by : (held : List (List StackStep)) (p : List StackStep) (known : Bool) → has held p || not (nat_lt (length held) n) ≡ known → firsts held ≡ held → firsts (entered n held p) ≡ entered n held p
  stays_by held p true e same = rw e same
  stays_by held p false e same = let one : entered n held p ≡ held ++ p ∷ [] = rw e refl in ap firsts one ∙ take_push n held p ∙ ap (λ h. entered n h p) same

  stays : (held ys : List (List StackStep)) → firsts held ≡ held → firsts (fold (entered n) held ys) ≡ fold (entered n) held ys
  stays held [] same = same
  stays held (y ∷ ys) same = stays (entered n held y) ys (stays_by held y (has held y || not (nat_lt (length held) n)) refl same)

  pub folded : (ys : List (List StackStep)) → firsts ys ≡ fold (entered n) [] ys
  folded ys = take_more n [] ys ∙ ap (λ h. fold (entered n) h ys) none_first

  pub firsts_of_firsts : (xs : List (List StackStep)) → firsts (firsts xs) ≡ firsts xs
  firsts_of_firsts xs = ap firsts (folded xs) ∙ stays [] xs none_first ∙ sym (folded xs)

  pub firsts_more : (xs ys : List (List StackStep)) → firsts (firsts xs ++ ys) ≡ firsts (xs ++ ys)
  firsts_more xs ys = take_more n (firsts xs) ys ∙ ap (λ h. fold (entered n) h ys) (firsts_of_firsts xs) ∙ sym (take_more n xs ys)

  pub firsts_entered : (held ys : List (List StackStep)) → firsts held ≡ held → firsts (held ++ ys) ≡ fold (entered n) held ys
  firsts_entered held ys same = take_more n held ys ∙ ap (λ h. fold (entered n) h ys) same

-- what is held stays
has_longer : (held more : List (List StackStep)) (p : List StackStep) → has held p ≡ true → has (held ++ more) p ≡ true
has_longer held more p e = list_any-append (is_same p) held more ∙ rw e refl

pub has_entered : (n : ℕ) (held : List (List StackStep)) (q p : List StackStep) → has held p ≡ true → has (entered n held q) p ≡ true
has_entered n held q p e = elim (cases_lt (length held) n) [ inl roomy ↦ rw (entered_roomy n held q roomy) (has_longer held (new_one (has held q) q) p e) | inr full ↦ rw (entered_full n held q full) e ]

-- all that were held are held
pub all_stay : (n : ℕ) (held : List (List StackStep)) (q : List StackStep) (ps : List (List StackStep)) → list_all (has held) ps ≡ true → list_all (has (entered n held q)) ps ≡ true
all_stay n held q [] e = refl
all_stay n held q (p ∷ ps) e =
    let parts = both (has held p) (list_all (has held) ps) e in
    rw (has_entered n held q p parts.0) (all_stay n held q ps parts.1)

-- the prefixes of a longer stack
pub prefixes_push : (xs : List StackStep) (x : StackStep) → prefixes (xs ++ x ∷ []) ≡ prefixes xs ++ (xs ++ x ∷ []) ∷ []
prefixes_push [] x = refl
prefixes_push (y ∷ xs) x =
    ap (λ ps. (y ∷ []) ∷ map (λ (p : List StackStep). y ∷ p) ps) (prefixes_push xs x)
    ∙ ap (λ ps. (y ∷ []) ∷ ps) (map-append (λ (p : List StackStep). y ∷ p) (prefixes xs) ((xs ++ x ∷ []) ∷ []))
