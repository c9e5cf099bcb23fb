-- The room of a board: a stack for which there was room once has room still, and where there was none there are more prefixes than the board has
-- room for.
use Rattle.std.proofs.Common.{◌≡◌, refl, sym, ap, ◌∙◌, ℕ, zero, suc, ◌<◌, ◌≤◌, Bool, true, false, not, ◌&&◌, ◌||◌, List, [], ◌∷◌, ◌++◌, length, take, arith, append_assoc, inl, inr}
use Rattle.std.specs.Prelude.{filter, count_by, flat_map, cond}
use Rattle.std.specs.List.{list_all}
use Rattle.std.proofs.lemmas.Bool.{cases_lt}
use Rattle.std.proofs.lemmas.Grind.{flat_map-append}
use Rattle.std.proofs.lemmas.List.Elements.{filter-append}
use Rattle.std.proofs.lemmas.List.{length-append}
use Rattle.std.proofs.lemmas.List.Folds.{list_any-append}
use Rattle.std.proofs.lemmas.List.Sums.{sum_by-cons}
use Rattle.ctx_set.specs.Prefixes.{is_same_step, is_same, prefixes, distinct, has, room}
use Rattle.ctx_set.specs.declared.steps.StackStep.{StackStep}
use Rattle.src_model.specs.Scheduled.{has_room}

-- The test of two stacks is equality.

step_is : (a b : StackStep) → is_same_step a b ≡ true → a ≡ b
step_is a b e = grind arith

step_itself : (a : StackStep) → is_same_step a a ≡ true
step_itself a = grind arith

pub both : (a b : Bool) → (a && b) ≡ true → (a ≡ true) × (b ≡ true)
both true b e = (refl, e)
both false b e = let clash : ⊥ = cc in absurd clash

pub same_is : (a b : List StackStep) → is_same a b ≡ true → a ≡ b
same_is [] [] e = refl
same_is [] (y ∷ ys) e = let clash : ⊥ = cc in absurd clash
same_is (x ∷ xs) [] e = let clash : ⊥ = cc in absurd clash
same_is (x ∷ xs) (y ∷ ys) e =
    let parts = both (is_same_step x y) (is_same xs ys) e in
    let head = step_is x y parts.0 in
    let tail = same_is xs ys parts.1 in
    cc

pub same_itself : (a : List StackStep) → is_same a a ≡ true
same_itself [] = refl
same_itself (x ∷ xs) = rw (step_itself x) (same_itself xs)

-- Lists of stacks.

abbrev pub Stacks : Type 0
Stacks = List (List StackStep)

either : (a b : Bool) → (a || b) ≡ true → (a ≡ false → b ≡ true)
either true b e f = let clash : ⊥ = cc in absurd clash
either false b e f = e

or_true : (a b : Bool) → b ≡ true → (a || b) ≡ true
or_true true b e = refl
or_true false b e = e

or_left : (a b : Bool) → a ≡ true → (a || b) ≡ true
or_left true b e = refl
or_left false b e = let clash : ⊥ = cc in absurd clash

pub has_left : (front back : Stacks) (p : List StackStep) → has front p ≡ true → has (front ++ back) p ≡ true
has_left front back p e = list_any-append (is_same p) front back ∙ or_left (has front p) (has back p) e

pub has_right : (front back : Stacks) (p : List StackStep) → has back p ≡ true → has (front ++ back) p ≡ true
has_right front back p e = list_any-append (is_same p) front back ∙ or_true (has front p) (has back p) e

pub has_cases : (front back : Stacks) (p : List StackStep) → has (front ++ back) p ≡ true → has front p ≡ false → has back p ≡ true
has_cases front back p e f = either (has front p) (has back p) (sym (list_any-append (is_same p) front back) ∙ e) f

pub has_first : (p : List StackStep) (back : Stacks) → has (p ∷ back) p ≡ true
has_first p back = rw (same_itself p) refl

-- without one stack
abbrev without : List StackStep → Stacks → Stacks
without x stacks = filter (λ other. not (is_same x other)) stacks

filtered_if : (q : List StackStep → Bool) (p m : List StackStep) (ms : Stacks) (b : Bool) → q m ≡ b → has (m ∷ ms) p ≡ false → has (filter q ms) p ≡ false → has (filter q (m ∷ ms)) p ≡ false
filtered_if q p m ms true e f rest = rw e (none_of (is_same p m) (has ms p) f)
  where
    none_of : (a b : Bool) → (a || b) ≡ false → (a || has (filter q ms) p) ≡ false
    none_of true b g = let clash : ⊥ = cc in absurd clash
    none_of false b g = rest
filtered_if q p m ms false e f rest = rw e rest

none_of_tail : (a b : Bool) → (a || b) ≡ false → b ≡ false
none_of_tail true b e = let clash : ⊥ = cc in absurd clash
none_of_tail false b e = e

has_fewer : (q : List StackStep → Bool) (p : List StackStep) (ms : Stacks) → has ms p ≡ false → has (filter q ms) p ≡ false
has_fewer q p [] e = refl
has_fewer q p (m ∷ ms) e = filtered_if q p m ms (q m) refl e (has_fewer q p ms (none_of_tail (is_same p m) (has ms p) e))

none_head : (x m : List StackStep) (ms : Stacks) (b : Bool) → is_same x m ≡ b → has (without x ms) x ≡ false → has (without x (m ∷ ms)) x ≡ false
none_head x m ms true e rest = rw e rest
none_head x m ms false e rest = rw e (rw e rest)

none_left : (x : List StackStep) (ms : Stacks) → has (without x ms) x ≡ false
none_left x [] = refl
none_left x (m ∷ ms) = none_head x m ms (is_same x m) refl (none_left x ms)

-- another stack stays
other_head : (x p m : List StackStep) (ms : Stacks) (b : Bool) → is_same x m ≡ b → is_same p x ≡ false → has (without x ms) p ≡ has ms p → has (without x (m ∷ ms)) p ≡ has (m ∷ ms) p
other_head x p m ms true e other rest =
    let apart : is_same p m ≡ false = ap (is_same p) (sym (same_is x m e)) ∙ other in rw (e, apart) rest
other_head x p m ms false e other rest = rw e (ap (λ b. is_same p m || b) rest)

has_other : (x p : List StackStep) (ms : Stacks) → is_same p x ≡ false → has (without x ms) p ≡ has ms p
has_other x p [] other = refl
has_other x p (m ∷ ms) other = other_head x p m ms (is_same x m) refl other (has_other x p ms other)

-- each once

distinct_head : (x p : List StackStep) (xs : Stacks) (b : Bool) → is_same p x ≡ b → has (distinct xs) p ≡ has xs p → has (distinct (x ∷ xs)) p ≡ has (x ∷ xs) p
distinct_head x p xs true e rest = rw e refl
distinct_head x p xs false e rest = rw e (has_other x p (distinct xs) e ∙ rest)

pub has_distinct : (p : List StackStep) (xs : Stacks) → has (distinct xs) p ≡ has xs p
has_distinct p [] = refl
has_distinct p (x ∷ xs) = distinct_head x p xs (is_same p x) refl (has_distinct p xs)

-- of a longer list: others stand behind
record GoesOn (xs zs : Stacks) : Type 0 where
  pub more : Stacks
  pub is : distinct (xs ++ zs) ≡ distinct xs ++ more
  pub fresh : (p : List StackStep) → has xs p ≡ true → has more p ≡ false

fresh_by : (x p : List StackStep) (xs more : Stacks) (b : Bool) → is_same p x ≡ b → has (x ∷ xs) p ≡ true → (has xs p ≡ true → has more p ≡ false) → has (without x more) p ≡ false
fresh_by x p xs more true e some fresh = ap (has (without x more)) (same_is p x e) ∙ none_left x more
fresh_by x p xs more false e some fresh = has_fewer (λ other. not (is_same x other)) p more (fresh (either (is_same p x) (has xs p) some e))

goes_on : (xs zs : Stacks) → GoesOn xs zs
goes_on [] zs = record { more = distinct zs; is = refl; fresh = λ p e. let clash : ⊥ = cc in absurd clash }
goes_on (x ∷ xs) zs =
    let rest : GoesOn xs zs = goes_on xs zs in
    record {
      more = without x rest.more;
      is = ap (λ (l : Stacks). x ∷ without x l) rest.is ∙ ap (λ (l : Stacks). x ∷ l) (filter-append (λ other. not (is_same x other)) (distinct xs) rest.more);
      fresh = λ p e. fresh_by x p xs rest.more (is_same p x) refl e (rest.fresh p);
    }

pub distinct_longer : (xs zs : Stacks) → length (distinct xs) ≤ length (distinct (xs ++ zs))
distinct_longer xs zs =
    let on : GoesOn xs zs = goes_on xs zs in
    let whole : length (distinct (xs ++ zs)) ≡ length (distinct xs ++ on.more) = ap (λ (l : Stacks). length l) on.is in
    let parts = length-append (distinct xs) on.more in
    omega (arith, whole, parts)

-- the first ones: those that stood there still do, and no other one of before comes among them
first_of : (n : ℕ) (d more : Stacks) (p : List StackStep) → has more p ≡ false → has (take n (d ++ more)) p ≡ has (take n d) p
first_of zero d more p none = refl
first_of (suc n) [] more p none = fewer (suc n) more none
  where
    fewer : (k : ℕ) (ms : Stacks) → has ms p ≡ false → has (take k ms) p ≡ false
    fewer zero ms e = refl
    fewer (suc k) [] e = refl
    fewer (suc k) (m ∷ ms) e = rw (head_of (is_same p m) (has ms p) e) (fewer k ms (none_of_tail (is_same p m) (has ms p) e))
      where
        head_of : (a b : Bool) → (a || b) ≡ false → a ≡ false
        head_of true b g = g
        head_of false b g = refl
first_of (suc n) (x ∷ d) more p none = ap (λ b. is_same p x || b) (first_of n d more p none)

first_still : (n : ℕ) (xs zs : Stacks) (p : List StackStep) → has xs p ≡ true → has (take n (distinct (xs ++ zs))) p ≡ has (take n (distinct xs)) p
first_still n xs zs p e =
    let on : GoesOn xs zs = goes_on xs zs in
    ap (λ (l : Stacks). has (take n l) p) on.is ∙ first_of n (distinct xs) on.more p (on.fresh p e)

-- Tests over the prefixes of a stack.

all_same : (f g : List StackStep → Bool) (xs : Stacks) → ((p : List StackStep) → has xs p ≡ true → f p ≡ g p) → (ps : Stacks) → list_all (has xs) ps ≡ true → list_all f ps ≡ list_all g ps
all_same f g xs on [] e = refl
all_same f g xs on (p ∷ ps) e =
    let parts = both (has xs p) (list_all (has xs) ps) e in
    rw (on p parts.0) (ap (λ b. g p && b) (all_same f g xs on ps parts.1))

all_in : (front ps : Stacks) → list_all (has (front ++ ps)) ps ≡ true
all_in front [] = refl
all_in front (p ∷ ps) =
    let here : has (front ++ p ∷ ps) p ≡ true = has_right front (p ∷ ps) p (has_first p ps) in
    let rest : list_all (has (front ++ p ∷ ps)) ps ≡ true = ap (λ (l : Stacks). list_all (has l) ps) (sym (append_assoc front (p ∷ []) ps)) ∙ all_in (front ++ p ∷ []) ps in
    rw here rest

-- the prefixes of these stacks
abbrev pub all_prefixes : Stacks → Stacks
all_prefixes asked = flat_map prefixes asked

-- Whether there was room for a stack is told by all that was asked, also later.
pub still_room : (before : Stacks) (stack : List StackStep) (after : Stacks) →
    has_room before stack ≡ list_all (has (take room (distinct (all_prefixes (before ++ stack ∷ after))))) (prefixes stack)
still_room before stack after =
    let xs : Stacks = all_prefixes before ++ prefixes stack in
    let whole : all_prefixes (before ++ stack ∷ after) ≡ xs ++ all_prefixes after =
    flat_map-append prefixes before (stack ∷ after) ∙ sym (append_assoc (all_prefixes before) (prefixes stack) (all_prefixes after)) in
    all_same (has (take room (distinct xs))) (has (take room (distinct (all_prefixes (before ++ stack ∷ after))))) xs
    (λ p e. sym (ap (λ (l : Stacks). has (take room (distinct l)) p) whole ∙ first_still room xs (all_prefixes after) p e))
    (prefixes stack) (all_in (all_prefixes before) (prefixes stack))

-- Where there was no room, there are more prefixes.
no_more : (n : ℕ) (xs : Stacks) → length xs ≤ n → take n xs ≡ xs
no_more zero [] few = refl
no_more zero (x ∷ xs) few = absurd (omega (arith, few))
no_more (suc n) [] few = refl
no_more (suc n) (x ∷ xs) few = ap (λ (l : Stacks). x ∷ l) (no_more n xs (omega (arith, few)))

pub many_asked : (before : Stacks) (stack : List StackStep) → has_room before stack ≡ false → room < length (distinct (all_prefixes before ++ prefixes stack))
many_asked before stack none =
    elim (cases_lt room (length (distinct (all_prefixes before ++ prefixes stack)))) [
      | inl more ↦ more
      | inr few ↦
          let xs : Stacks = all_prefixes before ++ prefixes stack in
          let all : list_all (has (take room (distinct xs))) (prefixes stack) ≡ list_all (has xs) (prefixes stack) =
          all_same (has (take room (distinct xs))) (has xs) xs
          (λ p e. ap (λ (l : Stacks). has l p) (no_more room (distinct xs) few) ∙ has_distinct p xs) (prefixes stack) (all_in (all_prefixes before) (prefixes stack)) in
          let clash : false ≡ true = sym none ∙ all ∙ all_in (all_prefixes before) (prefixes stack) in
          absurd (let no : ⊥ = cc in no)
    ]

-- Of lists of which one holds the other, that has as many different ones at least.

abbrev pub NoneTwice : Stacks → Type 0
NoneTwice [] = Unit {0}
NoneTwice (x ∷ xs) = (has xs x ≡ false) × NoneTwice xs

filter_none_twice : (q : List StackStep → Bool) (xs : Stacks) → NoneTwice xs → NoneTwice (filter q xs)
filter_none_twice q [] none = tt
filter_none_twice q (x ∷ xs) none = by_test (q x) refl (filter_none_twice q xs none.1)
  where
    by_test : (b : Bool) → q x ≡ b → NoneTwice (filter q xs) → NoneTwice (filter q (x ∷ xs))
    by_test true e rest = rw e (has_fewer q x xs none.0, rest)
    by_test false e rest = rw e rest

pub none_twice : (xs : Stacks) → NoneTwice (distinct xs)
none_twice [] = tt
none_twice (x ∷ xs) = (none_left x (distinct xs), filter_none_twice (λ other. not (is_same x other)) (distinct xs) (none_twice xs))

fewer_without : (x : List StackStep) (ms : Stacks) → length (without x ms) ≤ length ms
fewer_without x [] = omega arith
fewer_without x (m ∷ ms) = by_test (is_same x m) refl (fewer_without x ms)
  where
    by_test : (b : Bool) → is_same x m ≡ b → length (without x ms) ≤ length ms → length (without x (m ∷ ms)) ≤ length (m ∷ ms)
    by_test true e rest = rw e (omega (arith, rest))
    by_test false e rest = rw e (omega (arith, rest))

one_without : (x : List StackStep) (ms : Stacks) → has ms x ≡ true → length (without x ms) < length ms
one_without x [] e = let clash : ⊥ = cc in absurd clash
one_without x (m ∷ ms) e = by_test (is_same x m) refl (one_without x ms)
  where
    by_test : (b : Bool) → is_same x m ≡ b → (has ms x ≡ true → length (without x ms) < length ms) → length (without x (m ∷ ms)) < length (m ∷ ms)
    by_test true f on = let rest = fewer_without x ms in rw f (omega (arith, rest))
    by_test false f on = let rest = on (either (is_same x m) (has ms x) e f) in rw f (omega (arith, rest))

clash_of : (b : Bool) → b ≡ true → b ≡ false → ⊥
clash_of b e f = let clash : true ≡ false = sym e ∙ f in (let no : ⊥ = cc in no)

pub no_more_than : (ds es : Stacks) → NoneTwice ds → ((p : List StackStep) → has ds p ≡ true → has es p ≡ true) → length ds ≤ length es
no_more_than [] es none within = omega arith
no_more_than (d ∷ ds) es none within =
    let here : has es d ≡ true = within d (has_first d ds) in
    let fewer = one_without d es here in
    let apart : (p : List StackStep) → has ds p ≡ true → (b : Bool) → is_same p d ≡ b → is_same p d ≡ false = λ p e b. apart_by p e b in
    let rest = no_more_than ds (without d es) none.1 (λ p e.
    has_other d p es (apart p e (is_same p d) refl) ∙ within p (or_true (is_same p d) (has ds p) e)) in
    omega (arith, fewer, rest)
  where
    apart_by : (p : List StackStep) → has ds p ≡ true → (b : Bool) → is_same p d ≡ b → is_same p d ≡ false
    apart_by p e true f = absurd (clash_of (has ds d) (ap (has ds) (sym (same_is p d f)) ∙ e) none.0)
    apart_by p e false f = f

pub fewer_distinct : (xs ys : Stacks) → ((p : List StackStep) → has xs p ≡ true → has ys p ≡ true) → length (distinct xs) ≤ length (distinct ys)
fewer_distinct xs ys within =
    no_more_than (distinct xs) (distinct ys) (none_twice xs) (λ p e. has_distinct p ys ∙ within p (sym (has_distinct p xs) ∙ e))

-- Prefixes of stacks that stand in a list too.

pub prefixes_in : (ys : Stacks) (x p : List StackStep) → has ys x ≡ true → has (prefixes x) p ≡ true → has (all_prefixes ys) p ≡ true
prefixes_in [] x p e f = let clash : ⊥ = cc in absurd clash
prefixes_in (y ∷ ys) x p e f = by_test (is_same x y) refl (λ g. prefixes_in ys x p g f)
  where
    by_test : (b : Bool) → is_same x y ≡ b → (has ys x ≡ true → has (all_prefixes ys) p ≡ true) → has (prefixes y ++ all_prefixes ys) p ≡ true
    by_test true g on = has_left (prefixes y) (all_prefixes ys) p (ap (λ (s : List StackStep). has (prefixes s) p) (sym (same_is x y g)) ∙ f)
    by_test false g on = has_right (prefixes y) (all_prefixes ys) p (on (either (is_same x y) (has ys x) e g))

pub all_prefixes_in : (xs ys : Stacks) → ((x : List StackStep) → has xs x ≡ true → has ys x ≡ true) → (p : List StackStep) → has (all_prefixes xs) p ≡ true → has (all_prefixes ys) p ≡ true
all_prefixes_in [] ys within p e = let clash : ⊥ = cc in absurd clash
all_prefixes_in (x ∷ xs) ys within p e = by_test (has (prefixes x) p) refl (all_prefixes_in xs ys (λ s g. within s (or_true (is_same s x) (has xs s) g)) p)
  where
    by_test : (b : Bool) → has (prefixes x) p ≡ b → (has (all_prefixes xs) p ≡ true → has (all_prefixes ys) p ≡ true) → has (all_prefixes ys) p ≡ true
    by_test true f on = prefixes_in ys x p (within x (has_first x xs)) f
    by_test false f on = on (has_cases (prefixes x) (all_prefixes xs) p e f)

-- A stack that isn't in a list stands there no time.
pub none_counted : (s : List StackStep) (xs : Stacks) → has xs s ≡ false → count_by (is_same s) xs ≡ 0
none_counted s [] e = refl
none_counted s (x ∷ xs) e = by_test (is_same s x) refl (none_counted s xs (none_of_tail (is_same s x) (has xs s) e))
  where
    head_of : (a b : Bool) → (a || b) ≡ false → a ≡ false
    head_of true b g = g
    head_of false b g = refl

    by_test : (b : Bool) → is_same s x ≡ b → count_by (is_same s) xs ≡ 0 → count_by (is_same s) (x ∷ xs) ≡ 0
    by_test true f rest = absurd (clash_of (is_same s x) f (head_of (is_same s x) (has xs s) e))
    by_test false f rest = sum_by-cons (λ (y : List StackStep). cond (is_same s y) 1 0) x xs ∙ rw f (omega (arith, rest))
