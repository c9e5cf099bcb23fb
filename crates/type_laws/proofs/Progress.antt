-- How far the bodies of a unit were read: the number of the next call site, the functions, and which of them were defined.
use Rattle.std.proofs.Common.{◌≡◌, ℕ, ◌<◌, ◌≤◌, ◌+◌, refl, sym, ◌∙◌, subst, List, [], ◌∷◌, ◌++◌}
use Rattle.tree_order.specs.Stands.{Then, Behind}
use Rattle.core_unit.specs.Places.{Spot, Callee, Calls, Uses, declared}
use Rattle.core_unit.specs.declared.tables.FunctionInfo.{FunctionInfo}
use Rattle.type_rules.specs.Seen.{Seen}
use Rattle.type_laws.proofs.SiteRanges.{IsRun, IsCounted, HasSpine, CallsNothing, CalledFrom, Token, AtMost, counted_of_run, nothing_taken, run_none, run_as, run_behind, run_joined, run_crossed, run_further, run_declared, spine_none, token_none, token_use, spine_as, run_of_spine, spine_of_run, spine_joined, spine_called}
use Rattle.core_unit.specs.declared.expressions.Storage.{Storage}

pub record Progress : Type 0 where
  pub sites : ℕ
  pub functions : List FunctionInfo
  pub definitions : List ℕ

abbrev pub progress : Seen → Progress
progress s = record { sites = s.sites; functions = s.functions; definitions = s.definitions }

-- only call sites were taken
pub record Unmoved (n m : Progress) : Type 0 where
  pub functions_are : m.functions ≡ n.functions
  pub definitions_are : m.definitions ≡ n.definitions

pub unmoved_same : (n : Progress) → Unmoved n n
unmoved_same n = record { functions_are = refl; definitions_are = refl }

pub unmoved_twice : (n m l : Progress) → Unmoved n m → Unmoved m l → Unmoved n l
unmoved_twice n m l p q = record { functions_are = q.functions_are ∙ p.functions_are; definitions_are = q.definitions_are ∙ p.definitions_are }

pub unmoved_at : (n m : Progress) → m ≡ n → Unmoved n m
unmoved_at n m e = subst (λ l. Unmoved n l) (sym e) (unmoved_same n)

pub same_progress : (n m : Progress) → m.sites ≡ n.sites → Unmoved n m → m ≡ n
same_progress n m sites same = λ i. record { sites = sites i; functions = same.functions_are i; definitions = same.definitions_are i }

-- what was read of a part, from one progress to another
pub record RunAt (stands : ℕ → ℕ → Type 0) (n : Progress) (xs : List Spot) (m : Progress) : Type 0 where
  pub run : IsRun stands n.sites xs m.sites
  pub same : Unmoved n m

pub record CountedAt (n : Progress) (xs : List Spot) (m : Progress) : Type 0 where
  pub counted : IsCounted n.sites xs m.sites
  pub same : Unmoved n m

pub record SpineAt (stands : ℕ → ℕ → Type 0) (first calls : ℕ) (n : Progress) (xs : List Spot) (m : Progress) : Type 0 where
  pub spine : HasSpine stands first calls n.sites xs m.sites
  pub same : Unmoved n m

pub counted_at : (stands : ℕ → ℕ → Type 0) (n : Progress) (xs : List Spot) (m : Progress) → RunAt stands n xs m → CountedAt n xs m
counted_at stands n xs m h = record { counted = counted_of_run stands n.sites xs m.sites h.run; same = h.same }

pub nothing_at : (n : Progress) (xs : List Spot) (m : Progress) → CountedAt n xs m → CallsNothing xs → m ≡ n
nothing_at n xs m h quiet = same_progress n m (nothing_taken n.sites xs m.sites h.counted quiet) h.same

pub none_at : (stands : ℕ → ℕ → Type 0) (n : Progress) → ((from to : ℕ) → stands from to → from ≤ to) → RunAt stands n [] n
none_at stands n far = record { run = run_none stands n.sites far; same = unmoved_same n }

pub as_at : (stands other : ℕ → ℕ → Type 0) (n : Progress) (xs : List Spot) (m : Progress) → ((from to : ℕ) → other from to → stands from to) → RunAt stands n xs m → RunAt other n xs m
as_at stands other n xs m as_well h = record { run = run_as stands other n.sites xs m.sites as_well h.run; same = h.same }

pub behind_at : (stands : ℕ → ℕ → Type 0) (n : Progress) (xs : List Spot) (m : Progress) → RunAt stands n xs m → RunAt (Behind stands) n xs m
behind_at stands n xs m h = record { run = run_behind stands n.sites xs m.sites h.run; same = h.same }

pub further_at : (stands : ℕ → ℕ → Type 0) (n : Progress) (xs : List Spot) (m : Progress) → RunAt stands n xs m → RunAt (Then stands AtMost) n xs m
further_at stands n xs m h = record { run = run_further stands n.sites xs m.sites h.run; same = h.same }

pub declared_at : (stands : ℕ → ℕ → Type 0) (n : Progress) (xs : List Spot) (m : Progress) (storage : Storage) (at : ℕ) → RunAt stands n xs m → RunAt stands n (declared storage at xs) m
declared_at stands n xs m storage at h = record { run = run_declared stands n.sites xs m.sites storage at h.run; same = h.same }

module _ (first second : ℕ → ℕ → Type 0) (n : Progress) (xs ys : List Spot) (m l : Progress) (p : RunAt first n xs m) (q : RunAt second m ys l) where
  pub joined_at : RunAt (Then first second) n (xs ++ ys) l
  joined_at = record { run = run_joined first second n.sites m.sites l.sites xs ys p.run q.run; same = unmoved_twice n m l p.same q.same }

  pub crossed_at : RunAt (Then first second) n (ys ++ xs) l
  crossed_at = record { run = run_crossed first second n.sites m.sites l.sites xs ys p.run q.run; same = unmoved_twice n m l p.same q.same }

-- those of an expression
pub spine_none_at : (stands : ℕ → ℕ → Type 0) (first : ℕ) (n : Progress) → ((from to : ℕ) → stands from to → from < to) → SpineAt stands first 0 n [] n
spine_none_at stands first n far = record { spine = spine_none stands first n.sites far; same = unmoved_same n }

pub token_at : (first : ℕ) (n : Progress) → SpineAt Token first 0 n [] n
token_at first n = record { spine = token_none first n.sites; same = unmoved_same n }

pub token_use_at : (first : ℕ) (n : Progress) (at : ℕ) → SpineAt Token first 0 n (Uses at ∷ []) n
token_use_at first n at = record { spine = token_use first n.sites at; same = unmoved_same n }

pub run_of_spine_at : (stands : ℕ → ℕ → Type 0) (calls : ℕ) (n : Progress) (xs : List Spot) (m : Progress)
    → SpineAt stands n.sites calls (record n { sites = n.sites + calls }) xs m → RunAt stands n xs m
run_of_spine_at stands calls n xs m h = record {
  run = run_of_spine stands n.sites calls xs m.sites h.spine;
  same = record { functions_are = h.same.functions_are; definitions_are = h.same.definitions_are };
}

pub spine_of_run_at : (stands : ℕ → ℕ → Type 0) (first : ℕ) (n : Progress) (xs : List Spot) (m : Progress) → RunAt stands n xs m → SpineAt (Behind stands) first 0 n xs m
spine_of_run_at stands first n xs m h = record { spine = spine_of_run stands first n.sites xs m.sites h.run; same = h.same }

-- two parts, of which the first begins where the whole does
pub two_at : (one other : ℕ → ℕ → Type 0) (first calls : ℕ) (n : Progress) → first + calls ≤ n.sites → (xs ys : List Spot) (m l : Progress) → SpineAt one first calls n xs m
    → RunAt other m ys l → SpineAt (Then one other) first calls n (xs ++ ys) l
two_at one other first calls n room xs ys m l p q = record {
  spine = spine_joined one other first calls n.sites m.sites l.sites xs ys room p.spine q.run;
  same = unmoved_twice n m l p.same q.same;
}

-- Three of them stand as two, of which the second is two.
pub three_at : (one other more : ℕ → ℕ → Type 0) (first calls : ℕ) (n : Progress) → first + calls ≤ n.sites → (xs ys : List Spot) (m l : Progress)
    → SpineAt (Then one other) first calls n xs m → RunAt more m ys l → SpineAt (Then one (Then other more)) first calls n (xs ++ ys) l
three_at one other more first calls n room xs ys m l p q =
    let whole = two_at (Then one other) more first calls n room xs ys m l p q in
    record {
      spine = spine_as (Then (Then one other) more) (Then one (Then other more)) first calls n.sites (xs ++ ys) l.sites (λ from to h. (h.2.0, (h.0, h.1, h.2.1), h.2.2)) whole.spine;
      same = whole.same;
    }

-- a call with its callee and its arguments
pub call_at : (one other : ℕ → ℕ → Type 0) (place first calls : ℕ) (n : Progress) → first + (calls + 1) ≤ n.sites → first + calls ≤ n.sites → (xs ys : List Spot) (m l : Progress) (c : Callee)
    → SpineAt one first calls n xs m → RunAt other m ys l
    → SpineAt (CalledFrom place (Then one other)) first (calls + 1) n ((xs ++ ys) ++ Calls place (first + calls) c ∷ []) l
call_at one other place first calls n room less xs ys m l c p q =
    let whole = two_at one other first calls n less xs ys m l p q in
    record { spine = spine_called (Then one other) first calls n.sites l.sites (xs ++ ys) place c room whole.spine; same = whole.same }
