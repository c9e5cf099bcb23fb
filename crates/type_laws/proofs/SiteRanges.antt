-- Spots of which the calls have the numbers of a range, each once, and agree with their places where what was read stands in order.
use Rattle.std.proofs.Common.{◌≡◌, ℕ, ◌<◌, ◌≤◌, ◌+◌, Bool, true, false, refl, sym, subst, List, [], ◌∷◌, ◌++◌, arith, inl, inr, ltb-true, ltb-false}
use Rattle.std.proofs.lemmas.List.{append-nil}
use Rattle.std.specs.Prelude.{◌⊎◌, nat_lt}
use Rattle.tree_order.specs.Stands.{Then, Behind}
use Rattle.core_unit.specs.Places.{Spot, Callee, Calls, Uses, Declares, declared}
use Rattle.core_unit.specs.declared.expressions.Storage.{Storage}
use Rattle.core_unit.specs.declared.expressions.Storage.TheVariants.{Automatic, Static, ThreadLocal}
use Rattle.type_laws.proofs.Each.{Each, each_as, each_joined}
use Rattle.type_laws.proofs.Order.{Agree, AllAgree, occurrences, within, within_inside, within_joined, within_empty, occurs_call}

-- what is true of the place and the number of a spot, if it is a call
abbrev pub OfCall : (ℕ → ℕ → Type 0) → Spot → Type 0
OfCall P (Calls at n c) = P at n
OfCall P (Uses at) = Unit {0}
OfCall P (Declares at) = Unit {0}

ofcall_as : (P Q : ℕ → ℕ → Type 0) → ((at n : ℕ) → P at n → Q at n) → (s : Spot) → OfCall P s → OfCall Q s
ofcall_as P Q as_well (Calls at n c) p = as_well at n p
ofcall_as P Q as_well (Uses at) p = tt
ofcall_as P Q as_well (Declares at) p = tt

-- of two calls the first one has the lower number exactly where it doesn't stand behind
record Agreeing (at m at' n : ℕ) : Type 0 where
  before : at ≤ at' → m < n
  behind : at' < at → n < m

agree_of : (P Q : ℕ → ℕ → Type 0) → ((at m at' n : ℕ) → P at m → Q at' n → Agreeing at m at' n) → (x y : Spot) → OfCall P x → OfCall Q y → Agree x y
agree_of P Q agreeing (Calls at m c) (Calls at' n d) p q = let a = agreeing at m at' n p q in record { before = a.before; behind = a.behind }
agree_of P Q agreeing (Calls at m c) (Uses at') p q = record { before = λ e. tt; behind = λ e. tt }
agree_of P Q agreeing (Calls at m c) (Declares at') p q = record { before = λ e. tt; behind = λ e. tt }
agree_of P Q agreeing (Uses at) (Calls at' n d) p q = record { before = λ e. tt; behind = λ e. tt }
agree_of P Q agreeing (Uses at) (Uses at') p q = record { before = λ e. tt; behind = λ e. tt }
agree_of P Q agreeing (Uses at) (Declares at') p q = record { before = λ e. tt; behind = λ e. tt }
agree_of P Q agreeing (Declares at) (Calls at' n d) p q = record { before = λ e. tt; behind = λ e. tt }
agree_of P Q agreeing (Declares at) (Uses at') p q = record { before = λ e. tt; behind = λ e. tt }
agree_of P Q agreeing (Declares at) (Declares at') p q = record { before = λ e. tt; behind = λ e. tt }

module _ (P Q : ℕ → ℕ → Type 0) (agreeing : (at m at' n : ℕ) → P at m → Q at' n → Agreeing at m at' n) where
  one_agrees : (x : Spot) (ys : List Spot) → OfCall P x → Each (OfCall Q) ys → Each (Agree x) ys
  one_agrees x [] p qs = tt
  one_agrees x (y ∷ ys) p qs = (agree_of P Q agreeing x y p qs.0, one_agrees x ys p qs.1)

  joined_agree : (xs ys : List Spot) → AllAgree xs → AllAgree ys → Each (OfCall P) xs → Each (OfCall Q) ys → AllAgree (xs ++ ys)
  joined_agree [] ys agree more ps qs = more
  joined_agree (x ∷ xs) ys agree more ps qs =
      (each_joined (Agree x) xs ys agree.0 (one_agrees x ys ps.0 qs), joined_agree xs ys agree.1 more ps.1 qs)

pub occurrences_joined : (k : ℕ) (xs ys : List Spot) → occurrences k (xs ++ ys) ≡ occurrences k xs + occurrences k ys
occurrences_joined k [] ys = omega arith
occurrences_joined k (x ∷ xs) ys = let rest = occurrences_joined k xs ys in omega (arith, rest)

-- A call stands in a stretch, and has a number of a range.
record IsIn (from to first last at n : ℕ) : Type 0 where
  above : from ≤ at
  below : at < to
  more : first ≤ n
  less : n < last

record IsPlaced (from to first last : ℕ) (xs : List Spot) : Type 0 where
  far : from ≤ to
  agree : AllAgree xs
  each : Each (OfCall (IsIn from to first last)) xs

-- what was read of a part of a tree: its calls have the numbers from the first on, before the last
pub record IsRun (stands : ℕ → ℕ → Type 0) (first : ℕ) (xs : List Spot) (last : ℕ) : Type 0 where
  pub far : first ≤ last
  pub counts : (k : ℕ) → occurrences k xs ≡ within k first last
  placed : (from to : ℕ) → stands from to → IsPlaced from to first last xs

-- Where nothing is called, no number is taken.
abbrev pub CallsNothing : List Spot → Type 0
CallsNothing xs = (k : ℕ) → occurrences k xs ≡ 0

pub record IsCounted (first : ℕ) (xs : List Spot) (last : ℕ) : Type 0 where
  pub far : first ≤ last
  pub counts : (k : ℕ) → occurrences k xs ≡ within k first last

pub counted_of_run : (stands : ℕ → ℕ → Type 0) (first : ℕ) (xs : List Spot) (last : ℕ) → IsRun stands first xs last → IsCounted first xs last
counted_of_run stands first xs last run = record { far = run.far; counts = run.counts }

pub nothing_taken : (first : ℕ) (xs : List Spot) (last : ℕ) → IsCounted first xs last → CallsNothing xs → last ≡ first
nothing_taken first xs last counted quiet = of (nat_lt first last) refl
  where
    of : (test : Bool) → nat_lt first last ≡ test → last ≡ first
    of true e =
        let one = within_inside first first last (omega arith) (ltb-true first last e) in
        let all = counted.counts first in
        let none = quiet first in absurd (omega (arith, one, all, none))
    of false e = let far = counted.far in let least = ltb-false first last e in omega (arith, far, least)

pub run_agrees : (stands : ℕ → ℕ → Type 0) (first : ℕ) (xs : List Spot) (last from to : ℕ) → IsRun stands first xs last → stands from to → AllAgree xs
run_agrees stands first xs last from to run h = (run.placed from to h).agree

-- nothing that calls
pub run_none : (stands : ℕ → ℕ → Type 0) (n : ℕ) → ((from to : ℕ) → stands from to → from ≤ to) → IsRun stands n [] n
run_none stands n far = record {
  far = omega arith;
  counts = λ k. sym (within_empty k n);
  placed = λ from to h. record { far = far from to h; agree = tt; each = tt };
}

declares_first : (stands : ℕ → ℕ → Type 0) (first : ℕ) (xs : List Spot) (last at : ℕ) → IsRun stands first xs last → IsRun stands first (Declares at ∷ xs) last
declares_first stands first xs last at run = record {
  far = run.far;
  counts = λ k. let all = run.counts k in omega (arith, all);
  placed = λ from to h.
      let p = run.placed from to h in record {
        far = p.far;
        agree = (one_agrees (λ place n. ⊥) (IsIn from to first last) (λ place n place' n' p q. absurd p) (Declares at) xs tt p.each, p.agree);
        each = (tt, p.each);
      };
}

-- the same, where what stands there is said in other words
pub run_as : (stands other : ℕ → ℕ → Type 0) (first : ℕ) (xs : List Spot) (last : ℕ) → ((from to : ℕ) → other from to → stands from to)
    → IsRun stands first xs last → IsRun other first xs last
run_as stands other first xs last as_well run = record {
  far = run.far;
  counts = run.counts;
  placed = λ from to h. run.placed from to (as_well from to h);
}

-- a block variable declares before what it holds
pub run_declared : (stands : ℕ → ℕ → Type 0) (first : ℕ) (xs : List Spot) (last : ℕ) (storage : Storage) (at : ℕ) → IsRun stands first xs last
    → IsRun stands first (declared storage at xs) last
run_declared stands first xs last (Automatic offset) at run = run
run_declared stands first xs last (Static address) at run = declares_first stands first xs last at run
run_declared stands first xs last (ThreadLocal offset) at run = declares_first stands first xs last at run

pub run_behind : (stands : ℕ → ℕ → Type 0) (first : ℕ) (xs : List Spot) (last : ℕ) → IsRun stands first xs last → IsRun (Behind stands) first xs last
run_behind stands first xs last run = record {
  far = run.far;
  counts = run.counts;
  placed = λ from to h.
      let p = run.placed h.0 to h.2 in
      let far = p.far in
      let begin = h.1 in
      record {
        far = omega (arith, far, begin);
        agree = p.agree;
        each = each_as (OfCall (IsIn h.0 to first last)) (OfCall (IsIn from to first last)) xs
            (ofcall_as (IsIn h.0 to first last) (IsIn from to first last) (λ at n i.
            let above = i.above in record { above = omega (arith, above, begin); below = i.below; more = i.more; less = i.less })) p.each;
      };
}

in_first : (from middle to first last end at n : ℕ) → middle ≤ to → last ≤ end → IsIn from middle first last at n → IsIn from to first end at n
in_first from middle to first last end at n far more i =
    let below = i.below in
    let less = i.less in record { above = i.above; below = omega (arith, below, far); more = i.more; less = omega (arith, less, more) }

in_second : (from middle to first last end at n : ℕ) → from ≤ middle → first ≤ last → IsIn middle to last end at n → IsIn from to first end at n
in_second from middle to first last end at n far more i =
    let above = i.above in
    let least = i.more in record { above = omega (arith, above, far); below = i.below; more = omega (arith, least, more); less = i.less }

module _ (first second : ℕ → ℕ → Type 0) (n m l : ℕ) (xs ys : List Spot) (one : IsRun first n xs m) (two : IsRun second m ys l) where
  pub joined_far : n ≤ l
  joined_far = let far = one.far in let further = two.far in omega (arith, far, further)

  both : (k : ℕ) → occurrences k xs + occurrences k ys ≡ within k n l
  both k =
      let here = one.counts k in
      let there = two.counts k in
      let joined = within_joined k n m l one.far two.far in omega (arith, here, there, joined)

  module _ (from to : ℕ) (h : Then first second from to) where
    middle : ℕ
    middle = h.0

    p : IsPlaced from middle n m xs
    unfolding middle
    p = one.placed from h.0 h.1

    q : IsPlaced middle to m l ys
    unfolding middle
    q = two.placed h.0 to h.2

    whole : from ≤ to
    whole = let far = p.far in let further = q.far in omega (arith, far, further)

    first_in : Each (OfCall (IsIn from to n l)) xs
    first_in =
        each_as (OfCall (IsIn from middle n m)) (OfCall (IsIn from to n l)) xs
        (ofcall_as (IsIn from middle n m) (IsIn from to n l) (λ at k i. in_first from middle to n m l at k q.far two.far i)) p.each

    second_in : Each (OfCall (IsIn from to n l)) ys
    second_in =
        each_as (OfCall (IsIn middle to m l)) (OfCall (IsIn from to n l)) ys
        (ofcall_as (IsIn middle to m l) (IsIn from to n l) (λ at k i. in_second from middle to n m l at k p.far one.far i)) q.each

    agreeing : (at k at' j : ℕ) → IsIn from middle n m at k → IsIn middle to m l at' j → Agreeing at k at' j
    agreeing at k at' j x y =
        let below = x.below in
        let above = y.above in
        let less = x.less in
        let more = y.more in
        record { before = λ e. omega (arith, less, more); behind = λ e. absurd (omega (arith, below, above, e)) }

    crossing : (at k at' j : ℕ) → IsIn middle to m l at k → IsIn from middle n m at' j → Agreeing at k at' j
    crossing at k at' j x y =
        let below = y.below in
        let above = x.above in
        let less = y.less in
        let more = x.more in
        record { before = λ e. absurd (omega (arith, below, above, e)); behind = λ e. omega (arith, less, more) }

    in_turn : IsPlaced from to n l (xs ++ ys)
    in_turn = record {
      far = whole;
      agree = joined_agree (IsIn from middle n m) (IsIn middle to m l) agreeing xs ys p.agree q.agree p.each q.each;
      each = each_joined (OfCall (IsIn from to n l)) xs ys first_in second_in;
    }

    crossed : IsPlaced from to n l (ys ++ xs)
    crossed = record {
      far = whole;
      agree = joined_agree (IsIn middle to m l) (IsIn from middle n m) crossing ys xs q.agree p.agree q.each p.each;
      each = each_joined (OfCall (IsIn from to n l)) ys xs second_in first_in;
    }

  -- what is evaluated in the order in which it stands
  pub run_joined : IsRun (Then first second) n (xs ++ ys) l
  run_joined = record {
    far = joined_far;
    counts = λ k. let sum = occurrences_joined k xs ys in let all = both k in omega (arith, sum, all);
    placed = in_turn;
  }

  -- and what is evaluated the other way round, as the step of a `for`
  pub run_crossed : IsRun (Then first second) n (ys ++ xs) l
  run_crossed = record {
    far = joined_far;
    counts = λ k. let sum = occurrences_joined k ys xs in let all = both k in omega (arith, sum, all);
    placed = crossed;
  }

-- what stands up to a place stands up to a further one
abbrev pub AtMost : ℕ → ℕ → Type 0
AtMost from to = from ≤ to

pub run_further : (stands : ℕ → ℕ → Type 0) (first : ℕ) (xs : List Spot) (last : ℕ) → IsRun stands first xs last → IsRun (Then stands AtMost) first xs last
run_further stands first xs last run =
    subst (λ ys. IsRun (Then stands AtMost) first ys last) (append-nil xs) (run_joined stands AtMost first last last xs [] run (run_none AtMost last (λ from to h. h)))

-- The calls of an expression whose sites are numbered already from its first token on: those that begin there have numbers from `first` on, before
-- `after`, and all others stand behind it and have those from n on, before m.
record IsHead (from first after at k : ℕ) : Type 0 where
  there : at ≡ from
  more : first ≤ k
  less : k < after

record IsTail (from to n m at k : ℕ) : Type 0 where
  above : from < at
  below : at < to
  more : n ≤ k
  less : k < m

abbrev IsEither : (from to first after n m at k : ℕ) → Type 0
IsEither from to first after n m at k = IsHead from first after at k ⊎ IsTail from to n m at k

record IsSpined (from to first after n m : ℕ) (xs : List Spot) : Type 0 where
  far : from < to
  agree : AllAgree xs
  each : Each (OfCall (IsEither from to first after n m)) xs

pub record HasSpine (stands : ℕ → ℕ → Type 0) (first calls n : ℕ) (xs : List Spot) (m : ℕ) : Type 0 where
  pub far : n ≤ m
  pub counts : (k : ℕ) → occurrences k xs ≡ within k first (first + calls) + within k n m
  placed : (from to : ℕ) → stands from to → IsSpined from to first (first + calls) n m xs

no_more : (k first : ℕ) → within k first (first + 0) ≡ 0
no_more k first = subst (λ last. within k first last ≡ 0) (omega arith) (within_empty k first)

pub spine_none : (stands : ℕ → ℕ → Type 0) (first n : ℕ) → ((from to : ℕ) → stands from to → from < to) → HasSpine stands first 0 n [] n
spine_none stands first n far = record {
  far = omega arith;
  counts = λ k. let none = no_more k first in let empty = within_empty k n in omega (arith, none, empty);
  placed = λ from to h. record { far = far from to h; agree = tt; each = tt };
}

-- what is one token
abbrev pub Token : ℕ → ℕ → Type 0
Token from to = from < to

pub token_none : (first n : ℕ) → HasSpine Token first 0 n [] n
token_none first n = spine_none Token first n (λ from to h. h)

pub token_use : (first n at : ℕ) → HasSpine Token first 0 n (Uses at ∷ []) n
token_use first n at = record {
  far = omega arith;
  counts = λ k. let none = no_more k first in let empty = within_empty k n in omega (arith, none, empty);
  placed = λ from to h. record { far = h; agree = (tt, tt); each = (tt, tt) };
}

pub spine_as : (stands other : ℕ → ℕ → Type 0) (first calls n : ℕ) (xs : List Spot) (m : ℕ) → ((from to : ℕ) → other from to → stands from to)
    → HasSpine stands first calls n xs m → HasSpine other first calls n xs m
spine_as stands other first calls n xs m as_well spine = record {
  far = spine.far;
  counts = spine.counts;
  placed = λ from to h. spine.placed from to (as_well from to h);
}

-- an expression that begins where none around it does
module _ (stands : ℕ → ℕ → Type 0) (n calls : ℕ) (xs : List Spot) (m : ℕ) (spine : HasSpine stands n calls (n + calls) xs m) where
  either_in : (from to : ℕ) → from < to → (at k : ℕ) → IsEither from to n (n + calls) (n + calls) m at k → IsIn from to n m at k
  either_in from to far at k (inl i) =
      let there = i.there in
      let less = i.less in
      let last = spine.far in
      record { above = omega (arith, there); below = omega (arith, there, far); more = i.more; less = omega (arith, less, last) }
  either_in from to far at k (inr i) =
      let above = i.above in
      let more = i.more in
      record { above = omega (arith, above); below = i.below; more = omega (arith, more); less = i.less }

  pub run_of_spine : IsRun stands n xs m
  run_of_spine = record {
    far = let last = spine.far in omega (arith, last);
    counts = λ k.
        let all = spine.counts k in
        let joined = within_joined k n (n + calls) m (omega arith) spine.far in omega (arith, all, joined);
    placed = λ from to h.
        let p = spine.placed from to h in
        let far = p.far in
        record {
          far = omega (arith, far);
          agree = p.agree;
          each = each_as (OfCall (IsEither from to n (n + calls) (n + calls) m)) (OfCall (IsIn from to n m)) xs
              (ofcall_as (IsEither from to n (n + calls) (n + calls) m) (IsIn from to n m) (either_in from to p.far)) p.each;
        };
  }

-- an expression behind the first token of another
pub spine_of_run : (stands : ℕ → ℕ → Type 0) (first n : ℕ) (xs : List Spot) (m : ℕ) → IsRun stands n xs m → HasSpine (Behind stands) first 0 n xs m
spine_of_run stands first n xs m run = record {
  far = run.far;
  counts = λ k. let all = run.counts k in let none = no_more k first in omega (arith, all, none);
  placed = λ from to h.
      let p = run.placed h.0 to h.2 in
      let far = p.far in
      let begin = h.1 in
      record {
        far = omega (arith, far, begin);
        agree = p.agree;
        each = each_as (OfCall (IsIn h.0 to n m)) (OfCall (IsEither from to first (first + 0) n m)) xs
            (ofcall_as (IsIn h.0 to n m) (IsEither from to first (first + 0) n m) (λ at k i.
            let above = i.above in inr (record { above = omega (arith, above, begin); below = i.below; more = i.more; less = i.less }))) p.each;
      };
}

module _ (first second : ℕ → ℕ → Type 0) (begin calls n m l : ℕ) (xs ys : List Spot) (room : begin + calls ≤ n) (one : HasSpine first begin calls n xs m) (two : IsRun second m ys l) where
  module _ (from to : ℕ) (h : Then first second from to) where
    seam : ℕ
    seam = h.0

    head_placed : IsSpined from seam begin (begin + calls) n m xs
    unfolding seam
    head_placed = one.placed from h.0 h.1

    rest_placed : IsPlaced seam to m l ys
    unfolding seam
    rest_placed = two.placed h.0 to h.2

    head_among : (at k : ℕ) → IsEither from seam begin (begin + calls) n m at k → IsEither from to begin (begin + calls) n l at k
    head_among at k (inl i) = inl i
    head_among at k (inr i) =
        let below = i.below in
        let far = rest_placed.far in
        let less = i.less in
        let more = two.far in
        inr (record { above = i.above; below = omega (arith, below, far); more = i.more; less = omega (arith, less, more) })

    rest_among : (at k : ℕ) → IsIn seam to m l at k → IsEither from to begin (begin + calls) n l at k
    rest_among at k i =
        let above = i.above in
        let far = head_placed.far in
        let more = i.more in
        let least = one.far in
        inr (record { above = omega (arith, above, far); below = i.below; more = omega (arith, more, least); less = i.less })

    spine_agrees : (at k at' j : ℕ) → IsEither from seam begin (begin + calls) n m at k → IsIn seam to m l at' j → Agreeing at k at' j
    spine_agrees at k at' j (inl x) y =
        let there = x.there in
        let far = head_placed.far in
        let above = y.above in
        let less = x.less in
        let more = y.more in
        let last = one.far in
        record { before = λ e. omega (arith, less, room, last, more); behind = λ e. absurd (omega (arith, there, far, above, e)) }
    spine_agrees at k at' j (inr x) y =
        let below = x.below in
        let above = y.above in
        let less = x.less in
        let more = y.more in
        record { before = λ e. omega (arith, less, more); behind = λ e. absurd (omega (arith, below, above, e)) }

    spined : IsSpined from to begin (begin + calls) n l (xs ++ ys)
    spined = record {
      far = let far = head_placed.far in let rest = rest_placed.far in omega (arith, far, rest);
      agree = joined_agree (IsEither from seam begin (begin + calls) n m) (IsIn seam to m l) spine_agrees xs ys head_placed.agree rest_placed.agree head_placed.each rest_placed.each;
      each = each_joined (OfCall (IsEither from to begin (begin + calls) n l)) xs ys
          (each_as (OfCall (IsEither from seam begin (begin + calls) n m)) (OfCall (IsEither from to begin (begin + calls) n l)) xs
          (ofcall_as (IsEither from seam begin (begin + calls) n m) (IsEither from to begin (begin + calls) n l) head_among) head_placed.each)
          (each_as (OfCall (IsIn seam to m l)) (OfCall (IsEither from to begin (begin + calls) n l)) ys
          (ofcall_as (IsIn seam to m l) (IsEither from to begin (begin + calls) n l) rest_among) rest_placed.each);
    }

  -- what follows an expression that begins where the whole does
  pub spine_joined : HasSpine (Then first second) begin calls n (xs ++ ys) l
  spine_joined = record {
    far = let far = one.far in let further = two.far in omega (arith, far, further);
    counts = λ k.
        let sum = occurrences_joined k xs ys in
        let here = one.counts k in
        let there = two.counts k in
        let joined = within_joined k n m l one.far two.far in omega (arith, sum, here, there, joined);
    placed = spined;
  }

-- The call itself comes behind what begins with it.
abbrev pub CalledFrom : ℕ → (ℕ → ℕ → Type 0) → ℕ → ℕ → Type 0
CalledFrom place stands from to = (place ≡ from) × stands from to

module _ (stands : ℕ → ℕ → Type 0) (first calls n m : ℕ) (xs : List Spot) (place : ℕ) (c : Callee) (room : first + (calls + 1) ≤ n) (spine : HasSpine stands first calls n xs m) where
  abbrev Itself : (from at k : ℕ) → Type 0
  Itself from at k = (at ≡ from) × (k ≡ first + calls)

  itself_agrees : (from to at k at' j : ℕ) → IsEither from to first (first + calls) n m at k → Itself from at' j → Agreeing at k at' j
  itself_agrees from to at k at' j (inl x) y =
      let there = x.there in
      let less = x.less in
      let itself = y.0 in
      let number = y.1 in
      record { before = λ e. omega (arith, less, number); behind = λ e. absurd (omega (arith, there, itself, e)) }
  itself_agrees from to at k at' j (inr x) y =
      let above = x.above in
      let more = x.more in
      let itself = y.0 in
      let number = y.1 in
      record { before = λ e. absurd (omega (arith, above, itself, e)); behind = λ e. omega (arith, more, number, room) }

  still_among : (from to at k : ℕ) → IsEither from to first (first + calls) n m at k → IsEither from to first (first + (calls + 1)) n m at k
  still_among from to at k (inl i) = let less = i.less in inl (record { there = i.there; more = i.more; less = omega (arith, less) })
  still_among from to at k (inr i) = inr i

  called : (from to : ℕ) → CalledFrom place stands from to → IsSpined from to first (first + (calls + 1)) n m (xs ++ Calls place (first + calls) c ∷ [])
  called from to h =
      let p = spine.placed from to h.1 in
      record {
        far = p.far;
        agree = joined_agree (IsEither from to first (first + calls) n m) (Itself from) (itself_agrees from to) xs (Calls place (first + calls) c ∷ []) p.agree (tt, tt)
            p.each ((h.0, refl), tt);
        each = each_joined (OfCall (IsEither from to first (first + (calls + 1)) n m)) xs (Calls place (first + calls) c ∷ [])
            (each_as (OfCall (IsEither from to first (first + calls) n m)) (OfCall (IsEither from to first (first + (calls + 1)) n m)) xs
            (ofcall_as (IsEither from to first (first + calls) n m) (IsEither from to first (first + (calls + 1)) n m) (still_among from to)) p.each)
            (inl (record { there = h.0; more = omega arith; less = omega arith }), tt);
      }

  pub spine_called : HasSpine (CalledFrom place stands) first (calls + 1) n (xs ++ Calls place (first + calls) c ∷ []) m
  spine_called = record {
    far = spine.far;
    counts = λ k.
        let sum = occurrences_joined k xs (Calls place (first + calls) c ∷ []) in
        let all = spine.counts k in
        let one = occurs_call k place (first + calls) c in
        let same : first + calls + 1 ≡ first + (calls + 1) = omega arith in
        let joined = subst (λ last. within k first (first + calls) + within k (first + calls) last ≡ within k first last) same
        (within_joined k first (first + calls) (first + calls + 1) (omega arith) (omega arith)) in
        let itself = subst (λ last. occurrences k (Calls place (first + calls) c ∷ []) ≡ within k (first + calls) last) same one in
        omega (arith, sum, all, joined, itself);
    placed = called;
  }
