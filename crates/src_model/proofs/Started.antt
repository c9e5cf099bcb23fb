-- In a scheduled run each thread but the first was started once, as its creation says, and none could not be started while there was room.
use Rattle.std.proofs.Common.{◌≡◌, refl, sym, ap, ◌∙◌, subst, ℕ, zero, suc, ◌+◌, ◌<◌, Bool, true, false, ◌||◌, List, [], ◌∷◌, ◌++◌, length, map, set, Some, Contains, arith, nat_eq, if◌then◌else◌, append-nil, slice_get, inl, inr, ⊎_elim, ◌⊎◌, append_assoc}
use Rattle.std.specs.Prelude.{count_by, cond}
use Rattle.std.specs.List.{list_any}
use Rattle.std.proofs.lemmas.Bool.Decides.{nat_tests}
use Rattle.std.proofs.lemmas.List.{length-append, length-set}
use Rattle.std.proofs.lemmas.List.Elements.{Contains-append_left, Contains-append_right, Contains-append_cases, Contains-push}
use Rattle.std.proofs.lemmas.List.Sums.{sum_by-append, sum_by-cons}
use Rattle.std.proofs.lemmas.Option.{slice_get_within}
use Rattle.mcode.specs.declared.events.Ask.{Ask}
use Rattle.mcode.specs.declared.events.Ask.TheVariants.{Create}
use Rattle.src_model.specs.Runs.{Setting, Start, all_creations}
use Rattle.src_model.specs.Scheduled.{Live, fresh, children, stepped, thread_of}
use Rattle.src_model.specs.Traces.{Creation, words_of, creations, has_refused_creation}
use Rattle.src_model.specs.declared.runs.Made.{Made}
use Rattle.src_model.proofs.History.{IsBorn, none_in, sole}
use Rattle.src_model.proofs.Rounds.{still_there}

abbrev pub made_by : List Live → List Creation
made_by ts = all_creations (map thread_of ts)

-- Threads stay at their places, and begin as they began.

pub record IsThere (ts : List Live) (n : ℕ) (begin : Start) : Type 0 where
  pub thread : Live
  pub there : slice_get ts n ≡ Some thread
  pub begun : thread.begin ≡ begin

there_set : (ts : List Live) (n j : ℕ) (t other : Live) (begin : Start) → slice_get ts n ≡ Some t → other.begin ≡ t.begin → IsThere ts j begin → IsThere (set ts n other) j begin
there_set [] n j t other begin there same h = let clash : ⊥ = let at = h.there in cc in absurd clash
there_set (s ∷ ts) zero zero t other begin there same h =
    let first : s ≡ t = cc in
    let second : s ≡ h.thread = let at = h.there in cc in
    record { thread = other; there = refl; begun = same ∙ ap (λ (l : Live). l.begin) (sym first ∙ second) ∙ h.begun }
there_set (s ∷ ts) zero (suc j) t other begin there same h = record { thread = h.thread; there = h.there; begun = h.begun }
there_set (s ∷ ts) (suc n) zero t other begin there same h = record { thread = h.thread; there = h.there; begun = h.begun }
there_set (s ∷ ts) (suc n) (suc j) t other begin there same h =
    let rest : IsThere (set ts n other) j begin = there_set ts n j t other begin there same (record { thread = h.thread; there = h.there; begun = h.begun }) in
    record { thread = rest.thread; there = rest.there; begun = rest.begun }

there_more : (ts us : List Live) (j : ℕ) (begin : Start) → IsThere ts j begin → IsThere (ts ++ us) j begin
there_more ts us j begin h = record { thread = h.thread; there = still_there ts us j h.thread h.there; begun = h.begun }

there_last : (ts : List Live) (t : Live) → IsThere (ts ++ t ∷ []) (length ts) t.begin
there_last [] t = record { thread = t; there = refl; begun = refl }
there_last (s ∷ ts) t = let rest : IsThere (ts ++ t ∷ []) (length ts) t.begin = there_last ts t in record { thread = rest.thread; there = rest.there; begun = rest.begun }

-- The creations of all threads, when one makes an event.

made_more : (ts us : List Live) → made_by (ts ++ us) ≡ made_by ts ++ made_by us
made_more [] us = refl
made_more (t ∷ ts) us =
    ap (λ (l : List Creation). creations t.begin.number t.trace ++ l) (made_more ts us) ∙ sym (append_assoc (creations t.begin.number t.trace) (made_by ts) (made_by us))

made_set_cases : (ts : List Live) (n : ℕ) (t other : Live) (more : List Creation) → slice_get ts n ≡ Some t → creations other.begin.number other.trace ≡ more ++ creations t.begin.number t.trace →
    (c : Creation) → Contains (made_by (set ts n other)) c → Contains more c ⊎ Contains (made_by ts) c
made_set_cases [] n t other more there is c h = absurd (none_in c h)
made_set_cases (s ∷ ts) zero t other more there is c h =
    let same : s ≡ t = cc in
    let own : creations other.begin.number other.trace ≡ more ++ creations s.begin.number s.trace = is ∙ ap (λ (l : Live). more ++ creations l.begin.number l.trace) (sym same) in
    ⊎_elim
    (λ (here : Contains (creations other.begin.number other.trace) c).
    ⊎_elim
    (λ (new : Contains more c). inl new)
    (λ (old : Contains (creations s.begin.number s.trace) c). inr (Contains-append_left (creations s.begin.number s.trace) (made_by ts) c old))
    (Contains-append_cases more (creations s.begin.number s.trace) c (subst (λ (l : List Creation). Contains l c) own here)))
    (λ (rest : Contains (made_by ts) c). inr (Contains-append_right (creations s.begin.number s.trace) (made_by ts) c rest))
    (Contains-append_cases (creations other.begin.number other.trace) (made_by ts) c h)
made_set_cases (s ∷ ts) (suc n) t other more there is c h =
    ⊎_elim
    (λ (here : Contains (creations s.begin.number s.trace) c). inr (Contains-append_left (creations s.begin.number s.trace) (made_by ts) c here))
    (λ (rest : Contains (made_by (set ts n other)) c).
    ⊎_elim
    (λ (new : Contains more c). inl new)
    (λ (old : Contains (made_by ts) c). inr (Contains-append_right (creations s.begin.number s.trace) (made_by ts) c old))
    (made_set_cases ts n t other more there is c rest))
    (Contains-append_cases (creations s.begin.number s.trace) (made_by (set ts n other)) c h)

-- how many are of one child
abbrev is_child : ℕ → Creation → Bool
is_child n c = nat_eq c.child n

abbrev count_of : ℕ → List Creation → ℕ
count_of n cs = count_by (is_child n) cs

count_more : (n : ℕ) (xs ys : List Creation) → count_of n (xs ++ ys) ≡ count_of n xs + count_of n ys
count_more n xs ys = sum_by-append (λ (c : Creation). cond (is_child n c) 1 0) xs ys

count_set : (k : ℕ) (ts : List Live) (n : ℕ) (t other : Live) (more : List Creation) → slice_get ts n ≡ Some t → creations other.begin.number other.trace ≡ more ++ creations t.begin.number t.trace →
    count_of k (made_by (set ts n other)) ≡ count_of k more + count_of k (made_by ts)
count_set k [] n t other more there is = let clash : ⊥ = cc in absurd clash
count_set k (s ∷ ts) zero t other more there is =
    let same : s ≡ t = cc in
    let own : count_of k (creations other.begin.number other.trace) ≡ count_of k more + count_of k (creations s.begin.number s.trace) =
    ap (count_of k) (is ∙ ap (λ (l : Live). more ++ creations l.begin.number l.trace) (sym same)) ∙ count_more k more (creations s.begin.number s.trace) in
    let new = count_more k (creations other.begin.number other.trace) (made_by ts) in
    let old = count_more k (creations s.begin.number s.trace) (made_by ts) in
    omega (arith, own, new, old)
count_set k (s ∷ ts) (suc n) t other more there is =
    let rest = count_set k ts n t other more there is in
    let new = count_more k (creations s.begin.number s.trace) (made_by (set ts n other)) in
    let old = count_more k (creations s.begin.number s.trace) (made_by ts) in
    omega (arith, rest, new, old)

none_of_child : (n : ℕ) (cs : List Creation) → ((c : Creation) → Contains cs c → c.child < n) → count_of n cs ≡ 0
none_of_child n [] below = refl
none_of_child n (c ∷ cs) below =
    let low = below c (Contains-append_left (c ∷ []) cs c (Contains-push [] c)) in
    let rest = none_of_child n cs (λ x h. below x (Contains-append_right (c ∷ []) cs x h)) in
    let apart : nat_eq c.child n ≡ false = grind (arith, nat_tests, low) in
    sum_by-cons (λ (x : Creation). cond (is_child n x) 1 0) c cs ∙ rw apart (omega (arith, rest))

-- each thread but the first is started once
abbrev pub one_but_first : ℕ → ℕ
one_but_first n = if nat_eq n 0 then 0 else 1

-- Threads are started so.

pub record AreBegun (begin : Start) (ts : List Live) : Type 0 where
  pub first : IsThere ts 0 begin
  pub started : (c : Creation) → Contains (made_by ts) c → IsThere ts c.child (record { number = c.child; function = c.function; arguments = c.argument ∷ [] })
  pub once : (n : ℕ) → n < length ts → count_of n (made_by ts) ≡ one_but_first n
  pub full : list_any (λ (t : Live). has_refused_creation t.trace) ts ≡ true → length ts ≡ 64

-- An event that starts no thread.
refused_more : (ts : List Live) (n : ℕ) (t other : Live) → slice_get ts n ≡ Some t → has_refused_creation other.trace ≡ has_refused_creation t.trace →
    list_any (λ (l : Live). has_refused_creation l.trace) (set ts n other) ≡ list_any (λ (l : Live). has_refused_creation l.trace) ts
refused_more [] n t other there same = refl
refused_more (s ∷ ts) zero t other there same =
    let is : s ≡ t = cc in
    ap (λ b. b || list_any (λ (l : Live). has_refused_creation l.trace) ts) (same ∙ ap (λ (l : Live). has_refused_creation l.trace) (sym is))
refused_more (s ∷ ts) (suc n) t other there same = ap (λ b. has_refused_creation s.trace || b) (refused_more ts n t other there same)

begun_still : (begin : Start) (ts : List Live) (n : ℕ) (t other : Live) → slice_get ts n ≡ Some t → other.begin ≡ t.begin → creations other.begin.number other.trace ≡ creations t.begin.number t.trace →
    (list_any (λ (l : Live). has_refused_creation l.trace) (set ts n other) ≡ true → length ts ≡ 64) → AreBegun begin ts → AreBegun begin (set ts n other)
begun_still begin ts n t other there same is full b =
    let count : length (set ts n other) ≡ length ts = length-set ts n other in
    record {
      first = there_set ts n 0 t other begin there same b.first;
      started = λ c h. there_set ts n c.child t other _ there same
          (⊎_elim (λ (new : Contains [] c). absurd (none_in c new)) (b.started c) (made_set_cases ts n t other [] there is c h));
      once = λ k low. let kept = count_set k ts n t other [] there is in let old = b.once k (omega (arith, low, count)) in
          (let zero_more : count_of k (made_by (set ts n other)) ≡ count_of k (made_by ts) = omega (arith, kept) in zero_more) ∙ old;
      full = λ h. let all = full h in omega (arith, all, count);
    }

-- An event that starts one.
refused_last : (ts : List Live) (t : Live) → has_refused_creation t.trace ≡ false → list_any (λ (l : Live). has_refused_creation l.trace) (ts ++ t ∷ []) ≡ list_any (λ (l : Live). has_refused_creation l.trace) ts
refused_last [] t e = rw e refl
refused_last (s ∷ ts) t e = ap (λ b. has_refused_creation s.trace || b) (refused_last ts t e)

begun_more : (begin : Start) (ts : List Live) (n : ℕ) (t other : Live) (c : Creation) → slice_get ts n ≡ Some t → other.begin ≡ t.begin →
    creations other.begin.number other.trace ≡ c ∷ creations t.begin.number t.trace → has_refused_creation other.trace ≡ has_refused_creation t.trace → c.child ≡ length ts → length ts < 64 →
    AreBegun begin ts → AreBegun begin (set ts n other ++ fresh (record { number = c.child; function = c.function; arguments = c.argument ∷ [] }) ∷ [])
begun_more begin ts n t other c there same is refused number few b =
    let child : Live = fresh (record { number = c.child; function = c.function; arguments = c.argument ∷ [] }) in
    let kept : length (set ts n other) ≡ length ts = length-set ts n other in
    let count : length (set ts n other ++ child ∷ []) ≡ length (set ts n other) + 1 = length-append (set ts n other) (child ∷ []) in
    let all : made_by (set ts n other ++ child ∷ []) ≡ made_by (set ts n other) = made_more (set ts n other) (child ∷ []) ∙ append-nil (made_by (set ts n other)) in
    let last : IsThere (set ts n other ++ child ∷ []) (length (set ts n other)) child.begin = there_last (set ts n other) child in
    let low : (x : Creation) → Contains (made_by ts) x → x.child < length ts = λ x h. let at = b.started x h in slice_get_within ts x.child at.thread at.there in
    record {
      first = there_more (set ts n other) (child ∷ []) 0 begin (there_set ts n 0 t other begin there same b.first);
      started = λ x h. ⊎_elim
          (λ (new : Contains (c ∷ []) x).
          subst (λ (y : Creation). IsThere (set ts n other ++ child ∷ []) y.child (record { number = y.child; function = y.function; arguments = y.argument ∷ [] })) (sole c x new)
          (subst (λ k. IsThere (set ts n other ++ child ∷ []) k child.begin) (kept ∙ sym number) last))
          (λ (old : Contains (made_by ts) x). there_more (set ts n other) (child ∷ []) x.child _ (there_set ts n x.child t other _ there same (b.started x old)))
          (made_set_cases ts n t other (c ∷ []) there is x (subst (λ (l : List Creation). Contains l x) all h));
      once = λ k within. once_more k (made_by ts) (length ts) (made_by (set ts n other ++ child ∷ [])) c
          (ap (count_of k) all ∙ count_set k ts n t other (c ∷ []) there is) number (omega (arith, within, count, kept))
          (let some = slice_get_within ts n t there in omega (arith, some)) b.once low;
      full = λ h.
          let full_before : list_any (λ (l : Live). has_refused_creation l.trace) ts ≡ true =
          sym (refused_more ts n t other there refused) ∙ sym (refused_last (set ts n other) child refl) ∙ h in
          let is_full = b.full full_before in absurd (omega (arith, is_full, few));
    }
  where
    one_if : (k : ℕ) (x : Creation) (e : Bool) → nat_eq x.child k ≡ e → count_of k (x ∷ []) ≡ (if e then 1 else 0)
    one_if k x true e = sum_by-cons (λ (y : Creation). cond (is_child k y) 1 0) x [] ∙ rw e refl
    one_if k x false e = sum_by-cons (λ (y : Creation). cond (is_child k y) 1 0) x [] ∙ rw e refl

    is_new : (k : ℕ) → 0 < k → one_but_first k ≡ 1
    is_new zero some = absurd (omega (arith, some))
    is_new (suc k) some = let apart : nat_eq (suc k) 0 ≡ false = grind (arith, nat_tests) in rw apart refl

    once_by : (k : ℕ) (before : List Creation) (size : ℕ) (after : List Creation) (x : Creation) (e : Bool) → nat_eq x.child k ≡ e → count_of k after ≡ count_of k (x ∷ []) + count_of k before → x.child ≡ size → k < size + 1 → 0 < size →
        ((j : ℕ) → j < size → count_of j before ≡ one_but_first j) → ((y : Creation) → Contains before y → y.child < size) → count_of k after ≡ one_but_first k
    once_by k before size after x true e whole number within some old low =
        let at : k ≡ size = grind (arith, nat_tests) in
        let one = one_if k x true e in
        let none : count_of k before ≡ 0 = subst (λ j. count_of j before ≡ 0) (sym at) (none_of_child size before low) in
        let all : count_of k after ≡ 1 = omega (arith, whole, one, none) in
        all ∙ sym (is_new k (omega (arith, at, some)))
    once_by k before size after x false e whole number within some old low =
        let apart : k < size = grind (arith, nat_tests) in
        let one = one_if k x false e in
        let same : count_of k after ≡ count_of k before = omega (arith, whole, one) in
        same ∙ old k apart

    once_more : (k : ℕ) (before : List Creation) (size : ℕ) (after : List Creation) (x : Creation) → count_of k after ≡ count_of k (x ∷ []) + count_of k before → x.child ≡ size → k < size + 1 → 0 < size →
        ((j : ℕ) → j < size → count_of j before ≡ one_but_first j) → ((y : Creation) → Contains before y → y.child < size) → count_of k after ≡ one_but_first k
    once_more k before size after x whole number within some old low = once_by k before size after x (nat_eq x.child k) refl whole number within some old low

-- Each event keeps it.

begun_if : (begin : Start) (ts : List Live) (n : ℕ) (t other : Live) (function argument word : ℕ) (b : Bool) → nat_eq word 0 ≡ b → slice_get ts n ≡ Some t → other.begin ≡ t.begin →
    other.trace ≡ record { ask = Create function argument; word = word } ∷ t.trace → (nat_eq word 0 ≡ false → (word ≡ length ts) × (word < 64)) → (nat_eq word 0 ≡ true → length ts ≡ 64) →
    AreBegun begin ts → AreBegun begin (set ts n other ++ (if b then [] else fresh (record { number = word; function = function; arguments = argument ∷ [] }) ∷ []))
begun_if begin ts n t other function argument word true e there same is born full b =
    subst (AreBegun begin) (sym (append-nil (set ts n other)))
    (begun_still begin ts n t other there same
    (ap (λ (l : List Made). creations other.begin.number l) is ∙ rw e (ap (λ (s : Start). creations s.number t.trace) same)) (λ h. full e) b)
begun_if begin ts n t other function argument word false e there same is born full b =
    let next = born e in
    let c : Creation = record { maker = other.begin.number; child = word; function = function; argument = argument; before = length (words_of t.trace) } in
    begun_more begin ts n t other c there same
    (ap (λ (l : List Made). creations other.begin.number l) is ∙ rw e (ap (λ (s : Start). c ∷ creations s.number t.trace) same))
    (ap (λ (l : List Made). has_refused_creation l) is ∙ rw e refl) next.0 (let few = next.1 in let at = next.0 in omega (arith, few, at)) b

started_children : (function argument word : ℕ) → children (Create function argument) word ≡ (if nat_eq word 0 then [] else fresh (record { number = word; function = function; arguments = argument ∷ [] }) ∷ [])
started_children function argument zero = refl
started_children function argument (suc word) = let apart : nat_eq (suc word) 0 ≡ false = grind (arith, nat_tests) in rw apart refl

-- where a creation is answered with none, there are 64 threads
abbrev pub IsRefusedAt64 : Ask → (word count : ℕ) → Type 0
IsRefusedAt64 (Create function argument) word count = nat_eq word 0 ≡ true → count ≡ 64
IsRefusedAt64 _ word count = Unit {0}

pub begun_step : (w : Setting) (begin : Start) (ts : List Live) (n : ℕ) (t : Live) (event : Ask) (word : ℕ) (refused : Bool) → slice_get ts n ≡ Some t → IsBorn event word (length ts) → IsRefusedAt64 event word (length ts) →
    AreBegun begin ts → AreBegun begin (set ts n (stepped w t event word refused) ++ children event word)
begun_step w begin ts n t (Create function argument) word refused there born full b =
    subst (λ (us : List Live). AreBegun begin (set ts n (stepped w t (Create function argument) word refused) ++ us)) (sym (started_children function argument word))
    (begun_if begin ts n t (stepped w t (Create function argument) word refused) function argument word (nat_eq word 0) refl there refl refl born full b)
begun_step w begin ts n t event word refused there born full b =
    subst (AreBegun begin) (sym (append-nil (set ts n (stepped w t event word refused))))
    (begun_still begin ts n t (stepped w t event word refused) there refl refl
    (λ h. b.full (sym (refused_more ts n t (stepped w t event word refused) there refl) ∙ h)) b)

pub begun_first : (begin : Start) → AreBegun begin (fresh begin ∷ [])
begun_first begin = record {
  first = record { thread = fresh begin; there = refl; begun = refl };
  started = λ c h. absurd (none_in c h);
  once = λ n low. one_zero n low;
  full = λ h. let clash : ⊥ = cc in absurd clash;
}
  where
    one_zero : (n : ℕ) → n < 1 → count_of n [] ≡ one_but_first n
    one_zero zero low = refl
    one_zero (suc n) low = absurd (omega (arith, low))
