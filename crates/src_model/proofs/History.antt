-- In a scheduled run the word events of all threads have one merge, which is a legal history of the words of memory.
use Rattle.std.proofs.Common.{◌≡◌, ◌≢◌, refl, sym, ap, ◌∙◌, subst, ℕ, zero, suc, ◌+◌, ◌<◌, ◌≤◌, Bool, true, false, not, ◌&&◌, List, [], ◌∷◌, ◌++◌, length, set, Option, Some, None, Contains, arith, nat_eq, nat_lt, if◌then◌else◌, slice_get, slice_index, append-nil, append_assoc, ⊎_elim}
use Rattle.std.proofs.lemmas.Bool.Decides.{nat_tests}
use Rattle.std.proofs.lemmas.List.{length-append, length-set}
use Rattle.std.proofs.lemmas.List.Elements.{Contains-push_cases, Contains-append_cases}
use Rattle.core_unit.specs.Units.{opening}
use Rattle.core_unit.specs.declared.tables.FunctionInfo.{FunctionInfo}
use Rattle.core_unit.specs.declared.tables.UnitParts.{UnitParts}
use Rattle.mcode.specs.declared.events.Ask.{Ask}
use Rattle.mcode.specs.declared.events.Ask.TheVariants as ask
use Rattle.mcode.specs.declared.events.Ask.TheVariants.{Create}
use Rattle.mcode.specs.Memory.{IsInTable, table_words}
use Rattle.src_model.specs.Laws.{Comes, begins, goes_on, halts}
use Rattle.src_model.specs.Runs.{Setting, argument_words, is_cut, split_of}
use Rattle.src_model.specs.Scheduled.{Live, as_list, Running, answer, children, is_refused, stepped, makes_asked, called, first_thread}
use Rattle.src_model.specs.Source.{next, after, cut}
use Rattle.src_model.specs.Tasks.{State}
use Rattle.src_model.specs.Traces.{word_event, words_of, Creation, creation, creations}
use Rattle.src_model.specs.declared.runs.Made.{Made}
use Rattle.src_model.proofs.Table.{next_low, comes_low}
use Rattle.word_mem.proofs.Parts.{events-append, part-push, part-push_other, part-longer, part-none, Follows-none, Follows-push}
use Rattle.word_mem.proofs.Replays.{length-replay, replay-push, IsLegal-push}
use Rattle.word_mem.specs.Held.{Follows, Made as Split}
use Rattle.word_mem.specs.Merge.{events, part}
use Rattle.word_mem.specs.Replay.{IsLegal, replay}
use Rattle.word_mem.specs.declared.event.Entry.{Entry}
use Rattle.word_mem.specs.declared.event.WordEvent.{WordEvent}
use Rattle.word_mem.specs.declared.event.WordEvent.TheVariants.{Load, Store, Exchange, FetchAdd, FetchSub}

-- A merge with word events of a thread at its end.

abbrev entry : ℕ → WordEvent → Entry
entry n e = record { number = n; event = e }

abbrev grown : ℕ → List Entry → List WordEvent → List Entry
grown n m [] = m
grown n m (e ∷ es) = grown n (m ++ entry n e ∷ []) es

grown_other : (k n : ℕ) → n ≢ k → (m : List Entry) (es : List WordEvent) → part k (grown n m es) ≡ part k m
grown_other k n other m [] = refl
grown_other k n other m (e ∷ es) = grown_other k n other (m ++ entry n e ∷ []) es ∙ part-push_other k m (entry n e) other

grown_own : (n : ℕ) (m : List Entry) (es : List WordEvent) → part n (grown n m es) ≡ part n m ++ es
grown_own n m [] = sym (append-nil (part n m))
grown_own n m (e ∷ es) =
    grown_own n (m ++ entry n e ∷ []) es ∙ ap (λ (p : List WordEvent). p ++ es) (part-push n m (entry n e) refl) ∙ append_assoc (part n m) (e ∷ []) es

grown_longer : (k n : ℕ) (m : List Entry) (es : List WordEvent) → length (part k m) ≤ length (part k (grown n m es))
grown_longer k n m [] = omega arith
grown_longer k n m (e ∷ es) =
    let one = part-longer k m (entry n e ∷ []) in let rest = grown_longer k n (m ++ entry n e ∷ []) es in omega (arith, one, rest)

grown_follows : (n : ℕ) (m : List Entry) (es : List WordEvent) (s : Split) → Follows m s → s.before ≤ length (part s.maker m) → Follows (grown n m es) s
grown_follows n m [] s follows bound = follows
grown_follows n m (e ∷ es) s follows bound =
    let more = part-longer s.maker m (entry n e ∷ []) in
    grown_follows n (m ++ entry n e ∷ []) es s (Follows-push m (entry n e) s follows bound) (omega (arith, bound, more))

grown_only : (count n : ℕ) (m : List Entry) (es : List WordEvent) → n < count → ((x : Entry) → Contains m x → x.number < count) → (x : Entry) → Contains (grown n m es) x → x.number < count
grown_only count n m [] low only = only
grown_only count n m (e ∷ es) low only =
    grown_only count n (m ++ entry n e ∷ []) es low
    (λ x h. ⊎_elim (only x) (λ same. subst (λ (y : Entry). y.number < count) same low) (Contains-push_cases m (entry n e) x h))

grown_events : (n : ℕ) (m : List Entry) (es : List WordEvent) → events (grown n m es) ≡ events m ++ es
grown_events n m [] = sym (append-nil (events m))
grown_events n m (e ∷ es) =
    grown_events n (m ++ entry n e ∷ []) es ∙ ap (λ (l : List WordEvent). l ++ es) (events-append m (entry n e ∷ [])) ∙ append_assoc (events m) (e ∷ []) es

-- One event of a legal history more.

record IsLonger (words : List ℕ) (es more : List WordEvent) : Type 0 where
  pub legal : IsLegal words (es ++ more)
  pub left : replay words (es ++ more) ≡ replay (replay words es) more

longer_by : (words : List ℕ) (es : List WordEvent) (e : WordEvent) → IsLegal words (es ++ e ∷ []) → IsLonger words es (e ∷ [])
longer_by words es e legal = record { legal = legal; left = replay-push words es e }

longer_by_none : (words : List ℕ) (es : List WordEvent) → IsLegal words es → IsLonger words es []
longer_by_none words es legal = record {
  legal = subst (IsLegal words) (sym (append-nil es)) legal;
  left = ap (replay words) (append-nil es);
}

one_longer : (words : List ℕ) (es : List WordEvent) (r : Running (List ℕ)) (event : Ask) → IsLegal words es → r.words ≡ replay words es → length (replay words es) ≡ table_words → IsInTable event → IsLonger words es (word_event event (answer as_list r event))
one_longer words es r (ask.Load at) legal kept long low =
    longer_by words es (Load at (slice_index r.words at)) (IsLegal-push words es (Load at (slice_index r.words at)) legal (omega (arith, long, low), ap (λ (ws : List ℕ). slice_index ws at) kept))
one_longer words es r (ask.Store at word) legal kept long low =
    longer_by words es (Store at word) (IsLegal-push words es (Store at word) legal (omega (arith, long, low), tt))
one_longer words es r (ask.Exchange at old new) legal kept long low =
    longer_by words es (Exchange at old new (slice_index r.words at)) (IsLegal-push words es (Exchange at old new (slice_index r.words at)) legal (omega (arith, long, low), ap (λ (ws : List ℕ). slice_index ws at) kept))
one_longer words es r (ask.FetchAdd at n) legal kept long low =
    longer_by words es (FetchAdd at n (slice_index r.words at)) (IsLegal-push words es (FetchAdd at n (slice_index r.words at)) legal (omega (arith, long, low), ap (λ (ws : List ℕ). slice_index ws at) kept))
one_longer words es r (ask.FetchSub at n) legal kept long low =
    longer_by words es (FetchSub at n (slice_index r.words at)) (IsLegal-push words es (FetchSub at n (slice_index r.words at)) legal (omega (arith, long, low), ap (λ (ws : List ℕ). slice_index ws at) kept))
one_longer words es r _ legal kept long low = longer_by_none words es legal

-- A thread at its place in the list.

pub record IsOrdered (m : List Entry) (count n : ℕ) (c : Creation) : Type 0 where
  pub follows : Follows m (split_of c)
  pub maker : c.maker ≡ n
  pub before : c.before ≤ length (part n m)
  pub child : c.child < count

pub record IsPlaced (w : Setting) (m : List Entry) (count n : ℕ) (t : Live) : Type 0 where
  pub number : t.begin.number ≡ n
  pub comes : Comes w.unit t.state
  pub events : part n m ≡ words_of t.trace
  pub order : (c : Creation) → Contains (creations n t.trace) c → IsOrdered m count n c

still_ordered : (count more n k : ℕ) (m : List Entry) (es : List WordEvent) (c : Creation) → count ≤ more → IsOrdered m count k c → IsOrdered (grown n m es) more k c
still_ordered count more n k m es c up o = record {
  follows = grown_follows n m es (split_of c) o.follows (subst (λ j. c.before ≤ length (part j m)) (sym o.maker) o.before);
  maker = o.maker;
  before = let kept = o.before in let longer = grown_longer k n m es in omega (arith, kept, longer);
  child = let low = o.child in omega (arith, low, up);
}

other_placed : (w : Setting) (count more n k : ℕ) (m : List Entry) (es : List WordEvent) (t : Live) → n ≢ k → count ≤ more → IsPlaced w m count k t → IsPlaced w (grown n m es) more k t
other_placed w count more n k m es t other up p = record {
  number = p.number;
  comes = p.comes;
  events = grown_other k n other m es ∙ p.events;
  order = λ c h. still_ordered count more n k m es c up (p.order c h);
}

-- A thread that an event starts has the next number.
abbrev pub IsBorn : Ask → (word count : ℕ) → Type 0
IsBorn (Create function argument) word count = nat_eq word 0 ≡ false → (word ≡ count) × (word < 64)
IsBorn _ word count = Unit {0}

pub none_in : {X : Type 0} (x : X) → Contains [] x → ⊥
none_in x h = let low = h.1 in absurd (omega (arith, low))

pub sole : {X : Type 0} (y x : X) → Contains (y ∷ []) x → y ≡ x
sole y x h = ⊎_elim (λ n. absurd (none_in x n)) (λ e. e) (Contains-push_cases [] y x h)

born_ordered : (m : List Entry) (count more n : ℕ) (trace : List Made) (function argument word : ℕ) (b : Bool) → nat_eq word 0 ≡ b →
    ((x : Entry) → Contains m x → x.number < count) → part n m ≡ words_of trace → (nat_eq word 0 ≡ false → (word ≡ count) × (word < 64)) → (nat_eq word 0 ≡ false → count < more) →
    (c : Creation) → Contains (if b then [] else record { maker = n; child = word; function = function; argument = argument; before = length (words_of trace) } ∷ []) c →
    IsOrdered m more n c
born_ordered m count more n trace function argument word true e only kept born up c h = absurd (none_in c h)
born_ordered m count more n trace function argument word false e only kept born up c h =
    let next = born e in
    subst (IsOrdered m more n) (sole _ c h) (record {
      follows = Follows-none m (record { number = word; maker = n; before = length (words_of trace) })
          (λ x there same. let low = only x there in let is = next.0 in absurd (omega (arith, low, is, same)));
      maker = refl;
      before = let same = ap (λ (l : List WordEvent). length l) kept in omega (arith, same);
      child = let is = next.0 in let more_than = up e in omega (arith, is, more_than);
    })

-- how many threads there are then
abbrev counted : ℕ → Ask → ℕ → ℕ
counted count event word = count + length (children event word)

one_child : (function argument word : ℕ) → nat_eq word 0 ≡ false → length (children (Create function argument) word) ≡ 1
one_child function argument zero h = let clash : ⊥ = cc in absurd clash
one_child function argument (suc word) h = refl

-- the threads that the event started
new_ordered : (m : List Entry) (count n : ℕ) (trace : List Made) (event : Ask) (word : ℕ) →
    ((x : Entry) → Contains m x → x.number < count) → part n m ≡ words_of trace → IsBorn event word count →
    (c : Creation) → Contains (creation n trace event word) c → IsOrdered (grown n m (word_event event word)) (counted count event word) n c
new_ordered m count n trace (Create function argument) word only kept born c h =
    born_ordered m count (counted count (Create function argument) word) n trace function argument word (nat_eq word 0) refl only kept born
    (λ e. let one = one_child function argument word e in omega (arith, one)) c h
new_ordered m count n trace _ word only kept born c h = absurd (none_in c h)

comes_on : (u : UnitParts) (s : State) (word : ℕ) (b : Bool) → Comes u s → Comes u (if b then cut (after u s word) else after u s word)
comes_on u s word true c = halts (after u s word) (goes_on s word c)
comes_on u s word false c = goes_on s word c

own_placed : (w : Setting) (m : List Entry) (count n : ℕ) (t : Live) (event : Ask) (word : ℕ) (refused : Bool) →
    ((x : Entry) → Contains m x → x.number < count) → IsBorn event word count → IsPlaced w m count n t →
    IsPlaced w (grown n m (word_event event word)) (counted count event word) n (stepped w t event word refused)
own_placed w m count n t event word refused only born p = record {
  number = p.number;
  comes = comes_on w.unit t.state word (is_cut w t.trace event && not refused) p.comes;
  events = grown_own n m (word_event event word) ∙ ap (λ (l : List WordEvent). l ++ word_event event word) p.events;
  order = λ c h. ⊎_elim
      (new_ordered m count n t.trace event word only p.events born c)
      (λ old. still_ordered count (counted count event word) n n m (word_event event word) c (omega arith) (p.order c old))
      (Contains-append_cases (creation n t.trace event word) (creations n t.trace) c h);
}

-- All threads at their places.

abbrev pub AllPlaced : Setting → List Entry → (count first : ℕ) → List Live → Type 0
AllPlaced w m count first [] = Unit {0}
AllPlaced w m count first (t ∷ ts) = IsPlaced w m count first t × AllPlaced w m count (suc first) ts

others_placed : (w : Setting) (count more n : ℕ) (m : List Entry) (es : List WordEvent) (first : ℕ) (ts : List Live) → n < first → count ≤ more → AllPlaced w m count first ts → AllPlaced w (grown n m es) more first ts
others_placed w count more n m es first [] low up all = tt
others_placed w count more n m es first (t ∷ ts) low up all = (
  other_placed w count more n first m es t (λ same. absurd (omega (arith, low, same))) up all.0,
  others_placed w count more n m es (suc first) ts (omega (arith, low)) up all.1,
)

set_placed : (w : Setting) (count more n : ℕ) (m : List Entry) (es : List WordEvent) (t' : Live) (first : ℕ) (ts : List Live) (j : ℕ) → n ≡ first + j → count ≤ more → AllPlaced w m count first ts → IsPlaced w (grown n m es) more n t' → AllPlaced w (grown n m es) more first (set ts j t')
set_placed w count more n m es t' first [] j is up all p = tt
set_placed w count more n m es t' first (t ∷ ts) zero is up all p =
    let here : n ≡ first = omega (arith, is) in
    (subst (λ k. IsPlaced w (grown n m es) more k t') here p, others_placed w count more n m es (suc first) ts (omega (arith, here)) up all.1)
set_placed w count more n m es t' first (t ∷ ts) (suc j) is up all p = (
  other_placed w count more n first m es t (λ same. absurd (omega (arith, is, same))) up all.0,
  set_placed w count more n m es t' (suc first) ts j (omega (arith, is)) up all.1 p,
)

placed_then : (w : Setting) (m : List Entry) (count first last : ℕ) (ts us : List Live) → last ≡ first + length ts → AllPlaced w m count first ts → AllPlaced w m count last us → AllPlaced w m count first (ts ++ us)
placed_then w m count first last [] us is all more = let same : last ≡ first = omega (arith, is) in subst (λ k. AllPlaced w m count k us) same more
placed_then w m count first last (t ∷ ts) us is all more = (all.0, placed_then w m count (suc first) last ts us (omega (arith, is)) all.1 more)

pub placed_at : (w : Setting) (m : List Entry) (count first : ℕ) (ts : List Live) (j : ℕ) (t : Live) → AllPlaced w m count first ts → slice_get ts j ≡ Some t → IsPlaced w m count (first + j) t
placed_at w m count first [] j t all h = let clash : ⊥ = cc in absurd clash
placed_at w m count first (s ∷ ts) zero t all h =
    let same : s ≡ t = cc in let here : first ≡ first + 0 = omega arith in
    subst (λ k. IsPlaced w m count k t) here (subst (IsPlaced w m count first) same all.0)
placed_at w m count first (s ∷ ts) (suc j) t all h =
    let here : suc first + j ≡ first + suc j = omega arith in
    subst (λ k. IsPlaced w m count k t) here (placed_at w m count (suc first) ts j t all.1 h)

in_list : {X : Type 0} (xs : List X) (j : ℕ) (x : X) → slice_get xs j ≡ Some x → j < length xs
in_list [] j x h = let clash : ⊥ = cc in absurd clash
in_list (y ∷ ys) zero x h = omega arith
in_list (y ∷ ys) (suc j) x h = let rest = in_list ys j x h in omega (arith, rest)

suc_apart : (word : ℕ) → nat_eq (suc word) 0 ≡ false
suc_apart word = grind (arith, nat_tests)

-- a thread that was started, at the next place
child_placed : (w : Setting) (m : List Entry) (count n : ℕ) (event : Ask) (word : ℕ) → ((x : Entry) → Contains m x → x.number < count) → IsBorn event word count →
    AllPlaced w (grown n m (word_event event word)) (counted count event word) count (children event word)
child_placed w m count n (Create function argument) zero only born = tt
child_placed w m count n (Create function argument) (suc word) only born =
    let next = born (suc_apart word) in (
      record {
        number = next.0;
        comes = begins (suc word) function (argument ∷ []) next.1;
        events = part-none count m (λ x there same. let low = only x there in absurd (omega (arith, low, same)));
        order = λ c h. absurd (none_in c h);
      },
      tt,
    )
child_placed w m count n _ word only born = tt

pub from_zero : (n : ℕ) → 0 + n ≡ n
from_zero n = omega arith

-- A run on its way, with a merge of its word events.
pub record IsKept (w : Setting) (r : Running (List ℕ)) (m : List Entry) : Type 0 where
  pub legal : IsLegal (opening w.unit) (events m)
  pub words : r.words ≡ replay (opening w.unit) (events m)
  pub only : (x : Entry) → Contains m x → x.number < length r.threads
  pub placed : AllPlaced w m (length r.threads) 0 r.threads
  pub few : length r.threads ≤ 64

abbrev pub HasMerge : Setting → Running (List ℕ) → Type 0
HasMerge w r = (m : List Entry) × IsKept w r m

created : (count : ℕ) (b : Bool) → nat_lt count 64 ≡ b → 0 < count → nat_eq (if b then count else 0) 0 ≡ false → ((if b then count else 0) ≡ count) × ((if b then count else 0) < 64)
created count true e some h = (refl, grind (arith, nat_tests))
created count false e some h = let clash : ⊥ = cc in absurd clash

pub born_next : (r : Running (List ℕ)) (event : Ask) → 0 < length r.threads → IsBorn event (answer as_list r event) (length r.threads)
born_next r (Create function argument) some = created (length r.threads) (nat_lt (length r.threads) 64) refl some
born_next r _ some = tt

few_of : (function argument count word : ℕ) → count < 64 → count + length (children (Create function argument) word) ≤ 64
few_of function argument count zero low = omega (arith, low)
few_of function argument count (suc word) low = omega (arith, low)

few_if : (function argument count : ℕ) (b : Bool) → nat_lt count 64 ≡ b → count ≤ 64 → count + length (children (Create function argument) (if b then count else 0)) ≤ 64
few_if function argument count true e few = few_of function argument count count (grind (arith, nat_tests))
few_if function argument count false e few = omega (arith, few)

pub few_children : (r : Running (List ℕ)) (event : Ask) → length r.threads ≤ 64 → length r.threads + length (children event (answer as_list r event)) ≤ 64
few_children r (Create function argument) few = few_if function argument (length r.threads) (nat_lt (length r.threads) 64) refl few
few_children r _ few = omega (arith, few)

pub next_kept : (w : Setting) → length (opening w.unit) ≡ table_words → (n : ℕ) (t : Live) (r : Running (List ℕ)) → slice_get r.threads n ≡ Some t → HasMerge w r → HasMerge w (makes_asked as_list w n t (next w.unit t.state) r)
next_kept w long n t r there kept =
    let m : List Entry = kept.0 in
    let k : IsKept w r m = kept.1 in
    let event : Ask = next w.unit t.state in
    let word : ℕ = answer as_list r event in
    let count : ℕ = length r.threads in
    let low : n < count = in_list r.threads n t there in
    let p : IsPlaced w m count n t = subst (λ k. IsPlaced w m count k t) (from_zero n) (placed_at w m count 0 r.threads n t k.placed there) in
    let wide : length (replay (opening w.unit) (events m)) ≡ table_words = length-replay (opening w.unit) (events m) ∙ long in
    let more : IsLonger (opening w.unit) (events m) (word_event event word) =
    one_longer (opening w.unit) (events m) r event k.legal k.words wide (next_low w.unit t.state (comes_low w.unit t.state p.comes)) in
    let same : events (grown n m (word_event event word)) ≡ events m ++ word_event event word = grown_events n m (word_event event word) in
    let born : IsBorn event word count = born_next r event (omega (arith, low)) in
    let t' : Live = stepped w t event word (is_refused as_list w r.asked t.trace event) in
    let kept_length : length (set r.threads n t') ≡ count = length-set r.threads n t' in
    let all_length : length (set r.threads n t' ++ children event word) ≡ counted count event word =
    length-append (set r.threads n t') (children event word) ∙ ap (λ l. l + length (children event word)) kept_length in
    let threads : AllPlaced w (grown n m (word_event event word)) (counted count event word) 0 (set r.threads n t' ++ children event word) =
    placed_then w (grown n m (word_event event word)) (counted count event word) 0 count (set r.threads n t') (children event word) (omega (arith, kept_length))
    (set_placed w count (counted count event word) n m (word_event event word) t' 0 r.threads n (omega arith) (omega arith) k.placed
    (own_placed w m count n t event word (is_refused as_list w r.asked t.trace event) k.only born p))
    (child_placed w m count n event word k.only born) in (
      grown n m (word_event event word),
      record {
        legal = subst (IsLegal (opening w.unit)) (sym same) more.legal;
        words = ap (λ (ws : List ℕ). replay ws (word_event event word)) k.words ∙ sym more.left ∙ ap (replay (opening w.unit)) (sym same);
        only = λ x h. let below = grown_only count n m (word_event event word) low k.only x h in omega (arith, below, all_length);
        placed = subst (λ l. AllPlaced w (grown n m (word_event event word)) l 0 (set r.threads n t' ++ children event word)) (sym all_length) threads;
        few = let bound = few_children r event k.few in omega (arith, bound, all_length);
      },
    )

abbrev pub started_with : Setting → List Live → Running (List ℕ)
started_with w threads = record { words = opening w.unit; asked = []; threads = threads }

called_kept : (w : Setting) (function : ℕ) (info : Option FunctionInfo) → HasMerge w (started_with w (called w function info))
called_kept w function (Some info) = (
  [],
  record {
    legal = tt;
    words = refl;
    only = λ x h. absurd (none_in x h);
    placed = (record { number = refl; comes = begins 0 function (argument_words info.kind.params w.arguments) (omega arith); events = refl; order = λ c h. absurd (none_in c h) }, tt);
    few = omega arith;
  },
)
called_kept w function None = ([], record { legal = tt; words = refl; only = λ x h. absurd (none_in x h); placed = tt; few = omega arith })

pub first_kept : (w : Setting) (found : Option ℕ) → HasMerge w (started_with w (first_thread w found))
first_kept w (Some function) = called_kept w function (slice_get w.unit.functions function)
first_kept w None = ([], record { legal = tt; words = refl; only = λ x h. absurd (none_in x h); placed = tt; few = omega arith })
