-- The threads of a scheduled run are a run: each trace is one of the source thread up to its ending, to which it comes; the threads are numbered and
-- started rightly, and refused rightly; and their word events have one merge.
use Rattle.std.proofs.Common.{◌≡◌, refl, sym, ap, ◌∙◌, subst, ℕ, zero, suc, ◌+◌, ◌-◌, ◌^◌, ◌<◌, ◌≤◌, Bool, true, false, ◌&&◌, ◌||◌, List, [], ◌∷◌, ◌++◌, length, map, set, replicate, Option, Some, None, is_some, All, Contains, arith, nat_eq, nat_lt, if◌then◌else◌, slice_get, ⊎_elim}
use Rattle.std.specs.List.{list_all, list_any}
use Rattle.std.specs.Str.{bytes_eq}
use Rattle.std.proofs.lemmas.Bool.Decides.{nat_tests}
use Rattle.std.proofs.lemmas.Grind.{common_steps}
use Rattle.std.proofs.lemmas.List.Elements.{All-nil, All-cons, Contains-append_cases}
use Rattle.std.proofs.lemmas.Option.{slice_get_within}
use Rattle.core_unit.proofs.Regions.{room_for}
use Rattle.core_unit.specs.Layout.{region, copies, heap_start, opening_of}
use Rattle.core_unit.specs.Units.{IsUnit, opening}
use Rattle.core_unit.specs.declared.tables.FunctionInfo.{FunctionInfo}
use Rattle.core_unit.specs.declared.tables.UnitParts.{UnitParts}
use Rattle.ctx_set.specs.Prefixes.{has}
use Rattle.ctx_set.specs.declared.steps.StackStep.{StackStep}
use Rattle.mcode.specs.Memory.{table_words}
use Rattle.mcode.specs.Words.{is_defined}
use Rattle.mcode.specs.declared.events.Ask.{Ask}
use Rattle.mcode.specs.declared.events.Ask.TheVariants.{Create}
use Rattle.src_model.specs.Laws.{CanBegin, IsScheduled}
use Rattle.src_model.specs.Runs.{Setting, Start, Thread, function_from, entry_of, argument_words, IsThreadRun, IsFirst, IsRefusedRightly, AreThreads, IsMerged, IsRun, all_creations, split_of}
use Rattle.src_model.specs.Scheduled.{Live, Running, as_list, fresh, answer, children, asks_for, is_refused, stepped, makes_asked, is_over, called, first_thread, opened, scheduled, thread_of}
use Rattle.src_model.specs.Source.{next}
use Rattle.src_model.specs.Traces.{Creation, creations, words_of, has_refused_creation}
use Rattle.src_model.specs.declared.runs.End.{End}
use Rattle.src_model.proofs.Boards.{IsNoted, noted_later, noted_step, reports_in, asked_step, refused_rightly}
use Rattle.src_model.proofs.Going.{Each, set_each, more_each, each_at, each_as, IsLive, AllLive, open_mark, next_live, first_live, ended_live}
use Rattle.src_model.proofs.History.{AllPlaced, IsKept, HasMerge, placed_at, none_in, from_zero, born_next, few_children, next_kept, first_kept}
use Rattle.src_model.proofs.Rounds.{event_falls, left_of, potential, scheduled_keeps, comes_over}
use Rattle.src_model.proofs.Spent.{IsSpent, fresh_spent, spent_step}
use Rattle.src_model.proofs.Started.{AreBegun, IsRefusedAt64, begun_step, begun_first}
use Rattle.src_model.proofs.Table.{comes_low}
use Rattle.word_mem.specs.Held.{Follows}
use Rattle.word_mem.specs.Merge.{part}
use Rattle.word_mem.specs.declared.event.Entry.{Entry}

both : (a b : Bool) → (a && b) ≡ true → (a ≡ true) × (b ≡ true)
both true b h = (refl, h)
both false b h = let clash : ⊥ = cc in absurd clash

-- Traces and endings.

one_run : (w : Setting) (t : Live) (end : Option End) → t.end ≡ end → IsLive w t → is_some end ≡ true → IsThreadRun w (thread_of t)
one_run w t (Some end) ended live some = ended_live w t end live ended
one_run w t None ended live some = let clash : ⊥ = cc in absurd clash

all_runs : (w : Setting) (ts : List Live) → AllLive w ts → list_all (λ t. is_some t.end) ts ≡ true → All (IsThreadRun w) (map thread_of ts)
all_runs w [] all over = All-nil (IsThreadRun w)
all_runs w (t ∷ ts) all over =
    let parts = both (is_some t.end) (list_all (λ s. is_some s.end) ts) over in
    All-cons (IsThreadRun w) (thread_of t) (map thread_of ts) (one_run w t t.end refl all.0 parts.0) (all_runs w ts all.1 parts.1)

-- The merge.

record IsAt (ts : List Live) (n : ℕ) (t : Thread) : Type 0 where
  pub live : Live
  pub there : slice_get ts n ≡ Some live
  pub same : thread_of live ≡ t

at_place : (ts : List Live) (n : ℕ) (t : Thread) → slice_get (map thread_of ts) n ≡ Some t → IsAt ts n t
at_place [] n t h = let clash : ⊥ = cc in absurd clash
at_place (live ∷ ts) zero t h = let same : thread_of live ≡ t = cc in record { live = live; there = refl; same = same }
at_place (live ∷ ts) (suc n) t h = let rest = at_place ts n t h in record { live = rest.live; there = rest.there; same = rest.same }

all_order : (w : Setting) (m : List Entry) (count first : ℕ) (ts : List Live) → AllPlaced w m count first ts → (c : Creation) → Contains (all_creations (map thread_of ts)) c → Follows m (split_of c)
all_order w m count first [] all c h = absurd (none_in c h)
all_order w m count first (t ∷ ts) all c h =
    ⊎_elim
    (λ here. (all.0.order c (subst (λ n. Contains (creations n t.trace) c) all.0.number here)).follows)
    (λ there. all_order w m count (suc first) ts all.1 c there)
    (Contains-append_cases (creations t.begin.number t.trace) (all_creations (map thread_of ts)) c h)

as_many : (ts : List Live) → length (map thread_of ts) ≡ length ts
as_many [] = refl
as_many (t ∷ ts) = let rest = as_many ts in omega (arith, rest)

merged_by : (w : Setting) (r : Running (List ℕ)) (m : List Entry) → IsKept w r m → IsMerged w (map thread_of r.threads) m
merged_by w r m k = record {
  parts = λ n t h.
      let at = at_place r.threads n t h in
      let p = placed_at w m (length r.threads) 0 r.threads n at.live k.placed at.there in
      ap (λ j. part j m) (sym (from_zero n)) ∙ p.events ∙ ap (λ (s : Thread). words_of s.trace) at.same;
  only = λ x h. let low = k.only x h in let same = as_many r.threads in omega (arith, low, same);
  order = all_order w m (length r.threads) 0 r.threads k.placed;
  legal = k.legal;
}

-- memory has all its words
joined_length : (a b c : List ℕ) (x : ℕ) (d : List ℕ) → length (a ++ b ++ c ++ x ∷ d) ≡ length a + length b + length c + 1 + length d
joined_length a b c x d = grind (arith, common_steps)

zeros_length : (n : ℕ) → length {A = ℕ} (replicate n 0) ≡ n
zeros_length zero = refl
zeros_length (suc n) = let rest = zeros_length n in omega (arith, rest)

opening_long : (statics threads : List ℕ) → length statics ≤ 524288 → length threads ≤ 1024 → length (opening_of statics threads) ≡ table_words
unfolding opening_of
opening_long statics threads few fewer =
    let start : ℕ = heap_start (length statics) in
    let regions = room_for 64 threads fewer in
    let heap = zeros_length (2 ^ 20 + 1 - start) in
    let last = zeros_length 190 in
    let whole = joined_length (0 ∷ statics) (copies 64 (region threads)) (replicate (2 ^ 20 + 1 - start) 0) start (replicate 190 0) in
    omega (arith, few, regions, heap, last, whole)

-- What a scheduled run keeps.

pub record IsGoing (w : Setting) (begin : Start) (r : Running (List ℕ)) : Type 0 where
  pub live : AllLive w r.threads
  pub merged : HasMerge w r
  pub spent : Each (IsSpent w) r.threads
  pub begun : AreBegun begin r.threads
  pub noted : Each (IsNoted w r.asked) r.threads
  pub asked : (x : List StackStep) → has r.asked x ≡ true → has (reports_in w r.threads) x ≡ true

children_spent : (w : Setting) (event : Ask) (word : ℕ) → Each (IsSpent w) (children event word)
children_spent w (Create function argument) zero = tt
children_spent w (Create function argument) (suc word) = (fresh_spent w (record { number = suc word; function = function; arguments = argument ∷ [] }), tt)
children_spent w event word = tt

fresh_noted : (w : Setting) (asked : List (List StackStep)) (begin : Start) → IsNoted w asked (fresh begin)
fresh_noted w asked begin = record { counted = λ x h. let clash : ⊥ = cc in absurd clash; refused = λ h. let clash : ⊥ = cc in absurd clash }

children_noted : (w : Setting) (asked : List (List StackStep)) (event : Ask) (word : ℕ) → Each (IsNoted w asked) (children event word)
children_noted w asked (Create function argument) zero = tt
children_noted w asked (Create function argument) (suc word) = (fresh_noted w asked _, tt)
children_noted w asked event word = tt

full_if : (count : ℕ) (b : Bool) → nat_lt count 64 ≡ b → 0 < count → count ≤ 64 → nat_eq (if b then count else 0) 0 ≡ true → count ≡ 64
full_if count true e some few h = absurd (grind (arith, nat_tests))
full_if count false e some few h = grind (arith, nat_tests)

full_at : (r : Running (List ℕ)) (event : Ask) → 0 < length r.threads → length r.threads ≤ 64 → IsRefusedAt64 event (answer as_list r event) (length r.threads)
full_at r (Create function argument) some few = full_if (length r.threads) (nat_lt (length r.threads) 64) refl some few
full_at r event some few = tt

module _ (w : Setting) (begin : Start) (can : CanBegin w) (long : length (opening w.unit) ≡ table_words) where
  one_more : (n : ℕ) (t : Live) (r : Running (List ℕ)) → slice_get r.threads n ≡ Some t → t.end ≡ None → IsGoing w begin r → IsGoing w begin (makes_asked as_list w n t (next w.unit t.state) r)
  one_more n t r there none g =
      let event : Ask = next w.unit t.state in
      let word : ℕ = answer as_list r event in
      let refused : Bool = is_refused as_list w r.asked t.trace event in
      let other : Live = stepped w t event word refused in
      let within = slice_get_within r.threads n t there in
      let k : IsKept w r g.merged.0 = g.merged.1 in
      let live : IsLive w t = each_at (IsLive w) r.threads n t g.live there in
      let placed = placed_at w g.merged.0 (length r.threads) 0 r.threads n t k.placed there in
      record {
        live = next_live as_list w can n t r none live g.live;
        merged = next_kept w long n t r there g.merged;
        spent = more_each (IsSpent w) (set r.threads n other) (children event word)
            (set_each (IsSpent w) r.threads n other g.spent
            (spent_step w t word refused (comes_low w.unit t.state placed.comes) live none (each_at (IsSpent w) r.threads n t g.spent there)))
            (children_spent w event word);
        begun = begun_step w begin r.threads n t event word refused there (born_next r event (omega (arith, within))) (full_at r event (omega (arith, within)) k.few) g.begun;
        noted = more_each (IsNoted w (r.asked ++ asks_for w t.trace event)) (set r.threads n other) (children event word)
            (set_each (IsNoted w (r.asked ++ asks_for w t.trace event)) r.threads n other
            (each_as (IsNoted w r.asked) (IsNoted w (r.asked ++ asks_for w t.trace event)) (noted_later w r.asked (asks_for w t.trace event)) r.threads g.noted)
            (noted_step w r.asked t event word (each_at (IsNoted w r.asked) r.threads n t g.noted there) (open_mark w t.begin t.trace t.refused (sym live.ends ∙ none))))
            (children_noted w (r.asked ++ asks_for w t.trace event) event word);
        asked = asked_step w r.asked r.threads (children event word) n t event word refused there g.asked;
      }

  falls : (n : ℕ) (t : Live) (r : Running (List ℕ)) → slice_get r.threads n ≡ Some t → t.end ≡ None → IsGoing w begin r → suc (potential (w.options.events + 4) (makes_asked as_list w n t (next w.unit t.state) r)) ≤ potential (w.options.events + 4) r
  falls n t r there none g =
      let spent : IsSpent w t = each_at (IsSpent w) r.threads n t g.spent there in
      let low = spent.low in
      event_falls w (w.options.events + 4) n t r there none (omega (arith, low)) (few_children r (next w.unit t.state) g.merged.1.few)

  some_left : (r : Running (List ℕ)) (n : ℕ) (t : Live) → IsGoing w begin r → slice_get r.threads n ≡ Some t → t.end ≡ None → 0 < left_of (w.options.events + 4) t
  some_left r n t g there none =
      let spent : IsSpent w t = each_at (IsSpent w) r.threads n t g.spent there in
      let low = spent.low in rw none (omega (arith, low))

  few_threads : (r : Running (List ℕ)) → IsGoing w begin r → length r.threads ≤ 64
  few_threads r g = g.merged.1.few

  module _ (first : first_thread w (entry_of w) ≡ fresh begin ∷ []) where
    at_first : IsGoing w begin (opened w (opening w.unit))
    at_first = record {
      live = first_live w can (entry_of w);
      merged = first_kept w (entry_of w);
      spent = subst (Each (IsSpent w)) (sym first) (fresh_spent w begin, tt);
      begun = subst (AreBegun begin) (sym first) (begun_first begin);
      noted = subst (Each (IsNoted w [])) (sym first) (fresh_noted w [] begin, tt);
      asked = λ x h. let clash : ⊥ = cc in absurd clash;
    }

    pub goes : (schedule : List ℕ) → IsGoing w begin (scheduled w schedule)
    goes schedule = scheduled_keeps w (IsGoing w begin) one_more schedule at_first

    pub comes_to_its_end : (schedule : List ℕ) → is_over (scheduled w schedule) ≡ true
    comes_to_its_end schedule = comes_over w (w.options.events + 4) (IsGoing w begin) one_more falls some_left few_threads schedule at_first refl

-- The entry is a function of the unit.

record IsFound (fs : List FunctionInfo) (first function : ℕ) : Type 0 where
  pub behind : ℕ
  pub is : function ≡ first + behind
  pub info : FunctionInfo
  pub known : slice_get fs behind ≡ Some info

found_by : (n : ℕ) (f : FunctionInfo) (fs : List FunctionInfo) (name : List ℕ) (b : Bool) (function : ℕ) → (function_from (suc n) fs name ≡ Some function → IsFound fs (suc n) function) →
    (if b then Some n else function_from (suc n) fs name) ≡ Some function → IsFound (f ∷ fs) n function
found_by n f fs name true function on h = record { behind = 0; is = (let same : n ≡ function = cc in omega (arith, same)); info = f; known = refl }
found_by n f fs name false function on h =
    let rest = on h in let is = rest.is in record { behind = suc rest.behind; is = omega (arith, is); info = rest.info; known = rest.known }

found : (n : ℕ) (fs : List FunctionInfo) (name : List ℕ) (function : ℕ) → function_from n fs name ≡ Some function → IsFound fs n function
found n [] name function h = let clash : ⊥ = cc in absurd clash
found n (f ∷ fs) name function h = found_by n f fs name (is_defined f.body && bytes_eq f.name name) function (found (suc n) fs name function) h

record HasEntry (w : Setting) : Type 0 where
  pub function : ℕ
  pub info : FunctionInfo
  pub entry : entry_of w ≡ Some function
  pub known : slice_get w.unit.functions function ≡ Some info

has_entry_by : (w : Setting) (found_entry : Option ℕ) → entry_of w ≡ found_entry → is_some found_entry ≡ true → HasEntry w
has_entry_by w None e h = let clash : ⊥ = cc in absurd clash
has_entry_by w (Some function) e h =
    let at = found 0 w.unit.functions w.entry function e in let is = at.is in
    let same : at.behind ≡ function = omega (arith, is) in
    record { function = function; info = at.info; entry = e; known = ap (slice_get w.unit.functions) (sym same) ∙ at.known }

has_entry : (w : Setting) → is_some (entry_of w) ≡ true → HasEntry w
has_entry w h = has_entry_by w (entry_of w) refl h

abbrev begin_of : (w : Setting) → HasEntry w → Start
begin_of w e = record { number = 0; function = e.function; arguments = argument_words e.info.kind.params w.arguments }

first_is : (w : Setting) (e : HasEntry w) → first_thread w (entry_of w) ≡ fresh (begin_of w e) ∷ []
first_is w e = ap (first_thread w) e.entry ∙ ap (called w e.function) e.known

-- So it is a run.

map_at : (ts : List Live) (n : ℕ) (t : Live) → slice_get ts n ≡ Some t → slice_get (map thread_of ts) n ≡ Some (thread_of t)
map_at [] n t h = let clash : ⊥ = cc in absurd clash
map_at (s ∷ ts) zero t h = let same : s ≡ t = cc in ap (λ (l : Live). Some (thread_of l)) same
map_at (s ∷ ts) (suc n) t h = map_at ts n t h

refused_alike : (ts : List Live) → list_any (λ (t : Thread). has_refused_creation t.trace) (map thread_of ts) ≡ list_any (λ (t : Live). has_refused_creation t.trace) ts
refused_alike [] = refl
refused_alike (t ∷ ts) = ap (λ b. has_refused_creation t.trace || b) (refused_alike ts)

first_begins : (w : Setting) (e : HasEntry w) → IsFirst w (begin_of w e)
first_begins w e = record { info = e.info; entry = e.entry; known = e.known; number = refl; arguments = refl }

are_threads : (w : Setting) (e : HasEntry w) (r : Running (List ℕ)) → IsGoing w (begin_of w e) r → AreThreads w (map thread_of r.threads)
are_threads w e r g =
    let many = as_many r.threads in
    let k : IsKept w r g.merged.0 = g.merged.1 in
    record {
      few = let few = k.few in omega (arith, many, few);
      numbers = λ n t h.
          let at = at_place r.threads n t h in
          let p = placed_at w g.merged.0 (length r.threads) 0 r.threads n at.live k.placed at.there in
          ap (λ (s : Thread). s.begin.number) (sym at.same) ∙ p.number ∙ from_zero n;
      first = let at = g.begun.first in (thread_of at.thread, map_at r.threads 0 at.thread at.there, subst (IsFirst w) (sym at.begun) (first_begins w e));
      started = λ c h.
          let at = g.begun.started c h in
          record {
            thread = thread_of at.thread;
            there = map_at r.threads c.child at.thread at.there;
            function = ap (λ (s : Start). s.function) at.begun;
            arguments = ap (λ (s : Start). s.arguments) at.begun;
          };
      once = λ n low. g.begun.once n (omega (arith, low, many));
      refused = λ h. let full = g.begun.full (sym (refused_alike r.threads) ∙ h) in omega (arith, full, many);
    }

is_run : (w : Setting) (e : HasEntry w) (r : Running (List ℕ)) → IsGoing w (begin_of w e) r → is_over r ≡ true → IsRun w (map thread_of r.threads)
is_run w e r g over = record {
  numbered = are_threads w e r g;
  traces = all_runs w r.threads g.live over;
  refusals = λ n t h marked.
      let at = at_place r.threads n t h in
      subst (IsRefusedRightly w (map thread_of r.threads)) at.same
      (refused_rightly w r.asked r.threads at.live g.noted (each_at (IsNoted w r.asked) r.threads n at.live g.noted at.there) g.asked
      (ap (λ (s : Thread). s.refused) at.same ∙ marked));
  merge = (g.merged.0, merged_by w r g.merged.0 g.merged.1);
}

words_long : (w : Setting) → IsUnit w.unit → length (opening w.unit) ≡ table_words
words_long w lawful = opening_long w.unit.static_words w.unit.thread_words lawful.few_words lawful.few_thread_words

pub is_scheduled : (u : UnitParts) → IsUnit u → IsScheduled u
is_scheduled u lawful = record {
  ends = λ w schedule same can.
      let e = has_entry w can.entry in
      comes_to_its_end w (begin_of w e) can (words_long w (subst IsUnit (sym same) lawful)) (first_is w e) schedule;
  runs = λ w schedule same can.
      let e = has_entry w can.entry in
      let long = words_long w (subst IsUnit (sym same) lawful) in
      is_run w e (scheduled w schedule) (goes w (begin_of w e) can long (first_is w e) schedule)
      (comes_to_its_end w (begin_of w e) can long (first_is w e) schedule);
}
