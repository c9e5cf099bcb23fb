-- What the board of a scheduled run was asked to count, and what it refused.
use Rattle.std.proofs.Common.{◌≡◌, refl, sym, ap, ◌∙◌, subst, ℕ, zero, suc, Bool, true, false, not, ◌&&◌, ◌||◌, List, [], ◌∷◌, ◌++◌, map, set, drop, take, Some, arith, append_assoc, if◌then◌else◌, slice_get, inl, inr, ⊎_elim, ◌⊎◌}
use Rattle.std.specs.List.{list_all}
use Rattle.ctx_set.specs.Prefixes.{is_same, prefixes, distinct, has, room}
use Rattle.ctx_set.specs.declared.steps.StackStep.{StackStep}
use Rattle.mcode.specs.declared.events.Ask.{Ask}
use Rattle.src_model.specs.Runs.{Setting, is_report_place, report_stacks, counted_stacks, all_report_stacks, all_counted_stacks, last_stack, IsRefusedRightly}
use Rattle.src_model.specs.Scheduled.{Live, as_list, has_room, asks_for, is_refused, stepped, thread_of}
use Rattle.src_model.specs.Traces.{stack_of_event}
use Rattle.src_model.proofs.Going.{Each}
use Rattle.src_model.proofs.Prefixes.{Stacks, same_is, has_left, has_right, has_cases, has_first, all_prefixes, still_room, many_asked, fewer_distinct, prefixes_in, all_prefixes_in, none_counted}

-- The board was asked for the stack, and then had room for it or hadn't.
pub record WasAsked (asked : Stacks) (stack : List StackStep) (told : Bool) : Type 0 where
  pub before : Stacks
  pub after : Stacks
  pub is : asked ≡ before ++ stack ∷ after
  pub answer : has_room before stack ≡ told

-- All that was asked tells which.
told_by_all : (asked : Stacks) (stack : List StackStep) (told : Bool) → WasAsked asked stack told → list_all (has (take room (distinct (all_prefixes asked)))) (prefixes stack) ≡ told
told_by_all asked stack told a =
    ap (λ (l : Stacks). list_all (has (take room (distinct (all_prefixes l)))) (prefixes stack)) a.is ∙ sym (still_room a.before stack a.after) ∙ a.answer

pub not_both : (asked : Stacks) (stack : List StackStep) → WasAsked asked stack true → WasAsked asked stack false → ⊥
not_both asked stack a b =
    let clash : true ≡ false = sym (told_by_all asked stack true a) ∙ told_by_all asked stack false b in (let no : ⊥ = cc in no)

later : (asked more : Stacks) (stack : List StackStep) (told : Bool) → WasAsked asked stack told → WasAsked (asked ++ more) stack told
later asked more stack told a = record {
  before = a.before;
  after = a.after ++ more;
  is = ap (λ (l : Stacks). l ++ more) a.is ∙ append_assoc a.before (stack ∷ a.after) more;
  answer = a.answer;
}

now : (asked : Stacks) (stack : List StackStep) (told : Bool) → has_room asked stack ≡ told → WasAsked (asked ++ stack ∷ []) stack told
now asked stack told e = record { before = asked; after = []; is = refl; answer = e }

-- What the board counted of a thread it had room for, and what it refused it had no room for.
pub record IsNoted (w : Setting) (asked : Stacks) (t : Live) : Type 0 where
  pub counted : (stack : List StackStep) → has (counted_stacks w (thread_of t)) stack ≡ true → WasAsked asked stack true
  pub refused : t.refused ≡ true → WasAsked asked (last_stack t.trace) false

pub noted_later : (w : Setting) (asked more : Stacks) (t : Live) → IsNoted w asked t → IsNoted w (asked ++ more) t
noted_later w asked more t n = record {
  counted = λ stack h. later asked more stack true (n.counted stack h);
  refused = λ h. later asked more (last_stack t.trace) false (n.refused h);
}

-- One event more.

abbrev with_stack : Bool → List StackStep → Stacks → Stacks
with_stack b stack stacks = if b then stack ∷ stacks else stacks

one_of : (x stack : List StackStep) (rest : Stacks) (b : Bool) → is_same x stack ≡ b → has (stack ∷ rest) x ≡ true → (x ≡ stack) ⊎ (has rest x ≡ true)
one_of x stack rest true e h = inl (same_is x stack e)
one_of x stack rest false e h = inr (other (is_same x stack) (has rest x) e h)
  where
    other : (a b : Bool) → a ≡ false → (a || b) ≡ true → b ≡ true
    other true b f g = let clash : ⊥ = cc in absurd clash
    other false b f g = g

counted_by : (b held : Bool) (stack : List StackStep) (rs asked : Stacks) → ((x : List StackStep) → has rs x ≡ true → WasAsked asked x true) → has_room asked stack ≡ held →
    (x : List StackStep) → has (if b && not held then drop 1 (with_stack b stack rs) else with_stack b stack rs) x ≡ true → WasAsked (asked ++ with_stack b stack []) x true
counted_by false held stack rs asked old e x h = later asked [] x true (old x h)
counted_by true true stack rs asked old e x h =
    ⊎_elim
    (λ (same : x ≡ stack). subst (λ (s : List StackStep). WasAsked (asked ++ stack ∷ []) s true) (sym same) (now asked stack true e))
    (λ (there : has rs x ≡ true). later asked (stack ∷ []) x true (old x there))
    (one_of x stack rs (is_same x stack) refl h)
counted_by true false stack rs asked old e x h = later asked (stack ∷ []) x true (old x h)

refused_by : (b held : Bool) (stack : List StackStep) (asked : Stacks) → has_room asked stack ≡ held → (b && not held) ≡ true → WasAsked (asked ++ with_stack b stack []) stack false
refused_by false held stack asked e h = let clash : ⊥ = cc in absurd clash
refused_by true true stack asked e h = let clash : ⊥ = cc in absurd clash
refused_by true false stack asked e h = now asked stack false e

unmarked_counted : (b : Bool) (rs : Stacks) (x : List StackStep) → b ≡ false → has rs x ≡ true → has (if b then drop 1 rs else rs) x ≡ true
unmarked_counted true rs x e h = let clash : ⊥ = cc in absurd clash
unmarked_counted false rs x e h = h

pub noted_step : (w : Setting) (asked : Stacks) (t : Live) (event : Ask) (word : ℕ) → IsNoted w asked t → t.refused ≡ false →
    IsNoted w (asked ++ asks_for w t.trace event) (stepped w t event word (is_refused as_list w asked t.trace event))
noted_step w asked t event word n unmarked =
    let stack : List StackStep = stack_of_event t.trace event in
    let b : Bool = is_report_place w t.trace event in
    record {
      counted = counted_by b (has_room asked stack) stack (report_stacks w t.trace) asked
          (λ x h. n.counted x (unmarked_counted t.refused (report_stacks w t.trace) x unmarked h)) refl;
      refused = refused_by b (has_room asked stack) stack asked refl;
    }

-- Each stack that was asked for is one of a report place.

abbrev pub reports_in : Setting → List Live → Stacks
reports_in w ts = all_report_stacks w (map thread_of ts)

pub reports_more : (w : Setting) (ts us : List Live) (x : List StackStep) → has (reports_in w ts) x ≡ true → has (reports_in w (ts ++ us)) x ≡ true
reports_more w [] us x h = let clash : ⊥ = cc in absurd clash
reports_more w (t ∷ ts) us x h = by_test (has (report_stacks w t.trace) x) refl (reports_more w ts us x)
  where
    by_test : (b : Bool) → has (report_stacks w t.trace) x ≡ b → (has (reports_in w ts) x ≡ true → has (reports_in w (ts ++ us)) x ≡ true) → has (report_stacks w t.trace ++ reports_in w (ts ++ us)) x ≡ true
    by_test true e on = has_left (report_stacks w t.trace) (reports_in w (ts ++ us)) x e
    by_test false e on = has_right (report_stacks w t.trace) (reports_in w (ts ++ us)) x (on (has_cases (report_stacks w t.trace) (reports_in w ts) x h e))

reports_new : (w : Setting) (ts : List Live) (n : ℕ) (t other : Live) (x : List StackStep) → slice_get ts n ≡ Some t → has (report_stacks w other.trace) x ≡ true → has (reports_in w (set ts n other)) x ≡ true
reports_new w [] n t other x there h = let clash : ⊥ = cc in absurd clash
reports_new w (s ∷ ts) zero t other x there h = has_left (report_stacks w other.trace) (reports_in w ts) x h
reports_new w (s ∷ ts) (suc n) t other x there h = has_right (report_stacks w s.trace) (reports_in w (set ts n other)) x (reports_new w ts n t other x there h)

reports_kept : (w : Setting) (ts : List Live) (n : ℕ) (t other : Live) (x : List StackStep) → slice_get ts n ≡ Some t → (has (report_stacks w t.trace) x ≡ true → has (report_stacks w other.trace) x ≡ true) →
    has (reports_in w ts) x ≡ true → has (reports_in w (set ts n other)) x ≡ true
reports_kept w [] n t other x there up h = let clash : ⊥ = cc in absurd clash
reports_kept w (s ∷ ts) zero t other x there up h = by_test (has (report_stacks w s.trace) x) refl
  where
    same : s ≡ t
    same = let is : s ≡ t = cc in is

    by_test : (b : Bool) → has (report_stacks w s.trace) x ≡ b → has (report_stacks w other.trace ++ reports_in w ts) x ≡ true
    by_test true e = has_left (report_stacks w other.trace) (reports_in w ts) x (up (ap (λ (l : Live). has (report_stacks w l.trace) x) (sym same) ∙ e))
    by_test false e = has_right (report_stacks w other.trace) (reports_in w ts) x (has_cases (report_stacks w s.trace) (reports_in w ts) x h e)
reports_kept w (s ∷ ts) (suc n) t other x there up h = by_test (has (report_stacks w s.trace) x) refl (reports_kept w ts n t other x there up)
  where
    by_test : (b : Bool) → has (report_stacks w s.trace) x ≡ b → (has (reports_in w ts) x ≡ true → has (reports_in w (set ts n other)) x ≡ true) → has (report_stacks w s.trace ++ reports_in w (set ts n other)) x ≡ true
    by_test true e on = has_left (report_stacks w s.trace) (reports_in w (set ts n other)) x e
    by_test false e on = has_right (report_stacks w s.trace) (reports_in w (set ts n other)) x (on (has_cases (report_stacks w s.trace) (reports_in w ts) x h e))

up_by : (b : Bool) (stack : List StackStep) (rs : Stacks) (x : List StackStep) → has rs x ≡ true → has (with_stack b stack rs) x ≡ true
up_by true stack rs x h = has_right (stack ∷ []) rs x h
up_by false stack rs x h = h

new_by : (b : Bool) (stack : List StackStep) (rs : Stacks) (x : List StackStep) → has (with_stack b stack []) x ≡ true → has (with_stack b stack rs) x ≡ true
new_by true stack rs x h = has_left (stack ∷ []) rs x h
new_by false stack rs x h = let clash : ⊥ = cc in absurd clash

pub asked_step : (w : Setting) (asked : Stacks) (ts us : List Live) (n : ℕ) (t : Live) (event : Ask) (word : ℕ) (refused : Bool) → slice_get ts n ≡ Some t →
    ((x : List StackStep) → has asked x ≡ true → has (reports_in w ts) x ≡ true) →
    (x : List StackStep) → has (asked ++ asks_for w t.trace event) x ≡ true → has (reports_in w (set ts n (stepped w t event word refused) ++ us)) x ≡ true
asked_step w asked ts us n t event word refused there old x h = reports_more w (set ts n other) us x (by_test (has asked x) refl)
  where
    other : Live
    other = stepped w t event word refused

    b : Bool
    b = is_report_place w t.trace event

    by_test : (c : Bool) → has asked x ≡ c → has (reports_in w (set ts n (stepped w t event word refused))) x ≡ true
    by_test true e = reports_kept w ts n t other x there (up_by b (stack_of_event t.trace event) (report_stacks w t.trace) x) (old x e)
    by_test false e = reports_new w ts n t other x there (new_by b (stack_of_event t.trace event) (report_stacks w t.trace) x (has_cases asked (asks_for w t.trace event) x h e))

-- So what was refused was refused rightly.

counted_one : (w : Setting) (asked : Stacks) (ts : List Live) (x : List StackStep) → Each (IsNoted w asked) ts → has (all_counted_stacks w (map thread_of ts)) x ≡ true → WasAsked asked x true
counted_one w asked [] x all h = let clash : ⊥ = cc in absurd clash
counted_one w asked (t ∷ ts) x all h = by_test (has (counted_stacks w (thread_of t)) x) refl (counted_one w asked ts x all.1)
  where
    by_test : (b : Bool) → has (counted_stacks w (thread_of t)) x ≡ b → (has (all_counted_stacks w (map thread_of ts)) x ≡ true → WasAsked asked x true) → WasAsked asked x true
    by_test true e on = all.0.counted x e
    by_test false e on = on (has_cases (counted_stacks w (thread_of t)) (all_counted_stacks w (map thread_of ts)) x h e)

pub refused_rightly : (w : Setting) (asked : Stacks) (ts : List Live) (t : Live) → Each (IsNoted w asked) ts → IsNoted w asked t → ((x : List StackStep) → has asked x ≡ true → has (reports_in w ts) x ≡ true) →
    t.refused ≡ true → IsRefusedRightly w (map thread_of ts) (thread_of t)
refused_rightly w asked ts t all n within marked =
    let stack : List StackStep = last_stack t.trace in
    let a : WasAsked asked stack false = n.refused marked in
    let ys : Stacks = reports_in w ts in
    let old : (x : List StackStep) → has a.before x ≡ true → has ys x ≡ true =
    λ x h. within x (ap (λ (l : Stacks). has l x) a.is ∙ has_left a.before (stack ∷ a.after) x h) in
    let own : has ys stack ≡ true = within stack (ap (λ (l : Stacks). has l stack) a.is ∙ has_right a.before (stack ∷ a.after) stack (has_first stack a.after)) in
    let more = many_asked a.before stack a.answer in
    let fewer = fewer_distinct (all_prefixes a.before ++ prefixes stack) (all_prefixes ys) (λ p h. in_all a.before stack ys old own p h (has (all_prefixes a.before) p) refl) in
    record {
      many = omega (arith, more, fewer);
      apart = none_counted stack (all_counted_stacks w (map thread_of ts)) (not_counted stack a (has (all_counted_stacks w (map thread_of ts)) stack) refl);
    }
  where
    in_all : (before : Stacks) (stack : List StackStep) (ys : Stacks) → ((x : List StackStep) → has before x ≡ true → has ys x ≡ true) → has ys stack ≡ true →
        (p : List StackStep) → has (all_prefixes before ++ prefixes stack) p ≡ true → (b : Bool) → has (all_prefixes before) p ≡ b → has (all_prefixes ys) p ≡ true
    in_all before stack ys old own p h true e = all_prefixes_in before ys old p e
    in_all before stack ys old own p h false e = prefixes_in ys stack p own (has_cases (all_prefixes before) (prefixes stack) p h e)

    not_counted : (stack : List StackStep) → WasAsked asked stack false → (b : Bool) → has (all_counted_stacks w (map thread_of ts)) stack ≡ b → has (all_counted_stacks w (map thread_of ts)) stack ≡ false
    not_counted stack a true e = absurd (not_both asked stack (counted_one w asked ts stack all e) a)
    not_counted stack a false e = e
