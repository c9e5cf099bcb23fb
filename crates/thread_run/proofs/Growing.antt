-- What the passes of a thread hold goes on by each event as its trace does.
use Rattle.std.proofs.Common.{◌≡◌, refl, sym, ap, ◌∙◌, subst, arith, ℕ, suc, ◌+◌, ◌-◌, ◌<◌, ◌≤◌, Bool, true, false, not, ◌&&◌, nat_lt, if◌then◌else◌, List, [], ◌∷◌, ◌++◌, length, map, min, None}
use Rattle.std.proofs.Math.Nat.{sub-add-min_cancel}
use Rattle.std.proofs.lemmas.Bool.Decides.{nat_tests}
use Rattle.ctx_set.specs.declared.steps.StackStep.{StackStep}
use Rattle.mcode.specs.declared.events.Ask.{Ask}
use Rattle.mcode.specs.declared.events.Ask.TheVariants.{Load, Store, Exchange, FetchAdd, FetchSub, Enter, Leave, Reach, Create, Out, Trap, Over}
use Rattle.machine_code.specs.Bounds.{CanAnswer}
use Rattle.reports.specs.Counts.{is_counted}
use Rattle.reports.specs.Passes.{Held as BoardHeld, Report, report_of, IsAlone}
use Rattle.reports.specs.Prefixes.{has_room}
use Rattle.src_model.proofs.Going.{open_mark}
use Rattle.src_model.specs.Runs.{Setting, is_report_place}
use Rattle.src_model.specs.Traces.{stack_of_event, word_event, words_of}
use Rattle.src_model.specs.declared.runs.Made.{Made}
use Rattle.thread_run.specs.Detecting.{is_report, is_refused}
use Rattle.thread_run.specs.Judging.{Notes}
use Rattle.thread_run.specs.declared.judged.Judged.{Judged}
use Rattle.thread_run.specs.declared.judged.Judged.TheVariants as judged
use Rattle.thread_run.specs.Slices.{dids, told, IsTold, IsMade, WentOn, stacks_since, AreAnswered, AreByRoom, IsEnough, has_tried}
use Rattle.thread_run.specs.Threads.{Progress, makes, end_of, is_creation, is_last_a_try}
use Rattle.thread_run.specs.Worlds.{setting_of}
use Rattle.word_mem.specs.Held.{Held as WordsHeld}
use Rattle.word_mem.specs.declared.event.WordEvent.{WordEvent}

none_more : {X : Type 0} (xs : List X) → xs ++ [] ≡ xs
none_more [] = refl
none_more (x ∷ xs) = ap (λ ys. x ∷ ys) (none_more xs)

joined : {X : Type 0} (xs ys zs : List X) → (xs ++ ys) ++ zs ≡ xs ++ (ys ++ zs)
joined [] ys zs = refl
joined (x ∷ xs) ys zs = ap (λ rest. x ∷ rest) (joined xs ys zs)

long : {X : Type 0} (xs ys : List X) → length (xs ++ ys) ≡ length xs + length ys
long [] ys = omega arith
long (x ∷ xs) ys = let rest = long xs ys in omega (arith, rest)

-- no event changes nothing
pub dids_none : (h : WordsHeld) → ◌≡◌ {A = WordsHeld} h (dids h [])
dids_none h = rw (none_more h.own) refl

told_none : (b : BoardHeld) → ◌≡◌ {A = BoardHeld} b (told b [])
told_none b = rw (none_more b.own) refl

dids_more : (h : WordsHeld) (es fs : List WordEvent) → ◌≡◌ {A = WordsHeld} (dids (dids h es) fs) (dids h (es ++ fs))
dids_more h es fs = rw (joined h.own es fs) refl

told_more : (b : BoardHeld) (rs qs : List Report) → ◌≡◌ {A = BoardHeld} (told (told b rs) qs) (told b (rs ++ qs))
told_more b rs qs = rw (joined b.own rs qs) refl

stacks_more : (rs : List Report) (r : Report) → map (λ (x : Report). x.stack) (rs ++ r ∷ []) ≡ map (λ (x : Report). x.stack) rs ++ r.stack ∷ []
stacks_more [] r = refl
stacks_more (q ∷ rs) r = ap (λ ss. q.stack ∷ ss) (stacks_more rs r)

answered_more : (refused : Bool) (rs : List Report) (r : Report) → AreAnswered false rs → is_counted r.answer ≡ not refused → AreAnswered refused (rs ++ r ∷ [])
answered_more refused [] r h e = e
answered_more refused (q ∷ []) r h e = (h, e)
answered_more refused (q ∷ p ∷ rs) r h e = (h.0, answered_more refused (p ∷ rs) r h.1 e)

by_room_more : (before rs : List Report) (r : Report) → AreByRoom before rs → is_counted r.answer ≡ has_room (before ++ rs) r.stack → AreByRoom before (rs ++ r ∷ [])
by_room_more before [] r h e = (subst (λ own. is_counted r.answer ≡ has_room own r.stack) (none_more before) e, tt)
by_room_more before (q ∷ rs) r h e = (h.0, by_room_more (before ++ q ∷ []) rs r h.1 (subst (λ own. is_counted r.answer ≡ has_room own r.stack) (sym (joined before (q ∷ []) rs)) e))

alone_told : (b : BoardHeld) (rs : List Report) → IsAlone b → IsAlone (told b rs)
alone_told b rs h = record {
  whole = record { first = h.whole.first; others = h.whole.others; joined_all = h.whole.joined_all };
  silent = h.silent;
}

-- what a board was told so far, which follows this trace
pub record Telling (exact : Bool) (w : Setting) (before more : List Made) (refused : Bool) (kept kept' : BoardHeld) : Type 0 where
  pub reports : List Report
  pub board : kept' ≡ told kept reports
  pub stacks : map (λ (r : Report). r.stack) reports ≡ stacks_since w before more
  pub answers : AreAnswered refused reports
  pub room : exact ≡ true → IsAlone kept → AreByRoom kept.own reports

tells_more : (exact : Bool) (w : Setting) (before more : List Made) (ask : Ask) (word : ℕ) (refused : Bool) (b bp bq : BoardHeld) (place : Bool) → is_report_place w (more ++ before) ask ≡ place → Telling exact w before more false b bp → IsTold exact place (stack_of_event (more ++ before) ask) refused bp bq → Telling exact w before (record { ask = ask; word = word } ∷ more) refused b bq
tells_more exact w before more ask word refused b bp bq false e h m = record {
  reports = h.reports;
  board = m.0 ∙ h.board;
  stacks = h.stacks ∙ sym (ap (λ place. stacks_since w before more ++ (if place then stack_of_event (more ++ before) ask ∷ [] else [])) e ∙ none_more (stacks_since w before more));
  answers = subst (λ r. AreAnswered r h.reports) (sym m.1) h.answers;
  room = h.room;
}
tells_more exact w before more ask word refused b bp bq true e h m = record {
  reports = h.reports ++ report_of (stack_of_event (more ++ before) ask) m.noted ∷ [];
  board = m.held ∙ ap (λ x. told x (report_of (stack_of_event (more ++ before) ask) m.noted ∷ [])) h.board ∙ told_more b h.reports (report_of (stack_of_event (more ++ before) ask) m.noted ∷ []);
  stacks =
      stacks_more h.reports (report_of (stack_of_event (more ++ before) ask) m.noted)
      ∙ ap (λ ss. ss ++ stack_of_event (more ++ before) ask ∷ []) h.stacks
      ∙ sym (ap (λ place. stacks_since w before more ++ (if place then stack_of_event (more ++ before) ask ∷ [] else [])) e);
  answers = answered_more refused h.reports (report_of (stack_of_event (more ++ before) ask) m.noted) h.answers m.counts;
  room = λ x alone. by_room_more b.own h.reports (report_of (stack_of_event (more ++ before) ask) m.noted) (h.room x alone)
      (subst (λ (held : BoardHeld). is_counted m.noted ≡ has_room held.own (stack_of_event (more ++ before) ask)) h.board
      (m.room x (subst IsAlone (sym h.board) (alone_told b h.reports alone))));
}

-- the board refused nothing of a thread that hasn't ended
pub open_here : (p : Progress) → end_of p ≡ None → p.refused ≡ false
open_here p going = open_mark (setting_of p.world) p.begin p.trace p.refused going

-- at first nothing was made
pub went_none : (exact : Bool) (p : Progress) (h : WordsHeld) (calls : ℕ) (b : BoardHeld) → p.refused ≡ false → WentOn exact p p h h calls calls b b
went_none exact p h calls b e = record {
  more = [];
  reports = [];
  world = refl;
  begin = refl;
  trace = refl;
  settled = tt;
  words = dids_none h;
  left = omega arith;
  board = told_none b;
  stacks = refl;
  answers = e;
  room = λ x alone. tt;
}

-- one event more
pub went_more : (exact : Bool) (ask : Ask) (old p q : Progress) (h hp hq : WordsHeld) (l lp lq : ℕ) (b bp bq : BoardHeld) → WentOn exact old p h hp l lp b bp → p.refused ≡ false → IsMade exact ask p q hp hq lp lq bp bq → WentOn exact old q h hq l lq b bq
went_more exact ask old p q h hp hq l lp lq b bp bq w e m =
    let before : Telling exact (setting_of old.world) old.trace w.more false b bp = record { reports = w.reports; board = w.board; stacks = w.stacks; answers = subst (λ r. AreAnswered r w.reports) e w.answers; room = w.room } in
    let here : IsTold exact (is_report_place (setting_of old.world) (w.more ++ old.trace) ask) (stack_of_event (w.more ++ old.trace) ask) q.refused bp bq =
    subst (λ t. IsTold exact (is_report_place (setting_of old.world) t ask) (stack_of_event t ask) q.refused bp bq) w.trace
    (subst (λ x. IsTold exact (is_report_place (setting_of x) p.trace ask) (stack_of_event p.trace ask) q.refused bp bq) w.world m.board) in
    let telling = tells_more exact (setting_of old.world) old.trace w.more ask m.word q.refused b bp bq (is_report_place (setting_of old.world) (w.more ++ old.trace) ask) refl before here in
    record {
      more = record { ask = ask; word = m.word } ∷ w.more;
      reports = telling.reports;
      world = ap (λ (x : Progress). x.world) m.made ∙ w.world;
      begin = ap (λ (x : Progress). x.begin) m.made ∙ w.begin;
      trace = ap (λ (x : Progress). x.trace) m.made ∙ ap (λ t. record { ask = ask; word = m.word } ∷ t) w.trace;
      settled = (m.settled, w.settled);
      words = m.words ∙ ap (λ x. dids x (word_event ask m.word)) w.words ∙ dids_more h (words_of w.more) (word_event ask m.word);
      left = let more = long (words_of w.more) (word_event ask m.word) in omega (arith, m.left, w.left, more);
      board = telling.board;
      stacks = telling.stacks;
      answers = telling.answers;
      room = telling.room;
    }

one_word : (ask : Ask) (word : ℕ) → length (word_event ask word) ≤ 1
one_word (Load at) word = omega arith
one_word (Store at stored) word = omega arith
one_word (Exchange at old new) word = omega arith
one_word (FetchAdd at n) word = omega arith
one_word (FetchSub at n) word = omega arith
one_word (Enter function site) word = omega arith
one_word Leave word = omega arith
one_word (Reach target site) word = omega arith
one_word (Create function argument) word = omega arith
one_word (Out byte) word = omega arith
one_word (Trap kind) word = omega arith
one_word (Over finish) word = omega arith

rest_left : (events made limit t t' l l' n : ℕ) → min (events - made) (limit - t) ≤ l → l' + n ≡ l → n ≤ 1 → t' ≡ suc t → min (events - (made + 1)) (limit - t') ≤ l'
rest_left events made limit t t' l l' n h e few e' =
    let before = sub-add-min_cancel (events - made) (limit - t) in
    let after = sub-add-min_cancel (events - (made + 1)) (limit - t') in
    omega (arith, h, e, few, e', before, after)

-- A slice made so many events, and goes on.
pub record IsSliced (exact : Bool) (events made : ℕ) (old now : Progress) (h h' : WordsHeld) (l l' : ℕ) (b b' : BoardHeld) : Type 0 where
  pub went : WentOn exact old now h h' l l' b b'
  pub going : end_of now ≡ None
  pub untried : has_tried now made ≡ false
  pub count : length now.trace ≡ made + length old.trace
  pub few : made ≤ events
  pub enough : min (events - made) (old.world.options.events + 2 - length now.trace) ≤ l'

-- where an event was made, the last one tells
pub tried_some : (made : ℕ) (tried : Bool) → (nat_lt 0 (made + 1) && tried) ≡ tried
tried_some made tried = let some : nat_lt 0 (made + 1) ≡ true = grind (arith, nat_tests) in ap (λ b. b && tried) some

pub sliced_none : (exact : Bool) (events : ℕ) (p : Progress) (h : WordsHeld) (l : ℕ) (b : BoardHeld) → end_of p ≡ None → IsEnough p events l → IsSliced exact events 0 p p h h l l b b
sliced_none exact events p h l b going enough = record {
  went = went_none exact p h l b (open_here p going);
  going = going;
  untried = refl;
  count = omega arith;
  few = omega arith;
  enough = let all : events - 0 ≡ events = omega arith in subst (λ n. min n (p.world.options.events + 2 - length p.trace) ≤ l) (sym all) enough;
}

pub sliced_more : (exact : Bool) (events made : ℕ) (ask : Ask) (old p q : Progress) (h hp hq : WordsHeld) (l lp lq : ℕ) (b bp bq : BoardHeld) → IsSliced exact events made old p h hp l lp b bp → made < events → IsMade exact ask p q hp hq lp lq bp bq → end_of q ≡ None → is_last_a_try q.world q.begin q.trace ≡ false → IsSliced exact events (made + 1) old q h hq l lq b bq
sliced_more exact events made ask old p q h hp hq l lp lq b bp bq s less m going untried =
    let longer : length q.trace ≡ suc (length p.trace) = ap (λ (x : Progress). length x.trace) m.made in
    record {
      went = went_more exact ask old p q h hp hq l lp lq b bp bq s.went (open_here p s.going) m;
      going = going;
      untried = tried_some made (is_last_a_try q.world q.begin q.trace) ∙ untried;
      count = omega (arith, longer, s.count);
      few = omega (arith, less);
      enough = rest_left events made (old.world.options.events + 2) (length p.trace) (length q.trace) lp lq (length (word_event ask m.word)) s.enough m.left (one_word ask m.word) longer;
    }

told_of : (exact : Bool) (stack : List StackStep) (judged : Judged) (place : Bool) (b b' : BoardHeld) → is_report judged ≡ place → Notes exact stack judged b b' → IsTold exact place stack (is_refused judged) b b'
told_of exact stack judged.Passed false b b' e h = (h, refl)
told_of exact stack judged.Suppressed false b b' e h = (h, refl)
told_of exact stack judged.Reported true b b' e h = h
told_of exact stack judged.Refused true b b' e h = h
told_of exact stack judged.Passed true b b' e h = cc
told_of exact stack judged.Suppressed true b b' e h = cc
told_of exact stack judged.Reported false b b' e h = cc
told_of exact stack judged.Refused false b b' e h = cc

-- an event that was judged and answered is made
pub made_here : (exact : Bool) (ask : Ask) (old new : Progress) (word : ℕ) (judged : Judged) (h h' : WordsHeld) (l l' : ℕ) (b b' : BoardHeld) → is_creation ask ≡ false → new ≡ makes old ask word (is_refused judged) → h' ≡ dids h (word_event ask word) → l' + length (word_event ask word) ≡ l → is_report judged ≡ is_report_place (setting_of old.world) old.trace ask → Notes exact (stack_of_event old.trace ask) judged b b' → IsMade exact ask old new h h' l l' b b'
made_here exact ask old new word judged h h' l l' b b' settled e words left report notes =
    let refused : new.refused ≡ is_refused judged = ap (λ (x : Progress). x.refused) e in
    record {
      word = word;
      made = e ∙ ap (makes old ask word) (sym refused);
      words = words;
      left = left;
      settled = settled;
      board = subst (λ r. IsTold exact (is_report_place (setting_of old.world) old.trace ask) (stack_of_event old.trace ask) r b b') (sym refused)
          (told_of exact (stack_of_event old.trace ask) judged (is_report_place (setting_of old.world) old.trace ask) b b' report notes);
    }

-- any word answers an event that starts no thread
pub can_answer : (ask : Ask) (word : ℕ) → is_creation ask ≡ false → CanAnswer ask word
can_answer (Create function argument) word e = cc
can_answer (Load at) word e = tt
can_answer (Store at stored) word e = tt
can_answer (Exchange at old new) word e = tt
can_answer (FetchAdd at n) word e = tt
can_answer (FetchSub at n) word e = tt
can_answer (Enter function site) word e = tt
can_answer Leave word e = tt
can_answer (Reach target site) word e = tt
can_answer (Out byte) word e = tt
can_answer (Trap kind) word e = tt
can_answer (Over finish) word e = tt
