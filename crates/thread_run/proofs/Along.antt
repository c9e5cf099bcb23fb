-- What calls on a thread need, and what they give, told of its progress and of the world that it is given.
use Rattle.std.proofs.Common.{◌≡◌, refl, sym, ap, ◌∙◌, subst, arith, ℕ, ◌+◌, ◌<◌, ◌≤◌, ◌^◌, Bool, true, false, List, ◌∷◌, length, None, All, if◌then◌else◌}
use Rattle.core_unit.specs.declared.tables.UnitParts.{UnitParts}
use Rattle.mcode.specs.Machine.{Program, Machine, machine_next, machine_after, machine_turned, machine_cut}
use Rattle.mcode.specs.declared.events.Ask.{Ask}
use Rattle.mcode.specs.declared.events.Ask.TheVariants.{Load, Store, Exchange, FetchAdd, FetchSub, Enter, Leave, Reach, Create, Out, Trap, Over}
use Rattle.mcode.specs.declared.events.Turned.{Turned}
use Rattle.mcode.specs.declared.events.Turned.TheVariants.{Went, FailedTry}
use Rattle.reports.specs.Stacks.{IsStep, IsStack}
use Rattle.src_model.proofs.Followed.{next_along, tried_along}
use Rattle.src_model.specs.Follows.{machine_after_trace}
use Rattle.src_model.specs.Runs.{Setting, Start, is_report_place, is_suppressed_place, is_cut, next_after, HasItsWord}
use Rattle.src_model.specs.Traces.{frames_after, context_after}
use Rattle.src_model.specs.declared.runs.Made.{Made}
use Rattle.suppress.specs.declared.suppressions.Suppression.{Suppression}
use Rattle.thread_run.proofs.Fewness.{reports_few, suppressed_few, dropped_few, tries_few}
use Rattle.thread_run.proofs.Machines.{IsLow, tried_next}
use Rattle.thread_run.proofs.Onward.{IsReady, machine_here, next_here, low_here, room_here, counted_here, few_here, reports_count, stays_here}
use Rattle.thread_run.proofs.Stacking.{stack_fits}
use Rattle.thread_run.specs.Detecting.{Seen, HasRoom, is_report, is_suppressed, is_report_at, is_suppressed_at, stack_for}
use Rattle.thread_run.specs.Threads.{Progress, end_of, next_event, is_creation, is_failed, is_last_a_try}
use Rattle.thread_run.specs.UnderWay.{progress_of, IsUnderWay, MakesEvent}
use Rattle.thread_run.specs.Worlds.{WorldParts, setting_of}
use Rattle.thread_run.specs.Writing.{Written}
use Rattle.thread_run.specs.declared.judged.Judged.{Judged}
use Rattle.thread_run.specs.declared.kept.Kept.{Kept}

seen_report : (u : UnitParts) (entries : List Suppression) (s : Setting) (trace : List Made) (seen : Seen) (a : Ask) → s.unit ≡ u → s.suppressions ≡ entries → seen.frames ≡ frames_after trace → seen.context ≡ context_after u trace → is_report_at u entries seen a ≡ is_report_place s trace a
seen_report u entries s trace seen (Reach target site) p q f c = rw (sym p, sym q, f, c ∙ ap (λ u. context_after u trace) (sym p)) refl
seen_report u entries s trace seen (Enter function site) p q f c = refl
seen_report u entries s trace seen Leave p q f c = refl
seen_report u entries s trace seen (Load at) p q f c = refl
seen_report u entries s trace seen (Store at word) p q f c = refl
seen_report u entries s trace seen (Exchange at old new) p q f c = refl
seen_report u entries s trace seen (FetchAdd at n) p q f c = refl
seen_report u entries s trace seen (FetchSub at n) p q f c = refl
seen_report u entries s trace seen (Create function argument) p q f c = refl
seen_report u entries s trace seen (Out byte) p q f c = refl
seen_report u entries s trace seen (Trap kind) p q f c = refl
seen_report u entries s trace seen (Over finish) p q f c = refl

seen_suppressed : (u : UnitParts) (entries : List Suppression) (s : Setting) (trace : List Made) (seen : Seen) (a : Ask) → s.unit ≡ u → s.suppressions ≡ entries → seen.frames ≡ frames_after trace → seen.context ≡ context_after u trace → is_suppressed_at u entries seen a ≡ is_suppressed_place s trace a
seen_suppressed u entries s trace seen (Reach target site) p q f c = rw (sym p, sym q, f, c ∙ ap (λ u. context_after u trace) (sym p)) refl
seen_suppressed u entries s trace seen (Enter function site) p q f c = refl
seen_suppressed u entries s trace seen Leave p q f c = refl
seen_suppressed u entries s trace seen (Load at) p q f c = refl
seen_suppressed u entries s trace seen (Store at word) p q f c = refl
seen_suppressed u entries s trace seen (Exchange at old new) p q f c = refl
seen_suppressed u entries s trace seen (FetchAdd at n) p q f c = refl
seen_suppressed u entries s trace seen (FetchSub at n) p q f c = refl
seen_suppressed u entries s trace seen (Create function argument) p q f c = refl
seen_suppressed u entries s trace seen (Out byte) p q f c = refl
seen_suppressed u entries s trace seen (Trap kind) p q f c = refl
seen_suppressed u entries s trace seen (Over finish) p q f c = refl

module _ (w : WorldParts) (begin : Start) (k : Kept) (h : IsUnderWay w begin k) where
  -- what holds of the progress that is kept holds of one that it is, and of the world that is given
  unified : (P : Progress → WorldParts → Type 0) → P (progress_of w begin k) w → (p : Progress) (v : WorldParts) → progress_of w begin k ≡ p → p.world ≡ v → P p v
  unified P base p v view same = subst (λ x. P p x) same (subst (λ (x : Progress). P x x.world) view base)

  pub next_told : (p : Progress) (v : WorldParts) → progress_of w begin k ≡ p → p.world ≡ v → IsReady v → end_of p ≡ None → machine_next v.code k.machine ≡ next_event p
  next_told = unified (λ p v. IsReady v → end_of p ≡ None → machine_next v.code k.machine ≡ next_event p) (λ ready going. next_here w begin k ready h going)

  pub few_told : (p : Progress) (v : WorldParts) → progress_of w begin k ≡ p → p.world ≡ v → IsReady v → end_of p ≡ None → length p.trace + 1 ≤ p.world.options.events + 2
  few_told = unified (λ p v. IsReady v → end_of p ≡ None → length p.trace + 1 ≤ p.world.options.events + 2) (λ ready going. few_here w begin k ready h going)

  pub stack_told : (a : Ask) (p : Progress) (v : WorldParts) → progress_of w begin k ≡ p → p.world ≡ v → IsReady v → end_of p ≡ None → a ≡ next_event p → is_report_at v.unit v.suppressions k.detector a ≡ true → IsStack (stack_for k.detector a)
  stack_told a = unified (λ p v. IsReady v → end_of p ≡ None → a ≡ next_event p → is_report_at v.unit v.suppressions k.detector a ≡ true → IsStack (stack_for k.detector a))
      (λ ready going e r. stack_fits w.unit w.suppressions k.detector k.machine.callers a
      (subst (IsLow k.machine.callers) (sym e) (low_here w begin k ready h going))
      (subst (All IsStep) (sym h.frames) h.steps)
      (subst (λ fs. length fs ≤ 256) (sym h.frames) h.few)
      (counted_here w begin k ready h going) r)

  pub report_told : (a : Ask) (p : Progress) (v : WorldParts) → progress_of w begin k ≡ p → p.world ≡ v → is_report_at v.unit v.suppressions k.detector a ≡ is_report_place (setting_of p.world) p.trace a
  report_told a = unified (λ p v. is_report_at v.unit v.suppressions k.detector a ≡ is_report_place (setting_of p.world) p.trace a) (seen_report w.unit w.suppressions (setting_of w) k.trace k.detector a refl refl h.frames h.context)

  pub place_told : (a : Ask) (p : Progress) (v : WorldParts) → progress_of w begin k ≡ p → p.world ≡ v → is_suppressed_at v.unit v.suppressions k.detector a ≡ is_suppressed_place (setting_of p.world) p.trace a
  place_told a = unified (λ p v. is_suppressed_at v.unit v.suppressions k.detector a ≡ is_suppressed_place (setting_of p.world) p.trace a) (seen_suppressed w.unit w.suppressions (setting_of w) k.trace k.detector a refl refl h.frames h.context)

  pub room_told : (a : Ask) (p : Progress) (v : WorldParts) → progress_of w begin k ≡ p → p.world ≡ v → IsReady v → end_of p ≡ None → v.options.events < 2 ^ 32 → a ≡ next_event p → HasRoom a k.detector
  room_told a = unified (λ p v. IsReady v → end_of p ≡ None → v.options.events < 2 ^ 32 → a ≡ next_event p → HasRoom a k.detector)
      (λ ready going short e. subst (λ x. HasRoom x k.detector) (sym e) (room_here w begin k ready h going short))

  pub events_told : (p : Progress) (v : WorldParts) → progress_of w begin k ≡ p → p.world ≡ v → IsReady v → end_of p ≡ None → v.options.events < 2 ^ 32 → k.events + 1 < 2 ^ 64
  events_told = unified (λ p v. IsReady v → end_of p ≡ None → v.options.events < 2 ^ 32 → k.events + 1 < 2 ^ 64)
      (λ ready going short. let few = few_here w begin k ready h going in omega (arith, few, short, h.events))

  pub reports_told : (p : Progress) (v : WorldParts) → progress_of w begin k ≡ p → p.world ≡ v → IsReady v → end_of p ≡ None → v.options.events < 2 ^ 32 → k.reports + 1 < 2 ^ 64
  reports_told = unified (λ p v. IsReady v → end_of p ≡ None → v.options.events < 2 ^ 32 → k.reports + 1 < 2 ^ 64)
      (λ ready going short. let few = few_here w begin k ready h going in let least = reports_few (setting_of w) k.trace in let same = reports_count w begin k ready h going in omega (arith, few, short, least, same))

  pub suppressed_told : (p : Progress) (v : WorldParts) → progress_of w begin k ≡ p → p.world ≡ v → IsReady v → end_of p ≡ None → v.options.events < 2 ^ 32 → k.suppressed + 1 < 2 ^ 64
  suppressed_told = unified (λ p v. IsReady v → end_of p ≡ None → v.options.events < 2 ^ 32 → k.suppressed + 1 < 2 ^ 64)
      (λ ready going short. let few = few_here w begin k ready h going in let least = suppressed_few (setting_of w) k.trace in omega (arith, few, short, least, h.suppressed))

  pub dropped_told : (p : Progress) (v : WorldParts) → progress_of w begin k ≡ p → p.world ≡ v → IsReady v → end_of p ≡ None → v.options.events < 2 ^ 32 → k.output.dropped + 1 < 2 ^ 64
  dropped_told = unified (λ p v. IsReady v → end_of p ≡ None → v.options.events < 2 ^ 32 → k.output.dropped + 1 < 2 ^ 64)
      (λ ready going short. let few = few_here w begin k ready h going in let least = dropped_few k.trace in let same = ap (λ (x : Written). x.dropped) h.output in omega (arith, few, short, least, same))

  pub tries_told : (p : Progress) (v : WorldParts) → progress_of w begin k ≡ p → p.world ≡ v → IsReady v → end_of p ≡ None → v.options.events < 2 ^ 32 → k.tries + 1 < 2 ^ 64
  tries_told = unified (λ p v. IsReady v → end_of p ≡ None → v.options.events < 2 ^ 32 → k.tries + 1 < 2 ^ 64)
      (λ ready going short. let few = few_here w begin k ready h going in let least = tries_few (setting_of w) begin k.trace in omega (arith, few, short, least, h.tries))

  pub make_told : (a : Ask) (word : ℕ) (judged : Judged) (n : Kept) (p : Progress) (v : WorldParts) → progress_of w begin k ≡ p → p.world ≡ v → IsReady v → end_of p ≡ None → a ≡ next_event p → HasItsWord (record { ask = a; word = word }) → is_report judged ≡ is_report_place (setting_of p.world) p.trace a → is_suppressed judged ≡ is_suppressed_place (setting_of p.world) p.trace a → MakesEvent v a word judged k n → IsUnderWay w begin n
  make_told a word judged n = unified (λ p v. IsReady v → end_of p ≡ None → a ≡ next_event p → HasItsWord (record { ask = a; word = word }) → is_report judged ≡ is_report_place (setting_of p.world) p.trace a → is_suppressed judged ≡ is_suppressed_place (setting_of p.world) p.trace a → MakesEvent v a word judged k n → IsUnderWay w begin n)
      (λ ready going e. subst (λ x. HasItsWord (record { ask = x; word = word }) → is_report judged ≡ is_report_place (setting_of w) k.trace x → is_suppressed judged ≡ is_suppressed_place (setting_of w) k.trace x → MakesEvent w x word judged k n → IsUnderWay w begin n) (sym e)
      (λ heard report suppressed m. stays_here w begin k ready h going word judged n heard report suppressed m))

  pub turned_told : (a : Ask) (word : ℕ) (trace : List Made) (result : Turned) (p : Progress) (v : WorldParts) → progress_of w begin k ≡ p → p.world ≡ v → IsReady v → end_of p ≡ None → trace ≡ record { ask = a; word = word } ∷ k.trace → result ≡ machine_turned v.code k.machine word → is_failed result ≡ is_last_a_try w begin trace
  turned_told a word trace result = unified (λ p v. IsReady v → end_of p ≡ None → trace ≡ record { ask = a; word = word } ∷ k.trace → result ≡ machine_turned v.code k.machine word → is_failed result ≡ is_last_a_try w begin trace)
      (λ ready going e t.
      ap is_failed (t ∙ ap (λ m. machine_turned w.code m word) (machine_here w begin k ready h going) ∙ tried_along (setting_of w) w.code ready.can.behaves begin k.trace word)
      ∙ ap (is_last_a_try w begin) (sym e))

  after_try : (b : Bool) (c : Program) (t : Machine) → is_creation (machine_next c t) ≡ false → is_creation (machine_next c (if b then machine_cut t else t)) ≡ false
  after_try true c t e = refl
  after_try false c t e = e

  failed_is : (t : Turned) → is_failed t ≡ true → t ≡ FailedTry
  failed_is FailedTry e = refl
  failed_is Went e = cc

  pub tried_told : (a : Ask) (word : ℕ) (trace : List Made) (result : Turned) (p : Progress) (v : WorldParts) → progress_of w begin k ≡ p → p.world ≡ v → IsReady v → end_of p ≡ None → trace ≡ record { ask = a; word = word } ∷ k.trace → result ≡ machine_turned v.code k.machine word → is_failed result ≡ true → is_creation (next_after (setting_of w) begin trace) ≡ false
  tried_told a word trace result = unified (λ p v. IsReady v → end_of p ≡ None → trace ≡ record { ask = a; word = word } ∷ k.trace → result ≡ machine_turned v.code k.machine word → is_failed result ≡ true → is_creation (next_after (setting_of w) begin trace) ≡ false)
      (λ ready going e t failed.
      let try : machine_turned w.code k.machine word ≡ FailedTry = sym t ∙ failed_is result failed in
      let parted : is_creation (machine_next w.code (machine_after w.code k.machine word)) ≡ false = tried_next w.code ready.code k.machine word (subst (All IsStep) h.called h.steps) try in
      let here : is_creation (machine_next w.code (machine_after w.code (machine_after_trace (setting_of w) w.code begin k.trace) word)) ≡ false =
      subst (λ m. is_creation (machine_next w.code (machine_after w.code m word)) ≡ false) (machine_here w begin k ready h going) parted in
      let more : List Made = record { ask = a; word = word } ∷ k.trace in
      let cut : is_creation (machine_next w.code (machine_after_trace (setting_of w) w.code begin more)) ≡ false =
      after_try (is_cut (setting_of w) k.trace a) w.code (machine_after w.code (machine_after_trace (setting_of w) w.code begin k.trace) word) here in
      subst (λ x. is_creation (next_after (setting_of w) begin x) ≡ false) (sym e)
      (subst (λ x. is_creation x ≡ false) (next_along (setting_of w) w.code ready.can.behaves begin more) cut))
