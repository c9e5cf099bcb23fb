-- What a thread does once it has begun depends neither on the name of the entry nor on its arguments.
use Rattle.std.proofs.Common.{◌≡◌, refl, ap, ◌∙◌, ℕ, ◌&&◌, if◌then◌else◌, List, [], ◌∷◌}
use Rattle.std.specs.Prelude.{ℤ}
use Rattle.mcode.specs.declared.events.Ask.{Ask}
use Rattle.mcode.specs.declared.events.Ask.TheVariants.{Load, Store, Exchange, FetchAdd, FetchSub, Enter, Leave, Reach, Create, Out, Trap, Over}
use Rattle.src_model.specs.Runs.{Setting, moved, is_report_place, is_cut, report_stacks}
use Rattle.src_model.specs.Traces.{stack_of_event}
use Rattle.src_model.specs.declared.runs.Made.{Made}

-- the setting with this entry and these arguments
abbrev pub named : Setting → (entry : List ℕ) → (arguments : List ℤ) → Setting
named w entry arguments = record { unit = w.unit; entry = entry; arguments = arguments; options = w.options; suppressions = w.suppressions }

pub place_named : (w : Setting) (entry : List ℕ) (arguments : List ℤ) (before : List Made) (a : Ask) → is_report_place (named w entry arguments) before a ≡ is_report_place w before a
place_named w entry arguments before (Reach target site) = refl
place_named w entry arguments before (Load at) = refl
place_named w entry arguments before (Store at word) = refl
place_named w entry arguments before (Exchange at old new) = refl
place_named w entry arguments before (FetchAdd at n) = refl
place_named w entry arguments before (FetchSub at n) = refl
place_named w entry arguments before (Enter function site) = refl
place_named w entry arguments before Leave = refl
place_named w entry arguments before (Create function argument) = refl
place_named w entry arguments before (Out byte) = refl
place_named w entry arguments before (Trap kind) = refl
place_named w entry arguments before (Over finish) = refl

pub moved_named : {S : Type 0} (w : Setting) (entry : List ℕ) (arguments : List ℤ) (go : S → ℕ → S) (halts : S → S) (s : S) (trace : List Made) → moved (named w entry arguments) go halts s trace ≡ moved w go halts s trace
moved_named w entry arguments go halts s [] = refl
moved_named w entry arguments go halts s (made ∷ before) =
    ap (λ b. if w.options.halt_on_error && b then halts (go (moved (named w entry arguments) go halts s before) made.word) else go (moved (named w entry arguments) go halts s before) made.word) (place_named w entry arguments before made.ask)
    ∙ ap (λ t. if is_cut w before made.ask then halts (go t made.word) else go t made.word) (moved_named w entry arguments go halts s before)

pub stacks_named : (w : Setting) (entry : List ℕ) (arguments : List ℤ) (trace : List Made) → report_stacks (named w entry arguments) trace ≡ report_stacks w trace
stacks_named w entry arguments [] = refl
stacks_named w entry arguments (made ∷ before) =
    ap (λ b. if b then stack_of_event before made.ask ∷ report_stacks (named w entry arguments) before else report_stacks (named w entry arguments) before) (place_named w entry arguments before made.ask)
    ∙ ap (λ stacks. if is_report_place w before made.ask then stack_of_event before made.ask ∷ stacks else stacks) (stacks_named w entry arguments before)
