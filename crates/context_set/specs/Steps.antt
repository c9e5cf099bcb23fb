-- How a step changes the view of its seat, and what it tells.
use Rattle.std.specs.Prelude.{◌≡◌, ◌⊎◌, ◌+◌, ◌-◌, ◌<◌, ◌==◌, ℕ, true, false, if◌then◌else◌, Option, Ok, Err, [], Contains}
use Rattle.atomic_table.specs.Table.{Step, Me}
use Rattle.ctx_set.specs.declared.steps.StackStep.{StackStep}
use Rattle.context_set.specs.declared.node.Node.{Node}
use Rattle.context_set.specs.declared.node.Counted.TheVariants.{First, Again}
use Rattle.context_set.specs.declared.view.CtxView.{CtxView}
use Rattle.context_set.specs.Paths.{Path}
use Rattle.context_set.specs.Held.{Known, born, enters, counts, makes, joins, path_of, path_to, HasOnePath, IsWhole}
use Rattle.context_set.specs.Sound.{IsSound}
use Rattle.context_set.specs.Tree.{kid}
use Rattle.context_set.specs.Keys.{number_of, key_of}

-- what a pass at a seat knows of the rule
pub record Tells (v : CtxView) : Type 0 where
  pub sound : IsWhole v.held → IsSound v.slots v.held
  pub known : HasOnePath v.held.known

abbrev pub first_view : ℕ → CtxView
first_view n = record { live = true; held = born 0 []; splits = 0; slots = n; trying = 0; tried = 0 }

-- the slot has the path
abbrev pub found : CtxView → ℕ → Path → CtxView
found v i p = record v { held = enters v.held p (Ok record { number = i }); tried = 0 }

-- one more slot was seen with another key; where it was the last one, the path is refused
abbrev pub missed : CtxView → ℕ → ℕ → Path → CtxView
missed v key tried p =
    if tried + 1 == v.slots
    then record v { held = enters v.held p (Err record {}); tried = 0 }
    else record v { trying = key; tried = tried + 1 }

-- an empty slot tells nothing yet
abbrev pub looked : CtxView → ℕ → ℕ → ℕ → Path → ℕ → CtxView
looked v i key tried p word = if word == 0 then v else if word == key then found v i p else missed v key tried p

-- an empty slot was given the key
abbrev pub put : CtxView → ℕ → ℕ → ℕ → Path → ℕ → CtxView
put v i key tried p word = if word == 0 then found v i p else if word == key then found v i p else missed v key tried p

abbrev pub counted : CtxView → Path → ℕ → CtxView
counted v p word = record v { held = counts v.held p (if word == 0 then First else Again) }

abbrev pub splits : CtxView → CtxView
splits v = record v { held = makes v.held (kid v.held.number v.splits); splits = v.splits + 1 }

abbrev pub split_off : CtxView → CtxView
split_off v = record { live = true; held = born (kid v.held.number v.splits) v.held.known; splits = 0; slots = v.slots; trying = 0; tried = 0 }

abbrev pub takes_in : CtxView → CtxView → CtxView
takes_in v w = record v { held = joins v.held w.held }

abbrev pub spent : CtxView
spent = record { live = false; held = born 0 []; splits = 0; slots = 0; trying = 0; tried = 0 }

-- the path that is looked for
abbrev pub wanted : CtxView → Option Node → StackStep → Path
wanted v parent step = path_to v.held.known parent step

-- so many slots were seen with other keys than this one
abbrev pub IsBefore : CtxView → ℕ → ℕ → Type 0
IsBefore v key tried = (tried ≡ 0) ⊎ ((v.trying ≡ key) × (v.tried ≡ tried))

abbrev pub Looked : Option Node → StackStep → ℕ → Step ℕ → Me ℕ CtxView → ℕ → Me ℕ CtxView → Type 0
Looked parent step tried s me word me' =
    (me' ≡ (looked me.0 s.word (key_of (number_of parent) step) tried (wanted me.0 parent step) word, me.1)) × Tells me'.0

abbrev pub Put : Option Node → StackStep → ℕ → Step ℕ → Me ℕ CtxView → ℕ → Me ℕ CtxView → Type 0
Put parent step tried s me word me' =
    (me' ≡ (put me.0 s.word (key_of (number_of parent) step) tried (wanted me.0 parent step) word, me.1)) × Tells me'.0

-- the count of a node stands behind all keys
abbrev pub Counts : Step ℕ → Me ℕ CtxView → ℕ → Me ℕ CtxView → Type 0
Counts s me word me' = (me' ≡ (counted me.0 (path_of me.0.held.known record { number = s.word - me.0.slots }) word, me.1)) × Tells me'.0

abbrev pub Told : Step ℕ → Me ℕ CtxView → ℕ → Me ℕ CtxView → Type 0
Told s me word me' = (me' ≡ me) × Tells me'.0

-- the seat of a pass to a set with so many slots
pub record IsSeat (n : ℕ) (me : Me ℕ CtxView) : Type 0 where
  pub bare : me.1 ≡ []
  pub lives : me.0.live ≡ true
  pub slots : me.0.slots ≡ n
  pub nodes : (k : Known) → Contains me.0.held.known k → k.node.number < n
  pub tells : Tells me.0
