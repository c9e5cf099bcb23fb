-- What passes to the set and to the board say of each other: a report enters the prefixes of its stack, the shortest first, and counts the last.
use Rattle.std.specs.Prelude.{◌≡◌, ◌⊎◌, ◌<◌, ◌≤◌, ℕ, true, false, Option, Some, None, Ok, Err, List, [], ◌∷◌, ◌++◌, Contains, length, map, flat_map}
use Rattle.atomic_table.specs.Seated.{TableId}
use Rattle.ctx_set.specs.declared.steps.StackStep.{StackStep}
use Rattle.context_set.specs.declared.node.Node.{Node}
use Rattle.context_set.specs.declared.node.CtxFull.{CtxFull}
use Rattle.context_set.specs.declared.node.Counted.TheVariants as counts
use Rattle.context_set.specs.declared.table.CtxPass.{CtxPass}
use Rattle.context_set.specs.Paths.{Path}
use Rattle.context_set.specs.Held.{Entry, Count, KnowsNode, path_of}
use Rattle.context_set.specs.Held as contexts
use Rattle.context_set.specs.Passes.{held_of, IsPassOf}
use Rattle.reports.specs.declared.board.Noted.{Noted}
use Rattle.reports.specs.declared.board.Noted.TheVariants.{First, Again, Full}
use Rattle.reports.specs.Counts.{is_counted, AreFair}
use Rattle.reports.specs.Passes.{Report, Held, BoardPlace, IsWhole, all_reports}
use Rattle.reports.specs.Passes as boards
use Rattle.reports.specs.Prefixes.{prefixes, asked, room}

-- how a report is counted in the set
abbrev pub counts_of : List StackStep → Noted → List Count
counts_of stack First = record { path = stack; answer = counts.First } ∷ []
counts_of stack Again = record { path = stack; answer = counts.Again } ∷ []
counts_of stack Full = []

abbrev pub all_counts : List Report → List Count
all_counts reports = flat_map (λ (r : Report). counts_of r.stack r.answer) reports

abbrev pub paths_of : List Entry → List Path
paths_of entries = map (λ (e : Entry). e.path) entries

-- each of these entries got a node
abbrev pub AreGiven : List Entry → Type 0
AreGiven entries = (e : Entry) → Contains entries e → (node : Node) × (e.answer ≡ Ok node)

-- What was entered and counted is what these reports enter and count: where a stack was counted, all of its prefixes got nodes, and where
-- it was not, one of them was refused.
pub record AreEntered (entered : List Entry) (counted : List Count) (reports : List Report) : Type 0 where
  pub counts : counted ≡ all_counts reports
  pub paths : (e : Entry) → Contains entered e → Contains (asked reports) e.path
  pub short : (e : Entry) → Contains entered e → length e.path ≤ 257
  pub given : (r : Report) → Contains reports r → is_counted r.answer ≡ true → (p : Path) → Contains (prefixes r.stack) p
      → (node : Node) × Contains entered record { path = p; answer = Ok node }
  pub refused : (r : Report) → Contains reports r → is_counted r.answer ≡ false
      → (p : Path) × (full : CtxFull) × Contains (prefixes r.stack) p × Contains entered record { path = p; answer = Err full }

-- behind the entries in front a path was refused
pub record IsCut (entered front : List Entry) : Type 0 where
  pub path : Path
  pub full : CtxFull
  pub behind : List Entry
  pub is : entered ≡ front ++ record { path = path; answer = Err full } ∷ behind

-- Up to the first refusal the paths were entered in the order in which they were asked.
pub record AreInOrder (entered : List Entry) (reports : List Report) : Type 0 where
  pub front : List Entry
  pub rest : List Path
  pub given : AreGiven front
  pub paths : paths_of front ++ rest ≡ asked reports
  pub ends : ((entered ≡ front) × (rest ≡ [])) ⊎ IsCut entered front

abbrev pub AreJoined : List contexts.Joined → List boards.Joined → Type 0
AreJoined [] [] = Unit {0}
AreJoined [] (b ∷ bs) = ⊥
AreJoined (c ∷ cs) [] = ⊥
AreJoined (c ∷ cs) (b ∷ bs) = (b.number ≡ c.number) × AreEntered c.entered c.counted b.reports × AreJoined cs bs

-- a pass to the set and a pass to the board
pub record IsMirror (c : contexts.Held) (h : Held) : Type 0 where
  pub number : h.number ≡ c.number
  pub made : h.made ≡ c.made
  pub later : (n : ℕ) → Contains h.made n → 0 < n
  pub own : AreEntered c.entered c.counted h.own
  pub order : AreInOrder c.entered h.own
  pub joined : AreJoined c.joined h.joined

-- the pass has entered these more, and is the same otherwise, but for the nodes that it knows
pub record Enters (old new : contexts.Held) (walk : List Entry) : Type 0 where
  pub number : new.number ≡ old.number
  pub entered : new.entered ≡ old.entered ++ walk
  pub counted : new.counted ≡ old.counted
  pub made : new.made ≡ old.made
  pub joined : new.joined ≡ old.joined

-- each prefix of the stack got a node
pub record GoesThrough (walk : List Entry) (stack : List StackStep) : Type 0 where
  pub given : AreGiven walk
  pub paths : paths_of walk ≡ prefixes stack

-- a prefix of the stack was refused, and those before it got nodes
pub record Stops (walk : List Entry) (stack : List StackStep) : Type 0 where
  pub front : List Entry
  pub path : Path
  pub full : CtxFull
  pub rest : List Path
  pub is : walk ≡ front ++ record { path = path; answer = Err full } ∷ []
  pub given : AreGiven front
  pub paths : paths_of front ++ path ∷ rest ≡ prefixes stack

abbrev pub IsWalk : List Entry → List StackStep → Noted → Type 0
IsWalk walk stack First = GoesThrough walk stack
IsWalk walk stack Again = GoesThrough walk stack
IsWalk walk stack Full = Stops walk stack

-- where a walk stands: at the start, or at the node of the steps that it went over
abbrev pub IsAt : contexts.Held → List StackStep → Option Node → Type 0
IsAt h steps None = steps ≡ []
IsAt h steps (Some node) = KnowsNode h node × (path_of h.known node ≡ steps)

pub record IsWalking (old now : contexts.Held) (steps : List StackStep) (at : Option Node) : Type 0 where
  pub walk : List Entry
  pub enters : Enters old now walk
  pub through : GoesThrough walk steps
  pub here : IsAt now steps at

pub record HasStopped (old new : contexts.Held) (stack : List StackStep) : Type 0 where
  pub walk : List Entry
  pub enters : Enters old new walk
  pub stops : Stops walk stack

-- what a report does to the pass to the set
pub record IsNoted (old new : contexts.Held) (stack : List StackStep) (answer : Noted) : Type 0 where
  pub walk : List Entry
  pub is : IsWalk walk stack answer
  pub number : new.number ≡ old.number
  pub entered : new.entered ≡ old.entered ++ walk
  pub counted : new.counted ≡ old.counted ++ counts_of stack answer
  pub made : new.made ≡ old.made
  pub joined : new.joined ≡ old.joined

-- a pass to the board at this place, with its pass to the set
pub record IsBoardPass (at : BoardPlace) (c : CtxPass) (h : Held) : Type 0 where
  pub table : TableId
  pub tables : at.tables ≡ table ∷ []
  pub pass : IsPassOf record { table = table; slots = room } c
  pub mirror : IsMirror (held_of c) h
  pub tells : IsWhole h → AreFair (all_reports h)
