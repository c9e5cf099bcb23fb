-- What is so of all lists together, once every pass has been joined. This project's own.
use Rattle.std.specs.Prelude.{◌≡◌, ◌<◌, ◌^◌, ◌+◌, ℕ, Ok, Err, List, [], ◌∷◌, ◌++◌, Contains, length}
use Rattle.context_set.specs.declared.node.Node.{Node}
use Rattle.context_set.specs.declared.node.CtxFull.{CtxFull}
use Rattle.context_set.specs.Paths.{Path}
use Rattle.context_set.specs.Held.{Entry, Count, Known, Held, Gives, others_of, all_entered, all_counted, times, firsts}

-- the path was entered and got the node; it was entered and refused
abbrev pub HasNode : Held → Path → Node → Type 0
HasNode h p node = Contains (all_entered h) record { path = p; answer = Ok node }

abbrev pub IsRefused : Held → Path → Type 0
IsRefused h p = (full : CtxFull) × Contains (all_entered h) record { path = p; answer = Err full }

-- no path stands twice
abbrev pub Apart : List Path → Type 0
Apart [] = Unit {0}
Apart (p ∷ ps) = (Contains ps p → ⊥) × Apart ps

-- paths that were entered, one more than there are slots
pub record TooMany (slots : ℕ) (h : Held) : Type 0 where
  pub paths : List Path
  pub apart : Apart paths
  pub entered : (p : Path) → Contains paths p → (e : Entry) × Contains (all_entered h) e × (e.path ≡ p)
  pub more : length paths ≡ slots + 1

-- one_first: while the counts are few enough for their words, each path that was counted was counted as the first once.
-- same_node, same_path: a path has one node, and a node one path. apart: no path that was refused has a node.
-- full: a refusal means that the paths which were entered are more than the slots.
-- filled: before a path was refused to this pass itself, each node had been given: to it earlier, or to a pass that it joined.
pub record IsSound (slots : ℕ) (h : Held) : Type 0 where
  pub one_first : length (all_counted h) < 2 ^ 64 → (p : Path) → 0 < times p (all_counted h) → firsts p (all_counted h) ≡ 1
  pub counted : (c : Count) → Contains (all_counted h) c → (node : Node) × HasNode h c.path node
  pub known : (k : Known) → Contains h.known k → HasNode h k.path k.node
  pub within : (p : Path) (node : Node) → HasNode h p node → node.number < slots
  pub same_node : (p : Path) (a b : Node) → HasNode h p a → HasNode h p b → a ≡ b
  pub same_path : (p q : Path) (node : Node) → HasNode h p node → HasNode h q node → p ≡ q
  pub apart : (p : Path) (node : Node) → HasNode h p node → IsRefused h p → ⊥
  pub full : (p : Path) → IsRefused h p → TooMany slots h
  pub filled : (before after : List Entry) (p : Path) (full : CtxFull) → h.entered ≡ before ++ record { path = p; answer = Err full } ∷ after
      → (i : ℕ) → i < slots → Gives (before ++ others_of h) i
