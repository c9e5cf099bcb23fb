-- What a pass means: what it entered and counted, the nodes that it knows, and the passes that it made and that were joined into it.
use Rattle.std.specs.Prelude.{◌≡◌, ◌==◌, ◌&&◌, ℕ, Bool, true, false, if◌then◌else◌, Option, Some, None, Result, Ok, Err, List, [], ◌∷◌, ◌++◌, Contains, flat_map, count_by}
use Rattle.ctx_set.specs.declared.steps.StackStep.{StackStep}
use Rattle.context_set.specs.declared.node.Node.{Node}
use Rattle.context_set.specs.declared.node.CtxFull.{CtxFull}
use Rattle.context_set.specs.declared.node.Counted.{Counted}
use Rattle.context_set.specs.declared.node.Counted.TheVariants.{First, Again}
use Rattle.context_set.specs.Paths.{Path, same_path}

-- a path was entered, with this answer
pub record Entry : Type 0 where
  pub path : Path
  pub answer : Result Node CtxFull

-- the node of this number was given to a path
abbrev pub Gives : List Entry → ℕ → Type 0
Gives entries i = (p : Path) × Contains entries record { path = p; answer = Ok record { number = i } }

-- a path was counted, with this answer
pub record Count : Type 0 where
  pub path : Path
  pub answer : Counted

-- a node is known to be that of a path
pub record Known : Type 0 where
  pub node : Node
  pub path : Path

-- a pass was joined: its number and its own lists
pub record Joined : Type 0 where
  pub number : ℕ
  pub entered : List Entry
  pub counted : List Count

-- made: the numbers of the passes that were split from this one and from those that were joined into it
pub record Held : Type 0 where
  pub number : ℕ
  pub entered : List Entry
  pub counted : List Count
  pub known : List Known
  pub made : List ℕ
  pub joined : List Joined

-- a new pass
abbrev pub born : ℕ → List Known → Held
born n known = record { number = n; entered = []; counted = []; known = known; made = []; joined = [] }

-- the path has this answer, and where it has a node, the node is known
abbrev pub enters : Held → Path → Result Node CtxFull → Held
enters h p (Ok node) = record h { entered = h.entered ++ record { path = p; answer = Ok node } ∷ []; known = h.known ++ record { node = node; path = p } ∷ [] }
enters h p (Err full) = record h { entered = h.entered ++ record { path = p; answer = Err full } ∷ [] }

abbrev pub counts : Held → Path → Counted → Held
counts h p answer = record h { counted = h.counted ++ record { path = p; answer = answer } ∷ [] }

abbrev pub makes : Held → ℕ → Held
makes h n = record h { made = h.made ++ n ∷ [] }

abbrev pub lists_of : Held → Joined
lists_of h = record { number = h.number; entered = h.entered; counted = h.counted }

abbrev pub joins : Held → Held → Held
joins h other = record h { known = h.known ++ other.known; made = h.made ++ other.made; joined = h.joined ++ lists_of other ∷ other.joined }

-- the pass knows the node
abbrev pub KnowsNode : Held → Node → Type 0
KnowsNode h node = (k : Known) × Contains h.known k × (k.node ≡ node)

-- the parent, if there is one, is a node that the pass knows
abbrev pub KnowsParent : Held → Option Node → Type 0
KnowsParent h None = Unit {0}
KnowsParent h (Some node) = KnowsNode h node

-- the path of a node that is known
abbrev pub path_of : List Known → Node → Path
path_of [] node = []
path_of (k ∷ ks) node = if k.node.number == node.number then k.path else path_of ks node

-- a node is known as that of one path
abbrev pub HasOnePath : List Known → Type 0
HasOnePath known = (a b : Known) → Contains known a → Contains known b → a.node.number ≡ b.node.number → a.path ≡ b.path

-- the path of a step under a node, or of an outermost one
abbrev pub path_to : List Known → Option Node → StackStep → Path
path_to known None step = step ∷ []
path_to known (Some parent) step = path_of known parent ++ step ∷ []

-- what the passes joined into it entered
abbrev pub others_of : Held → List Entry
others_of h = flat_map (λ (j : Joined). j.entered) h.joined

-- all lists that the pass holds: its own and those of the passes joined into it
abbrev pub all_entered : Held → List Entry
all_entered h = h.entered ++ flat_map (λ (j : Joined). j.entered) h.joined

abbrev pub all_counted : Held → List Count
all_counted h = h.counted ++ flat_map (λ (j : Joined). j.counted) h.joined

abbrev pub is_first : Counted → Bool
is_first First = true
is_first Again = false

-- how often the path was counted, and how often as the first
abbrev pub times : Path → List Count → ℕ
times p cs = count_by (λ (c : Count). same_path c.path p) cs

abbrev pub firsts : Path → List Count → ℕ
firsts p cs = count_by (λ (c : Count). same_path c.path p && is_first c.answer) cs

-- The pass has joined all that it made, and is owed to none. Every pass but the first, which has number 0, was made by a
-- split, and its number stands among the made ones of one pass alone; so one that is owed to none is the first.
pub record IsWhole (h : Held) : Type 0 where
  pub first : h.number ≡ 0
  pub joined_all : (n : ℕ) → Contains h.made n → (j : Joined) × Contains h.joined j × (j.number ≡ n)
