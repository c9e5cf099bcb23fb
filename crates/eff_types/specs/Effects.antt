-- What a function's declarations say of it: the level that is asked for, and the two flags that forbid inferring one.
use Rattle.std.specs.Prelude.{ℕ, Bool, false, ◌||◌, if◌then◌else◌, nat_lt, List, [], ◌∷◌, map, Result, Ok, Err, Option, Some, None}
use Rattle.std.specs.List.{list_any}
use Rattle.eff_types.specs.declared.levels.Level.{Level}
use Rattle.eff_types.specs.declared.levels.Level.TheVariants.{Plain, NonAllocating, NonBlocking}
use Rattle.eff_types.specs.declared.levels.Effects.{Effects}
use Rattle.eff_types.specs.declared.levels.Conflict.{Conflict}

-- The levels in their order: each promises all that those before it promise (Clang's manual 'Function Effect Analysis').
abbrev pub rank : Level → ℕ
rank Plain = 0
rank NonAllocating = 1
rank NonBlocking = 2

abbrev pub is_below : Level → Level → Bool
is_below a b = nat_lt (rank a) (rank b)

abbrev pub greater : Level → Level → Level
greater a b = if is_below a b then b else a

abbrev pub lesser : Level → Level → Level
lesser a b = if is_below b a then b else a

-- the greatest of the levels, and Plain where there are none
abbrev pub greatest : List Level → Level
greatest [] = Plain
greatest (l ∷ ls) = greater l (greatest ls)

-- no level, and no flag
abbrev pub plain : Effects
plain = record { level = Plain; no_block_inference = false; no_alloc_inference = false }

-- The effects of a function are the union over its declarations: the greatest level, and each flag that any of them sets.
unfoldable pub union : List Effects → Effects
union declarations = record {
  level = greatest (map (λ d. d.level) declarations);
  no_block_inference = list_any (λ d. d.no_block_inference) declarations;
  no_alloc_inference = list_any (λ d. d.no_alloc_inference) declarations;
}

-- Flags forbid inferring a level: either flag forbids NonBlocking, and `allocating` alone forbids NonAllocating.
abbrev pub forbids : Effects → Level → Bool
forbids e Plain = false
forbids e NonAllocating = e.no_alloc_inference
forbids e NonBlocking = e.no_block_inference || e.no_alloc_inference

-- Declarations conflict where the flags of one forbid the level that one of them asks for: `nonblocking` with `blocking` or
-- `allocating`, and `nonallocating` with `allocating`. `nonallocating` with `blocking` is allowed.
unfoldable pub conflict : List Effects → Bool
conflict declarations = list_any (λ d. list_any (λ e. forbids e d.level) declarations) declarations

-- the union of two
abbrev pub joined : Effects → Effects → Effects
joined a b = union (a ∷ b ∷ [])

-- what all the declarations of one function come to: their union, unless they conflict
unfoldable pub effects_of : List Effects → Result Effects Conflict
effects_of declarations = if conflict declarations then Err (record {}) else Ok (union declarations)

-- the same of two
unfoldable pub merged : Effects → Effects → Result Effects Conflict
merged a b = effects_of (a ∷ b ∷ [])

-- the level that a conversion adds: the target's, where it is above the source's
unfoldable pub added : Effects → Effects → Option Level
added from to = if is_below from.level to.level then Some to.level else None

-- what a call through either of two function pointers is known to keep: the lesser level, and no flags
unfoldable pub shared : Effects → Effects → Effects
shared a b = record { level = lesser a.level b.level; no_block_inference = false; no_alloc_inference = false }
