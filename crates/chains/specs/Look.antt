-- What stands at each place of each body.
use Rattle.std.specs.Prelude.{ℕ, ◌<◌, List, [], All, slice_index_or}
use Rattle.chains.specs.declared.marks.Mark.{Mark}
use Rattle.chains.specs.declared.marks.Mark.TheVariants.{Passes, Violates, StepsTo}

-- the mark at a place of a function's body, by the number of the function and the index of the place; what is past the
-- end of a body, or of the functions, passes
abbrev pub look : List (List Mark) → ℕ → ℕ → Mark
look rows f i = slice_index_or (slice_index_or rows f []) i Passes

-- the function that a step goes to
abbrev pub target : Mark → ℕ
target Passes = 0
target Violates = 0
target (StepsTo g) = g

-- a step goes to a function below n
abbrev pub IsCallBelow : ℕ → Mark → Type 0
IsCallBelow n Passes = Unit {0}
IsCallBelow n Violates = Unit {0}
IsCallBelow n (StepsTo g) = g < n

-- each step of each row goes to a function below n
abbrev pub CallsBelow : ℕ → List (List Mark) → Type 0
CallsBelow n rows = All (All (IsCallBelow n)) rows
