-- What a refusal says.
use Rattle.std.specs.Prelude.{ℕ, ⊤}
use Rattle.c_text.specs.declared.TextRefusal.{TextRefusal}
use Rattle.c_text.specs.declared.TextRefusal.TheVariants.{Bad, NoMemory}

-- the fact holds of the number and the place of a fault
abbrev pub IfBad : (ℕ → ℕ → Type 0) → TextRefusal → Type 0
IfBad P (Bad number place) = P number place
IfBad P NoMemory = ⊤
