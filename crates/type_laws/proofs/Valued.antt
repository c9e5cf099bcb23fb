-- What words hold at first, by the tables: numbers, objects of static storage, and functions.
use Rattle.std.proofs.Common.{◌≡◌, ℕ, zero, suc, ◌<◌, ◌^◌, ◌+◌, Bool, true, false, refl, List, [], ◌∷◌, slice_get, Some, arith}
use Rattle.std.specs.Prelude.{nat_eq, if◌then◌else◌}
use Rattle.core_unit.specs.Typed.{Tables, IsObject}
use Rattle.core_unit.specs.declared.tables.FunctionInfo.{FunctionInfo}
use Rattle.core_unit.specs.declared.words.Word.{Word}
use Rattle.core_unit.specs.declared.words.Word.TheVariants as word
use Rattle.type_rules.specs.Literals.{text_initially}
use Rattle.type_rules.specs.declared.notes.Initial.{Initial}
use Rattle.type_laws.proofs.Each.{Each}

-- the number 0, or another one in range
abbrev pub IsNumeral : Word → Type 0
IsNumeral word.Zero = Unit {0}
IsNumeral (word.Number bits) = (0 < bits) × (bits < 2 ^ 32)
IsNumeral _ = ⊥

abbrev pub IsValue : Tables → Word → Type 0
IsValue u (word.DataPointer address) = (words : ℕ) × IsObject u.statics address words
IsValue u (word.FunctionPointer number level) = (info : FunctionInfo) × (slice_get u.functions number ≡ Some info)
IsValue u value = IsNumeral value

abbrev pub Valued : Tables → List Initial → Type 0
Valued u values = Each (λ i. IsValue u i.word) values

pub positive : (b : ℕ) → nat_eq b 0 ≡ false → 0 < b
positive zero e = absurd (cc)
positive (suc b) e = omega arith

-- the words of a text
pub text_valued : (u : Tables) (at : ℕ) (bytes : List ℕ) → Each (λ byte. byte < 256) bytes → Valued u (text_initially at bytes)
unfolding text_initially
text_valued u at [] each = tt
text_valued u at (byte ∷ bytes) each = of (nat_eq byte 0) refl (text_initially (at + 1) bytes) (text_valued u (at + 1) bytes each.1)
  where
    of : (test : Bool) → nat_eq byte 0 ≡ test → (values : List Initial) → Valued u values
        → Valued u (if test then values else record { at = at; word = word.Number byte } ∷ values)
    of true e values rest = rest
    of false e values rest = let some = positive byte e in let small = each.0 in ((some, omega (arith, small)), rest)
