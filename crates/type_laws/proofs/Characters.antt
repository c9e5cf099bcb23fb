-- Character constants are `int`s in range.
use Rattle.std.proofs.Common.{◌≡◌, ℕ, ◌<◌, ◌≤◌, ◌-◌, Bool, true, false, refl, List, [], ◌∷◌, drop, Option, Some, None, arith}
use Rattle.std.specs.Prelude.{◌==◌, ◌||◌, nat_le, unwrap_or, if◌then◌else◌}
use Rattle.std.proofs.lemmas.Bool.{leb-true}
use Rattle.c_text.specs.Bytes.{is_octal_digit}
use Rattle.c_text.specs.Escapes.{simple_value, escape_digits, escape_value, character_after, character_value}
use Rattle.c_text.specs.Forms.{is_empty}
use Rattle.c_text.specs.Numbers.{value_in, value_within}
use Rattle.c_tree.specs.declared.words.Span.{Span}
use Rattle.eff_types.specs.declared.types.CType.{Int}
use Rattle.core_unit.proofs.Equations.{type_of-Number}
use Rattle.core_unit.specs.declared.expressions.Expr.TheVariants as expr
use Rattle.core_unit.specs.declared.operators.Sign.TheVariants.{Signed}
use Rattle.type_rules.specs.Literals.{character_in}
use Rattle.type_rules.specs.Operands.{found_value}
use Rattle.type_rules.specs.Primaries.{character}
use Rattle.type_rules.specs.Reading.{text_of}
use Rattle.type_laws.proofs.Each.{Each, each_taken, each_dropped}
use Rattle.type_laws.proofs.Naming.{typed_as}
use Rattle.type_laws.proofs.Operands.{IsFound, IsTypedFound}
use Rattle.type_laws.proofs.Operations.{formed_number}
use Rattle.type_laws.proofs.Triples.{Keeps, Always, gives_keeps}
use Rattle.type_laws.proofs.Typed as typed

abbrev pub IsByte : ℕ → Type 0
IsByte byte = byte < 256

abbrev pub IsByteValue : Option ℕ → Type 0
IsByteValue (Some v) = v < 256
IsByteValue None = Unit {0}

within_byte : (v : ℕ) → IsByteValue (value_within 255 (Some v))
within_byte v = of (nat_le v 255) refl
  where
    of : (test : Bool) → nat_le v 255 ≡ test → IsByteValue (if test then Some v else None)
    of true e = let fits : v ≤ 255 = leb-true v 255 e in omega arith
    of false e = tt

one_of : (test : Bool) (v : ℕ) (rest : Option ℕ) → v < 256 → IsByteValue rest → IsByteValue (if test then Some v else rest)
one_of true v rest byte others = byte
one_of false v rest byte others = others

simple_byte : (c : ℕ) → c < 256 → IsByteValue (simple_value c)
simple_byte c byte =
    one_of (c == 110) 10 _ (omega arith)
    (one_of (c == 116) 9 _ (omega arith)
    (one_of (c == 114) 13 _ (omega arith)
    (one_of (c == 97) 7 _ (omega arith)
    (one_of (c == 98) 8 _ (omega arith)
    (one_of (c == 102) 12 _ (omega arith)
    (one_of (c == 118) 11 _ (omega arith)
    (one_of ((c == 92) || (c == 39) || (c == 34) || (c == 63)) c None byte tt)))))))

hex_byte : (empty : Bool) (v : ℕ) → IsByteValue (if empty then None else value_within 255 (Some v))
hex_byte true v = tt
hex_byte false v = within_byte v

either : (test : Bool) (a b : Option ℕ) → IsByteValue a → IsByteValue b → IsByteValue (if test then a else b)
either true a b p q = p
either false a b p q = q

pub escape_byte : (rest : List ℕ) → Each IsByte rest → IsByteValue (escape_value rest)
escape_byte [] each = tt
escape_byte (c ∷ rest) each =
    either (is_octal_digit c) _ _ (within_byte (value_in 8 (c ∷ escape_digits c rest)))
    (either (c == 120) _ _ (hex_byte (is_empty (escape_digits c rest)) (value_in 16 (escape_digits c rest))) (simple_byte c each.0))

pub value_byte : (v : Option ℕ) → IsByteValue v → unwrap_or v 0 < 256
value_byte (Some v) byte = byte
value_byte None byte = omega arith

after_byte : (rest : List ℕ) → Each IsByte rest → character_after rest < 256
after_byte [] each = omega arith
after_byte (b ∷ rest) each = of (b == 92)
  where
    of : (test : Bool) → (if test then unwrap_or (escape_value rest) 0 else b) < 256
    of true = value_byte (escape_value rest) (escape_byte rest each.1)
    of false = each.0

character_byte : (word : List ℕ) → Each IsByte word → character_value word < 256
character_byte [] each = omega arith
character_byte (quote ∷ rest) each = after_byte rest each.1

pub character_keeps : (called : Bool) (at : Span) → Keeps Always IsFound (IsTypedFound called) (character at)
unfolding character character_in
character_keeps called at s lawful =
    let value = character_value (text_of s.source at) in
    let word = each_taken IsByte (at.end - at.start) (drop at.start s.source) (each_dropped IsByte at.start s.source lawful.bytes) in
    let byte = character_byte (text_of s.source at) word in
    gives_keeps s (found_value at.start Int (expr.Number Signed value)) lawful (formed_number s Signed, (type_of-Number Signed value, refl)) (λ u leads knows p.
    typed_as called u (expr.Number Signed value) (typed.typed-Number u Signed value (omega arith)))
