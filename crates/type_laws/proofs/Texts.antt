-- The bytes of a text are bytes.
use Rattle.std.proofs.Common.{ℕ, zero, suc, ◌-◌, Bool, true, false, List, [], ◌∷◌, flat_map}
use Rattle.std.specs.Prelude.{◌==◌, unwrap_or, if◌then◌else◌}
use Rattle.c_text.specs.Escapes.{escape_value, values_after, text_values}
use Rattle.c_text.specs.Forms.{escape_length}
use Rattle.c_tree.specs.declared.words.Span.{Span}
use Rattle.type_rules.specs.Literals.{text_in}
use Rattle.type_rules.specs.Reading.{text_of}
use Rattle.type_laws.proofs.Characters.{IsByte, escape_byte, value_byte}
use Rattle.type_laws.proofs.Each.{Each, each_taken, each_dropped, each_joined}

values_bytes : (skip : ℕ) (rest : List ℕ) → Each IsByte rest → Each IsByte (values_after skip rest)
values_bytes skip [] each = tt
values_bytes zero (b ∷ rest) each = of (b == 34) (b == 92) (values_bytes (unwrap_or (escape_length rest) 0) rest each.1) (values_bytes zero rest each.1)
  where
    of : (quote slash : Bool) → Each IsByte (values_after (unwrap_or (escape_length rest) 0) rest) → Each IsByte (values_after zero rest)
        → Each IsByte (if quote then [] else (if slash then unwrap_or (escape_value rest) 0 ∷ values_after (unwrap_or (escape_length rest) 0) rest else b ∷ values_after zero rest))
    of true slash p q = tt
    of false true p q = (value_byte (escape_value rest) (escape_byte rest each.1), p)
    of false false p q = (each.0, q)
values_bytes (suc k) (b ∷ rest) each = values_bytes k rest each.1

pub text_bytes : (source : List ℕ) (strings : List Span) → Each IsByte source → Each IsByte (text_in source strings)
unfolding text_in
text_bytes source strings each = all strings
  where
    all : (strings : List Span) → Each IsByte (flat_map (λ at. text_values (text_of source at)) strings)
    all [] = tt
    all (at ∷ rest) =
        each_joined IsByte (text_values (text_of source at)) _
        (values_bytes 1 (text_of source at) (each_taken IsByte (at.end - at.start) _ (each_dropped IsByte at.start source each))) (all rest)
