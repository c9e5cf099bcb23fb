-- The types of the library's functions, as the code makes them.
use Rattle.std.proofs.Common.{◌≡◌, ℕ, zero, suc, ◌<◌, List, [], ◌∷◌, ◌∙◌, sym, ap, map, length, slice_get, get_or, Some, refl, arith}
use Rattle.std.proofs.lemmas.List.{length-map}
use denote.Hole.Carrier.{hidden}
use Rattle.eff_types.specs.declared.types.CType.{CType}
use Rattle.eff_types.specs.declared.types.CType.TheBlock.{hidden-the_row-CType-0, shape-the_row-CType-0}
use Rattle.eff_types.specs.declared.types.CType.TheVariants.{Pointer}
use Rattle.core_unit.specs.Library.{row_types, row_type, signed}
use Rattle.core_unit.specs.Shapes.{pointer_to}
use Rattle.core_unit.specs.declared.signatures.Signature.{Signature}

pub pointer_is : (t : CType) → Pointer t ≡ pointer_to t
unfolding hidden hidden-the_row-CType-0 shape-the_row-CType-0
pointer_is t = refl

signed_at : (xs : List Signature) (i : ℕ) (other : Signature) → i < length xs → slice_get (map signed xs) i ≡ Some (signed (get_or xs i other))
signed_at [] i other h = let clash : ⊥ = omega arith in absurd clash
signed_at (x ∷ xs) zero other h = refl
signed_at (x ∷ xs) (suc i) other h = signed_at xs i other (omega arith)

-- what the signatures say of a row
pub row_is : (xs : List Signature) (row : ℕ) (other : Signature) → map signed xs ≡ row_types → row < 15 → row_type row ≡ Some (signed (get_or xs row other))
unfolding row_type
row_is xs row other e h =
    let long : length xs ≡ 15 = sym (length-map xs signed) ∙ ap length e in
    ap (λ types. slice_get types row) (sym e) ∙ signed_at xs row other (omega arith)
