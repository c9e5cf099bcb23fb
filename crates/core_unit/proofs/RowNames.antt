-- The names of the rows.
use Rattle.std.proofs.lemmas.List.{length-map}
use Rattle.std.proofs.Common.{◌≡◌, ℕ, zero, suc, ◌-◌, ◌<◌, ◌≤◌, false, nat_lt, if◌then◌else◌, sym, ap, ◌∙◌, List, [], ◌∷◌, map, length, slice_get, get_or, Option, Some, refl, arith}
use Rattle.std.specs.Option.{option_map}
use Rattle.core_unit.specs.Library.{rows, seen}
use Rattle.core_unit.specs.declared.rows.LibRow.{LibRow}

pub name_at : (xs : List LibRow) (i : ℕ) (other : LibRow) → i < length xs → option_map (λ r. r.name) (slice_get (map seen xs) i) ≡ Some (get_or xs i other).name.now
name_at [] i other h = let clash : ⊥ = omega arith in absurd clash
name_at (x ∷ xs) zero other h = refl
name_at (x ∷ xs) (suc i) other h = name_at xs i other (omega arith)

pub row_name : (function : Option (List ℕ)) (xs : List LibRow) (target : ℕ) (other : LibRow) → map seen xs ≡ rows → 4096 ≤ target → target < 4111 →
    (if nat_lt target 4096 then function else option_map (λ r. r.name) (slice_get rows (target - 4096))) ≡ Some (get_or xs (target - 4096) other).name.now
row_name function xs target other e from below =
    let long : length xs ≡ 15 = sym (length-map xs seen) ∙ ap length e in
    rw (not_below target from, ← e) (name_at xs (target - 4096) other (omega arith))
  where
    not_below : (n : ℕ) → 4096 ≤ n → nat_lt n 4096 ≡ false
    not_below n h = grind arith
