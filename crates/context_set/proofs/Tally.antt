-- The rows of a closed table are what a whole pass is owed.
use Rattle.std.proofs.Common.{◌≡◌, ◌≤◌, ◌<◌, ◌+◌, ◌%◌, ◌^◌, ℕ, zero, suc, true, Some, None, Result, Ok, Err, IfOk, List, [], ◌∷◌, ◌++◌, length, map, reverse, slice_index, Contains, refl, sym, ap, ◌∙◌, subst, ⊎_elim, mod-eq_of_lt, arith}
use Rattle.std.proofs.lemmas.List.{reverse-reverse, map_push}
use Rattle.std.proofs.lemmas.List.Elements.{Contains-push, Contains-push_cases, Contains-append_left}
use Rattle.std.proofs.lemmas.Bool.{cases_eq}
use mathlib.Core.Option.{some}
use lib.ListN.{get_elem?}
use Rattle.atomic_table.specs.Table.{Final, Seen}
use Rattle.context_set.specs.declared.count.PathCount.{PathCount}
use Rattle.context_set.specs.declared.view.CtxView.{CtxView}
use Rattle.context_set.specs.Paths.{Path}
use Rattle.context_set.specs.Held.{all_counted, times, IsWhole}
use Rattle.context_set.specs.Sound.{HasNode, Apart}
use Rattle.context_set.specs.Rule.{Slots, HasPath, IsSet, IsKept}
use Rattle.context_set.specs.Closed.{IsTally, Rows, none, skip, more, IsRow, HasClimbs}
use Rattle.context_set.proofs.Ways.{one_slot}
use Rattle.context_set.proofs.Wholes.{has_entered, whole_total, node_path}
use Rattle.context_set.proofs.Lists.{times-le-length}
use Rattle.context_set.proofs.Climbing.{short_climb, climb_path}

paths_of : List PathCount → List Path
paths_of xs = map (λ (x : PathCount). x.path) xs

Apart-push : (ps : List Path) (p : Path) → Apart ps → (Contains ps p → ⊥) → Apart (ps ++ p ∷ [])
Apart-push [] p apart new = ((λ in_none. omega (arith, in_none.1)), tt)
Apart-push (q ∷ ps) p (first, rest) new = (
  (λ there.
      ⊎_elim
      (λ (before : Contains ps q). first before)
      (λ (same : p ≡ q). new (0, omega arith, sym same))
      (Contains-push_cases ps p q there)),
  Apart-push ps p rest (λ there. new (suc there.0, omega (arith, there.1), there.2)),
)

module _ (n : ℕ) (most : n ≤ 65536) (r : ℕ → ℕ) (path : ℕ → Path) (slots : Slots n r path) where
  -- each row is that of a slot below k
  row_slot : (k : ℕ) (xs : List PathCount) → Rows n r k xs → k ≤ n → (x : PathCount) → Contains xs x → (i : ℕ) × (i < k) × HasPath n r path i x.path × (x.count ≡ r (n + i))
  row_slot zero xs none few x there = absurd (omega (arith, there.1))
  row_slot (suc k) xs (skip rows empty) few x there = let old = row_slot k xs rows (omega arith) x there in (old.0, omega (arith, old.1), old.2, old.3)
  row_slot (suc k) xs (more {xs = before} rows y holds climbs count ys is) few x there =
      ⊎_elim
      (λ (old : Contains before x). let at = row_slot k before rows (omega arith) x old in (at.0, omega (arith, at.1), at.2, at.3))
      (λ (new : y ≡ x).
      let has : HasPath n r path k y.path = (omega arith, holds, climb_path n most r path slots k (reverse y.path) climbs ∙ reverse-reverse y.path) in
      subst (λ (z : PathCount). (i : ℕ) × (i < suc k) × HasPath n r path i z.path × (z.count ≡ r (n + i))) new (k, omega arith, has, count))
      (Contains-push_cases before y x (subst (λ (l : List PathCount). Contains l x) is there))

  -- each slot below k that has a key has its row
  slot_row : (k : ℕ) (xs : List PathCount) → Rows n r k xs → k ≤ n → (i : ℕ) → i < k → 0 < r i → (x : PathCount) × Contains xs x × (x.path ≡ path i)
  slot_row zero xs none few i below full = absurd (omega arith)
  slot_row (suc k) xs (skip rows empty) few i below full =
      ⊎_elim
      (λ (here : i ≡ k). let gone : r i ≡ 0 = ap r here ∙ empty in absurd (omega arith))
      (λ (other : i ≡ k → ⊥). slot_row k xs rows (omega arith) i (omega arith) full)
      (cases_eq i k)
  slot_row (suc k) xs (more {xs = before} rows y holds climbs count ys is) few i below full =
      ⊎_elim
      (λ (here : i ≡ k).
      let path_is : path k ≡ y.path = climb_path n most r path slots k (reverse y.path) climbs ∙ reverse-reverse y.path in
      (y, subst (λ (l : List PathCount). Contains l y) (sym is) (Contains-push before y), sym path_is ∙ ap path (sym here)))
      (λ (other : i ≡ k → ⊥).
      let old = slot_row k before rows (omega arith) i (omega arith) full in
      (old.0, subst (λ (l : List PathCount). Contains l old.0) (sym is) (Contains-append_left before (y ∷ []) old.0 old.1), old.2))
      (cases_eq i k)

  in_paths : (xs : List PathCount) (p : Path) → Contains (paths_of xs) p → (x : PathCount) × Contains xs x × (x.path ≡ p)
  unfolding paths_of
  in_paths [] p there = absurd (omega (arith, there.1))
  in_paths (x ∷ xs) p (zero, within, at) = (x, (0, omega arith, refl), at)
  in_paths (x ∷ xs) p (suc j, within, at) = let old = in_paths xs p (j, omega arith, at) in (old.0, (suc old.1.0, omega (arith, old.1.1), old.1.2), old.2)

  rows_apart : (k : ℕ) (xs : List PathCount) → Rows n r k xs → k ≤ n → Apart (map (λ (x : PathCount). x.path) xs)
  unfolding paths_of
  rows_apart zero xs none few = tt
  rows_apart (suc k) xs (skip rows empty) few = rows_apart k xs rows (omega arith)
  rows_apart (suc k) xs (more {xs = before} rows y holds climbs count ys is) few =
      let paths : map (λ (x : PathCount). x.path) xs ≡ map (λ (x : PathCount). x.path) before ++ y.path ∷ [] = ap (map (λ (x : PathCount). x.path)) is ∙ map_push (λ (x : PathCount). x.path) before y in
      let has : HasPath n r path k y.path = (omega arith, holds, climb_path n most r path slots k (reverse y.path) climbs ∙ reverse-reverse y.path) in
      subst Apart (sym paths) (Apart-push (map (λ (x : PathCount). x.path) before) y.path (rows_apart k before rows (omega arith))
      (λ there.
      let old = in_paths before y.path there in
      let at = row_slot k before rows (omega arith) old.0 old.1 in
      let below = at.1 in
      let same = one_slot n r path most slots at.0 k old.0.path y.path at.2 has old.2 in
      omega arith))

pub has_climbs : (n : ℕ) → n ≤ 65536 → (r : ℕ → ℕ) (path : ℕ → Path) → Slots n r path → HasClimbs n r
has_climbs n most r path slots i within holds = short_climb n most r path slots i within holds

pub rows_tally : (n : ℕ) (most : n ≤ 65536) (r : ℕ → ℕ) (path : ℕ → Path) (views : List CtxView) (is : IsSet n r path views)
    (id : ℕ) (v : CtxView) (there : get_elem? views id ≡ some v) (lives : v.live ≡ true) (whole : IsWhole v.held)
    → length (all_counted v.held) < 2 ^ 64 → (xs : List PathCount) → Rows n r n xs → IsTally v.held xs
rows_tally n most r path views is id v there lives whole few xs rows = record {
  each = λ x in_xs.
      let at = row_slot n most r path is.slots n xs rows (omega arith) x in_xs in
      let has = at.2 in
      let entered : HasNode v.held x.path record { number = at.0 } = subst (λ (p : Path). HasNode v.held p record { number = at.0 }) has.2 (has_entered n most r path views is id v there lives whole at.0 has.0 has.1) in
      let bound : times x.path (all_counted v.held) < 2 ^ 64 = omega (arith, times-le-length x.path (all_counted v.held)) in
      let sum : r (n + at.0) ≡ times x.path (all_counted v.held) =
      is.sums at.0 has.0 has.1 ∙ (ap (λ (m : ℕ). m % 2 ^ 64) (whole_total n most r path views is id v there lives whole (path at.0) ∙ ap (λ (p : Path). times p (all_counted v.held)) has.2) ∙ mod-eq_of_lt bound) in
      ((record { number = at.0 }, entered), at.3 ∙ sum);
  all = λ p node has.
      let at = node_path n most r path views is id v there lives whole p node has in
      let row = slot_row n most r path is.slots n xs rows (omega arith) node.number at.0 at.1 in
      (row.0, row.1, row.2 ∙ at.2);
  once = rows_apart n most r path is.slots n xs rows (omega arith);
}

-- what the words of a set's table say at its end, where a seat had the view v
module _ (n key : ℕ) (about : key ≡ n) (most : n ≤ 65536) (words : List ℕ) (values : List ℕ) (id : ℕ) (v : CtxView) where
  pub end_climbs : Final (Seen (IsKept key) id v) words values → HasClimbs n (slice_index words)
  end_climbs (s, (kept, there), same, sizes, rest) =
      subst (λ (l : List ℕ). HasClimbs n (slice_index l)) same
      (subst (λ (k : ℕ). HasClimbs k (slice_index s.words)) about (has_climbs key (omega arith) (slice_index s.words) kept.path kept.set.slots))

  pub end_tally : Final (Seen (IsKept key) id v) words values → v.live ≡ true → IsWhole v.held → length (all_counted v.held) < 2 ^ 64
      → (xs : List PathCount) → Rows n (slice_index words) n xs → IsTally v.held xs
  end_tally (s, (kept, there), same, sizes, rest) lives whole few xs rows =
      rows_tally key (omega arith) (slice_index s.words) kept.path s.views kept.set id v there lives whole few xs
      (subst (λ (k : ℕ). Rows k (slice_index s.words) k xs) (sym about) (subst (λ (l : List ℕ). Rows n (slice_index l) n xs) (sym same) rows))

-- the row of one more slot, or none where the slot has no key
pub rows_skip : (n : ℕ) (r : ℕ → ℕ) (k : ℕ) (xs : List PathCount) → Rows n r k xs → IsRow n r k None → Rows n r (k + 1) xs
rows_skip n r k xs rows empty = let next : suc k ≡ k + 1 = omega arith in subst (λ (m : ℕ). Rows n r m xs) next (skip rows empty)

pub rows_more : (n : ℕ) (r : ℕ → ℕ) (k : ℕ) (xs ys : List PathCount) (x : PathCount) → Rows n r k xs → IsRow n r k (Some x) → ys ≡ xs ++ x ∷ [] → Rows n r (k + 1) ys
rows_more n r k xs ys x rows is longer = let next : suc k ≡ k + 1 = omega arith in subst (λ (m : ℕ). Rows n r m ys) next (more rows x is.0 is.1 is.2 ys longer)

-- what is so of the value, if there is one
pub if_ok_more : {T E : Type 0} (r : Result T E) (P Q : T → Type 0) → ((x : T) → P x → Q x) → IfOk r P → IfOk r Q
if_ok_more (Ok x) P Q f so = f x so
if_ok_more (Err e) P Q f so = so
