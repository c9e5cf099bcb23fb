-- The regions of threads, one behind the other.
use Rattle.std.proofs.Common.{◌≡◌, ℕ, zero, suc, ◌+◌, ◌-◌, ◌*◌, ◌≤◌, List, [], ◌∷◌, ◌++◌, length, replicate, refl, sym, ◌∙◌, ap, append_assoc, add-one, ◌^◌, arith}
use Rattle.std.proofs.lemmas.Grind.{common_steps}
use Rattle.std.proofs.lemmas.List.{append-nil}
use Rattle.core_unit.specs.Layout.{region, copies, heap_start, opening_of}

length-region : (ws : List ℕ) → length ws ≤ 1024 → length (region ws) ≡ 5120
length-region ws few = grind (arith, common_steps)

length-copies : (n : ℕ) (ws : List ℕ) → length ws ≡ 5120 → length (copies n ws) ≡ n * 5120
length-copies zero ws e = refl
length-copies (suc n) ws e = let rest = length-copies n ws e in grind (arith, common_steps, rest, e)

copies-suc : (n : ℕ) (ws : List ℕ) → copies (suc n) ws ≡ copies n ws ++ ws
copies-suc zero ws = append-nil ws
copies-suc (suc n) ws = ap (λ l. ws ++ l) (copies-suc n ws) ∙ sym (append_assoc ws (copies n ws) ws)

copies-more : (n : ℕ) (ws : List ℕ) → copies (n + 1) ws ≡ copies n ws ++ ws
copies-more n ws = ap (λ m. copies m ws) (add-one n) ∙ copies-suc n ws

-- one region more
pub one_more : (xs ws : List ℕ) (n : ℕ) → (xs ++ copies n ws) ++ ws ≡ xs ++ copies (n + 1) ws
one_more xs ws n = append_assoc xs (copies n ws) ws ∙ ap (λ l. xs ++ l) (sym (copies-more n ws))

-- the words of so many regions
pub room_for : (n : ℕ) (ws : List ℕ) → length ws ≤ 1024 → length (copies n (region ws)) ≡ n * 5120
room_for n ws few = length-copies n (region ws) (length-region ws few)

-- what is added behind the regions makes the whole
pub opening_is : (statics threads : List ℕ) (heap : ℕ) → heap ≡ heap_start (length statics) →
    ((((0 ∷ statics) ++ copies 64 (region threads)) ++ replicate (2 ^ 20 + 1 - heap) 0) ++ heap ∷ []) ++ replicate 190 0 ≡ opening_of statics threads
unfolding opening_of
opening_is statics threads heap e =
    append_assoc (((0 ∷ statics) ++ copies 64 (region threads)) ++ replicate (2 ^ 20 + 1 - heap) 0) (heap ∷ []) (replicate 190 0)
    ∙ ap (λ start. (0 ∷ statics) ++ copies 64 (region threads) ++ replicate (2 ^ 20 + 1 - start) 0 ++ start ∷ replicate 190 0) e
