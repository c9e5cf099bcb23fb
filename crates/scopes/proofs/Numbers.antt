-- What is known of the numbers of names.
use Rattle.std.proofs.Common.{◌≡◌, ℕ, ◌+◌, Bool, true, false, not, cond, ◌||◌, if◌then◌else◌, List, [], ◌∷◌, ◌++◌, refl, sym, ◌∙◌, ap, arith}
use Rattle.std.proofs.lemmas.List.{map-append}
use Rattle.std.proofs.lemmas.Slice.Eq.{bytes_eq-Decides}
use Rattle.std.specs.List.{list_any, position_or_len}
use Rattle.std.specs.Str.{bytes_eq}
use denote.Ref.{Bor}
use Rattle.indexmap.specs.IndexSet.{insert_key}
use Rattle.scopes.specs.Number.{number_of, noted, Stands, spelled}

same_key : Bor (List ℕ) → Bor (List ℕ) → Bool
same_key a b = bytes_eq a.now b.now

-- The keys and their texts are counted alike.
pub number_is : (keys : List (Bor (List ℕ))) (text : Bor (List ℕ)) → position_or_len (λ key. bytes_eq text.now key.now) keys ≡ number_of (spelled keys) text.now
number_is [] text = refl
number_is (key ∷ keys) text = ap (λ n. cond (not (bytes_eq text.now key.now)) (1 + n) 0) (number_is keys text)

among_is : (keys : List (Bor (List ℕ))) (text : List ℕ) → list_any (λ key. bytes_eq text key.now) keys ≡ list_any (bytes_eq text) (spelled keys)
among_is [] text = refl
among_is (key ∷ keys) text = ap (λ b. bytes_eq text key.now || b) (among_is keys text)

-- What an insertion does to the keys is what one more text does to their texts.
pub noted_is : (keys : List (Bor (List ℕ))) (text : Bor (List ℕ)) → spelled (insert_key (λ a b. bytes_eq a.now b.now) keys text) ≡ noted (spelled keys) text.now
noted_is keys text = by (list_any (λ key. bytes_eq text.now key.now) keys) refl
  where
    by : (b : Bool) → list_any (λ key. bytes_eq text.now key.now) keys ≡ b
        → spelled (if list_any (λ key. bytes_eq text.now key.now) keys then keys else keys ++ text ∷ []) ≡ noted (spelled keys) text.now
    by true e = rw e (rw (sym (among_is keys text.now) ∙ e) refl)
    by false e = rw e (rw (sym (among_is keys text.now) ∙ e) (map-append (λ key. key.now) keys (text ∷ [])))

-- Texts that stand at one place are one text.
pub equal_numbers : (texts : List (List ℕ)) (a b : List ℕ) → Stands texts a → number_of texts a ≡ number_of texts b → a ≡ b
equal_numbers [] a b stands e = let clash : ⊥ = cc in absurd clash
equal_numbers (t ∷ ts) a b stands e = by (bytes_eq a t) (bytes_eq b t) refl refl stands e (equal_numbers ts a b)
  where
    by : (here there : Bool) → bytes_eq a t ≡ here → bytes_eq b t ≡ there → here || list_any (bytes_eq a) ts ≡ true
        → cond (not here) (1 + number_of ts a) 0 ≡ cond (not there) (1 + number_of ts b) 0
        → (Stands ts a → number_of ts a ≡ number_of ts b → a ≡ b) → a ≡ b
    by true true p q s n rest = (bytes_eq-Decides a t).0 p ∙ sym ((bytes_eq-Decides b t).0 q)
    by true false p q s n rest = let clash : ⊥ = omega arith in absurd clash
    by false true p q s n rest = let clash : ⊥ = omega arith in absurd clash
    by false false p q s n rest = rest s (omega arith)

-- A text that stands among the texts has the same place when more of them follow.
place_kept : (texts more : List (List ℕ)) (a : List ℕ) → Stands texts a → number_of (texts ++ more) a ≡ number_of texts a
place_kept [] more a stands = let clash : ⊥ = cc in absurd clash
place_kept (t ∷ ts) more a stands = by (bytes_eq a t) stands (place_kept ts more a)
  where
    by : (here : Bool) → here || list_any (bytes_eq a) ts ≡ true
        → (Stands ts a → number_of (ts ++ more) a ≡ number_of ts a)
        → cond (not here) (1 + number_of (ts ++ more) a) 0 ≡ cond (not here) (1 + number_of ts a) 0
    by true s rest = refl
    by false s rest = ap (λ n. 1 + n) (rest s)

pub number_kept : (texts : List (List ℕ)) (a b : List ℕ) → Stands texts a → number_of (noted texts b) a ≡ number_of texts a
number_kept texts a b stands = by (list_any (bytes_eq b) texts)
  where
    by : (met : Bool) → number_of (if met then texts else texts ++ b ∷ []) a ≡ number_of texts a
    by true = refl
    by false = place_kept texts (b ∷ []) a stands

stands_last : (texts : List (List ℕ)) (a : List ℕ) → Stands (texts ++ a ∷ []) a
stands_last [] a = rw ((bytes_eq-Decides a a).1 refl) refl
stands_last (t ∷ ts) a = by (bytes_eq a t) (stands_last ts a)
  where
    by : (here : Bool) → Stands (ts ++ a ∷ []) a → here || list_any (bytes_eq a) (ts ++ a ∷ []) ≡ true
    by true rest = refl
    by false rest = rest

pub noted_stands : (texts : List (List ℕ)) (a : List ℕ) → Stands (noted texts a) a
noted_stands texts a = by (list_any (bytes_eq a) texts) refl
  where
    by : (met : Bool) → list_any (bytes_eq a) texts ≡ met → Stands (if met then texts else texts ++ a ∷ []) a
    by true e = e
    by false e = stands_last texts a
