-- Looking names up in a list of references to their texts.
use Rattle.std.proofs.Common.{◌≡◌, ℕ, suc, Bool, false, not, cond, ◌||◌, List, [], ◌∷◌, ◌++◌, map, length, refl, sym, subst, ap, ◌∙◌, arith, Bor}
use Rattle.std.specs.List.{list_any, prefix_len, position}
use Rattle.std.specs.Str.{bytes_eq}
use Rattle.built_form.specs.Built.{number_of}

pub list_any-map : {X Y : Type 0} (p : Y → Bool) (f : X → Y) (xs : List X) → list_any p (map f xs) ≡ list_any (λ x. p (f x)) xs
list_any-map p f [] = refl
list_any-map p f (x ∷ xs) = ap (λ b. p (f x) || b) (list_any-map p f xs)

pub prefix_len-map : {X Y : Type 0} (p : Y → Bool) (f : X → Y) (xs : List X) → prefix_len p (map f xs) ≡ prefix_len (λ x. p (f x)) xs
prefix_len-map p f [] = refl
prefix_len-map p f (x ∷ xs) = grind (arith, prefix_len-map p f xs)

pub length-names : {X Y : Type 0} (f : X → Y) (xs : List X) → length (map f xs) ≡ length xs
length-names f [] = refl
length-names f (x ∷ xs) = ap suc (length-names f xs)

pub number_of-map : (text : List ℕ) (names : List (Bor (List ℕ)))
    → number_of (map (λ n. n.now) names) text ≡ position (λ n. bytes_eq text n.now) names
unfolding number_of
number_of-map text names =
    rw (prefix_len-map (λ n. not (bytes_eq text n)) (λ (n : Bor (List ℕ)). n.now) names, length-names (λ (n : Bor (List ℕ)). n.now) names) refl

map_last : {X Y : Type 0} (f : X → Y) (xs : List X) (x : X) → map f (xs ++ x ∷ []) ≡ map f xs ++ f x ∷ []
map_last f [] x = refl
map_last f (y ∷ ys) x = ap (λ l. f y ∷ l) (map_last f ys x)

-- a list without the name has the name at its end once it is added
pub added_last : (text : List ℕ) (names : List (Bor (List ℕ))) (name : Bor (List ℕ)) → text ≡ name.now
    → list_any (bytes_eq text) (map (λ n. n.now) names) ≡ false
    → map (λ n. n.now) (cond (list_any (λ n. bytes_eq name.now n.now) names) names (names ++ name ∷ []))
    ≡ map (λ n. n.now) names ++ text ∷ []
added_last text names name e none =
    let f : Bor (List ℕ) → List ℕ = λ n. n.now in
    let same : list_any (λ (n : Bor (List ℕ)). bytes_eq name.now n.now) names ≡ false =
    sym (list_any-map (bytes_eq name.now) f names) ∙ subst (λ t. list_any (bytes_eq t) (map f names) ≡ false) e none in
    ap (λ b. map f (cond b names (names ++ name ∷ []))) same
    ∙ (map_last f names name ∙ ap (λ t. map f names ++ t ∷ []) (sym e))
