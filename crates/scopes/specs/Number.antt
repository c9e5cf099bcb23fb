-- The number of a name: the place of its text among the texts met so far, each of which stands there once.
use Rattle.std.specs.Prelude.{◌≡◌, ℕ, true, List, [], ◌∷◌, ◌++◌, map, if◌then◌else◌}
use Rattle.std.specs.List.{list_any, position_or_len}
use Rattle.std.specs.Str.{bytes_eq}
use denote.Ref.{Bor}

-- the place of the text, and the next free one where it wasn't met
abbrev pub number_of : List (List ℕ) → List ℕ → ℕ
number_of texts text = position_or_len (bytes_eq text) texts

-- the texts, once this one was met too
abbrev pub noted : List (List ℕ) → List ℕ → List (List ℕ)
noted texts text = if list_any (bytes_eq text) texts then texts else texts ++ text ∷ []

-- the text was met
abbrev pub Stands : List (List ℕ) → List ℕ → Type 0
Stands texts text = list_any (bytes_eq text) texts ≡ true

abbrev pub spelled : List (Bor (List ℕ)) → List (List ℕ)
spelled keys = map (λ key. key.now) keys
