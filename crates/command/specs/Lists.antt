-- Lists in one text: items between separators.
use Rattle.std.specs.Prelude.{ℕ, ◌==◌, nat_lt, if◌then◌else◌, List, [], ◌∷◌, length, Option, Some, None, option_map, option_and_then}
use Rattle.std.specs.List.{slice_split}

-- the items of a text, which a separator stands between
abbrev pub items_of : ℕ → List ℕ → List (List ℕ)
items_of separator text = slice_split (λ byte. byte == separator) text

-- what each text spells, where each spells something
abbrev pub each : {A : Type 0} → (List ℕ → Option A) → List (List ℕ) → Option (List A)
each form [] = Some []
each form (text ∷ texts) = option_and_then (λ item. option_map (λ items. item ∷ items) (each form texts)) (form text)

abbrev pub if_at_most : {A : Type 0} → ℕ → List A → Option (List A)
if_at_most most items = if nat_lt most (length items) then None else Some items

-- a list of items between commas (44), at most so many
abbrev pub list_of : {A : Type 0} → ℕ → (List ℕ → Option A) → List ℕ → Option (List A)
list_of most form text = option_and_then (if_at_most most) (each form (items_of 44 text))
