-- Lists in one text, read item by item.
use Rattle.std.specs.Borrow.{Bor}
use Rattle.std.proofs.Common.{◌≡◌, ℕ, ◌+◌, List, [], ◌∷◌, ◌++◌, length, Option, Some, None, refl, sym, ap, append_assoc}
use Rattle.std.specs.Prelude.{option_map}
use Rattle.std.proofs.Common.{◌==◌, not, arith}
use Rattle.std.specs.List.{position_or_len}
use Rattle.std.proofs.lemmas.List.Splits.{slice_split_none}
use Rattle.std.proofs.lemmas.List.Sums.{prefix_len_passes}
use Rattle.std.proofs.lemmas.Bool.{not-true}
use Rattle.command.specs.Lists.{items_of, each}

-- the items that are left to read
abbrev pub items_left : ℕ → Option (Bor (List ℕ)) → List (List ℕ)
items_left separator None = []
items_left separator (Some text) = items_of separator text.now

-- how much is left to read
abbrev pub work_left : Option (Bor (List ℕ)) → ℕ
work_left None = 0
work_left (Some text) = length text.now + 1

-- items that were read, with those that are still to be read
abbrev pub behind : {A : Type 0} → List A → Option (List A) → Option (List A)
behind items rest = option_map (λ more. items ++ more) rest

pub behind_nothing : {A : Type 0} (rest : Option (List A)) → behind [] rest ≡ rest
behind_nothing None = refl
behind_nothing (Some more) = refl

pub behind_item : {A : Type 0} (items : List A) (item : A) (rest : Option (List A))
    → behind items (option_map (λ more. item ∷ more) rest) ≡ behind (items ++ item ∷ []) rest
behind_item items item None = refl
behind_item items item (Some more) = ap (λ all. Some all) (sym (append_assoc items (item ∷ []) more))

-- one item more was read
pub each_more : {A : Type 0} (form : List ℕ → Option A) (items : List A) (text : List ℕ) (texts : List (List ℕ)) (item : A)
    → form text ≡ Some item → behind items (each form (text ∷ texts)) ≡ behind (items ++ item ∷ []) (each form texts)
each_more form items text texts item read = rw read (behind_item items item (each form texts))

-- an item that spells nothing
pub each_none : {A : Type 0} (form : List ℕ → Option A) (items : List A) (text : List ℕ) (texts : List (List ℕ))
    → form text ≡ None → behind items (each form (text ∷ texts)) ≡ None
each_none form items text texts none = rw none refl

-- where no separator stands, the text is the one item
pub items_of_whole : (separator : ℕ) (text : List ℕ) → position_or_len (λ byte. byte == separator) text ≡ length text → items_of separator text ≡ text ∷ []
items_of_whole separator text none =
    slice_split_none (λ byte. byte == separator) text
    (λ k d h. not-true _ (prefix_len_passes (λ byte. not (byte == separator)) text k d (omega (arith, none, h))))
