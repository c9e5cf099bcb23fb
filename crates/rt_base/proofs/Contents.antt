-- What is known of the contents of a file from one turn of a loop to the next.
use Rattle.std.proofs.Common.{◌≡◌, ℕ, ◌+◌, ◌≤◌, ◌<◌, List, [], ◌++◌, length, take, drop, Option, Some, None, refl, ap, ◌∙◌, arith, length-append, length-drop}
use Rattle.std.proofs.Math.Seq.{take-add}
use Rattle.std.proofs.lemmas.List.{length-take, length-take-le, take_all}
use Rattle.std.proofs.lemmas.Grind.{common_steps}
use Rattle.rt_base.specs.Outside.{IsContents, IsLongerThan, IsReadFrom, FilesState, KeepsContents}

-- where the contents of a file are told, these are the first of them
abbrev pub IsFront : Option (List ℕ) → List ℕ → Type 0
IsFront None bytes = Unit {0}
IsFront (Some contents) bytes = bytes ≡ take (length bytes) contents

-- the empty list begins every file
pub IsFront-empty : (contents : Option (List ℕ)) → IsFront contents []
IsFront-empty None = tt
IsFront-empty (Some contents) = grind (arith, common_steps)

-- what a read gives at the end of what was read so far goes on with the file
pub IsFront-more : (contents : Option (List ℕ)) (bytes buffer : List ℕ) (count : ℕ) → IsFront contents bytes → IsReadFrom contents (length bytes) count buffer → count ≤ length buffer → IsFront contents (bytes ++ take count buffer)
IsFront-more None bytes buffer count front read within = tt
IsFront-more (Some contents) bytes buffer count front read within =
    let same = read.0 in
    let longer : length (bytes ++ take count buffer) ≡ length bytes + count =
    omega (arith, length-append bytes (take count buffer), length-take-le count buffer within) in
    rw (longer, take-add (length bytes) count contents) cc

none_below : (m n : ℕ) → (m < n → 0 < 0) → n ≤ m
none_below m n none = grind arith

-- a read that gives nothing at the end of what was read so far has met the end of the file
pub IsFront-whole : (contents : Option (List ℕ)) (bytes buffer : List ℕ) → IsFront contents bytes → IsReadFrom contents (length bytes) 0 buffer → IsContents contents bytes
IsFront-whole None bytes buffer front read = tt
IsFront-whole (Some contents) bytes buffer front read =
    front ∙ take_all (length bytes) contents (none_below (length bytes) (length contents) read.1)

-- a read that goes past the limit shows that the file does
pub IsFront-longer : (contents : Option (List ℕ)) (bytes buffer : List ℕ) (count limit : ℕ) → IsFront contents bytes → IsReadFrom contents (length bytes) count buffer → count ≤ length buffer → limit < length bytes + count → IsLongerThan contents limit
IsFront-longer None bytes buffer count limit front read within more = tt
IsFront-longer (Some contents) bytes buffer count limit front read within more =
    omega
    (arith, ap length front, length-take (length bytes) contents, ap length read.0, length-take-le count buffer within, length-take count (drop (length bytes) contents), length-drop (length bytes) contents)

-- what wasn't touched is kept, and so is what each of two calls kept
pub keeps_all : (files : FilesState) → KeepsContents files files
keeps_all files = record { same = λ name. refl; later = λ name. omega arith }

pub keeps_on : (first between last : FilesState) → KeepsContents first between → KeepsContents between last → KeepsContents first last
keeps_on first between last a b = record {
  same = λ name. b.same name ∙ a.same name;
  later = λ name. (let l = a.later name in let m = b.later name in omega (arith, l, m));
}
