-- A table of words, without those of one byte.
use Rattle.std.proofs.Common.{◌≡◌, refl, sym, ◌∙◌, ap, ℕ, Bool, true, false, eqb, if◌then◌else◌, List, [], ◌∷◌, length}
use Rattle.std.specs.Str.{bytes_eq}
use Rattle.std.proofs.lemmas.Bool.{eqb-true, false_from_ne_true}
use Rattle.std.proofs.lemmas.Slice.Eq.{bytes_eq-Decides}
use Rattle.c_grammar.specs.Lexemes.{Spelled, terminal_in}

abbrev pub longer : List Spelled → List Spelled
longer [] = []
longer (row ∷ more) = if eqb (length row.word) 1 then longer more else (row ∷ longer more)

-- where a word of another length stands, there it stands in the whole table
pub among_longer : (rows : List Spelled) (word : List ℕ) → (length word ≡ 1 → ⊥) → terminal_in (longer rows) word ≡ terminal_in rows word
among_longer [] word not_one = refl
among_longer (row ∷ more) word not_one = go (eqb (length row.word) 1) refl (among_longer more word not_one)
  where
    go : (b : Bool) → eqb (length row.word) 1 ≡ b → terminal_in (longer more) word ≡ terminal_in more word
        → terminal_in (if b then longer more else (row ∷ longer more)) word ≡ terminal_in (row ∷ more) word
    go false e below = ap (λ t. if bytes_eq row.word word then row.terminal else t) below
    go true e below =
        let apart : bytes_eq row.word word ≡ false =
        false_from_ne_true (bytes_eq row.word word) (λ h. not_one (ap length (sym ((bytes_eq-Decides row.word word).0 h)) ∙ eqb-true (length row.word) 1 e)) in
        rw apart below
