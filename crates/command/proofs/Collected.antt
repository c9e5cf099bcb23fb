-- Lines that are collected part by part.
use Rattle.std.specs.Borrow.{Bor}
use Rattle.std.proofs.Common.{◌≡◌, ℕ, not, List, [], ◌∷◌, ◌++◌, Option, Some, None, refl, sym, ap, ◌∙◌, append_assoc, take, drop, cond, ◌+◌, length, subst, arith}
use Rattle.std.specs.Prelude.{option_map}
use Rattle.std.specs.List.{prefix_len, position_or_len, take-map, drop-map}
use Rattle.command.specs.declared.line.Part.{Part}
use Rattle.command.specs.declared.line.Part.TheVariants.{Word, Setting}
use Rattle.command.specs.Lines.{Line, texts, pair_of, line_of, line_from, followed_by, is_terminator, empty_line}
use Rattle.command.specs.declared.fault.WordsFault.{WordsFault}
use Rattle.command.specs.declared.fault.WordsFault.TheVariants.{Usage, NoMemory}
use Rattle.command.specs.Readings.{IsRefusal}
use Rattle.std.proofs.lemmas.List.{append-nil, drop_all, drop-drop}
use Rattle.command.specs.Parts.{with_part, pushed}

-- what a line holds, with what is still to be read
abbrev pub joined : Line → Option Line → Option Line
joined line rest = option_map (λ more. record { words = line.words ++ more.words; given = line.given ++ more.given }) rest

pub joined_part : (line : Line) (part : Part) (rest : Option Line) → joined line (with_part part rest) ≡ joined (pushed line part) rest
joined_part line (Word word) None = refl
joined_part line (Setting given) None = refl
joined_part line (Word word) (Some more) =
    ap (λ words. let whole : Line = record { words = words; given = line.given ++ more.given } in Some whole)
    (sym (append_assoc line.words (word.now ∷ []) more.words))
joined_part line (Setting given) (Some more) =
    ap (λ all. let whole : Line = record { words = line.words ++ more.words; given = all } in Some whole)
    (sym (append_assoc line.given (pair_of given ∷ []) more.given))

pub joined_nothing : (rest : Option Line) → joined empty_line rest ≡ rest
joined_nothing None = refl
joined_nothing (Some line) = refl

-- the place of the first `--` among words, and among their texts
pub place_among : (words : List (Bor (List ℕ))) → position_or_len is_terminator (texts words) ≡ prefix_len (λ word. not (is_terminator word.now)) words
place_among [] = refl
place_among (word ∷ words) = ap (λ n. cond (not (is_terminator word.now)) (1 + n) 0) (place_among words)

-- the line of all words, by the words before and behind the first `--`
pub line_cut : (words : List (Bor (List ℕ))) (n : ℕ) → n ≡ position_or_len is_terminator (texts words)
    → line_of (texts words) ≡ option_map (followed_by (texts (drop (n + 1) words))) (line_from (texts (take n words)) None)
line_cut words n place =
    let text : Bor (List ℕ) → List ℕ = λ word. word.now in
    let P : ℕ → Type 0 = λ m. option_map (followed_by (drop (m + 1) (texts words))) (line_from (take m (texts words)) None) ≡ option_map (followed_by (texts (drop (n + 1) words))) (line_from (texts (take n words)) None) in
    subst P place (rw (take-map text n words, drop-map text (n + 1) words) refl)

-- no word stands behind the end
pub line_at_end : (words : List (Bor (List ℕ))) (n : ℕ) (line : Line) → n ≡ position_or_len is_terminator (texts words) → n ≡ length words
    → line_from (texts (take n words)) None ≡ Some line → line_of (texts words) ≡ Some line
line_at_end words n line place last front =
    let none : drop (n + 1) words ≡ [] = drop_all (n + 1) words (omega (arith, last)) in
    line_cut words n place ∙ rw (none, front) (ap (λ all. let whole : Line = record { words = all; given = line.given } in Some whole) (append-nil line.words))

pub line_behind : (words : List (Bor (List ℕ))) (n : ℕ) (line whole : Line) → n ≡ position_or_len is_terminator (texts words)
    → line_from (texts (take n words)) None ≡ Some line → whole ≡ followed_by (texts (drop (n + 1) words)) line → line_of (texts words) ≡ Some whole
line_behind words n line whole place front all = line_cut words n place ∙ rw front (ap (λ found. Some found) (sym all))

-- what is no line before `--` is none at all
pub refused_before : (words : List (Bor (List ℕ))) (n : ℕ) (fault : WordsFault) → n ≡ position_or_len is_terminator (texts words)
    → IsRefusal (line_from (texts (take n words)) None) fault → IsRefusal (line_of (texts words)) fault
refused_before words n Usage place none = line_cut words n place ∙ rw none refl
refused_before words n NoMemory place none = tt

-- one part more was read
pub part_more : (words : List (Bor (List ℕ))) (at taken : ℕ) (line next : Line) (part : Part) (whole : Option Line)
    → whole ≡ joined line (line_from (texts (drop at words)) None)
    → line_from (texts (drop at words)) None ≡ with_part part (line_from (texts (drop taken (drop at words))) None)
    → next ≡ pushed line part
    → whole ≡ joined next (line_from (texts (drop (at + taken) words)) None)
part_more words at taken line next part whole so_far here grown =
    so_far ∙ ap (joined line) here ∙ joined_part line part _
    ∙ (λ i. joined (sym grown i) (line_from (texts (drop-drop taken at words i)) None))
