-- The tokens of a text stand within it, in order.
use Rattle.std.proofs.Common.{◌≡◌, ℕ, zero, suc, ◌+◌, ◌<◌, ◌≤◌, Bool, true, List, [], ◌∷◌, ◌++◌, length, sym, ◌∙◌, ap, subst, arith}
use Rattle.std.specs.Prelude.{All}
use Rattle.std.proofs.lemmas.List.{length-append}
use Rattle.c_text.specs.declared.Token.{Token}
use Rattle.c_text.specs.declared.form.Form.{Form}
use Rattle.c_text.specs.declared.form.Form.TheVariants.{White, Comment, Directive, Word, Stray}
use Rattle.c_text.specs.Spelling.{Piece, IsCut, IsSpelled, IsWithin, IsInOrder, IsInOrderFrom, alone_after, bytes_in, token_in, tokens_in}
use Rattle.c_text.proofs.Cut.{next_some}

abbrev Ends : ℕ → Token → Type 0
Ends n t = (t.start ≤ t.end) × (t.end ≤ n)

all_cons : (n : ℕ) (t : Token) (ts : List Token) → Ends n t → All (Ends n) ts → All (Ends n) (t ∷ ts)
all_cons n t ts here later zero d h = here
all_cons n t ts here later (suc k) d h = later k d (omega arith)

ends_at : (form : Form) (n place size : ℕ) (ts : List Token) → place + size ≤ n → All (Ends n) ts → All (Ends n) (token_in place form size ++ ts)
ends_at White n place size ts h later = later
ends_at Comment n place size ts h later = later
ends_at Directive n place size ts h later = later
ends_at (Stray kind) n place size ts h later = later
ends_at (Word kind) n place size ts h later =
    let t : Token = record { kind = kind; start = place; end = place + size } in
    all_cons n t ts (omega arith, h) later

ends_within : (n place : ℕ) (ps : List Piece) → place + bytes_in ps ≤ n → All (Ends n) (tokens_in place ps)
ends_within n place [] h = λ k d less. absurd (omega arith)
ends_within n place (p ∷ ps) h =
    ends_at p.form n place (length p.word) (tokens_in (place + length p.word) ps) (omega arith) (ends_within n (place + length p.word) ps (omega arith))

ordered_at : (form : Form) (from place size : ℕ) (ts : List Token) → from ≤ place → 0 < size
    → ((f : ℕ) → f ≤ place + size → IsInOrderFrom f ts) → IsInOrderFrom from (token_in place form size ++ ts)
ordered_at White from place size ts h some later = later from (omega arith)
ordered_at Comment from place size ts h some later = later from (omega arith)
ordered_at Directive from place size ts h some later = later from (omega arith)
ordered_at (Stray kind) from place size ts h some later = later from (omega arith)
ordered_at (Word kind) from place size ts h some later =
    let longer : place < place + size = omega arith in
    (h, longer, later (place + size) (omega arith))

ordered_from : (alone : Bool) (left after : List ℕ) (ps : List Piece) → IsCut alone left ps after → (place from : ℕ) → from ≤ place → IsInOrderFrom from (tokens_in place ps)
ordered_from alone left after [] h place from le = tt
ordered_from alone left after (p ∷ ps) h place from le =
    ordered_at p.form from place (length p.word) (tokens_in (place + length p.word) ps) le (next_some alone p left h.0 h.1)
    (λ f less. ordered_from (alone_after alone p) h.0 after ps h.3 (place + length p.word) f less)

few_at : (form : Form) (place size : ℕ) (ts : List Token) (n : ℕ) → 0 < size → length ts ≤ n → length (token_in place form size ++ ts) ≤ size + n
few_at White place size ts n some h = omega arith
few_at Comment place size ts n some h = omega arith
few_at Directive place size ts n some h = omega arith
few_at (Stray kind) place size ts n some h = omega arith
few_at (Word kind) place size ts n some h = omega arith

few_from : (alone : Bool) (left after : List ℕ) (ps : List Piece) → IsCut alone left ps after → (place : ℕ) → length (tokens_in place ps) ≤ bytes_in ps
few_from alone left after [] h place = omega arith
few_from alone left after (p ∷ ps) h place =
    few_at p.form place (length p.word) (tokens_in (place + length p.word) ps) (bytes_in ps) (next_some alone p left h.0 h.1)
    (few_from (alone_after alone p) h.0 after ps h.3 (place + length p.word))

-- the pieces have the bytes of the text
cut_bytes : (alone : Bool) (left after : List ℕ) (ps : List Piece) → IsCut alone left ps after → length left ≡ bytes_in ps + length after
cut_bytes alone left after [] h = ap length h ∙ (let e : length after ≡ 0 + length after = omega arith in e)
cut_bytes alone left after (p ∷ ps) h =
    let split : length left ≡ length p.word + length h.0 = ap length h.1.split ∙ length-append p.word h.0 in
    let later : length h.0 ≡ bytes_in ps + length after = cut_bytes (alone_after alone p) h.0 after ps h.3 in
    omega (arith, split, later)

pub spelled_within : (source : List ℕ) (ts : List Token) → IsSpelled source ts → All (IsWithin source) ts
spelled_within source ts h =
    let size : length source ≡ bytes_in h.0 + 0 = cut_bytes true source [] h.0 h.1 in
    let P : List Token → Type 0 = λ t. All (IsWithin source) t in
    subst P (sym h.2) (ends_within (length source) 0 h.0 (omega (arith, size)))

pub spelled_in_order : (source : List ℕ) (ts : List Token) → IsSpelled source ts → IsInOrder ts
spelled_in_order source ts h =
    let P : List Token → Type 0 = λ t. IsInOrderFrom 0 t in
    subst P (sym h.2) (ordered_from true source [] h.0 h.1 0 0 (omega arith))

pub spelled_few : (source : List ℕ) (ts : List Token) → IsSpelled source ts → length ts ≤ length source
spelled_few source ts h =
    let size : length source ≡ bytes_in h.0 + 0 = cut_bytes true source [] h.0 h.1 in
    let few : length (tokens_in 0 h.0) ≤ bytes_in h.0 = few_from true source [] h.0 h.1 0 in
    let same : length ts ≡ length (tokens_in 0 h.0) = ap length h.2 in
    omega (arith, size, few, same)
