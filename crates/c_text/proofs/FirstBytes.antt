-- The forms by their first byte, and the pieces that begin by it.
use Rattle.std.proofs.Common.{◌≡◌, ℕ, suc, ◌+◌, ◌-◌, ◌<◌, ◌≤◌, Bool, true, false, eqb, if◌then◌else◌, inl, inr, List, [], ◌∷◌, ◌++◌, length, take, drop, get_or, Option, Some, refl, sym, ◌∙◌, ap, subst, arith}
use Rattle.std.specs.List.{prefix_len, list_all}
use Rattle.std.proofs.lemmas.Bool.{cases_lt}
use Rattle.std.proofs.lemmas.Bool.Decides.{nat_tests}
use Rattle.std.proofs.lemmas.List.{drop_more, take_rest, get_or-drop, drop-drop, length-drop, length-take-le}
use Rattle.c_text.specs.declared.TokenKind.{TokenKind}
use Rattle.c_text.specs.declared.TokenKind.TheVariants.{Number, Character, Text, Punctuator}
use Rattle.c_text.specs.declared.form.Form.{Form}
use Rattle.c_text.specs.declared.form.Form.TheVariants.{White, Word, Stray}
use Rattle.c_text.specs.declared.form.StrayKind.TheVariants.{Byte, OpenQuote}
use Rattle.c_text.specs.Bytes.{is_white, is_letter, is_digit, is_name_byte, is_number_byte, is_in_line}
use Rattle.c_text.specs.Forms.{form_of, when, is_empty, closed_or, line_form, line_kind, mark_form, slash_form, is_string_end, is_character_end, name_kind}
use Rattle.c_text.specs.Spelling.{IsFront}
use Rattle.c_text.specs.Words.{is_one_of, punctuators}
use Rattle.c_text.proofs.Front.{front_run, front_empty, front_behind, front_same, front_first}
use Rattle.c_text.proofs.Marks.{front_mark, NoLonger}

pub form_white : (alone : Bool) (b : ℕ) (o : List ℕ) → is_white b ≡ true → form_of alone (b ∷ o) ≡ when (is_empty o) White
form_white alone b o h = rw h refl

pub form_letter : (alone : Bool) (b : ℕ) (o : List ℕ) → is_white b ≡ false → is_letter b ≡ true
    → form_of alone (b ∷ o) ≡ when (list_all is_name_byte o) (Word (name_kind (b ∷ o)))
form_letter alone b o h k = rw (h, k) refl

pub form_digit : (alone : Bool) (b : ℕ) (o : List ℕ) → is_white b ≡ false → is_letter b ≡ false → is_digit b ≡ true
    → form_of alone (b ∷ o) ≡ when (list_all is_number_byte o) (Word Number)
form_digit alone b o h k l = rw (h, k, l) refl

pub form_quote : (alone : Bool) (b : ℕ) (o : List ℕ) → b ≡ 39 → form_of alone (b ∷ o) ≡ closed_or is_character_end (Word Character) (Stray OpenQuote) o
form_quote alone b o e = ap (λ x. form_of alone (x ∷ o)) e

pub form_double_quote : (alone : Bool) (b : ℕ) (o : List ℕ) → b ≡ 34 → form_of alone (b ∷ o) ≡ closed_or is_string_end (Word Text) (Stray OpenQuote) o
form_double_quote alone b o e = ap (λ x. form_of alone (x ∷ o)) e

pub form_hash : (alone : Bool) (b : ℕ) (o : List ℕ) → b ≡ 35 → form_of alone (b ∷ o) ≡ line_form alone o
form_hash alone b o e = ap (λ x. form_of alone (x ∷ o)) e

pub form_slash : (alone : Bool) (b : ℕ) (o : List ℕ) → b ≡ 47 → form_of alone (b ∷ o) ≡ slash_form o
form_slash alone b o e = ap (λ x. form_of alone (x ∷ o)) e

pub form_mark : (alone : Bool) (b : ℕ) (o : List ℕ) → is_white b ≡ false → is_letter b ≡ false → is_digit b ≡ false
    → (b ≡ 39 → ⊥) → (b ≡ 34 → ⊥) → (b ≡ 35 → ⊥) → (b ≡ 47 → ⊥) → form_of alone (b ∷ o) ≡ mark_form (b ∷ o)
form_mark alone b o h k l q d n s =
    let q' : eqb b 39 ≡ false = grind (arith, nat_tests) in
    let d' : eqb b 34 ≡ false = grind (arith, nat_tests) in
    let n' : eqb b 35 ≡ false = grind (arith, nat_tests) in
    let s' : eqb b 47 ≡ false = grind (arith, nat_tests) in
    rw (h, k, l, q', d', n', s') refl

-- a piece whose first byte stands before a text that the rest of it begins
pub front_scan : (h g : List ℕ → Option Form) (left : List ℕ) (form : Form) (n : ℕ) → 0 < length left
    → ((o : List ℕ) → h (get_or left 0 0 ∷ o) ≡ g o)
    → IsFront g form n (take (length left - 1) (drop 1 left)) → (result : Form) (m : ℕ) → result ≡ form → m ≡ 1 + n
    → IsFront h result m left
front_scan h g left form n some same front result m form_is size =
    let P : List ℕ → Type 0 = λ t. IsFront g form n t in
    let Q : Form → Type 0 = λ f. IsFront h f m left in
    let R : ℕ → Type 0 = λ k. IsFront h form k left in
    let tail : IsFront g form n (drop 1 left) = subst P (take_rest left 1) front in
    subst Q (sym form_is) (subst R (sym size) (front_first h form (1 + n) left some (front_behind h g form n (get_or left 0 0) (drop 1 left) same tail)))

-- the same of one byte
pub front_byte : (h : List ℕ → Option Form) (left : List ℕ) (form : Form) → 0 < length left
    → ((o : List ℕ) → h (get_or left 0 0 ∷ o) ≡ when (is_empty o) form) → IsFront h form 1 left
front_byte h left form some same =
    front_scan h (λ o. when (is_empty o) form) left form 0 some same (front_empty form (take (length left - 1) (drop 1 left))) form 1 refl (omega arith)

-- a piece that is told from its whole word
pub front_whole : (h g : List ℕ → Option Form) (left : List ℕ) (form : Form) (n : ℕ) → 0 < length left → 0 < n
    → ((o rest : List ℕ) → drop 1 left ≡ o ++ rest → h (get_or left 0 0 ∷ o) ≡ g (get_or left 0 0 ∷ o))
    → IsFront g form n left → IsFront h form n left
front_whole h g left form n some long same front =
    let P : List ℕ → Type 0 = λ t. IsFront g form n t in
    let split : left ≡ get_or left 0 0 ∷ drop 1 left = drop_more left 0 0 some in
    front_first h form n left some (front_same h g form n (get_or left 0 0) (drop 1 left) same long (subst P split front))

-- a run of bytes of one class
pub front_run_at : (p : ℕ → Bool) (k : List ℕ → Form) (text : List ℕ) (n : ℕ) (form : Form) → n ≡ prefix_len p text → k (take n text) ≡ form
    → IsFront (λ word. when (list_all p word) (k word)) form n text
front_run_at p k text n form size e =
    let P : ℕ → Type 0 = λ m. IsFront (λ word. when (list_all p word) (k word)) (k (take m text)) m text in
    let Q : Form → Type 0 = λ f. IsFront (λ word. when (list_all p word) (k word)) f n text in
    subst Q e (subst P (sym size) (front_run p k text))

pub front_line : (alone : Bool) (text : List ℕ) (n : ℕ) (form : Form) → alone ≡ true → n ≡ prefix_len is_in_line text → line_kind (take n text) ≡ form
    → IsFront (line_form alone) form n text
front_line true text n form h size e = front_run_at is_in_line line_kind text n form size e
front_line false text n form h size e = absurd cc

pub front_hash : (alone : Bool) (text : List ℕ) → alone ≡ false → IsFront (line_form alone) (Stray Byte) 0 text
front_hash true text h = absurd cc
front_hash false text h = front_empty (Stray Byte) text

-- a name, of which n bytes stand behind the first
pub front_name : (left : List ℕ) (n : ℕ) (kind : TokenKind) → 0 < length left
    → n ≡ prefix_len is_name_byte (take (length left - 1) (drop 1 left)) → name_kind (take (1 + n) left) ≡ kind
    → IsFront (λ word. when (list_all is_name_byte word) (Word (name_kind (get_or left 0 0 ∷ word)))) (Word kind) n (drop 1 left)
front_name left n kind some size e =
    let split : left ≡ get_or left 0 0 ∷ drop 1 left = drop_more left 0 0 some in
    let whole : take (1 + n) left ≡ get_or left 0 0 ∷ take n (drop 1 left) = ap (take (1 + n)) split ∙ take_behind (get_or left 0 0) n (drop 1 left) in
    let length_is : n ≡ prefix_len is_name_byte (drop 1 left) = size ∙ ap (prefix_len is_name_byte) (take_rest left 1) in
    let named : name_kind (get_or left 0 0 ∷ take n (drop 1 left)) ≡ kind = ap name_kind (sym whole) ∙ e in
    front_run_at is_name_byte (λ word. Word (name_kind (get_or left 0 0 ∷ word))) (drop 1 left) n (Word kind) length_is (ap Word named)
  where
    take_behind : (x m : ℕ) (xs : List ℕ) → take (1 + m) (x ∷ xs) ≡ x ∷ take m xs
    take_behind x m xs = let e : 1 + m ≡ suc m = omega arith in ap (λ k. take k (x ∷ xs)) e

spelled : (word : List ℕ) → is_one_of punctuators word ≡ true → mark_form word ≡ Some (Word Punctuator)
spelled word h = ap (λ t. if t then Some (Word Punctuator) else when (eqb (length word) 1) (Stray Byte)) h

-- punctuators of three, two and one bytes, and a stray byte
pub front_three : (text : List ℕ) → 3 ≤ length text → is_one_of punctuators (take 3 text) ≡ true → IsFront mark_form (Word Punctuator) 3 text
front_three text long h = front_mark text 3 (Word Punctuator) (omega arith) long (spelled (take 3 text) h) (λ k more inside most. absurd (omega arith))

no_three : (text : List ℕ) (k : ℕ) → (3 ≤ length text → is_one_of punctuators (take 3 text) ≡ false) → k ≡ 3 → k ≤ length text → is_one_of punctuators (take k text) ≡ false
no_three text k three e inside = ap (λ m. is_one_of punctuators (take m text)) e ∙ three (omega (arith, e))

pub front_two : (text : List ℕ) → (3 ≤ length text → is_one_of punctuators (take 3 text) ≡ false)
    → 2 ≤ length text → is_one_of punctuators (take 2 text) ≡ true → IsFront mark_form (Word Punctuator) 2 text
front_two text three long h =
    front_mark text 2 (Word Punctuator) (omega arith) long (spelled (take 2 text) h) (λ k more inside most. no_three text k three (omega arith) inside)

no_more : (text : List ℕ) → (3 ≤ length text → is_one_of punctuators (take 3 text) ≡ false) → (2 ≤ length text → is_one_of punctuators (take 2 text) ≡ false) → NoLonger text 1
no_more text three two k more inside most =
    elim (cases_lt 2 k) [
      | inl above ↦ no_three text k three (omega arith) inside
      | inr below ↦ let e : k ≡ 2 = omega arith in ap (λ m. is_one_of punctuators (take m text)) e ∙ two (omega (arith, e))
    ]

pub front_one : (text : List ℕ) → (3 ≤ length text → is_one_of punctuators (take 3 text) ≡ false) → (2 ≤ length text → is_one_of punctuators (take 2 text) ≡ false)
    → 1 ≤ length text → is_one_of punctuators (take 1 text) ≡ true → IsFront mark_form (Word Punctuator) 1 text
front_one text three two long h =
    front_mark text 1 (Word Punctuator) (omega arith) long (spelled (take 1 text) h) (no_more text three two)

pub front_stray : (text : List ℕ) → (3 ≤ length text → is_one_of punctuators (take 3 text) ≡ false) → (2 ≤ length text → is_one_of punctuators (take 2 text) ≡ false)
    → 1 ≤ length text → is_one_of punctuators (take 1 text) ≡ false → IsFront mark_form (Stray Byte) 1 text
front_stray text three two long h =
    let one : length (take 1 text) ≡ 1 = length-take-le 1 text long in
    let single : eqb (length (take 1 text)) 1 ≡ true = grind (arith, nat_tests) in
    let stray : mark_form (take 1 text) ≡ Some (Stray Byte) =
    ap (λ t. if t then Some (Word Punctuator) else when (eqb (length (take 1 text)) 1) (Stray Byte)) h ∙ ap (λ t. when t (Stray Byte)) single in
    front_mark text 1 (Stray Byte) (omega arith) long stray (no_more text three two)

-- a comment that begins by `/` and a byte v
pub front_comment : (g : List ℕ → Option Form) (left : List ℕ) (v n : ℕ) (form : Form) → 1 < length left → get_or left 0 0 ≡ 47 → get_or left 1 0 ≡ v
    → ((o : List ℕ) → slash_form (v ∷ o) ≡ g o) → IsFront g form n (take (length left - 2) (drop 2 left)) → (result : Form) (m : ℕ) → result ≡ form → m ≡ 1 + (1 + n)
    → IsFront (form_of true) result m left
front_comment g left v n form some first second same front result m form_is size =
    let rest : List ℕ = drop 1 left in
    let size_of : length rest ≡ length left - 1 = length-drop 1 left in
    let P : List ℕ → Type 0 = λ t. IsFront g form n t in
    let Q : Form → Type 0 = λ f. IsFront (form_of true) f m left in
    let R : ℕ → Type 0 = λ k. IsFront (form_of true) form k left in
    let tail : IsFront g form n (drop 1 rest) = subst P (take_rest left 2 ∙ sym (drop-drop 1 1 left)) front in
    let head : get_or rest 0 0 ≡ v = get_or-drop 1 left 0 0 ∙ second in
    let inner : IsFront slash_form form (1 + n) rest =
    front_first slash_form form (1 + n) rest (omega (arith, size_of))
    (front_behind slash_form g form n (get_or rest 0 0) (drop 1 rest) (λ o. ap (λ b. slash_form (b ∷ o)) head ∙ same o) tail) in
    let outer : IsFront (form_of true) form (1 + (1 + n)) left =
    front_first (form_of true) form (1 + (1 + n)) left (omega arith)
    (front_behind (form_of true) slash_form form (1 + n) (get_or left 0 0) rest (λ o. form_slash true (get_or left 0 0) o first) inner) in
    subst Q (sym form_is) (subst R (sym size) outer)

-- a `/` that begins no comment
slash_mark : (rest o after : List ℕ) → rest ≡ o ++ after → (0 < length rest → (get_or rest 0 0 ≡ 47 → ⊥) × (get_or rest 0 0 ≡ 42 → ⊥)) → slash_form o ≡ mark_form (47 ∷ o)
slash_mark rest [] after split other = refl
slash_mark rest (b ∷ o) after split other =
    let first : get_or rest 0 0 ≡ b = ap (λ t. get_or t 0 0) split in
    let size : length rest ≡ length ((b ∷ o) ++ after) = ap length split in
    let some : 0 < length rest = omega (arith, size) in
    let not_slash : eqb b 47 ≡ false = let h : get_or rest 0 0 ≡ 47 → ⊥ = (other some).0 in grind (arith, nat_tests) in
    let not_star : eqb b 42 ≡ false = let h : get_or rest 0 0 ≡ 42 → ⊥ = (other some).1 in grind (arith, nat_tests) in
    rw (not_slash, not_star) refl

pub front_slash : (left : List ℕ) (form : Form) (n : ℕ) → 0 < length left → 0 < n → get_or left 0 0 ≡ 47
    → (1 < length left → (get_or left 1 0 ≡ 47 → ⊥) × (get_or left 1 0 ≡ 42 → ⊥))
    → IsFront mark_form form n left → IsFront (form_of true) form n left
front_slash left form n some long first other front =
    front_whole (form_of true) mark_form left form n some long
    (λ o rest split.
    form_slash true (get_or left 0 0) o first
    ∙ slash_mark (drop 1 left) o rest split (λ more. second more)
    ∙ ap (λ b. mark_form (b ∷ o)) (sym first))
    front
  where
    second : 0 < length (drop 1 left) → (get_or (drop 1 left) 0 0 ≡ 47 → ⊥) × (get_or (drop 1 left) 0 0 ≡ 42 → ⊥)
    second more =
        let size : length (drop 1 left) ≡ length left - 1 = length-drop 1 left in
        let two : (get_or left 1 0 ≡ 47 → ⊥) × (get_or left 1 0 ≡ 42 → ⊥) = other (omega (arith, size)) in
        let e : get_or (drop 1 left) 0 0 ≡ get_or left 1 0 = get_or-drop 1 left 0 0 in
        ((λ h. two.0 (sym e ∙ h)), (λ h. two.1 (sym e ∙ h)))

-- what begins by a `/` doesn't depend on the line
pub front_any_line : (alone : Bool) (left : List ℕ) (form : Form) (n : ℕ) → 0 < length left → 0 < n → get_or left 0 0 ≡ 47
    → IsFront (form_of true) form n left → IsFront (form_of alone) form n left
front_any_line alone left form n some long first front =
    front_whole (form_of alone) (form_of true) left form n some long
    (λ o rest split. form_slash alone (get_or left 0 0) o first ∙ sym (form_slash true (get_or left 0 0) o first)) front
