-- How far a text has been cut, and what that says of its tokens and its first fault.
use Rattle.std.proofs.Common.{◌≡◌, ℕ, ◌+◌, ◌-◌, ◌≤◌, Bool, true, List, [], ◌∷◌, ◌++◌, length, take, drop, Some, None, refl, sym, ◌∙◌, ap, subst, arith}
use Rattle.std.proofs.lemmas.List.{take-append-drop, drop-drop, drop_all, length-take-le, length-drop}
use Rattle.c_text.specs.declared.Token.{Token}
use Rattle.c_text.specs.declared.form.Form.{Form}
use Rattle.c_text.specs.declared.form.Fault.{Fault}
use Rattle.c_text.specs.Forms.{form_of}
use Rattle.c_text.specs.Faults.{fault_in}
use Rattle.c_text.specs.Spelling.{Piece, IsFront, IsNext, IsCut, IsSpelled, IsFirstFault, alone_after, alone_after_all, bytes_in, token_in, tokens_in}
use Rattle.c_text.proofs.Cut.{whole_same, whole_without_fault, fault_same, cut_more, alone_more, bytes_more, tokens_more}

-- the text is cut up to a place; its tokens so far are found
pub record Reached (source : List ℕ) (at : ℕ) (alone : Bool) (found : List Token) : Type 0 where
  pub pieces : List Piece
  pub cut : IsCut true source pieces (drop at source)
  pub alone_is : alone ≡ alone_after_all true pieces
  pub at_is : at ≡ bytes_in pieces
  pub found_is : found ≡ tokens_in 0 pieces

abbrev pub piece : Form → ℕ → List ℕ → Piece
piece form n left = record { form = form; word = take n left }

next_of : (alone : Bool) (form : Form) (n : ℕ) (left : List ℕ) → IsFront (form_of alone) form n left → IsNext alone (piece form n left) left (drop n left)
next_of alone form n left h = record { split = sym (take-append-drop n left); next = h.front }

next_along : (a b : Bool) (p : Piece) (left after : List ℕ) → a ≡ b → IsNext a p left after → IsNext b p left after
next_along a b p left after e h = let P : Bool → Type 0 = λ c. IsNext c p left after in subst P e h

pub reached_start : (source : List ℕ) → Reached source 0 true []
reached_start source = record { pieces = []; cut = refl; alone_is = refl; at_is = refl; found_is = refl }

pub reached_more : (source : List ℕ) (at : ℕ) (alone : Bool) (found : List Token) (form : Form) (n : ℕ)
    → Reached source at alone found → IsFront (form_of alone) form n (drop at source) → fault_in form (take n (drop at source)) ≡ None
    → Reached source (at + n) (alone_after alone (piece form n (drop at source))) (found ++ token_in at form n)
reached_more source at alone found form n r front clean =
    let p : Piece = piece form n (drop at source) in
    let ps : List Piece = r.pieces in
    let next : IsNext (alone_after_all true ps) p (drop at source) (drop n (drop at source)) =
    next_along alone (alone_after_all true ps) p _ _ r.alone_is (next_of alone form n (drop at source) front) in
    let longer : IsCut true source (ps ++ p ∷ []) (drop n (drop at source)) = cut_more true source ps p _ _ r.cut next clean in
    let P : List ℕ → Type 0 = λ t. IsCut true source (ps ++ p ∷ []) t in
    let size : length p.word ≡ n = length-take-le n (drop at source) front.within in
    record {
      pieces = ps ++ p ∷ [];
      cut = subst P (drop-drop n at source) longer;
      alone_is = ap (λ a. alone_after a p) r.alone_is ∙ sym (alone_more true ps p);
      at_is = (let e : bytes_in (ps ++ p ∷ []) ≡ bytes_in ps + length p.word = bytes_more ps p in omega (arith, e, size, r.at_is));
      found_is =
          ap (λ t. t ++ token_in at form n) r.found_is
          ∙ ap (λ m. tokens_in 0 ps ++ token_in m form n) (let e : at ≡ 0 + bytes_in ps = omega (arith, r.at_is) in e)
          ∙ ap (λ m. tokens_in 0 ps ++ token_in (0 + bytes_in ps) form m) (sym size)
          ∙ sym (tokens_more 0 ps p);
    }

pub reached_end : (source : List ℕ) (at : ℕ) (alone : Bool) (found : List Token) → Reached source at alone found → length source ≤ at → IsSpelled source found
reached_end source at alone found r h =
    let P : List ℕ → Type 0 = λ t. IsCut true source r.pieces t in
    (r.pieces, subst P (drop_all at source h) r.cut, r.found_is)

pub reached_fault : (source : List ℕ) (at : ℕ) (alone : Bool) (found : List Token) (form : Form) (n : ℕ) (f : Fault)
    → Reached source at alone found → IsFront (form_of alone) form n (drop at source) → fault_in form (take n (drop at source)) ≡ Some f
    → IsFirstFault source f.number (at + f.offset)
reached_fault source at alone found form n f r front faulty =
    let p : Piece = piece form n (drop at source) in
    let ps : List Piece = r.pieces in
    let next : IsNext (alone_after_all true ps) p (drop at source) (drop n (drop at source)) =
    next_along alone (alone_after_all true ps) p _ _ r.alone_is (next_of alone form n (drop at source) front) in
    let place : at + f.offset ≡ bytes_in ps + f.offset = ap (λ m. m + f.offset) r.at_is in
    (ps, p, drop at source, drop n (drop at source), r.cut, record { next = next; faulty = (f, faulty, refl, place) })

-- a text is spelled as one list of tokens
pub spelled_same : (source : List ℕ) (ts us : List Token) → IsSpelled source ts → IsSpelled source us → ts ≡ us
spelled_same source ts us h k =
    h.2 ∙ ap (tokens_in 0) (whole_same true source h.0 k.0 h.1 k.1) ∙ sym k.2

-- a spelled text has no fault
pub spelled_without_fault : (source : List ℕ) (ts : List Token) (n p : ℕ) → IsSpelled source ts → IsFirstFault source n p → ⊥
spelled_without_fault source ts n p h k =
    whole_without_fault true source h.0 k.0 k.1 k.2 k.3 k.5.faulty.0 h.1 k.4 k.5.next k.5.faulty.1

-- and a text has one first fault
pub first_fault_same : (source : List ℕ) (n p m q : ℕ) → IsFirstFault source n p → IsFirstFault source m q → (n ≡ m) × (p ≡ q)
first_fault_same source n p m q h k =
    let same : (bytes_in h.0 ≡ bytes_in k.0) × (h.5.faulty.0 ≡ k.5.faulty.0) =
    fault_same true source h.0 k.0 h.1 k.1 h.2 k.2 h.3 k.3 h.5.faulty.0 k.5.faulty.0 h.4 h.5.next h.5.faulty.1 k.4 k.5.next k.5.faulty.1 in
    let numbers : h.5.faulty.0.number ≡ k.5.faulty.0.number = ap (λ f. f.number) same.1 in
    let offsets : h.5.faulty.0.offset ≡ k.5.faulty.0.offset = ap (λ f. f.offset) same.1 in (
      h.5.faulty.2 ∙ numbers ∙ sym k.5.faulty.2,
      (let a : p ≡ bytes_in h.0 + h.5.faulty.0.offset = h.5.faulty.3 in
          let b : q ≡ bytes_in k.0 + k.5.faulty.0.offset = k.5.faulty.3 in omega (arith, a, b, same.0, offsets)),
    )

-- the same of what the code calls what is left
pub step_fault : (source : List ℕ) (at : ℕ) (alone : Bool) (found : List Token) (form : Form) (n : ℕ) (f : Fault) (left : List ℕ) → left ≡ drop at source
    → Reached source at alone found → IsFront (form_of alone) form n left → fault_in form (take n left) ≡ Some f
    → IsFirstFault source f.number (at + f.offset)
step_fault source at alone found form n f left e r front faulty =
    let P : List ℕ → Type 0 = λ t. IsFront (form_of alone) form n t in
    reached_fault source at alone found form n f r (subst P e front) (ap (λ t. fault_in form (take n t)) (sym e) ∙ faulty)

pub step_more : (source : List ℕ) (at : ℕ) (alone : Bool) (found : List Token) (form : Form) (n : ℕ) (left : List ℕ) (alone' : Bool) (found' : List Token)
    → left ≡ drop at source → Reached source at alone found → IsFront (form_of alone) form n left → fault_in form (take n left) ≡ None
    → alone' ≡ alone_after alone (record { form = form; word = take n left }) → found' ≡ found ++ token_in at form n
    → Reached source (at + n) alone' found'
step_more source at alone found form n left alone' found' e r front clean alone_is found_is =
    let P : List ℕ → Type 0 = λ t. IsFront (form_of alone) form n t in
    let Q : Bool → Type 0 = λ a. Reached source (at + n) a found' in
    let R : List Token → Type 0 = λ t. Reached source (at + n) (alone_after alone (piece form n (drop at source))) t in
    let next : Reached source (at + n) (alone_after alone (piece form n (drop at source))) (found ++ token_in at form n) =
    reached_more source at alone found form n r (subst P e front) (ap (λ t. fault_in form (take n t)) (sym e) ∙ clean) in
    subst Q (ap (λ t. alone_after alone (piece form n t)) (sym e) ∙ sym alone_is) (subst R (sym found_is) next)

pub step_within : (source : List ℕ) (at : ℕ) (alone : Bool) (form : Form) (n : ℕ) (left : List ℕ) → left ≡ drop at source → at ≤ length source
    → IsFront (form_of alone) form n left → at + n ≤ length source
step_within source at alone form n left e inside front =
    let size : length left ≡ length source - at = ap length e ∙ length-drop at source in
    let bound : n ≤ length left = front.within in
    omega (arith, size, bound)
