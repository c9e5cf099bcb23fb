-- How a text is cut into pieces is determined, and how a cut grows by one piece.
use Rattle.std.proofs.Common.{◌≡◌, ℕ, ◌+◌, ◌<◌, ◌≤◌, Bool, List, [], ◌∷◌, ◌++◌, length, Some, None, refl, sym, ◌∙◌, ap, subst, arith, append_assoc, append-nil}
use Rattle.c_text.specs.declared.Token.{Token}
use Rattle.c_text.specs.declared.form.Form.{Form}
use Rattle.c_text.specs.declared.form.Fault.{Fault}
use Rattle.c_text.specs.Forms.{form_of}
use Rattle.c_text.specs.Faults.{fault_in}
use Rattle.c_text.specs.Spelling.{Piece, IsNext, IsCut, alone_after, alone_after_all, bytes_in, token_in, tokens_in}

-- two prefixes of one text of the same length are the same, and so is what comes after them
pub same_split : (u v r s : List ℕ) → u ++ r ≡ v ++ s → length u ≡ length v → (u ≡ v) × (r ≡ s)
same_split [] [] r s e l = (refl, e)
same_split [] (y ∷ v) r s e l = absurd (omega arith)
same_split (x ∷ u) [] r s e l = absurd (omega arith)
same_split (x ∷ u) (y ∷ v) r s e l =
    let tails : u ++ r ≡ v ++ s = cc in
    let heads : x ≡ y = cc in
    let h : (u ≡ v) × (r ≡ s) = same_split u v r s tails (omega arith) in
    let words : x ∷ u ≡ y ∷ v = cc in
    (words, h.1)

same_piece : (p q : Piece) → p.form ≡ q.form → p.word ≡ q.word → p ≡ q
same_piece p q forms words =
    let made : Form → List ℕ → Piece = λ f w. record { form = f; word = w } in
    ap (λ f. made f p.word) forms ∙ ap (λ w. made q.form w) words

-- there is one next piece
pub next_same : (alone : Bool) (p q : Piece) (left r s : List ℕ) → IsNext alone p left r → IsNext alone q left s → (p ≡ q) × (r ≡ s)
next_same alone p q left r s h k =
    let e : p.word ++ r ≡ q.word ++ s = sym h.split ∙ k.split in
    let longer : length q.word ≤ length p.word = h.next.longest q.word s q.form e k.next.spelled in
    let shorter : length p.word ≤ length q.word = k.next.longest p.word r p.form (sym e) h.next.spelled in
    let both : (p.word ≡ q.word) × (r ≡ s) = same_split p.word q.word r s e (omega arith) in
    let words : p.word ≡ q.word = both.0 in
    let forms : Some p.form ≡ Some q.form = sym h.next.spelled ∙ ap (form_of alone) words ∙ k.next.spelled in
    let form : p.form ≡ q.form = cc in
    (same_piece p q form words, both.1)

no_form : (alone : Bool) (word : List ℕ) (f : Form) → word ≡ [] → form_of alone word ≡ Some f → ⊥
no_form alone [] f e h = cc
no_form alone (x ∷ word) f e h = cc

empty_word : (word after : List ℕ) → [] ≡ word ++ after → word ≡ []
empty_word [] after e = refl
empty_word (x ∷ word) after e = cc

some_word : (alone : Bool) (word : List ℕ) (f : Form) → form_of alone word ≡ Some f → 0 < length word
some_word alone [] f h = absurd cc
some_word alone (x ∷ word) f h = omega arith

-- a piece has at least one byte
pub next_some : (alone : Bool) (p : Piece) (left after : List ℕ) → IsNext alone p left after → 0 < length p.word
next_some alone p left after h = some_word alone p.word p.form h.next.spelled

-- nothing comes next where nothing is left
pub nothing_next : (alone : Bool) (p : Piece) (left after : List ℕ) → left ≡ [] → IsNext alone p left after → ⊥
nothing_next alone p left after e h = no_form alone p.word p.form (empty_word p.word after (sym e ∙ h.split)) h.next.spelled

cut_at : (a b : Bool) (l m : List ℕ) (ps : List Piece) (after : List ℕ) → a ≡ b → l ≡ m → IsCut a l ps after → IsCut b m ps after
cut_at a b l m ps after e f h =
    let P : Bool → Type 0 = λ c. IsCut c m ps after in
    let Q : List ℕ → Type 0 = λ n. IsCut a n ps after in
    subst P e (subst Q f h)

next_at : (a b : Bool) (l m : List ℕ) (p : Piece) (after : List ℕ) → a ≡ b → l ≡ m → IsNext a p l after → IsNext b p m after
next_at a b l m p after e f h =
    let P : Bool → Type 0 = λ c. IsNext c p m after in
    let Q : List ℕ → Type 0 = λ n. IsNext a p n after in
    subst P e (subst Q f h)

-- a whole text is cut in one way
pub whole_same : (alone : Bool) (left : List ℕ) (ps qs : List Piece) → IsCut alone left ps [] → IsCut alone left qs [] → ps ≡ qs
whole_same alone left [] [] h k = refl
whole_same alone left [] (q ∷ qs) h k = absurd (nothing_next alone q left k.0 h k.1)
whole_same alone left (p ∷ ps) [] h k = absurd (nothing_next alone p left h.0 k h.1)
whole_same alone left (p ∷ ps) (q ∷ qs) h k =
    let same : (p ≡ q) × (h.0 ≡ k.0) = next_same alone p q left h.0 k.0 h.1 k.1 in
    let alones : alone_after alone p ≡ alone_after alone q = ap (alone_after alone) same.0 in
    let moved : IsCut (alone_after alone q) k.0 ps [] = cut_at _ _ _ _ ps [] alones same.1 h.3 in
    let rest : ps ≡ qs = whole_same (alone_after alone q) k.0 ps qs moved k.3 in
    let first : p ≡ q = same.0 in
    cc

-- a text that is cut whole has no fault
pub whole_without_fault : (alone : Bool) (left : List ℕ) (ps qs : List Piece) (q : Piece) (l r : List ℕ) (f : Fault)
    → IsCut alone left ps [] → IsCut alone left qs l → IsNext (alone_after_all alone qs) q l r → fault_in q.form q.word ≡ Some f → ⊥
whole_without_fault alone left [] [] q l r f h k n e = nothing_next alone q l r (sym k ∙ h) n
whole_without_fault alone left [] (x ∷ qs) q l r f h k n e = nothing_next alone x left k.0 h k.1
whole_without_fault alone left (p ∷ ps) [] q l r f h k n e =
    let moved : IsNext alone q left r = next_at alone alone l left q r refl (sym k) n in
    let same : p ≡ q = (next_same alone p q left h.0 r h.1 moved).0 in
    let clean : fault_in p.form p.word ≡ None = h.2 in
    let faulty : fault_in p.form p.word ≡ Some f = ap (λ x. fault_in x.form x.word) same ∙ e in
    cc
whole_without_fault alone left (p ∷ ps) (x ∷ qs) q l r f h k n e =
    let same : (p ≡ x) × (h.0 ≡ k.0) = next_same alone p x left h.0 k.0 h.1 k.1 in
    let alones : alone_after alone p ≡ alone_after alone x = ap (alone_after alone) same.0 in
    let moved : IsCut (alone_after alone x) k.0 ps [] = cut_at _ _ _ _ ps [] alones same.1 h.3 in
    whole_without_fault (alone_after alone x) k.0 ps qs q l r f moved k.3 n e

-- there is one first fault
pub fault_same : (alone : Bool) (left : List ℕ) (ps qs : List Piece) (p q : Piece) (l m r s : List ℕ) (f g : Fault)
    → IsCut alone left ps l → IsNext (alone_after_all alone ps) p l r → fault_in p.form p.word ≡ Some f
    → IsCut alone left qs m → IsNext (alone_after_all alone qs) q m s → fault_in q.form q.word ≡ Some g
    → (bytes_in ps ≡ bytes_in qs) × (f ≡ g)
fault_same alone left [] [] p q l m r s f g h n e k o d =
    let moved : IsNext alone p m r = next_at alone alone l m p r refl (sym h ∙ k) n in
    let same : p ≡ q = (next_same alone p q m r s moved o).0 in
    let both : Some f ≡ Some g = sym e ∙ ap (λ x. fault_in x.form x.word) same ∙ d in
    (refl, cc)
fault_same alone left [] (x ∷ qs) p q l m r s f g h n e k o d =
    let moved : IsNext alone p left r = next_at alone alone l left p r refl (sym h) n in
    let same : x ≡ p = (next_same alone x p left k.0 r k.1 moved).0 in
    let clean : fault_in x.form x.word ≡ None = k.2 in
    let faulty : fault_in x.form x.word ≡ Some f = ap (λ y. fault_in y.form y.word) same ∙ e in
    absurd cc
fault_same alone left (x ∷ ps) [] p q l m r s f g h n e k o d =
    let moved : IsNext alone q left s = next_at alone alone m left q s refl (sym k) o in
    let same : x ≡ q = (next_same alone x q left h.0 s h.1 moved).0 in
    let clean : fault_in x.form x.word ≡ None = h.2 in
    let faulty : fault_in x.form x.word ≡ Some g = ap (λ y. fault_in y.form y.word) same ∙ d in
    absurd cc
fault_same alone left (x ∷ ps) (y ∷ qs) p q l m r s f g h n e k o d =
    let same : (x ≡ y) × (h.0 ≡ k.0) = next_same alone x y left h.0 k.0 h.1 k.1 in
    let alones : alone_after alone x ≡ alone_after alone y = ap (alone_after alone) same.0 in
    let moved : IsCut (alone_after alone y) k.0 ps l = cut_at _ _ _ _ ps l alones same.1 h.3 in
    let behind : IsNext (alone_after_all (alone_after alone y) ps) p l r =
    next_at _ _ l l p r (ap (λ a. alone_after_all a ps) alones) refl n in
    let rest : (bytes_in ps ≡ bytes_in qs) × (f ≡ g) =
    fault_same (alone_after alone y) k.0 ps qs p q l m r s f g moved behind e k.3 o d in
    let lengths : length x.word ≡ length y.word = ap (λ z. length z.word) same.0 in
    (omega (arith, lengths, rest.0), rest.1)

-- one more piece at the end
pub cut_more : (alone : Bool) (left : List ℕ) (ps : List Piece) (p : Piece) (l r : List ℕ)
    → IsCut alone left ps l → IsNext (alone_after_all alone ps) p l r → fault_in p.form p.word ≡ None
    → IsCut alone left (ps ++ p ∷ []) r
cut_more alone left [] p l r h n e = (r, next_at alone alone l left p r refl (sym h) n, e, refl)
cut_more alone left (x ∷ ps) p l r h n e = (h.0, h.1, h.2, cut_more (alone_after alone x) h.0 ps p l r h.3 n e)

pub alone_more : (alone : Bool) (ps : List Piece) (p : Piece) → alone_after_all alone (ps ++ p ∷ []) ≡ alone_after (alone_after_all alone ps) p
alone_more alone [] p = refl
alone_more alone (x ∷ ps) p = alone_more (alone_after alone x) ps p

pub bytes_more : (ps : List Piece) (p : Piece) → bytes_in (ps ++ p ∷ []) ≡ bytes_in ps + length p.word
bytes_more [] p = omega arith
bytes_more (x ∷ ps) p = omega (arith, bytes_more ps p)

pub tokens_more : (place : ℕ) (ps : List Piece) (p : Piece) → tokens_in place (ps ++ p ∷ []) ≡ tokens_in place ps ++ token_in (place + bytes_in ps) p.form (length p.word)
tokens_more place [] p =
    append-nil _ ∙ ap (λ n. token_in n p.form (length p.word)) (let e : place ≡ place + 0 = omega arith in e)
tokens_more place (x ∷ ps) p =
    let first : List Token = token_in place x.form (length x.word) in
    let later : List Token = tokens_in (place + length x.word) ps in
    let e : (place + length x.word) + bytes_in ps ≡ place + (length x.word + bytes_in ps) = omega arith in
    ap (λ t. first ++ t) (tokens_more (place + length x.word) ps p)
    ∙ sym (append_assoc first later (token_in ((place + length x.word) + bytes_in ps) p.form (length p.word)))
    ∙ ap (λ n. (first ++ later) ++ token_in n p.form (length p.word)) e
