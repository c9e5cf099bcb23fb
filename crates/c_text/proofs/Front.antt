-- The longest word at the front of a text, by the form that its first byte allows.
use Rattle.std.proofs.Common.{◌≡◌, ℕ, zero, suc, ◌+◌, ◌<◌, ◌≤◌, Bool, true, false, ◌&&◌, cond, List, [], ◌∷◌, ◌++◌, length, take, drop, get_or, Option, Some, None, refl, sym, ◌∙◌, ap, subst, arith}
use Rattle.std.specs.List.{prefix_len, list_all}
use Rattle.std.proofs.lemmas.List.{take-append-drop, drop_more, length-take-le}
use Rattle.std.proofs.lemmas.List.Sums.{prefix_len-le-length}
use Rattle.c_text.specs.declared.form.Form.{Form}
use Rattle.c_text.specs.Ends.{IsOnlyEnd}
use Rattle.c_text.specs.Forms.{when, is_empty, closed_or}
use Rattle.c_text.specs.Spelling.{IsFront}

pub front_of : (g : List ℕ → Option Form) (form : Form) (n : ℕ) (text : List ℕ) → n ≤ length text → g (take n text) ≡ Some form
    → ((word rest : List ℕ) (f : Form) → text ≡ word ++ rest → g word ≡ Some f → length word ≤ n)
    → IsFront g form n text
front_of g form n text inside spelled longest =
    let size : length (take n text) ≡ n = length-take-le n text inside in
    record {
      within = inside;
      front = record {
        spelled = spelled;
        longest = λ other rest f split h.
            let bound : length other ≤ n = longest other rest f (sym (take-append-drop n text) ∙ split) h in
            omega (arith, size, bound);
      };
    }

-- what a front says of its text
pub front_longest : (g : List ℕ → Option Form) (form : Form) (n : ℕ) (text : List ℕ) → IsFront g form n text
    → (word rest : List ℕ) (f : Form) → text ≡ word ++ rest → g word ≡ Some f → length word ≤ n
front_longest g form n text h word rest f split spelled =
    let size : length (take n text) ≡ n = length-take-le n text h.within in
    let bound : length word ≤ length (take n text) = h.front.longest word rest f (take-append-drop n text ∙ split) spelled in
    omega (arith, size, bound)

pub when_holds : (t : Bool) (form f : Form) → when t form ≡ Some f → t ≡ true
when_holds true form f h = refl
when_holds false form f h = absurd cc

take_one : (x n : ℕ) (xs : List ℕ) → take (1 + n) (x ∷ xs) ≡ x ∷ take n xs
take_one x n xs = let e : 1 + n ≡ suc n = omega arith in ap (λ k. take k (x ∷ xs)) e

drop_one : (x n : ℕ) (xs : List ℕ) → drop (1 + n) (x ∷ xs) ≡ drop n xs
drop_one x n xs = let e : 1 + n ≡ suc n = omega arith in ap (λ k. drop k (x ∷ xs)) e

run_all_at : (t : Bool) (p : ℕ → Bool) (x n : ℕ) (xs : List ℕ) → p x ≡ t → list_all p (take n xs) ≡ true
    → list_all p (take (cond t (1 + n) 0) (x ∷ xs)) ≡ true
run_all_at true p x n xs e h = ap (list_all p) (take_one x n xs) ∙ rw e h
run_all_at false p x n xs e h = refl

-- every byte of the longest run passes, and no word of such bytes is longer
pub run_all : (p : ℕ → Bool) (xs : List ℕ) → list_all p (take (prefix_len p xs) xs) ≡ true
run_all p [] = refl
run_all p (x ∷ xs) = run_all_at (p x) p x (prefix_len p xs) xs refl (run_all p xs)

run_longest_at : (t u : Bool) (m n : ℕ) → (t && u) ≡ true → (u ≡ true → m ≤ n) → suc m ≤ cond t (1 + n) 0
run_longest_at true u m n h later = let e : m ≤ n = later h in omega (arith, e)
run_longest_at false u m n h later = absurd cc

pub run_longest : (p : ℕ → Bool) (word rest : List ℕ) → list_all p word ≡ true → length word ≤ prefix_len p (word ++ rest)
run_longest p [] rest h = omega arith
run_longest p (x ∷ word) rest h = run_longest_at (p x) (list_all p word) (length word) (prefix_len p (word ++ rest)) h (run_longest p word rest)

pub front_run : (p : ℕ → Bool) (k : List ℕ → Form) (text : List ℕ)
    → IsFront (λ word. when (list_all p word) (k word)) (k (take (prefix_len p text) text)) (prefix_len p text) text
front_run p k text =
    front_of (λ word. when (list_all p word) (k word)) (k (take (prefix_len p text) text)) (prefix_len p text) text
    (prefix_len-le-length p text)
    (rw (run_all p text) refl)
    (λ word rest f split h.
    let passes : list_all p word ≡ true = when_holds (list_all p word) (k word) f h in
    let bound : length word ≤ prefix_len p (word ++ rest) = run_longest p word rest passes in
    let same : prefix_len p text ≡ prefix_len p (word ++ rest) = ap (prefix_len p) split in
    omega (arith, bound, same))

-- a form of nothing more than the first byte
pub front_empty : (form : Form) (text : List ℕ) → IsFront (λ word. when (is_empty word) form) form 0 text
front_empty form text = front_of (λ word. when (is_empty word) form) form 0 text (omega arith) refl (λ word rest f split h. at_most word f h)
  where
    at_most : (word : List ℕ) (f : Form) → when (is_empty word) form ≡ Some f → length word ≤ 0
    at_most [] f h = omega arith
    at_most (x ∷ word) f h = absurd cc

-- one byte more in front
pub front_behind : (h g : List ℕ → Option Form) (form : Form) (n b : ℕ) (text : List ℕ) → ((o : List ℕ) → h (b ∷ o) ≡ g o)
    → IsFront g form n text → IsFront h form (1 + n) (b ∷ text)
front_behind h g form n b text same front =
    let inside : n ≤ length text = front.within in
    front_of h form (1 + n) (b ∷ text) (omega arith)
    (ap h (take_one b n text) ∙ same (take n text) ∙ front.front.spelled)
    (λ word rest f split spelled. at_most word rest f split spelled)
  where
    at_most : (word rest : List ℕ) (f : Form) → b ∷ text ≡ word ++ rest → h word ≡ Some f → length word ≤ 1 + n
    at_most [] rest f split spelled = omega arith
    at_most (x ∷ word) rest f split spelled =
        let first : b ≡ x = cc in
        let later : text ≡ word ++ rest = cc in
        let tail : g word ≡ Some f = sym (same word) ∙ ap (λ y. h (y ∷ word)) first ∙ spelled in
        let bound : length word ≤ n = front_longest g form n text front word rest f later tail in
        omega (arith, bound)

-- the same at two descriptions that agree on what begins by the first byte
pub front_same : (h g : List ℕ → Option Form) (form : Form) (n b : ℕ) (text : List ℕ)
    → ((o rest : List ℕ) → text ≡ o ++ rest → h (b ∷ o) ≡ g (b ∷ o))
    → 0 < n → IsFront g form n (b ∷ text) → IsFront h form n (b ∷ text)
front_same h g form zero b text same some front = absurd (omega arith)
front_same h g form (suc n) b text same some front =
    front_of h form (suc n) (b ∷ text) front.within
    (same (take n text) (drop n text) (sym (take-append-drop n text)) ∙ front.front.spelled)
    (λ word rest f split spelled. at_most word rest f split spelled)
  where
    at_most : (word rest : List ℕ) (f : Form) → b ∷ text ≡ word ++ rest → h word ≡ Some f → length word ≤ suc n
    at_most [] rest f split spelled = omega arith
    at_most (x ∷ word) rest f split spelled =
        let first : b ≡ x = cc in
        let later : text ≡ word ++ rest = cc in
        let tail : g (b ∷ word) ≡ Some f = sym (same word rest later) ∙ ap (λ y. h (y ∷ word)) first ∙ spelled in
        let whole : b ∷ text ≡ (b ∷ word) ++ rest = ap (λ t. b ∷ t) later in
        let bound : length (b ∷ word) ≤ suc n = front_longest g form (suc n) (b ∷ text) front (b ∷ word) rest f whole tail in
        bound

pub front_first : (h : List ℕ → Option Form) (form : Form) (n : ℕ) (left : List ℕ) → 0 < length left
    → IsFront h form n (get_or left 0 0 ∷ drop 1 left) → IsFront h form n left
front_first h form n left some front =
    let P : List ℕ → Type 0 = λ t. IsFront h form n t in
    let e : left ≡ get_or left 0 0 ∷ drop 1 left = drop_more left 0 0 some in
    subst P (sym e) front

closed_spelled : (test : List ℕ → Bool) (form unclosed : Form) (word : List ℕ) → test [] ≡ false → test word ≡ true → closed_or test form unclosed word ≡ Some form
closed_spelled test form unclosed [] never h = absurd cc
closed_spelled test form unclosed (x ∷ word) never h = rw h refl

closed_holds : (test : List ℕ → Bool) (form unclosed f : Form) (x : ℕ) (word : List ℕ) → closed_or test form unclosed (x ∷ word) ≡ Some f → test (x ∷ word) ≡ true
closed_holds test form unclosed f x word h = when_holds (test (x ∷ word)) form f h

pub front_closed : (test : List ℕ → Bool) (form unclosed : Form) (n : ℕ) (text : List ℕ) → test [] ≡ false → IsOnlyEnd test (Some n) text
    → IsFront (closed_or test form unclosed) form n text
front_closed test form unclosed n text never h =
    front_of (closed_or test form unclosed) form n text h.0
    (closed_spelled test form unclosed (take n text) never h.1)
    (λ word rest f split spelled. at_most word rest f split spelled)
  where
    at_most : (word rest : List ℕ) (f : Form) → text ≡ word ++ rest → closed_or test form unclosed word ≡ Some f → length word ≤ n
    at_most [] rest f split spelled = omega arith
    at_most (x ∷ word) rest f split spelled =
        let e : length (x ∷ word) ≡ n = h.2 (x ∷ word) rest split (closed_holds test form unclosed f x word spelled) in
        omega (arith, e)

pub front_unclosed : (test : List ℕ → Bool) (form unclosed : Form) (text : List ℕ) → IsOnlyEnd test None text
    → IsFront (closed_or test form unclosed) unclosed 0 text
front_unclosed test form unclosed text h =
    front_of (closed_or test form unclosed) unclosed 0 text (omega arith) refl (λ word rest f split spelled. at_most word rest f split spelled)
  where
    at_most : (word rest : List ℕ) (f : Form) → text ≡ word ++ rest → closed_or test form unclosed word ≡ Some f → length word ≤ 0
    at_most [] rest f split spelled = omega arith
    at_most (x ∷ word) rest f split spelled = absurd (h (x ∷ word) rest split (closed_holds test form unclosed f x word spelled))
