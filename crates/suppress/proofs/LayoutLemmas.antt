-- Pieces laid out in a text, taken one at a time: the first place of each piece leaves the most.
use Rattle.std.proofs.Common.{◌≡◌, ℕ, ◌+◌, ◌-◌, ◌≤◌, Bool, true, false, List, [], ◌∷◌, ◌++◌, length, take, drop, Some, sym, refl, ap, ◌∙◌, subst, arith, add-one, get_or, eqb, ◌<◌, ◌↔◌, IsTrue, slice_get}
use Rattle.std.specs.List.{ends_with}
use Rattle.std.proofs.lemmas.List.{append-nil, append_assoc, append_cancel_left, length-append, take-append-drop, drop_at, drop-drop, drop_more, drop_all}
use Rattle.std.proofs.lemmas.Slice.Eq.{ends_is}
use Rattle.std.proofs.lemmas.Bool.Decides.{Decides-eqb}
use Rattle.suppress.specs.Layout.{laid_out, IsLaidOut}
use Rattle.suppress.specs.Occurrence.{IsNowhere, IsAfterFirst}

-- the pieces follow in the text: each after a run, and nothing after the last where the end is anchored
abbrev pub Follows : Bool → List (List ℕ) → List ℕ → Type 0
Follows anchored_end [] text = IsTrue anchored_end → text ≡ []
Follows anchored_end (piece ∷ pieces) text =
    (run : List ℕ) × (rest : List ℕ) × (text ≡ run ++ (piece ++ rest)) × Follows anchored_end pieces rest

no_end_of_false : {P : Type 0} → IsTrue false → P
no_end_of_false h = absurd (cc h)

-- the runs of a layout taken one at a time
Follows-laid_out : (e : Bool) (pieces runs : List (List ℕ)) (text : List ℕ) → length runs ≡ length pieces + 1 → text ≡ laid_out runs pieces → (IsTrue e → slice_get runs (length pieces) ≡ Some []) → Follows e pieces text
Follows-laid_out e [] [] text more is last = absurd (omega arith)
Follows-laid_out e [] (run ∷ runs) text more is last = λ h. let same : Some run ≡ Some [] = last h in cc
Follows-laid_out e (piece ∷ pieces) [] text more is last = absurd (omega arith)
Follows-laid_out e (piece ∷ pieces) (run ∷ runs) text more is last =
    (run, laid_out runs pieces, is, Follows-laid_out e pieces runs (laid_out runs pieces) (omega arith) refl last)

pub Follows-IsLaidOut : (e : Bool) (pieces : List (List ℕ)) (text : List ℕ) → IsLaidOut false e pieces text → Follows e pieces text
Follows-IsLaidOut e pieces text h = Follows-laid_out e pieces h.runs text h.one_more h.text_is h.last_run

pub IsLaidOut-Follows : (e : Bool) (pieces : List (List ℕ)) (text : List ℕ) → Follows e pieces text → IsLaidOut false e pieces text
IsLaidOut-Follows e [] text h = record {
  runs = text ∷ [];
  one_more = omega arith;
  text_is = refl;
  first_run = λ f. no_end_of_false f;
  last_run = λ t. ap Some (h t);
}
IsLaidOut-Follows e (piece ∷ pieces) text h =
    let later = IsLaidOut-Follows e pieces h.1 h.3 in
    record {
      runs = h.0 ∷ later.runs;
      one_more = omega (arith, later.one_more);
      text_is = h.2 ∙ ap (λ (rest : List ℕ). h.0 ++ (piece ++ rest)) later.text_is;
      first_run = λ f. no_end_of_false f;
      last_run = later.last_run;
    }

-- an anchored start: the first piece begins the text, and the others follow in what is left
prefix_of_layout : (e : Bool) (piece : List ℕ) (pieces runs : List (List ℕ)) (text : List ℕ) → length runs ≡ length pieces + 1 + 1 → text ≡ laid_out runs (piece ∷ pieces) → slice_get runs 0 ≡ Some [] → (IsTrue e → slice_get runs (length pieces + 1) ≡ Some []) → (rest : List ℕ) × (text ≡ piece ++ rest) × Follows e pieces rest
prefix_of_layout e piece pieces [] text more is first last = absurd (omega arith)
prefix_of_layout e piece pieces (run ∷ runs) text more is first last =
    let same : Some run ≡ Some [] = first in
    let empty : run ≡ [] = cc in
    let none : text ≡ [] ++ (piece ++ laid_out runs pieces) = is ∙ ap (λ (r : List ℕ). r ++ (piece ++ laid_out runs pieces)) empty in
    (laid_out runs pieces, none, Follows-laid_out e pieces runs (laid_out runs pieces) (omega arith) refl (rw add-one at last))

pub prefix_of_IsLaidOut : (e : Bool) (piece : List ℕ) (pieces : List (List ℕ)) (text : List ℕ) → IsLaidOut true e (piece ∷ pieces) text → (rest : List ℕ) × (text ≡ piece ++ rest) × IsLaidOut false e pieces rest
prefix_of_IsLaidOut e piece pieces text h =
    let parts = prefix_of_layout e piece pieces h.runs text (omega (arith, h.one_more)) h.text_is (h.first_run refl) (rw add-one h.last_run) in
    (parts.0, parts.1, IsLaidOut-Follows e pieces parts.0 parts.2)

pub IsLaidOut_after_prefix : (e : Bool) (piece : List ℕ) (pieces : List (List ℕ)) (text rest : List ℕ) → text ≡ piece ++ rest → IsLaidOut false e pieces rest → IsLaidOut true e (piece ∷ pieces) text
IsLaidOut_after_prefix e piece pieces text rest is h = record {
  runs = [] ∷ h.runs;
  one_more = omega (arith, h.one_more);
  text_is = is ∙ ap (λ (r : List ℕ). piece ++ r) h.text_is;
  first_run = λ _. refl;
  last_run = h.last_run;
}

-- with no piece, an anchored start leaves the empty text alone
no_run_left : (runs : List (List ℕ)) (text : List ℕ) → text ≡ laid_out runs [] → slice_get runs 0 ≡ Some [] → text ≡ []
no_run_left [] text is first = is
no_run_left (run ∷ runs) text is first = let same : Some run ≡ Some [] = first in cc

pub empty_from_IsLaidOut : (e : Bool) (text : List ℕ) → IsLaidOut true e [] text → text ≡ []
empty_from_IsLaidOut e text h = no_run_left h.runs text h.text_is (h.first_run refl)

pub IsLaidOut_empty : (e : Bool) (text : List ℕ) → text ≡ [] → IsLaidOut true e [] text
IsLaidOut_empty e text is = record {
  runs = [] ∷ [];
  one_more = omega arith;
  text_is = is;
  first_run = λ _. refl;
  last_run = λ _. refl;
}

-- of two places of a piece, what follows the later one ends what follows the earlier one
rest_of_later_place : (piece run rest other later : List ℕ) → run ++ (piece ++ rest) ≡ other ++ (piece ++ later) → length run ≤ length other → (skipped : List ℕ) × (rest ≡ skipped ++ later)
rest_of_later_place piece run rest other later same order =
    let n : ℕ = length run + length piece in
    let d : ℕ = length other - length run in
    let here : drop n ((run ++ piece) ++ rest) ≡ rest = drop_at (run ++ piece) rest n (length-append run piece) in
    let there : drop (n + d) ((other ++ piece) ++ later) ≡ later = drop_at (other ++ piece) later (n + d) (omega (arith, length-append other piece)) in
    let whole : (run ++ piece) ++ rest ≡ (other ++ piece) ++ later = append_assoc run piece rest ∙ same ∙ sym (append_assoc other piece later) in
    let step : drop d rest ≡ later =
    ap (drop d) (sym here) ∙ drop-drop d n ((run ++ piece) ++ rest) ∙ ap (drop (n + d)) whole ∙ there in
    (take d rest, sym (take-append-drop d rest) ∙ ap (λ (r : List ℕ). take d rest ++ r) step)

-- a longer first run does not matter to pieces of which one is left
Follows-append : (e : Bool) (skipped text : List ℕ) (piece : List ℕ) (pieces : List (List ℕ)) → Follows e (piece ∷ pieces) text → Follows e (piece ∷ pieces) (skipped ++ text)
Follows-append e skipped text piece pieces h =
    (skipped ++ h.0, h.1, ap (λ (t : List ℕ). skipped ++ t) h.2 ∙ sym (append_assoc skipped h.0 (piece ++ h.1)), h.3)

-- the first place of a piece is enough: whatever follows after some place of it follows after the first
first_place_enough : (e : Bool) (piece next : List ℕ) (pieces : List (List ℕ)) (text rest : List ℕ) → IsAfterFirst piece text rest → Follows e (piece ∷ next ∷ pieces) text → Follows e (next ∷ pieces) rest
first_place_enough e piece next pieces text rest first h =
    let suffix = rest_of_later_place piece first.run rest h.0 h.1 (sym first.place ∙ h.2) (first.first h.0 h.1 h.2) in
    subst (λ (t : List ℕ). Follows e (next ∷ pieces) t) (sym suffix.1) (Follows-append e suffix.0 h.1 next pieces h.3)

pub Follows_more : (e : Bool) (piece : List ℕ) (more : List (List ℕ)) (last text rest : List ℕ) → IsAfterFirst piece text rest → Follows e (piece ∷ (more ++ last ∷ [])) text → Follows e (more ++ last ∷ []) rest
Follows_more e piece [] last text rest first h = first_place_enough e piece last [] text rest first h
Follows_more e piece (next ∷ more) last text rest first h = first_place_enough e piece next (more ++ last ∷ []) text rest first h

pub Follows_less : (e : Bool) (piece : List ℕ) (pieces : List (List ℕ)) (text rest : List ℕ) → IsAfterFirst piece text rest → Follows e pieces rest → Follows e (piece ∷ pieces) text
Follows_less e piece pieces text rest first h = (first.run, rest, first.place, h)

pub Follows_nowhere : (e : Bool) (piece : List ℕ) (pieces : List (List ℕ)) (text : List ℕ) → IsNowhere piece text → Follows e (piece ∷ pieces) text → ⊥
Follows_nowhere e piece pieces text nowhere h = nowhere h.0 h.1 h.2

-- no piece at all: the text is one run, empty where the end is anchored
pub IsLaidOut_none : (e : Bool) (pieces : List (List ℕ)) (text : List ℕ) → length pieces ≡ 0 → (IsTrue e → text ≡ []) → IsLaidOut false e pieces text
IsLaidOut_none e [] text none h = IsLaidOut-Follows e [] text h
IsLaidOut_none e (piece ∷ pieces) text none h = absurd (omega arith)

pub none_of_IsLaidOut : (e : Bool) (pieces : List (List ℕ)) (text : List ℕ) → length pieces ≡ 0 → IsLaidOut false e pieces text → IsTrue e → text ≡ []
none_of_IsLaidOut e [] text none h = Follows-IsLaidOut e [] text h
none_of_IsLaidOut e (piece ∷ pieces) text none h = absurd (omega arith)

-- the piece at a place of the list, and what is left after its first place in the text
pub Follows_step : (e : Bool) (front : List (List ℕ)) (index : ℕ) (last piece text rest : List ℕ) → index < length front → piece ≡ get_or front index piece → IsAfterFirst piece text rest → Follows e (drop (index + 1) front ++ last ∷ []) rest ↔ Follows e (drop index front ++ last ∷ []) text
Follows_step e front index last piece text rest below is first =
    let cut : drop index front ≡ piece ∷ drop (index + 1) front = drop_more front index piece below ∙ ap (λ (p : List ℕ). p ∷ drop (index + 1) front) (sym is) in
    let more : List (List ℕ) = drop (index + 1) front in
    rw cut (Follows_less e piece (more ++ last ∷ []) text rest first, Follows_more e piece more last text rest first)

-- the last piece under an anchored end: the text ends with it
pub Follows_last : (e : Bool) (front : List (List ℕ)) (index : ℕ) (last text : List ℕ) (r : Bool) → e ≡ true → length front ≤ index → r ≡ ends_with eqb text last → IsTrue r ↔ Follows e (drop index front ++ last ∷ []) text
Follows_last e front index last text r anchored past is =
    let ends = ends_is Decides-eqb text last r is in
    rw (drop_all index front past, anchored) (
      λ h. (take (length text - length last) text, [], ends.0 h ∙ ap (λ (t : List ℕ). take (length text - length last) text ++ t) (sym (append-nil last)), λ _. refl),
      λ h. ends.1 h.0 (h.2 ∙ ap (λ (t : List ℕ). h.0 ++ t) (ap (λ (t : List ℕ). last ++ t) (h.3 refl) ∙ append-nil last)),
    )

-- an anchored start, by what the text begins with
pub IsLaidOut_after_start : (start e : Bool) (first : List ℕ) (pieces later : List (List ℕ)) (text rest : List ℕ) (r : Bool) → start ≡ true → pieces ≡ first ∷ later → text ≡ first ++ rest → IsTrue r ↔ IsLaidOut false e later rest → IsTrue r ↔ IsLaidOut start e pieces text
IsLaidOut_after_start start e first pieces later text rest r anchored pieces_are text_is answer = rw (anchored, pieces_are) (
  λ h. IsLaidOut_after_prefix e first later text rest text_is (answer.0 h),
  λ h.
      let parts = prefix_of_IsLaidOut e first later text h in
      let same : parts.0 ≡ rest = append_cancel_left first parts.0 rest (sym parts.1 ∙ text_is) in
      answer.1 (subst (λ (t : List ℕ). IsLaidOut false e later t) same parts.2),
)

pub no_prefix_of_IsLaidOut : (start e : Bool) (first : List ℕ) (pieces later : List (List ℕ)) (text : List ℕ) → start ≡ true → pieces ≡ first ∷ later → ((rest : List ℕ) → text ≡ first ++ rest → ⊥) → IsLaidOut start e pieces text → ⊥
no_prefix_of_IsLaidOut start e first pieces later text anchored pieces_are none h =
    let parts = prefix_of_IsLaidOut e first later text (rw (anchored, pieces_are) at h) in
    none parts.0 parts.1

-- an anchored start with no piece at all
pub IsLaidOut_at_start : (start e : Bool) (pieces : List (List ℕ)) (text : List ℕ) → start ≡ true → length pieces ≡ 0 → (text ≡ []) ↔ IsLaidOut start e pieces text
IsLaidOut_at_start start e [] text anchored none = rw anchored (IsLaidOut_empty e text, empty_from_IsLaidOut e text)
IsLaidOut_at_start start e (piece ∷ pieces) text anchored none = absurd (omega arith)
