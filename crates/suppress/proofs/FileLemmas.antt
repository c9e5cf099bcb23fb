-- A suppression file read line by line.
use Rattle.std.proofs.Common.{◌≡◌, ℕ, ◌+◌, ◌-◌, ◌<◌, ◌≤◌, List, [], ◌∷◌, ◌++◌, length, take, drop, get_or, Option, None, Some, sym, refl, ap, ◌∙◌, arith, ⊎_elim}
use Rattle.std.specs.Option.{option_to_list}
use Rattle.std.specs.List.{cons_option}
use Rattle.std.proofs.lemmas.List.{drop_more, take_more, take_all, length-drop}
use Rattle.std.proofs.lemmas.List.Elements.{filter_map-append}
use Rattle.std.proofs.lemmas.Bool.{cases_lt, lt-ltb}
use Rattle.suppress.specs.declared.suppressions.Suppression.{Suppression}
use Rattle.suppress.specs.declared.file.SupRefusal.{SupRefusal}
use Rattle.suppress.specs.declared.file.SupRefusal.TheVariants.{Bad, NoMemory}
use Rattle.suppress.specs.Meaning.{meaning_of, suppression_in}
use Rattle.suppress.specs.File.{suppressions_in, fault_of, fault_at, NoFaultUpTo, NoFault, IsRefusalAt, IsRefusal}

-- the first n lines are read: they name these entries and none is bad, and the other lines are left
pub record ReadSoFar (lines : List (List ℕ)) (n : ℕ) (entries : List Suppression) (left : List (List ℕ)) : Type 0 where
  pub in_limit : n ≤ 1000
  pub left_are : drop n lines ≡ left
  pub entries_are : entries ≡ suppressions_in (take n lines)
  pub no_fault : NoFaultUpTo lines n

-- a line with no fault is not past the limit
pub in_limit-fault_of : (n : ℕ) (line : List ℕ) → fault_of n line ≡ None → n ≤ 1000
in_limit-fault_of n line none =
    ⊎_elim
    (λ past. let clash : Some 3 ≡ None = rw (lt-ltb 1000 n past) at none in absurd (cc clash))
    (λ within. within)
    (cases_lt 1000 n)

-- the next line, at its place among the lines
next_below : (lines : List (List ℕ)) (n : ℕ) (line : List ℕ) (later : List (List ℕ)) → drop n lines ≡ line ∷ later → n < length lines
next_below lines n line later is = omega (arith, length-drop n lines, ap length is)

next_is : (lines : List (List ℕ)) (n : ℕ) (line : List ℕ) (later : List (List ℕ)) → drop n lines ≡ line ∷ later → get_or lines n [] ≡ line
next_is lines n line later is = let e = drop_more lines n [] (next_below lines n line later is) in cc

later_are : (lines : List (List ℕ)) (n : ℕ) (line : List ℕ) (later : List (List ℕ)) → drop n lines ≡ line ∷ later → drop (n + 1) lines ≡ later
later_are lines n line later is = let e = drop_more lines n [] (next_below lines n line later is) in cc

fault_at_next : (lines : List (List ℕ)) (n : ℕ) (line : List ℕ) (later : List (List ℕ)) → drop n lines ≡ line ∷ later → fault_at lines (n + 1) ≡ fault_of (n + 1) line
fault_at_next lines n line later is =
    let place : n + 1 - 1 ≡ n = omega arith in
    rw place (ap (fault_of (n + 1)) (next_is lines n line later is))

-- what one line adds
suppressions_in-one : (line : List ℕ) → suppressions_in (line ∷ []) ≡ option_to_list (suppression_in (meaning_of line))
suppressions_in-one line = one (suppression_in (meaning_of line))
  where
    one : (o : Option Suppression) → cons_option o [] ≡ option_to_list o
    one None = refl
    one (Some entry) = refl

pub ReadSoFar_start : (lines : List (List ℕ)) → ReadSoFar lines 0 [] lines
ReadSoFar_start lines = record {
  in_limit = omega arith;
  left_are = refl;
  entries_are = refl;
  no_fault = λ number positive none. absurd (omega arith);
}

pub ReadSoFar_more : (lines : List (List ℕ)) (n : ℕ) (entries more : List Suppression) (line : List ℕ) (later : List (List ℕ)) → ReadSoFar lines n entries (line ∷ later) → fault_of (n + 1) line ≡ None → more ≡ entries ++ option_to_list (suppression_in (meaning_of line)) → ReadSoFar lines (n + 1) more later
ReadSoFar_more lines n entries more line later so_far good more_are =
    let below = next_below lines n line later so_far.left_are in
    let taken : take (n + 1) lines ≡ take n lines ++ line ∷ [] =
    take_more lines n [] below ∙ ap (λ (l : List ℕ). take n lines ++ l ∷ []) (next_is lines n line later so_far.left_are) in
    let named : suppressions_in (take (n + 1) lines) ≡ entries ++ option_to_list (suppression_in (meaning_of line)) =
    ap suppressions_in taken ∙ filter_map-append _ (take n lines) (line ∷ [])
    ∙ ap (λ (es : List Suppression). es ++ suppressions_in (line ∷ [])) (sym so_far.entries_are)
    ∙ ap (λ (es : List Suppression). entries ++ es) (suppressions_in-one line) in
    record {
      in_limit = in_limit-fault_of (n + 1) line good;
      left_are = later_are lines n line later so_far.left_are;
      entries_are = more_are ∙ sym named;
      no_fault = λ number positive upto.
          ⊎_elim
          (λ earlier. so_far.no_fault number positive (omega arith))
          (λ last.
          let here : number ≡ n + 1 = omega arith in
          rw here (fault_at_next lines n line later so_far.left_are ∙ good))
          (cases_lt number (n + 1));
    }

-- nothing is left
all_read : (lines : List (List ℕ)) (n : ℕ) → drop n lines ≡ [] → length lines ≤ n
all_read lines n is = omega (arith, length-drop n lines, ap length is)

pub NoFault_at_end : (lines : List (List ℕ)) (n : ℕ) (entries : List Suppression) (left : List (List ℕ)) → ReadSoFar lines n entries left → left ≡ [] → NoFault lines
NoFault_at_end lines n entries left so_far none number positive upto =
    so_far.no_fault number positive (omega (arith, all_read lines n (so_far.left_are ∙ none)))

pub suppressions_at_end : (lines : List (List ℕ)) (n : ℕ) (entries : List Suppression) (left : List (List ℕ)) → ReadSoFar lines n entries left → left ≡ [] → entries ≡ suppressions_in lines
suppressions_at_end lines n entries left so_far none =
    so_far.entries_are ∙ ap suppressions_in (take_all n lines (all_read lines n (so_far.left_are ∙ none)))

-- a refusal at the next line is a refusal of the file
pub IsRefusal_at_next : (lines : List (List ℕ)) (n : ℕ) (entries : List Suppression) (line : List ℕ) (later : List (List ℕ)) (refusal : SupRefusal) → ReadSoFar lines n entries (line ∷ later) → IsRefusalAt (n + 1) line refusal → IsRefusal lines refusal
IsRefusal_at_next lines n entries line later (Bad number place) so_far h = record {
  from_one = omega (arith, h.0);
  within = omega (arith, h.0, next_below lines n line later so_far.left_are);
  here = ap (fault_at lines) h.0 ∙ fault_at_next lines n line later so_far.left_are ∙ h.1;
  before = λ k positive upto. so_far.no_fault k positive (omega (arith, h.0));
}
IsRefusal_at_next lines n entries line later NoMemory so_far h = tt
