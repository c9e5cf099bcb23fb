-- The places that a search by index finds, as runs before a piece.
use Rattle.std.proofs.Common.{◌≡◌, ℕ, ◌+◌, ◌<◌, List, ◌++◌, length, take, drop, get_or, sym, ap, ◌∙◌, arith, ⊎_elim}
use Rattle.std.proofs.lemmas.List.{get_or-append-add, get_or_append_left, length-append, length-take-le, take-append-drop}
use Rattle.std.proofs.lemmas.List.Prefix.{at_from_reads}
use Rattle.std.proofs.lemmas.Bool.{cases_lt}
use Rattle.memchr.specs.Find.{OccursAt, Nowhere, NoneBefore}
use Rattle.suppress.specs.Occurrence.{IsNowhere, IsAfterFirst}

-- a piece after a run stands at the run's length
OccursAt-append : (piece text run rest : List ℕ) → text ≡ run ++ (piece ++ rest) → OccursAt text piece (length run)
OccursAt-append piece text run rest is = record {
  fits = omega (arith, ap length is, length-append run (piece ++ rest), length-append piece rest);
  reads = λ j h. ap (λ (t : List ℕ). get_or t (length run + j) 0) is ∙ get_or-append-add run (piece ++ rest) j 0 ∙ get_or_append_left piece rest 0 j h;
}

pub IsNowhere-search : (piece text : List ℕ) → Nowhere (OccursAt text piece) 0 (length text + 1) → IsNowhere piece text
IsNowhere-search piece text none run rest is =
    let place = OccursAt-append piece text run rest is in
    none (length run) (omega arith) (omega (arith, place.fits)) place

pub IsAfterFirst-search : (piece text : List ℕ) (at : ℕ) → NoneBefore (OccursAt text piece) 0 (length text + 1) at → OccursAt text piece at → IsAfterFirst piece text (drop (at + length piece) text)
IsAfterFirst-search piece text at before place = record {
  run = take at text;
  place = sym (take-append-drop at text) ∙ ap (λ (t : List ℕ). take at text ++ t) (at_from_reads 0 text piece at place.fits place.reads);
  first = λ other later is.
      let long : length (take at text) ≡ at = length-take-le at text (omega (arith, place.fits)) in
      ⊎_elim
      (λ below. absurd (before.before (length other) (omega arith) below (OccursAt-append piece text other later is)))
      (λ above. omega (arith, above, long))
      (cases_lt (length other) at);
}

-- a text nowhere has a longer piece
pub IsNowhere-longer : (piece text : List ℕ) → length text < length piece → IsNowhere piece text
IsNowhere-longer piece text longer run rest is =
    let place = OccursAt-append piece text run rest is in
    omega (arith, place.fits, longer)
