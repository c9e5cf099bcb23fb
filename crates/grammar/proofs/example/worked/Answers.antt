-- The parser computes on lists that are written out, and the theorem says what its answers mean.
use Rattle.std.proofs.Common.{[], ◌∷◌, true, false, refl}
use Rattle.grammar.specs.Parser.{parse}
use Rattle.grammar.specs.Example.{sums, sums_lookahead, Sums, Digit, Minus, Open, Close, Semicolon, Number, Difference}
use Rattle.grammar.proofs.Theorem.{sound, fault}
use Rattle.grammar.proofs.SumsFit.{sums_fits}
use Rattle.grammar.proofs.example.worked.Goals as goal

pub returns-clause-a_difference_leans_to_the_left : goal.returns-clause-a_difference_leans_to_the_left
unfolding parse
returns-clause-a_difference_leans_to_the_left c =
    (sound sums sums_lookahead sums_fits 3 Sums (Digit ∷ Minus ∷ Digit ∷ Minus ∷ Digit ∷ Semicolon ∷ [])
    (Difference (Difference Number Number) Number ∷ []) 3 [] refl).1

pub returns-clause-no_room_around_a_difference : goal.returns-clause-no_room_around_a_difference
unfolding parse
returns-clause-no_room_around_a_difference c =
    fault sums sums_lookahead sums_fits 2 Sums (Digit ∷ Minus ∷ Digit ∷ Minus ∷ Digit ∷ Semicolon ∷ []) true (Minus ∷ Digit ∷ Semicolon ∷ []) refl

pub returns-clause-no_room_in_parentheses : goal.returns-clause-no_room_in_parentheses
unfolding parse
returns-clause-no_room_in_parentheses c =
    fault sums sums_lookahead sums_fits 1 Sums (Open ∷ Digit ∷ Close ∷ Semicolon ∷ []) true (Digit ∷ Close ∷ Semicolon ∷ []) refl

pub returns-clause-not_expected : goal.returns-clause-not_expected
unfolding parse
returns-clause-not_expected c = fault sums sums_lookahead sums_fits 1 Sums (Digit ∷ Semicolon ∷ Semicolon ∷ []) false (Semicolon ∷ []) refl

pub returns-clause-not_at_its_end : goal.returns-clause-not_at_its_end
unfolding parse
returns-clause-not_at_its_end c = fault sums sums_lookahead sums_fits 2 Sums (Open ∷ Digit ∷ []) false [] refl
