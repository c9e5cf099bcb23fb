use Rattle.std.proofs.Common.{◌∙◌, ap, rules}
use Rattle.std.proofs.lemmas.List.Sorted.{IsNonDecreasingBy-from_sort_by_key, answers_always}
use Rattle.unit_spots.specs.Walk.{in_place}
use Rattle.unit_spots.proofs.Rows.{sorted_in_place}
use Rattle.unit_spots.proofs.spots.SpotList.sort.Goals as goal

pub returns : goal.returns
returns c =
    sorted_in_place _ _ (IsNonDecreasingBy-from_sort_by_key (λ s. s.place) _ c.in_ok-sort_by_key.ensures.sorted (λ a r q k. search rules))
    (c.in_ok-sort_by_key.ensures.stable (λ s. s.place) (answers_always _ _ _ (λ f a r g h. search rules)))
    ∙ ap in_place c.self.view_is
