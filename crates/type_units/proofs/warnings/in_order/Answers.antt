-- What the sort ensures of a copy.
use Rattle.std.proofs.Common.{rules}
use Rattle.std.proofs.lemmas.List.Sorted.{IsNonDecreasingBy-from_sort_by_key, answers_always}
use Rattle.type_units.specs.Answers.{place_of}
use Rattle.type_units.proofs.Order.{sorted_copy}
use Rattle.type_units.proofs.warnings.in_order.Goals as goal

pub returns : goal.returns
returns c =
    sorted_copy _ _ _ _ c.in_ok-warnings.ensures.items c.in_ok-sort_by_key.ensures.permutation
    (IsNonDecreasingBy-from_sort_by_key place_of _ c.in_ok-sort_by_key.ensures.sorted (λ a r q k. search rules))
    (c.in_ok-sort_by_key.ensures.stable place_of (answers_always _ _ _ (λ f a r g h. search rules)))
    c.from_vec.ensures
