-- A stable sort of a copy by place brings warnings in order.
use Rattle.std.specs.Prelude.{IsPermutation}
use Rattle.std.proofs.Common.{◌≡◌, sym, subst, List}
use Rattle.std.specs.List.Sorted.{IsNonDecreasingBy, IsStableByKey}
use Rattle.std.specs.Ordering.{nat_cmp}
use Rattle.type_rules.specs.declared.notes.TypeWarning.{TypeWarning}
use Rattle.type_units.specs.Answers.{AreInOrder, place_of}

pub sorted_copy : (noted copy sorted result : List TypeWarning) → copy ≡ noted → IsPermutation copy sorted → IsNonDecreasingBy place_of sorted →
    IsStableByKey place_of nat_cmp copy sorted → result ≡ sorted → AreInOrder noted result
sorted_copy noted copy sorted result is same rising stable given =
    subst (λ ws. AreInOrder noted ws) (sym given) (subst (λ ws. AreInOrder ws sorted) is (record { same = same; rising = rising; stable = stable }))
