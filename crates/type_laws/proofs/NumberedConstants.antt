-- What is constant calls nothing, so it takes no call site.
use Rattle.std.proofs.Common.{◌≡◌, Bool, true, false, refl, ap, List, [], ◌++◌, arith}
use Rattle.std.specs.Prelude.{not}
use Rattle.eff_types.specs.Types.{is_number}
use Rattle.core_unit.specs.Places.{Spot, spots}
use Rattle.core_unit.specs.Shapes.{sign_of}
use Rattle.core_unit.specs.declared.expressions.Expr as expr
use Rattle.core_unit.specs.declared.expressions.Expr.{Expr, end_of-Expr, more_of-Expr, end_of-Place, more_of-Place}
use Rattle.core_unit.specs.declared.expressions.Place as place
use Rattle.core_unit.specs.declared.expressions.Place.{Place}
use Rattle.core_unit.specs.declared.expressions.Storage.TheVariants.{Static}
use Rattle.core_unit.specs.declared.operators.LogicalOperator.{LogicalOperator}
use Rattle.core_unit.specs.declared.words.Word.{Word}
use Rattle.type_rules.specs.Constants.{of_one, of_both, of_logical, of_choice, worth, is_known, known_bits, number_constant}
use Rattle.type_rules.specs.Initializers.{is_fixed_object, is_static_variable, is_fixed_value, is_fixed}
use Rattle.type_rules.specs.Operands.{operand}
use Rattle.type_rules.specs.Reading.{Read, and_then}
use Rattle.type_rules.specs.Seen.{Seen}
use Rattle.type_rules.specs.declared.found.Form.{Form}
use Rattle.type_rules.specs.declared.found.Form.TheVariants.{Lvalue, Value}
use Rattle.type_rules.specs.declared.found.Found.{Found}
use Rattle.type_rules.specs.declared.found.Worth.{Worth}
use Rattle.type_rules.specs.declared.found.Worth.TheVariants.{Known, Trapped, Varying}
use Rattle.type_laws.proofs.Numbered.{Reads, IsIdle, then_reads, gives_reads, refused_reads, form_spots, found_spots, operand_spots}
use Rattle.type_laws.proofs.NumberedOperators.{operand_reads}
use Rattle.type_laws.proofs.Order.{occurrences}
use Rattle.type_laws.proofs.Progress.{progress, CountedAt, nothing_at}
use Rattle.type_laws.proofs.SiteRanges.{CallsNothing, occurrences_joined}
use Rattle.type_laws.proofs.SpotsJoined.{spots_join}
use Rattle.type_laws.proofs.Types.{not_refused}

abbrev is_varying : Worth → Bool
is_varying Varying = true
is_varying _ = false

one_told : (f : Word → Worth) (w : Worth) → is_varying (of_one f w) ≡ false → is_varying w ≡ false
one_told f (Known a) e = refl
one_told f Trapped e = refl
one_told f Varying e = e

both_told : (f : Word → Word → Worth) (u v : Worth) → is_varying (of_both f u v) ≡ false → (is_varying u ≡ false) × (is_varying v ≡ false)
both_told f Varying v e = absurd (cc)
both_told f (Known a) Varying e = absurd (cc)
both_told f Trapped Varying e = absurd (cc)
both_told f (Known a) (Known b) e = (refl, refl)
both_told f (Known a) Trapped e = (refl, refl)
both_told f Trapped (Known b) e = (refl, refl)
both_told f Trapped Trapped e = (refl, refl)

logical_told : (operator : LogicalOperator) (u v : Worth) → is_varying (of_logical operator u v) ≡ false → (is_varying u ≡ false) × (is_varying v ≡ false)
logical_told operator Varying v e = absurd (cc)
logical_told operator (Known a) Varying e = absurd (cc)
logical_told operator Trapped Varying e = absurd (cc)
logical_told operator (Known a) (Known b) e = (refl, refl)
logical_told operator (Known a) Trapped e = (refl, refl)
logical_told operator Trapped (Known b) e = (refl, refl)
logical_told operator Trapped Trapped e = (refl, refl)

choice_told : (u v w : Worth) → is_varying (of_choice u v w) ≡ false → (is_varying u ≡ false) × (is_varying v ≡ false) × (is_varying w ≡ false)
choice_told Varying v w e = absurd (cc)
choice_told (Known a) Varying w e = absurd (cc)
choice_told Trapped Varying w e = absurd (cc)
choice_told (Known a) (Known b) Varying e = absurd (cc)
choice_told (Known a) Trapped Varying e = absurd (cc)
choice_told Trapped (Known b) Varying e = absurd (cc)
choice_told Trapped Trapped Varying e = absurd (cc)
choice_told (Known a) (Known b) (Known c) e = (refl, refl, refl)
choice_told (Known a) (Known b) Trapped e = (refl, refl, refl)
choice_told (Known a) Trapped (Known c) e = (refl, refl, refl)
choice_told (Known a) Trapped Trapped e = (refl, refl, refl)
choice_told Trapped (Known b) (Known c) e = (refl, refl, refl)
choice_told Trapped (Known b) Trapped e = (refl, refl, refl)
choice_told Trapped Trapped (Known c) e = (refl, refl, refl)
choice_told Trapped Trapped Trapped e = (refl, refl, refl)

both_quiet : (a : Expr) (rest : List Spot) → CallsNothing (spots a []) → CallsNothing rest → CallsNothing (spots a rest)
both_quiet a rest first more k =
    let same : occurrences k (spots a rest) ≡ occurrences k (spots a [] ++ rest) = ap (occurrences k) (spots_join a rest) in
    let sum = occurrences_joined k (spots a []) rest in
    let left = first k in
    let right = more k in omega (arith, same, sum, left, right)

worth_quiet : (e : Expr) → is_varying (worth e) ≡ false → CallsNothing (spots e [])
unfolding worth spots
worth_quiet (expr.Number sign bits) told k = refl
worth_quiet expr.Null told k = refl
worth_quiet (expr.Sizeof words) told k = refl
worth_quiet (expr.Unary' operator _ (more_of-Expr e end_of-Expr)) told k = worth_quiet e (one_told _ (worth e) told) k
worth_quiet (expr.Binary' operator _ (more_of-Expr a end_of-Expr) _ (more_of-Expr b end_of-Expr)) told k =
    let each = both_told _ (worth a) (worth b) told in both_quiet a (spots b []) (worth_quiet a each.0) (worth_quiet b each.1) k
worth_quiet (expr.Logical' operator _ (more_of-Expr a end_of-Expr) _ (more_of-Expr b end_of-Expr)) told k =
    let each = logical_told operator (worth a) (worth b) told in both_quiet a (spots b []) (worth_quiet a each.0) (worth_quiet b each.1) k
worth_quiet (expr.Conditional' _ (more_of-Expr c end_of-Expr) _ (more_of-Expr a end_of-Expr) _ (more_of-Expr b end_of-Expr)) told k =
    let each = choice_told (worth c) (worth a) (worth b) told in
    both_quiet c (spots a (spots b [])) (worth_quiet c each.0) (both_quiet a (spots b []) (worth_quiet a each.1) (worth_quiet b each.2)) k
worth_quiet (expr.Convert' why to _ (more_of-Expr e end_of-Expr)) told k = worth_quiet e told k
worth_quiet e told k = absurd (cc)

known_told : (w : Worth) → is_known w ≡ true → is_varying w ≡ false
known_told (Known a) e = refl
known_told Trapped e = refl
known_told Varying e = absurd (cc)

known_quiet : (e : Expr) → is_known (worth e) ≡ true → CallsNothing (spots e [])
known_quiet e known = worth_quiet e (known_told (worth e) known)

-- what a static object holds at first
object_quiet : (p : Place) → is_fixed_object p ≡ true → CallsNothing (form_spots (Lvalue p))
unfolding spots
object_quiet (place.Text at words) is k = refl
object_quiet (place.Variable at (Static address) t) is k = refl
object_quiet p is k = absurd (cc)

variable_quiet : (p : Place) → is_static_variable p ≡ true → CallsNothing (form_spots (Lvalue p))
unfolding spots
variable_quiet (place.Variable at (Static address) t) is k = refl
variable_quiet p is k = absurd (cc)

value_quiet : (e : Expr) → is_fixed_value e ≡ true → CallsNothing (spots e [])
unfolding spots
value_quiet (expr.Function number t) is k = refl
value_quiet (expr.AddressOf' _ (more_of-Place p end_of-Place)) is k = variable_quiet p is k
value_quiet e is k = known_quiet e is k

pub fixed_quiet : (form : Form) → is_fixed form ≡ true → CallsNothing (form_spots form)
fixed_quiet (Lvalue p) is = object_quiet p is
fixed_quiet (Value e) is = value_quiet e is

-- an array's size or an enumerator's value
pub constant_idle : (expression : Seen → Read Found) (s : Seen) → Reads found_spots (CountedAt (progress s)) (expression s) → IsIdle (progress s) (number_constant expression s)
unfolding number_constant and_then
constant_idle expression s h =
    then_reads (operand expression s) _ (operand_reads (CountedAt (progress s)) expression s h) (λ o t x.
    refused_reads t (not (is_number o.kind)) 3 o.place _ (λ e.
    refused_reads t (not (is_known (worth o.node))) 7 o.place _ (λ f.
    gives_reads t (record { place = o.place; sign = sign_of o.kind; bits = known_bits (worth o.node) })
    (nothing_at (progress s) (operand_spots o) (progress t) x (known_quiet o.node (not_refused (is_known (worth o.node)) f))))))
