-- The names of members, by their numbers.
use Rattle.std.proofs.Common.{◌≡◌, ℕ, ◌+◌, Bool, true, false, not, cond, ◌||◌, List, [], ◌∷◌, ◌++◌, length, suc, refl, ap, arith}
use Prim.Native.Nat.compare
use Rattle.std.specs.Prelude.{nat_lt}
use Rattle.std.proofs.lemmas.Bool.{lt-ltb}
use Rattle.std.specs.List.{list_any}
use Rattle.std.specs.Str.{bytes_eq}
use Rattle.core_unit.specs.declared.tables.MemberInfo.{MemberInfo}
use Rattle.scopes.specs.Number.{number_of, noted}
use Rattle.type_members.specs.Listed.{names_of, is_member}

-- A text is a member's name where its number is below their count.
pub member_by_number : (members : List MemberInfo) (text : List ℕ) → nat_lt (number_of (names_of members) text) (length members) ≡ is_member text members
member_by_number [] text = refl
member_by_number (m ∷ ms) text = of (bytes_eq text m.name) (member_by_number ms text)
  where
    of : (here : Bool) → nat_lt (number_of (names_of ms) text) (length ms) ≡ is_member text ms →
        nat_lt (cond (not here) (1 + number_of (names_of ms) text) 0) (length (m ∷ ms)) ≡ (here || is_member text ms)
    of true rest = lt-ltb 0 (suc (length ms)) (omega arith)
    of false rest =
        let next : 1 + number_of (names_of ms) text ≡ suc (number_of (names_of ms) text) = omega arith in
        rw (next, compare.suc-suc (suc (number_of (names_of ms) text)) (length ms)) rest

among_names : (members : List MemberInfo) (text : List ℕ) → list_any (bytes_eq text) (names_of members) ≡ is_member text members
among_names [] text = refl
among_names (m ∷ ms) text = ap (λ b. bytes_eq text m.name || b) (among_names ms text)

-- A text that is no member's name is noted behind theirs.
pub noted_behind : (members : List MemberInfo) (text : List ℕ) → is_member text members ≡ false →
    noted (names_of members) text ≡ names_of members ++ text ∷ []
noted_behind members text new = rw (among_names members text, new) refl
