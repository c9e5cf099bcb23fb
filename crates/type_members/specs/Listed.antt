-- The names of members.
use Rattle.std.specs.Prelude.{ℕ, Bool, List, map}
use Rattle.std.specs.List.{list_any}
use Rattle.std.specs.Str.{bytes_eq}
use Rattle.core_unit.specs.declared.tables.MemberInfo.{MemberInfo}

abbrev pub names_of : List MemberInfo → List (List ℕ)
names_of members = map (λ member. member.name) members

abbrev pub is_member : List ℕ → List MemberInfo → Bool
is_member text members = list_any (λ other. bytes_eq text other.name) members
