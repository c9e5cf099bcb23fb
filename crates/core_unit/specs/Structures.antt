-- The structures of a unit: where types speak of them, and how many words they have.
use Rattle.std.specs.Prelude.{◌≡◌, ℕ, ◌<◌, List, [], map, length, slice_get, Option, Some, None, All}
use Rattle.eff_types.specs.declared.types.CType.{CType, Struct, Pointer', Array', Function', Row_of-CType, end_of-CType, more_of-CType}
use Rattle.core_unit.specs.Layout.{words_of, members_words}
use Rattle.core_unit.specs.declared.tables.MemberInfo.{MemberInfo}
use Rattle.core_unit.specs.declared.tables.StructInfo.{StructInfo}

-- Each structure of which the type speaks is one of the first so many.
unfoldable mutual
  pub IsWithin : ℕ → CType → Type 0
  IsWithin count (Struct k) = k < count
  IsWithin count (Pointer' _ (more_of-CType t end_of-CType)) = IsWithin count t
  IsWithin count (Array' _ (more_of-CType t end_of-CType) n) = IsWithin count t
  IsWithin count (Function' _ (more_of-CType result end_of-CType) _ params effects) = IsWithin count result × AreWithin count params
  IsWithin count _ = Unit {0}

  pub AreWithin : {n : _} → ℕ → Row_of-CType n → Type 0
  AreWithin count end_of-CType = Unit {0}
  AreWithin count (more_of-CType t ts) = IsWithin count t × AreWithin count ts

-- A member has a type with words.
pub record IsSizedMember (structures : List StructInfo) (m : MemberInfo) : Type 0 where
  pub within : IsWithin (length structures) m.kind
  pub some : 0 < words_of structures m.kind

-- The words of a structure are those of its members.
abbrev pub IsSized : List StructInfo → StructInfo → Type 0
IsSized structures s = of s.members
  where
    of : Option (List MemberInfo) → Type 0
    of (Some members) = (s.words ≡ members_words structures members) × All (IsSizedMember structures) members
    of None = s.words ≡ 0

-- the types of the members of a structure
abbrev pub member_types : Option StructInfo → List CType
member_types (Some s) = of s.members
  where
    of : Option (List MemberInfo) → List CType
    of (Some members) = map (λ m. m.kind) members
    of None = []
member_types None = []

-- the structure that an object of the type is, or that its elements are
unfoldable pub structure_in : CType → Option ℕ
structure_in (Struct k) = Some k
structure_in (Array' _ (more_of-CType t end_of-CType) n) = structure_in t
structure_in _ = None

abbrev pub IsBelow : (ℕ → ℕ) → ℕ → Option ℕ → Type 0
IsBelow rank bound (Some k) = rank k < bound
IsBelow rank bound None = Unit {0}

-- No structure holds itself: those that it holds have a lower rank. So the words of each are told by its members.
pub record AreRanked (structures : List StructInfo) : Type 0 where
  pub rank : ℕ → ℕ
  pub falls : (number : ℕ) → All (λ t. IsBelow rank (rank number) (structure_in t)) (member_types (slice_get structures number))
