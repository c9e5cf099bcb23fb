-- Specifiers: storage, types and attributes (C17 6.7), structures, enumerations and tags (6.7.2).
use Rattle.std.specs.Prelude.{ℕ, ◌+◌, ◌-◌, ◌%◌, ◌^◌, Bool, true, false, ◌&&◌, ◌||◌, ◌==◌, if◌then◌else◌, nat_le, List, [], ◌∷◌, ◌++◌, length, map, sum, slice_set, is_some, Option, Some, None}
use Rattle.scopes.specs.Scope.{found, declare}
use Rattle.c_tree.specs.declared.words.Attr.{Attr}
use Rattle.c_tree.specs.declared.words.FunctionWord.{FunctionWord}
use Rattle.c_tree.specs.declared.words.FunctionWord.TheVariants as function_word
use Rattle.c_tree.specs.declared.words.Span.{Span}
use Rattle.c_tree.specs.declared.words.StorageWord.{StorageWord}
use Rattle.c_tree.specs.declared.words.StorageWord.TheVariants as storage
use Rattle.c_tree.specs.declared.words.TypeWord.{TypeWord}
use Rattle.c_tree.specs.declared.words.TypeWord.TheVariants as type_word
use Rattle.eff_types.specs.declared.types.CType.{CType, Void, Char, Int, Unsigned, Struct}
use Rattle.core_unit.specs.Layout.{members_words}
use Rattle.core_unit.specs.declared.operators.Sign.{Sign}
use Rattle.core_unit.specs.declared.operators.Sign.TheVariants.{Signed, Unsigned as Without}
use Rattle.core_unit.specs.declared.tables.MemberInfo.{MemberInfo}
use Rattle.type_rules.specs.Constants.{number_constant}
use Rattle.type_rules.specs.declared.found.Found.{Found}
use Rattle.type_rules.specs.Reading.{Rule, Good, ◌>>=◌, ◌>>◌, gives, fails, refused, text_of, name_number, meaning, meaning_here, declared, changes}
use Rattle.type_rules.specs.Sizes.{size_of}
use Rattle.type_rules.specs.declared.names.Entity.{Entity}
use Rattle.type_rules.specs.declared.names.Entity.TheVariants.{TypeName, Enumerator}
use Rattle.type_rules.specs.declared.names.Tag.{Tag}
pub use Rattle.type_rules.specs.declared.specifiers.Specifiers.{Specifiers}
use Rattle.type_rules.specs.declared.names.Tag.TheVariants.{Structure, Enumeration}

abbrev pub no_specifiers : Specifiers
no_specifiers = record {
  is_typedef = false;
  is_static = false;
  is_thread_local = false;
  is_noreturn = false;
  kind = None;
  attributes = [];
}

-- `extern` makes no difference: at file scope each variable is defined by its declaration (this project's own rule).
abbrev pub with_storage : StorageWord → Specifiers → Specifiers
with_storage storage.Typedef b = record b { is_typedef = true }
with_storage storage.Static b = record b { is_static = true }
with_storage storage.ThreadLocal b = record b { is_thread_local = true }
with_storage storage.Extern b = b

abbrev pub with_function_word : FunctionWord → Specifiers → Specifiers
with_function_word function_word.NoReturn b = record b { is_noreturn = true }
with_function_word function_word.Inline b = b

-- The type by one word more (C17 6.7.2), in any order: one word decides, or `int` where `signed` and `int` stand alone. The grammar lets
-- no other words stand together.
abbrev pub type_with : TypeWord → Option CType → CType
type_with type_word.Void before = Void
type_with type_word.Char before = Char
type_with type_word.Unsigned before = Unsigned
type_with type_word.Int (Some t) = t
type_with type_word.Signed (Some t) = t
type_with type_word.Int None = Int
type_with type_word.Signed None = Int

abbrev pub with_type : CType → Specifiers → Specifiers
with_type t b = record b { kind = Some t }

abbrev pub with_type_word : TypeWord → Specifiers → Specifiers
with_type_word word b = with_type (type_with word b.kind) b

abbrev pub with_attribute : Attr → Specifiers → Specifiers
with_attribute a b = record b { attributes = b.attributes ++ a ∷ [] }

abbrev pub or_int : Option CType → CType
or_int (Some t) = t
or_int None = Int

-- The type that the specifiers say. The grammar asks for one.
abbrev pub base_type : Specifiers → CType
base_type b = or_int b.kind

-- A typedef name is the type that it was given (C17 6.7.8).
abbrev pub named_type : Option Entity → ℕ → Rule CType
named_type (Some (TypeName t)) place = gives t
named_type _ place = fails 1 place

unfoldable pub typedef_name : Span → Specifiers → Rule Specifiers
typedef_name name b = do
  number ← name_number name
  e ← meaning number
  t ← named_type e name.start
  gives (with_type t b)

-- Tags (C17 6.7.2.3). All stand at file scope, whatever the place of their first use (this project's own rule).
abbrev pub tag_meaning : ℕ → Rule (Option Tag)
tag_meaning name = λ s. Good (found s.tags name) s

abbrev pub tag_declared : ℕ → Tag → Rule (Unit {0})
tag_declared name tag = changes (λ s. record s { tags = declare s.tags name tag })

-- a new structure, without its members
abbrev pub new_structure : Option (List ℕ) → Rule ℕ
new_structure tag = λ s. Good (length s.structures) (record s {
  structures = s.structures ++ record { tag = tag; members = None; words = 0 } ∷ [];
  sizes = s.sizes ++ 0 ∷ [];
})

abbrev pub spelling : Span → Rule (List ℕ)
spelling name = λ s. Good (text_of s.source name) s

-- a structure by its tag, new where the tag is; whether its definition begins here
abbrev pub structure_by : Span → ℕ → Bool → Option Tag → Rule ℕ
structure_by name number opens (Some (Structure k opened)) = do
  refused (opens && opened) 2 name.start
  tag_declared number (Structure k (opens || opened))
  gives k
structure_by name number opens (Some (Enumeration opened)) = fails 2 name.start
structure_by name number opens None = do
  text ← spelling name
  k ← new_structure (Some text)
  tag_declared number (Structure k opens)
  gives k

unfoldable pub tagged_structure : Bool → Span → Rule ℕ
tagged_structure opens name = do
  number ← name_number name
  tag ← tag_meaning number
  structure_by name number opens tag

abbrev pub opened_structure : Option Span → Rule ℕ
opened_structure None = new_structure None
opened_structure (Some name) = tagged_structure true name

-- The members stand in order, each at the next word (C17 6.7.2.1; the words are this project's own).
abbrev pub completed : ℕ → Option (List ℕ) → List MemberInfo → Rule (Unit {0})
completed k tag members = changes (λ s. record s {
  structures = slice_set s.structures k (record { tag = tag; members = Some members; words = members_words s.structures members });
  sizes = slice_set s.sizes k (sum (map (λ m. size_of s.sizes m.kind) members) % 2 ^ 32);
})

abbrev pub tag_spelling : Option Span → Rule (Option (List ℕ))
tag_spelling None = gives None
tag_spelling (Some name) = do
  text ← spelling name
  gives (Some text)

-- `struct tag`
unfoldable pub structure_name : Span → Specifiers → Rule Specifiers
structure_name name b = do
  k ← tagged_structure false name
  gives (with_type (Struct k) b)

-- a structure behind its members: it has one (C17 6.7.2.1), which the grammar asks already
abbrev pub structure_closed : ℕ → Option Span → ℕ → List MemberInfo → Specifiers → Rule Specifiers
structure_closed place tag k members b = do
  refused (length members == 0) 10 place
  text ← tag_spelling tag
  completed k text members
  gives (with_type (Struct k) b)

-- `struct tag { members }`: a second definition of a tag is refused before its members are read.
unfoldable pub structure : ℕ → Option Span → Rule (List MemberInfo) → Specifiers → Rule Specifiers
structure place tag members b = do
  k ← opened_structure tag
  ms ← members
  structure_closed place tag k ms b

-- an enumeration by its tag (C17 6.7.2.2); one that isn't defined may be named (this project's own rule)
abbrev pub enumeration_by : Span → ℕ → Bool → Option Tag → Rule (Unit {0})
enumeration_by name number opens (Some (Enumeration opened)) =
    refused (opens && opened) 2 name.start >> tag_declared number (Enumeration (opens || opened))
enumeration_by name number opens (Some (Structure k opened)) = fails 2 name.start
enumeration_by name number opens None = tag_declared number (Enumeration opens)

unfoldable pub tagged_enumeration : Bool → Span → Rule (Unit {0})
tagged_enumeration opens name = do
  number ← name_number name
  tag ← tag_meaning number
  enumeration_by name number opens tag

abbrev pub opened_enumeration : Option Span → Rule (Unit {0})
opened_enumeration None = gives tt
opened_enumeration (Some name) = tagged_enumeration true name

-- `enum tag`: the type is `int`.
unfoldable pub enumeration_name : Span → Specifiers → Rule Specifiers
enumeration_name name b = do
  tagged_enumeration false name
  gives (with_type Int b)

-- `enum tag { enumerators }`
unfoldable pub enumeration : Option Span → Rule (Option ℕ) → Specifiers → Rule Specifiers
enumeration tag enumerators b = do
  opened_enumeration tag
  last ← enumerators
  gives (with_type Int b)

-- An `int` by its bits, and the next one, unless that is none.
abbrev pub next_int : ℕ → Option ℕ
next_int bits = if bits == 2 ^ 31 - 1 then None else Some ((bits + 1) % 2 ^ 32)

abbrev pub is_outside_int : Sign → ℕ → Bool
is_outside_int Without bits = nat_le (2 ^ 31) bits
is_outside_int Signed bits = false

-- the value of an enumerator: as written, or `next`, one more than that of the one before
abbrev pub enumerator_value : ℕ → Option (Rule Found) → Option ℕ → Rule ℕ
enumerator_value place (Some expression) next = do
  c ← number_constant expression
  refused (is_outside_int c.sign c.bits) 7 c.place
  gives c.bits
enumerator_value place None (Some bits) = gives bits
enumerator_value place None None = fails 7 place

-- An enumerator: its name is asked before its value is read.
abbrev pub enumerator_named : Span → Rule ℕ
enumerator_named name = do
  number ← name_number name
  here ← meaning_here number
  refused (is_some here) 2 name.start
  gives number

abbrev pub enumerator_valued : Span → ℕ → Option (Rule Found) → Option ℕ → Rule (Option ℕ)
enumerator_valued name number written next = do
  bits ← enumerator_value name.start written next
  declared number (Enumerator bits)
  gives (next_int bits)

unfoldable pub enumerator : Span → Option (Rule Found) → Option ℕ → Rule (Option ℕ)
enumerator name written next = do
  number ← enumerator_named name
  enumerator_valued name number written next
