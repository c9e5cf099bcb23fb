-- Objects and functions through pointers, elements, members, addresses and sizes (C17 6.5.2.1, 6.5.2.3, 6.5.3.2 and 6.5.3.4).
use Rattle.std.specs.Prelude.{ℕ, not, ◌||◌, if◌then◌else◌, List, take, Option, Some, None, slice_get}
use Rattle.std.specs.List.{position_or_len}
use Rattle.std.specs.Str.{bytes_eq}
use Rattle.eff_types.specs.Types.{is_function, is_function_pointer}
use Rattle.eff_types.specs.declared.types.CType.{CType, Unsigned, Struct}
use Rattle.c_tree.specs.declared.expressions.AccessOperator.{AccessOperator}
use Rattle.c_tree.specs.declared.expressions.AccessOperator.TheVariants.{Dot, Arrow}
use Rattle.c_tree.specs.declared.words.Span.{Span}
use Rattle.core_unit.specs.Layout.{members_words}
use Rattle.core_unit.specs.Shapes.{target_of, pointer_to, is_object_pointer}
use Rattle.core_unit.specs.declared.expressions.Expr.{Expr}
use Rattle.core_unit.specs.declared.expressions.Expr.TheVariants as expr
use Rattle.core_unit.specs.declared.expressions.Place.{Place}
use Rattle.core_unit.specs.declared.expressions.Place.TheVariants as object
use Rattle.core_unit.specs.declared.operators.PointerSide.TheVariants.{Left, Right}
use Rattle.core_unit.specs.declared.tables.MemberInfo.{MemberInfo}
use Rattle.core_unit.specs.declared.tables.StructInfo.{StructInfo}
use Rattle.type_rules.specs.declared.found.Found.{Found}
use Rattle.type_rules.specs.declared.found.Form.{Form}
use Rattle.type_rules.specs.declared.found.Form.TheVariants.{Lvalue, Value}
use Rattle.type_rules.specs.declared.found.Operand.{Operand}
use Rattle.type_rules.specs.declared.found.Pair.{Pair}
use Rattle.type_rules.specs.declared.found.Pair.TheVariants.{PointerFirst, PointerSecond}
use Rattle.type_rules.specs.Operands.{operand, found_object, found_value, promoted}
use Rattle.type_rules.specs.Operators.{pair_of, stride}
use Rattle.type_rules.specs.Reading.{Rule, Good, and_then, gives, fails, refused, seen, text_of, ◌>>=◌, ◌>>◌}
use Rattle.type_rules.specs.Seen.{Seen}
use Rattle.type_rules.specs.Sizes.{size_of}
use Rattle.type_rules.specs.Types.{is_incomplete}

-- `*` (C17 6.5.3.2): of a pointer to an object, which it designates, or of a pointer to a function. `void` is no object.
abbrev pub indirection_of : ℕ → Operand → Rule Found
indirection_of place o = do
  refused (not (is_object_pointer o.kind || is_function_pointer o.kind)) 3 place
  gives (if is_function_pointer o.kind then found_value place (target_of o.kind) (expr.TargetFunction o.node)
      else found_object place (target_of o.kind) (object.Indirection o.node (target_of o.kind)))

unfoldable pub indirection : ℕ → Rule Found → Rule Found
indirection place expression = do
  o ← operand expression
  indirection_of place o

-- `a[i]` is `*(a + i)` (C17 6.5.2.1), so either may be the pointer.
abbrev pub element_as : ℕ → Operand → Operand → Pair → Rule Found
element_as place a b PointerFirst = do
  words ← stride place a.kind
  gives (found_object place (target_of a.kind) (object.Element a.node (promoted b).node Left words (target_of a.kind)))
element_as place a b PointerSecond = do
  words ← stride place b.kind
  gives (found_object place (target_of b.kind) (object.Element (promoted a).node b.node Right words (target_of b.kind)))
element_as place a b _ = fails 3 place

abbrev pub element_by : ℕ → Operand → Operand → Rule Found
element_by place a b = element_as place a b (pair_of a.kind b.kind)

unfoldable pub element : ℕ → Rule Found → Rule Found → Rule Found
element place array index = do
  a ← operand array
  b ← operand index
  element_by place a b

-- A member of a structure of which the first token of the whole expression stands at `place` (C17 6.5.2.3).
abbrev pub member_at : ℕ → Place → List StructInfo → List MemberInfo → ℕ → Option MemberInfo → ℕ → Rule Found
member_at place base structures members index (Some m) at =
    gives (found_object place m.kind (object.Member base (members_words structures (take index members)) m.kind))
member_at place base structures members index None at = fails 8 at

abbrev pub member_named : ℕ → Place → Span → Seen → List MemberInfo → ℕ → Rule Found
member_named place base name s members index = member_at place base s.structures members index (slice_get members index) name.start

abbrev pub index_of : List ℕ → List MemberInfo → ℕ
index_of text members = position_or_len (λ m. bytes_eq text m.name) members

abbrev pub member_of_all : ℕ → Place → Span → Seen → Option (List MemberInfo) → Rule Found
member_of_all place base name s (Some members) = member_named place base name s members (index_of (text_of s.source name) members)
member_of_all place base name s None = fails 10 place

abbrev pub known_members : Option StructInfo → Option (List MemberInfo)
known_members (Some info) = info.members
known_members None = None

unfoldable pub member : ℕ → Place → Span → ℕ → Rule Found
member place base name number = λ s. member_of_all place base name s (known_members (slice_get s.structures number)) s

-- `.`: of a structure
abbrev pub member_of_object : ℕ → Span → CType → Form → Rule Found
member_of_object place name (Struct number) (Lvalue base) = member place base name number
member_of_object place name _ _ = fails 3 place

-- `->`: of a pointer to a structure
abbrev pub member_of_target : ℕ → Span → Expr → CType → Rule Found
member_of_target place name pointer (Struct number) = member place (object.Arrow pointer number) name number
member_of_target place name pointer _ = fails 3 place

unfoldable pub access : ℕ → AccessOperator → Span → Rule Found → Rule Found
access place Dot name expression = do
  f ← expression
  member_of_object place name f.kind f.form
access place Arrow name expression = do
  o ← operand expression
  member_of_target place name o.node (target_of o.kind)

-- `&` (C17 6.5.3.2): of an expression that designates an object, or of a function.
abbrev pub address_of : ℕ → ℕ → CType → Form → Rule Found
address_of place at kind (Lvalue base) = gives (found_value place (pointer_to kind) (expr.AddressOf base))
address_of place at kind (Value node) = do
  refused (not (is_function kind)) 6 at
  gives (found_value place (pointer_to kind) (expr.FunctionPointer node))

unfoldable pub address : ℕ → Rule Found → Rule Found
address place expression = do
  f ← expression
  address_of place f.place f.kind f.form

-- `sizeof` (C17 6.5.3.4): of a complete object type. Its operand isn't evaluated, so it has no call sites; what it adds to types, literals and
-- warnings stays.
unfoldable pub unevaluated : {A : Type 0} → Rule A → Rule A
unevaluated rule = λ s. and_then (rule s) (λ a t. Good a (record t { sites = s.sites }))

unfoldable pub size : ℕ → CType → Rule Found
size place t = do
  refused (is_function t) 3 place
  s ← seen
  refused (is_incomplete s.structures t) 10 place
  gives (found_value place Unsigned (expr.Sizeof (size_of s.sizes t)))

unfoldable pub size_of_expression : ℕ → Rule Found → Rule Found
size_of_expression place expression = do
  f ← unevaluated expression
  size place f.kind

unfoldable pub size_of_type : ℕ → Rule CType → Rule Found
size_of_type place name = do
  t ← unevaluated name
  size place t
