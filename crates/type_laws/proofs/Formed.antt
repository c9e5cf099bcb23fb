-- Types as declarations make them: an array has elements with words, and a function takes scalars and gives a scalar or nothing.
use Rattle.std.proofs.Common.{◌≡◌, ℕ, ◌<◌, ◌≤◌, ◌*◌, true, refl, sym, ◌∙◌, ap, subst, List, length, slice_get, Option, Some, None, arith}
use Rattle.eff_types.specs.declared.types.CType.{CType, Void, Char, Int, Unsigned, Mutex, Struct, Pointer', Array', Function', Row_of-CType, end_of-CType, more_of-CType}
use Rattle.core_unit.specs.Layout.{words_of, struct_words, told}
use Rattle.core_unit.specs.Shapes.{is_scalar}
use Rattle.core_unit.specs.Structures.{IsWithin, AreWithin}
use Rattle.core_unit.specs.declared.tables.MemberInfo.{MemberInfo}
use Rattle.core_unit.specs.declared.tables.StructInfo.{StructInfo}
use Rattle.type_rules.specs.Types.{is_result}

-- Each structure stays, as it is once it is complete.
abbrev pub StaysBy : Option (List MemberInfo) → StructInfo → Option StructInfo → Type 0
StaysBy (Some members) s after = after ≡ Some s
StaysBy None s (Some t) = Unit {0}
StaysBy None s None = ⊥

abbrev pub StaysAs : StructInfo → Option StructInfo → Type 0
StaysAs s after = StaysBy s.members s after

pub record Stay (before after : List StructInfo) : Type 0 where
  pub many : length before ≤ length after
  pub each : (k : ℕ) (s : StructInfo) → slice_get before k ≡ Some s → StaysAs s (slice_get after k)

pub stay_same : (structures : List StructInfo) → Stay structures structures
stay_same structures = record { many = omega arith; each = λ k s e. stays_by s s.members (slice_get structures k) refl e }
  where
    stays_by : (s : StructInfo) (members : Option (List MemberInfo)) (after : Option StructInfo) → s.members ≡ members → after ≡ Some s → StaysBy members s after
    stays_by s (Some members) after m e = e
    stays_by s None after m e = subst (λ (o : Option StructInfo). StaysBy None s o) (sym e) tt

pub stay_twice : (a b c : List StructInfo) → Stay a b → Stay b c → Stay a c
stay_twice a b c p q = record { many = let m = p.many in let n = q.many in omega arith; each = λ k s e. twice k s s.members refl (slice_get b k) refl (p.each k s e) }
  where
    onward : (k : ℕ) (s t : StructInfo) → slice_get b k ≡ Some t → (after : Option StructInfo) → StaysBy t.members t after → StaysBy None s after
    onward k s t e None h = of t.members h
      where
        of : (members : Option (List MemberInfo)) → StaysBy members t None → ⊥
        of (Some members) e = cc
        of None h = h
    onward k s t e (Some v) h = tt

    twice : (k : ℕ) (s : StructInfo) (members : Option (List MemberInfo)) → s.members ≡ members → (found : Option StructInfo) → slice_get b k ≡ found
        → StaysBy members s found → StaysBy members s (slice_get c k)
    twice k s (Some members) m found e h = let there = q.each k s (e ∙ h) in subst (λ x. StaysBy x s (slice_get c k)) m there
    twice k s None m None e h = absurd h
    twice k s None m (Some t) e h = onward k s t e (slice_get c k) (q.each k t e)

unfoldable mutual
  pub IsFormed : List StructInfo → CType → Type 0
  IsFormed structures (Struct k) = k < length structures
  IsFormed structures (Pointer' _ (more_of-CType t end_of-CType)) = IsFormed structures t
  IsFormed structures (Array' _ (more_of-CType t end_of-CType) n) = IsFormed structures t × (0 < words_of structures t)
  IsFormed structures (Function' _ (more_of-CType r end_of-CType) _ ps effects) = IsFormed structures r × (is_result r ≡ true) × AreFormed structures ps
  IsFormed structures _ = Unit {0}

  pub AreFormed : {n : _} → List StructInfo → Row_of-CType n → Type 0
  AreFormed structures end_of-CType = Unit {0}
  AreFormed structures (more_of-CType t ts) = IsFormed structures t × (is_scalar t ≡ true) × AreFormed structures ts

mutual
  unfolding IsFormed IsWithin

  pub within_of_formed : (structures : List StructInfo) (t : CType) → IsFormed structures t → IsWithin (length structures) t
  within_of_formed structures (Struct k) f = f
  within_of_formed structures (Pointer' _ (more_of-CType t end_of-CType)) f = within_of_formed structures t f
  within_of_formed structures (Array' _ (more_of-CType t end_of-CType) n) f = within_of_formed structures t f.0
  within_of_formed structures (Function' _ (more_of-CType r end_of-CType) _ ps effects) f =
      (within_of_formed structures r f.0, within_of_all_formed structures ps f.2)
  within_of_formed structures Void f = tt
  within_of_formed structures Char f = tt
  within_of_formed structures Int f = tt
  within_of_formed structures Unsigned f = tt
  within_of_formed structures Mutex f = tt

  within_of_all_formed : {n : _} (structures : List StructInfo) (ts : Row_of-CType n) → AreFormed structures ts → AreWithin (length structures) ts
  within_of_all_formed structures end_of-CType f = tt
  within_of_all_formed structures (more_of-CType t ts) f = (within_of_formed structures t f.0, within_of_all_formed structures ts f.2)

mutual
  unfolding IsWithin

  pub within_more : (m n : ℕ) (t : CType) → m ≤ n → IsWithin m t → IsWithin n t
  within_more m n (Struct k) more f = omega arith
  within_more m n (Pointer' _ (more_of-CType t end_of-CType)) more f = within_more m n t more f
  within_more m n (Array' _ (more_of-CType t end_of-CType) k) more f = within_more m n t more f
  within_more m n (Function' _ (more_of-CType r end_of-CType) _ ps effects) more f = (within_more m n r more f.0, all_within_more m n ps more f.1)
  within_more m n Void more f = tt
  within_more m n Char more f = tt
  within_more m n Int more f = tt
  within_more m n Unsigned more f = tt
  within_more m n Mutex more f = tt

  all_within_more : {k : _} (m n : ℕ) (ts : Row_of-CType k) → m ≤ n → AreWithin m ts → AreWithin n ts
  all_within_more m n end_of-CType more f = tt
  all_within_more m n (more_of-CType t ts) more f = (within_more m n t more f.0, all_within_more m n ts more f.1)

-- A structure that isn't complete has no words yet.
abbrev pub OpenAreEmpty : List StructInfo → Type 0
OpenAreEmpty structures = (k : ℕ) (s : StructInfo) → slice_get structures k ≡ Some s → s.members ≡ None → s.words ≡ 0

-- A complete structure has words.
abbrev pub CompleteHaveWords : List StructInfo → Type 0
CompleteHaveWords structures = (k : ℕ) (s : StructInfo) (members : List MemberInfo) → slice_get structures k ≡ Some s → s.members ≡ Some members → 0 < s.words

-- a structure with words is complete, so it stays as it is
complete_stays : (s : StructInfo) (members : Option (List MemberInfo)) (after : Option StructInfo) → s.members ≡ members → StaysBy members s after
    → (members ≡ None → s.words ≡ 0) → 0 < s.words → struct_words after ≡ s.words
complete_stays s None after e stays empty some = let none = empty refl in absurd (omega arith)
complete_stays s (Some members) after e stays empty some = ap struct_words stays

struct_stays : (found after : Option StructInfo) → ((s : StructInfo) → found ≡ Some s → StaysAs s after)
    → ((s : StructInfo) → found ≡ Some s → s.members ≡ None → s.words ≡ 0) → 0 < struct_words found → struct_words after ≡ struct_words found
struct_stays None after stays empty some = absurd (omega arith)
struct_stays (Some s) after stays empty some = complete_stays s s.members after refl (stays s refl) (empty s refl) some

mutual
  unfolding IsFormed words_of

  -- a type with words has the same ones later on
  pub words_stay : (before after : List StructInfo) (t : CType) → Stay before after → OpenAreEmpty before → IsFormed before t → 0 < words_of before t
      → words_of after t ≡ words_of before t
  words_stay before after (Struct k) stay empty f some = struct_stays (slice_get before k) (slice_get after k) (stay.each k) (empty k) some
  words_stay before after (Array' _ (more_of-CType t end_of-CType) n) stay empty f some =
      ap (λ w. told (n * w)) (words_stay before after t stay empty f.0 f.1)
  words_stay before after Void stay empty f some = refl
  words_stay before after Char stay empty f some = refl
  words_stay before after Int stay empty f some = refl
  words_stay before after Unsigned stay empty f some = refl
  words_stay before after Mutex stay empty f some = refl
  words_stay before after (Pointer' _ t) stay empty f some = refl
  words_stay before after (Function' _ _ _ _ _) stay empty f some = refl

mutual
  unfolding IsFormed

  pub formed_stays : (before after : List StructInfo) (t : CType) → Stay before after → OpenAreEmpty before → IsFormed before t → IsFormed after t
  formed_stays before after (Struct k) stay empty f = let many = stay.many in omega arith
  formed_stays before after (Pointer' _ (more_of-CType t end_of-CType)) stay empty f = formed_stays before after t stay empty f
  formed_stays before after (Array' _ (more_of-CType t end_of-CType) n) stay empty f =
      (formed_stays before after t stay empty f.0, let same = words_stay before after t stay empty f.0 f.1 in let some = f.1 in omega arith)
  formed_stays before after (Function' _ (more_of-CType r end_of-CType) _ ps effects) stay empty f =
      (formed_stays before after r stay empty f.0, f.1, all_formed_stay before after ps stay empty f.2)
  formed_stays before after Void stay empty f = tt
  formed_stays before after Char stay empty f = tt
  formed_stays before after Int stay empty f = tt
  formed_stays before after Unsigned stay empty f = tt
  formed_stays before after Mutex stay empty f = tt

  all_formed_stay : {n : _} (before after : List StructInfo) (ts : Row_of-CType n) → Stay before after → OpenAreEmpty before
      → AreFormed before ts → AreFormed after ts
  all_formed_stay before after end_of-CType stay empty f = tt
  all_formed_stay before after (more_of-CType t ts) stay empty f =
      (formed_stays before after t stay empty f.0, f.1, all_formed_stay before after ts stay empty f.2)
