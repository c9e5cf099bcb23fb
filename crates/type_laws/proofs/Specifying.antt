-- Specifiers keep what was seen, and say types that are formed.
use Rattle.std.proofs.Common.{◌≡◌, ℕ, zero, suc, ◌<◌, ◌+◌, ◌%◌, ◌^◌, ◌-◌, Bool, true, false, refl, sym, ◌∙◌, ap, subst, List, [], ◌∷◌, ◌++◌, map, sum, length, length-set, Option, Some, None, arith}
use Rattle.std.specs.Prelude.{◌&&◌, ◌||◌, ◌==◌, slice_set, is_some, if◌then◌else◌}
use Rattle.scopes.specs.Number.{number_of, noted}
use Rattle.scopes.specs.Scope.{found, found_here, declare}
use Rattle.c_tree.specs.declared.words.Attr.{Attr}
use Rattle.c_tree.specs.declared.words.FunctionWord.{FunctionWord}
use Rattle.c_tree.specs.declared.words.FunctionWord.TheVariants as function_word
use Rattle.c_tree.specs.declared.words.Span.{Span}
use Rattle.c_tree.specs.declared.words.StorageWord.{StorageWord}
use Rattle.c_tree.specs.declared.words.StorageWord.TheVariants as storage
use Rattle.c_tree.specs.declared.words.TypeWord.{TypeWord}
use Rattle.c_tree.specs.declared.words.TypeWord.TheVariants as type_word
use Rattle.eff_types.specs.declared.types.CType.{CType, Int, Struct}
use Rattle.core_unit.specs.Typed.{Tables}
use Rattle.core_unit.specs.declared.tables.MemberInfo.{MemberInfo}
use Rattle.core_unit.specs.declared.tables.StructInfo.{StructInfo}
use Rattle.type_rules.specs.Constants.{number_constant}
use Rattle.type_rules.specs.Reading.{Read, Good, Bad, and_then, text_of, name_number}
use Rattle.type_rules.specs.Seen.{Seen}
use Rattle.type_rules.specs.Sizes.{size_of}
use Rattle.type_rules.specs.declared.specifiers.Specifiers.{Specifiers}
use Rattle.type_rules.specs.Specifiers.{no_specifiers, with_storage, with_function_word, type_with, with_type, with_type_word, with_attribute, or_int, base_type, named_type, typedef_name, structure_by, tagged_structure, opened_structure, structure_name, structure_closed, structure, enumeration_by, tagged_enumeration, opened_enumeration, enumeration_name, enumeration, next_int, is_outside_int, enumerator_value, enumerator_valued, enumerator}
use Rattle.type_rules.specs.declared.found.Found.{Found}
use Rattle.type_rules.specs.declared.names.Entity.{Entity}
use Rattle.type_rules.specs.declared.names.Entity.TheVariants.{Variable, Function, TypeName, Enumerator, Library, NullPointer, MutexInitializer}
use Rattle.type_rules.specs.declared.names.Tag.{Tag}
use Rattle.type_rules.specs.declared.names.Tag.TheVariants.{Structure, Enumeration}
use Rattle.type_laws.proofs.Declared.{AreSpecified}
use Rattle.type_laws.proofs.Formed.{IsFormed, Stay, stay_same, stay_twice}
use Rattle.type_laws.proofs.Lists.{get_inside, length_more}
use Rattle.type_laws.proofs.Naming.{found_is}
use Rattle.type_laws.proofs.Operands.{IsFound, IsTypedFound}
use Rattle.type_laws.proofs.Steps.{noted_triple, whole_of, whole_then, declared_made}
use Rattle.type_laws.proofs.Tables.{without_members, with_members, stay_more, stay_set, lawful_added, lawful_completed, lawful_tags}
use Rattle.type_laws.proofs.Tags.{IsBegun, begun_more, untagged, begun_set, lawful_named, begun_named, opens_here, lawful_first, begun_first, first_begun, lawful_enumeration, begun_enumeration}
use Rattle.type_laws.proofs.Triples.{Each, IsLawfulEntity, IsLawfulMember, Lawful, Leads, Begun, Made, Holds, Triple, Keeps, Always, calm_same, then_keeps, gives_keeps, fails_keeps, refused_keeps, anyway}
use Rattle.type_laws.proofs.Worths.{constant_keeps}

-- of what is made, nothing is said by the tables
abbrev pub Silent : {A : Type 0} → A → Tables → Type 0
Silent a u = Unit {0}

-- a word or an attribute more
pub specified_same : (s : Seen) (b c : Specifiers) → Lawful s → AreSpecified b s → base_type c ≡ base_type b → Triple Always AreSpecified Silent s (Good c s)
specified_same s b c lawful formed same = gives_keeps s c lawful (subst (IsFormed s.structures) (sym same) formed) (λ u leads knows p. tt)

pub storage_keeps : (word : StorageWord) (b : Specifiers) (s : Seen) → Lawful s → AreSpecified b s → Triple Always AreSpecified Silent s (Good (with_storage word b) s)
storage_keeps word b s lawful formed = specified_same s b (with_storage word b) lawful formed (of word)
  where
    of : (word : StorageWord) → base_type (with_storage word b) ≡ base_type b
    of storage.Typedef = refl
    of storage.Static = refl
    of storage.ThreadLocal = refl
    of storage.Extern = refl

pub function_word_keeps : (word : FunctionWord) (b : Specifiers) (s : Seen) → Lawful s → AreSpecified b s
    → Triple Always AreSpecified Silent s (Good (with_function_word word b) s)
function_word_keeps word b s lawful formed = specified_same s b (with_function_word word b) lawful formed (of word)
  where
    of : (word : FunctionWord) → base_type (with_function_word word b) ≡ base_type b
    of function_word.NoReturn = refl
    of function_word.Inline = refl

pub attribute_keeps : (a : Attr) (b : Specifiers) (s : Seen) → Lawful s → AreSpecified b s → Triple Always AreSpecified Silent s (Good (with_attribute a b) s)
attribute_keeps a b s lawful formed = specified_same s b (with_attribute a b) lawful formed refl

word_formed : (structures : List StructInfo) (word : TypeWord) (before : Option CType) → IsFormed structures (or_int before) → IsFormed structures (type_with word before)
unfolding IsFormed
word_formed structures type_word.Void before formed = tt
word_formed structures type_word.Char before formed = tt
word_formed structures type_word.Unsigned before formed = tt
word_formed structures type_word.Int (Some t) formed = formed
word_formed structures type_word.Signed (Some t) formed = formed
word_formed structures type_word.Int None formed = tt
word_formed structures type_word.Signed None formed = tt

pub type_word_keeps : (word : TypeWord) (b : Specifiers) (s : Seen) → Lawful s → AreSpecified b s → Triple Always AreSpecified Silent s (Good (with_type_word word b) s)
type_word_keeps word b s lawful formed = gives_keeps s (with_type_word word b) lawful (word_formed s.structures word b.kind formed) (λ u leads knows p. tt)

int_formed : (structures : List StructInfo) → IsFormed structures Int
unfolding IsFormed
int_formed structures = tt

pub none_formed : (s : Seen) → AreSpecified no_specifiers s
none_formed s = int_formed s.structures

-- a typedef name
pub typedef_name_keeps : (name : Span) (b : Specifiers) (s : Seen) → Lawful s → Triple Always AreSpecified Silent s (typedef_name name b s)
unfolding typedef_name name_number and_then
typedef_name_keeps name b s lawful =
    noted_triple s (noted s.names (text_of s.source name)) s.sites _ (of (found s.scopes (number_of s.names (text_of s.source name))) refl)
  where
    after : Seen
    after = record s { names = noted s.names (text_of s.source name) }

    of : (e : Option Entity) → found s.scopes (number_of s.names (text_of s.source name)) ≡ e
        → Triple Always AreSpecified Silent after (and_then (named_type e name.start after) (λ t v. Good (with_type t b) v))
    of (Some (TypeName t)) is =
        gives_keeps after (with_type t b) lawful
        (found_is (IsLawfulEntity s.structures (length s.functions)) s.scopes (number_of s.names (text_of s.source name)) (TypeName t) lawful.entities is) (λ u leads knows p. tt)
    of None is = fails_keeps after 1 name.start
    of (Some (Variable t storage n)) is = fails_keeps after 1 name.start
    of (Some (Function n)) is = fails_keeps after 1 name.start
    of (Some (Enumerator bits)) is = fails_keeps after 1 name.start
    of (Some (Library row)) is = fails_keeps after 1 name.start
    of (Some NullPointer) is = fails_keeps after 1 name.start
    of (Some MutexInitializer) is = fails_keeps after 1 name.start

-- A structure that is named: it stands in the table, and where its definition begins, it had not begun before.
abbrev pub IsNamedIn : Bool → Seen → ℕ → Seen → Type 0
IsNamedIn opens s k t = (k < length t.structures) × (opens ≡ true → Begun t k × ((j : ℕ) → Begun s j → j ≡ k → ⊥))

module _ (s : Seen) (lawful : Lawful s) (name : Span) (number : ℕ) where
  -- by a tag that is known
  known_keeps : (opens opened : Bool) (k : ℕ) → found s.tags number ≡ Some (Structure k opened) → (opens && opened) ≡ false
      → Triple Always (IsNamedIn opens s) Silent s (Good k (record s { tags = declare s.tags number (Structure k (opens || opened)) }))
  known_keeps opens opened k is fresh = record {
    holds = record {
      lawful = lawful_tags s (declare s.tags number (Structure k (opens || opened))) lawful (lawful_named s.structures s.tags number k opens opened is lawful.tags_lawful);
      stay = stay_same s.structures;
      known = (lawful.tags_lawful.inside number k opened is, λ o. begins opens opened is fresh o);
      outer = refl;
      back = λ u leads. leads;
      begun = λ j begun. begun_named s.structures s.tags number k opens opened is j begun;
      calm = calm_same s;
      here = λ n e is. is;
      old = λ n t' storage k is. is;
      tables = λ u leads knows p. (knows, tt);
    };
  }
    where
      begins : (opens opened : Bool) → found s.tags number ≡ Some (Structure k opened) → (opens && opened) ≡ false → opens ≡ true
          → IsBegun s.structures (declare s.tags number (Structure k (opens || opened))) k × ((j : ℕ) → Begun s j → j ≡ k → ⊥)
      begins true true is fresh o = absurd (cc)
      begins false opened is fresh o = absurd (cc)
      begins true false is fresh o = (
        opens_here s.structures s.tags number k is lawful.tags_lawful,
        λ j begun same. let clash : false ≡ true = begun.told number false (is ∙ ap (λ n. Some (Structure n false)) (sym same)) in cc,
      )

  -- a new one
  abbrev added : Option (List ℕ) → Seen
  added tag = record s { structures = s.structures ++ without_members tag ∷ []; sizes = s.sizes ++ 0 ∷ [] }

  not_last : (j : ℕ) → Begun s j → j ≡ length s.structures → ⊥
  not_last j begun same = let inside = get_inside s.structures j begun.unknown.info begun.unknown.known in omega arith

  abbrev named_new : Option (List ℕ) → Bool → Seen
  named_new tag opens = record (added tag) { tags = declare s.tags number (Structure (length s.structures) opens) }

  new_keeps : (tag : Option (List ℕ)) (opens : Bool) → Triple Always (IsNamedIn opens s) Silent s (Good (length s.structures) (named_new tag opens))
  new_keeps tag opens = record {
    holds = record {
      lawful = lawful_tags (added tag) (declare s.tags number (Structure (length s.structures) opens)) (lawful_added s tag lawful)
          (lawful_first (added tag).structures s.tags number (length s.structures) opens inside last.unknown new (lawful_added s tag lawful).tags_lawful);
      stay = stay_more s.structures tag;
      known = (inside, λ o. (first_begun (added tag).structures s.tags number (length s.structures) opens inside last.unknown new o, not_last));
      outer = refl;
      back = λ u leads. record {
        named = leads.named;
        stay = stay_twice s.structures (added tag).structures u.structures (stay_more s.structures tag) leads.stay;
        begin = leads.begin;
        thread_begin = leads.thread_begin;
      };
      begun = λ j begun.
          begun_first (added tag).structures s.tags number (length s.structures) opens inside last.unknown new j (not_last j begun)
          (begun_more s.structures s.tags (without_members tag) j begun);
      calm = calm_same s;
      here = λ n e is. is;
      old = λ n t' storage k is. is;
      tables = λ u leads knows p. (knows, tt);
    };
  }
    where
      last : IsBegun (added tag).structures s.tags (length s.structures)
      last = untagged s.structures s.tags (without_members tag) lawful.tags_lawful refl

      inside : length s.structures < length (added tag).structures
      inside = let more = length_more s.structures (without_members tag) in omega arith

      new : (n : ℕ) (opened : Bool) → found s.tags n ≡ Some (Structure (length s.structures) opened) → ⊥
      new n opened e = let below = lawful.tags_lawful.inside n (length s.structures) opened e in omega arith

  by_keeps : (opens : Bool) (tag : Option Tag) → found s.tags number ≡ tag → Triple Always (IsNamedIn opens s) Silent s (structure_by name number opens tag s)
  unfolding and_then
  by_keeps opens (Some (Structure k opened)) is = refused_keeps s (opens && opened) 2 name.start _ (λ fresh. known_keeps opens opened k is fresh)
  by_keeps opens (Some (Enumeration opened)) is = fails_keeps s 2 name.start
  by_keeps opens None is = new_keeps (Some (text_of s.source name)) opens

  -- without a tag
  anonymous_keeps : Triple Always (IsNamedIn true s) Silent s (Good (length s.structures) (added None))
  anonymous_keeps = record {
    holds = record {
      lawful = lawful_added s None lawful;
      stay = stay_more s.structures None;
      known = (
        (let more = length_more s.structures (without_members None) in omega arith),
        λ o. (untagged s.structures s.tags (without_members None) lawful.tags_lawful refl, not_last),
      );
      outer = refl;
      back = λ u leads. record {
        named = leads.named;
        stay = stay_twice s.structures (added None).structures u.structures (stay_more s.structures None) leads.stay;
        begin = leads.begin;
        thread_begin = leads.thread_begin;
      };
      begun = λ j begun. begun_more s.structures s.tags (without_members None) j begun;
      calm = calm_same s;
      here = λ n e is. is;
      old = λ n t' storage k is. is;
      tables = λ u leads knows p. (knows, tt);
    };
  }

  enumeration_declared : (opened : Bool) → Triple {A = Unit {0}} Always (λ a t. Unit {0}) Silent s (Good tt (record s { tags = declare s.tags number (Enumeration opened) }))
  enumeration_declared opened = record {
    holds = record {
      lawful = lawful_tags s (declare s.tags number (Enumeration opened)) lawful (lawful_enumeration s.structures s.tags number opened lawful.tags_lawful);
      stay = stay_same s.structures;
      known = tt;
      outer = refl;
      back = λ u leads. leads;
      begun = λ j begun. begun_enumeration s.structures s.tags number opened j begun;
      calm = calm_same s;
      here = λ n e is. is;
      old = λ n t' storage k is. is;
      tables = λ u leads knows p. (knows, tt);
    };
  }

  enumeration_by_keeps : (opens : Bool) (tag : Option Tag) → Triple Always (λ a t. Unit {0}) Silent s (enumeration_by name number opens tag s)
  unfolding and_then
  enumeration_by_keeps opens (Some (Structure k opened)) = fails_keeps s 2 name.start
  enumeration_by_keeps opens (Some (Enumeration opened)) = refused_keeps s (opens && opened) 2 name.start _ (λ fresh. enumeration_declared (opens || opened))
  enumeration_by_keeps opens None = enumeration_declared opens

pub tagged_keeps : (opens : Bool) (name : Span) (s : Seen) → Lawful s → Triple Always (IsNamedIn opens s) Silent s (tagged_structure opens name s)
unfolding tagged_structure name_number and_then
tagged_keeps opens name s lawful =
    noted_triple s (noted s.names (text_of s.source name)) s.sites _
    (by_keeps (record s { names = noted s.names (text_of s.source name) }) lawful name (number_of s.names (text_of s.source name)) opens
    (found s.tags (number_of s.names (text_of s.source name))) refl)

pub opened_keeps : (tag : Option Span) (s : Seen) → Lawful s → Triple Always (IsNamedIn true s) Silent s (opened_structure tag s)
opened_keeps None s lawful = anonymous_keeps s lawful (record { start = 0; «end» = 0 }) 0
opened_keeps (Some name) s lawful = tagged_keeps true name s lawful

struct_formed : (structures : List StructInfo) (k : ℕ) → k < length structures → IsFormed structures (Struct k)
unfolding IsFormed
struct_formed structures k inside = inside

pub structure_name_keeps : (name : Span) (b : Specifiers) (s : Seen) → Lawful s → Triple Always AreSpecified Silent s (structure_name name b s)
unfolding structure_name and_then
structure_name_keeps name b s lawful =
    then_keeps s (tagged_structure false name s) _ (tagged_keeps false name s lawful) (λ k t t_lawful t_stay known.
    gives_keeps t (with_type (Struct k) b) t_lawful (struct_formed t.structures k known.0) (λ u leads knows p. tt))

-- the members of a structure, as far as they were read
abbrev pub AreMembers : List MemberInfo → Seen → Type 0
AreMembers ms s = Each (IsLawfulMember s.structures) ms

-- a structure takes its members
module _ (s : Seen) (k : ℕ) (t : Seen) (ms : List MemberInfo) (v : Seen) (b : Specifiers) (first : Made Always (IsNamedIn true s) Silent s k t)
    (second : Made (λ u. Always u × Silent k u) AreMembers Silent t ms v) (whole : Made Always AreMembers Silent s ms v) (some : 0 < length ms) where
  abbrev completed_with : Option (List ℕ) → ℕ → Seen
  completed_with tag n =
      record v { structures = slice_set v.structures k (with_members v.structures tag ms); sizes = slice_set v.sizes k (n % 2 ^ 32) }

  completed_made : (tag : Option (List ℕ)) (n : ℕ) → Made Always AreSpecified Silent s (with_type (Struct k) b) (completed_with tag n)
  completed_made tag n =
      let begun : Begun v k = second.begun k (first.known.1 refl).0 in
      let onward = stay_set v.structures k begun.unknown tag ms in
      record {
        lawful = lawful_completed v k tag ms n whole.lawful begun whole.known some;
        stay = stay_twice s.structures v.structures (completed_with tag n).structures whole.stay onward;
        known = struct_formed (completed_with tag n).structures k
            (let same = length-set v.structures k (with_members v.structures tag ms) in
            let inside = get_inside v.structures k begun.unknown.info begun.unknown.known in omega arith);
        outer = whole.outer;
        back = λ u leads. whole.back u (back_to u onward leads);
        begun = λ j old.
            begun_set v.structures v.tags k (with_members v.structures tag ms) j (λ same. (first.known.1 refl).1 j old same) (whole.begun j old);
        calm = whole.calm;
        here = whole.here;
        old = whole.old;
        tables = λ u leads knows p. ((whole.tables u (back_to u onward leads) knows p).0, tt);
      }
    where
      back_to : (u : Tables) → Stay v.structures (completed_with tag n).structures → Leads (completed_with tag n) u → Leads v u
      back_to u onward leads = record {
        named = leads.named;
        stay = stay_twice v.structures (completed_with tag n).structures u.structures onward leads.stay;
        begin = leads.begin;
        thread_begin = leads.thread_begin;
      }

positive : (n : ℕ) → (n == 0) ≡ false → 0 < n
positive zero e = absurd (cc)
positive (suc n) e = omega arith

refused_holds : {A : Type 0} (R : A → Seen → Type 0) (s : Seen) (test : Bool) (number place : ℕ) (k : Unit {0} → Seen → Read A) → (test ≡ false → Holds R (k tt s))
    → Holds R (and_then (if test then Bad number place else Good tt s) k)
unfolding and_then
refused_holds R s true number place k next = tt
refused_holds R s false number place k next = next refl

closed_holds : (s : Seen) (place : ℕ) (tag : Option Span) (k : ℕ) (t : Seen) (ms : List MemberInfo) (v : Seen) (b : Specifiers) → Made Always (IsNamedIn true s) Silent s k t
    → Made (λ u. Always u × Silent k u) AreMembers Silent t ms v → Made Always AreMembers Silent s ms v
    → Holds (λ c w. Made Always AreSpecified Silent s c w) (structure_closed place tag k ms b v)
unfolding and_then
closed_holds s place None k t ms v b first second whole =
    refused_holds (λ c w. Made Always AreSpecified Silent s c w) v (length ms == 0) 10 place _ (λ e.
    completed_made s k t ms v b first second whole (positive (length ms) e) None (sum (map (λ m. size_of v.sizes m.kind) ms)))
closed_holds s place (Some name) k t ms v b first second whole =
    refused_holds (λ c w. Made Always AreSpecified Silent s c w) v (length ms == 0) 10 place _ (λ e.
    completed_made s k t ms v b first second whole (positive (length ms) e) (Some (text_of v.source name)) (sum (map (λ m. size_of v.sizes m.kind) ms)))

pub structure_keeps : (place : ℕ) (tag : Option Span) (members : Seen → Read (List MemberInfo)) (b : Specifiers) → Keeps Always AreMembers Silent members
    → (s : Seen) → Lawful s → Triple Always AreSpecified Silent s (structure place tag members b s)
unfolding structure and_then
structure_keeps place tag members b keeps s lawful = record {
  holds = whole_of (λ c w. Made Always AreSpecified Silent s c w) s (opened_structure tag s) _ (opened_keeps tag s lawful) (λ k t first.
      whole_then (λ c w. Made Always AreSpecified Silent s c w) s k t (members t) _ first (anyway t _ (keeps t first.lawful)) (λ ms v whole second.
      closed_holds s place tag k t ms v b first second whole));
}

-- enumerations
pub tagged_enumeration_keeps : (opens : Bool) (name : Span) (s : Seen) → Lawful s → Triple Always (λ a t. Unit {0}) Silent s (tagged_enumeration opens name s)
unfolding tagged_enumeration name_number and_then
tagged_enumeration_keeps opens name s lawful =
    noted_triple s (noted s.names (text_of s.source name)) s.sites _
    (enumeration_by_keeps (record s { names = noted s.names (text_of s.source name) }) lawful name (number_of s.names (text_of s.source name)) opens
    (found s.tags (number_of s.names (text_of s.source name))))

opened_enumeration_keeps : (tag : Option Span) (s : Seen) → Lawful s → Triple Always (λ a t. Unit {0}) Silent s (opened_enumeration tag s)
opened_enumeration_keeps None s lawful = gives_keeps s tt lawful tt (λ u leads knows p. tt)
opened_enumeration_keeps (Some name) s lawful = tagged_enumeration_keeps true name s lawful

pub enumeration_name_keeps : (name : Span) (b : Specifiers) (s : Seen) → Lawful s → Triple Always AreSpecified Silent s (enumeration_name name b s)
unfolding enumeration_name and_then
enumeration_name_keeps name b s lawful =
    then_keeps s (tagged_enumeration false name s) _ (tagged_enumeration_keeps false name s lawful) (λ k t t_lawful t_stay known.
    gives_keeps t (with_type Int b) t_lawful (int_formed t.structures) (λ u leads knows p. tt))

-- the value of the next enumerator
abbrev pub NextFits : Option ℕ → Seen → Type 0
NextFits (Some bits) s = bits < 2 ^ 32
NextFits None s = Unit {0}

pub enumeration_keeps : (tag : Option Span) (enumerators : Seen → Read (Option ℕ)) (b : Specifiers) → Keeps Always NextFits Silent enumerators
    → (s : Seen) → Lawful s → Triple Always AreSpecified Silent s (enumeration tag enumerators b s)
unfolding enumeration and_then
enumeration_keeps tag enumerators b keeps s lawful =
    then_keeps s (opened_enumeration tag s) _ (opened_enumeration_keeps tag s lawful) (λ k t t_lawful t_stay known.
    then_keeps t (enumerators t) _ (anyway t _ (keeps t t_lawful)) (λ last v v_lawful v_stay fits.
    gives_keeps v (with_type Int b) v_lawful (int_formed v.structures) (λ u leads knows p. tt)))

-- a size or a value, where it is written
abbrev pub WrittenKeeps : Option (Seen → Read Found) → Type 0
WrittenKeeps None = Unit {0}
WrittenKeeps (Some rule) = Keeps Always IsFound (IsTypedFound false) rule

abbrev IsSmall : ℕ → Tables → Type 0
IsSmall bits u = bits < 2 ^ 32

value_keeps : (place : ℕ) (written : Option (Seen → Read Found)) (next : Option ℕ) → WrittenKeeps written → (s : Seen) → Lawful s → NextFits next s
    → Triple Always (λ bits t. Unit {0}) IsSmall s (enumerator_value place written next s)
unfolding and_then
value_keeps place (Some expression) next keeps s lawful fits =
    then_keeps s (number_constant expression s) _ (constant_keeps expression keeps s lawful) (λ c t t_lawful t_stay known.
    refused_keeps t (is_outside_int c.sign c.bits) 7 c.place _ (λ e. gives_keeps t c.bits t_lawful tt (λ u leads knows p. p.1)))
value_keeps place None (Some bits) keeps s lawful fits = gives_keeps s bits lawful tt (λ u leads knows p. fits)
value_keeps place None None keeps s lawful fits = fails_keeps s 7 place

next_fits : (bits : ℕ) (s : Seen) → NextFits (next_int bits) s
next_fits bits s = of (bits == 2 ^ 31 - 1)
  where
    of : (test : Bool) → NextFits (if test then None else Some ((bits + 1) % 2 ^ 32)) s
    of true = tt
    of false = omega arith

fits_still : (next : Option ℕ) (s t : Seen) → NextFits next s → NextFits next t
fits_still (Some bits) s t fits = fits
fits_still None s t fits = tt

pub enumerator_keeps : (name : Span) (written : Option (Seen → Read Found)) (next : Option ℕ) → WrittenKeeps written → (s : Seen) → Lawful s → NextFits next s
    → Triple Always NextFits Silent s (enumerator name written next s)
unfolding enumerator name_number and_then
enumerator_keeps name written next keeps s lawful fits =
    noted_triple s (noted s.names (text_of s.source name)) s.sites _ (record { holds = of (is_some (found_here s.scopes number)) refl })
  where
    number : ℕ
    number = number_of s.names (text_of s.source name)

    after : Seen
    after = record s { names = noted s.names (text_of s.source name) }

    -- its value is read, and then it is declared
    of : (test : Bool) → is_some (found_here s.scopes number) ≡ test
        → Holds (λ a t. Made Always NextFits Silent after a t)
        (and_then (and_then {A = Unit {0}} (if test then Bad 2 name.start else Good tt after) (λ _ t. Good number t)) (λ n. enumerator_valued name n written next))
    of true new = tt
    of false new =
        whole_of (λ a t. Made Always NextFits Silent after a t) after (enumerator_value name.start written next after) _
        (value_keeps name.start written next keeps after lawful (fits_still next s after fits)) (λ bits t whole.
        declared_made Always _ IsSmall NextFits Silent after bits t number (Enumerator bits) (next_int bits) new (λ t' storage n e. cc) whole tt
        (next_fits bits (record t { scopes = declare t.scopes number (Enumerator bits) })) (λ u leads small. (small, tt)))
