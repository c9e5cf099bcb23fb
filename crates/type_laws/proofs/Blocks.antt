-- Block variables keep what was seen, and are typed.
use Rattle.std.proofs.Common.{◌≡◌, ℕ, ◌<◌, ◌^◌, ◌-◌, Bool, true, false, refl, sym, ◌∙◌, ap, subst, List, [], ◌∷◌, ◌++◌, append-nil, Option, Some, None}
use Rattle.std.specs.Prelude.{◌||◌, is_some}
use Rattle.scopes.specs.Scope.{found_here}
use Rattle.c_tree.specs.declared.declarations.Init.{Init}
use Rattle.eff_types.specs.Types.{is_function}
use Rattle.eff_types.specs.declared.types.CType.{CType, Void, Char, Int, Unsigned, Mutex, Struct, Pointer', Array', Function', end_of-CType, more_of-CType}
use Rattle.core_unit.specs.Layout.{words_of, automatic, automatics, list_automatics}
use Rattle.core_unit.specs.Shapes.{is_unsized, element_of, array_of}
use Rattle.core_unit.specs.Typed.{Tables, IsInitializer, IsTypedVariable, IsTypedStmt, ListIsTyped, is_variable, where_in}
use Rattle.core_unit.specs.declared.body.Initializer.{Initializer}
use Rattle.core_unit.specs.declared.body.Initializer.TheVariants as init
use Rattle.core_unit.specs.declared.body.LocalVariable.{LocalVariable}
use Rattle.core_unit.specs.declared.body.Stmt.{Stmt}
use Rattle.core_unit.specs.declared.body.Stmt.TheVariants as stmt
use Rattle.core_unit.specs.declared.expressions.Storage.{Storage}
use Rattle.core_unit.specs.declared.expressions.Storage.TheVariants.{Automatic, Static, ThreadLocal}
use Rattle.core_unit.specs.declared.tables.Object.{Object}
use Rattle.core_unit.specs.declared.tables.StructInfo.{StructInfo}
use Rattle.type_rules.specs.Declarations.{Named, is_mistyped, block_duration, block_initializer, block_words, block_kept, block_initialized, array_completed, block_name, sized, sized_by}
use Rattle.type_rules.specs.Declarators.{faults}
use Rattle.type_rules.specs.Initializers.{initial_size, size_told, initialized}
use Rattle.type_rules.specs.Reading.{Read, Good, Bad, and_then}
use Rattle.type_rules.specs.Seen.{Seen}
use Rattle.type_rules.specs.Storage.{initially}
use Rattle.type_rules.specs.InitialValues.{initial_values}
use Rattle.type_rules.specs.Types.{is_incomplete}
use Rattle.type_rules.specs.declared.durations.Duration.{Duration}
use Rattle.type_rules.specs.declared.durations.Duration.TheVariants.{Automatic as IsAutomatic, Static as IsStatic, ThreadLocal as IsThreadLocal}
use Rattle.type_rules.specs.declared.names.Entity.{Entity}
use Rattle.type_rules.specs.declared.names.Entity.TheVariants.{Variable}
use Rattle.type_laws.proofs.Converted.{within_tables}
use Rattle.type_laws.proofs.Declarators.{or_first, or_second, first_of_three, last_of_three, complete_object}
use Rattle.type_laws.proofs.Declared.{MakesFormed}
use Rattle.type_laws.proofs.Each.{Each}
use Rattle.type_laws.proofs.Formed.{IsFormed, formed_stays, words_stay}
use Rattle.type_laws.proofs.Each.{each_joined}
use Rattle.type_laws.proofs.Valued.{IsValue}
use Rattle.type_laws.proofs.Values.{initializer_valued}
use Rattle.type_laws.proofs.Growing.{GrowsUnder, Grows, NoAutos, IsSmall, grows_of_made, grows_then, grows_as, grows_same}
use Rattle.type_laws.proofs.Initializing.{IsSolid, solid_stays, Fills, Anything, initialized_keeps}
use Rattle.type_laws.proofs.Left.{Left, Leaves, then_left, gives_left, left_as, left_of}
use Rattle.type_laws.proofs.Steps.{faults_left}
use Rattle.type_laws.proofs.Storing.{IsThere, IsBlockVariable, block_kept_left, completed_left}
use Rattle.type_laws.proofs.Strides.{has_words}
use Rattle.type_laws.proofs.Triples.{Lawful, Leads, Made, Always}
use Rattle.type_laws.proofs.Types.{is_object}

-- the words of a type are told
abbrev AreTold : CType → Tables → Type 0
AreTold t u = words_of u.structures t < 2 ^ 32 - 1

-- an initializer of a type, where its words are told
abbrev InitFits : CType → Initializer → Tables → Type 0
InitFits t i u = AreTold t u → IsInitializer u t i

absent_fits : (u : Tables) (t : CType) (words : ℕ) → words ≡ words_of u.structures t → IsInitializer u t (init.Absent words)
unfolding IsInitializer
absent_fits u t words e = e

-- what an initializer leaves: names of the innermost scope keep their meaning
record Initialized (t : CType) (s : Seen) (i : Initializer) (v : Seen) : Type 0 where
  grows : GrowsUnder (AreTold t) NoAutos (InitFits t i) s v
  here : (name : ℕ) (e : Entity) → found_here s.scopes name ≡ Some e → found_here v.scopes name ≡ Some e

initialized_left : (fixed : Bool) (t : CType) (i : Init) (s : Seen) → Lawful s → IsSolid s.structures t → Left (Initialized t s) s (initialized fixed t i s)
initialized_left fixed t i s lawful solid =
    left_as (λ a v. Made Always Anything (Fills t) s a v) (Initialized t s) s (initialized fixed t i s)
    (left_of Always Anything (Fills t) s (initialized fixed t i s) (initialized_keeps i fixed t s lawful solid)) (λ a v h. record {
      grows = grows_as (AreTold t) Always NoAutos NoAutos (Fills t a) (InitFits t a) s v (λ u leads small p. tt) (λ u leads. refl) (λ u leads small p fills few. (fills few).0)
          (grows_of_made Anything (Fills t) s a v h.known);
      here = h.known.here;
    })

-- what words hold at first
valued : (t : CType) (s : Seen) (i : Initializer) (v : Seen) (storage : Storage) → Leaves (Initialized t s) s i v
    → Left (Initialized t s) s (and_then (initially storage (initial_values (where_in storage) i) v) (λ _ x. Good i x))
unfolding and_then
valued t s i v (Automatic offset) h = record { holds = h }
valued t s i v (Static address) h = record {
  holds = record {
    lawful = h.lawful;
    stay = h.stay;
    known = record {
      grows = record {
        steady = h.known.grows.steady;
        few = h.known.grows.few;
        laid = h.known.grows.laid;
        tables = h.known.grows.tables;
        values = λ u leads small knows standing told old.
            let before = h.known.grows.values u leads small knows standing told old in
            let more = initializer_valued u t address i ((h.known.grows.tables u leads small knows standing told).1 told) in
            (each_joined (λ x. IsValue u x.word) v.static_values _ before.0 more, before.1);
      };
      here = h.known.here;
    };
    outer = h.outer;
    back = h.back;
    begun = h.begun;
  };
}
valued t s i v (ThreadLocal offset) h = record {
  holds = record {
    lawful = h.lawful;
    stay = h.stay;
    known = record {
      grows = record {
        steady = h.known.grows.steady;
        few = h.known.grows.few;
        laid = h.known.grows.laid;
        tables = h.known.grows.tables;
        values = λ u leads small knows standing told old.
            let before = h.known.grows.values u leads small knows standing told old in
            let more = initializer_valued u t offset i ((h.known.grows.tables u leads small knows standing told).1 told) in
            (before.0, each_joined (λ x. IsValue u x.word) v.thread_values _ before.1 more);
      };
      here = h.known.here;
    };
    outer = h.outer;
    back = h.back;
    begun = h.begun;
  };
}

-- a rule that goes on from the beginning
valued_left : (t : CType) (s : Seen) (storage : Storage) (r : Read Initializer) → Left (Initialized t s) s r
    → Left (Initialized t s) s (and_then r (λ i v. and_then (initially storage (initial_values (where_in storage) i) v) (λ _ x. Good i x)))
unfolding and_then
valued_left t s storage (Good i v) h = valued t s i v storage h.holds
valued_left t s storage (Bad number place) h = record { holds = tt }

initializer_left : (duration : Duration) (t : CType) (given : Option Init) (storage : Storage) (words : ℕ) (s : Seen) → Lawful s → IsSolid s.structures t
    → ((u : Tables) → Leads s u → words ≡ words_of u.structures t) → Left (Initialized t s) s (block_initializer duration t given storage words s)
initializer_left duration t None storage words s lawful solid long =
    gives_left (Initialized t s) s (init.Absent words) lawful (record {
      grows = record {
        steady = (grows_same Always s (λ u. Unit {0}) (λ u p. tt)).steady;
        few = λ few. few;
        laid = λ u leads few. refl;
        tables = λ u leads small knows standing p. (knows, λ few. absent_fits u t words (long u leads));
        values = λ u leads small knows standing p v. v;
      };
      here = λ name e is. is;
    })
initializer_left IsAutomatic t (Some i) storage words s lawful solid long = initialized_left false t i s lawful solid
initializer_left IsStatic t (Some i) storage words s lawful solid long = valued_left t s storage (initialized true t i s) (initialized_left true t i s lawful solid)
initializer_left IsThreadLocal t (Some i) storage words s lawful solid long = valued_left t s storage (initialized true t i s) (initialized_left true t i s lawful solid)

-- a statement that declares a variable
variable_autos : (structures : List StructInfo) (v : LocalVariable) → list_automatics structures (stmt.Variable v ∷ []) ≡ automatic v.storage (words_of structures v.kind)
unfolding automatics
variable_autos structures v = append-nil (automatic v.storage (words_of structures v.kind))

variable_typed : (u : Tables) (v : LocalVariable) → IsTypedVariable u v → (r : CType) (looped : Bool) → ListIsTyped u r looped (stmt.Variable v ∷ [])
unfolding IsTypedStmt
variable_typed u v typed r looped = (typed, tt)

-- items that are typed in each function and loop
abbrev pub AlwaysTyped : List Stmt → Tables → Type 0
AlwaysTyped items u = (r : CType) (looped : Bool) → ListIsTyped u r looped items

abbrev pub Declares : (s : Seen) → List Stmt → Seen → Type 0
Declares s items t = Grows (λ structures. list_automatics structures items) (AlwaysTyped items) s t

-- what a declaration of a block leaves: variables
pub record DeclaresVariables (s : Seen) (items : List Stmt) (t : Seen) : Type 0 where
  pub declares : Declares s items t
  pub variables : Each (λ x. is_variable x ≡ true) items

pub kept_small : (storage : Storage) (words : ℕ) (u : Tables) → IsSmall u → IsThere storage words u → words < 2 ^ 32 - 1
kept_small (Automatic offset) words u small there = subst (λ n. n < 2 ^ 32 - 1) there.long (small.frame there.index there.object there.known)
kept_small (Static address) words u small there = subst (λ n. n < 2 ^ 32 - 1) there.long (small.statics there.index there.object there.known)
kept_small (ThreadLocal offset) words u small there = subst (λ n. n < 2 ^ 32 - 1) there.long (small.thread_locals there.index there.object there.known)

-- All that stands behind the tests of the name.
module _ (s : Seen) (lawful : Lawful s) (place number : ℕ) (duration : Duration) (kind t : CType) (given : Option Init) (kind_formed : IsFormed s.structures kind)
    (kind_solid : is_object kind ≡ true) (solid : IsSolid s.structures t) (object : is_object t ≡ true) (same : is_unsized kind ≡ false → t ≡ kind) where
  abbrev words : ℕ
  words = words_of s.structures t

  abbrev variable : Storage → Initializer → LocalVariable
  variable storage i = record { place = place; storage = storage; kind = t; initializer = i }

  long_at : (u : Tables) → Leads s u → words ≡ words_of u.structures t
  long_at u leads = sym (words_stay s.structures u.structures t leads.stay lawful.open_are_empty solid.formed solid.some)

  -- the steps together
  whole_grows : (storage : Storage) (w : Seen) (i : Initializer) (v x : Seen) → ((u : Tables) → Leads w u → Leads s u) → ((u : Tables) → Leads v u → Leads w u)
      → ((u : Tables) → Leads x u → Leads v u) → GrowsUnder Always (λ structures. automatic storage words) (IsThere storage words) s w
      → GrowsUnder (AreTold t) NoAutos (InitFits t i) w v → GrowsUnder (IsThere storage words) NoAutos (λ u. Unit {0}) v x
      → Declares s (stmt.Variable (variable storage i) ∷ []) x
  whole_grows storage w i v x to_s to_w to_v first second third =
      let kept : List StructInfo → List Object = λ structures. automatic storage words in
      let second_under = grows_as (λ u. Always u × IsThere storage words u) (AreTold t) NoAutos NoAutos (InitFits t i) (InitFits t i) w v
      (λ u leads small p. subst (λ n. n < 2 ^ 32 - 1) (long_at u (to_s u (to_w u leads))) (kept_small storage words u small p.1)) (λ u leads. refl) (λ u leads small p q. q) second in
      let two = grows_then Always kept NoAutos (IsThere storage words) (InitFits t i) s w v to_w first second_under in
      let third_under = grows_as (λ u. Always u × (IsThere storage words u × InitFits t i u)) (IsThere storage words) NoAutos NoAutos (λ u. Unit {0}) (λ u. Unit {0}) v x (λ u leads small p. p.1.0)
      (λ u leads. refl) (λ u leads small p q. q) third in
      let three = grows_then Always (λ structures. kept structures ++ []) NoAutos (λ u. IsThere storage words u × InitFits t i u) (λ u. Unit {0}) s v x to_v two third_under in
      grows_as Always Always (λ structures. (kept structures ++ []) ++ []) (λ structures. list_automatics structures (stmt.Variable (variable storage i) ∷ []))
      (λ u. (IsThere storage words u × InitFits t i u) × Unit {0}) (AlwaysTyped (stmt.Variable (variable storage i) ∷ [])) s x (λ u leads small p. p)
      (λ u leads.
      append-nil (automatic storage words ++ []) ∙ append-nil (automatic storage words) ∙ ap (automatic storage) (long_at u (to_s u (to_w u (to_v u leads))))
      ∙ sym (variable_autos u.structures (variable storage i)))
      (λ u leads small p q.
      let from = to_s u (to_w u (to_v u leads)) in
      let few : words_of u.structures t < 2 ^ 32 - 1 = subst (λ n. n < 2 ^ 32 - 1) (long_at u from) (kept_small storage words u small q.0.0) in
      variable_typed u (variable storage i)
      (record { within = within_tables s u t from solid.formed; words = words; there = q.0.0; long = λ e. long_at u from }, q.0.1 few)) three

  completed_grows : (storage : Storage) (w : Seen) (i : Initializer) (v : Seen) → Leaves (IsBlockVariable number kind words s) s storage w → Leaves (Initialized t w) w i v
      → Left (λ a x. GrowsUnder (IsThere storage words) NoAutos (λ u. Unit {0}) v x) v (array_completed number t (is_unsized kind) v)
  completed_grows storage w i v kept h =
      completed_left v h.lawful number kind t storage words (formed_stays w.structures v.structures t h.stay kept.lawful.open_are_empty (formed_stays s.structures w.structures t kept.stay lawful.open_are_empty solid.formed))
      object (h.known.here number (Variable kind storage None) kept.known.named) (λ u leads. long_at u (kept.back u (h.back u leads))) (is_unsized kind)

  behind_left : Left (DeclaresVariables s) s
      (and_then (block_kept number duration kind words s) (λ storage w. and_then (block_initialized number duration (is_unsized kind) t given storage words w)
      (λ i x. Good (stmt.Variable (variable storage i) ∷ []) x)))
  unfolding and_then
  behind_left =
      then_left s (block_kept number duration kind words s) _
      (block_kept_left s lawful number kind words kind_formed kind_solid solid.some (λ u leads e. long_at u leads ∙ ap (words_of u.structures) (same e)) duration) (λ storage w kept.
      let w_solid = solid_stays s w t kept.stay lawful.open_are_empty solid in
      flat (block_initializer duration t given storage words w) (λ i v. array_completed number t (is_unsized kind) v) storage w
      (then_left w (block_initializer duration t given storage words w) _
      (initializer_left duration t given storage words w kept.lawful w_solid (λ u leads. long_at u (kept.back u leads))) (λ i v h.
      then_left v (array_completed number t (is_unsized kind) v) _ (completed_grows storage w i v kept h) (λ a x g.
      gives_left _ x (stmt.Variable (variable storage i) ∷ []) g.lawful (record {
        declares = whole_grows storage w i v x kept.back h.back g.back kept.known.grows h.known.grows g.known;
        variables = (refl, tt);
      })))))
    where
      -- and_then is associative
      flat : (r : Read Initializer) (complete : Initializer → Seen → Read (Unit {0})) (storage : Storage) (w : Seen)
          → Left (DeclaresVariables s) w (and_then r (λ i v. and_then (complete i v) (λ _ x. Good (stmt.Variable (variable storage i) ∷ []) x)))
          → Left (DeclaresVariables s) w (and_then (and_then r (λ i v. and_then (complete i v) (λ _ x. Good i x))) (λ i x. Good (stmt.Variable (variable storage i) ∷ []) x))
      flat (Bad number place) complete storage w h = record { holds = tt }
      flat (Good i v) complete storage w h = again (complete i v) h
        where
          again : (c : Read (Unit {0})) → Left (DeclaresVariables s) w (and_then c (λ _ x. Good (stmt.Variable (variable storage i) ∷ []) x))
              → Left (DeclaresVariables s) w (and_then (and_then c (λ _ x. Good i x)) (λ i x. Good (stmt.Variable (variable storage i) ∷ []) x))
          again (Good a x) h = h
          again (Bad number place) h = record { holds = tt }

-- and_then is associative
flat_words : (s : Seen) (n : ℕ) (r : Read (Unit {0})) (k : ℕ → Seen → Read (List Stmt)) → Left (DeclaresVariables s) s (and_then r (λ _ v. k n v))
    → Left (DeclaresVariables s) s (and_then (and_then r (λ _ v. Good n v)) k)
unfolding and_then
flat_words s n (Good a v) k h = h
flat_words s n (Bad number place) k h = record { holds = tt }

-- what stands behind the tests of a name
abbrev behind : Named → CType → ℕ → Seen → Read (List Stmt)
behind d t words v =
    and_then (block_kept d.number (block_duration d.specifiers) d.made.kind words v) (λ storage w.
    and_then (block_initialized d.number (block_duration d.specifiers) (is_unsized d.made.kind) t d.init storage words w) (λ i x.
    Good (stmt.Variable (record { place = d.name.start; storage = storage; kind = t; initializer = i }) ∷ []) x))

-- the tests of the name
named_left : (d : Named) (t : CType) (s : Seen) → Lawful s → MakesFormed d.made s → (IsFormed s.structures d.made.kind → IsFormed s.structures t)
    → (is_unsized d.made.kind ≡ false → t ≡ d.made.kind) → (is_unsized d.made.kind ≡ true → is_object d.made.kind ≡ true)
    → Left (DeclaresVariables s) s (and_then (block_words d.name d.number d.made t s) (behind d t))
unfolding and_then
named_left d t s lawful makes formed_as same unsized_object =
    flat_words s (words_of s.structures t)
    (faults (is_some (found_here s.scopes d.number)) (is_mistyped d.made || is_function t) d.made.conflicting (d.made.incomplete || is_incomplete s.structures t) d.name.start s)
    (behind d t)
    (faults_left s (is_some (found_here s.scopes d.number)) (is_mistyped d.made || is_function t) d.made.conflicting (d.made.incomplete || is_incomplete s.structures t) d.name.start
    (λ _ v. behind d t (words_of s.structures t) v) (λ a b c e.
    let kind_formed = makes (first_of_three d.made.mistyped d.made.noreturn (is_function t) b) (or_first d.made.incomplete (is_incomplete s.structures t) e) in
    let formed = formed_as kind_formed in
    let function = last_of_three d.made.mistyped d.made.noreturn (is_function t) b in
    let complete = or_second d.made.incomplete (is_incomplete s.structures t) e in
    let object = complete_object s.structures t function complete in
    behind_left s lawful d.name.start d.number (block_duration d.specifiers) d.made.kind t d.init kind_formed (either (is_unsized d.made.kind) refl object)
    (record { formed = formed; some = has_words s.structures t lawful.complete_have_words formed function complete }) object same))
  where
    either : (test : Bool) → is_unsized d.made.kind ≡ test → is_object t ≡ true → is_object d.made.kind ≡ true
    either true e object = unsized_object e
    either false e object = ap is_object (sym (same e)) ∙ object

pub unsized_is_object : (t : CType) → is_unsized t ≡ true → is_object t ≡ true
unsized_is_object (Array' p t n) e = refl
unsized_is_object Void e = absurd (cc)
unsized_is_object Char e = absurd (cc)
unsized_is_object Int e = absurd (cc)
unsized_is_object Unsigned e = absurd (cc)
unsized_is_object Mutex e = absurd (cc)
unsized_is_object (Struct k) e = absurd (cc)
unsized_is_object (Pointer' p t) e = absurd (cc)
unsized_is_object (Function' _ _ _ _ _) e = absurd (cc)

pub sized_formed : (structures : List StructInfo) (t : CType) (n : ℕ) → is_unsized t ≡ true → IsFormed structures t → IsFormed structures (array_of (element_of t) n)
unfolding IsFormed
sized_formed structures (Array' p (more_of-CType t end_of-CType) m) n e f = f
sized_formed structures Void n e f = absurd (cc)
sized_formed structures Char n e f = absurd (cc)
sized_formed structures Int n e f = absurd (cc)
sized_formed structures Unsigned n e f = absurd (cc)
sized_formed structures Mutex n e f = absurd (cc)
sized_formed structures (Struct k) n e f = absurd (cc)
sized_formed structures (Pointer' p t) n e f = absurd (cc)
sized_formed structures (Function' _ _ _ _ _) n e f = absurd (cc)

-- a block variable
pub block_name_left : (d : Named) (s : Seen) → Lawful s → MakesFormed d.made s → Left (DeclaresVariables s) s (block_name d s)
unfolding block_name initial_size and_then
block_name_left d s lawful makes = of d.init refl
  where
    rest : CType → Seen → Read (List Stmt)
    rest t v = and_then (block_words d.name d.number d.made t v) (behind d t)

    as_it_is : Left (DeclaresVariables s) s (rest d.made.kind s)
    as_it_is = named_left d d.made.kind s lawful makes (λ f. f) (λ e. refl) (unsized_is_object d.made.kind)

    with_init : (i : Init) (test : Bool) → is_unsized d.made.kind ≡ test → Left (DeclaresVariables s) s (and_then (sized_by i d.made.kind test s) rest)
    with_init i true e =
        named_left d (array_of (element_of d.made.kind) (size_told (element_of d.made.kind) s.source i)) s lawful makes
        (sized_formed s.structures d.made.kind (size_told (element_of d.made.kind) s.source i) e) (λ f. let clash : true ≡ false = sym e ∙ f in absurd (cc)) (unsized_is_object d.made.kind)
    with_init i false e = as_it_is

    of : (given : Option Init) → d.init ≡ given → Left (DeclaresVariables s) s (and_then (sized given d.made.kind s) rest)
    of None e = as_it_is
    of (Some i) e = with_init i (is_unsized d.made.kind) refl
