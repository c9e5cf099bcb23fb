-- Variables of file scope keep what is true there.
use Rattle.std.proofs.Common.{◌≡◌, ℕ, ◌<◌, ◌-◌, ◌^◌, ◌+◌, Bool, true, false, refl, sym, ◌∙◌, ap, subst, List, [], ◌∷◌, ◌++◌, drop, length, slice_get, Option, Some, None, arith, eqb-true, ne_eqb, zero-mul, ◌*◌, inl, inr}
use Rattle.std.proofs.lemmas.Bool.{eqb-false}
use Rattle.std.specs.Prelude.{not, ◌&&◌, ◌||◌, ◌⊎◌, nat_eq, is_some, slice_set, if◌then◌else◌}
use Rattle.scopes.specs.Scope.{Scope, found_here, declare}
use Rattle.c_tree.specs.declared.declarations.Init.{Init}
use Rattle.eff_types.specs.Types.{is_function, same}
use Rattle.eff_types.proofs.Sameness.{same-eq}
use Rattle.eff_types.specs.declared.types.CType.{CType, Void, Char, Int, Unsigned, Mutex, Struct, Pointer', Array', Function', end_of-CType, more_of-CType}
use Rattle.core_unit.specs.Layout.{words_of}
use Rattle.core_unit.specs.Shapes.{function_in, is_unsized, element_of, array_of}
use Rattle.type_rules.specs.Types.{is_incomplete}
use Rattle.core_unit.specs.Typed.{Tables, IsKept, where_in}
use Rattle.core_unit.specs.declared.body.Initializer.{Initializer}
use Rattle.core_unit.specs.declared.expressions.Storage.{Storage}
use Rattle.core_unit.specs.declared.expressions.Storage.TheVariants.{Automatic, Static, ThreadLocal}
use Rattle.core_unit.specs.declared.tables.Object.{Object}
use Rattle.core_unit.specs.declared.tables.StructInfo.{StructInfo}
use Rattle.core_unit.specs.declared.tables.VariableInfo.{VariableInfo}
use Rattle.type_rules.specs.Declarations.{Named, is_mistyped, same_words, first_variable, further_variable, file_variable, variable_named, sized, sized_by, statically, with_size, array_completed}
use Rattle.type_rules.specs.InitialValues.{initial_values}
use Rattle.type_rules.specs.Initializers.{initial_size, size_told, initialized}
use Rattle.type_rules.specs.Reading.{Read, Good, and_then, text_of}
use Rattle.type_rules.specs.Seen.{Seen}
use Rattle.type_rules.specs.Storage.{kept_for, initially}
use Rattle.type_rules.specs.declared.durations.Duration.{Duration}
use Rattle.type_rules.specs.declared.durations.Duration.TheVariants.{Static as IsStatic, ThreadLocal as IsThreadLocal}
use Rattle.type_laws.proofs.Valued.{IsValue, Valued}
use Rattle.type_laws.proofs.Values.{initializer_valued}
use Rattle.type_laws.proofs.Growing.{IsSmall, calm_values}
use Rattle.type_laws.proofs.Blocks.{kept_small, unsized_is_object, sized_formed}
use Rattle.type_laws.proofs.Strides.{has_words}
use Rattle.type_rules.specs.declared.names.Entity.{Entity}
use Rattle.type_rules.specs.declared.names.Entity.TheVariants.{Variable, Function, TypeName, Enumerator, Library, NullPointer, MutexInitializer}
use Rattle.type_rules.specs.declared.notes.Initial.{Initial}
use Rattle.type_laws.proofs.Converted.{within_tables}
use Rattle.type_laws.proofs.Definitions.{AreDefined}
use Rattle.type_laws.proofs.Each.{each_get, each_joined, each_more, each_set}
use Rattle.type_laws.proofs.FileScope.{IsSound}
use Rattle.type_laws.proofs.Formed.{IsFormed, stay_same, words_stay}
use Rattle.type_laws.proofs.Lists.{get_before, get_last, get_inside, get_set, get_other}
use Rattle.type_laws.proofs.Functions.{AreShort, IsFiled, VariableIs}
use Rattle.type_laws.proofs.Initializing.{IsSolid, solid_stays, Fills, Anything, initialized_keeps}
use Rattle.type_laws.proofs.Left.{Left, longer, then_left, gives_left, fails_left, left_of}
use Rattle.type_laws.proofs.Naming.{in_scope}
use Rattle.type_laws.proofs.Objects.{AreObjects, objects_changed, static_and_new, thread_and_new}
use Rattle.type_laws.proofs.Scopes.{each_declared, here_before}
use Rattle.type_laws.proofs.Steps.{lawful_declared, faults_left}
use Rattle.type_laws.proofs.Declared.{MakesFormed}
use Rattle.type_laws.proofs.Declarators.{not_false, or_first, or_second, complete_object}
use Rattle.type_laws.proofs.Storing.{IsThere, named_here, lawful_static, lawful_thread}
use Rattle.type_laws.proofs.Triples.{Each, EachEntity, IsKnownEntity, IsSolidVariable, Lawful, Leads, Made, Always}
use Rattle.type_laws.proofs.Types.{is_object}

-- what an initializer leaves at file scope
record IsAfter (s w v : Seen) : Type 0 where
  filed : IsSound s → IsFiled w → IsFiled v
  here : (name : ℕ) (e : Entity) → found_here w.scopes name ≡ Some e → found_here v.scopes name ≡ Some e
  old : (name : ℕ) (t : CType) (storage : Storage) (n : Option ℕ) → found_here v.scopes name ≡ Some (Variable t storage n) → found_here w.scopes name ≡ Some (Variable t storage n)
  variables_are : v.variables ≡ w.variables

after_made : (s : Seen) (t : CType) (w : Seen) (i : Initializer) (v : Seen) → Made Always Anything (Fills t) w i v → IsAfter s w v
after_made s t w i v h = record {
  filed = λ sound filed. record {
    knows = λ u leads. (h.tables u leads (filed.knows u (h.back u leads)) tt).0;
    bodied = λ k f body known is few u leads. filed.bodied k f body (ap (λ fs. slice_get fs k) (sym h.calm.functions_are) ∙ known) is few u (h.back u leads);
    valued = λ short u leads small. calm_values w v h.calm u (filed.valued (subst AreShort h.calm.functions_are short) u (h.back u leads) small);
    defined = subst (λ fs. AreDefined fs v.definitions) (sym h.calm.functions_are) (subst (AreDefined w.functions) (sym h.calm.definitions_are) filed.defined);
  };
  here = h.here;
  old = h.old;
  variables_are = h.calm.variables_are;
}

valued_after : (s w v : Seen) (storage : Storage) (values : List Initial) → Lawful v → IsAfter s w v
    → (IsSound s → IsFiled w → (u : Tables) → Leads v u → IsSmall u → Valued u values) → Left (λ (a : Unit {0}) x. IsAfter s w x) v (initially storage values v)
valued_after s w v (Automatic offset) values lawful h told = gives_left _ v tt lawful h
valued_after s w v (Static address) values lawful h told = record {
  holds = record {
    lawful = lawful;
    stay = stay_same v.structures;
    known = record {
      filed = λ sound f.
          let g = h.filed sound f in
          record {
            knows = g.knows;
            bodied = g.bodied;
            valued = λ short u leads small. let old = g.valued short u leads small in (each_joined (λ x. IsValue u x.word) v.static_values values old.0 (told sound f u leads small), old.1);
            defined = g.defined;
          };
      here = h.here;
      old = h.old;
      variables_are = h.variables_are;
    };
    outer = refl;
    back = λ u leads. leads;
    begun = λ k begun. begun;
  };
}
valued_after s w v (ThreadLocal offset) values lawful h told = record {
  holds = record {
    lawful = lawful;
    stay = stay_same v.structures;
    known = record {
      filed = λ sound f.
          let g = h.filed sound f in
          record {
            knows = g.knows;
            bodied = g.bodied;
            valued = λ short u leads small. let old = g.valued short u leads small in (old.0, each_joined (λ x. IsValue u x.word) v.thread_values values old.1 (told sound f u leads small));
            defined = g.defined;
          };
      here = h.here;
      old = h.old;
      variables_are = h.variables_are;
    };
    outer = refl;
    back = λ u leads. leads;
    begun = λ k begun. begun;
  };
}

statically_left : (s : Seen) (given : Option Init) (t : CType) (storage : Storage) (w : Seen) → Lawful w → IsSolid w.structures t
    → (IsSound s → (u : Tables) → Leads w u → IsSmall u → words_of u.structures t < 2 ^ 32 - 1) → Left (λ (a : Unit {0}) v. IsAfter s w v) w (statically given t storage w)
unfolding and_then
statically_left s None t storage w lawful solid fits =
    gives_left _ w tt lawful (record { filed = λ sound f. f; here = λ n e is. is; old = λ n u st k is. is; variables_are = refl })
statically_left s (Some i) t storage w lawful solid fits =
    then_left w (initialized true t i w) _ (left_of Always Anything (Fills t) w (initialized true t i w) (initialized_keeps i true t w lawful solid)) (λ x v h.
    valued_after s w v storage (initial_values (where_in storage) x) h.lawful (after_made s t w x v h.known) (λ sound filed u leads small.
    initializer_valued u t (where_in storage) x ((h.known.tables u leads (filed.knows u (h.back u leads)) tt).1 (fits sound u (h.back u leads) small)).0))

-- A variable of file scope has its object, and awaits its initializer.
record IsReady (s : Seen) (number : ℕ) (unsized : Bool) (t kind : CType) (storage : Storage) (n : ℕ) (w : Seen) : Type 0 where
  named : found_here w.scopes number ≡ Some (Variable kind storage (Some n))
  filed : IsSound s → IsFiled w
  there : IsSound s → (u : Tables) → Leads w u → (words : ℕ) × IsThere storage words u × (words ≡ words_of u.structures t)
  others : IsSound s → (name : ℕ) (u : CType) (at : Storage) (m : ℕ) → nat_eq name number ≡ false → found_here w.scopes name ≡ Some (Variable u at (Some m))
      → VariableIs w.variables m u
  own : VariableIs w.variables n t
  typed : IsSound s → unsized ≡ false → kind ≡ t

module _ (s : Seen) (number : ℕ) (t kind : CType) (storage : Storage) (n : ℕ) (w : Seen) (unsized : Bool) (ready : IsReady s number unsized t kind storage n w)
    (v : Seen) (lawful : Lawful v) (h : IsAfter s w v) (back : (u : Tables) → Leads v u → Leads w u) (formed : IsFormed v.structures t) (solid : is_object t ≡ true) where
  other_agrees : IsSound s → (name : ℕ) (u : CType) (at : Storage) (m : ℕ) → nat_eq name number ≡ false → found_here v.scopes name ≡ Some (Variable u at (Some m)) → VariableIs v.variables m u
  other_agrees sound name u at m other is = subst (λ vs. VariableIs vs m u) (sym h.variables_are) (ready.others sound name u at m other (h.old name u at (Some m) is))

  own_of : (u : CType) (m : ℕ) → t ≡ u → n ≡ m → VariableIs v.variables m u
  own_of u m same at = subst (λ k. VariableIs v.variables k u) at (subst (λ x. VariableIs v.variables n x) same (subst (λ vs. VariableIs vs n t) (sym h.variables_are) ready.own))

  type_is : (a b : CType) (p q : Storage) (k m : ℕ) → Variable a p (Some k) ≡ Variable b q (Some m) → a ≡ b
  type_is a b p q k m e = cc

  number_is : (a b : CType) (p q : Storage) (k m : ℕ) → Variable a p (Some k) ≡ Variable b q (Some m) → k ≡ m
  number_is a b p q k m e = let same : Some k ≡ Some m = cc in cc

  -- it has the size that it was declared with
  kept_sound : unsized ≡ false → IsSound s → IsSound v
  kept_sound plain sound = record {
    filed = h.filed sound (ready.filed sound);
    agrees = λ name u at m is. of name u at m is (nat_eq name number) refl;
  }
    where
      of : (name : ℕ) (u : CType) (at : Storage) (m : ℕ) → found_here v.scopes name ≡ Some (Variable u at (Some m)) → (test : Bool) → nat_eq name number ≡ test → VariableIs v.variables m u
      of name u at m is true e =
          let there : Some (Variable kind storage (Some n)) ≡ Some (Variable u at (Some m)) =
          sym (h.here number (Variable kind storage (Some n)) ready.named) ∙ ap (found_here v.scopes) (sym (eqb-true name number e)) ∙ is in
          let same : Variable kind storage (Some n) ≡ Variable u at (Some m) = cc in
          own_of u m (sym (ready.typed sound plain) ∙ type_is kind u storage at n m same) (number_is kind u storage at n m same)
      of name u at m is false e = other_agrees sound name u at m e is

  -- it takes the size of its initializer
  abbrev sized_in : Seen
  sized_in = record v { scopes = declare v.scopes number (Variable t storage (Some n)) }

  sized_sound : IsSound s → IsSound sized_in
  sized_sound sound = record {
    filed = record {
      knows = λ u leads. each_declared (IsKnownEntity u) v.scopes number (Variable t storage (Some n)) ((h.filed sound (ready.filed sound)).knows u leads) (kept u leads);
      bodied = (h.filed sound (ready.filed sound)).bodied;
      valued = (h.filed sound (ready.filed sound)).valued;
      defined = (h.filed sound (ready.filed sound)).defined;
    };
    agrees = λ name u at m is. of name u at m (here_before v.scopes number (Variable t storage (Some n)) name (Variable u at (Some m)) is);
  }
    where
      kept : (u : Tables) → Leads v u → IsKept u storage t
      kept u leads = let there = ready.there sound u (back u leads) in record { within = within_tables v u t leads formed; words = there.0; there = there.1; long = λ e. there.2 }

      of : (name : ℕ) (u : CType) (at : Storage) (m : ℕ)
          → ((name ≡ number) × (Variable t storage (Some n) ≡ Variable u at (Some m))) ⊎ ((nat_eq name number ≡ false) × (found_here v.scopes name ≡ Some (Variable u at (Some m)))) → VariableIs v.variables m u
      of name u at m (inl q) = own_of u m (type_is t u storage at n m q.1) (number_is t u storage at n m q.1)
      of name u at m (inr q) = other_agrees sound name u at m q.0 q.1

  sized_left : Left {A = Unit {0}} (λ a x. IsSound s → IsSound x) v (with_size t number (Some (Variable kind storage (Some n))) v)
  sized_left = record {
    holds = record {
      lawful = lawful_declared v number (Variable t storage (Some n)) lawful (formed, solid);
      stay = stay_same v.structures;
      known = sized_sound;
      outer = outer_of v.scopes;
      back = λ u leads. leads;
      begun = λ k begun. begun;
    };
  }
    where
      outer_of : (scopes : List (Scope Entity)) → drop 1 (declare scopes number (Variable t storage (Some n))) ≡ drop 1 scopes
      outer_of [] = refl
      outer_of (scope ∷ outer) = refl

  completed_left : (test : Bool) → unsized ≡ test → Left {A = Unit {0}} (λ a x. IsSound s → IsSound x) v (array_completed number t test v)
  unfolding and_then
  completed_left true e =
      subst (λ o. Left {A = Unit {0}} (λ a x. IsSound s → IsSound x) v (with_size t number o v)) (sym (h.here number (Variable kind storage (Some n)) ready.named)) sized_left
  completed_left false e = gives_left _ v tt lawful (kept_sound e)

-- all that stands behind its object
ready_left : (s : Seen) (number : ℕ) (t kind : CType) (storage : Storage) (n : ℕ) (given : Option Init) (unsized : Bool) (w : Seen) → Lawful w → IsReady s number unsized t kind storage n w
    → IsSolid w.structures t → is_object t ≡ true
    → Left {A = Unit {0}} (λ a x. IsSound s → IsSound x) w (and_then (statically given t storage w) (λ _ v. array_completed number t unsized v))
unfolding and_then
ready_left s number t kind storage n given unsized w lawful ready solid object =
    then_left w (statically given t storage w) _ (statically_left s given t storage w lawful solid (λ sound u leads small.
    let there = ready.there sound u leads in subst (λ n. n < 2 ^ 32 - 1) there.2 (kept_small storage there.0 u small there.1))) (λ a v h.
    completed_left s number t kind storage n w unsized ready v h.lawful h.known h.back (solid_stays w v t h.stay lawful.open_are_empty solid).formed object unsized refl)

-- variables more, or changed
lawful_variables : (s : Seen) (variables : List VariableInfo) → Lawful s → Each (IsSolidVariable s.structures) variables
    → AreObjects s.structures variables s.statics s.thread_locals → Lawful (record s { variables = variables })
lawful_variables s variables lawful each objects = record {
  bytes = lawful.bytes;
  scoped = lawful.scoped;
  entities = lawful.entities;
  functions_formed = lawful.functions_formed;
  open_are_empty = lawful.open_are_empty;
  complete_have_words = lawful.complete_have_words;
  members_lawful = lawful.members_lawful;
  sized = lawful.sized;
  few = lawful.few;
  statics_stand = lawful.statics_stand;
  threads_stand = lawful.threads_stand;
  tags_lawful = lawful.tags_lawful;
  ranked = lawful.ranked;
  variables_solid = each;
  objects_known = objects;
  whole_fits = lawful.whole_fits;
}

-- what a declaration of a variable leaves
record IsPlaced (s : Seen) (number : ℕ) (unsized : Bool) (t : CType) (storage : Storage) (w : Seen) : Type 0 where
  kind : CType
  n : ℕ
  ready : IsReady s number unsized t kind storage n w
  solid : IsSolid w.structures t
  object : is_object t ≡ true

-- the first declaration
module _ (s : Seen) (statics : List Object) (static_words : ℕ) (thread_locals : List Object) (thread_words : ℕ) (storage : Storage) (number : ℕ) (kind t : CType) (new : VariableInfo)
    (new_is : new.kind ≡ t) (lawful_s : Lawful s)
    (lawful : Lawful (record s { statics = statics; static_words = static_words; thread_locals = thread_locals; thread_words = thread_words; variables = s.variables ++ new ∷ [] }))
    (back : (u : Tables) → Leads (record s { statics = statics; static_words = static_words; thread_locals = thread_locals; thread_words = thread_words }) u → Leads s u)
    (there : (u : Tables) → Leads (record s { statics = statics; static_words = static_words; thread_locals = thread_locals; thread_words = thread_words }) u
    → IsThere storage (words_of s.structures t) u)
    (kind_formed : IsFormed s.structures kind) (kind_object : is_object kind ≡ true) (solid : IsSolid s.structures t) (object : is_object t ≡ true)
    (same_kind : is_unsized kind ≡ false → t ≡ kind) where
  abbrev placed : Seen
  placed = record s {
    statics = statics;
    static_words = static_words;
    thread_locals = thread_locals;
    thread_words = thread_words;
    variables = s.variables ++ new ∷ [];
    scopes = declare s.scopes number (Variable kind storage (Some (length s.variables)));
  }

  long_at : (u : Tables) → Leads s u → words_of s.structures t ≡ words_of u.structures t
  long_at u leads = sym (words_stay s.structures u.structures t leads.stay lawful_s.open_are_empty solid.formed solid.some)

  to_s : (u : Tables) → Leads placed u → Leads s u
  to_s u leads = back u leads

  placed_lawful : Lawful placed
  placed_lawful =
      lawful_declared (record s { statics = statics; static_words = static_words; thread_locals = thread_locals; thread_words = thread_words; variables = s.variables ++ new ∷ [] }) number
      (Variable kind storage (Some (length s.variables))) lawful (kind_formed, kind_object)

  placed_ready : IsReady s number (is_unsized kind) t kind storage (length s.variables) placed
  placed_ready = record {
    named = named_here s.scopes number (Variable kind storage (Some (length s.variables))) (longer s.scopes lawful_s.scoped);
    filed = λ sound. record {
      knows = λ u leads. each_declared (IsKnownEntity u) s.scopes number (Variable kind storage (Some (length s.variables))) (sound.filed.knows u (to_s u leads)) (kept u leads);
      bodied = λ i f body known is few u leads. sound.filed.bodied i f body known is few u (to_s u leads);
      valued = λ short u leads small. sound.filed.valued short u (to_s u leads) small;
      defined = sound.filed.defined;
    };
    there = λ sound u leads. (words_of s.structures t, there u leads, long_at u (to_s u leads));
    others = λ sound name u at m other is. of sound name u at m other (here_before s.scopes number (Variable kind storage (Some (length s.variables))) name (Variable u at (Some m)) is);
    own = record { info = new; known = get_last s.variables new; kind = new_is };
    typed = λ sound e. sym (same_kind e);
  }
    where
      kept : (u : Tables) → Leads placed u → IsKept u storage kind
      kept u leads = record {
        within = within_tables s u kind (to_s u leads) kind_formed;
        words = words_of s.structures t;
        there = there u leads;
        long = λ e. long_at u (to_s u leads) ∙ ap (words_of u.structures) (same_kind e);
      }

      of : IsSound s → (name : ℕ) (u : CType) (at : Storage) (m : ℕ) → nat_eq name number ≡ false
          → ((name ≡ number) × (Variable kind storage (Some (length s.variables)) ≡ Variable u at (Some m))) ⊎ ((nat_eq name number ≡ false) × (found_here s.scopes name ≡ Some (Variable u at (Some m))))
          → VariableIs placed.variables m u
      of sound name u at m other (inl q) = absurd (eqb-false name number other q.0)
      of sound name u at m other (inr q) =
          let old = sound.agrees name u at m q.1 in record { info = old.info; known = get_before s.variables new m old.info old.known; kind = old.kind }

  placed_left : Left (λ at w. IsPlaced s number (is_unsized kind) t at w) s (Good storage placed)
  placed_left = record {
    holds = record {
      lawful = placed_lawful;
      stay = stay_same s.structures;
      known = record { kind = kind; n = length s.variables; ready = placed_ready; solid = record { formed = solid.formed; some = solid.some }; object = object };
      outer = outer_of s.scopes;
      back = to_s;
      begun = λ k begun. begun;
    };
  }
    where
      outer_of : (scopes : List (Scope Entity)) → drop 1 (declare scopes number (Variable kind storage (Some (length s.variables)))) ≡ drop 1 scopes
      outer_of [] = refl
      outer_of (scope ∷ outer) = refl

-- a type with words is that of an object, and has its size
object_of_words : (structures : List StructInfo) (t : CType) → 0 < words_of structures t → is_object t ≡ true
unfolding words_of
object_of_words structures Void some = absurd (omega arith)
object_of_words structures (Function' _ _ _ _ _) some = absurd (omega arith)
object_of_words structures Char some = refl
object_of_words structures Int some = refl
object_of_words structures Unsigned some = refl
object_of_words structures Mutex some = refl
object_of_words structures (Struct k) some = refl
object_of_words structures (Pointer' _ t) some = refl
object_of_words structures (Array' _ t n) some = refl

sized_of_words : (structures : List StructInfo) (t : CType) → 0 < words_of structures t → is_unsized t ≡ false
unfolding words_of
sized_of_words structures (Array' _ (more_of-CType t end_of-CType) n) some = ne_eqb n 0 (λ none.
    let product : n * words_of structures t ≡ 0 = ap (λ k. k * words_of structures t) none ∙ zero-mul (words_of structures t) in omega arith)
sized_of_words structures Void some = refl
sized_of_words structures (Function' _ _ _ _ _) some = refl
sized_of_words structures Char some = refl
sized_of_words structures Int some = refl
sized_of_words structures Unsigned some = refl
sized_of_words structures Mutex some = refl
sized_of_words structures (Struct k) some = refl
sized_of_words structures (Pointer' _ t) some = refl

here_is : (P : Entity → Type 0) (scopes : List (Scope Entity)) (name : ℕ) (e : Entity) → EachEntity P scopes → found_here scopes name ≡ Some e → P e
here_is P [] name e each is = absurd (cc)
here_is P (scope ∷ outer) name e each is = in_scope P scope name e each.0 is

-- a further declaration
module _ (s : Seen) (lawful : Lawful s) (number : ℕ) (unsized : Bool) (kind t : CType) (storage : Storage) (n : ℕ) (info new : VariableInfo)
    (named : found_here s.scopes number ≡ Some (Variable kind storage (Some n))) (known : slice_get s.variables n ≡ Some info) (is : info.kind ≡ t) (new_is : new.kind ≡ info.kind)
    (thread_is : new.thread_local ≡ info.thread_local) where
  abbrev changed : Seen
  changed = record s { variables = slice_set s.variables n new }

  solid_here : IsSolid s.structures t
  solid_here =
      let h = each_get (IsSolidVariable s.structures) s.variables n info lawful.variables_solid known in
      record { formed = subst (IsFormed s.structures) is h.0; some = subst (λ x. 0 < words_of s.structures x) is h.1 }

  kind_is : IsSound s → kind ≡ t
  kind_is sound =
      let own = sound.agrees number kind storage n named in
      let same : Some own.info ≡ Some info = sym own.known ∙ known in
      let one : own.info ≡ info = cc in
      sym own.kind ∙ ap (λ (x : VariableInfo). x.kind) one ∙ is

  variable_stays : (m : ℕ) (u : CType) → VariableIs s.variables m u → VariableIs changed.variables m u
  variable_stays m u h = of (nat_eq m n) refl
    where
      of : (test : Bool) → nat_eq m n ≡ test → VariableIs changed.variables m u
      of true e =
          let at : m ≡ n = eqb-true m n e in
          let same : Some h.info ≡ Some info = sym h.known ∙ ap (slice_get s.variables) at ∙ known in
          let one : h.info ≡ info = cc in
          record {
            info = new;
            known = ap (slice_get changed.variables) at ∙ get_set s.variables n new (get_inside s.variables n info known);
            kind = new_is ∙ ap (λ (x : VariableInfo). x.kind) (sym one) ∙ h.kind;
          }
      of false e = record { info = h.info; known = get_other s.variables n new m (eqb-false m n e) ∙ h.known; kind = h.kind }

  changed_ready : IsReady s number unsized t kind storage n changed
  changed_ready = record {
    named = named;
    filed = λ sound. record { knows = sound.filed.knows; bodied = sound.filed.bodied; valued = sound.filed.valued; defined = sound.filed.defined };
    there = λ sound u leads.
        let kept = here_is (IsKnownEntity u) s.scopes number (Variable kind storage (Some n)) (sound.filed.knows u leads) named in
        let same = kind_is sound in
        let long = kept.long (ap is_unsized same ∙ sized_of_words s.structures t solid_here.some) in
        (kept.words, kept.there, long ∙ ap (words_of u.structures) same);
    others = λ sound name u at m other found. variable_stays m u (sound.agrees name u at m found);
    own = record { info = new; known = get_set s.variables n new (get_inside s.variables n info known); kind = new_is ∙ is };
    typed = λ sound e. kind_is sound;
  }

  changed_left : Left (λ at w. IsPlaced s number unsized t at w) s (Good storage changed)
  changed_left = record {
    holds = record {
      lawful = lawful_variables s changed.variables lawful
          (each_set (IsSolidVariable s.structures) s.variables n new lawful.variables_solid
          (subst (IsFormed s.structures) (sym (new_is ∙ is)) solid_here.formed, subst (λ x. 0 < words_of s.structures x) (sym (new_is ∙ is)) solid_here.some))
          (objects_changed s.structures s.variables s.statics s.thread_locals n info new known new_is thread_is lawful.objects_known);
      stay = stay_same s.structures;
      known = record { kind = kind; n = n; ready = changed_ready; solid = solid_here; object = object_of_words s.structures t solid_here.some };
      outer = refl;
      back = λ u leads. leads;
      begun = λ k begun. begun;
    };
  }

-- a variable of file scope, of a type that takes its size from its initializer
module _ (d : Named) (s : Seen) (lawful : Lawful s) (makes : MakesFormed d.made s) (t : CType) (formed_as : IsFormed s.structures d.made.kind → IsFormed s.structures t)
    (same_kind : is_unsized d.made.kind ≡ false → t ≡ d.made.kind) (plain : is_function t ≡ false) where
  abbrev Placing : Read Storage → Type 0
  Placing r = Left (λ at w. IsPlaced s d.number (is_unsized d.made.kind) t at w) s r

  abbrev new_variable : List ℕ → VariableInfo
  new_variable source = record {
    name = text_of source d.name;
    kind = t;
    internal = d.specifiers.is_static;
    thread_local = d.specifiers.is_thread_local;
    initialized = is_some d.init;
  }

  abbrev kept_in : Duration → Read Storage
  kept_in duration = and_then (kept_for duration (words_of s.structures t) (Some (length s.variables)) s) (λ storage u. Good storage (record u {
    variables = u.variables ++ new_variable u.source ∷ [];
    scopes = declare u.scopes d.number (Variable d.made.kind storage (Some (length s.variables)));
  }))

  solid_with_new : IsSolid s.structures t → Each (IsSolidVariable s.structures) (s.variables ++ new_variable s.source ∷ [])
  solid_with_new solid = each_more (IsSolidVariable s.structures) s.variables (new_variable s.source) lawful.variables_solid (solid.formed, solid.some)

  kept_placed : (thread : Bool) → d.specifiers.is_thread_local ≡ thread → IsFormed s.structures d.made.kind → is_object d.made.kind ≡ true → IsSolid s.structures t → is_object t ≡ true
      → Placing (kept_in (if thread then IsThreadLocal else IsStatic))
  unfolding and_then
  kept_placed false thread_is kind_formed kind_object solid object =
      placed_left s _ _ s.thread_locals s.thread_words (Static (s.static_words + 1)) d.number d.made.kind t (new_variable s.source) refl lawful
      (lawful_static s (words_of s.structures t) (Some (length s.variables)) (s.variables ++ new_variable s.source ∷ []) lawful solid.some (solid_with_new solid)
      (static_and_new s.structures s.variables s.statics s.thread_locals lawful.objects_known (s.static_words + 1) (words_of s.structures t) (new_variable s.source) refl thread_is))
      (λ u leads. record { named = leads.named; stay = leads.stay; begin = λ i x e. leads.begin i x (get_before s.statics _ i x e); thread_begin = leads.thread_begin })
      (λ u leads. record {
        index = length s.statics;
        object = record { at = s.static_words + 1; words = words_of s.structures t; variable = Some (length s.variables) };
        known = leads.begin (length s.statics) _ (get_last s.statics _);
        begins = refl;
        long = refl;
        some = solid.some;
      }) kind_formed kind_object solid object same_kind
  kept_placed true thread_is kind_formed kind_object solid object =
      placed_left s s.statics s.static_words _ _ (ThreadLocal s.thread_words) d.number d.made.kind t (new_variable s.source) refl lawful
      (lawful_thread s (words_of s.structures t) (Some (length s.variables)) (s.variables ++ new_variable s.source ∷ []) lawful solid.some (solid_with_new solid)
      (thread_and_new s.structures s.variables s.statics s.thread_locals lawful.objects_known s.thread_words (words_of s.structures t) (new_variable s.source) refl thread_is))
      (λ u leads. record { named = leads.named; stay = leads.stay; begin = leads.begin; thread_begin = λ i x e. leads.thread_begin i x (get_before s.thread_locals _ i x e) })
      (λ u leads. record {
        index = length s.thread_locals;
        object = record { at = s.thread_words; words = words_of s.structures t; variable = Some (length s.variables) };
        known = leads.thread_begin (length s.thread_locals) _ (get_last s.thread_locals _);
        begins = refl;
        long = refl;
        some = solid.some;
      }) kind_formed kind_object solid object same_kind

  first_placed : Placing (first_variable d.name d.number d.specifiers d.made (is_some d.init) t s)
  unfolding and_then
  first_placed =
      faults_left s false (is_mistyped d.made) d.made.conflicting (d.made.incomplete || is_incomplete s.structures t) d.name.start _ (λ a b c e.
      let kind_formed = makes (or_first d.made.mistyped d.made.noreturn b) (or_first d.made.incomplete (is_incomplete s.structures t) e) in
      let formed = formed_as kind_formed in
      let complete = or_second d.made.incomplete (is_incomplete s.structures t) e in
      let object = complete_object s.structures t plain complete in
      of d.specifiers.is_thread_local (kept_placed d.specifiers.is_thread_local refl kind_formed (either (is_unsized d.made.kind) refl object)
      (record { formed = formed; some = has_words s.structures t lawful.complete_have_words formed plain complete }) object))
    where
      either : (test : Bool) → is_unsized d.made.kind ≡ test → is_object t ≡ true → is_object d.made.kind ≡ true
      either true e object = unsized_is_object d.made.kind e
      either false e object = ap is_object (sym (same_kind e)) ∙ object

      -- and_then is associative
      of : (thread : Bool) → Placing (kept_in (if thread then IsThreadLocal else IsStatic)) → Placing (and_then (kept_for (if thread then IsThreadLocal else IsStatic) (words_of s.structures t) (Some (length s.variables)) s)
          (λ storage u. Good storage (record u {
            variables = u.variables ++ new_variable u.source ∷ [];
            scopes = declare u.scopes d.number (Variable d.made.kind storage (Some (length s.variables)));
          })))
      of thread h = h

  further_placed : (n : ℕ) (kind : CType) (storage : Storage) (found : Option VariableInfo) → slice_get s.variables n ≡ found → found_here s.scopes d.number ≡ Some (Variable kind storage (Some n))
      → Placing (further_variable d.name d.specifiers d.made (is_some d.init) t n storage found s)
  unfolding and_then
  further_placed n kind storage None known named = fails_left s 2 d.name.start
  further_placed n kind storage (Some v) known named =
      faults_left s (v.initialized && is_some d.init) (is_mistyped d.made || not (same v.kind t) || not (same_words v.thread_local d.specifiers.is_thread_local)) d.made.conflicting
      d.made.incomplete d.name.start _ (λ a b c e.
      changed_left s lawful d.number (is_unsized d.made.kind) kind t storage n v _ named known
      (same-eq v.kind t (not_false (same v.kind t) (second_of_three (is_mistyped d.made) (not (same v.kind t)) (not (same_words v.thread_local d.specifiers.is_thread_local)) b))) refl refl)
    where
      second_of_three : (a b c : Bool) → a || b || c ≡ false → b ≡ false
      second_of_three true b c e = absurd (cc)
      second_of_three false true c e = absurd (cc)
      second_of_three false false c e = refl

  file_placed : (here : Option Entity) → found_here s.scopes d.number ≡ here → Placing (file_variable d.name d.number d.specifiers d.made (is_some d.init) t here s)
  unfolding and_then
  file_placed None at = first_placed
  file_placed (Some (Variable u storage (Some n))) at = further_placed n u storage (slice_get s.variables n) refl at
  file_placed (Some (Variable u storage None)) at = fails_left s 2 d.name.start
  file_placed (Some (Function n)) at = fails_left s 2 d.name.start
  file_placed (Some (TypeName u)) at = fails_left s 2 d.name.start
  file_placed (Some (Enumerator bits)) at = fails_left s 2 d.name.start
  file_placed (Some (Library row)) at = fails_left s 2 d.name.start
  file_placed (Some NullPointer) at = fails_left s 2 d.name.start
  file_placed (Some MutexInitializer) at = fails_left s 2 d.name.start

  abbrev rest_of : Option Entity → Read (Unit {0})
  rest_of here = and_then (file_variable d.name d.number d.specifiers d.made (is_some d.init) t here s) (λ storage w.
      and_then (statically d.init t storage w) (λ _ v. array_completed d.number t (is_unsized d.made.kind) v))

  rest_left : (here : Option Entity) → found_here s.scopes d.number ≡ here → Left {A = Unit {0}} (λ a x. IsSound s → IsSound x) s (rest_of here)
  unfolding and_then
  rest_left here at =
      then_left s (file_variable d.name d.number d.specifiers d.made (is_some d.init) t here s) _ (file_placed here at) (λ storage w h.
      ready_left s d.number t h.known.kind storage h.known.n d.init (is_unsized d.made.kind) w h.lawful h.known.ready h.known.solid h.known.object)

plain_of : (t : CType) → function_in t ≡ None → is_function t ≡ false
plain_of (Function' _ (more_of-CType r end_of-CType) _ ps e) none = absurd (cc)
plain_of Void none = refl
plain_of Char none = refl
plain_of Int none = refl
plain_of Unsigned none = refl
plain_of Mutex none = refl
plain_of (Struct k) none = refl
plain_of (Pointer' _ t) none = refl
plain_of (Array' _ t n) none = refl

-- a variable of file scope, with what takes its size from its initializer
pub variable_left : (d : Named) (here : Option Entity) (s : Seen) → Lawful s → MakesFormed d.made s → function_in d.made.kind ≡ None → found_here s.scopes d.number ≡ here
    → Left {A = Unit {0}} (λ a x. IsSound s → IsSound x) s (variable_named d here s)
unfolding variable_named initial_size and_then
variable_left d here s lawful makes none at = of d.init refl
  where
    as_it_is : Left {A = Unit {0}} (λ a x. IsSound s → IsSound x) s
        (and_then (file_variable d.name d.number d.specifiers d.made (is_some d.init) d.made.kind here s) (λ storage w.
        and_then (statically d.init d.made.kind storage w) (λ _ v. array_completed d.number d.made.kind (is_unsized d.made.kind) v)))
    as_it_is = rest_left d s lawful makes d.made.kind (λ f. f) (λ e. refl) (plain_of d.made.kind none) here at

    with_init : (i : Init) (test : Bool) → is_unsized d.made.kind ≡ test → Left {A = Unit {0}} (λ a x. IsSound s → IsSound x) s
        (and_then (sized_by i d.made.kind test s) (λ t v. and_then (file_variable d.name d.number d.specifiers d.made (is_some d.init) t here v) (λ storage w.
        and_then (statically d.init t storage w) (λ _ x. array_completed d.number t (is_unsized d.made.kind) x))))
    with_init i true e =
        rest_left d s lawful makes (array_of (element_of d.made.kind) (size_told (element_of d.made.kind) s.source i))
        (sized_formed s.structures d.made.kind (size_told (element_of d.made.kind) s.source i) e) (λ f. let clash : true ≡ false = sym e ∙ f in absurd (cc)) refl here at
    with_init i false e = as_it_is

    of : (given : Option Init) → d.init ≡ given → Left {A = Unit {0}} (λ a x. IsSound s → IsSound x) s
        (and_then (sized given d.made.kind s) (λ t v. and_then (file_variable d.name d.number d.specifiers d.made (is_some d.init) t here v) (λ storage w.
        and_then (statically d.init t storage w) (λ _ x. array_completed d.number t (is_unsized d.made.kind) x))))
    of None e = as_it_is
    of (Some i) e = with_init i (is_unsized d.made.kind) refl
