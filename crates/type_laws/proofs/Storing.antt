-- Where block variables are kept, and that their names are known with the objects.
use Rattle.std.proofs.Common.{◌≡◌, ℕ, ◌<◌, ◌+◌, Bool, true, false, refl, sym, subst, List, [], ◌∷◌, ◌++◌, drop, length, slice_get, Option, Some, None, arith}
use Rattle.scopes.specs.Scope.{Scope, found_here, declare}
use Rattle.eff_types.specs.declared.types.CType.{CType}
use Rattle.core_unit.specs.Layout.{LaidOut, told, words_of, object, automatic}
use Rattle.core_unit.specs.Shapes.{is_unsized}
use Rattle.core_unit.specs.Typed.{Tables, IsObject, IsKept, objects_of, where_in}
use Rattle.core_unit.specs.declared.expressions.Storage.{Storage}
use Rattle.core_unit.specs.declared.expressions.Storage.TheVariants.{Automatic, Static, ThreadLocal}
use Rattle.core_unit.specs.declared.tables.Object.{Object}
use Rattle.type_rules.specs.Declarations.{with_size, array_completed, block_kept}
use Rattle.type_rules.specs.Reading.{and_then}
use Rattle.type_rules.specs.Seen.{Seen}
use Rattle.type_rules.specs.declared.durations.Duration.{Duration}
use Rattle.type_rules.specs.declared.durations.Duration.TheVariants.{Automatic as IsAutomatic, Static as IsStatic, ThreadLocal as IsThreadLocal}
use Rattle.core_unit.specs.declared.tables.VariableInfo.{VariableInfo}
use Rattle.type_rules.specs.declared.names.Entity.{Entity}
use Rattle.type_rules.specs.declared.names.Entity.TheVariants.{Variable}
use Rattle.type_laws.proofs.Converted.{within_tables}
use Rattle.type_laws.proofs.Formed.{IsFormed, stay_same}
use Rattle.type_laws.proofs.Growing.{GrowsUnder, Grows, NoAutos, Standing, steady_same, grows_same}
use Rattle.type_laws.proofs.Left.{Left, longer, gives_left}
use Rattle.type_laws.proofs.Lists.{get_before, get_last}
use Rattle.type_laws.proofs.Objects.{AreObjects, static_and_none, thread_and_none}
use Rattle.type_laws.proofs.Scopes.{each_declared, here_same}
use Rattle.type_laws.proofs.Steps.{lawful_declared}
use Rattle.type_laws.proofs.Strings.{laid_out_more, stand_more}
use Rattle.type_laws.proofs.Triples.{Each, AreLaidOut, IsKnownEntity, IsSolidVariable, Lawful, Leads, Knows}
use Rattle.type_laws.proofs.Types.{is_object}

stand_thread : (words n : ℕ) (objects : List Object) (variable : Option ℕ) → AreLaidOut 0 objects words → 0 < n
    → AreLaidOut 0 (objects ++ record { at = words; words = n; variable = variable } ∷ []) (told (words + n))
stand_thread words n objects variable stand some few =
    let here : LaidOut 0 objects words = subst (λ last. LaidOut 0 objects last) (omega arith) (stand (omega arith)) in
    let last : words + n ≡ 0 + told (words + n) = omega arith in
    subst (λ last. LaidOut 0 (objects ++ record { at = words; words = n; variable = variable } ∷ []) last) last
    (laid_out_more 0 words n objects variable here some)

-- a static or thread-local object more
pub lawful_static : (s : Seen) (words : ℕ) (variable : Option ℕ) (variables : List VariableInfo) → Lawful s → 0 < words → Each (IsSolidVariable s.structures) variables
    → AreObjects s.structures variables (s.statics ++ record { at = s.static_words + 1; words = words; variable = variable } ∷ []) s.thread_locals
    → Lawful (record s {
      statics = s.statics ++ record { at = s.static_words + 1; words = words; variable = variable } ∷ [];
      static_words = told (s.static_words + words);
      variables = variables;
    })
lawful_static s words variable variables lawful some solid objects = record {
  bytes = lawful.bytes;
  scoped = lawful.scoped;
  entities = lawful.entities;
  functions_formed = lawful.functions_formed;
  open_are_empty = lawful.open_are_empty;
  complete_have_words = lawful.complete_have_words;
  members_lawful = lawful.members_lawful;
  sized = lawful.sized;
  few = lawful.few;
  statics_stand = stand_more s.static_words words s.statics variable lawful.statics_stand some;
  threads_stand = lawful.threads_stand;
  tags_lawful = lawful.tags_lawful;
  ranked = lawful.ranked;
  variables_solid = solid;
  objects_known = objects;
  whole_fits = lawful.whole_fits;
}

pub lawful_thread : (s : Seen) (words : ℕ) (variable : Option ℕ) (variables : List VariableInfo) → Lawful s → 0 < words → Each (IsSolidVariable s.structures) variables
    → AreObjects s.structures variables s.statics (s.thread_locals ++ record { at = s.thread_words; words = words; variable = variable } ∷ [])
    → Lawful (record s {
      thread_locals = s.thread_locals ++ record { at = s.thread_words; words = words; variable = variable } ∷ [];
      thread_words = told (s.thread_words + words);
      variables = variables;
    })
lawful_thread s words variable variables lawful some solid objects = record {
  bytes = lawful.bytes;
  scoped = lawful.scoped;
  entities = lawful.entities;
  functions_formed = lawful.functions_formed;
  open_are_empty = lawful.open_are_empty;
  complete_have_words = lawful.complete_have_words;
  members_lawful = lawful.members_lawful;
  sized = lawful.sized;
  few = lawful.few;
  statics_stand = lawful.statics_stand;
  threads_stand = stand_thread s.thread_words words s.thread_locals variable lawful.threads_stand some;
  tags_lawful = lawful.tags_lawful;
  ranked = lawful.ranked;
  variables_solid = solid;
  objects_known = objects;
  whole_fits = lawful.whole_fits;
}

-- an object of so many words is kept there
abbrev pub IsThere : Storage → ℕ → Tables → Type 0
IsThere storage words u = IsObject (objects_of u storage) (where_in storage) words

-- The name of a block variable is declared with its object.
pub record IsBlockVariable (number : ℕ) (kind : CType) (words : ℕ) (s : Seen) (storage : Storage) (t : Seen) : Type 0 where
  pub grows : Grows (λ structures. automatic storage words) (IsThere storage words) s t
  pub named : found_here t.scopes number ≡ Some (Variable kind storage None)

pub named_here : (scopes : List (Scope Entity)) (number : ℕ) (e : Entity) → 0 < length scopes → found_here (declare scopes number e) number ≡ Some e
named_here [] number e some = absurd (omega arith)
named_here (scope ∷ outer) number e some = here_same scope outer number e

module _ (s : Seen) (lawful : Lawful s) (number : ℕ) (kind : CType) (words : ℕ) (formed : IsFormed s.structures kind) (solid : is_object kind ≡ true) (some : 0 < words)
    (long : (u : Tables) → Leads s u → is_unsized kind ≡ false → words ≡ words_of u.structures kind) where
  kept_in : (storage : Storage) (u : Tables) → Leads s u → IsThere storage words u → IsKept u storage kind
  kept_in storage u leads there = record { within = within_tables s u kind leads formed; words = words; there = there; long = long u leads }

  abbrev declared_in : Seen → Storage → Seen
  declared_in t storage = record t { scopes = declare t.scopes number (Variable kind storage None) }

  known_in : (storage : Storage) (u : Tables) → Leads s u → Knows s u → IsThere storage words u → Knows (declared_in s storage) u
  known_in storage u leads knows there =
      each_declared (IsKnownEntity u) s.scopes number (Variable kind storage None) knows (kept_in storage u leads there)

  pub block_kept_left : (duration : Duration) → Left (IsBlockVariable number kind words s) s (block_kept number duration kind words s)
  unfolding and_then
  block_kept_left IsAutomatic = record {
    holds = record {
      lawful = lawful_declared s number (Variable kind (Automatic s.frame) None) lawful (formed, solid);
      stay = stay_same s.structures;
      known = record {
        grows = record {
          steady = steady_same s;
          few = λ few. omega arith;
          laid = λ u leads few. (refl, some, omega arith);
          tables = λ u leads small knows standing p.
              let there = automatic_there u standing in (known_in (Automatic s.frame) u leads knows there, there);
          values = λ u leads small knows standing p v. v;
        };
        named = named_here s.scopes number (Variable kind (Automatic s.frame) None) (longer s.scopes lawful.scoped);
      };
      outer = outer_of s.scopes (Variable kind (Automatic s.frame) None);
      back = λ u leads. leads;
      begun = λ k begun. begun;
    };
  }
    where
      automatic_there : (u : Tables) → Standing u.frame (object s.frame words ∷ []) → IsThere (Automatic s.frame) words u
      automatic_there u standing = record { index = standing.0.0; object = object s.frame words; known = standing.0.1; begins = refl; long = refl; some = some }

      outer_of : (scopes : List (Scope Entity)) (e : Entity) → drop 1 (declare scopes number e) ≡ drop 1 scopes
      outer_of [] e = refl
      outer_of (scope ∷ outer) e = refl
  block_kept_left IsStatic = record {
    holds = record {
      lawful = lawful_declared after number (Variable kind (Static (s.static_words + 1)) None) (lawful_static s words None s.variables lawful some lawful.variables_solid (static_and_none s.structures s.variables s.statics s.thread_locals lawful.objects_known (s.static_words + 1) words)) (formed, solid);
      stay = stay_same s.structures;
      known = record {
        grows = record {
          steady = steady_same s;
          few = λ few. few;
          laid = λ u leads few. refl;
          tables = λ u leads small knows standing p.
              let there = static_there u leads.begin in
              (known_in (Static (s.static_words + 1)) u (back u leads) knows there, there);
          values = λ u leads small knows standing p v. v;
        };
        named = named_here s.scopes number (Variable kind (Static (s.static_words + 1)) None) (longer s.scopes lawful.scoped);
      };
      outer = outer_of s.scopes (Variable kind (Static (s.static_words + 1)) None);
      back = back;
      begun = λ k begun. begun;
    };
  }
    where
      after : Seen
      after = record s { statics = s.statics ++ record { at = s.static_words + 1; words = words; variable = None } ∷ []; static_words = told (s.static_words + words) }

      back : (u : Tables) → Leads after u → Leads s u
      back u leads = record { named = leads.named; stay = leads.stay; begin = λ i x e. leads.begin i x (get_before s.statics _ i x e); thread_begin = leads.thread_begin }

      static_there : (u : Tables) → ((i : ℕ) (x : Object) → slice_get after.statics i ≡ Some x → slice_get u.statics i ≡ Some x) → IsThere (Static (s.static_words + 1)) words u
      static_there u begin = record {
        index = length s.statics;
        object = record { at = s.static_words + 1; words = words; variable = None };
        known = begin (length s.statics) _ (get_last s.statics _);
        begins = refl;
        long = refl;
        some = some;
      }

      outer_of : (scopes : List (Scope Entity)) (e : Entity) → drop 1 (declare scopes number e) ≡ drop 1 scopes
      outer_of [] e = refl
      outer_of (scope ∷ outer) e = refl
  block_kept_left IsThreadLocal = record {
    holds = record {
      lawful = lawful_declared after number (Variable kind (ThreadLocal s.thread_words) None) (lawful_thread s words None s.variables lawful some lawful.variables_solid (thread_and_none s.structures s.variables s.statics s.thread_locals lawful.objects_known s.thread_words words)) (formed, solid);
      stay = stay_same s.structures;
      known = record {
        grows = record {
          steady = steady_same s;
          few = λ few. few;
          laid = λ u leads few. refl;
          tables = λ u leads small knows standing p.
              let there = thread_there u leads.thread_begin in
              (known_in (ThreadLocal s.thread_words) u (back u leads) knows there, there);
          values = λ u leads small knows standing p v. v;
        };
        named = named_here s.scopes number (Variable kind (ThreadLocal s.thread_words) None) (longer s.scopes lawful.scoped);
      };
      outer = outer_of s.scopes (Variable kind (ThreadLocal s.thread_words) None);
      back = back;
      begun = λ k begun. begun;
    };
  }
    where
      after : Seen
      after = record s { thread_locals = s.thread_locals ++ record { at = s.thread_words; words = words; variable = None } ∷ []; thread_words = told (s.thread_words + words) }

      back : (u : Tables) → Leads after u → Leads s u
      back u leads = record { named = leads.named; stay = leads.stay; begin = leads.begin; thread_begin = λ i x e. leads.thread_begin i x (get_before s.thread_locals _ i x e) }

      thread_there : (u : Tables) → ((i : ℕ) (x : Object) → slice_get after.thread_locals i ≡ Some x → slice_get u.thread_locals i ≡ Some x) → IsThere (ThreadLocal s.thread_words) words u
      thread_there u begin = record {
        index = length s.thread_locals;
        object = record { at = s.thread_words; words = words; variable = None };
        known = begin (length s.thread_locals) _ (get_last s.thread_locals _);
        begins = refl;
        long = refl;
        some = some;
      }

      outer_of : (scopes : List (Scope Entity)) (e : Entity) → drop 1 (declare scopes number e) ≡ drop 1 scopes
      outer_of [] e = refl
      outer_of (scope ∷ outer) e = refl

-- An array that had no size takes it from its initializer.
module _ (v : Seen) (lawful : Lawful v) (number : ℕ) (kind t : CType) (storage : Storage) (words : ℕ) (formed : IsFormed v.structures t) (solid : is_object t ≡ true)
    (named : found_here v.scopes number ≡ Some (Variable kind storage None)) (long : (u : Tables) → Leads v u → words ≡ words_of u.structures t) where
  renamed : Seen
  renamed = record v { scopes = declare v.scopes number (Variable t storage None) }

  sized_left : Left (λ a x. GrowsUnder (IsThere storage words) NoAutos (λ u. Unit {0}) v x) v (with_size t number (Some (Variable kind storage None)) v)
  sized_left = record {
    holds = record {
      lawful = lawful_declared v number (Variable t storage None) lawful (formed, solid);
      stay = stay_same v.structures;
      known = record {
        steady = steady_same v;
        few = λ few. few;
        laid = λ u leads few. refl;
        tables = λ u leads small knows standing there. (
          each_declared (IsKnownEntity u) v.scopes number (Variable t storage None) knows
              (record { within = within_tables v u t leads formed; words = words; there = there; long = λ e. long u leads }),
          tt,
        );
        values = λ u leads small knows standing p v. v;
      };
      outer = outer_of v.scopes;
      back = λ u leads. leads;
      begun = λ k begun. begun;
    };
  }
    where
      outer_of : (scopes : List (Scope Entity)) → drop 1 (declare scopes number (Variable t storage None)) ≡ drop 1 scopes
      outer_of [] = refl
      outer_of (scope ∷ outer) = refl

  pub completed_left : (unsized : Bool) → Left (λ a x. GrowsUnder (IsThere storage words) NoAutos (λ u. Unit {0}) v x) v (array_completed number t unsized v)
  unfolding and_then
  completed_left true = subst (λ o. Left (λ a x. GrowsUnder (IsThere storage words) NoAutos (λ u. Unit {0}) v x) v (with_size t number o v)) (sym named) sized_left
  completed_left false = gives_left _ v tt lawful (grows_same (IsThere storage words) v (λ u. Unit {0}) (λ u p. tt))
