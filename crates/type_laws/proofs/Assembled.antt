-- A typed unit is a unit.
use Rattle.std.proofs.Common.{◌≡◌, ℕ, zero, suc, ◌<◌, ◌≤◌, ◌+◌, ◌^◌, Bool, true, false, refl, sym, ◌∙◌, ap, subst, List, [], ◌∷◌, length, slice_get, Option, Some, None, All, arith}
use Rattle.c_tree.specs.declared.statements.Tree.{Tree}
use Rattle.eff_types.specs.Effects.{conflict}
use Rattle.eff_types.specs.declared.levels.Effects.{Effects}
use Rattle.core_unit.specs.Layout.{LaidOut}
use Rattle.core_unit.specs.Structures.{IsSized, IsWithin}
use Rattle.core_unit.specs.Units.{IsBody, IsFunction, body_in, AreNumbered, calls_of, HasBody, AreDefinitions, IsApart, IsOfUnit, variables_of, IsAmongObjects, objects_for, IsInitialWord, IsUnit}
use Rattle.core_unit.specs.declared.body.Body.{Body}
use Rattle.core_unit.specs.declared.tables.FunctionInfo.{FunctionInfo}
use Rattle.core_unit.specs.declared.tables.Object.{Object}
use Rattle.core_unit.specs.declared.tables.UnitParts.{UnitParts}
use Rattle.core_unit.specs.declared.units.Which.{Which}
use Rattle.type_rules.specs.Laws.{TypedUnitsAreUnits}
use Rattle.type_rules.specs.Reading.{Read, Good, Bad, and_then}
use Rattle.type_rules.specs.Seen.{Seen}
use Rattle.type_rules.specs.Units.{with_whole, parts_of, exceeded, read_unit, effects_of_all, typed, outcome, outcome_of, IsTyped}
use Rattle.type_rules.specs.declared.notes.TypeWarning.{TypeWarning}
use Rattle.type_laws.proofs.Contents.{static_words_hold, thread_words_hold}
use Rattle.type_laws.proofs.Definitions.{IsDefined}
use Rattle.type_laws.proofs.Each.{Each, each_as, each_get}
use Rattle.type_laws.proofs.Filling.{all_of_each}
use Rattle.type_laws.proofs.Formed.{within_of_formed}
use Rattle.type_laws.proofs.Levels.{allowed_of, fits_at, all_fit}
use Rattle.type_laws.proofs.Objects.{IsObjectFor, IsObjectIn, numbers, row_for}
use Rattle.type_laws.proofs.Opening.{IsRead, unit_is_read}
use Rattle.type_laws.proofs.Signatures.{signatures_hold}
use Rattle.type_laws.proofs.Triples.{IsDeclared, IsSolidVariable}
use Rattle.type_laws.proofs.Values.{each_of_all}
use Rattle.type_laws.proofs.Whole.{IsWithinLimits, limits_hold, in_whole, whole_length, statics_laid, threads_laid, bodies_are_definitions, structures_sized, structures_ranked, words_told}

-- what holds at each index holds of all
module _ {A : Type 0} (P : A → Type 0) where
  each_at : (xs : List A) → ((i : ℕ) (x : A) → slice_get xs i ≡ Some x → P x) → Each P xs
  each_at [] h = tt
  each_at (x ∷ xs) h = (h zero x refl, each_at xs (λ i y e. h (suc i) y e))

module _ (P : FunctionInfo → Type 0) (whole : List Effects) where
  each_whole : (n : ℕ) (fs : List FunctionInfo) → ((i j : ℕ) (f : FunctionInfo) → j ≡ n + i → slice_get fs i ≡ Some f → P (in_whole whole j f)) → Each P (with_whole whole n fs)
  each_whole n [] h = tt
  each_whole n (f ∷ fs) h = (h zero n f (omega arith) refl, each_whole (n + 1) fs (λ i j g at e. h (suc i) j g (omega (arith, at)) e))

-- a function of the unit has a body where it had one when it was seen
body_at : (whole : List Effects) (n : ℕ) (fs : List FunctionInfo) (i : ℕ) (f : FunctionInfo) (body : Body) → slice_get fs i ≡ Some f → f.body ≡ Some body
    → HasBody (body_in (with_whole whole n fs) i)
body_at whole n [] i f body there is = absurd (cc)
body_at whole n (g ∷ gs) zero f body there is =
    let same : g ≡ f = cc in subst HasBody (sym (ap (λ (x : FunctionInfo). x.body) same ∙ is)) tt
body_at whole n (g ∷ gs) (suc i) f body there is = body_at whole (n + 1) gs i f body there is

record WasDefined (fs : List FunctionInfo) (i : ℕ) : Type 0 where
  f : FunctionInfo
  body : Body
  there : slice_get fs i ≡ Some f
  is : f.body ≡ Some body

body_from : (whole : List Effects) (n : ℕ) (fs : List FunctionInfo) (i : ℕ) → HasBody (body_in (with_whole whole n fs) i) → WasDefined fs i
body_from whole n [] i h = absurd h
body_from whole n (g ∷ gs) zero h = of g.body refl h
  where
    of : (b : Option Body) → g.body ≡ b → HasBody b → WasDefined (g ∷ gs) zero
    of None e h = absurd h
    of (Some body) e h = record { f = g; body = body; there = refl; is = e }
body_from whole n (g ∷ gs) (suc i) h = let old = body_from whole (n + 1) gs i h in record { f = old.f; body = old.body; there = old.there; is = old.is }

-- the numbers of the objects, in the words of the unit
numbers_first : (at words : ℕ) (v : Option ℕ) (os : List Object) → numbers os ≡ variables_of os
    → numbers (record { at = at; words = words; variable = v } ∷ os) ≡ variables_of (record { at = at; words = words; variable = v } ∷ os)
numbers_first at words (Some n) os e = ap (λ (rest : List ℕ). n ∷ rest) e
numbers_first at words None os e = e

numbers_are : (os : List Object) → numbers os ≡ variables_of os
numbers_are [] = refl
numbers_are (o ∷ os) = numbers_first o.at o.words o.variable os (numbers_are os)

row_words : (first last : ℕ) (os : List Object) → LaidOut first os last → first + length os ≤ last
row_words first last [] laid = omega arith
row_words first last (o ∷ os) laid = let some = laid.1 in let rest = row_words (first + o.words) last os laid.2 in omega (arith, some, rest)

module _ (s : Seen) (read : IsRead s) (limits : IsWithinLimits s) where
  body_is : (i : ℕ) (f : FunctionInfo) → slice_get s.functions i ≡ Some f → IsBody (parts_of s) (in_whole s.whole i f) f.body
  body_is i f there = of f.body refl
    where
      of : (b : Option Body) → f.body ≡ b → IsBody (parts_of s) (in_whole s.whole i f) b
      of None e = (each_get (IsDeclared s.structures) s.functions i f read.lawful.functions_formed there).unframed e
      of (Some body) e = bodies_are_definitions s read limits i f body there e

  function_is : (i : ℕ) (f : FunctionInfo) → slice_get s.functions i ≡ Some f → IsFunction (parts_of s) (in_whole s.whole i f)
  unfolding parts_of
  function_is i f there =
      let h = signatures_hold s read.lawful limits i f there in
      let declared = each_get (IsDeclared s.structures) s.functions i f read.lawful.functions_formed there in
      record {
        few = h.few;
        params = h.params;
        result = h.result;
        within = h.within;
        allowed = allowed_of (in_whole s.whole i f).kind.effects (fits_at s.whole f i read.lawful.whole_fits declared.fits);
        body = body_is i f there;
      }

  functions_are : All (IsFunction (parts_of s)) (with_whole s.whole 0 s.functions)
  functions_are =
      all_of_each (IsFunction (parts_of s)) (with_whole s.whole 0 s.functions) (each_whole (IsFunction (parts_of s)) s.whole 0 s.functions (λ i j f at e.
      let same : i ≡ j = omega (arith, at) in subst (λ (k : ℕ). IsFunction (parts_of s) (in_whole s.whole k f)) same (function_is i f e)))

  definitions_are : AreDefinitions (with_whole s.whole 0 s.functions) s.definitions
  definitions_are =
      let h = read.filed.defined in
      record {
        apart = h.apart;
        bodies = all_of_each _ s.definitions (each_as (IsDefined s.functions) (λ n. HasBody (body_in (with_whole s.whole 0 s.functions) n)) s.definitions
            (λ n d. body_at s.whole 0 s.functions n d.info d.body d.known d.is) h.bodies);
        all = λ n has. let d = body_from s.whole 0 s.functions n has in h.all n d.f d.body d.there d.is;
      }

  object_is : (thread : Bool) (at words : ℕ) (v : Option ℕ) → IsObjectFor s.structures s.variables thread words v
      → IsOfUnit (parts_of s) thread (record { at = at; words = words; variable = v })
  unfolding parts_of
  object_is thread at words (Some n) h = record { info = h.info; known = h.known; kept = h.kept; long = h.long }
  object_is thread at words None h = tt

  objects_are : (thread : Bool) (os : List Object) → Each (IsObjectIn s.structures s.variables thread) os → All (IsOfUnit (parts_of s) thread) os
  objects_are thread os each =
      all_of_each (IsOfUnit (parts_of s) thread) os (each_as (IsObjectIn s.structures s.variables thread) (IsOfUnit (parts_of s) thread) os
      (λ o h. object_is thread o.at o.words o.variable h) each)

  among_is : (thread : Bool) (n : ℕ) → IsAmongObjects (row_for s.statics s.thread_locals thread) n → IsAmongObjects (objects_for (parts_of s) thread) n
  unfolding parts_of
  among_is true n h = h
  among_is false n h = h

  pub unit_is : AreNumbered 1 (calls_of (parts_of s)) (parts_of s).sites → length (parts_of s).sites < 2 ^ 20 → length s.structures < 2 ^ 32 → IsUnit (parts_of s)
  unfolding parts_of
  unit_is numbered few_sites few_structures =
      let objects = read.lawful.objects_known in
      let statics = statics_laid s read.lawful limits in
      let threads = threads_laid s read.lawful limits in
      let static_long = words_told 1 s.static_words s.static_values in
      let thread_long = words_told 0 s.thread_words s.thread_values in
      let functions_long = whole_length s.whole 0 s.functions in
      let few_functions = limits.functions in
      let few_words = limits.static_words in
      let few_threads = limits.thread_words in
      let fewer = objects.fewer in
      let static_count = row_words 1 (1 + s.static_words) s.statics statics in
      let thread_count = row_words 0 s.thread_words s.thread_locals threads in
      record {
        few_functions = subst (λ n. n ≤ 4096) (sym functions_long) few_functions;
        few_sites = few_sites;
        few_words = subst (λ n. n ≤ 524288) (sym static_long) few_words;
        few_thread_words = subst (λ n. n ≤ 1024) (sym thread_long) few_threads;
        few_variables = omega (arith, fewer, static_count, thread_count, few_words, few_threads);
        few_structures = few_structures;
        functions = functions_are;
        definitions = definitions_are;
        sites = numbered;
        structures = all_of_each (IsSized s.structures) s.structures (each_at (IsSized s.structures) s.structures (λ k info e. structures_sized s read.lawful k info e));
        ranked = structures_ranked s read.lawful;
        statics = subst (λ n. LaidOut 1 s.statics (1 + n)) (sym static_long) statics;
        thread_locals = subst (λ n. LaidOut 0 s.thread_locals n) (sym thread_long) threads;
        static_objects = objects_are false s.statics objects.static_row.each;
        thread_objects = objects_are true s.thread_locals objects.thread_row.each;
        static_variables = subst IsApart (numbers_are s.statics) objects.static_row.apart;
        thread_variables = subst IsApart (numbers_are s.thread_locals) objects.thread_row.apart;
        variable_types = all_of_each _ s.variables (each_as (IsSolidVariable s.structures) (λ v. IsWithin (length s.structures) v.kind) s.variables
            (λ v h. within_of_formed s.structures v.kind h.0) read.lawful.variables_solid);
        variables = λ n info known. among_is info.thread_local n (objects.among n info known);
        static_values = all_of_each (IsInitialWord (parts_of s)) _ (static_words_hold s read limits);
        thread_values = all_of_each (IsInitialWord (parts_of s)) _ (thread_words_hold s read limits);
      }

-- what an outcome says of what was seen
module _ (source marks : List ℕ) (tree : Tree) (u : UnitParts) (warnings : List TypeWarning) (bytes : Each (λ byte. byte < 256) source)
    (numbered : AreNumbered 1 (calls_of u) u.sites) (few_sites : length u.sites < 2 ^ 20) (few_structures : length u.structures < 2 ^ 32) where
  abbrev Comes : Read (Unit {0}) → Type 0
  Comes r = outcome_of r ≡ IsTyped u warnings

  structures_few : (s : Seen) → parts_of s ≡ u → length s.structures < 2 ^ 32
  unfolding parts_of
  structures_few s same = subst (λ (v : UnitParts). length v.structures < 2 ^ 32) (sym same) few_structures

  of_limits : (s : Seen) (passed : Option Which) → exceeded s ≡ passed → IsRead s → Comes (Good tt s) → IsUnit u
  of_limits s (Some limit) e read is = let clash = rw e at is in absurd (cc)
  of_limits s None e read is =
      let comes = rw e at is in
      let same : parts_of s ≡ u = cc in
      subst IsUnit same (unit_is s read (limits_hold s e) (subst (λ (v : UnitParts). AreNumbered 1 (calls_of v) v.sites) (sym same) numbered)
      (subst (λ (v : UnitParts). length v.sites < 2 ^ 20) (sym same) few_sites) (structures_few s same))

  of_second : (whole : List Effects) (r : Read (Unit {0})) → read_unit source marks whole tree ≡ r → Each (λ e. conflict (e ∷ []) ≡ false) whole → Comes r → IsUnit u
  of_second whole (Bad number place) e fits is = absurd (cc)
  of_second whole (Good a s) e fits is = of_limits s (exceeded s) refl (unit_is_read source marks whole tree s bytes fits e) is

  of_first : (r : Read (Unit {0})) → read_unit source marks [] tree ≡ r → Comes (and_then r (λ _ s. read_unit source marks (effects_of_all s.functions) tree)) → IsUnit u
  unfolding and_then
  of_first (Bad number place) e is = absurd (cc)
  of_first (Good a s) e is =
      let read = unit_is_read source marks [] tree s bytes tt e in
      of_second (effects_of_all s.functions) (read_unit source marks (effects_of_all s.functions) tree) refl
      (all_fit s.functions (each_as (IsDeclared s.structures) (λ f. conflict (f.kind.effects ∷ []) ≡ false) s.functions (λ f h. h.fits) read.lawful.functions_formed)) is

-- A typed unit is a unit, where its calls are numbered in order of place and are few.
pub typed_units_are_units : TypedUnitsAreUnits
unfolding outcome typed
typed_units_are_units source marks tree u warnings bytes is numbered few_sites few_structures =
    of_first source marks tree u warnings (each_of_all (λ byte. byte < 256) source bytes) numbered few_sites few_structures (read_unit source marks [] tree) refl is
