-- The unit of functions that call one another is one, and its calls stand in a source that is long enough.
use Rattle.std.proofs.Common.{◌≡◌, ℕ, zero, suc, ◌≤◌, Bool, true, false, List, [], ◌∷◌, slice_get, Option, Some, refl, sym, ap, subst, All, arith}
use Rattle.std.proofs.lemmas.List.Elements.{All-nil, All-cons}
use Rattle.std.specs.List.{list_any}
use Rattle.std.specs.Prelude.{nat_eq, codes}
use denote.Hole.Carrier.{hidden}
use Rattle.eff_types.specs.Effects.{plain, forbids}
use Rattle.eff_types.specs.Laws.{IsAtMost}
use Rattle.eff_types.specs.declared.levels.Effects.{Effects}
use Rattle.eff_types.specs.declared.levels.Level.{Level}
use Rattle.eff_types.specs.declared.levels.Level.TheVariants.{Plain, NonAllocating, NonBlocking}
use Rattle.eff_types.specs.declared.types.CType.{Void}
use Rattle.eff_types.specs.declared.types.FnType.{FnType}
use Rattle.core_unit.proofs.Callees.{function_in-Function, callee_of-Function}
use Rattle.core_unit.specs.Layout.{LaidOut, automatics, list_automatics}
use Rattle.core_unit.specs.Places.{places, spots, stmt_spots}
use Rattle.core_unit.specs.Shapes.{result_of}
use Rattle.core_unit.specs.Structures.{IsWithin}
use Rattle.core_unit.specs.Typed.{Tables, IsTyped, AreTyped, IsCalled, IsTypedStmt, ListIsTyped, is_value}
use Rattle.core_unit.specs.Typing.{type_of}
use Rattle.core_unit.specs.Units.{IsUnit, IsFunction, IsParameter, AreNumbered, HasBody, body_in, calls_of, tables_of}
use Rattle.core_unit.specs.declared.body.Stmt.{Stmt}
use Rattle.core_unit.specs.declared.body.Stmt.TheBlock.{hidden-the_row-Stmt-0, shape-the_row-Stmt-0, hidden-the_row-Stmt-1, shape-the_row-Stmt-1}
use Rattle.core_unit.specs.declared.expressions.Expr.{end_of-Expr}
use Rattle.core_unit.specs.declared.expressions.Expr.TheBlock.{hidden-the_row-Expr-0, shape-the_row-Expr-0, hidden-the_row-Place-1, shape-the_row-Place-1, hidden-the_row-Expr-2, shape-the_row-Expr-2}
use Rattle.core_unit.specs.declared.tables.FunctionInfo.{FunctionInfo}
use Rattle.core_unit.specs.declared.tables.Object.{Object}
use Rattle.core_unit.specs.declared.tables.SiteInfo.{SiteInfo}
use Rattle.core_unit.specs.declared.tables.UnitParts.{UnitParts}
use Rattle.acceptance_detector.specs.Calls.{blocking, nonblocking, bare, calls, function, functions, sites, calling}

blocking_allowed : (level : Level) → IsAtMost level Plain → forbids blocking level ≡ false
blocking_allowed Plain h = refl
blocking_allowed NonAllocating h = refl
blocking_allowed NonBlocking h = let no : ⊥ = omega (arith, h) in absurd no

nonblocking_allowed : (level : Level) → IsAtMost level NonBlocking → forbids nonblocking level ≡ false
nonblocking_allowed Plain h = refl
nonblocking_allowed NonAllocating h = refl
nonblocking_allowed NonBlocking h = refl

plain_allowed : (level : Level) → IsAtMost level Plain → forbids plain level ≡ false
plain_allowed Plain h = refl
plain_allowed NonAllocating h = refl
plain_allowed NonBlocking h = refl

-- the places of the calls stand in a source of this length
pub sites_within : (inner outer n : ℕ) → inner ≤ n → outer ≤ n → All (λ site. site.place ≤ n) (sites inner outer)
sites_within inner outer n first second =
    let P : SiteInfo → Type 0 = λ site. site.place ≤ n in
    let one : SiteInfo = record { function = 1; place = inner; direct = Some 0 } in
    let two : SiteInfo = record { function = 2; place = outer; direct = Some 1 } in
    All-cons P one (two ∷ []) first (All-cons P two [] second (All-nil P))

-- a call of a function that takes and gives nothing is typed
call_is_typed : (t : Tables) (place site number : ℕ) (name : List ℕ) (effects : Effects) (items : List Stmt)
    → slice_get t.functions number ≡ Some (function name effects items) → IsTypedStmt t Void false (calls place site number effects)
unfolding IsTypedStmt IsTyped type_of hidden hidden-the_row-Expr-0 shape-the_row-Expr-0 hidden-the_row-Place-1 shape-the_row-Place-1 hidden-the_row-Expr-2 shape-the_row-Expr-2 hidden-the_row-Stmt-0 shape-the_row-Stmt-0 hidden-the_row-Stmt-1 shape-the_row-Stmt-1
call_is_typed t place site number name effects items known =
    let passed : Option FnType → Type 0 = λ c. IsCalled c (λ params. AreTyped t end_of-Expr params) in
    let gives : Option FnType → Bool = λ c. is_value (result_of c) in
    let called = callee_of-Function (bare effects) in (
      (
        record {
          info = function name effects items;
          static = bare effects;
          known = known;
          function = function_in-Function (bare effects);
          result = refl;
          params = refl;
          level = omega arith;
        },
        subst passed (sym called) tt,
      ),
      ap gives called,
    )

-- and has no variables
calls_are_bare : (place site number : ℕ) (effects : Effects) → list_automatics [] (calls place site number effects ∷ []) ≡ []
unfolding automatics hidden hidden-the_row-Expr-0 shape-the_row-Expr-0 hidden-the_row-Place-1 shape-the_row-Place-1 hidden-the_row-Expr-2 shape-the_row-Expr-2 hidden-the_row-Stmt-0 shape-the_row-Stmt-0 hidden-the_row-Stmt-1 shape-the_row-Stmt-1
calls_are_bare place site number effects = refl

-- the calls of the unit are numbered in order of place
calls_numbered : (low root : List ℕ) (inner outer : ℕ) → AreNumbered 1 (calls_of (calling low root inner outer)) (sites inner outer)
unfolding places stmt_spots spots hidden hidden-the_row-Expr-0 shape-the_row-Expr-0 hidden-the_row-Place-1 shape-the_row-Place-1 hidden-the_row-Expr-2 shape-the_row-Expr-2 hidden-the_row-Stmt-0 shape-the_row-Stmt-0 hidden-the_row-Stmt-1 shape-the_row-Stmt-1
calls_numbered low root inner outer = (refl, refl, (refl, refl, tt))

module _ (low root : List ℕ) (inner outer : ℕ) where
  abbrev u : UnitParts
  u = calling low root inner outer

  function_is : (name : List ℕ) (effects : Effects) (items : List Stmt) → ((level : Level) → IsAtMost level effects.level → forbids effects level ≡ false)
      → ListIsTyped (tables_of u (function name effects items) (record { items = items })) Void false items → list_automatics [] items ≡ []
      → IsFunction u (function name effects items)
  unfolding IsWithin
  function_is name effects items allowed typed bare_items = record {
    few = omega arith;
    params = All-nil (IsParameter []);
    result = refl;
    within = tt;
    allowed = allowed;
    body = record { typed = typed; frame = let P : List Object → Type 0 = λ os. LaidOut 0 os 0 in subst P (sym bare_items) refl; small = omega arith };
  }

  functions_are : All (IsFunction u) u.functions
  functions_are =
      let P : FunctionInfo → Type 0 = IsFunction u in
      let lowest = function low blocking [] in
      let middle = function (codes "f") nonblocking (calls inner 1 0 blocking ∷ []) in
      let last = function root plain (calls outer 2 1 nonblocking ∷ []) in
      let inside = call_is_typed (tables_of u middle (record { items = calls inner 1 0 blocking ∷ [] })) inner 1 0 low blocking [] refl in
      let outside = call_is_typed (tables_of u last (record { items = calls outer 2 1 nonblocking ∷ [] })) outer 2 1 (codes "f") nonblocking (calls inner 1 0 blocking ∷ []) refl in
      All-cons P lowest (middle ∷ last ∷ []) (function_is low blocking [] blocking_allowed tt refl)
      (All-cons P middle (last ∷ []) (function_is (codes "f") nonblocking (calls inner 1 0 blocking ∷ []) nonblocking_allowed (inside, tt) (calls_are_bare inner 1 0 blocking))
      (All-cons P last [] (function_is root plain (calls outer 2 1 nonblocking ∷ []) plain_allowed (outside, tt) (calls_are_bare outer 2 1 nonblocking)) (All-nil P)))

  all_defined : (number : ℕ) → HasBody (body_in u.functions number) → list_any (nat_eq number) u.definitions ≡ true
  all_defined zero h = refl
  all_defined (suc zero) h = refl
  all_defined (suc (suc zero)) h = refl
  all_defined (suc (suc (suc k))) h = absurd h

  bodies_are : All (λ number. HasBody (body_in u.functions number)) u.definitions
  bodies_are =
      let P : ℕ → Type 0 = λ number. HasBody (body_in u.functions number) in
      All-cons P 0 (1 ∷ 2 ∷ []) tt (All-cons P 1 (2 ∷ []) tt (All-cons P 2 [] tt (All-nil P)))

  pub calling_is_lawful : IsUnit u
  calling_is_lawful = record {
    few_functions = omega arith;
    few_sites = omega arith;
    few_words = omega arith;
    few_thread_words = omega arith;
    few_variables = omega arith;
    few_structures = omega arith;
    functions = functions_are;
    definitions = record { apart = (refl, (refl, (refl, tt))); bodies = bodies_are; all = all_defined };
    sites = calls_numbered low root inner outer;
    structures = All-nil _;
    ranked = record { rank = λ number. 0; falls = λ number. All-nil _ };
    statics = refl;
    thread_locals = refl;
    static_objects = All-nil _;
    thread_objects = All-nil _;
    static_variables = tt;
    thread_variables = tt;
    variable_types = All-nil _;
    variables = λ number info e. let no : ⊥ = cc in absurd no;
    static_values = All-nil _;
    thread_values = All-nil _;
  }
