-- Call sites have low numbers: those of a unit are numbered from 1 on, and are few.
use Rattle.std.proofs.Common.{◌≡◌, refl, sym, subst, ℕ, ◌+◌, ◌^◌, ◌<◌, ◌≤◌, ◌||◌, Bool, true, false, List, [], ◌∷◌, ◌++◌, length, Option, Some, None, nat_eq, arith, slice_get}
use Rattle.std.specs.List.{list_any}
use Rattle.std.specs.Prelude.{flat_map, nat_lt, if◌then◌else◌}
use Rattle.std.proofs.lemmas.Bool.{eqb-true}
use Rattle.core_unit.specs.Places.{Spot, Calls, Uses, Declares, spot_place, used, declared, place_spots, spots, all_spots, optional_spots, initializer_spots, initializers_spots, stmt_spots, stmts_spots, body_spots, placed, in_order, places}
use Rattle.core_unit.specs.Units.{IsUnit, SiteOf, site_of, body_sites, body_in, calls_of, AreNumbered, HasBody}
use Rattle.core_unit.specs.declared.body.Body.{Body}
use Rattle.core_unit.specs.declared.body.Initializer as init
use Rattle.core_unit.specs.declared.body.Initializer.{Initializer, Row_of-Initializer, end_of-Initializer, more_of-Initializer}
use Rattle.core_unit.specs.declared.body.LoopKind.TheVariants as loop_kind
use Rattle.core_unit.specs.declared.body.Stmt as stmt
use Rattle.core_unit.specs.declared.body.Stmt.{Stmt, Row_of-Stmt, end_of-Stmt, more_of-Stmt}
use Rattle.core_unit.specs.declared.expressions.Expr as expr
use Rattle.core_unit.specs.declared.expressions.Expr.{Expr, Row_of-Expr, end_of-Expr, more_of-Expr, end_of-Place, more_of-Place}
use Rattle.core_unit.specs.declared.expressions.Place as place
use Rattle.core_unit.specs.declared.expressions.Place.{Place}
use Rattle.core_unit.specs.declared.expressions.Storage.{Storage}
use Rattle.core_unit.specs.declared.expressions.Storage.TheVariants.{Automatic, Static, ThreadLocal}
use Rattle.core_unit.specs.declared.tables.FunctionInfo.{FunctionInfo}
use Rattle.core_unit.specs.declared.tables.SiteInfo.{SiteInfo}
use Rattle.core_unit.specs.declared.tables.UnitParts.{UnitParts}

-- the calls among these spots have low sites
abbrev pub AreLowSpots : List Spot → Type 0
AreLowSpots [] = Unit {0}
AreLowSpots (Calls at site called ∷ rest) = (site < 2 ^ 20) × AreLowSpots rest
AreLowSpots (Uses at ∷ rest) = AreLowSpots rest
AreLowSpots (Declares at ∷ rest) = AreLowSpots rest

-- The calls in a tree have low sites.
abbrev pub IsSitedPlace : Place → Type 0
IsSitedPlace o = (rest : List Spot) × AreLowSpots (place_spots o rest)

abbrev pub IsSited : Expr → Type 0
IsSited e = (rest : List Spot) × AreLowSpots (spots e rest)

abbrev pub AreSited : {n : _} → Row_of-Expr n → Type 0
AreSited es = (rest : List Spot) × AreLowSpots (all_spots es rest)

-- So have those behind it.
behind_used : (storage : Storage) (at : ℕ) (rest : List Spot) → AreLowSpots (used storage at rest) → AreLowSpots rest
behind_used (Automatic offset) at rest h = h
behind_used (Static address) at rest h = h
behind_used (ThreadLocal offset) at rest h = h

pub behind_declared : (storage : Storage) (at : ℕ) (rest : List Spot) → AreLowSpots (declared storage at rest) → AreLowSpots rest
behind_declared (Automatic offset) at rest h = h
behind_declared (Static address) at rest h = h
behind_declared (ThreadLocal offset) at rest h = h

mutual
  unfolding spots

  pub behind_place : (o : Place) (rest : List Spot) → AreLowSpots (place_spots o rest) → AreLowSpots rest
  behind_place (place.Variable at storage t) rest h = behind_used storage at rest h
  behind_place (place.Text at words) rest h = h
  behind_place (place.Indirection' _ (more_of-Expr e end_of-Expr) t) rest h = behind e rest h
  behind_place (place.Arrow' _ (more_of-Expr e end_of-Expr) structure) rest h = behind e rest h
  behind_place (place.Element' _ (more_of-Expr a end_of-Expr) _ (more_of-Expr b end_of-Expr) side words t) rest h = behind b rest (behind a (spots b rest) h)
  behind_place (place.Member' _ (more_of-Place o end_of-Place) offset t) rest h = behind_place o rest h

  pub behind : (e : Expr) (rest : List Spot) → AreLowSpots (spots e rest) → AreLowSpots rest
  behind (expr.Number sign bits) rest h = h
  behind expr.Null rest h = h
  behind (expr.Sizeof words) rest h = h
  behind (expr.Function function t) rest h = h
  behind (expr.LibraryFunction row) rest h = h
  behind (expr.TargetFunction' _ (more_of-Expr e end_of-Expr)) rest h = behind e rest h
  behind (expr.FunctionPointer' _ (more_of-Expr e end_of-Expr)) rest h = behind e rest h
  behind (expr.ArrayPointer' _ (more_of-Place o end_of-Place)) rest h = behind_place o rest h
  behind (expr.AddressOf' _ (more_of-Place o end_of-Place)) rest h = behind_place o rest h
  behind (expr.Load' _ (more_of-Place o end_of-Place)) rest h = behind_place o rest h
  behind (expr.Assign' _ (more_of-Place o end_of-Place) _ (more_of-Expr e end_of-Expr)) rest h = behind e rest (behind_place o (spots e rest) h)
  behind (expr.Compound' _ (more_of-Place o end_of-Place) how _ (more_of-Expr e end_of-Expr)) rest h = behind e rest (behind_place o (spots e rest) h)
  behind (expr.Step' _ (more_of-Place o end_of-Place) how which) rest h = behind_place o rest h
  behind (expr.Unary' operator _ (more_of-Expr e end_of-Expr)) rest h = behind e rest h
  behind (expr.Binary' operator _ (more_of-Expr a end_of-Expr) _ (more_of-Expr b end_of-Expr)) rest h = behind b rest (behind a (spots b rest) h)
  behind (expr.Logical' operator _ (more_of-Expr a end_of-Expr) _ (more_of-Expr b end_of-Expr)) rest h = behind b rest (behind a (spots b rest) h)
  behind (expr.Conditional' _ (more_of-Expr d end_of-Expr) _ (more_of-Expr a end_of-Expr) _ (more_of-Expr b end_of-Expr)) rest h =
      behind b rest (behind a (spots b rest) (behind d (spots a (spots b rest)) h))
  behind (expr.Comma' _ (more_of-Expr a end_of-Expr) _ (more_of-Expr b end_of-Expr)) rest h = behind b rest (behind a (spots b rest) h)
  behind (expr.Call' at site _ (more_of-Expr e end_of-Expr) _ es) rest h = (behind_all es _ (behind e _ h)).1
  behind (expr.Convert' why t _ (more_of-Expr e end_of-Expr)) rest h = behind e rest h
  behind (expr.Discard' _ (more_of-Expr e end_of-Expr)) rest h = behind e rest h

  pub behind_all : {n : _} (es : Row_of-Expr n) (rest : List Spot) → AreLowSpots (all_spots es rest) → AreLowSpots rest
  behind_all end_of-Expr rest h = h
  behind_all (more_of-Expr e es) rest h = behind_all es rest (behind e (all_spots es rest) h)

pub behind_optional : (e : Option Expr) (rest : List Spot) → AreLowSpots (optional_spots e rest) → AreLowSpots rest
behind_optional None rest h = h
behind_optional (Some e) rest h = behind e rest h

mutual
  unfolding initializer_spots

  pub behind_initializer : (x : Initializer) (rest : List Spot) → AreLowSpots (initializer_spots x rest) → AreLowSpots rest
  behind_initializer (init.Absent count) rest h = h
  behind_initializer (init.Value round e) rest h = behind e rest h
  behind_initializer (init.List' _ inits zeros) rest h = behind_initializers inits rest h
  behind_initializer (init.Text bytes zeros) rest h = h
  behind_initializer (init.Zeros count) rest h = h
  behind_initializer init.Mutex rest h = h

  behind_initializers : {n : _} (xs : Row_of-Initializer n) (rest : List Spot) → AreLowSpots (initializers_spots xs rest) → AreLowSpots rest
  behind_initializers end_of-Initializer rest h = h
  behind_initializers (more_of-Initializer x xs) rest h = behind_initializers xs rest (behind_initializer x (initializers_spots xs rest) h)

mutual
  unfolding stmt_spots

  pub behind_statement : (item : Stmt) (rest : List Spot) → AreLowSpots (stmt_spots item rest) → AreLowSpots rest
  behind_statement (stmt.Block' _ items) rest h = behind_statements items rest h
  behind_statement (stmt.Variable v) rest h = behind_initializer v.initializer rest (behind_declared v.storage v.place (initializer_spots v.initializer rest) h)
  behind_statement stmt.Empty rest h = h
  behind_statement (stmt.Expression e) rest h = behind e rest h
  behind_statement (stmt.If' e _ (more_of-Stmt item end_of-Stmt) _ other) rest h =
      behind_statements other rest (behind_statement item (stmts_spots other rest) (behind e (stmt_spots item (stmts_spots other rest)) h))
  behind_statement (stmt.Loop' loop_kind.While e _ (more_of-Stmt body end_of-Stmt)) rest h = behind_statement body rest (behind e (stmt_spots body rest) h)
  behind_statement (stmt.Loop' loop_kind.DoWhile e _ (more_of-Stmt body end_of-Stmt)) rest h = behind e rest (behind_statement body (spots e rest) h)
  behind_statement (stmt.For' _ start test step _ (more_of-Stmt body end_of-Stmt)) rest h =
      behind_optional step rest (behind_statement body (optional_spots step rest) (behind_optional test _ (behind_statements start _ h)))
  behind_statement stmt.Break rest h = h
  behind_statement stmt.Continue rest h = h
  behind_statement (stmt.Return e) rest h = behind_optional e rest h

  pub behind_statements : {n : _} (items : Row_of-Stmt n) (rest : List Spot) → AreLowSpots (stmts_spots items rest) → AreLowSpots rest
  behind_statements end_of-Stmt rest h = h
  behind_statements (more_of-Stmt item items) rest h = behind_statements items rest (behind_statement item (stmts_spots items rest) h)

-- Calls have lower numbers than this one.
abbrev AreBelow : ℕ → List SiteOf → Type 0
AreBelow n [] = Unit {0}
AreBelow n (call ∷ calls) = (call.number < n) × AreBelow n calls

below_more : (m n : ℕ) (calls : List SiteOf) → m ≡ n → AreBelow m calls → AreBelow n calls
below_more m n calls e h = subst (λ k. AreBelow k calls) e h

numbered_below : (first : ℕ) (calls : List SiteOf) (sites : List SiteInfo) → AreNumbered first calls sites → AreBelow (first + length sites) calls
numbered_below first [] sites h = tt
numbered_below first (call ∷ calls) (site ∷ sites) h =
    (omega (arith, h.0), below_more (first + 1 + length sites) (first + length (site ∷ sites)) calls (omega arith) (numbered_below (first + 1) calls sites h.2))
numbered_below first (call ∷ calls) [] h = absurd h

below_left : (n : ℕ) (a b : List SiteOf) → AreBelow n (a ++ b) → AreBelow n a
below_left n [] b h = tt
below_left n (call ∷ a) b h = (h.0, below_left n a b h.1)

below_right : (n : ℕ) (a b : List SiteOf) → AreBelow n (a ++ b) → AreBelow n b
below_right n [] b h = h
below_right n (call ∷ a) b h = below_right n a b h.1

-- those of one list among many
below_among : (n : ℕ) (f : ℕ → List SiteOf) (functions : List ℕ) (function : ℕ) → list_any (nat_eq function) functions ≡ true → AreBelow n (flat_map f functions) → AreBelow n (f function)
below_among n f [] function there h = let clash : ⊥ = cc in absurd clash
below_among n f (d ∷ ds) function there h = by (nat_eq function d) refl there (λ later. below_among n f ds function later (below_right n (f d) (flat_map f ds) h))
  where
    by : (b : Bool) → nat_eq function d ≡ b → b || list_any (nat_eq function) ds ≡ true → (list_any (nat_eq function) ds ≡ true → AreBelow n (f function)) → AreBelow n (f function)
    by true e later go = subst (λ k. AreBelow n (f k)) (sym (eqb-true function d e)) (below_left n (f d) (flat_map f ds) h)
    by false e later go = go later

low_spots : (n function : ℕ) (ss : List Spot) → n ≤ 2 ^ 20 → AreBelow n (flat_map (site_of function) ss) → AreLowSpots ss
low_spots n function [] few h = tt
low_spots n function (Calls at site called ∷ ss) few h = (omega (arith, few, h.0), low_spots n function ss few h.1)
low_spots n function (Uses at ∷ ss) few h = low_spots n function ss few h
low_spots n function (Declares at ∷ ss) few h = low_spots n function ss few h

-- their order is nothing to this
low_first : (s : Spot) (ss : List Spot) → AreLowSpots (s ∷ []) → AreLowSpots ss → AreLowSpots (s ∷ ss)
low_first (Calls at site called) ss p q = (p.0, q)
low_first (Uses at) ss p q = q
low_first (Declares at) ss p q = q

low_head : (s : Spot) (ss : List Spot) → AreLowSpots (s ∷ ss) → AreLowSpots (s ∷ [])
low_head (Calls at site called) ss h = (h.0, tt)
low_head (Uses at) ss h = tt
low_head (Declares at) ss h = tt

low_tail : (s : Spot) (ss : List Spot) → AreLowSpots (s ∷ ss) → AreLowSpots ss
low_tail (Calls at site called) ss h = h.1
low_tail (Uses at) ss h = h
low_tail (Declares at) ss h = h

low_placed : (s : Spot) (ss : List Spot) → AreLowSpots (placed s ss) → AreLowSpots (s ∷ ss)
low_placed s [] h = h
low_placed s (x ∷ ss) h = by (nat_lt (spot_place x) (spot_place s)) h (λ q. low_placed s ss q)
  where
    by : (b : Bool) → AreLowSpots (if b then x ∷ placed s ss else s ∷ x ∷ ss) → (AreLowSpots (placed s ss) → AreLowSpots (s ∷ ss)) → AreLowSpots (s ∷ x ∷ ss)
    by true h go =
        let rest = go (low_tail x (placed s ss) h) in
        low_first s (x ∷ ss) (low_head s ss rest) (low_first x ss (low_head x (placed s ss) h) (low_tail s ss rest))
    by false h go = h

low_in_order : (ss : List Spot) → AreLowSpots (in_order ss) → AreLowSpots ss
low_in_order [] h = h
low_in_order (s ∷ ss) h =
    let rest = low_placed s (in_order ss) h in low_first s ss (low_head s (in_order ss) rest) (low_in_order ss (low_tail s (in_order ss) rest))

-- The calls in the body of a function of a unit have low sites.
pub body_low : (u : UnitParts) (function : ℕ) (f : FunctionInfo) (body : Body) → IsUnit u → slice_get u.functions function ≡ Some f → f.body ≡ Some body → AreLowSpots (body_spots body)
unfolding places
body_low u function f body lawful known defined =
    low_in_order (body_spots body) (low_spots (1 + length u.sites) function (places body) (omega (arith, lawful.few_sites)) (subst (λ b. AreBelow (1 + length u.sites) (body_sites function b)) is
    (below_among (1 + length u.sites) (λ d. body_sites d (body_in u.functions d)) u.definitions function (lawful.definitions.all function (subst HasBody (sym is) tt))
    (numbered_below 1 (calls_of u) u.sites lawful.sites))))
  where
    is : body_in u.functions function ≡ Some body
    is = rw known defined
