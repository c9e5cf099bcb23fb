-- The spots of a part of a body stand before those of what follows it.
use Rattle.std.proofs.Common.{◌≡◌, refl, sym, ◌∙◌, ap, ℕ, List, [], ◌∷◌, ◌++◌, Option, Some, None, append_assoc}
use denote.Hole.Carrier.{hidden}
use Rattle.core_unit.specs.Places.{Spot, Calls, callee, used, declared, place_spots, spots, all_spots, optional_spots, initializer_spots, initializers_spots, stmt_spots, stmts_spots, list_spots}
use Rattle.core_unit.specs.declared.body.Initializer as init
use Rattle.core_unit.specs.declared.body.Initializer.{Initializer, Row_of-Initializer, end_of-Initializer, more_of-Initializer}
use Rattle.core_unit.specs.declared.body.Initializer.TheBlock.{hidden-the_row-Initializer-0, shape-the_row-Initializer-0}
use Rattle.core_unit.specs.declared.body.Initializer.TheVariants as new_init
use Rattle.core_unit.specs.declared.body.LoopKind.TheVariants.{While, DoWhile}
use Rattle.core_unit.specs.declared.body.Stmt as stmt
use Rattle.core_unit.specs.declared.body.Stmt.{Stmt, Row_of-Stmt, end_of-Stmt, more_of-Stmt}
use Rattle.core_unit.specs.declared.expressions.Expr as expr
use Rattle.core_unit.specs.declared.expressions.Expr.{Expr, Row_of-Expr, end_of-Expr, more_of-Expr, end_of-Place, more_of-Place}
use Rattle.core_unit.specs.declared.expressions.Place as place
use Rattle.core_unit.specs.declared.expressions.Place.{Place}
use Rattle.core_unit.specs.declared.expressions.Storage.{Storage}
use Rattle.core_unit.specs.declared.expressions.Storage.TheVariants.{Automatic, Static, ThreadLocal}

-- what stands before what follows
abbrev pub Joins : (List Spot → List Spot) → Type 0
Joins part = (rest : List Spot) → part rest ≡ part [] ++ rest

-- one part behind the other
both_join : (f g : List Spot → List Spot) → Joins f → Joins g → Joins (λ rest. f (g rest))
both_join f g p q rest = p (g rest) ∙ (ap (λ xs. f [] ++ xs) (q rest) ∙ (sym (append_assoc (f []) (g []) rest) ∙ ap (λ xs. xs ++ rest) (sym (p (g [])))))

used_joins : (storage : Storage) (at : ℕ) → Joins (used storage at)
used_joins (Automatic offset) at rest = refl
used_joins (Static address) at rest = refl
used_joins (ThreadLocal offset) at rest = refl

declared_joins : (storage : Storage) (at : ℕ) → Joins (declared storage at)
declared_joins (Automatic offset) at rest = refl
declared_joins (Static address) at rest = refl
declared_joins (ThreadLocal offset) at rest = refl

mutual
  unfolding spots

  pub place_joins : (p : Place) → Joins (place_spots p)
  place_joins (place.Variable at storage t) rest = used_joins storage at rest
  place_joins (place.Text at words) rest = refl
  place_joins (place.Indirection' _ (more_of-Expr e end_of-Expr) t) rest = spots_join e rest
  place_joins (place.Arrow' _ (more_of-Expr e end_of-Expr) k) rest = spots_join e rest
  place_joins (place.Element' _ (more_of-Expr a end_of-Expr) _ (more_of-Expr b end_of-Expr) side words t) rest =
      both_join (spots a) (spots b) (spots_join a) (spots_join b) rest
  place_joins (place.Member' _ (more_of-Place p end_of-Place) offset t) rest = place_joins p rest

  pub spots_join : (e : Expr) → Joins (spots e)
  spots_join (expr.TargetFunction' _ (more_of-Expr e end_of-Expr)) rest = spots_join e rest
  spots_join (expr.FunctionPointer' _ (more_of-Expr e end_of-Expr)) rest = spots_join e rest
  spots_join (expr.ArrayPointer' _ (more_of-Place p end_of-Place)) rest = place_joins p rest
  spots_join (expr.AddressOf' _ (more_of-Place p end_of-Place)) rest = place_joins p rest
  spots_join (expr.Load' _ (more_of-Place p end_of-Place)) rest = place_joins p rest
  spots_join (expr.Assign' _ (more_of-Place p end_of-Place) _ (more_of-Expr e end_of-Expr)) rest = both_join (place_spots p) (spots e) (place_joins p) (spots_join e) rest
  spots_join (expr.Compound' _ (more_of-Place p end_of-Place) update _ (more_of-Expr e end_of-Expr)) rest =
      both_join (place_spots p) (spots e) (place_joins p) (spots_join e) rest
  spots_join (expr.Step' _ (more_of-Place p end_of-Place) update value) rest = place_joins p rest
  spots_join (expr.Unary' operator _ (more_of-Expr e end_of-Expr)) rest = spots_join e rest
  spots_join (expr.Binary' operator _ (more_of-Expr a end_of-Expr) _ (more_of-Expr b end_of-Expr)) rest = both_join (spots a) (spots b) (spots_join a) (spots_join b) rest
  spots_join (expr.Logical' operator _ (more_of-Expr a end_of-Expr) _ (more_of-Expr b end_of-Expr)) rest = both_join (spots a) (spots b) (spots_join a) (spots_join b) rest
  spots_join (expr.Conditional' _ (more_of-Expr c end_of-Expr) _ (more_of-Expr a end_of-Expr) _ (more_of-Expr b end_of-Expr)) rest =
      both_join (spots c) (λ more. spots a (spots b more)) (spots_join c) (both_join (spots a) (spots b) (spots_join a) (spots_join b)) rest
  spots_join (expr.Comma' _ (more_of-Expr a end_of-Expr) _ (more_of-Expr b end_of-Expr)) rest = both_join (spots a) (spots b) (spots_join a) (spots_join b) rest
  spots_join (expr.Call' at site _ (more_of-Expr c end_of-Expr) _ arguments) rest =
      both_join (spots c) (λ more. all_spots arguments (Calls at site (callee c) ∷ more)) (spots_join c)
      (both_join (all_spots arguments) (λ more. Calls at site (callee c) ∷ more) (all_join arguments) (λ more. refl)) rest
  spots_join (expr.Convert' cause t _ (more_of-Expr e end_of-Expr)) rest = spots_join e rest
  spots_join (expr.Discard' _ (more_of-Expr e end_of-Expr)) rest = spots_join e rest
  spots_join (expr.Number sign bits) rest = refl
  spots_join expr.Null rest = refl
  spots_join (expr.Sizeof words) rest = refl
  spots_join (expr.Function f t) rest = refl
  spots_join (expr.LibraryFunction row) rest = refl

  all_join : {n : _} (es : Row_of-Expr n) → Joins (all_spots es)
  all_join end_of-Expr rest = refl
  all_join (more_of-Expr e es) rest = both_join (spots e) (all_spots es) (spots_join e) (all_join es) rest

pub optional_joins : (e : Option Expr) → Joins (optional_spots e)
optional_joins None rest = refl
optional_joins (Some e) rest = spots_join e rest

mutual
  unfolding initializer_spots

  pub initializer_joins : (i : Initializer) → Joins (initializer_spots i)
  initializer_joins (init.Value form e) rest = spots_join e rest
  initializer_joins (init.List' _ inits zeros) rest = initializers_join inits rest
  initializer_joins (init.Absent words) rest = refl
  initializer_joins (init.Text bytes zeros) rest = refl
  initializer_joins (init.Zeros words) rest = refl
  initializer_joins init.Mutex rest = refl

  initializers_join : {n : _} (is : Row_of-Initializer n) → Joins (initializers_spots is)
  initializers_join end_of-Initializer rest = refl
  initializers_join (more_of-Initializer i is) rest = both_join (initializer_spots i) (initializers_spots is) (initializer_joins i) (initializers_join is) rest

-- those of the parts of a list
abbrev pub listed_spots : List Initializer → List Spot → List Spot
listed_spots [] rest = rest
listed_spots (i ∷ is) rest = initializer_spots i (listed_spots is rest)

row_spots : (is : List Initializer) (rest : List Spot) → initializers_spots (hidden-the_row-Initializer-0 is) rest ≡ listed_spots is rest
unfolding initializer_spots hidden hidden-the_row-Initializer-0 shape-the_row-Initializer-0
row_spots [] rest = refl
row_spots (i ∷ is) rest = ap (initializer_spots i) (row_spots is rest)

pub list_spots_are : (is : List Initializer) (filled : ℕ) (rest : List Spot) → initializer_spots (new_init.List is filled) rest ≡ listed_spots is rest
unfolding initializer_spots hidden hidden-the_row-Initializer-0 shape-the_row-Initializer-0
list_spots_are is filled rest = row_spots is rest

-- one part more
pub listed_more : (is : List Initializer) (i : Initializer) → listed_spots (is ++ i ∷ []) [] ≡ listed_spots is [] ++ initializer_spots i []
listed_more [] i = refl
listed_more (x ∷ xs) i =
    ap (initializer_spots x) (listed_more xs i) ∙ (initializer_joins x (listed_spots xs [] ++ initializer_spots i [])
    ∙ (sym (append_assoc (initializer_spots x []) (listed_spots xs []) (initializer_spots i []))
    ∙ ap (λ ys. ys ++ initializer_spots i []) (sym (initializer_joins x (listed_spots xs [])))))

mutual
  unfolding stmt_spots

  pub stmt_joins : (s : Stmt) → Joins (stmt_spots s)
  stmt_joins (stmt.Block' _ items) rest = stmts_join items rest
  stmt_joins (stmt.Variable v) rest =
      both_join (declared v.storage v.place) (initializer_spots v.initializer) (declared_joins v.storage v.place) (initializer_joins v.initializer) rest
  stmt_joins (stmt.Expression e) rest = spots_join e rest
  stmt_joins (stmt.If' c _ (more_of-Stmt s end_of-Stmt) _ other) rest =
      both_join (spots c) (λ more. stmt_spots s (stmts_spots other more)) (spots_join c) (both_join (stmt_spots s) (stmts_spots other) (stmt_joins s) (stmts_join other)) rest
  stmt_joins (stmt.Loop' While c _ (more_of-Stmt s end_of-Stmt)) rest = both_join (spots c) (stmt_spots s) (spots_join c) (stmt_joins s) rest
  stmt_joins (stmt.Loop' DoWhile c _ (more_of-Stmt s end_of-Stmt)) rest = both_join (stmt_spots s) (spots c) (stmt_joins s) (spots_join c) rest
  stmt_joins (stmt.For' _ start test step _ (more_of-Stmt s end_of-Stmt)) rest =
      both_join (stmts_spots start) (λ more. optional_spots test (stmt_spots s (optional_spots step more))) (stmts_join start)
      (both_join (optional_spots test) (λ more. stmt_spots s (optional_spots step more)) (optional_joins test)
      (both_join (stmt_spots s) (optional_spots step) (stmt_joins s) (optional_joins step))) rest
  stmt_joins (stmt.Return e) rest = optional_joins e rest
  stmt_joins stmt.Empty rest = refl
  stmt_joins stmt.Break rest = refl
  stmt_joins stmt.Continue rest = refl

  stmts_join : {n : _} (ss : Row_of-Stmt n) → Joins (stmts_spots ss)
  stmts_join end_of-Stmt rest = refl
  stmts_join (more_of-Stmt s ss) rest = both_join (stmt_spots s) (stmts_spots ss) (stmt_joins s) (stmts_join ss) rest

pub list_joins : (ss : List Stmt) → Joins (list_spots ss)
list_joins [] rest = refl
list_joins (s ∷ ss) rest = both_join (stmt_spots s) (list_spots ss) (stmt_joins s) (list_joins ss) rest

-- those of two lists
pub lists_joined : (ss more : List Stmt) → list_spots (ss ++ more) [] ≡ list_spots ss [] ++ list_spots more []
lists_joined [] more = refl
lists_joined (s ∷ ss) more =
    ap (stmt_spots s) (lists_joined ss more) ∙ (stmt_joins s (list_spots ss [] ++ list_spots more [])
    ∙ (sym (append_assoc (stmt_spots s []) (list_spots ss []) (list_spots more []))
    ∙ ap (λ ys. ys ++ list_spots more []) (sym (stmt_joins s (list_spots ss [])))))
