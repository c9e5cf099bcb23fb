-- The calls of a statement have consecutive numbers, in the order in which its parts stand.
use Rattle.std.proofs.Common.{◌≡◌, ℕ, ◌≤◌, Bool, true, false, refl, sym, ◌∙◌, ap, subst, List, [], ◌∷◌, ◌++◌, Option, Some, None, arith, append_assoc}
use Rattle.std.proofs.lemmas.List.{append-nil}
use Rattle.std.specs.Prelude.{not, ◌&&◌, is_some, ◌||◌, if◌then◌else◌}
use Rattle.eff_types.specs.Types.{is_void, is_function}
use Rattle.eff_types.specs.declared.types.CType.{CType}
use Rattle.c_tree.specs.declared.declarations.Decl.{Decl}
use Rattle.c_tree.specs.declared.declarations.Init.{Init}
use Rattle.c_tree.specs.declared.declarations.InitDeclarator.{InitDeclarator}
use Rattle.c_tree.specs.declared.expressions.Expr as tree
use Rattle.c_tree.specs.declared.expressions.Spec.{Spec}
use Rattle.c_tree.specs.declared.statements.BlockItem as item
use Rattle.c_tree.specs.declared.statements.BlockItem.{BlockItem}
use Rattle.c_tree.specs.declared.statements.ForStart.{ForStart}
use Rattle.c_tree.specs.declared.statements.ForStart.TheVariants as start
use Rattle.c_tree.specs.declared.statements.Stmt as written
use Rattle.c_tree.specs.declared.statements.Stmt.{Row_of-BlockItem, end_of-BlockItem, more_of-BlockItem, end_of-Stmt, more_of-Stmt, Held-Stmt-If-3}
use Rattle.c_tree.specs.declared.words.Span.{Span}
use Rattle.tree_order.specs.Stands.{Then, Behind, ExprStands, OptionalStands, InitStands, InitialStands, DeclaratorsStand, DeclStands, StartStands, StmtStands, ElseStands, ItemStands, ItemsStand, ListStands}
use Rattle.core_unit.proofs.StatementEquations.{spots-Block, spots-Variable, spots-If, spots-While, spots-DoWhile, spots-For, spots-Return}
use Rattle.core_unit.specs.Places.{Spot, declared as declared_spots, spots, optional_spots, initializer_spots, stmt_spots, list_spots}
use Rattle.core_unit.specs.Shapes.{is_scalar, is_unsized}
use Rattle.core_unit.specs.Typed.{where_in}
use Rattle.core_unit.specs.declared.body.Initializer.{Initializer}
use Rattle.core_unit.specs.declared.body.Initializer.TheVariants as init
use Rattle.core_unit.specs.declared.body.LocalVariable.{LocalVariable}
use Rattle.core_unit.specs.declared.body.LoopKind.TheVariants.{While, DoWhile}
use Rattle.core_unit.specs.declared.body.Stmt.{Stmt}
use Rattle.core_unit.specs.declared.body.Stmt.TheVariants as stmt
use Rattle.core_unit.specs.declared.expressions.Expr.{Expr}
use Rattle.core_unit.specs.declared.expressions.Storage.{Storage}
use Rattle.core_unit.specs.declared.expressions.Storage.TheVariants.{Automatic, Static, ThreadLocal}
use Rattle.type_rules.specs.Conversions.{converted}
use Rattle.type_rules.specs.Declarations.{Named, all_specifiers, sized, sized_by, is_attributed, is_bare, with_size, array_completed, named_at, init_declarator, init_declarators, declaration, block_duration, block_initializer, block_words, block_kept, block_initialized, block_name, block_declaration, is_mistyped}
use Rattle.type_rules.specs.InitialValues.{initial_values}
use Rattle.type_rules.specs.Initializers.{static_initializer, initial_size}
use Rattle.type_rules.specs.Operands.{operand}
use Rattle.type_rules.specs.Reading.{Read, Good, Bad, and_then, name_number, scoped, where_written}
use Rattle.type_rules.specs.Recursion.{specifier, declarator, expression}
use Rattle.type_rules.specs.Seen.{Seen}
use Rattle.type_rules.specs.Specifiers.{no_specifiers}
use Rattle.type_rules.specs.Statements.{evaluated, condition, expression_or_nothing, expression_statement, block, selection_of, selection, while_loop, do_loop, started, for_start, for_turns, for_loop, returned_as, returned, with_items, alone, jump, statement, otherwise, block_item, items_behind, list_behind, block_items}
use Rattle.type_rules.specs.Storage.{kept_for, initially}
use Rattle.type_rules.specs.declared.declarators.Made.{Made}
use Rattle.type_rules.specs.declared.declarators.Shape.{Shape}
use Rattle.type_rules.specs.declared.durations.Duration.{Duration}
use Rattle.type_rules.specs.declared.durations.Duration.TheVariants.{Automatic as IsAutomatic, Static as IsStatic, ThreadLocal as IsThreadLocal}
use Rattle.type_rules.specs.declared.names.Entity.{Entity}
use Rattle.type_rules.specs.declared.names.Entity.TheVariants.{Variable}
use Rattle.type_rules.specs.declared.notes.Initial.{Initial}
use Rattle.type_rules.specs.declared.specifiers.Specifiers.{Specifiers}
use Rattle.type_laws.proofs.Numbered.{Reads, IsIdle, then_reads, then_idle, gives_reads, refused_reads, reads_as, operand_spots, moved}
use Rattle.type_laws.proofs.NumberedCalls.{IsMore}
use Rattle.type_laws.proofs.NumberedInitializers.{IsInitial, initial_spots, init_far, initialized_reads}
use Rattle.type_laws.proofs.NumberedOperators.{ReadsFrom, operand_reads, converted_reads}
use Rattle.type_laws.proofs.NumberedTrees.{expression_reads, specifier_idle, declarator_idle}
use Rattle.type_laws.proofs.NumberedTypes.{AlwaysIdle, faults_reads}
use Rattle.type_laws.proofs.Progress.{Progress, progress, RunAt, none_at, behind_at, joined_at, crossed_at, declared_at}
use Rattle.type_laws.proofs.SiteRanges.{AtMost}
use Rattle.type_laws.proofs.SpotsJoined.{spots_join, optional_joins, stmt_joins, list_joins, lists_joined}
use Rattle.scopes.specs.Scope.{found_here}
use Rattle.type_rules.specs.Types.{is_incomplete}
use Rattle.type_rules.specs.declared.found.Operand.{Operand}

abbrev expr_alone : Expr → List Spot
expr_alone e = spots e []

abbrev optional_alone : Option Expr → List Spot
optional_alone e = optional_spots e []

abbrev pub stmt_alone : Stmt → List Spot
stmt_alone s = stmt_spots s []

abbrev pub list_alone : List Stmt → List Spot
list_alone ss = list_spots ss []

-- declarations
pub all_specifiers_idle : (specs : List Spec) (b : Specifiers) → AlwaysIdle (all_specifiers specs b)
unfolding and_then
all_specifiers_idle [] b s = gives_reads s b refl
all_specifiers_idle (x ∷ xs) b s = then_idle (progress s) (specifier x b s) _ (specifier_idle x b s) (λ next t. all_specifiers_idle xs next t)

pub sized_idle : (i : Option Init) (t : CType) → AlwaysIdle (sized i t)
unfolding and_then initial_size
sized_idle None t s = gives_reads s t refl
sized_idle (Some i) t s = of (is_unsized t)
  where
    of : (unsized : Bool) → IsIdle (progress s) (sized_by i t unsized s)
    of true = record { holds = refl }
    of false = gives_reads s t refl

pub kept_idle : (duration : Duration) (words : ℕ) (variable : Option ℕ) → AlwaysIdle (kept_for duration words variable)
unfolding and_then
kept_idle IsAutomatic words variable s = record { holds = refl }
kept_idle IsStatic words variable s = record { holds = refl }
kept_idle IsThreadLocal words variable s = record { holds = refl }

pub initially_idle : (storage : Storage) (values : List Initial) → AlwaysIdle (initially storage values)
initially_idle (Automatic offset) values s = record { holds = refl }
initially_idle (Static address) values s = record { holds = refl }
initially_idle (ThreadLocal offset) values s = record { holds = refl }

with_size_idle : (t : CType) (name : ℕ) (here : Option Entity) → AlwaysIdle (with_size t name here)
with_size_idle t name (Some (Variable u storage number)) s = record { holds = refl }
with_size_idle t name here s = record { holds = refl }

pub completed_idle : (number : ℕ) (t : CType) (unsized : Bool) → AlwaysIdle (array_completed number t unsized)
unfolding and_then
completed_idle number t true s = with_size_idle t number _ s
completed_idle number t false s = gives_reads s tt refl

block_words_idle : (name : Span) (number : ℕ) (m : Made) (t : CType) → AlwaysIdle (block_words name number m t)
unfolding and_then
block_words_idle name number m t s =
    faults_reads s (is_some (found_here s.scopes number)) (is_mistyped m || is_function t) m.conflicting (m.incomplete || is_incomplete s.structures t) name.start _
    (record { holds = refl })

block_kept_idle : (number : ℕ) (duration : Duration) (t : CType) (words : ℕ) → AlwaysIdle (block_kept number duration t words)
unfolding and_then
block_kept_idle number duration t words s =
    then_reads (kept_for duration words None s) _ (kept_idle duration words None s) (λ storage v e. record { holds = e })

initial_far : (i : Option Init) (from to : ℕ) → InitialStands i from to → from ≤ to
initial_far None from to h = h
initial_far (Some i) from to h = let begin = h.1 in let rest = init_far i h.0 to h.2 in omega (arith, begin, rest)

-- an initializer behind its declarator
read_initial : (fixed : Bool) (i : Init) (t : CType) (s : Seen) (r : Read Initializer) → Reads initial_spots (IsInitial fixed (InitStands i) (progress s)) r
    → Reads initial_spots (RunAt (InitialStands (Some i)) (progress s)) r
read_initial fixed i t s r h = reads_as r h (λ given m p. behind_at (InitStands i) (progress s) (initial_spots given) m p.run)

held : (t : CType) (i : Init) (storage : Storage) (s : Seen)
    → Reads initial_spots (RunAt (InitialStands (Some i)) (progress s)) (and_then (static_initializer t i s) (λ given v. and_then (initially storage (initial_values (where_in storage) given) v) (λ _ w. Good given w)))
held t i storage s =
    then_reads (static_initializer t i s) _ (read_initial true i t s _ (initialized_reads i true t s)) (λ given v p.
    then_reads (initially storage (initial_values (where_in storage) given) v) _ (initially_idle storage (initial_values (where_in storage) given) v) (λ a w e.
    gives_reads w given (moved (RunAt (InitialStands (Some i)) (progress s)) (initial_spots given) (progress v) (progress w) e p)))

block_initializer_reads : (duration : Duration) (t : CType) (i : Option Init) (storage : Storage) (words : ℕ) (s : Seen)
    → Reads initial_spots (RunAt (InitialStands i) (progress s)) (block_initializer duration t i storage words s)
unfolding initializer_spots and_then
block_initializer_reads IsAutomatic t None storage words s = gives_reads s (init.Absent words) (none_at AtMost (progress s) (λ from to h. h))
block_initializer_reads IsAutomatic t (Some i) storage words s = read_initial false i t s _ (initialized_reads i false t s)
block_initializer_reads IsStatic t None storage words s = gives_reads s (init.Absent words) (none_at AtMost (progress s) (λ from to h. h))
block_initializer_reads IsStatic t (Some i) storage words s = held t i storage s
block_initializer_reads IsThreadLocal t None storage words s = gives_reads s (init.Absent words) (none_at AtMost (progress s) (λ from to h. h))
block_initializer_reads IsThreadLocal t (Some i) storage words s = held t i storage s

block_initialized_reads : (number : ℕ) (duration : Duration) (unsized : Bool) (t : CType) (i : Option Init) (storage : Storage) (words : ℕ) (s : Seen)
    → Reads initial_spots (RunAt (InitialStands i) (progress s)) (block_initialized number duration unsized t i storage words s)
unfolding and_then
block_initialized_reads number duration unsized t i storage words s =
    then_reads (block_initializer duration t i storage words s) _ (block_initializer_reads duration t i storage words s) (λ given v p.
    then_reads (array_completed number t unsized v) _ (completed_idle number t unsized v) (λ a w e.
    gives_reads w given (moved (RunAt (InitialStands i) (progress s)) (initial_spots given) (progress v) (progress w) e p)))

abbrev variable_of : Span → Storage → CType → Initializer → LocalVariable
variable_of name storage t i = record { place = name.start; storage = storage; kind = t; initializer = i }

variable_alone : (name : Span) (storage : Storage) (t : CType) (i : Initializer)
    → list_alone (stmt.Variable (variable_of name storage t i) ∷ []) ≡ declared_spots storage name.start (initial_spots i)
variable_alone name storage t i = spots-Variable [] (variable_of name storage t i)

block_name_reads : (d : Named) (s : Seen) → Reads list_alone (RunAt (InitialStands d.init) (progress s)) (block_name d s)
unfolding block_name and_then
block_name_reads d s =
    then_reads (sized d.init d.made.kind s) _ (sized_idle d.init d.made.kind s) (λ t v e.
    then_reads (block_words d.name d.number d.made t v) _ (block_words_idle d.name d.number d.made t v) (λ words w f.
    then_reads (block_kept d.number (block_duration d.specifiers) d.made.kind words w) _ (block_kept_idle d.number (block_duration d.specifiers) d.made.kind words w) (λ storage x g.
    then_reads (block_initialized d.number (block_duration d.specifiers) (is_unsized d.made.kind) t d.init storage words x) _
    (block_initialized_reads d.number (block_duration d.specifiers) (is_unsized d.made.kind) t d.init storage words x) (λ i y p.
    gives_reads y (stmt.Variable (variable_of d.name storage t i) ∷ []) (subst (λ xs. RunAt (InitialStands d.init) (progress s) xs (progress y)) (sym (variable_alone d.name storage t i))
    (declared_at (InitialStands d.init) (progress s) (initial_spots i) (progress y) storage d.name.start
    (subst (λ n. RunAt (InitialStands d.init) n (initial_spots i) (progress y)) (g ∙ f ∙ e) p)))))))

more_given : (first rest : ℕ → ℕ → Type 0) (n : Progress) (here others : List Stmt) (m : Progress) (s : Seen) → RunAt first n (list_alone here) m
    → RunAt rest m (list_alone others) (progress s) → Reads list_alone (RunAt (Then first rest) n) (Good (here ++ others) s)
more_given first rest n here others m s p q = record {
  holds = subst (λ xs. RunAt (Then first rest) n xs (progress s)) (sym (lists_joined here others)) (joined_at first rest n (list_alone here) (list_alone others) m (progress s) p q);
}

-- declarators, each with what its initializer reads
module _ (next : Named → Seen → Read (List Stmt)) (reads : (d : Named) (s : Seen) → Reads list_alone (RunAt (InitialStands d.init) (progress s)) (next d s)) where
  named_reads : (b : Specifiers) (d : Shape) (i : Option Init) (name : Option Span) (s : Seen) → Reads list_alone (RunAt (InitialStands i) (progress s)) (named_at b d i next name s)
  unfolding name_number and_then
  named_reads b d i None s = gives_reads s [] (none_at (InitialStands i) (progress s) (initial_far i))
  named_reads b d i (Some name) s = reads _ _

  declarator_reads : (b : Specifiers) (d : InitDeclarator) (s : Seen) → Reads list_alone (RunAt (InitialStands d.init) (progress s)) (init_declarator b next d s)
  unfolding init_declarator and_then
  declarator_reads b d s =
      then_reads (declarator d.declarator s) _ (declarator_idle d.declarator s) (λ shape t e.
      reads_as _ (named_reads b shape d.init shape.name t) (λ ss m p. subst (λ n. RunAt (InitialStands d.init) n (list_alone ss) m) e p))

  declarators_read : (b : Specifiers) (ds : List InitDeclarator) (s : Seen) → Reads list_alone (RunAt (DeclaratorsStand ds) (progress s)) (init_declarators b next ds s)
  unfolding and_then
  declarators_read b [] s = gives_reads s [] (none_at AtMost (progress s) (λ from to h. h))
  declarators_read b (d ∷ ds) s =
      then_reads (init_declarator b next d s) (λ here t. and_then (init_declarators b next ds t) (λ others v. Good (here ++ others) v)) (declarator_reads b d s) (λ here t p.
      then_reads (init_declarators b next ds t) (λ others v. Good (here ++ others) v) (declarators_read b ds t) (λ others v q.
      more_given (InitialStands d.init) (DeclaratorsStand ds) (progress s) here others (progress t) v p q))

  declaration_reads : (d : Decl) (s : Seen) → Reads list_alone (RunAt (DeclStands d) (progress s)) (declaration next d s)
  unfolding declaration DeclStands and_then
  declaration_reads d s =
      then_reads (all_specifiers d.specs no_specifiers s) _ (all_specifiers_idle d.specs no_specifiers s) (λ b t e.
      refused_reads t (is_bare d.declarators && is_attributed b) 3 d.place _ (λ f.
      reads_as _ (declarators_read b d.declarators t) (λ ss m p. subst (λ n. RunAt (DeclaratorsStand d.declarators) n (list_alone ss) m) e p)))

pub block_declaration_reads : (d : Decl) (s : Seen) → Reads list_alone (RunAt (DeclStands d) (progress s)) (block_declaration d s)
unfolding block_declaration
block_declaration_reads d s = declaration_reads block_name block_name_reads d s

-- expressions in statements
node_given : (stands : ℕ → ℕ → Type 0) (n : Progress) (o : Operand) (s : Seen) → RunAt stands n (operand_spots o) (progress s)
    → Reads expr_alone (RunAt stands n) (Good o.node s)
node_given stands n o s p = record { holds = p }

evaluated_reads : (e : tree.Expr) → ReadsFrom expr_alone (RunAt (ExprStands e)) (evaluated e)
unfolding evaluated and_then
evaluated_reads e s =
    then_reads (operand (expression e) s) (λ o t. Good o.node t) (operand_reads (RunAt (ExprStands e) (progress s)) (expression e) s (expression_reads e s)) (λ o t p.
    node_given (ExprStands e) (progress s) o t p)

condition_reads : (e : tree.Expr) → ReadsFrom expr_alone (RunAt (ExprStands e)) (condition e)
unfolding condition and_then
condition_reads e s =
    then_reads (operand (expression e) s) (λ o t. and_then (if not (is_scalar o.kind) then Bad 3 o.place else Good tt t) (λ a v. Good o.node v))
    (operand_reads (RunAt (ExprStands e) (progress s)) (expression e) s (expression_reads e s)) (λ o t p.
    refused_reads t (not (is_scalar o.kind)) 3 o.place (λ a v. Good o.node v) (λ f. node_given (ExprStands e) (progress s) o t p))

optional_reads : (rule : tree.Expr → Seen → Read Expr) → ((e : tree.Expr) → ReadsFrom expr_alone (RunAt (ExprStands e)) (rule e)) → (e : Option (tree.Expr))
    → ReadsFrom optional_alone (RunAt (OptionalStands e)) (where_written e rule)
unfolding and_then
optional_reads rule reads None s = gives_reads s None (none_at AtMost (progress s) (λ from to h. h))
optional_reads rule reads (Some e) s = then_reads (rule e s) _ (reads e s) (λ x t p. gives_reads t (Some x) p)

statement_of : (x : Option Expr) → stmt_alone (expression_or_nothing x) ≡ optional_alone x
unfolding stmt_spots
statement_of None = refl
statement_of (Some y) = refl

expression_statement_reads : (e : Option (tree.Expr)) → ReadsFrom stmt_alone (RunAt (OptionalStands e)) (expression_statement e)
unfolding expression_statement and_then
expression_statement_reads e s =
    then_reads (where_written e evaluated s) _ (optional_reads evaluated evaluated_reads e s) (λ x t p.
    gives_reads t (expression_or_nothing x) (subst (λ xs. RunAt (OptionalStands e) (progress s) xs (progress t)) (sym (statement_of x)) p))

-- a scope of its own
pub scoped_reads : {A : Type 0} (f : A → List Spot) (Q : Progress → List Spot → Progress → Type 0) (rule : Seen → Read A) → ReadsFrom f Q rule → ReadsFrom f Q (scoped rule)
unfolding scoped and_then
scoped_reads f Q rule reads s =
    then_reads (rule (record s { scopes = [] ∷ s.scopes })) _ (reads (record s { scopes = [] ∷ s.scopes })) (λ a t p. record { holds = p })

block_given : (stands : ℕ → ℕ → Type 0) (n : Progress) (inner : List Stmt) (m : Progress) → RunAt stands n (list_alone inner) m → RunAt (Behind stands) n (stmt_alone (stmt.Block inner)) m
block_given stands n inner m p = subst (λ xs. RunAt (Behind stands) n xs m) (sym (spots-Block [] inner)) (behind_at stands n (list_alone inner) m p)

block_reads : (stands : ℕ → ℕ → Type 0) (items : Seen → Read (List Stmt)) → ReadsFrom list_alone (RunAt stands) items → ReadsFrom stmt_alone (RunAt (Behind stands)) (block items)
unfolding block and_then
block_reads stands items reads s =
    then_reads (scoped items s) (λ inner t. Good (stmt.Block inner) t) (scoped_reads list_alone (RunAt stands) items reads s) (λ inner t p.
    gives_reads t (stmt.Block inner) (block_given stands (progress s) inner (progress t) p))

while_is : (test : Expr) (x : Stmt) → stmt_alone (stmt.Loop While test x) ≡ expr_alone test ++ stmt_alone x
while_is test x = spots-While [] test x ∙ spots_join test (stmt_alone x)

do_is : (test : Expr) (x : Stmt) → stmt_alone (stmt.Loop DoWhile test x) ≡ stmt_alone x ++ expr_alone test
do_is test x = spots-DoWhile [] test x ∙ stmt_joins x (expr_alone test)

module _ (c : tree.Expr) (stands : ℕ → ℕ → Type 0) where
  selection_reads : (other : ℕ → ℕ → Type 0) (then_read : Seen → Read Stmt) (else_read : Seen → Read (List Stmt)) → ReadsFrom stmt_alone (RunAt stands) then_read → ReadsFrom list_alone (RunAt other) else_read
      → ReadsFrom stmt_alone (RunAt (Behind (Then (ExprStands c) (Then stands other)))) (selection c then_read else_read)
  unfolding selection selection_of and_then
  selection_reads other then_read else_read reads more s =
      then_reads (condition c s) _ (condition_reads c s) (λ test t p.
      then_reads (then_read t) _ (reads t) (λ x v q.
      then_reads (else_read v) _ (more v) (λ ys w r.
      gives_reads w (stmt.If test x ys) (subst (λ xs. RunAt (Behind (Then (ExprStands c) (Then stands other))) (progress s) xs (progress w)) (sym (is test x ys))
      (behind_at (Then (ExprStands c) (Then stands other)) (progress s) (expr_alone test ++ (stmt_alone x ++ list_alone ys)) (progress w)
      (joined_at (ExprStands c) (Then stands other) (progress s) (expr_alone test) (stmt_alone x ++ list_alone ys) (progress t) (progress w) p
      (joined_at stands other (progress t) (stmt_alone x) (list_alone ys) (progress v) (progress w) q r)))))))
    where
      is : (test : Expr) (x : Stmt) (ys : List Stmt) → stmt_alone (stmt.If test x ys) ≡ expr_alone test ++ (stmt_alone x ++ list_alone ys)
      is test x ys = spots-If [] test x ys ∙ (spots_join test (stmt_spots x (list_alone ys)) ∙ ap (λ zs. expr_alone test ++ zs) (stmt_joins x (list_alone ys)))

  while_given : (test : Expr) (x : Stmt) (n m : Progress) (s : Seen) → RunAt (ExprStands c) n (expr_alone test) m → RunAt stands m (stmt_alone x) (progress s)
      → Reads stmt_alone (RunAt (Behind (Then (ExprStands c) stands)) n) (Good (stmt.Loop While test x) s)
  while_given test x n m s p q = record {
    holds = subst (λ xs. RunAt (Behind (Then (ExprStands c) stands)) n xs (progress s)) (sym (while_is test x))
        (behind_at (Then (ExprStands c) stands) n (expr_alone test ++ stmt_alone x) (progress s)
        (joined_at (ExprStands c) stands n (expr_alone test) (stmt_alone x) m (progress s) p q));
  }

  while_reads : (body : Seen → Read Stmt) → ReadsFrom stmt_alone (RunAt stands) body → ReadsFrom stmt_alone (RunAt (Behind (Then (ExprStands c) stands))) (while_loop c body)
  unfolding while_loop and_then
  while_reads body reads s =
      then_reads (condition c s) (λ test t. and_then (body t) (λ x v. Good (stmt.Loop While test x) v)) (condition_reads c s) (λ test t p.
      then_reads (body t) (λ x v. Good (stmt.Loop While test x) v) (reads t) (λ x v q. while_given test x (progress s) (progress t) v p q))

  do_given : (test : Expr) (x : Stmt) (n m : Progress) (s : Seen) → RunAt stands n (stmt_alone x) m → RunAt (ExprStands c) m (expr_alone test) (progress s)
      → Reads stmt_alone (RunAt (Behind (Then stands (ExprStands c))) n) (Good (stmt.Loop DoWhile test x) s)
  do_given test x n m s p q = record {
    holds = subst (λ xs. RunAt (Behind (Then stands (ExprStands c))) n xs (progress s)) (sym (do_is test x))
        (behind_at (Then stands (ExprStands c)) n (stmt_alone x ++ expr_alone test) (progress s)
        (joined_at stands (ExprStands c) n (stmt_alone x) (expr_alone test) m (progress s) p q));
  }

  do_reads : (body : Seen → Read Stmt) → ReadsFrom stmt_alone (RunAt stands) body → ReadsFrom stmt_alone (RunAt (Behind (Then stands (ExprStands c)))) (do_loop c body)
  unfolding do_loop and_then
  do_reads body reads s =
      then_reads (body s) (λ x t. and_then (condition c t) (λ test v. Good (stmt.Loop DoWhile test x) v)) (reads s) (λ x t p.
      then_reads (condition c t) (λ test v. Good (stmt.Loop DoWhile test x) v) (condition_reads c t) (λ test v q. do_given test x (progress s) (progress t) v p q))

started_spots : (x : Option Expr) → list_alone (started x) ≡ optional_alone x
unfolding stmt_spots
started_spots None = refl
started_spots (Some y) = refl

-- `for`: its step stands before its body, and is evaluated behind it
start_reads : (begin : ForStart) → ReadsFrom list_alone (RunAt (StartStands begin)) (for_start begin)
unfolding and_then
start_reads (start.Declaration d) s = block_declaration_reads d s
start_reads (start.Expression e) s =
    then_reads (where_written e evaluated s) _ (optional_reads evaluated evaluated_reads e s) (λ x t p.
    gives_reads t (started x) (subst (λ xs. RunAt (OptionalStands e) (progress s) xs (progress t)) (sym (started_spots x)) p))

module _ (begin : ForStart) (c next : Option (tree.Expr)) (stands : ℕ → ℕ → Type 0) (body : Seen → Read Stmt) (reads : ReadsFrom stmt_alone (RunAt stands) body) where
  abbrev Turns : ℕ → ℕ → Type 0
  Turns = Then (OptionalStands c) (Then (OptionalStands next) stands)

  for_is : (first : List Stmt) (test turn : Option Expr) (x : Stmt)
      → stmt_alone (stmt.For first test turn x) ≡ list_alone first ++ (optional_alone test ++ (stmt_alone x ++ optional_alone turn))
  for_is first test turn x =
      spots-For [] first test turn x ∙ (list_joins first (optional_spots test (stmt_spots x (optional_alone turn)))
      ∙ ap (λ zs. list_alone first ++ zs) (optional_joins test (stmt_spots x (optional_alone turn)) ∙ ap (λ zs. optional_alone test ++ zs) (stmt_joins x (optional_alone turn))))

  turns_read : (first : List Stmt) (n : Progress) (s : Seen) → RunAt (StartStands begin) n (list_alone first) (progress s)
      → Reads stmt_alone (RunAt (Then (StartStands begin) Turns) n) (for_turns first c next body s)
  unfolding for_turns and_then
  turns_read first n s begun =
      then_reads (where_written c condition s) _ (optional_reads condition condition_reads c s) (λ test t p.
      then_reads (where_written next evaluated t) _ (optional_reads evaluated evaluated_reads next t) (λ turn v q.
      then_reads (body v) _ (reads v) (λ x w r.
      gives_reads w (stmt.For first test turn x) (subst (λ xs. RunAt (Then (StartStands begin) Turns) n xs (progress w)) (sym (for_is first test turn x))
      (joined_at (StartStands begin) Turns n (list_alone first) (optional_alone test ++ (stmt_alone x ++ optional_alone turn)) (progress s) (progress w) begun
      (joined_at (OptionalStands c) (Then (OptionalStands next) stands) (progress s) (optional_alone test) (stmt_alone x ++ optional_alone turn) (progress t) (progress w) p
      (crossed_at (OptionalStands next) stands (progress t) (optional_alone turn) (stmt_alone x) (progress v) (progress w) q r)))))))

  for_reads : ReadsFrom stmt_alone (RunAt (Behind (Then (StartStands begin) Turns))) (for_loop begin c next body)
  unfolding for_loop
  for_reads s =
      reads_as _ (scoped_reads stmt_alone (RunAt (Then (StartStands begin) Turns)) _ inner s) (λ x m p.
      behind_at (Then (StartStands begin) Turns) (progress s) (stmt_alone x) m p)
    where
      inner : ReadsFrom stmt_alone (RunAt (Then (StartStands begin) Turns)) (λ s. and_then (for_start begin s) (λ first t. for_turns first c next body t))
      inner s = then_reads (for_start begin s) _ (start_reads begin s) (λ first t p. turns_read first (progress s) t p)

-- `return`
nothing_given : (n : Progress) → RunAt (Behind AtMost) n (stmt_alone (stmt.Return None)) n
nothing_given n = subst (λ xs. RunAt (Behind AtMost) n xs n) (sym (spots-Return [] None)) (behind_at AtMost n [] n (none_at AtMost n (λ from to h. h)))

value_given : (stands : ℕ → ℕ → Type 0) (n : Progress) (v : Operand) (xs : List Spot) (m : Progress) → operand_spots v ≡ xs → RunAt stands n xs m
    → RunAt (Behind stands) n (stmt_alone (stmt.Return (Some v.node))) m
value_given stands n v xs m is p =
    subst (λ ys. RunAt (Behind stands) n ys m) (sym (spots-Return [] (Some v.node) ∙ is)) (behind_at stands n xs m p)

returned_reads : (place : ℕ) (e : Option (tree.Expr)) → ReadsFrom stmt_alone (RunAt (Behind (OptionalStands e))) (returned place e)
unfolding returned and_then
returned_reads place e s = of s.result e
  where
    of : (result : CType) (e : Option (tree.Expr)) → Reads stmt_alone (RunAt (Behind (OptionalStands e)) (progress s)) (returned_as place result e s)
    of result (Some e) =
        then_reads (operand (expression e) s) _ (operand_reads (RunAt (ExprStands e) (progress s)) (expression e) s (expression_reads e s)) (λ o t p.
        refused_reads t (is_void result) 3 o.place _ (λ f.
        then_reads (converted result o t) _ (converted_reads result o t) (λ v w same.
        gives_reads w (stmt.Return (Some v.node)) (value_given (ExprStands e) (progress s) v (operand_spots o) (progress w) same.0
        (moved (RunAt (ExprStands e) (progress s)) (operand_spots o) (progress t) (progress w) same.1 p)))))
    of result None =
        refused_reads s (not (is_void result)) 3 place (λ x t. Good (stmt.Return None) t) (λ f. gives_reads s (stmt.Return None) (nothing_given (progress s)))

jump_reads : (looped : Bool) (place : ℕ) (x : Stmt) → stmt_alone x ≡ [] → ReadsFrom stmt_alone (RunAt AtMost) (jump looped place x)
unfolding and_then
jump_reads looped place x is s =
    refused_reads s (not looped) 3 place _ (λ f. gives_reads s x (subst (λ xs. RunAt AtMost (progress s) xs (progress s)) (sym is) (none_at AtMost (progress s) (λ from to h. h))))

-- what stands in a block, behind what was read of it
module _ (one rest_stands : ℕ → ℕ → Type 0) (before : List Stmt) (read : Seen → Read (List Stmt)) (rest : List Stmt → Seen → Read (List Stmt))
    (reads : ReadsFrom list_alone (RunAt one) read)
    (more : (all : List Stmt) (t : Seen) → Reads list_alone (IsMore (list_alone all) (RunAt rest_stands (progress t))) (rest all t)) where
  with_items_reads : (s : Seen) → Reads list_alone (IsMore (list_alone before) (RunAt (Then one rest_stands) (progress s))) (with_items before read rest s)
  unfolding with_items and_then
  with_items_reads s =
      then_reads (read s) _ (reads s) (λ some t p.
      reads_as _ (more (before ++ some) t) (λ all m q. record {
        more = list_alone some ++ q.more;
        is = q.is ∙ (ap (λ zs. zs ++ q.more) (lists_joined before some) ∙ append_assoc (list_alone before) (list_alone some) q.more);
        holds = joined_at one rest_stands (progress s) (list_alone some) q.more (progress t) m p q.holds;
      }))

nothing_behind : (before : List Stmt) (s : Seen) → Reads list_alone (IsMore (list_alone before) (RunAt AtMost (progress s))) (Good before s)
nothing_behind before s = gives_reads s before (record { more = []; is = sym (append-nil (list_alone before)); holds = none_at AtMost (progress s) (λ from to h. h) })

alone_reads : (stands : ℕ → ℕ → Type 0) (read : Seen → Read Stmt) → ReadsFrom stmt_alone (RunAt stands) read → ReadsFrom list_alone (RunAt stands) (alone read)
unfolding and_then
alone_reads stands read reads s = then_reads (read s) _ (reads s) (λ x t p. gives_reads t (x ∷ []) p)

all_items : (stands : ℕ → ℕ → Type 0) (n : Progress) (r : Read (List Stmt)) → Reads list_alone (IsMore [] (RunAt stands n)) r → Reads list_alone (RunAt stands n) r
all_items stands n r h = reads_as r h (λ ss m x. subst (λ xs. RunAt stands n xs m) (sym x.is) x.holds)

jump_spots : (stmt_alone stmt.Break ≡ []) × (stmt_alone stmt.Continue ≡ [])
unfolding stmt_spots
jump_spots = (refl, refl)

mutual
  unfolding statement StmtStands

  statement_reads : (looped : Bool) (x : written.Stmt) → ReadsFrom stmt_alone (RunAt (StmtStands x)) (statement looped x)
  statement_reads looped (written.Block' place _ items) s =
      block_reads (ItemsStand items) (items_behind looped [] items) (λ t. all_items (ItemsStand items) (progress t) (items_behind looped [] items t) (items_read looped [] items t)) s
  statement_reads looped (written.Expression place e) s = expression_statement_reads e s
  statement_reads looped (written.If' place c _ (more_of-Stmt x end_of-Stmt) other) s =
      selection_reads c (StmtStands x) (ElseStands other) (statement looped x) (otherwise looped other) (λ t. statement_reads looped x t) (λ t. otherwise_reads looped other t) s
  statement_reads looped (written.While' place c _ (more_of-Stmt x end_of-Stmt)) s = while_reads c (StmtStands x) (statement true x) (λ t. statement_reads true x t) s
  statement_reads looped (written.DoWhile' place _ (more_of-Stmt x end_of-Stmt) c) s = do_reads c (StmtStands x) (statement true x) (λ t. statement_reads true x t) s
  statement_reads looped (written.For' place begin c next _ (more_of-Stmt x end_of-Stmt)) s =
      for_reads begin c next (StmtStands x) (statement true x) (λ t. statement_reads true x t) s
  statement_reads looped (written.Break place) s = jump_reads looped place stmt.Break jump_spots.0 s
  statement_reads looped (written.Continue place) s = jump_reads looped place stmt.Continue jump_spots.1 s
  statement_reads looped (written.Return place e) s = returned_reads place e s

  otherwise_reads : (looped : Bool) (other : Held-Stmt-If-3) → ReadsFrom list_alone (RunAt (ElseStands other)) (otherwise looped other)
  otherwise_reads looped written.None' s = gives_reads s [] (none_at AtMost (progress s) (λ from to h. h))
  otherwise_reads looped (written.Some' _ (more_of-Stmt x end_of-Stmt)) s = alone_reads (StmtStands x) (statement looped x) (λ t. statement_reads looped x t) s

  item_reads : (looped : Bool) (i : BlockItem) → ReadsFrom list_alone (RunAt (ItemStands i)) (block_item looped i)
  item_reads looped (item.Declaration d) s = block_declaration_reads d s
  item_reads looped (item.Statement' _ (more_of-Stmt x end_of-Stmt)) s = alone_reads (StmtStands x) (statement looped x) (λ t. statement_reads looped x t) s

  items_read : {n : _} (looped : Bool) (before : List Stmt) (is : Row_of-BlockItem n) (s : Seen)
      → Reads list_alone (IsMore (list_alone before) (RunAt (ItemsStand is) (progress s))) (items_behind looped before is s)
  items_read looped before end_of-BlockItem s = nothing_behind before s
  items_read looped before (more_of-BlockItem i is) s =
      with_items_reads (ItemStands i) (ItemsStand is) before (block_item looped i) (λ all. items_behind looped all is) (λ t. item_reads looped i t) (λ all t. items_read looped all is t) s

list_reads : (before : List Stmt) (is : List BlockItem) (s : Seen) → Reads list_alone (IsMore (list_alone before) (RunAt (ListStands is) (progress s))) (list_behind before is s)
unfolding list_behind
list_reads before [] s = nothing_behind before s
list_reads before (i ∷ is) s =
    with_items_reads (ItemStands i) (ListStands is) before (block_item false i) (λ all. list_behind all is) (λ t. item_reads false i t) (λ all t. list_reads all is t) s

-- the block of a function
pub block_items_read : (is : List BlockItem) → ReadsFrom list_alone (RunAt (ListStands is)) (block_items is)
unfolding block_items
block_items_read is s = all_items (ListStands is) (progress s) (list_behind [] is s) (list_reads [] is s)
