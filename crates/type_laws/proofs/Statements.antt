-- Statements keep what was seen, are typed, and add automatic variables one behind the other.
use Rattle.std.proofs.Common.{◌≡◌, ℕ, ◌≤◌, Bool, true, false, refl, sym, ◌∙◌, ap, subst, List, [], ◌∷◌, ◌++◌, append_assoc, append-nil, length, Option, Some, None, arith, inl, inr}
use Rattle.std.specs.Prelude.{not}
use Rattle.eff_types.specs.Types.{is_void}
use Rattle.eff_types.specs.declared.types.CType.{CType, Void}
use Rattle.c_tree.specs.declared.expressions.Expr as tree
use Rattle.c_tree.specs.declared.statements.BlockItem as item
use Rattle.c_tree.specs.declared.statements.BlockItem.{BlockItem}
use Rattle.c_tree.specs.declared.statements.ForStart.{ForStart}
use Rattle.c_tree.specs.declared.statements.ForStart.TheVariants as start
use Rattle.c_tree.specs.declared.statements.Stmt as written
use Rattle.c_tree.specs.declared.statements.Stmt.{Row_of-BlockItem, end_of-BlockItem, more_of-BlockItem, Row_of-Stmt, end_of-Stmt, more_of-Stmt, Held-Stmt-If-3}
use Rattle.core_unit.specs.Layout.{automatics, list_automatics}
use Rattle.core_unit.specs.Shapes.{is_scalar}
use Rattle.core_unit.specs.Typed.{Tables, IsTypedStmt, ListIsTyped, IsCondition, IsEvaluated, IsOptional, is_value}
use Rattle.core_unit.specs.declared.body.LoopKind.TheVariants.{While, DoWhile}
use Rattle.core_unit.specs.declared.body.Stmt.{Stmt}
use Rattle.core_unit.specs.declared.body.Stmt.TheVariants as stmt
use Rattle.core_unit.specs.declared.expressions.Expr.{Expr}
use Rattle.core_unit.specs.declared.expressions.Expr.TheVariants as expr
use Rattle.core_unit.specs.declared.tables.Object.{Object}
use Rattle.core_unit.specs.declared.tables.StructInfo.{StructInfo}
use Rattle.type_rules.specs.Conversions.{converted}
use Rattle.type_rules.specs.Declarations.{block_declaration}
use Rattle.type_rules.specs.Operands.{operand}
use Rattle.type_rules.specs.Reading.{Read, Good, and_then, where_written}
use Rattle.type_rules.specs.Recursion.{expression}
use Rattle.type_rules.specs.Seen.{Seen}
use Rattle.type_rules.specs.Statements.{evaluated, condition, expression_or_nothing, expression_statement, block, selection_of, selection, while_loop, do_loop, started, for_start, for_turns, for_loop, returned_value, returned_as, returned, with_items, alone, jump, statement, otherwise, block_item, items_behind, list_behind, block_items}
use Rattle.type_laws.proofs.Blocks.{DeclaresVariables}
use Rattle.type_laws.proofs.Converted.{converted_keeps}
use Rattle.type_laws.proofs.Declaring.{autos_joined, typed_joined, block_declaration_left}
use Rattle.type_laws.proofs.Formed.{IsFormed, formed_stays}
use Rattle.type_laws.proofs.Growing.{Grows, NoAutos, Steady, grows_of_made, grows_same, chain, restated, scoped_grows}
use Rattle.type_laws.proofs.Initializing.{Anything}
use Rattle.type_laws.proofs.Left.{Left, Leaves, then_left, gives_left, refused_left, left_as, left_of}
use Rattle.type_laws.proofs.Operands.{operand_keeps}
use Rattle.type_laws.proofs.Stating.{typed-Block, autos-Block, typed-If, autos-If, typed-Loop, autos-Loop, StartsWith, typed-For, autos-For, typed-Expression, typed-Empty, typed-Break, typed-Continue, typed-Return, no_autos}
use Rattle.type_laws.proofs.Trees.{expression_keeps}
use Rattle.type_laws.proofs.Triples.{Lawful, Made, Triple, Keeps, Always, then_keeps, gives_keeps, refused_keeps}
use Rattle.type_laws.proofs.Types.{not_refused, value_of_result}

-- expressions of statements
abbrev IsEvaluatedNode : Expr → Tables → Type 0
IsEvaluatedNode e u = IsEvaluated u e

abbrev IsConditionNode : Expr → Tables → Type 0
IsConditionNode e u = IsCondition u e

evaluated_keeps : (e : tree.Expr) → Keeps Always Anything IsEvaluatedNode (evaluated e)
unfolding evaluated and_then
evaluated_keeps e s lawful =
    then_keeps s (operand (expression e) s) _ (operand_keeps Always (expression e) (expression_keeps e) s lawful) (λ o t t_lawful t_stay known.
    gives_keeps t o.node t_lawful tt (λ u leads knows p. (p.1, ap is_value known.1 ∙ value_of_result o.kind known.2)))

condition_keeps : (e : tree.Expr) → Keeps Always Anything IsConditionNode (condition e)
unfolding condition and_then
condition_keeps e s lawful =
    then_keeps s (operand (expression e) s) _ (operand_keeps Always (expression e) (expression_keeps e) s lawful) (λ o t t_lawful t_stay known.
    refused_keeps t (not (is_scalar o.kind)) 3 o.place _ (λ r.
    gives_keeps t o.node t_lawful tt (λ u leads knows p. (p.1, ap is_scalar known.1 ∙ not_refused (is_scalar o.kind) r))))

-- a node that is given, without automatic variables
abbrev Node : (Expr → Tables → Type 0) → Seen → Expr → Seen → Type 0
Node P s e t = Grows NoAutos (P e) s t

node_left : (P : Expr → Tables → Type 0) (rule : Seen → Read Expr) → Keeps Always Anything P rule → (s : Seen) → Lawful s → Left (Node P s) s (rule s)
node_left P rule keeps s lawful =
    left_as (λ e t. Made Always Anything P s e t) (Node P s) s (rule s) (left_of Always Anything P s (rule s) (keeps s lawful)) (λ e t h. grows_of_made Anything P s e t h.known)

-- what isn't written is nothing
abbrev Optionally : (Expr → Tables → Type 0) → Option Expr → Tables → Type 0
Optionally P o u = IsOptional (λ e. P e u) o

optional_left : (P : Expr → Tables → Type 0) (rule : tree.Expr → Seen → Read Expr) → ((e : tree.Expr) → Keeps Always Anything P (rule e)) → (o : Option tree.Expr) (s : Seen) → Lawful s
    → Left (λ x t. Grows NoAutos (Optionally P x) s t) s (where_written o rule s)
unfolding and_then
optional_left P rule keeps None s lawful = gives_left _ s None lawful (grows_same Always s (Optionally P None) (λ u p. tt))
optional_left P rule keeps (Some e) s lawful =
    then_left s (rule e s) _ (node_left P (rule e) (keeps e) s lawful) (λ x t h.
    gives_left _ t (Some x) h.lawful (restated NoAutos NoAutos (P x) (Optionally P (Some x)) s t (λ structures. refl) (λ u p. p) h.known))

-- inside a function with this result
pub record IsInside (r : CType) (s : Seen) : Type 0 where
  pub lawful : Lawful s
  pub result_is : s.result ≡ r
  pub formed : IsFormed s.structures r

pub stays_inside : {A : Type 0} (K : A → Seen → Type 0) (r : CType) (s : Seen) (a : A) (t : Seen) → IsInside r s → Leaves K s a t → Steady s t → IsInside r t
stays_inside K r s a t inside h steady = record {
  lawful = h.lawful;
  result_is = steady.result_is ∙ inside.result_is;
  formed = formed_stays s.structures t.structures r h.stay inside.lawful.open_are_empty inside.formed;
}

abbrev autos_of : Stmt → List StructInfo → List Object
autos_of a structures = automatics structures a

abbrev list_autos_of : List Stmt → List StructInfo → List Object
list_autos_of items structures = list_automatics structures items

-- what a statement and a list of them leave
abbrev pub States : CType → Bool → Seen → Stmt → Seen → Type 0
States r looped s a t = Grows (autos_of a) (λ u. IsTypedStmt u r looped a) s t

abbrev pub Lists : CType → Bool → Seen → List Stmt → Seen → Type 0
Lists r looped s items t = Grows (list_autos_of items) (λ u. ListIsTyped u r looped items) s t

module _ (r : CType) where
  expression_left : (looped : Bool) (e : Option tree.Expr) (s : Seen) → IsInside r s → Left (States r looped s) s (expression_statement e s)
  unfolding expression_statement and_then
  expression_left looped e s inside =
      then_left s (where_written e evaluated s) _ (optional_left IsEvaluatedNode evaluated evaluated_keeps e s inside.lawful) (λ x t h.
      gives_left _ t (expression_or_nothing x) h.lawful (of x s t h.known))
    where
      of : (x : Option Expr) (s t : Seen) → Grows NoAutos (Optionally IsEvaluatedNode x) s t → States r looped s (expression_or_nothing x) t
      of None s t h = restated NoAutos (autos_of stmt.Empty) _ _ s t (λ structures. sym (no_autos structures None (expr_none)).2) (λ u p. typed-Empty u r looped) h
        where
          expr_none : Expr
          expr_none = expr.Null
      of (Some e) s t h = restated NoAutos (autos_of (stmt.Expression e)) _ _ s t (λ structures. sym (no_autos structures None e).1) (λ u p. typed-Expression u r looped e p) h

  block_left : (looped : Bool) (items : Seen → Read (List Stmt)) → ((v : Seen) → IsInside r v → Left (Lists r looped v) v (items v)) → (s : Seen) → IsInside r s
      → Left (States r looped s) s (block items s)
  unfolding block and_then
  block_left looped items keeps s inside =
      then_left s _ _ (scoped_grows list_autos_of (λ xs u. ListIsTyped u r looped xs) items s inside.lawful (λ v v_lawful result structures.
      keeps v (record { lawful = v_lawful; result_is = result ∙ inside.result_is; formed = subst (λ ss. IsFormed ss r) (sym structures) inside.formed }))) (λ xs t h.
      gives_left _ t (stmt.Block xs) h.lawful
      (restated (list_autos_of xs) (autos_of (stmt.Block xs)) _ _ s t (λ structures. sym (autos-Block structures xs)) (λ u p. typed-Block u r looped xs p) h.known))

  -- at most one statement
  record Otherwise (looped : Bool) (s : Seen) (items : List Stmt) (t : Seen) : Type 0 where
    lists : Lists r looped s items t
    few : length items ≤ 1

  selection_left : (looped : Bool) (c : tree.Expr) (then_read : Seen → Read Stmt) (else_read : Seen → Read (List Stmt)) → ((v : Seen) → IsInside r v → Left (States r looped v) v (then_read v))
      → ((v : Seen) → IsInside r v → Left (Otherwise looped v) v (else_read v)) → (s : Seen) → IsInside r s → Left (States r looped s) s (selection c then_read else_read s)
  unfolding selection selection_of and_then
  selection_left looped c then_read else_read then_keeps else_keeps s inside =
      then_left s (condition c s) _ (node_left IsConditionNode (condition c) (condition_keeps c) s inside.lawful) (λ test t h.
      let t_inside = stays_inside _ r s test t inside h h.known.steady in
      then_left t (then_read t) _ (then_keeps t t_inside) (λ x v g.
      let v_inside = stays_inside _ r t x v t_inside g g.known.steady in
      then_left v (else_read v) _ (else_keeps v v_inside) (λ other w k.
      gives_left _ w (stmt.If test x other) k.lawful
      (chain NoAutos (λ structures. autos_of x structures ++ list_autos_of other structures) (autos_of (stmt.If test x other)) (IsConditionNode test)
      (λ u. IsTypedStmt u r looped x × ListIsTyped u r looped other) (λ u. IsTypedStmt u r looped (stmt.If test x other)) s t w (λ u leads. g.back u (k.back u leads))
      (λ structures. sym (autos-If structures test x other)) (λ u p q. typed-If u r looped test x other p q.0 q.1 k.known.few) h.known
      (chain (autos_of x) (list_autos_of other) _ _ _ _ t v w k.back (λ structures. refl) (λ u p q. (p, q)) g.known k.known.lists)))))

  while_left : (looped : Bool) (c : tree.Expr) (body : Seen → Read Stmt) → ((v : Seen) → IsInside r v → Left (States r true v) v (body v)) → (s : Seen) → IsInside r s
      → Left (States r looped s) s (while_loop c body s)
  unfolding while_loop and_then
  while_left looped c body keeps s inside =
      then_left s (condition c s) _ (node_left IsConditionNode (condition c) (condition_keeps c) s inside.lawful) (λ test t h.
      then_left t (body t) _ (keeps t (stays_inside _ r s test t inside h h.known.steady)) (λ x v g.
      gives_left _ v (stmt.Loop While test x) g.lawful
      (chain NoAutos (autos_of x) (autos_of (stmt.Loop While test x)) (IsConditionNode test) (λ u. IsTypedStmt u r true x) (λ u. IsTypedStmt u r looped (stmt.Loop While test x)) s t v g.back
      (λ structures. sym (autos-Loop structures While test x)) (λ u p q. typed-Loop u r looped While test x p q) h.known g.known)))

  do_left : (looped : Bool) (c : tree.Expr) (body : Seen → Read Stmt) → ((v : Seen) → IsInside r v → Left (States r true v) v (body v)) → (s : Seen) → IsInside r s
      → Left (States r looped s) s (do_loop c body s)
  unfolding do_loop and_then
  do_left looped c body keeps s inside =
      then_left s (body s) _ (keeps s inside) (λ x t h.
      then_left t (condition c t) _ (node_left IsConditionNode (condition c) (condition_keeps c) t h.lawful) (λ test v g.
      gives_left _ v (stmt.Loop DoWhile test x) g.lawful
      (chain (autos_of x) NoAutos (autos_of (stmt.Loop DoWhile test x)) (λ u. IsTypedStmt u r true x) (IsConditionNode test) (λ u. IsTypedStmt u r looped (stmt.Loop DoWhile test x)) s t v g.back
      (λ structures. append-nil (autos_of x structures) ∙ sym (autos-Loop structures DoWhile test x)) (λ u p q. typed-Loop u r looped DoWhile test x q p) h.known g.known)))

  -- what a `for` begins with
  record Starts (s : Seen) (items : List Stmt) (t : Seen) : Type 0 where
    lists : Lists r false s items t
    begins : StartsWith items

  start_left : (begin : ForStart) (s : Seen) → IsInside r s → Left (Starts s) s (for_start begin s)
  unfolding and_then
  start_left (start.Declaration d) s inside =
      left_as (DeclaresVariables s) (Starts s) s _ (block_declaration_left d s inside.lawful) (λ items t h. record {
        lists = restated (list_autos_of items) (list_autos_of items) _ (λ u. ListIsTyped u r false items) s t (λ structures. refl) (λ u p. p r false) h.known.declares;
        begins = inl h.known.variables;
      })
  start_left (start.Expression e) s inside =
      then_left s (where_written e evaluated s) _ (optional_left IsEvaluatedNode evaluated evaluated_keeps e s inside.lawful) (λ x t h.
      gives_left _ t (started x) h.lawful (of x t h.known))
    where
      of : (x : Option Expr) (t : Seen) → Grows NoAutos (Optionally IsEvaluatedNode x) s t → Starts s (started x) t
      of None t h = record { lists = restated NoAutos (list_autos_of []) _ (λ u. ListIsTyped u r false []) s t (λ structures. refl) (λ u p. tt) h; begins = inl tt }
      of (Some e) t h = record {
        lists = restated NoAutos (list_autos_of (stmt.Expression e ∷ [])) _ (λ u. ListIsTyped u r false (stmt.Expression e ∷ [])) s t
            (λ structures. sym (ap (λ first. first ++ []) (no_autos structures None e).1)) (λ u p. (typed-Expression u r false e p, tt)) h;
        begins = inr (e, refl);
      }

  turns_left : (looped : Bool) (begin : ForStart) (c next : Option tree.Expr) (body : Seen → Read Stmt) → ((v : Seen) → IsInside r v → Left (States r true v) v (body v)) → (s : Seen) → IsInside r s
      → Left (States r looped s) s (and_then (for_start begin s) (λ first t. for_turns first c next body t))
  unfolding for_turns and_then
  turns_left looped begin c next body keeps s inside =
      then_left s (for_start begin s) _ (start_left begin s inside) (λ first t h.
      let t_inside = stays_inside _ r s first t inside h h.known.lists.steady in
      then_left t (where_written c condition t) _ (optional_left IsConditionNode condition condition_keeps c t h.lawful) (λ test v g.
      let v_inside = stays_inside _ r t test v t_inside g g.known.steady in
      then_left v (where_written next evaluated v) _ (optional_left IsEvaluatedNode evaluated evaluated_keeps next v g.lawful) (λ turn w k.
      let w_inside = stays_inside _ r v turn w v_inside k k.known.steady in
      then_left w (body w) _ (keeps w w_inside) (λ x y m.
      gives_left _ y (stmt.For first test turn x) m.lawful
      (chain (list_autos_of first) (autos_of x) (autos_of (stmt.For first test turn x)) (λ u. ListIsTyped u r false first)
      (λ u. Optionally IsConditionNode test u × Optionally IsEvaluatedNode turn u × IsTypedStmt u r true x) (λ u. IsTypedStmt u r looped (stmt.For first test turn x)) s t y
      (λ u leads. g.back u (k.back u (m.back u leads))) (λ structures. sym (autos-For structures first test turn x))
      (λ u p q. typed-For u r looped first test turn x p h.known.begins q.0 q.1 q.2) h.known.lists
      (chain NoAutos (autos_of x) (autos_of x) (Optionally IsConditionNode test) (λ u. Optionally IsEvaluatedNode turn u × IsTypedStmt u r true x) _ t v y
      (λ u leads. k.back u (m.back u leads)) (λ structures. refl) (λ u p q. (p, q.0, q.1)) g.known
      (chain NoAutos (autos_of x) (autos_of x) (Optionally IsEvaluatedNode turn) (λ u. IsTypedStmt u r true x) _ v w y m.back (λ structures. refl) (λ u p q. (p, q)) k.known m.known)))))))

  for_left : (looped : Bool) (begin : ForStart) (c next : Option tree.Expr) (body : Seen → Read Stmt) → ((v : Seen) → IsInside r v → Left (States r true v) v (body v)) → (s : Seen) → IsInside r s
      → Left (States r looped s) s (for_loop begin c next body s)
  unfolding for_loop
  for_left looped begin c next body keeps s inside =
      scoped_grows autos_of (λ a u. IsTypedStmt u r looped a) _ s inside.lawful (λ v v_lawful result structures.
      turns_left looped begin c next body keeps v
      (record { lawful = v_lawful; result_is = result ∙ inside.result_is; formed = subst (λ ss. IsFormed ss r) (sym structures) inside.formed }))

  -- `return`
  abbrev AddsNothing : Stmt → Seen → Type 0
  AddsNothing x t = (structures : List StructInfo) → [] ≡ automatics structures x

  value_keeps : (looped : Bool) (e : tree.Expr) (s : Seen) → IsInside r s → Triple Always AddsNothing (λ x u. IsTypedStmt u r looped x) s (returned_value r (expression e) s)
  unfolding and_then
  value_keeps looped e s inside =
      then_keeps s (operand (expression e) s) _ (operand_keeps Always (expression e) (expression_keeps e) s inside.lawful) (λ o t t_lawful t_stay known.
      refused_keeps t (is_void r) 3 o.place _ (λ solid.
      then_keeps t (converted r o t) _
      (converted_keeps _ t r o t_lawful (formed_stays s.structures t.structures r t_stay inside.lawful.open_are_empty inside.formed) known (λ u p. p.1)) (λ v w w_lawful w_stay v_known.
      gives_keeps w (stmt.Return (Some v.node)) w_lawful (λ structures. sym (no_autos structures (Some v.node) v.node).0) (λ u leads knows p.
      typed-Return u r looped (Some v.node) (p.1, v_known.0.1 ∙ v_known.1, solid)))))

  void_is : (t : CType) → is_void t ≡ true → t ≡ Void
  void_is Void e = refl
  void_is t e = absurd (cc)

  returned_left : (looped : Bool) (place : ℕ) (e : Option tree.Expr) (s : Seen) → IsInside r s → Left (States r looped s) s (returned_as place r e s)
  unfolding and_then
  returned_left looped place (Some e) s inside =
      left_as (λ x t. Made Always AddsNothing (λ x u. IsTypedStmt u r looped x) s x t) (States r looped s) s _
      (left_of Always AddsNothing (λ x u. IsTypedStmt u r looped x) s _ (value_keeps looped e s inside)) (λ x t h.
      restated NoAutos (autos_of x) _ _ s t h.known.known (λ u p. p) (grows_of_made AddsNothing (λ x u. IsTypedStmt u r looped x) s x t h.known))
  returned_left looped place None s inside =
      refused_left s (not (is_void r)) 3 place _ (λ e.
      gives_left (States r looped s) s (stmt.Return None) inside.lawful
      (restated NoAutos (autos_of (stmt.Return None)) _ _ s s (λ structures. sym (no_autos structures None expr.Null).0) (λ u p. p)
      (grows_same Always s (λ u. IsTypedStmt u r looped (stmt.Return None)) (λ u p. typed-Return u r looped None (void_is r (not_refused (is_void r) e))))))

  return_left : (looped : Bool) (place : ℕ) (e : Option tree.Expr) (s : Seen) → IsInside r s → Left (States r looped s) s (returned place e s)
  unfolding returned and_then
  return_left looped place e s inside = subst (λ t. Left (States r looped s) s (returned_as place t e s)) (sym inside.result_is) (returned_left looped place e s inside)

  -- `break` and `continue`
  jump_left : (looped : Bool) (place : ℕ) (x : Stmt) (s : Seen) → IsInside r s → ((structures : List StructInfo) → [] ≡ automatics structures x)
      → ((u : Tables) → looped ≡ true → IsTypedStmt u r looped x) → Left (States r looped s) s (jump looped place x s)
  unfolding and_then
  jump_left looped place x s inside none typed =
      refused_left s (not looped) 3 place _ (λ e.
      gives_left (States r looped s) s x inside.lawful
      (restated NoAutos (autos_of x) _ _ s s none (λ u p. p) (grows_same Always s (λ u. IsTypedStmt u r looped x) (λ u p. typed u (not_refused looped e)))))

  one_left : (looped : Bool) (read : Seen → Read Stmt) (s : Seen) → Left (States r looped s) s (read s) → Left (Lists r looped s) s (alone read s)
  unfolding and_then
  one_left looped read s h =
      then_left s (read s) _ h (λ x t g.
      gives_left (Lists r looped s) t (x ∷ []) g.lawful
      (restated (autos_of x) (list_autos_of (x ∷ [])) _ _ s t (λ structures. sym (append-nil (automatics structures x))) (λ u p. (p, tt)) g.known))

  -- what is behind the items that were read before
  pub record Behind (looped : Bool) (before : List Stmt) (s : Seen) (all : List Stmt) (t : Seen) : Type 0 where
    pub new : List Stmt
    pub is : all ≡ before ++ new
    pub lists : Lists r looped s new t

  items_left : (looped : Bool) (before : List Stmt) (read : Seen → Read (List Stmt)) (rest : List Stmt → Seen → Read (List Stmt)) (s : Seen) → IsInside r s
      → Left (Lists r looped s) s (read s) → ((all : List Stmt) (t : Seen) → IsInside r t → Left (Behind looped all t) t (rest all t))
      → Left (Behind looped before s) s (with_items before read rest s)
  unfolding with_items and_then
  items_left looped before read rest s inside h next =
      then_left s (read s) _ h (λ some t g.
      left_as (Behind looped (before ++ some) t) (Behind looped before s) t _ (next (before ++ some) t (stays_inside _ r s some t inside g g.known.steady)) (λ all v k. record {
        new = some ++ k.known.new;
        is = k.known.is ∙ append_assoc before some k.known.new;
        lists = chain (list_autos_of some) (list_autos_of k.known.new) (list_autos_of (some ++ k.known.new)) (λ u. ListIsTyped u r looped some) (λ u. ListIsTyped u r looped k.known.new)
            (λ u. ListIsTyped u r looped (some ++ k.known.new)) s t v k.back (λ structures. sym (autos_joined structures some k.known.new))
            (λ u p q. typed_joined u r looped some k.known.new p q) g.known k.known.lists;
      }))

  declared_left : (looped : Bool) (s : Seen) (read : Seen → Read (List Stmt)) → Left (DeclaresVariables s) s (read s) → Left (Lists r looped s) s (read s)
  declared_left looped s read h =
      left_as (DeclaresVariables s) (Lists r looped s) s (read s) h (λ items t g.
      restated (list_autos_of items) (list_autos_of items) _ (λ u. ListIsTyped u r looped items) s t (λ structures. refl) (λ u p. p r looped) g.known.declares)

  end_left : (looped : Bool) (before : List Stmt) (s : Seen) → IsInside r s → Left (Behind looped before s) s (Good before s)
  end_left looped before s inside =
      gives_left (Behind looped before s) s before inside.lawful
      (record { new = []; is = sym (append-nil before); lists = restated NoAutos (list_autos_of []) _ _ s s (λ structures. refl) (λ u p. p) (grows_same Always s (λ u. ListIsTyped u r looped []) (λ u p. tt)) })

  from_first : (looped : Bool) (s : Seen) (read : Read (List Stmt)) → Left (Behind looped [] s) s read → Left (Lists r looped s) s read
  from_first looped s read h =
      left_as (Behind looped [] s) (Lists r looped s) s read h (λ all t g. subst (λ items. Lists r looped s items t) (sym g.known.is) g.known.lists)

-- no statement behind `else`, and one
nothing_else : (r : CType) (looped : Bool) (s : Seen) → IsInside r s → Left (Otherwise r looped s) s (Good [] s)
nothing_else r looped s inside =
    gives_left (Otherwise r looped s) s [] inside.lawful (record {
      lists = restated NoAutos (list_autos_of []) _ _ s s (λ structures. refl) (λ u p. p) (grows_same Always s (λ u. ListIsTyped u r looped []) (λ u p. tt));
      few = omega arith;
    })

something_else : (r : CType) (looped : Bool) (read : Seen → Read Stmt) (s : Seen) → Left (States r looped s) s (read s) → Left (Otherwise r looped s) s (alone read s)
unfolding and_then
something_else r looped read s h =
    then_left s (read s) _ h (λ x t g.
    gives_left (Otherwise r looped s) t (x ∷ []) g.lawful (record {
      lists = restated (autos_of x) (list_autos_of (x ∷ [])) _ _ s t (λ structures. sym (append-nil (automatics structures x))) (λ u p. (p, tt)) g.known;
      few = omega arith;
    }))

mutual
  unfolding statement and_then

  pub statement_left : (r : CType) (x : written.Stmt) (looped : Bool) (s : Seen) → IsInside r s → Left (States r looped s) s (statement looped x s)
  statement_left r (written.Block' place _ items) looped s inside =
      block_left r looped (items_behind looped [] items) (λ v v_inside. from_first r looped v _ (items_behind_left r items looped [] v v_inside)) s inside
  statement_left r (written.Expression place e) looped s inside = expression_left r looped e s inside
  statement_left r (written.If' place c _ (more_of-Stmt x end_of-Stmt) other) looped s inside =
      selection_left r looped c (statement looped x) (otherwise looped other) (λ v v_inside. statement_left r x looped v v_inside) (λ v v_inside. otherwise_left r other looped v v_inside) s inside
  statement_left r (written.While' place c _ (more_of-Stmt x end_of-Stmt)) looped s inside = while_left r looped c (statement true x) (λ v v_inside. statement_left r x true v v_inside) s inside
  statement_left r (written.DoWhile' place _ (more_of-Stmt x end_of-Stmt) c) looped s inside = do_left r looped c (statement true x) (λ v v_inside. statement_left r x true v v_inside) s inside
  statement_left r (written.For' place begin c next _ (more_of-Stmt x end_of-Stmt)) looped s inside =
      for_left r looped begin c next (statement true x) (λ v v_inside. statement_left r x true v v_inside) s inside
  statement_left r (written.Break place) looped s inside =
      jump_left r looped place stmt.Break s inside (λ structures. sym (no_autos structures None expr.Null).3) (λ u e. typed-Break u r looped e)
  statement_left r (written.Continue place) looped s inside =
      jump_left r looped place stmt.Continue s inside (λ structures. sym (no_autos structures None expr.Null).4) (λ u e. typed-Continue u r looped e)
  statement_left r (written.Return place e) looped s inside = return_left r looped place e s inside

  otherwise_left : (r : CType) (x : Held-Stmt-If-3) (looped : Bool) (s : Seen) → IsInside r s → Left (Otherwise r looped s) s (otherwise looped x s)
  otherwise_left r written.None' looped s inside = nothing_else r looped s inside
  otherwise_left r (written.Some' _ (more_of-Stmt x end_of-Stmt)) looped s inside = something_else r looped (statement looped x) s (statement_left r x looped s inside)

  block_item_left : (r : CType) (x : BlockItem) (looped : Bool) (s : Seen) → IsInside r s → Left (Lists r looped s) s (block_item looped x s)
  block_item_left r (item.Declaration d) looped s inside = declared_left r looped s (block_declaration d) (block_declaration_left d s inside.lawful)
  block_item_left r (item.Statement' _ (more_of-Stmt x end_of-Stmt)) looped s inside = one_left r looped (statement looped x) s (statement_left r x looped s inside)

  items_behind_left : {n : _} (r : CType) (xs : Row_of-BlockItem n) (looped : Bool) (before : List Stmt) (s : Seen) → IsInside r s
      → Left (Behind r looped before s) s (items_behind looped before xs s)
  items_behind_left r end_of-BlockItem looped before s inside = end_left r looped before s inside
  items_behind_left r (more_of-BlockItem x xs) looped before s inside =
      items_left r looped before (block_item looped x) (λ all. items_behind looped all xs) s inside (block_item_left r x looped s inside)
      (λ all t t_inside. items_behind_left r xs looped all t t_inside)

-- what stands in a function's outermost block
list_left : (r : CType) (xs : List BlockItem) (before : List Stmt) (s : Seen) → IsInside r s → Left (Behind r false before s) s (list_behind before xs s)
unfolding list_behind
list_left r [] before s inside = end_left r false before s inside
list_left r (x ∷ xs) before s inside =
    items_left r false before (block_item false x) (λ all. list_behind all xs) s inside (block_item_left r x false s inside) (λ all t t_inside. list_left r xs all t t_inside)

pub block_items_left : (r : CType) (xs : List BlockItem) (s : Seen) → IsInside r s → Left (Lists r false s) s (block_items xs s)
unfolding block_items
block_items_left r xs s inside = from_first r false s _ (list_left r xs [] s inside)
