-- How each form of statements is read, part by part: one equation a form.
use Rattle.std.proofs.Common.{◌≡◌, ◌∙◌, refl, sym, ap, ℕ, Bool, true, false, List, [], ◌∷◌, ◌++◌, drop, Option, Some, None}
use denote.Hole.Carrier.{hidden}
use Rattle.c_tree.specs.declared.declarations.Decl.{Decl}
use Rattle.c_tree.specs.declared.expressions.Expr.{Expr}
use Rattle.c_tree.specs.declared.statements.BlockItem.{BlockItem}
use Rattle.c_tree.specs.declared.statements.BlockItem.TheBlock.{hidden-the_row-BlockItem-1, shape-the_row-BlockItem-1, hidden-the_row-Stmt-0, shape-the_row-Stmt-0, back-Stmt-If-3}
use Rattle.c_tree.specs.declared.statements.BlockItem.TheVariants as item
use Rattle.c_tree.specs.declared.statements.ForStart.{ForStart}
use Rattle.c_tree.specs.declared.statements.Stmt.{Stmt}
use Rattle.c_tree.specs.declared.statements.Stmt.TheVariants as written
use Rattle.core_unit.specs.declared.body.LoopKind.TheVariants.{While, DoWhile}
use Rattle.core_unit.specs.declared.body.Stmt.{Stmt as Made}
use Rattle.core_unit.specs.declared.expressions.Expr.{Expr as Value}
use Rattle.core_unit.specs.declared.body.Stmt.TheVariants as stmt
use Rattle.type_recursion.proofs.Continued.{then_good, then_bad, then_gives, then_assoc, then_alike, operand-first}
use Rattle.type_recursion.specs.Lists.{in_order}
use Rattle.type_rules.specs.Declarations.{block_declaration}
use Rattle.type_rules.specs.Operands.{operand}
use Rattle.type_rules.specs.Reading.{Read, Good, Rule, and_then, gives, scoped, where_written}
use Rattle.type_rules.specs.Recursion.{expression}
use Rattle.type_rules.specs.Seen.{Seen}
use Rattle.type_rules.specs.Statements.{evaluated, condition, expression_statement, block, selection, selection_of, while_loop, do_loop, for_start, for_turns, for_loop, returned, with_items, jump, statement, block_item, items_behind, list_behind, block_items}
use Rattle.type_rules.specs.Statements.{otherwise as held_otherwise}
use Rattle.type_statements.specs.Read.{one_item, item_list, otherwise, for_head}

-- an operand that begins where none around it does
pub operand-read : (e : Expr) (s : Seen) → operand (expression e) s ≡ and_then (expression e s) (λ f t. operand (gives f) t)
operand-read e s = operand-first (expression e) s

pub ruleset operand_rules = (then_good, then_bad, operand-read)

-- lists of items
items_row : (looped : Bool) (is : List BlockItem) (before : List Made) (s : Seen) →
    items_behind looped before (hidden-the_row-BlockItem-1 is) s ≡ in_order (one_item looped) is before s
unfolding statement with_items in_order one_item and_then hidden hidden-the_row-BlockItem-1 shape-the_row-BlockItem-1
items_row looped [] before s = refl
items_row looped (i ∷ is) before s =
    then_alike (block_item looped i s) _ _ (λ some t. items_row looped is (before ++ some) t) ∙ sym (then_assoc (block_item looped i s) _ _)

list_row : (is : List BlockItem) (before : List Made) (s : Seen) → list_behind before is s ≡ in_order (one_item false) is before s
unfolding list_behind with_items in_order one_item and_then
list_row [] before s = refl
list_row (i ∷ is) before s =
    then_alike (block_item false i s) _ _ (λ some t. list_row is (before ++ some) t) ∙ sym (then_assoc (block_item false i s) _ _)

pub items-outermost : (is : List BlockItem) (s : Seen) → block_items is s ≡ item_list false is s
unfolding block_items item_list
items-outermost is s = list_row is [] s

pub ruleset outermost = (items-outermost)

otherwise_row : (looped : Bool) (other : Option Stmt) → held_otherwise looped (back-Stmt-If-3 other) ≡ otherwise looped other
unfolding statement otherwise hidden hidden-the_row-Stmt-0 shape-the_row-Stmt-0
otherwise_row looped None = refl
otherwise_row looped (Some x) = refl

pub scoped-reads : {A B : Type 0} (rule : Rule A) (k : A → Seen → Read B) (s : Seen) →
    and_then (scoped rule s) k ≡ and_then (rule (record s { scopes = [] ∷ s.scopes })) (λ a t. k a (record t { scopes = drop 1 t.scopes }))
unfolding scoped and_then
scoped-reads rule k s = then_assoc (rule (record s { scopes = [] ∷ s.scopes })) _ k

module _ (looped : Bool) (s : Seen) where
  pub statement-Block : (p : ℕ) (is : List BlockItem) → statement looped (written.Block p is) s
      ≡ and_then (item_list looped is (record s { scopes = [] ∷ s.scopes })) (λ inner t. Good (stmt.Block inner) (record t { scopes = drop 1 t.scopes }))
  unfolding statement block item_list hidden hidden-the_row-BlockItem-1 shape-the_row-BlockItem-1
  statement-Block p is =
      scoped-reads (λ t. items_behind looped [] (hidden-the_row-BlockItem-1 is) t) (λ inner t. Good (stmt.Block inner) t) s
      ∙ ap (λ r. and_then r (λ inner t. Good (stmt.Block inner) (record t { scopes = drop 1 t.scopes }))) (items_row looped is [] (record s { scopes = [] ∷ s.scopes }))

  pub statement-Expression : (p : ℕ) (e : Option Expr) → statement looped (written.Expression p e) s ≡ expression_statement e s
  unfolding statement
  statement-Expression p e = refl

  pub statement-If : (p : ℕ) (c : Expr) (x : Stmt) (other : Option Stmt) → statement looped (written.If p c x other) s
      ≡ and_then (condition c s) (λ test t. and_then (statement looped x t) (λ inner u. and_then (otherwise looped other u) (λ o v. Good (stmt.If test inner o) v)))
  unfolding statement selection selection_of hidden hidden-the_row-Stmt-0 shape-the_row-Stmt-0
  statement-If p c x other = ap (λ r. selection c (statement looped x) r s) (otherwise_row looped other)

  pub statement-While : (p : ℕ) (c : Expr) (x : Stmt) → statement looped (written.While p c x) s
      ≡ and_then (condition c s) (λ test t. and_then (statement true x t) (λ inner u. Good (stmt.Loop While test inner) u))
  unfolding statement while_loop hidden hidden-the_row-Stmt-0 shape-the_row-Stmt-0
  statement-While p c x = refl

  pub statement-DoWhile : (p : ℕ) (x : Stmt) (c : Expr) → statement looped (written.DoWhile p x c) s
      ≡ and_then (statement true x s) (λ inner t. and_then (condition c t) (λ test u. Good (stmt.Loop DoWhile test inner) u))
  unfolding statement do_loop hidden hidden-the_row-Stmt-0 shape-the_row-Stmt-0
  statement-DoWhile p x c = refl

  pub statement-For : (p : ℕ) (first : ForStart) (c next : Option Expr) (x : Stmt) → statement looped (written.For p first c next x) s
      ≡ and_then (for_head first c next s) (λ head t. and_then (statement true x t) (λ inner u.
      Good (stmt.For head.first head.test head.turn inner) (record u { scopes = drop 1 u.scopes })))
  unfolding statement for_loop for_turns for_head scoped and_then hidden hidden-the_row-Stmt-0 shape-the_row-Stmt-0
  statement-For p first c next x =
      then_assoc (for_start first (record s { scopes = [] ∷ s.scopes })) _ _
      ∙ then_alike (for_start first (record s { scopes = [] ∷ s.scopes })) _ _ (λ begun t.
      then_assoc (where_written c condition t) _ _
      ∙ then_alike (where_written c condition t) _ _ (λ test u.
      then_assoc (where_written next evaluated u) _ _
      ∙ then_alike (where_written next evaluated u) _ _ (λ turn v. then_assoc (statement true x v) _ _)
      ∙ sym (then_assoc (where_written next evaluated u) _ _))
      ∙ sym (then_assoc (where_written c condition t) _ _))
      ∙ sym (then_assoc (for_start first (record s { scopes = [] ∷ s.scopes })) _ _)

  pub statement-Break : (p : ℕ) → statement looped (written.Break p) s ≡ jump looped p stmt.Break s
  unfolding statement
  statement-Break p = refl

  pub statement-Continue : (p : ℕ) → statement looped (written.Continue p) s ≡ jump looped p stmt.Continue s
  unfolding statement
  statement-Continue p = refl

  pub statement-Return : (p : ℕ) (e : Option Expr) → statement looped (written.Return p e) s ≡ returned p e s
  unfolding statement
  statement-Return p e = refl

  pub otherwise-None : otherwise looped None s ≡ Good [] s
  unfolding otherwise
  otherwise-None = refl

  pub otherwise-Some : (x : Stmt) → otherwise looped (Some x) s ≡ and_then (statement looped x s) (λ one t. Good (one ∷ []) t)
  unfolding otherwise
  otherwise-Some x = refl

  pub item-Declaration : (d : Decl) (before : List Made) → one_item looped (item.Declaration d) before s
      ≡ and_then (block_declaration d s) (λ some t. Good (before ++ some) t)
  unfolding statement one_item
  item-Declaration d before = refl

  pub item-Statement : (x : Stmt) (before : List Made) → one_item looped (item.Statement x) before s
      ≡ and_then (statement looped x s) (λ one t. Good (before ++ one ∷ []) t)
  unfolding statement one_item and_then hidden hidden-the_row-Stmt-0 shape-the_row-Stmt-0
  item-Statement x before = then_assoc (statement looped x s) _ _

-- an `if` behind its condition
pub if-chosen : (looped : Bool) (p : ℕ) (c : Expr) (x : Stmt) (other : Option Stmt) (test : Value) (s t : Seen) (whole : Read Made) →
    whole ≡ statement looped (written.If p c x other) s → condition c s ≡ Good test t →
    whole ≡ and_then (statement looped x t) (λ inner u. and_then (otherwise looped other u) (λ o v. Good (stmt.If test inner o) v))
if-chosen looped p c x other test s t whole is good = is ∙ statement-If looped s p c x other ∙ then_good (condition c s) _ test t good

pub ruleset statement_rules = (then_good, then_bad, then_gives, statement-Block, statement-Expression, statement-If, statement-While, statement-DoWhile, statement-For, statement-Break, statement-Continue, statement-Return, otherwise-None, otherwise-Some, item-Declaration, item-Statement)
