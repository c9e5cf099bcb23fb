-- Where what each rule reads stands, and what it means that the rule keeps it so.
use Rattle.std.proofs.Common.{ℕ, ◌<◌}
use Rattle.c_tree.specs.declared.expressions.Expr.{Expr}
use Rattle.c_grammar.specs.Lexemes.{Lexeme}
use Rattle.c_grammar.specs.declared.state.Front.{Front}
use Rattle.c_grammar.specs.declared.state.Front.TheVariants.{Opened as OpenedFront}
use Rattle.c_grammar.specs.Rules.{Rule, Expression, Assignment, Conditional, Prefix, Arguments, MoreArguments, Binary, Operand, Postfix, Primary, Initializer, Braces, Initializers, InitDeclarators, MoreDeclarators, Declaration, MaybeExpression, Statement, Block, BlockItems, External, Externals, Unit as WholeFile, ValueOf}
use Rattle.c_grammar.specs.Expressions.{Reading}
use Rattle.c_grammar.specs.Grammar.{production}
use Rattle.tree_order.specs.Stands.{ExprStands, OptionalStands, InitStands, DeclaratorsStand, DeclStands, StmtStands, ListStands, ExternalStands, ExternalsStand, StandsInOrder}
use Rattle.tree_order.proofs.Forms.{AllStand}
use Rattle.read_order.proofs.Placed.{PartsPlaced, ProductionPlaced}
use Rattle.read_order.proofs.Spans.{Within, IsAt}

abbrev pub start : Lexeme → ℕ
start t = t.token.start

abbrev pub stop : Lexeme → ℕ
stop t = t.token.end

-- an expression whose first token was read before, where that is so, begins at that one
abbrev pub Fronted : Front → Expr → ℕ → ℕ → Type 0
Fronted (OpenedFront p) x from end = p < from → IsAt x p end
Fronted _ x from end = IsAt x from end

-- nothing is asked of types, in which nothing is called
abbrev pub Stands : (n : Rule) → ℕ → ℕ → ValueOf n → Type 0
Stands (Expression s) from end x = IsAt x from end
Stands (Assignment s) from end x = IsAt x from end
Stands (Conditional s) from end x = IsAt x from end
Stands (Prefix s) from end x = IsAt x from end
Stands (Binary l s) from end x = IsAt x from end
Stands (Operand f s) from end x = Fronted f x from end
Stands (Postfix f s) from end x = Fronted f x from end
Stands (Primary f s) from end x = Fronted f x from end
Stands (Arguments s) from end x = Within (AllStand ExprStands x) from end
Stands (MoreArguments s) from end x = Within (AllStand ExprStands x) from end
Stands (Initializer s) from end x = Within (InitStands x) from end
Stands (Braces s) from end x = Within (InitStands x) from end
Stands (Initializers s) from end x = Within (AllStand InitStands x) from end
Stands (InitDeclarators s typedefs) from end x = Within (DeclaratorsStand x.declarators) from end
Stands (MoreDeclarators s typedefs) from end x = Within (DeclaratorsStand x.declarators) from end
Stands (Declaration s) from end x = Within (DeclStands x.tree) from end
Stands (MaybeExpression s) from end x = Within (OptionalStands x) from end
Stands (Statement s loop) from end x = Within (StmtStands x.tree) from end
Stands (Block s loop) from end x = Within (ListStands x.items) from end
Stands (BlockItems s loop) from end x = Within (ListStands x) from end
Stands (External s) from end x = ExternalStands x.tree
Stands (Externals s) from end x = ExternalsStand x
Stands WholeFile from end x = StandsInOrder x
Stands _ from end x = Unit {0}

-- the parts of a rule keep it
abbrev pub Keep : {A : Type 0} → (ℕ → A → Type 0) → ℕ → Reading A → Type 0
Keep stands at parts = PartsPlaced start stop Stands stands at parts

-- the rule keeps it
abbrev pub Placed : Rule → Type 0
Placed n = ProductionPlaced start stop Stands (Stands n) (production n)
