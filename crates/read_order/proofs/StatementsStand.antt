-- Initializers, declarations, statements and the file stand in order where their rules read them.
use Rattle.std.proofs.Common.{ℕ, ◌≤◌, ◌<◌, Bool, [], Some, None, arith}
use Rattle.c_tree.specs.declared.expressions.Expr.{Expr}
use Rattle.c_tree.specs.declared.statements.ForStart.{ForStart}
use Rattle.c_tree.specs.declared.statements.ForStart.TheVariants as first_part
use Rattle.c_grammar.specs.Lexemes.{place}
use Rattle.c_grammar.specs.Trees.{has_typedef}
use Rattle.c_grammar.specs.Rules.{Scope, DeclaratorRead, DeclaratorsRead, Initializer, Braces, Initializers, InitDeclarators, MoreDeclarators, Declaration, MaybeExpression, Statement, Block, BlockItems, External, Externals, Unit as WholeFile}
use Rattle.c_grammar.specs.Statements.{add_declarator, behind_declarator, declare, declared, as_external, if_rest, for_rest, statement_place}
use Rattle.tree_order.specs.Stands.{InitialStands, DeclaratorsStand, StartStands, StmtStands, ExternalStands}
use Rattle.tree_order.proofs.StatementForms.{stands-Value, stands-InitList, stands-Decl, stands-Block, stands-Expression, stands-If, stands-IfElse, stands-While, stands-DoWhile, stands-For, stands-Break, stands-Continue, stands-Return, stands-Declaration, stands-Statement, stands-Tree}
use Rattle.read_order.proofs.Spans.{Within, IsAt, within_of, mapped, nothing, joined, behind_token, widened}
use Rattle.read_order.proofs.Standing.{stop, Keep, Placed}

pub initializer_placed : (s : Scope) → Placed (Initializer s)
initializer_placed s = λ from. ((λ a end more x. x), (λ a end more x. mapped (stands-Value a) (within_of a x)))

pub braces_placed : (s : Scope) → Placed (Braces s)
braces_placed s = λ from t is above long list end more x. mapped (stands-InitList (place t) list) (behind_token (place t) x above long)

pub initializers_placed : (s : Scope) → Placed (Initializers s)
initializers_placed s = λ from one at more x. (
  (λ c closes under wide. joined {next = stop c} x (nothing (omega arith) (λ to le. le)) (omega (arith, under, wide))),
  (λ c comma under wide. (
    (λ d closes beyond last. joined {next = stop d} x (nothing (omega arith) (λ to le. le)) (omega (arith, under, wide, beyond, last))),
    (λ others end late z. joined x z (omega (arith, under, wide))),
  )),
)

-- what follows a declarator that begins at a place, with it
behind_keeps : {A : Type 0} (stands : ℕ → A → Type 0) (from at : ℕ) (s : Scope) (typedefs : Bool) (x : DeclaratorRead) (result : DeclaratorsRead → A) → from ≤ at
    → ((all : DeclaratorsRead) (end : ℕ) → Within (DeclaratorsStand all.declarators) from end → stands end (result all))
    → Keep stands at (behind_declarator s typedefs x result)
behind_keeps stands from at s typedefs x result far known = (
  (λ t is above long value middle more v others end late z.
      known (add_declarator x (Some value) others) end (joined {one = InitialStands (Some value)} (behind_token (place t) v (omega (arith, far, above)) long) z (omega arith))),
  (λ others end late z. known (add_declarator x None others) end (joined {one = InitialStands None} {at = at} (nothing far (λ to le. le)) z (omega arith))),
)

pub init_declarators_placed : (s : Scope) (typedefs : Bool) → Placed (InitDeclarators s typedefs)
init_declarators_placed s typedefs = λ from x at far known.
    behind_keeps (λ end all. Within (DeclaratorsStand all.declarators) from end) from at (declare s typedefs x.name) typedefs x (λ all. all) far (λ all end h. h)

pub more_declarators_placed : (s : Scope) (typedefs : Bool) → Placed (MoreDeclarators s typedefs)
more_declarators_placed s typedefs = λ from. (
  (λ c comma above long all end more z. widened z (omega (arith, above, long)) (omega arith)),
  (λ c ends above long. nothing (omega (arith, above, long)) (λ to le. le)),
)

pub declaration_placed : (s : Scope) → Placed (Declaration s)
declaration_placed s = λ from x at far known. (
  (λ c ends above long. mapped (stands-Decl (declared x (record { declarators = []; scope = s })).tree) (nothing (omega (arith, far, above, long)) (λ to le. le))),
  (λ all end more z. widened (mapped (stands-Decl (declared x all).tree) z) far (omega arith)),
)

pub maybe_placed : (s : Scope) → Placed (MaybeExpression s)
maybe_placed s = λ from. ((λ a end more x. within_of a x), nothing (omega arith) (λ to le. le))

-- the rest of an `if` and of a `for`, behind what was read from a place on
if_keeps : (s : Scope) (loop : Bool) (from p next at after : ℕ) (test : Expr) → from ≤ p → p < next → IsAt test next at → at ≤ after
    → Keep (λ end x. Within (StmtStands x.tree) from end) after (if_rest s loop p test)
if_keeps s loop from p next at after test low less h more = λ x middle late z. (
  (λ t is above long y end last w. mapped (stands-IfElse p test x.tree y.tree) (behind_token p (joined (within_of test h) (joined z w (omega (arith, above, long))) more) low less)),
  mapped (stands-If p test x.tree) (behind_token p (joined (within_of test h) z more) low less),
)

for_keeps : (s : Scope) (from p next at after : ℕ) (first : ForStart) → from ≤ p → p < next → Within (StartStands first) next at → at ≤ after
    → Keep (λ end x. Within (StmtStands x.tree) from end) after (for_rest s p first)
for_keeps s from p next at after first low less h more = λ test middle late u t ends above long step beyond further v c closes under wide x end last z.
    mapped (stands-For p first test step x.tree) (behind_token p (joined h (joined u (joined v z (omega (arith, under, wide))) (omega (arith, above, long))) more) low less)

pub statement_placed : (s : Scope) (loop : Bool) → Placed (Statement s loop)
statement_placed s loop = λ from. (
  (λ t is above long items at more z c closes under wide. mapped (stands-Block (place t) items) (behind_token (place t) (widened z (omega arith) (omega (arith, under, wide))) above long)),
  (
    (λ t is above long o opens under wide test at more x c closes beyond last.
        if_keeps s loop from (place t) (stop o) at (stop c) test above (omega (arith, long, under, wide)) x (omega (arith, beyond, last))),
    (
      (λ t is above long o opens under wide test at more x c closes beyond last y end late z.
          mapped (stands-While (place t) test y.tree) (behind_token (place t) (joined (within_of test x) z (omega (arith, beyond, last))) above (omega (arith, long, under, wide)))),
      (
        (λ t is above long y at more z w whiles under wide o opens beyond last test middle late x c closes further lower e ends nearly done.
            mapped (stands-DoWhile (place t) y.tree test)
            (behind_token (place t) (joined {next = stop o} z (widened (within_of test x) (omega arith) (omega (arith, further, lower, nearly, done))) (omega (arith, under, wide, beyond, last))) above long)),
        (
          (λ t is above long o opens under wide. (
            (λ first at more x. for_keeps first.scope from (place t) (stop o) at at (first_part.Declaration first.tree) above (omega (arith, long, under, wide)) x (omega arith)),
            (λ first at more x c ends beyond last.
                for_keeps s from (place t) (stop o) at (stop c) (first_part.Expression first) above (omega (arith, long, under, wide)) x (omega (arith, beyond, last))),
          )),
          (
            (λ t is above long c ends under wide. nothing (omega (arith, above, long, under, wide)) (λ to le. stands-Break (place t) (stop c) to le)),
            (
              (λ t is above long c ends under wide. nothing (omega (arith, above, long, under, wide)) (λ to le. stands-Continue (place t) (stop c) to le)),
              (
                (λ t is above long a at more x c ends under wide. mapped (stands-Return (place t) a) (behind_token (place t) (widened x (omega arith) (omega (arith, under, wide))) above long)),
                (λ a at more x c ends under wide. mapped (stands-Expression (statement_place a c) a) (widened x (omega arith) (omega (arith, under, wide)))),
              ),
            ),
          ),
        ),
      ),
    ),
  ),
)

pub block_placed : (s : Scope) (loop : Bool) → Placed (Block s loop)
block_placed s loop = λ from t is above long items at more z c closes under wide. widened z (omega (arith, above, long)) (omega (arith, under, wide))

pub block_items_placed : (s : Scope) (loop : Bool) → Placed (BlockItems s loop)
block_items_placed s loop = λ from. (
  (λ x at more z others end late w. joined (mapped (stands-Declaration x.tree) z) w (omega arith)),
  ((λ x at more z others end late w. joined (mapped (stands-Statement x.tree) z) w (omega arith)), nothing (omega arith) (λ to le. le)),
)

pub external_placed : (s : Scope) → Placed (External s)
external_placed s = λ from x at far known. (
  (λ c ends above long. tt),
  (λ y middle more given. (
    (λ body end late z. (z.first, end, z.stands end (omega arith))),
    behind_keeps (λ end all. ExternalStands all.tree) middle middle (declare s (has_typedef x.specs) y.name) (has_typedef x.specs) y (λ all. as_external (declared x all))
        (omega arith) (λ all end h. tt),
  )),
)

pub externals_placed : (s : Scope) → Placed (Externals s)
externals_placed s = λ from. ((λ x at more z others end late w. (z, w)), tt)

pub unit_placed : Placed WholeFile
unit_placed = λ from all end more z. stands-Tree _ z
