-- Initializers, declarations, statements and the file are as deep as the nodes that their rules count.
use Rattle.std.proofs.Common.{◌≡◌, refl, ◌∙◌, ap, ℕ, ◌+◌, max, Bool, map, Some, None, arith}
use Rattle.c_tree.specs.Depth.{deepest, spec_depth, declarator_depth, init_declarator_depth, expr_depth, start_depth, statement_depth, item_depth}
use Rattle.c_tree.specs.declared.expressions.Expr.{Expr}
use Rattle.c_tree.specs.declared.statements.ForStart.{ForStart}
use Rattle.c_tree.specs.declared.statements.ForStart.TheVariants as start
use Rattle.c_tree.proofs.StatementEquations.{depth-Value, depth-InitList, depth-Decl, depth-Block, depth-Expression, depth-If, depth-While, depth-DoWhile, depth-For, depth-Break, depth-Continue, depth-Return, depth-Declaration, depth-Statement, depth-Definition, depth-Tree}
use Rattle.c_grammar.specs.Lexemes.{place}
use Rattle.c_grammar.specs.Trees.{has_typedef}
use Rattle.c_grammar.specs.Rules.{Scope, DeclaratorRead, DeclaratorsRead, Initializer, Braces, Initializers, InitDeclarators, MoreDeclarators, Declaration, MaybeExpression, Statement, Block, BlockItems, External, Externals, Unit as WholeFile}
use Rattle.c_grammar.specs.Statements.{behind_declarator, declare, declared, as_external, if_rest, for_rest}
use Rattle.c_grammar.proofs.Measured.{PartsMeasured}
use Rattle.c_grammar.proofs.Measure.{measure, Fine, Counted}

pub initializer_counted : (s : Scope) → Counted (Initializer s)
initializer_counted s = ((tt, λ a. omega arith), (tt, λ a. depth-Value _ ∙ omega arith))

pub braces_counted : (s : Scope) → Counted (Braces s)
braces_counted s = λ t. (tt, λ list. depth-InitList _ _ ∙ omega arith)

pub initializers_counted : (s : Scope) → Counted (Initializers s)
initializers_counted s = (tt, λ one. ((λ c. omega arith), (λ c. ((λ d. omega arith), (tt, λ more. omega arith)))))

-- what follows a declarator counts with it and with what stood before
behind_counted : {A : Type 0} (end : ℕ → ℕ) (depth : A → ℕ) (before deep : ℕ) (s : Scope) (typedefs : Bool) (x : DeclaratorRead) (result : DeclaratorsRead → A)
    → ((all : DeclaratorsRead) → depth (result all) ≡ end (max before (deepest (map init_declarator_depth all.declarators))))
    → max before (declarator_depth x.tree) ≡ deep
    → PartsMeasured measure Fine end depth deep (behind_declarator s typedefs x result)
behind_counted end depth before deep s typedefs x result is e =
    ((λ t. (tt, λ value. (tt, λ more. is _ ∙ ap end (omega arith)))), (tt, λ more. is _ ∙ ap end (omega arith)))

pub init_declarators_counted : (s : Scope) (typedefs : Bool) → Counted (InitDeclarators s typedefs)
init_declarators_counted s typedefs =
    (tt, λ x. behind_counted (λ d. d) (measure (InitDeclarators s typedefs)) 0 _ (declare s typedefs x.name) typedefs x (λ all. all) (λ all. omega arith) refl)

pub more_declarators_counted : (s : Scope) (typedefs : Bool) → Counted (MoreDeclarators s typedefs)
more_declarators_counted s typedefs = ((λ c. (tt, λ all. omega arith)), (λ c. refl))

pub declaration_counted : (s : Scope) → Counted (Declaration s)
declaration_counted s = (tt, λ x. ((λ c. depth-Decl _ ∙ omega arith), (tt, λ all. depth-Decl _ ∙ omega arith)))

pub maybe_counted : (s : Scope) → Counted (MaybeExpression s)
maybe_counted s = ((tt, λ a. omega arith), refl)

if_counted : (deep : ℕ) (s : Scope) (loop : Bool) (p : ℕ) (test : Expr) → expr_depth test ≡ deep
    → PartsMeasured measure Fine (λ d. d + 1) (λ x. statement_depth x.tree) deep (if_rest s loop p test)
if_counted deep s loop p test e =
    (tt, λ x. ((λ t. (tt, λ y. depth-If _ _ _ (Some y.tree) ∙ omega arith)), depth-If _ _ _ None ∙ omega arith))

for_counted : (deep : ℕ) (s : Scope) (p : ℕ) (first : ForStart) → start_depth first ≡ deep
    → PartsMeasured measure Fine (λ d. d + 1) (λ x. statement_depth x.tree) deep (for_rest s p first)
for_counted deep s p first e = (tt, λ test t. (tt, λ next c. (tt, λ x. depth-For _ _ _ _ _ ∙ omega arith)))

pub statement_counted : (s : Scope) (loop : Bool) → Counted (Statement s loop)
statement_counted s loop = (
  (λ t. (tt, λ items c. depth-Block _ _ ∙ omega arith)),
  (
    (λ t o. (tt, λ test c. if_counted _ s loop (place t) test (omega arith))),
    (
      (λ t o. (tt, λ test c. (tt, λ x. depth-While _ _ _ ∙ omega arith))),
      (
        (λ t. (tt, λ x w o. (tt, λ test c e. depth-DoWhile _ _ _ ∙ omega arith))),
        (
          (λ t o. (
            (tt, λ first. for_counted _ first.scope (place t) (start.Declaration first.tree) (omega arith)),
            (tt, λ first c. for_counted _ s (place t) (start.Expression first) (omega arith)),
          )),
          (
            (λ t c. depth-Break _),
            (
              (λ t c. depth-Continue _),
              (
                (λ t. (tt, λ a c. depth-Return _ _ ∙ omega arith)),
                (tt, λ a c. depth-Expression _ _ ∙ omega arith),
              ),
            ),
          ),
        ),
      ),
    ),
  ),
)

pub block_counted : (s : Scope) (loop : Bool) → Counted (Block s loop)
block_counted s loop = λ t. (tt, λ items c. omega arith)

pub block_items_counted : (s : Scope) (loop : Bool) → Counted (BlockItems s loop)
block_items_counted s loop = (
  (tt, λ x. (tt, λ more. ap (λ n. max n (deepest (map item_depth more))) (depth-Declaration _) ∙ omega arith)),
  ((tt, λ x. (tt, λ more. ap (λ n. max n (deepest (map item_depth more))) (depth-Statement _) ∙ omega arith)), refl),
)

pub external_counted : (s : Scope) → Counted (External s)
external_counted s = (
  tt,
  λ x. (
    (λ c. depth-Decl _ ∙ omega arith),
    (
      tt,
      λ y. (
        (tt, λ body. depth-Definition _ ∙ omega arith),
        behind_counted (λ d. d + 1) (measure (External s)) (deepest (map spec_depth x.specs)) _ (declare s (has_typedef x.specs) y.name) (has_typedef x.specs) y
            (λ all. as_external (declared x all)) (λ all. depth-Decl _) (omega arith),
      ),
    ),
  ),
)

pub externals_counted : (s : Scope) → Counted (Externals s)
externals_counted s = ((tt, λ x. (tt, λ more. omega arith)), refl)

pub unit_counted : Counted WholeFile
unit_counted = (tt, λ all. depth-Tree _ ∙ omega arith)
