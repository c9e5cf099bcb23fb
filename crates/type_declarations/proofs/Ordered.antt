-- The specifiers and the declarators of a declaration, item by item.
use Rattle.std.proofs.Common.{◌≡◌, ◌∙◌, refl, sym, ap, Bool, List, [], ◌∷◌, ◌++◌, append_assoc, append-nil}
use Rattle.c_tree.specs.declared.declarations.InitDeclarator.{InitDeclarator}
use Rattle.c_tree.specs.declared.expressions.Spec.{Spec}
use Rattle.core_unit.specs.declared.body.Stmt.{Stmt}
use Rattle.type_declarations.specs.Declared.{name_declared, one_declarator}
use Rattle.type_recursion.proofs.Continued.{then_assoc, then_alike}
use Rattle.type_recursion.specs.Lists.{in_order}
use Rattle.type_rules.specs.Declarations.{all_specifiers, init_declarator, init_declarators}
use Rattle.type_rules.specs.Reading.{Read, Good, Bad, and_then}
use Rattle.type_rules.specs.Recursion.{specifier}
use Rattle.type_rules.specs.Seen.{Seen}
use Rattle.type_rules.specs.declared.specifiers.Specifiers.{Specifiers}

pub specifiers-list : (ss : List Spec) (b : Specifiers) (s : Seen) → all_specifiers ss b s ≡ in_order specifier ss b s
unfolding in_order
specifiers-list [] b s = refl
specifiers-list (x ∷ xs) b s = then_alike (specifier x b s) _ _ (λ next t. specifiers-list xs next t)

pub ruleset specifier_rules = (specifiers-list)

unfoldable behind : (before : List Stmt) (read : Read (List Stmt)) → Read (List Stmt)
behind before read = and_then read (λ others t. Good (before ++ others) t)

behind_none : (read : Read (List Stmt)) → read ≡ behind [] read
unfolding behind and_then
behind_none (Good all t) = refl
behind_none (Bad n p) = refl

behind_more : (before some : List Stmt) (read : Read (List Stmt)) →
    behind before (and_then read (λ others t. Good (some ++ others) t)) ≡ behind (before ++ some) read
unfolding behind and_then
behind_more before some (Good others t) = ap (λ all. Good all t) (sym (append_assoc before some others))
behind_more before some (Bad n p) = refl

-- those that remain, behind what those before gave
remaining : (in_block : Bool) (b : Specifiers) (ds : List InitDeclarator) (before : List Stmt) (s : Seen) →
    behind before (init_declarators b (name_declared in_block) ds s) ≡ in_order (one_declarator in_block b) ds before s
unfolding behind in_order one_declarator and_then
remaining in_block b [] before s = ap (λ all. Good all s) (append-nil before)
remaining in_block b (d ∷ ds) before s =
    then_assoc (init_declarator b (name_declared in_block) d s) _ _
    ∙ then_alike (init_declarator b (name_declared in_block) d s) _ _
    (λ some t. behind_more before some (init_declarators b (name_declared in_block) ds t) ∙ remaining in_block b ds (before ++ some) t)
    ∙ sym (then_assoc (init_declarator b (name_declared in_block) d s) (λ some t. Good (before ++ some) t) (λ all. in_order (one_declarator in_block b) ds all))

pub declarators-order : (in_block : Bool) (b : Specifiers) (ds : List InitDeclarator) (s : Seen) →
    init_declarators b (name_declared in_block) ds s ≡ in_order (one_declarator in_block b) ds [] s
declarators-order in_block b ds s = behind_none (init_declarators b (name_declared in_block) ds s) ∙ remaining in_block b ds [] s

pub ruleset declarator_rules = (declarators-order)
