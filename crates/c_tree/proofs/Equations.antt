-- How deep a tree is, from how deep its parts are.
use Rattle.std.proofs.Common.{◌≡◌, refl, sym, ◌∙◌, ap, ℕ, ◌+◌, ◌-◌, ◌^◌, max, min, List, [], ◌∷◌, map, Option, Some, None, arith, length, drop, ◌<◌, ◌≤◌, get_or}
use Rattle.std.proofs.Math.ListN.{drop_of_length-le}
use Rattle.std.proofs.lemmas.List.{drop_more}
use denote.Hole.Carrier.{hidden}
use Rattle.c_tree.specs.Depth.{node, deepest, saturated, expr_depth, exprs_depth, spec_depth, specs_depth, members_depth, enumerators_depth, written_depth, declarator_depth, declarators_depth, parameters_depth, params_depth, optional_depth, type_name_depth, member_depth, enumerator_depth, param_depth}
use Rattle.c_tree.specs.declared.expressions.Declarator.{Declarator}
use Rattle.c_tree.specs.declared.expressions.Declarator.TheVariants as declarator
use Rattle.c_tree.specs.declared.expressions.Declarator.TheBlock.{hidden-the_row-Declarator-0, shape-the_row-Declarator-0, hidden-the_row-Declarator-6, shape-the_row-Declarator-6, hidden-the_row-Expr-1, shape-the_row-Expr-1, hidden-the_row-Expr-2, shape-the_row-Expr-2, hidden-the_row-Spec-3, shape-the_row-Spec-3, hidden-the_row-TypeName-4, shape-the_row-TypeName-4, hidden-the_row-Param-5, shape-the_row-Param-5, hidden-the_row-Member-7, shape-the_row-Member-7, hidden-the_row-Enumerator-8, shape-the_row-Enumerator-8, back-Declarator-Array-2}
use Rattle.c_tree.specs.declared.expressions.Enumerator.{Enumerator}
use Rattle.c_tree.specs.declared.expressions.Expr.{Expr}
use Rattle.c_tree.specs.declared.expressions.Expr.TheVariants as expr
use Rattle.c_tree.specs.declared.expressions.Member.{Member}
use Rattle.c_tree.specs.declared.expressions.Param.{Param}
use Rattle.c_tree.specs.declared.expressions.Parameters.{Parameters}
use Rattle.c_tree.specs.declared.expressions.Parameters.TheVariants as params
use Rattle.c_tree.specs.declared.expressions.PointerQualifier.{PointerQualifier}
use Rattle.c_tree.specs.declared.expressions.AccessOperator.{AccessOperator}
use Rattle.c_tree.specs.declared.expressions.AssignmentOperator.{AssignmentOperator}
use Rattle.c_tree.specs.declared.expressions.BinaryOperator.{BinaryOperator}
use Rattle.c_tree.specs.declared.expressions.StepOperator.{StepOperator}
use Rattle.c_tree.specs.declared.expressions.UnaryOperator.{UnaryOperator}
use Rattle.c_tree.specs.declared.words.Attr.{Attr}
use Rattle.c_tree.specs.declared.words.FunctionWord.{FunctionWord}
use Rattle.c_tree.specs.declared.words.Qualifier.{Qualifier}
use Rattle.c_tree.specs.declared.words.Span.{Span}
use Rattle.c_tree.specs.declared.words.StorageWord.{StorageWord}
use Rattle.c_tree.specs.declared.words.TypeWord.{TypeWord}
use Rattle.c_tree.specs.declared.expressions.Spec.{Spec}
use Rattle.c_tree.specs.declared.expressions.Spec.TheVariants as spec
use Rattle.c_tree.specs.declared.expressions.TypeName.{TypeName}

pub saturated-max : (a b : ℕ) → saturated (max a b) ≡ max (saturated a) (saturated b)
unfolding saturated
saturated-max a b = omega arith

pub saturated-node : (n : ℕ) → saturated (node n) ≡ min (saturated n + 1) (2 ^ 32 - 1)
unfolding saturated
saturated-node n = omega arith

max-zero : (a : ℕ) → max a (saturated 0) ≡ a
unfolding saturated
max-zero a = omega arith

max-assoc-flipped : (a b c : ℕ) → max a (max b c) ≡ max (max a b) c
max-assoc-flipped a b c = omega arith

exprs_row : (es : List Expr) → exprs_depth (hidden-the_row-Expr-2 es) ≡ deepest (map expr_depth es)
unfolding expr_depth hidden hidden-the_row-Expr-2 shape-the_row-Expr-2
exprs_row [] = refl
exprs_row (e ∷ es) = ap (max (expr_depth e)) (exprs_row es)

specs_row : (ss : List Spec) → specs_depth (hidden-the_row-Spec-3 ss) ≡ deepest (map spec_depth ss)
unfolding expr_depth hidden hidden-the_row-Spec-3 shape-the_row-Spec-3
specs_row [] = refl
specs_row (s ∷ ss) = ap (max (spec_depth s)) (specs_row ss)

declarators_row : (ds : List Declarator) → declarators_depth (hidden-the_row-Declarator-6 ds) ≡ deepest (map declarator_depth ds)
unfolding expr_depth hidden hidden-the_row-Declarator-6 shape-the_row-Declarator-6
declarators_row [] = refl
declarators_row (d ∷ ds) = ap (max (declarator_depth d)) (declarators_row ds)

written_row : (value : Option Expr) → written_depth (back-Declarator-Array-2 value) ≡ optional_depth value
unfolding expr_depth hidden hidden-the_row-Expr-1 shape-the_row-Expr-1
written_row None = refl
written_row (Some e) = refl

params_row : (ps : List Param) → params_depth (hidden-the_row-Param-5 ps) ≡ deepest (map param_depth ps)
unfolding expr_depth hidden hidden-the_row-Param-5 shape-the_row-Param-5 hidden-the_row-Spec-3 shape-the_row-Spec-3 hidden-the_row-Declarator-0 shape-the_row-Declarator-0
params_row [] = refl
params_row (p ∷ ps) = ap (λ n. max (max n (declarator_depth p.declarator)) (params_depth (hidden-the_row-Param-5 ps))) (specs_row p.specs) ∙ ap (max (param_depth p)) (params_row ps)

members_row : (ms : List Member) → members_depth (hidden-the_row-Member-7 ms) ≡ deepest (map member_depth ms)
unfolding expr_depth hidden hidden-the_row-Member-7 shape-the_row-Member-7 hidden-the_row-Spec-3 shape-the_row-Spec-3 hidden-the_row-Declarator-6 shape-the_row-Declarator-6
members_row [] = refl
members_row (m ∷ ms) = ap (λ n. max (max n (declarators_depth (hidden-the_row-Declarator-6 m.declarators))) (members_depth (hidden-the_row-Member-7 ms))) (specs_row m.specs)
    ∙ ap (λ n. max (max (deepest (map spec_depth m.specs)) n) (members_depth (hidden-the_row-Member-7 ms))) (declarators_row m.declarators)
    ∙ ap (max (member_depth m)) (members_row ms)

enumerators_row : (es : List Enumerator) → enumerators_depth (hidden-the_row-Enumerator-8 es) ≡ deepest (map enumerator_depth es)
unfolding expr_depth hidden hidden-the_row-Enumerator-8 shape-the_row-Enumerator-8 hidden-the_row-Expr-1 shape-the_row-Expr-1
enumerators_row [] = refl
enumerators_row (e ∷ es) = ap (λ n. max n (enumerators_depth (hidden-the_row-Enumerator-8 es))) (written_row e.value) ∙ ap (max (enumerator_depth e)) (enumerators_row es)

pub depth-Name : (n : Span) → expr_depth (expr.Name n) ≡ node 0
unfolding expr_depth
depth-Name n = refl

pub depth-Number : (n : Span) → expr_depth (expr.Number n) ≡ node 0
unfolding expr_depth
depth-Number n = refl

pub depth-Character : (n : Span) → expr_depth (expr.Character n) ≡ node 0
unfolding expr_depth
depth-Character n = refl

pub depth-Text : (ns : List Span) → expr_depth (expr.Text ns) ≡ node 0
unfolding expr_depth
depth-Text ns = refl

pub depth-Parenthesised : (p : ℕ) (e : Expr) → expr_depth (expr.Parenthesised p e) ≡ node (expr_depth e)
unfolding expr_depth hidden hidden-the_row-Expr-1 shape-the_row-Expr-1
depth-Parenthesised p e = refl

pub depth-Index : (p : ℕ) (a b : Expr) → expr_depth (expr.Index p a b) ≡ node (max (expr_depth a) (expr_depth b))
unfolding expr_depth hidden hidden-the_row-Expr-1 shape-the_row-Expr-1
depth-Index p a b = refl

pub depth-Call : (p : ℕ) (f : Expr) (es : List Expr) → expr_depth (expr.Call p f es) ≡ node (max (expr_depth f) (deepest (map expr_depth es)))
unfolding expr_depth hidden hidden-the_row-Expr-1 shape-the_row-Expr-1 hidden-the_row-Expr-2 shape-the_row-Expr-2
depth-Call p f es = ap (λ d. node (max (expr_depth f) d)) (exprs_row es)

pub depth-Access : (p : ℕ) (e : Expr) (o : AccessOperator) (n : Span) → expr_depth (expr.Access p e o n) ≡ node (expr_depth e)
unfolding expr_depth hidden hidden-the_row-Expr-1 shape-the_row-Expr-1
depth-Access p e o n = refl

pub depth-Step : (p : ℕ) (e : Expr) (o : StepOperator) → expr_depth (expr.Step p e o) ≡ node (expr_depth e)
unfolding expr_depth hidden hidden-the_row-Expr-1 shape-the_row-Expr-1
depth-Step p e o = refl

pub depth-Unary : (p : ℕ) (o : UnaryOperator) (e : Expr) → expr_depth (expr.Unary p o e) ≡ node (expr_depth e)
unfolding expr_depth hidden hidden-the_row-Expr-1 shape-the_row-Expr-1
depth-Unary p o e = refl

pub depth-SizeofType : (p : ℕ) (t : TypeName) → expr_depth (expr.SizeofType p t) ≡ node (type_name_depth t)
unfolding expr_depth hidden hidden-the_row-Expr-1 shape-the_row-Expr-1 hidden-the_row-Declarator-0 shape-the_row-Declarator-0 hidden-the_row-Spec-3 shape-the_row-Spec-3 hidden-the_row-TypeName-4 shape-the_row-TypeName-4
depth-SizeofType p t = ap (λ n. node (max n (declarator_depth t.declarator))) (specs_row t.specs)

pub depth-Cast : (p : ℕ) (t : TypeName) (e : Expr) → expr_depth (expr.Cast p t e) ≡ node (max (type_name_depth t) (expr_depth e))
unfolding expr_depth hidden hidden-the_row-Expr-1 shape-the_row-Expr-1 hidden-the_row-Declarator-0 shape-the_row-Declarator-0 hidden-the_row-Spec-3 shape-the_row-Spec-3 hidden-the_row-TypeName-4 shape-the_row-TypeName-4
depth-Cast p t e = ap (λ n. node (max (max n (declarator_depth t.declarator)) (expr_depth e))) (specs_row t.specs)

pub depth-Binary : (p : ℕ) (a : Expr) (o : BinaryOperator) (q : ℕ) (b : Expr) → expr_depth (expr.Binary p a o q b) ≡ node (max (expr_depth a) (expr_depth b))
unfolding expr_depth hidden hidden-the_row-Expr-1 shape-the_row-Expr-1
depth-Binary p a o q b = refl

pub depth-Conditional : (p : ℕ) (a b c : Expr) → expr_depth (expr.Conditional p a b c) ≡ node (max (expr_depth a) (max (expr_depth b) (expr_depth c)))
unfolding expr_depth hidden hidden-the_row-Expr-1 shape-the_row-Expr-1
depth-Conditional p a b c = refl

pub depth-Assignment : (p : ℕ) (a : Expr) (o : AssignmentOperator) (q : ℕ) (b : Expr) → expr_depth (expr.Assignment p a o q b) ≡ node (max (expr_depth a) (expr_depth b))
unfolding expr_depth hidden hidden-the_row-Expr-1 shape-the_row-Expr-1
depth-Assignment p a o q b = refl

pub depth-Struct : (p : ℕ) (t : Option Span) (ms : List Member) → spec_depth (spec.Struct p t ms) ≡ deepest (map member_depth ms)
unfolding expr_depth hidden hidden-the_row-Member-7 shape-the_row-Member-7
depth-Struct p t ms = members_row ms

pub depth-Enum : (p : ℕ) (t : Option Span) (es : List Enumerator) → spec_depth (spec.Enum p t es) ≡ deepest (map enumerator_depth es)
unfolding expr_depth hidden hidden-the_row-Enumerator-8 shape-the_row-Enumerator-8
depth-Enum p t es = enumerators_row es

pub depth-Pointer : (p : ℕ) (qs : List PointerQualifier) (d : Declarator) → declarator_depth (declarator.Pointer p qs d) ≡ node (declarator_depth d)
unfolding expr_depth hidden hidden-the_row-Declarator-0 shape-the_row-Declarator-0
depth-Pointer p qs d = refl

pub depth-Grouped : (p : ℕ) (d : Declarator) → declarator_depth (declarator.Parenthesised p d) ≡ node (declarator_depth d)
unfolding expr_depth hidden hidden-the_row-Declarator-0 shape-the_row-Declarator-0
depth-Grouped p d = refl

pub depth-Array : (d : Declarator) (p : ℕ) (size : Option Expr) → declarator_depth (declarator.Array d p size) ≡ node (max (declarator_depth d) (optional_depth size))
unfolding expr_depth hidden hidden-the_row-Declarator-0 shape-the_row-Declarator-0
depth-Array d p size = ap (λ n. node (max (declarator_depth d) n)) (written_row size)

pub depth-Function : (d : Declarator) (p : ℕ) (ps : Parameters) (attrs : List Attr) → declarator_depth (declarator.Function d p ps attrs) ≡ node (max (declarator_depth d) (parameters_depth ps))
unfolding expr_depth hidden hidden-the_row-Declarator-0 shape-the_row-Declarator-0
depth-Function d p ps attrs = refl

pub depth-List : (ps : List Param) → parameters_depth (params.List ps) ≡ deepest (map param_depth ps)
unfolding expr_depth hidden hidden-the_row-Param-5 shape-the_row-Param-5
depth-List ps = params_row ps

pub saturated-0 : saturated 0 ≡ 0
unfolding saturated
saturated-0 = refl

pub saturated-1 : saturated (node 0) ≡ 1
unfolding saturated
saturated-1 = refl

pub depth-Storage : (p : ℕ) (w : StorageWord) → spec_depth (spec.Storage p w) ≡ 0
unfolding expr_depth
depth-Storage p w = refl

pub depth-FunctionWord : (p : ℕ) (w : FunctionWord) → spec_depth (spec.Function p w) ≡ 0
unfolding expr_depth
depth-FunctionWord p w = refl

pub depth-Qualifier : (p : ℕ) (w : Qualifier) → spec_depth (spec.Qualifier p w) ≡ 0
unfolding expr_depth
depth-Qualifier p w = refl

pub depth-Type : (p : ℕ) (w : TypeWord) → spec_depth (spec.«Type» p w) ≡ 0
unfolding expr_depth
depth-Type p w = refl

pub depth-TypedefName : (n : Span) → spec_depth (spec.TypedefName n) ≡ 0
unfolding expr_depth
depth-TypedefName n = refl

pub depth-Attribute : (a : Attr) → spec_depth (spec.Attribute a) ≡ 0
unfolding expr_depth
depth-Attribute a = refl

pub depth-StructName : (p : ℕ) (n : Span) → spec_depth (spec.StructName p n) ≡ 0
unfolding expr_depth
depth-StructName p n = refl

pub depth-EnumName : (p : ℕ) (n : Span) → spec_depth (spec.EnumName p n) ≡ 0
unfolding expr_depth
depth-EnumName p n = refl

pub depth-Declared : (n : Span) → declarator_depth (declarator.Name n) ≡ 0
unfolding expr_depth
depth-Declared n = refl

pub depth-Absent : declarator_depth declarator.Absent ≡ 0
unfolding expr_depth
depth-Absent = refl

pub depth-Empty : parameters_depth params.Empty ≡ 0
unfolding expr_depth
depth-Empty = refl

pub depth-Void : (p : ℕ) → parameters_depth (params.Void p) ≡ 0
unfolding expr_depth
depth-Void p = refl

-- One more was looked at: `most` is of those before, and the rest is still to be looked at.
pub deepest-more : {A : Type 0} (f : A → ℕ) (xs : List A) (i : ℕ) (x : A) (whole most next : ℕ) →
    whole ≡ max most (saturated (deepest (map f (drop i xs)))) → i < length xs → x ≡ get_or xs i x → next ≡ max most (saturated (f x)) →
    whole ≡ max next (saturated (deepest (map f (drop (i + 1) xs))))
deepest-more f xs i x whole most next so_far below is more =
    let here : drop i xs ≡ x ∷ drop (i + 1) xs = drop_more xs i x below ∙ ap (λ y. y ∷ drop (i + 1) xs) (sym is) in
    so_far ∙ ap (λ ys. max most (saturated (deepest (map f ys)))) here ∙ ap (max most) (saturated-max (f x) (deepest (map f (drop (i + 1) xs))))
    ∙ max-assoc-flipped most (saturated (f x)) _ ∙ ap (λ n. max n (saturated (deepest (map f (drop (i + 1) xs))))) (sym more)

pub deepest-end : {A : Type 0} (f : A → ℕ) (xs : List A) (i : ℕ) (whole most : ℕ) →
    whole ≡ max most (saturated (deepest (map f (drop i xs)))) → length xs ≤ i → most ≡ whole
unfolding saturated
deepest-end f xs i whole most so_far all =
    let end : max most (saturated (deepest (map f (drop i xs)))) ≡ max most (saturated 0) =
    ap (λ ys. max most (saturated (deepest (map f ys)))) (drop_of_length-le xs all) in
    sym (so_far ∙ end ∙ max-zero most)

pub ruleset depth_rules = (saturated-0, saturated-1, depth-Storage, depth-FunctionWord, depth-Qualifier, depth-Type, depth-TypedefName, depth-Attribute, depth-StructName, depth-EnumName, depth-Declared, depth-Absent, depth-Empty, depth-Void, saturated-max, saturated-node, depth-Name, depth-Number, depth-Character, depth-Text, depth-Parenthesised, depth-Index, depth-Call, depth-Access, depth-Step, depth-Unary, depth-SizeofType, depth-Cast, depth-Binary, depth-Conditional, depth-Assignment, depth-Struct, depth-Enum, depth-Pointer, depth-Grouped, depth-Array, depth-Function, depth-List)
