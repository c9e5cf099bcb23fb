-- Declarations: each rule as an equation.
use Rattle.std.proofs.Common.{◌≡◌, refl, ℕ, zero, suc, ◌+◌, ◌-◌, ◌<◌, max, Bool, true, false, cond, List, [], ◌∷◌, ◌++◌, append-nil, append_assoc, Option, Some, None, Err, ap, ◌∙◌, sym, arith}
use Rattle.grammar.specs.Parts.{Return, Call, Either}
use Rattle.grammar.specs.Parser.{Outcome, Got, Bad, after, deepen, one_more}
use Rattle.c_tree.specs.declared.expressions.Declarator as declarator
use Rattle.c_tree.specs.declared.declarations.Init.{Init}
use Rattle.c_tree.specs.declared.declarations.InitDeclarator.{InitDeclarator}
use Rattle.c_grammar.specs.Lexemes.{Lexeme, is}
use Rattle.c_grammar.specs.declared.terminal.Terminal.TheVariants as k
use Rattle.c_grammar.specs.declared.state.DeclaratorKind.TheVariants.{Ordinary as OrdinaryKind}
use Rattle.c_grammar.specs.declared.state.Bracket.TheVariants.{Unknown}
use Rattle.c_grammar.specs.declared.state.SpecifierContext.TheVariants.{Block as BlockContext}
use Rattle.c_grammar.specs.Rules.{Scope, SpecsRead, DeclaratorRead, DeclaratorsRead, DeclarationRead, Specs, Declaration, Declarator, Initializer, InitDeclarators, MoreDeclarators}
use Rattle.c_grammar.specs.Trees.{has_typedef}
use Rattle.c_grammar.specs.Expressions.{Reading, word}
use Rattle.c_grammar.specs.Specifiers.{no_specs}
use Rattle.c_grammar.specs.Lookahead.{starts_specs}
use Rattle.c_grammar.specs.Statements.{declare, declared, declaration, add_declarator, behind_declarator, init_declarators, more_declarators}
use Rattle.parse_input.specs.Input.{Input, sees, behind}
use Rattle.parse_input.specs.Reads.{named, reads}
use Rattle.parse_input.specs.declared.read.Refusal.{Refusal}
use Rattle.parse_input.specs.declared.read.Refusal.TheVariants.{Refused, NoMemory}
use Rattle.parse_input.proofs.Steps.{plain_rule, node_rule, full_rule, max_zero}
use Rattle.parse_declarations.specs.Scoped.{Leaves, OneRead, one_read, declarators_read, with_value, behind_one, one_declarator, behind_declarators}
use Rattle.parse_input.proofs.Choices.{twice}
use Rattle.parse_declarations.proofs.Gathered.{mapped, mapped_same, one_call}

abbrev valued : declarator.Declarator → Init → InitDeclarator
valued tree value = record { declarator = tree; init = Some value }

abbrev bare : declarator.Declarator → InitDeclarator
bare tree = record { declarator = tree; init = None }

pub value_rule : (room : ℕ) (s : Scope) (tree : declarator.Declarator) (ts : List Lexeme)
    → reads (named room) (with_value s tree) ts
    ≡ cond (sees (is k.Equal) ts) (mapped (λ value. valued tree value) (named room (Initializer s) (behind ts))) (Got (bare tree) 0 ts)
unfolding with_value
value_rule room s tree ts =
    twice (sees (is k.Equal) ts) _ _ _
    ∙ ap (λ o. cond (sees (is k.Equal) ts) o (Got (bare tree) 0 ts)) (one_call (named room) (Initializer s) (λ value. valued tree value) (behind ts))

-- the same, with the scope
abbrev pub scoped : Scope → Outcome Lexeme InitDeclarator → Outcome Lexeme OneRead
scoped s (Got x d left) = Got (one_read x s) d left
scoped s (Bad deep left) = Bad deep left

pub one_rule : (room : ℕ) (s : Scope) (typedefs : Bool) (ts : List Lexeme)
    → reads (named room) (one_declarator s typedefs) ts
    ≡ after (λ x d left. deepen d (scoped (declare s typedefs x.name) (reads (named room) (with_value (declare s typedefs x.name) x.tree) left)))
    (named room (Declarator s OrdinaryKind Unknown) ts)
unfolding one_declarator with_value
one_rule room s typedefs ts = go (named room (Declarator s OrdinaryKind Unknown) ts)
  where
    within : (s : Scope) (x : DeclaratorRead) (b : Bool) (left : List Lexeme) (o : Outcome Lexeme Init)
        → cond b (cond b (after (λ v d us. deepen d (Got (one_read (valued x.tree v) s) zero us)) o) (Bad false left)) (Got (one_read (bare x.tree) s) zero left)
        ≡ scoped s (cond b (cond b (after (λ v d us. deepen d (Got (valued x.tree v) zero us)) o) (Bad false left)) (Got (bare x.tree) zero left))
    within s x true left (Got v d us) = refl
    within s x true left (Bad deep us) = refl
    within s x false left o = refl

    go : (o : Outcome Lexeme DeclaratorRead)
        → after (λ x d left. deepen d (reads (named room) (behind_one (declare s typedefs x.name) x) left)) o
        ≡ after (λ x d left. deepen d (scoped (declare s typedefs x.name) (reads (named room) (with_value (declare s typedefs x.name) x.tree) left))) o
    go (Got x d left) =
        ap (λ o. deepen d o)
        (within (declare s typedefs x.name) x (sees (is k.Equal) left) left (named room (Initializer (declare s typedefs x.name)) (behind left)))
    go (Bad deep left) = refl

-- a list of declarators, by its first
abbrev and_more : ℕ → Bool → Scope → InitDeclarator → ℕ → List Lexeme → Outcome Lexeme DeclaratorsRead
and_more room typedefs s one d left = behind_declarators (one ∷ []) d (named room (MoreDeclarators s typedefs) left)

max_both : (d e f : ℕ) → max d (max e f) ≡ max (max d e) f
max_both d e f = omega arith

deeper_more : (one : InitDeclarator) (d e : ℕ) (o : Outcome Lexeme DeclaratorsRead)
    → deepen d (behind_declarators (one ∷ []) e o) ≡ behind_declarators (one ∷ []) (max d e) o
deeper_more one d e (Got more f left) = ap (λ n. Got (declarators_read (one ∷ more.declarators) more.scope) n left) (max_both d e f)
deeper_more one d e (Bad deep left) = refl

added : (x : DeclaratorRead) (value : Option Init) (o : Outcome Lexeme DeclaratorsRead)
    → after (λ more d left. deepen d (Got (add_declarator x value more) zero left)) o
    ≡ behind_declarators (record { declarator = x.tree; init = value } ∷ []) 0 o
added x value (Got more d left) = ap (λ n. Got (add_declarator x value more) n left) (max_zero d ∙ zero_max d)
  where
    zero_max : (n : ℕ) → n ≡ max 0 n
    zero_max n = omega arith
added x value (Bad deep left) = refl

-- behind a declarator
pub behind_rule : (room : ℕ) (s : Scope) (typedefs : Bool) (x : DeclaratorRead) (ts : List Lexeme)
    → reads (named room) (behind_declarator s typedefs x (λ all. all)) ts
    ≡ after (λ one d left. and_more room typedefs s one d left) (reads (named room) (with_value s x.tree) ts)
behind_rule room s typedefs x ts = go (sees (is k.Equal) ts) (named room (Initializer s) (behind ts)) ∙ ap (λ o. after (λ one d left. and_more room typedefs s one d left) o) (sym (value_rule room s x.tree ts))
  where
    go : (b : Bool) (o : Outcome Lexeme Init)
        → cond b (cond b (after (λ v d left. deepen d (after (λ more e us. deepen e (Got (add_declarator x (Some v) more) zero us)) (named room (MoreDeclarators s typedefs) left))) o) (Bad false ts))
        (after (λ more e us. deepen e (Got (add_declarator x None more) zero us)) (named room (MoreDeclarators s typedefs) ts))
        ≡ after (λ one d left. and_more room typedefs s one d left) (cond b (mapped (λ v. valued x.tree v) o) (Got (bare x.tree) 0 ts))
    go true (Got v d left) =
        ap (λ o. deepen d o) (added x (Some v) (named room (MoreDeclarators s typedefs) left))
        ∙ deeper_more (valued x.tree v) d 0 (named room (MoreDeclarators s typedefs) left)
        ∙ ap (λ n. behind_declarators (valued x.tree v ∷ []) n (named room (MoreDeclarators s typedefs) left)) (max_zero d)
    go true (Bad deep left) = refl
    go false o = added x None (named room (MoreDeclarators s typedefs) ts)

pub init_rule : (room : ℕ) (s : Scope) (typedefs : Bool) (ts : List Lexeme)
    → named room (InitDeclarators s typedefs) ts
    ≡ after (λ one d left. and_more room typedefs one.scope one.declarator d left) (reads (named room) (one_declarator s typedefs) ts)
init_rule room s typedefs ts =
    plain_rule room (InitDeclarators s typedefs) ts (init_declarators s typedefs) refl
    ∙ go (named room (Declarator s OrdinaryKind Unknown) ts)
    ∙ ap (λ o. after (λ one d left. and_more room typedefs one.scope one.declarator d left) o) (sym (one_rule room s typedefs ts))
  where
    over : (t : Scope) (d : ℕ) (o : Outcome Lexeme InitDeclarator)
        → deepen d (after (λ one e left. and_more room typedefs t one e left) o)
        ≡ after (λ one e left. and_more room typedefs one.scope one.declarator e left) (deepen d (scoped t o))
    over t d (Got one e left) = deeper_more one d e (named room (MoreDeclarators t typedefs) left)
    over t d (Bad deep left) = refl

    go : (o : Outcome Lexeme DeclaratorRead)
        → after (λ x d left. deepen d (reads (named room) (behind_declarator (declare s typedefs x.name) typedefs x (λ all. all)) left)) o
        ≡ after (λ one d left. and_more room typedefs one.scope one.declarator d left)
        (after (λ x d left. deepen d (scoped (declare s typedefs x.name) (reads (named room) (with_value (declare s typedefs x.name) x.tree) left))) o)
    go (Got x d left) =
        ap (λ o. deepen d o) (behind_rule room (declare s typedefs x.name) typedefs x left)
        ∙ over (declare s typedefs x.name) d (reads (named room) (with_value (declare s typedefs x.name) x.tree) left)
    go (Bad deep left) = refl

-- what follows a declarator up to the `;`
pub more_rule : (room : ℕ) (s : Scope) (typedefs : Bool) (ts : List Lexeme)
    → named room (MoreDeclarators s typedefs) ts
    ≡ cond (sees (is k.Comma) ts) (named room (InitDeclarators s typedefs) (behind ts))
    (cond (sees (is k.Semicolon) ts) (Got (declarators_read [] s) 0 (behind ts)) (Bad false ts))
more_rule room s typedefs ts =
    plain_rule room (MoreDeclarators s typedefs) ts (more_declarators s typedefs) refl
    ∙ twice (sees (is k.Comma) ts) _ _ _
    ∙ ap (λ o. cond (sees (is k.Comma) ts) o (cond (sees (is k.Semicolon) ts) (Got (declarators_read [] s) 0 (behind ts)) (Bad false ts)))
    (one_call (named room) (InitDeclarators s typedefs) (λ all. all) (behind ts) ∙ mapped_same (named room (InitDeclarators s typedefs) (behind ts)))

-- the declarators behind those that were read
module _ (room : ℕ) (s : Scope) (typedefs : Bool) (start : Outcome Lexeme DeclaratorsRead) (xs : List InitDeclarator) (depth : ℕ) (ts : List Lexeme)
    (h : start ≡ behind_declarators xs depth (named room (MoreDeclarators s typedefs) ts)) where
  more_here : start
      ≡ behind_declarators xs depth (cond (sees (is k.Comma) ts) (named room (InitDeclarators s typedefs) (behind ts))
      (cond (sees (is k.Semicolon) ts) (Got (declarators_read [] s) 0 (behind ts)) (Bad false ts)))
  more_here = h ∙ ap (λ o. behind_declarators xs depth o) (more_rule room s typedefs ts)

  pub more_closed : sees (is k.Comma) ts ≡ false → sees (is k.Semicolon) ts ≡ true → start ≡ Got (declarators_read xs s) depth (behind ts)
  more_closed c e =
      more_here ∙ rw c (rw e (ap (λ all. Got (declarators_read all s) (max depth 0) (behind ts)) (append-nil xs)
      ∙ ap (λ n. Got (declarators_read xs s) n (behind ts)) (max_zero depth)))

  pub more_faulty : sees (is k.Comma) ts ≡ false → sees (is k.Semicolon) ts ≡ false → start ≡ Bad false ts
  more_faulty c e = more_here ∙ rw c (rw e refl)

  module _ (c : sees (is k.Comma) ts ≡ true) where
    more_first : start
        ≡ behind_declarators xs depth (after (λ one d left. and_more room typedefs one.scope one.declarator d left)
        (reads (named room) (one_declarator s typedefs) (behind ts)))
    more_first = more_here ∙ rw c (ap (λ o. behind_declarators xs depth o) (init_rule room s typedefs (behind ts)))

    pub more_refused : (r : Refusal) (left : Input) → Leaves one_read (reads (named room) (one_declarator s typedefs) (behind ts)) (Err r) left
        → Leaves declarators_read start (Err r) left
    more_refused (Refused deep) left e = more_first ∙ rw e refl
    more_refused NoMemory left e = tt

    both : (one : InitDeclarator) (d : ℕ) (o : Outcome Lexeme DeclaratorsRead)
        → behind_declarators xs depth (behind_declarators (one ∷ []) d o) ≡ behind_declarators (xs ++ one ∷ []) (max depth d) o
    both one d (Got more e left) =
        ap (λ all. Got (declarators_read all more.scope) (max depth (max d e)) left) (sym (append_assoc xs (one ∷ []) more.declarators))
        ∙ ap (λ n. Got (declarators_read ((xs ++ one ∷ []) ++ more.declarators) more.scope) n left) (max_both depth d e)
    both one d (Bad deep left) = refl

    pub more_goes : (one : InitDeclarator) (t : Scope) (d : ℕ) (us : List Lexeme)
        → reads (named room) (one_declarator s typedefs) (behind ts) ≡ Got (one_read one t) d us
        → start ≡ behind_declarators (xs ++ one ∷ []) (max depth d) (named room (MoreDeclarators t typedefs) us)
    more_goes one t d us e = more_first ∙ rw e (both one d (named room (MoreDeclarators t typedefs) us))

-- a declaration, by its specifiers
abbrev pub declares : ℕ → SpecsRead → Outcome Lexeme DeclaratorsRead → Outcome Lexeme DeclarationRead
declares depth x (Got all deeper left) = Got (declared x all) (max depth deeper + 1) left
declares depth x (Bad deep left) = Bad deep left

abbrev behind_specs : Scope → SpecsRead → Reading DeclarationRead
behind_specs s x =
    Either (word k.Semicolon (λ c. Return (declared x (record { declarators = []; scope = s }))))
    (Call (InitDeclarators s (has_typedef x.specs)) (λ all. Return (declared x all)))

pub no_declaration : (room : ℕ) (s : Scope) (ts : List Lexeme) → room ≡ 0
    → named room (Declaration s) ts ≡ Bad (sees (starts_specs BlockContext s no_specs) ts) ts
no_declaration room s ts e = full_rule room (Declaration s) ts (declaration s) refl e

plus_one : (n : ℕ) → suc n ≡ n + 1
plus_one n = omega arith

pub declaration_rule : (room : ℕ) (s : Scope) (ts : List Lexeme) → 0 < room
    → named room (Declaration s) ts
    ≡ after (λ x d left. cond (sees (is k.Semicolon) left) (Got (declared x (declarators_read [] s)) (d + 1) (behind left))
    (declares d x (named (room - 1) (InitDeclarators s (has_typedef x.specs)) left))) (named (room - 1) (Specs BlockContext s no_specs) ts)
declaration_rule room s ts l =
    node_rule room (Declaration s) ts (declaration s) refl l ∙ go (named (room - 1) (Specs BlockContext s no_specs) ts)
  where
    over : (x : SpecsRead) (d : ℕ) (o : Outcome Lexeme DeclaratorsRead)
        → one_more (deepen d (after (λ all e us. deepen e (Got (declared x all) zero us)) o)) ≡ declares d x o
    over x d (Got all e us) = ap (λ n. Got (declared x all) (suc (max d n)) us) (max_zero e) ∙ ap (λ n. Got (declared x all) n us) (plus_one (max d e))
    over x d (Bad deep us) = refl

    choice : (x : SpecsRead) (d : ℕ) (b : Bool) (left : List Lexeme) (o : Outcome Lexeme DeclaratorsRead)
        → one_more (deepen d (cond b (cond b (Got (declared x (declarators_read [] s)) zero (behind left)) (Bad false left))
        (after (λ all e us. deepen e (Got (declared x all) zero us)) o)))
        ≡ cond b (Got (declared x (declarators_read [] s)) (d + 1) (behind left)) (declares d x o)
    choice x d true left o =
        ap (λ n. Got (declared x (declarators_read [] s)) (suc n) (behind left)) (max_zero d)
        ∙ ap (λ n. Got (declared x (declarators_read [] s)) n (behind left)) (plus_one d)
    choice x d false left o = over x d o

    go : (o : Outcome Lexeme SpecsRead)
        → one_more (after (λ x d left. deepen d (reads (named (room - 1)) (behind_specs s x) left)) o)
        ≡ after (λ x d left. cond (sees (is k.Semicolon) left) (Got (declared x (declarators_read [] s)) (d + 1) (behind left))
        (declares d x (named (room - 1) (InitDeclarators s (has_typedef x.specs)) left))) o
    go (Got x d left) = choice x d (sees (is k.Semicolon) left) left (named (room - 1) (InitDeclarators s (has_typedef x.specs)) left)
    go (Bad deep left) = refl
