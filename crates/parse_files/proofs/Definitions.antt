-- Definitions and declarations at file scope, and files: each rule as an equation.
use Rattle.std.proofs.Common.{◌≡◌, refl, ℕ, zero, suc, ◌+◌, ◌-◌, ◌<◌, ◌≤◌, max, Bool, true, false, cond, List, [], ◌∷◌, ◌++◌, append-nil, length, Option, Some, None, Err, ap, ◌∙◌, sym, arith}
use Rattle.grammar.specs.Parts.{Return, Call}
use Rattle.grammar.specs.Parser.{Outcome, Got, Bad, begins, after, deepen, one_more}
use Rattle.c_tree.specs.declared.expressions.Spec.{Spec}
use Rattle.c_tree.specs.declared.expressions.Declarator as declarator
use Rattle.c_tree.specs.declared.declarations.Init.{Init}
use Rattle.c_tree.specs.declared.statements.External as statements
use Rattle.c_grammar.specs.declared.terminal.Terminal.TheVariants as k
use Rattle.c_grammar.specs.Lexemes.{Lexeme, is}
use Rattle.c_grammar.specs.declared.state.SpecifierContext.TheVariants.{File as FileContext}
use Rattle.c_grammar.specs.declared.state.DeclaratorKind.TheVariants.{Ordinary as OrdinaryKind}
use Rattle.c_grammar.specs.declared.state.Bracket.TheVariants.{Unknown}
use Rattle.c_grammar.specs.Rules.{Scope, SpecsRead, DeclaratorRead, DeclaratorsRead, ExternalRead, BlockRead, Specs, Declarator, Initializer, MoreDeclarators, Block, External, Externals, Unit as WholeFile}
use Rattle.c_grammar.specs.Trees.{has_typedef}
use Rattle.c_grammar.specs.Expressions.{Reading}
use Rattle.c_grammar.specs.Specifiers.{no_specs}
use Rattle.c_grammar.specs.Declarators.{hide, hide_all}
use Rattle.c_grammar.specs.Lookahead.{c_lookahead, starts_specs}
use Rattle.c_grammar.specs.Statements.{declare, declared, defined, as_external, add_declarator, behind_declarator, external, externals, unit, file_scope}
use Rattle.parse_input.specs.Input.{Input, sees, behind, cut_scope}
use Rattle.parse_input.specs.Reads.{named, reads, Says}
use Rattle.parse_input.specs.declared.read.Refusal.{Refusal}
use Rattle.parse_input.specs.declared.read.Refusal.TheVariants.{Refused, NoMemory}
use Rattle.parse_input.proofs.Steps.{plain_rule, node_rule, full_rule, less, max_zero}
use Rattle.parse_declarations.specs.Scoped.{Leaves, Extends, with_value, declarators_read, behind_declarators}
use Rattle.parse_files.specs.Defined.{external_read, body_of, only_specs, only_tree, declarators_from, behind_specs}
use Rattle.parse_declarations.proofs.Declares.{behind_rule}
use Rattle.parse_input.proofs.Choices.{sees_first, either}
use Rattle.parse_declarations.proofs.Gathered.{gathered, gathered_first, gathered_both, mapped, one_call}
use Rattle.parse_declarations.proofs.Scopes.{extends_self, extends_one, extends_both}

-- the scope of a body, and the one behind it
hidden_extends : (names : List (List ℕ)) (s : Scope) → Extends s (hide_all names s)
hidden_extends [] s = extends_self s
hidden_extends (name ∷ names) s =
    extends_both s (hide (Some name) s) (hide_all names (hide (Some name) s)) (extends_one s (record { name = name; is_type = false }))
    (hidden_extends names (hide (Some name) s))

pub hidden_longer : (names : List (List ℕ)) (s : Scope) → length s.types ≤ length (hide_all names s).types
hidden_longer names s = (hidden_extends names s).longer

pub hidden_cut : (names : List (List ℕ)) (s : Scope) → s.block ≡ false
    → cut_scope (length s.types) (record { types = (hide_all names s).types; block = false }) ≡ s
hidden_cut names s e = rw (hidden_extends names s).cut (ap (λ b. record { types = s.types; block = b }) (sym e))

-- what is declared at file scope leaves it there
pub still_file : (s t : Scope) → Extends s t → s.block ≡ false → t.block ≡ false
still_file s t e f = e.block ∙ f

-- what follows a declarator
pub from_rule : (room : ℕ) (s : Scope) (typedefs : Bool) (tree : declarator.Declarator) (ts : List Lexeme)
    → reads (named room) (declarators_from s typedefs tree) ts
    ≡ after (λ one d left. behind_declarators (one ∷ []) d (named room (MoreDeclarators s typedefs) left)) (reads (named room) (with_value s tree) ts)
unfolding declarators_from
from_rule room s typedefs tree ts = behind_rule room s typedefs (only_tree tree) ts

-- what it is made into
abbrev made : {A : Type 0} → (DeclaratorsRead → A) → DeclaratorRead → Option Init → Outcome Lexeme DeclaratorsRead → Outcome Lexeme A
made f x value o = after (λ more d left. deepen d (Got (f (add_declarator x value more)) zero left)) o

made_of : {A : Type 0} (room : ℕ) (s : Scope) (typedefs : Bool) (x : DeclaratorRead) (f : DeclaratorsRead → A) (ts : List Lexeme)
    → reads (named room) (behind_declarator s typedefs x f) ts ≡ mapped f (reads (named room) (declarators_from s typedefs x.tree) ts)
unfolding declarators_from
made_of {A} room s typedefs x f ts = go (sees (is k.Equal) ts) (named room (Initializer s) (behind ts))
  where
    flat : (value : Option Init) (o : Outcome Lexeme DeclaratorsRead)
        → made f x value o ≡ mapped f (made (λ all. all) x value o)
    flat value (Got more e us) = refl
    flat value (Bad deep us) = refl

    deeper : (value : Option Init) (d : ℕ) (o : Outcome Lexeme DeclaratorsRead)
        → deepen d (made f x value o) ≡ mapped f (deepen d (made (λ all. all) x value o))
    deeper value d (Got more e us) = refl
    deeper value d (Bad deep us) = refl

    go : (b : Bool) (o : Outcome Lexeme Init)
        → cond b (cond b (after (λ v d left. deepen d (made f x (Some v) (named room (MoreDeclarators s typedefs) left))) o) (Bad false ts)) (made f x None (named room (MoreDeclarators s typedefs) ts))
        ≡ mapped f (cond b (cond b (after (λ v d left. deepen d (made (λ all. all) x (Some v) (named room (MoreDeclarators s typedefs) left))) o) (Bad false ts)) (made (λ all. all) x None (named room (MoreDeclarators s typedefs) ts)))
    go true (Got v d left) = deeper (Some v) d (named room (MoreDeclarators s typedefs) left)
    go true (Bad deep left) = refl
    go false o = flat None (named room (MoreDeclarators s typedefs) ts)

-- what follows specifiers, by the declarator
abbrev defines : Scope → List Spec → DeclaratorRead → BlockRead → ExternalRead
defines s specs y body = defined (declare s (has_typedef specs) y.name) (only_specs specs) y body

abbrev declares : List Spec → DeclaratorsRead → ExternalRead
declares specs all = as_external (declared (only_specs specs) all)

abbrev body_scope : Scope → List Spec → DeclaratorRead → Scope
body_scope s specs y = body_of y.own (declare s (has_typedef specs) y.name)

abbrev definition : Scope → List Spec → DeclaratorRead → Reading ExternalRead
definition s specs y = Call (Block (body_scope s specs y) false) (λ body. Return (defines s specs y body))

abbrev declaration : Scope → List Spec → DeclaratorRead → Reading ExternalRead
declaration s specs y = behind_declarator (declare s (has_typedef specs) y.name) (has_typedef specs) y (λ all. declares specs all)

pub specs_rule : (room : ℕ) (s : Scope) (specs : List Spec) (ts : List Lexeme)
    → reads (named room) (behind_specs s specs) ts
    ≡ after (λ y d left. deepen d (cond (sees (is k.OpenBrace) left) (mapped (λ body. defines s specs y body) (named room (Block (body_scope s specs y) false) left))
    (mapped (λ all. declares specs all) (reads (named room) (declarators_from (declare s (has_typedef specs) y.name) (has_typedef specs) y.tree) left))))
    (named room (Declarator s OrdinaryKind Unknown) ts)
unfolding behind_specs
specs_rule room s specs ts = go (named room (Declarator s OrdinaryKind Unknown) ts)
  where
    go : (o : Outcome Lexeme DeclaratorRead)
        → after (λ y d left. deepen d (cond (sees (begins c_lookahead (definition s specs y)) left) (reads (named room) (definition s specs y) left) (reads (named room) (declaration s specs y) left))) o
        ≡ after (λ y d left. deepen d (cond (sees (is k.OpenBrace) left) (mapped (λ body. defines s specs y body) (named room (Block (body_scope s specs y) false) left))
        (mapped (λ all. declares specs all) (reads (named room) (declarators_from (declare s (has_typedef specs) y.name) (has_typedef specs) y.tree) left)))) o
    go (Got y d left) =
        ap (λ o. deepen d o)
        (either (sees_first (is k.OpenBrace) left)
        (one_call (named room) (Block (body_scope s specs y) false) (λ body. defines s specs y body) left)
        (made_of room (declare s (has_typedef specs) y.name) (has_typedef specs) y (λ all. declares specs all) left))
    go (Bad deep left) = refl

-- a definition or a declaration, by its specifiers
pub no_external : (room : ℕ) (s : Scope) (ts : List Lexeme) → room ≡ 0
    → named room (External s) ts ≡ Bad (sees (starts_specs FileContext s no_specs) ts) ts
no_external room s ts e = full_rule room (External s) ts (external s) refl e

-- one node round what was read before and what is read here
abbrev pub node_of : {A : Type 0} → ℕ → Outcome Lexeme A → Outcome Lexeme A
node_of depth (Got x deeper left) = Got x (max depth deeper + 1) left
node_of depth (Bad deep left) = Bad deep left

node_made : {A : Type 0} (d : ℕ) (o : Outcome Lexeme A) → one_more (deepen d o) ≡ node_of d o
node_made d (Got x e left) = ap (λ n. Got x n left) (plus_one (max d e))
  where
    plus_one : (n : ℕ) → suc n ≡ n + 1
    plus_one n = omega arith
node_made d (Bad deep left) = refl

pub external_rule : (room : ℕ) (s : Scope) (ts : List Lexeme) → 0 < room
    → named room (External s) ts
    ≡ after (λ x d left. cond (sees (is k.Semicolon) left) (Got (as_external (declared x (declarators_read [] s))) (d + 1) (behind left))
    (node_of d (reads (named (room - 1)) (behind_specs s x.specs) left))) (named (room - 1) (Specs FileContext s no_specs) ts)
unfolding behind_specs
external_rule room s ts l = node_rule room (External s) ts (external s) refl l ∙ go (named (room - 1) (Specs FileContext s no_specs) ts)
  where
    choice : (x : SpecsRead) (d : ℕ) (b : Bool) (left : List Lexeme) (o : Outcome Lexeme ExternalRead)
        → one_more (deepen d (cond b (cond b (Got (as_external (declared x (declarators_read [] s))) zero (behind left)) (Bad false left)) o))
        ≡ cond b (Got (as_external (declared x (declarators_read [] s))) (d + 1) (behind left)) (node_of d o)
    choice x d true left o =
        node_made d (Got (as_external (declared x (declarators_read [] s))) zero (behind left))
        ∙ ap (λ n. Got (as_external (declared x (declarators_read [] s))) (n + 1) (behind left)) (max_zero d)
    choice x d false left o = node_made d o

    go : (o : Outcome Lexeme SpecsRead)
        → one_more (after (λ x d left. deepen d (cond (sees (is k.Semicolon) left)
        (cond (sees (is k.Semicolon) left) (Got (as_external (declared x (declarators_read [] s))) zero (behind left)) (Bad false left))
        (reads (named (room - 1)) (behind_specs s x.specs) left))) o)
        ≡ after (λ x d left. cond (sees (is k.Semicolon) left) (Got (as_external (declared x (declarators_read [] s))) (d + 1) (behind left))
        (node_of d (reads (named (room - 1)) (behind_specs s x.specs) left))) o
    go (Got x d left) = choice x d (sees (is k.Semicolon) left) left (reads (named (room - 1)) (behind_specs s x.specs) left)
    go (Bad deep left) = refl

pub external_less : (room : ℕ) (s : Scope) (ts : List Lexeme) (x : ExternalRead) (d : ℕ) (us : List Lexeme)
    → named room (External s) ts ≡ Got x d us → length us < length ts
external_less room s ts x d us e = less room (External s) ts x d us refl e

-- definitions and declarations, by the first of them
abbrev and_externals : ℕ → ExternalRead → ℕ → List Lexeme → Outcome Lexeme (List statements.External)
and_externals room one d left = gathered (one.tree ∷ []) d (named room (Externals one.scope) left)

abbrev one_external : Scope → Reading (List statements.External)
one_external s = Call (External s) (λ x. Call (Externals x.scope) (λ more. Return (x.tree ∷ more)))

externals_rule : (room : ℕ) (s : Scope) (ts : List Lexeme)
    → named room (Externals s) ts
    ≡ cond (sees (starts_specs FileContext s no_specs) ts) (after (λ one d left. and_externals room one d left) (named room (External s) ts)) (Got [] 0 ts)
externals_rule room s ts =
    plain_rule room (Externals s) ts (externals s) refl
    ∙ either (sees_first (starts_specs FileContext s no_specs) ts)
    (firsts (named room (External s) ts)) refl
  where
    firsts : (o : Outcome Lexeme ExternalRead)
        → after (λ x d left. deepen d (after (λ more e us. deepen e (Got (x.tree ∷ more) zero us)) (named room (Externals x.scope) left))) o
        ≡ after (λ one d left. and_externals room one d left) o
    firsts (Got x d left) = gathered_first x.tree d (named room (Externals x.scope) left)
    firsts (Bad deep left) = refl

module _ (room : ℕ) (s : Scope) (start : Outcome Lexeme (List statements.External)) (xs : List statements.External) (depth : ℕ) (ts : List Lexeme)
    (h : start ≡ gathered xs depth (named room (Externals s) ts)) where
  externals_here : start
      ≡ gathered xs depth (cond (sees (starts_specs FileContext s no_specs) ts) (after (λ one d left. and_externals room one d left) (named room (External s) ts))
      (Got [] 0 ts))
  externals_here = h ∙ ap (λ o. gathered xs depth o) (externals_rule room s ts)

  pub externals_ended : sees (starts_specs FileContext s no_specs) ts ≡ false → start ≡ Got xs depth ts
  externals_ended e = externals_here ∙ rw e (ap (λ all. Got all (max depth 0) ts) (append-nil xs) ∙ ap (λ n. Got xs n ts) (max_zero depth))

  pub externals_refused : (r : Refusal) (left : Input) → sees (starts_specs FileContext s no_specs) ts ≡ true
      → Leaves external_read (named room (External s) ts) (Err r) left → Says {A = List statements.External} start (Err r) left.tokens
  externals_refused (Refused deep) left e f = externals_here ∙ rw (e, f) refl
  externals_refused NoMemory left e f = tt

  pub externals_more : (one : statements.External) (t : Scope) (d : ℕ) (us : List Lexeme) → sees (starts_specs FileContext s no_specs) ts ≡ true
      → named room (External s) ts ≡ Got (external_read one t) d us
      → start ≡ gathered (xs ++ one ∷ []) (max depth d) (named room (Externals t) us)
  externals_more one t d us e f = externals_here ∙ rw (e, f) (gathered_both xs (one ∷ []) depth d (named room (Externals t) us))

-- the file
pub unit_rule : (room : ℕ) (ts : List Lexeme)
    → named room WholeFile ts ≡ mapped (λ all. record { externals = all }) (named room (Externals file_scope) ts)
unit_rule room ts =
    plain_rule room WholeFile ts unit refl ∙ one_call (named room) (Externals file_scope) (λ all. record { externals = all }) ts
