-- Blocks: each rule as an equation.
use Rattle.std.proofs.Common.{◌≡◌, refl, ℕ, zero, ◌-◌, ◌<◌, max, Bool, true, false, cond, ◌||◌, List, [], ◌∷◌, ◌++◌, append-nil, length, Err, ap, ◌∙◌, sym}
use Rattle.grammar.specs.Parts.{Return, Call}
use Rattle.grammar.specs.Parser.{Outcome, Got, Bad, after, deepen, one_more}
use Rattle.c_tree.specs.declared.statements.BlockItem.{BlockItem}
use Rattle.c_tree.specs.declared.statements.BlockItem.TheVariants as item
use Rattle.c_grammar.specs.Lexemes.{Lexeme, is}
use Rattle.c_grammar.specs.declared.terminal.Terminal.TheVariants as k
use Rattle.c_grammar.specs.declared.state.SpecifierContext.TheVariants.{Block as BlockContext}
use Rattle.c_grammar.specs.Rules.{Scope, DeclarationRead, StatementRead, Declaration, Statement, Block, BlockItems}
use Rattle.c_grammar.specs.Expressions.{Reading}
use Rattle.c_grammar.specs.Specifiers.{no_specs}
use Rattle.c_grammar.specs.Lookahead.{starts_specs, starts_statement}
use Rattle.c_grammar.specs.Statements.{block, block_items}
use Rattle.parse_input.specs.Input.{Input, sees}
use Rattle.parse_input.specs.Reads.{named, reads, Says}
use Rattle.parse_input.specs.declared.read.Refusal.{Refusal}
use Rattle.parse_input.specs.declared.read.Refusal.TheVariants.{Refused, NoMemory}
use Rattle.parse_input.proofs.Steps.{plain_rule, node_rule, full_rule, less, max_zero}
use Rattle.parse_files.specs.Kinds.{ItemRead, item_read, starts_item, block_item}
use Rattle.parse_declarations.specs.Scoped.{Leaves}
use Rattle.parse_input.proofs.Choices.{sees_first, either}
use Rattle.parse_declarations.proofs.Gathered.{gathered, gathered_first, gathered_both, mapped, one_call}

pub block_rule : (room : ℕ) (s : Scope) (loop : Bool) (ts : List Lexeme) → 0 < room
    → named room (Block s loop) ts ≡ one_more (reads (named (room - 1)) (block s loop) ts)
block_rule room s loop ts l = node_rule room (Block s loop) ts (block s loop) refl l

pub no_block : (room : ℕ) (s : Scope) (loop : Bool) (ts : List Lexeme) → room ≡ 0 → named room (Block s loop) ts ≡ Bad (sees (is k.OpenBrace) ts) ts
no_block room s loop ts e = full_rule room (Block s loop) ts (block s loop) refl e

abbrev declared_item : DeclarationRead → ItemRead
declared_item x = item_read (item.Declaration x.tree) x.scope

abbrev stated_item : Scope → StatementRead → ItemRead
stated_item s x = item_read (item.Statement x.tree) s

abbrev one_declaration : Scope → Reading ItemRead
one_declaration s = Call (Declaration s) (λ x. Return (declared_item x))

abbrev one_statement : Scope → Bool → Reading ItemRead
one_statement s loop = Call (Statement s loop) (λ x. Return (stated_item s x))

pub item_rule : (room : ℕ) (s : Scope) (loop : Bool) (ts : List Lexeme)
    → reads (named room) (block_item s loop) ts
    ≡ cond (sees (starts_specs BlockContext s no_specs) ts) (mapped (λ x. declared_item x) (named room (Declaration s) ts))
    (mapped (λ x. stated_item s x) (named room (Statement s loop) ts))
unfolding block_item
item_rule room s loop ts =
    either (sees_first (starts_specs BlockContext s no_specs) ts)
    (one_call (named room) (Declaration s) (λ x. declared_item x) ts) (one_call (named room) (Statement s loop) (λ x. stated_item s x) ts)

mapped_got : {A B : Type 0} (f : A → B) (o : Outcome Lexeme A) (y : B) (d : ℕ) (us : List Lexeme) → mapped f o ≡ Got y d us
    → (x : A) × (o ≡ Got x d us)
mapped_got f (Got x e vs) y d us h = let same : e ≡ d = cc in let tail : vs ≡ us = cc in (x, rw (same, tail) refl)
mapped_got f (Bad deep vs) y d us h = let clash : ⊥ = cc in absurd clash

pub item_less : (room : ℕ) (s : Scope) (loop : Bool) (ts : List Lexeme) (x : ItemRead) (d : ℕ) (us : List Lexeme)
    → reads (named room) (block_item s loop) ts ≡ Got x d us → length us < length ts
item_less room s loop ts x d us h = go (sees (starts_specs BlockContext s no_specs) ts) (sym (item_rule room s loop ts) ∙ h)
  where
    go : (b : Bool)
        → cond b (mapped (λ x. declared_item x) (named room (Declaration s) ts)) (mapped (λ x. stated_item s x) (named room (Statement s loop) ts)) ≡ Got x d us
        → length us < length ts
    go true e =
        let got = mapped_got (λ x. declared_item x) (named room (Declaration s) ts) x d us e in
        less room (Declaration s) ts got.0 d us refl got.1
    go false e =
        let got = mapped_got (λ x. stated_item s x) (named room (Statement s loop) ts) x d us e in
        less room (Statement s loop) ts got.0 d us refl got.1

-- the items, by the first of them
abbrev and_items : ℕ → Bool → ItemRead → ℕ → List Lexeme → Outcome Lexeme (List BlockItem)
and_items room loop one d left = gathered (one.item ∷ []) d (named room (BlockItems one.scope loop) left)

sees_or : (one other : Lexeme → Bool) (ts : List Lexeme) → sees (λ t. one t || other t) ts ≡ (sees one ts || sees other ts)
unfolding sees
sees_or one other [] = refl
sees_or one other (t ∷ ts) = refl

items_rule : (room : ℕ) (s : Scope) (loop : Bool) (ts : List Lexeme)
    → named room (BlockItems s loop) ts
    ≡ cond (sees (starts_item s loop) ts) (after (λ one d left. and_items room loop one d left) (reads (named room) (block_item s loop) ts)) (Got [] 0 ts)
items_rule room s loop ts =
    plain_rule room (BlockItems s loop) ts (block_items s loop) refl
    ∙ either (sees_first (starts_specs BlockContext s no_specs) ts)
    (firsts (named room (Declaration s) ts) (λ x. declared_item x))
    (either (sees_first (starts_statement s loop) ts)
    (firsts (named room (Statement s loop) ts) (λ x. stated_item s x)) refl)
    ∙ choose (sees (starts_specs BlockContext s no_specs) ts) (sees (starts_statement s loop) ts) (λ o. after (λ one d left. and_items room loop one d left) o)
    (mapped (λ x. declared_item x) (named room (Declaration s) ts)) (mapped (λ x. stated_item s x) (named room (Statement s loop) ts)) (Got [] 0 ts)
    ∙ either (sym (sees_or (starts_specs BlockContext s no_specs) (starts_statement s loop) ts))
    (ap (λ o. after (λ one d left. and_items room loop one d left) o) (sym (item_rule room s loop ts))) refl
  where
    firsts : {A : Type 0} (o : Outcome Lexeme A) (f : A → ItemRead)
        → after (λ x d left. deepen d (after (λ more e us. deepen e (Got ((f x).item ∷ more) zero us)) (named room (BlockItems (f x).scope loop) left))) o
        ≡ after (λ one d left. and_items room loop one d left) (mapped f o)
    firsts (Got x d left) f = gathered_first (f x).item d (named room (BlockItems (f x).scope loop) left)
    firsts (Bad deep left) f = refl

    choose : {X Y : Type 0} (p q : Bool) (f : X → Y) (x y : X) (z : Y) → cond p (f x) (cond q (f y) z) ≡ cond (p || q) (f (cond p x y)) z
    choose true q f x y z = refl
    choose false true f x y z = refl
    choose false false f x y z = refl

module _ (room : ℕ) (s : Scope) (loop : Bool) (start : Outcome Lexeme (List BlockItem)) (xs : List BlockItem) (depth : ℕ) (ts : List Lexeme)
    (h : start ≡ gathered xs depth (named room (BlockItems s loop) ts)) where
  items_here : start
      ≡ gathered xs depth (cond (sees (starts_item s loop) ts) (after (λ one d left. and_items room loop one d left) (reads (named room) (block_item s loop) ts))
      (Got [] 0 ts))
  items_here = h ∙ ap (λ o. gathered xs depth o) (items_rule room s loop ts)

  pub items_ended : sees (starts_item s loop) ts ≡ false → start ≡ Got xs depth ts
  items_ended e =
      items_here ∙ rw e (ap (λ all. Got all (max depth 0) ts) (append-nil xs) ∙ ap (λ n. Got xs n ts) (max_zero depth))

  pub items_refused : (r : Refusal) (left : Input) → sees (starts_item s loop) ts ≡ true
      → Leaves item_read (reads (named room) (block_item s loop) ts) (Err r) left → Says {A = List BlockItem} start (Err r) left.tokens
  items_refused (Refused deep) left e f = items_here ∙ rw (e, f) refl
  items_refused NoMemory left e f = tt

  pub items_more : (one : BlockItem) (t : Scope) (d : ℕ) (us : List Lexeme) → sees (starts_item s loop) ts ≡ true
      → reads (named room) (block_item s loop) ts ≡ Got (item_read one t) d us
      → start ≡ gathered (xs ++ one ∷ []) (max depth d) (named room (BlockItems t loop) us)
  items_more one t d us e f = items_here ∙ rw (e, f) (gathered_both xs (one ∷ []) depth d (named room (BlockItems t loop) us))
