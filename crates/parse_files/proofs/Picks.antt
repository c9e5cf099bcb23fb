-- Statements by their first token.
use Rattle.std.proofs.Common.{◌≡◌, refl, ℕ, zero, ◌-◌, ◌<◌, Bool, true, false, cond, ◌&&◌, List, ap, ◌∙◌, sym}
use Rattle.grammar.specs.Parser.{Outcome, Got, Bad, after, deepen, one_more}
use Rattle.c_tree.specs.declared.statements.BlockItem.{BlockItem}
use Rattle.c_tree.specs.declared.statements.Stmt.{Stmt}
use Rattle.c_tree.specs.declared.statements.Stmt.TheVariants as stmt
use Rattle.c_grammar.specs.declared.terminal.Terminal.TheVariants as k
use Rattle.c_grammar.specs.Lexemes.{Lexeme, is, place}
use Rattle.c_grammar.specs.Rules.{Scope, BlockRead, StatementRead, Statement, Block, BlockItems}
use Rattle.c_grammar.specs.Lookahead.{starts_statement}
use Rattle.c_grammar.specs.Statements.{whole, statement}
use Rattle.parse_input.specs.Input.{head, sees, behind}
use Rattle.parse_input.specs.Reads.{named, reads}
use Rattle.parse_input.proofs.Steps.{node_rule, full_rule}
use Rattle.parse_statements.specs.Forms.{else_parts, if_parts, if_form, while_form, do_test, do_form, for_step, for_parts, for_form, return_form, expression_form}
use Rattle.parse_files.specs.Kinds.{block_form, break_form, continue_form, plain_kinds}
use Rattle.parse_input.proofs.Choices.{twice}
use Rattle.parse_declarations.proofs.Gathered.{mapped}
use Rattle.parse_files.proofs.Blocked.{block_rule}

-- the `;` behind a word
abbrev pub ended_word : Stmt → List Lexeme → Outcome Lexeme StatementRead
ended_word tree ts = cond (sees (is k.Semicolon) ts) (Got (whole tree) zero (behind ts)) (Bad false ts)

pub plain_rule : (room : ℕ) (s : Scope) (loop : Bool) (ts : List Lexeme)
    → reads (named room) (plain_kinds s loop) ts
    ≡ cond (sees (λ t. is k.Break t && loop) ts) (ended_word (stmt.Break (place (head ts))) (behind ts))
    (cond (sees (λ t. is k.Continue t && loop) ts) (ended_word (stmt.Continue (place (head ts))) (behind ts))
    (cond (sees (is k.Return) ts) (reads (named room) (return_form s) ts) (reads (named room) (expression_form s) ts)))
unfolding plain_kinds break_form continue_form return_form
plain_rule room s loop ts =
    twice (sees (λ t. is k.Break t && loop) ts) _ _ _
    ∙ ap (λ o. cond (sees (λ t. is k.Break t && loop) ts) (ended_word (stmt.Break (place (head ts))) (behind ts)) o)
    (twice (sees (λ t. is k.Continue t && loop) ts) _ _ _)

abbrev pub block_statement : BlockRead → StatementRead
block_statement x = whole (stmt.Block x.place x.items)

pub block_kind : (room : ℕ) (s : Scope) (loop : Bool) (ts : List Lexeme) → 0 < room
    → one_more (reads (named (room - 1)) (block_form s loop) ts) ≡ mapped (λ x. block_statement x) (named room (Block s loop) ts)
unfolding block_form
block_kind room s loop ts l =
    go (sees (is k.OpenBrace) ts) (named (room - 1) (BlockItems s loop) (behind ts))
    ∙ ap (λ o. mapped (λ x. block_statement x) o) (sym (block_rule room s loop ts l))
  where
    close : (items : List BlockItem) (d : ℕ) (left : List Lexeme) (b : Bool)
        → one_more (deepen d (cond b (Got (whole (stmt.Block (place (head ts)) items)) zero (behind left)) (Bad false left)))
        ≡ mapped (λ x. block_statement x) (one_more (deepen d (cond b (Got (record { place = place (head ts); items = items }) zero (behind left)) (Bad false left))))
    close items d left true = refl
    close items d left false = refl

    go : (b : Bool) (o : Outcome Lexeme (List BlockItem))
        → one_more (cond b (after (λ items d left. deepen d (cond (sees (is k.CloseBrace) left) (Got (whole (stmt.Block (place (head ts)) items)) zero (behind left)) (Bad false left))) o) (Bad false ts))
        ≡ mapped (λ x. block_statement x) (one_more (cond b (after (λ items d left. deepen d (cond (sees (is k.CloseBrace) left)
        (Got (record { place = place (head ts); items = items }) zero (behind left)) (Bad false left))) o) (Bad false ts)))
    go true (Got items d left) = close items d left (sees (is k.CloseBrace) left)
    go true (Bad deep left) = refl
    go false o = refl

push : {A : Type 0} (b : Bool) (x y z : Outcome Lexeme A) → one_more y ≡ z → one_more (cond b x y) ≡ cond b (one_more x) z
push true x y z e = refl
push false x y z e = e

abbrev inside : ℕ → Scope → Bool → List Lexeme → Outcome Lexeme StatementRead
inside room s loop ts =
    cond (sees (is k.If) ts) (one_more (reads (named room) (if_form s loop) ts))
    (cond (sees (is k.While) ts) (one_more (reads (named room) (while_form s) ts))
    (cond (sees (is k.Do) ts) (one_more (reads (named room) (do_form s) ts))
    (cond (sees (is k.For) ts) (one_more (reads (named room) (for_form s) ts)) (one_more (reads (named room) (plain_kinds s loop) ts)))))

pub statement_rule : (room : ℕ) (s : Scope) (loop : Bool) (ts : List Lexeme) → 0 < room
    → named room (Statement s loop) ts
    ≡ cond (sees (is k.OpenBrace) ts) (one_more (reads (named (room - 1)) (block_form s loop) ts)) (inside (room - 1) s loop ts)
unfolding block_form else_parts if_parts if_form while_form do_test do_form for_step for_parts for_form break_form continue_form return_form expression_form plain_kinds
statement_rule room s loop ts l =
    node_rule room (Statement s loop) ts (statement s loop) refl l
    ∙ push (sees (is k.OpenBrace) ts) _ _ (inside (room - 1) s loop ts)
    (push (sees (is k.If) ts) _ _ _ (push (sees (is k.While) ts) _ _ _ (push (sees (is k.Do) ts) _ _ _ (push (sees (is k.For) ts) _ _ _ refl))))

pub no_statement : (room : ℕ) (s : Scope) (loop : Bool) (ts : List Lexeme) → room ≡ 0
    → named room (Statement s loop) ts ≡ Bad (sees (starts_statement s loop) ts) ts
no_statement room s loop ts e = full_rule room (Statement s loop) ts (statement s loop) refl e
