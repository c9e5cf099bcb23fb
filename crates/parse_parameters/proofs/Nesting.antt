-- What may be called where more may be opened may be called where less may.
use Rattle.std.proofs.Common.{◌≡◌, ℕ, ◌+◌, ◌*◌, ◌-◌, ◌<◌, ◌≤◌, List, Result, arith}
use Rattle.std.specs.declared.alloc.Global.{Global}
use denote.Ref.{MutBor}
use Rattle.c_tree.specs.declared.expressions.Expr.{Expr}
use Rattle.c_tree.specs.declared.expressions.Member.{Member}
use Rattle.c_grammar.specs.Rules.{DeclaratorRead}
use Rattle.parse_input.specs.Input.{Input}
use Rattle.parse_input.specs.declared.read.Limits.{Limits}
use Rattle.parse_input.specs.declared.read.Read.{Read}
use Rattle.parse_input.specs.declared.read.Refusal.{Refusal}
use Rattle.c_grammar.specs.declared.state.DeclaratorKind.{DeclaratorKind}
use Rattle.c_grammar.specs.declared.state.Bracket.{Bracket}
use Rattle.parse_parameters.specs.Nested.{Nested}

module _ (cp : Global → Limits → MutBor Input → Type 0) (cq : Global → Limits → MutBor Input → Result (Read Expr) Refusal → MutBor Input → Type 0)
    (dp : Global → Limits → DeclaratorKind → Bracket → MutBor Input → Type 0)
    (dq : Global → Limits → DeclaratorKind → Bracket → MutBor Input → Result (Read DeclaratorRead) Refusal → MutBor Input → Type 0)
    (mp : Global → Limits → MutBor Input → Type 0) (mq : Global → Limits → MutBor Input → Result (Read (List Member)) Refusal → MutBor Input → Type 0) where
  pub fewer : (a b : ℕ) → a ≤ b → Nested b cp cq dp dq mp mq → Nested a cp cq dp dq mp mq
  fewer a b l n = record {
    held = record {
      conditionals = record {
        callable = λ alloc limits old less. let more : 2 * (limits.opens + limits.room) + 1 < b = omega arith in n.held.conditionals.callable alloc limits old more;
        reads = n.held.conditionals.reads;
        keeps = n.held.conditionals.keeps;
      };
      members = record {
        callable = λ alloc limits old less. let more : 2 * (limits.opens + limits.room) + 1 < b = omega arith in n.held.members.callable alloc limits old more;
        reads = n.held.members.reads;
        keeps = n.held.members.keeps;
      };
    };
    declarators = record {
      callable = λ alloc limits kind bracket old less.
          let more : 2 * (limits.opens + limits.room) < b = omega arith in n.declarators.callable alloc limits kind bracket old more;
      reads = n.declarators.reads;
      keeps = n.declarators.keeps;
    };
  }

  -- inside a node
  pub node_nests : (opens room more inner : ℕ) → inner ≡ room - 1 → more ≡ opens → 0 < room → Nested (2 * (opens + room)) cp cq dp dq mp mq
      → Nested (2 * (more + inner) + 1) cp cq dp dq mp mq
  node_nests opens room more inner e f l n = fewer (2 * (more + inner) + 1) (2 * (opens + room)) (omega arith) n
