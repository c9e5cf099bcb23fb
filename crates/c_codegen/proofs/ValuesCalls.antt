-- The code of a call, whose callee and arguments are read from it one by one.
use Rattle.std.proofs.Common.{◌≡◌, ◌∙◌, sym, ap, subst, ℕ, ◌+◌, ◌<◌, List, arith}
use Rattle.core_unit.specs.Places.{callee, Named, Row, Through}
use Rattle.core_unit.specs.Shapes.{callee_of}
use Rattle.core_unit.specs.Typing.{type_of}
use Rattle.core_unit.specs.declared.expressions.Expr.{Expr}
use Rattle.core_unit.specs.declared.expressions.Expr.TheVariants as expr
use Rattle.core_unit.specs.declared.tables.UnitParts.{UnitParts}
use Rattle.mcode.specs.declared.code.Instruction.TheVariants as i
use Rattle.c_codegen.specs.declared.draft.Draft.{Draft}
use Rattle.c_codegen.specs.Emits.{EmitsOne, EmitsValue, EmitsArguments}
use Rattle.c_codegen.specs.Lies.{arguments_of}
use Rattle.c_codegen.specs.Sizes.{size, arguments_size}
use Rattle.c_codegen.proofs.Emitted.{emits-through_call}
use Rattle.c_codegen.proofs.ValuesEmitted.{size-named_call, size-row_call, size-through_call}
use Rattle.c_codegen.proofs.ValuesRanks.{rank, list_rank, rank-Call}

-- the arguments go before the call
pub call_falls : (x : Expr) (at site : ℕ) (e : Expr) (es listed : List Expr) → x ≡ expr.Call at site e es → listed ≡ es → list_rank listed + 2 < rank x
call_falls x at site e es listed is same = omega (arith, ap rank is ∙ rank-Call at site e es, ap list_rank same)

-- the sizes of calls
pub named_size : (x : Expr) (at site : ℕ) (e read : Expr) (es listed : List Expr) (function : ℕ) → x ≡ expr.Call at site e es → read ≡ e → listed ≡ es → callee read ≡ Named function →
    size x ≡ arguments_size listed + 2
named_size x at site e read es listed function is e_is es_is k =
    ap size is ∙ size-named_call at site e es function (ap callee (sym e_is) ∙ k) ∙ ap (λ l. arguments_size l + 2) (sym es_is)

pub row_size : (x : Expr) (at site : ℕ) (e read : Expr) (es listed : List Expr) (row : ℕ) → x ≡ expr.Call at site e es → read ≡ e → listed ≡ es → callee read ≡ Row row →
    size x ≡ arguments_size listed + 2
row_size x at site e read es listed row is e_is es_is k =
    ap size is ∙ size-row_call at site e es row (ap callee (sym e_is) ∙ k) ∙ ap (λ l. arguments_size l + 2) (sym es_is)

pub through_size : (x : Expr) (at site : ℕ) (e read found : Expr) (es listed : List Expr) → x ≡ expr.Call at site e es → read ≡ e → found ≡ e → listed ≡ es →
    callee read ≡ Through (callee_of (type_of read)) → size x ≡ size found + arguments_size listed + 4
through_size x at site e read found es listed is e_is found_is es_is k =
    ap size is ∙ size-through_call at site e es (callee_of (type_of read)) (ap callee (sym e_is) ∙ k) ∙ ap (λ y. size y + arguments_size es + 4) (sym found_is)
    ∙ ap (λ l. size found + arguments_size l + 4) (sym es_is)

-- a call through a pointer
pub emits_through : (u : UnitParts) (d0 d1 d2 d3 d4 d5 d6 : Draft) (x : Expr) (at site count : ℕ) (e read typed found : Expr) (es listed : List Expr) → x ≡ expr.Call at site e es →
    read ≡ e → typed ≡ e → found ≡ e → listed ≡ es → callee read ≡ Through (callee_of (type_of read)) → count ≡ arguments_of (type_of typed) → EmitsValue u d0 d1 found →
    EmitsOne d1 d2 i.HoldValue → EmitsArguments u d2 d3 listed → EmitsOne d3 d4 (i.Guard count) → EmitsOne d4 d5 i.CheckHalt → EmitsOne d5 d6 (i.EnterThrough count site) →
    EmitsValue u d0 d6 x
emits_through u d0 d1 d2 d3 d4 d5 d6 x at site count e read typed found es listed is e_is typed_is found_is es_is k n p0 p1 p2 p3 p4 p5 =
    let counted : count ≡ arguments_of (type_of e) = n ∙ ap (λ y. arguments_of (type_of y)) typed_is in
    subst (EmitsValue u d0 d6) (sym is) (emits-through_call u d0 d1 d2 d3 d4 d5 d6 at site e es (callee_of (type_of read)) (ap callee (sym e_is) ∙ k)
    (subst (EmitsValue u d0 d1) found_is p0) p1 (subst (EmitsArguments u d2 d3) es_is p2)
    (subst (λ m. EmitsOne d3 d4 (i.Guard m)) counted p3) p4 (subst (λ m. EmitsOne d5 d6 (i.EnterThrough m site)) counted p5))
