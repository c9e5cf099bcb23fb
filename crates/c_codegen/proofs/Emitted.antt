-- What the compiler appends for an expression is its code, form by form.
use Rattle.std.proofs.Common.{◌≡◌, refl, sym, ap, ◌∙◌, subst, ℕ, zero, suc, ◌+◌, ◌<◌, ◌≤◌, List, [], ◌∷◌, ◌++◌, length, arith, length-append, append_assoc, get_or, slice_get, take}
use Rattle.std.proofs.lemmas.List.{take_more, take_all}
use Rattle.std.proofs.Math.Seq.{get_or-append_seam}
use Rattle.std.proofs.lemmas.Option.{slice_get-get_or}
use Rattle.std.specs.Prelude.{Some, Option}
use denote.Hole.Carrier.{hidden}
use Rattle.arithmetic.specs.Operations.{operation_of_update}
use Rattle.arithmetic.specs.Values.{number}
use Rattle.core_unit.specs.Library.{row_type}
use Rattle.core_unit.specs.Places.{callee, Named, Row, Through}
use Rattle.core_unit.specs.Shapes.{level_of}
use Rattle.core_unit.specs.Typing.{type_of, place_type}
use Rattle.core_unit.specs.declared.expressions.Expr.{Expr}
use Rattle.core_unit.specs.declared.expressions.Expr.TheBlock.{hidden-the_row-Expr-0, shape-the_row-Expr-0, hidden-the_row-Place-1, shape-the_row-Place-1, hidden-the_row-Expr-2, shape-the_row-Expr-2}
use Rattle.core_unit.specs.declared.expressions.Expr.TheVariants as expr
use Rattle.core_unit.specs.declared.expressions.Place.{Place}
use Rattle.core_unit.specs.declared.expressions.Place.TheVariants as place
use Rattle.core_unit.specs.declared.expressions.Storage.{Storage}
use Rattle.core_unit.specs.declared.operators.BinaryOperator.{BinaryOperator}
use Rattle.core_unit.specs.declared.operators.BinaryOperator.TheVariants as binary
use Rattle.core_unit.specs.declared.operators.Cause.{Cause}
use Rattle.core_unit.specs.declared.operators.LogicalOperator.{LogicalOperator}
use Rattle.core_unit.specs.declared.operators.PointerSide.{PointerSide}
use Rattle.core_unit.specs.declared.operators.Sign.{Sign}
use Rattle.core_unit.specs.declared.operators.Sign.TheVariants.{Signed}
use Rattle.core_unit.specs.declared.operators.StepValue.{StepValue}
use Rattle.core_unit.specs.declared.operators.UnaryOperator.{UnaryOperator}
use Rattle.core_unit.specs.declared.operators.Update.{Update}
use Rattle.core_unit.specs.declared.tables.UnitParts.{UnitParts}
use Rattle.core_unit.specs.declared.words.Word.TheVariants as word
use Rattle.eff_types.specs.declared.types.CType.{CType}
use Rattle.eff_types.specs.declared.types.FnType.{FnType}
use Rattle.mcode.specs.Machine.{Program}
use Rattle.mcode.specs.declared.code.Instruction.{Instruction}
use Rattle.mcode.specs.declared.code.Instruction.TheVariants as i
use Rattle.src_model.specs.Rules.{binary_operation, update_operation}
use Rattle.src_model.specs.Source.{count_of}
use Rattle.c_codegen.specs.declared.draft.Draft.{Draft}
use Rattle.c_codegen.specs.Emits.{IsBefore, Begins, Emits, here, EmitsOne, EmitsPlace, EmitsValue, EmitsArguments}
use Rattle.c_codegen.specs.Entries.{served}
use Rattle.c_codegen.specs.Lies.{One, address_of, decides, arguments_of, Lies, ArgumentsLie, ListedLie}
use Rattle.c_codegen.specs.Sizes.{size, row_size, arguments_size}

append_nil : {A : Type 0} (l : List A) → l ++ [] ≡ l
append_nil [] = refl
append_nil (x ∷ l) = ap (λ k. x ∷ k) (append_nil l)

pub before_self : {A : Type 0} (l : List A) → IsBefore l l
before_self l = ([], append_nil l)

pub before_then : {A : Type 0} (a b c : List A) → IsBefore a b → IsBefore b c → IsBefore a c
before_then a b c p q = (p.0 ++ q.0, sym (append_assoc a p.0 q.0) ∙ ap (λ l. l ++ q.0) p.1 ∙ q.1)

pub begins_before : (old new : Draft) (c : Program) → IsBefore old.instructions new.instructions → IsBefore old.texts new.texts → Begins new c → Begins old c
begins_before old new c code texts b = record {
  instructions = before_then old.instructions new.instructions c.instructions code b.instructions;
  texts = before_then old.texts new.texts c.texts texts b.texts;
}

pub emits_then : (a b c : Draft) (n m : ℕ) (P Q : Program → Type 0) → Emits a b n P → Emits b c m Q → Emits a c (n + m) (λ x. P x × Q x)
emits_then a b c n m P Q p q = record {
  instructions = before_then a.instructions b.instructions c.instructions p.instructions q.instructions;
  texts = before_then a.texts b.texts c.texts p.texts q.texts;
  long = omega (arith, p.long, q.long);
  holds = λ x begins. (p.holds x (begins_before b c x q.instructions q.texts begins), q.holds x begins);
}

pub emits_as : (a b : Draft) (n m : ℕ) (P Q : Program → Type 0) → Emits a b n P → n ≡ m → ((c : Program) → P c → Q c) → Emits a b m Q
emits_as a b n m P Q p e on = record {
  instructions = p.instructions;
  texts = p.texts;
  long = p.long ∙ ap (λ k. here a + k) e;
  holds = λ c begins. on c (p.holds c begins);
}

seam : {A : Type 0} (pre : List A) (x : A) (rest : List A) → slice_get (pre ++ x ∷ rest) (length pre) ≡ Some x
seam pre x rest =
    let within : length pre < length (pre ++ x ∷ rest) = omega (arith, length-append pre (x ∷ rest)) in
    slice_get-get_or (pre ++ x ∷ rest) (length pre) x within ∙ ap Some (get_or-append_seam pre x rest x)

-- an instruction that is appended
pub emits_one : (old new : Draft) (code : Instruction) → new.instructions ≡ old.instructions ++ code ∷ [] → new.texts ≡ old.texts → EmitsOne old new code
unfolding EmitsOne
emits_one old new code e same = record {
  instructions = (code ∷ [], sym e);
  texts = ([], append_nil old.texts ∙ sym same);
  long = ap length e ∙ length-append old.instructions (code ∷ []);
  holds = λ c begins.
      let all : old.instructions ++ code ∷ begins.instructions.0 ≡ c.instructions
      = sym (append_assoc old.instructions (code ∷ []) begins.instructions.0) ∙ ap (λ l. l ++ begins.instructions.0) (sym e) ∙ begins.instructions.1 in
      let next : suc (here old) ≡ here new = omega (arith, ap length e, length-append old.instructions (code ∷ [])) in
      (ap (λ l. slice_get l (here old)) (sym all) ∙ seam old.instructions code begins.instructions.0, next);
}

-- nothing is appended
pub emits_none : (old new : Draft) → new ≡ old → Emits old new 0 (λ c. here old ≡ here new)
emits_none old new e = record {
  instructions = ([], append_nil old.instructions ∙ ap (λ (d : Draft). d.instructions) (sym e));
  texts = ([], append_nil old.texts ∙ ap (λ (d : Draft). d.texts) (sym e));
  long = omega (arith, ap here e);
  holds = λ c begins. ap here (sym e);
}

listed_lies : (u : UnitParts) (c : Program) (es : List Expr) (from to : ℕ) → ListedLie u c es from to → ArgumentsLie u c (hidden-the_row-Expr-2 es) from to
unfolding Lies size hidden hidden-the_row-Expr-0 shape-the_row-Expr-0 hidden-the_row-Place-1 shape-the_row-Place-1 hidden-the_row-Expr-2 shape-the_row-Expr-2
listed_lies u c [] from to l = l
listed_lies u c (e ∷ es) from to l = (l.0, l.1, l.2, l.3, listed_lies u c es l.1 to l.4)

listed_size : (es : List Expr) → row_size (hidden-the_row-Expr-2 es) ≡ arguments_size es
unfolding Lies size hidden hidden-the_row-Expr-0 shape-the_row-Expr-0 hidden-the_row-Place-1 shape-the_row-Place-1 hidden-the_row-Expr-2 shape-the_row-Expr-2
listed_size [] = refl
listed_size (e ∷ es) = ap (λ n. size e + 1 + n) (listed_size es)

pub emits-Variable : (u : UnitParts) (d0 d1 : Draft) (at : ℕ) (storage : Storage) (t : CType) → EmitsOne d0 d1 (address_of storage) → EmitsPlace u d0 d1 (place.Variable at storage t)
unfolding Lies size hidden hidden-the_row-Expr-0 shape-the_row-Expr-0 hidden-the_row-Place-1 shape-the_row-Place-1 hidden-the_row-Expr-2 shape-the_row-Expr-2 EmitsOne EmitsPlace EmitsValue EmitsArguments
emits-Variable u d0 d1 at storage t p0 =
    p0

pub emits-Text : (u : UnitParts) (d0 d1 : Draft) (at words : ℕ) → EmitsOne d0 d1 (i.SetValue (word.DataPointer at)) → EmitsPlace u d0 d1 (place.Text at words)
unfolding Lies size hidden hidden-the_row-Expr-0 shape-the_row-Expr-0 hidden-the_row-Place-1 shape-the_row-Place-1 hidden-the_row-Expr-2 shape-the_row-Expr-2 EmitsOne EmitsPlace EmitsValue EmitsArguments
emits-Text u d0 d1 at words p0 =
    p0

pub emits-Indirection : (u : UnitParts) (d0 d1 : Draft) (e : Expr) (t : CType) → EmitsValue u d0 d1 (e) → EmitsPlace u d0 d1 (place.Indirection e t)
unfolding Lies size hidden hidden-the_row-Expr-0 shape-the_row-Expr-0 hidden-the_row-Place-1 shape-the_row-Place-1 hidden-the_row-Expr-2 shape-the_row-Expr-2 EmitsOne EmitsPlace EmitsValue EmitsArguments
emits-Indirection u d0 d1 e t p0 =
    p0

pub emits-Arrow : (u : UnitParts) (d0 d1 : Draft) (e : Expr) (structure : ℕ) → EmitsValue u d0 d1 (e) → EmitsPlace u d0 d1 (place.Arrow e structure)
unfolding Lies size hidden hidden-the_row-Expr-0 shape-the_row-Expr-0 hidden-the_row-Place-1 shape-the_row-Place-1 hidden-the_row-Expr-2 shape-the_row-Expr-2 EmitsOne EmitsPlace EmitsValue EmitsArguments
emits-Arrow u d0 d1 e structure p0 =
    p0

pub emits-Element : (u : UnitParts) (d0 d1 d2 d3 d4 : Draft) (a b : Expr) (side : PointerSide) (words : ℕ) (t : CType) → EmitsValue u d0 d1 (a) → EmitsOne d1 d2 (i.HoldValue) → EmitsValue u d2 d3 (b) → EmitsOne d3 d4 (i.Apply (binary_operation (binary.PointerPlus side words) a b)) → EmitsPlace u d0 d4 (place.Element a b side words t)
unfolding Lies size hidden hidden-the_row-Expr-0 shape-the_row-Expr-0 hidden-the_row-Place-1 shape-the_row-Place-1 hidden-the_row-Expr-2 shape-the_row-Expr-2 EmitsOne EmitsPlace EmitsValue EmitsArguments
emits-Element u d0 d1 d2 d3 d4 a b side words t p0 p1 p2 p3 =
    emits_as d0 d4 _ _ _ _ (emits_then d0 d1 d4 _ _ _ _ p0 (emits_then d1 d2 d4 _ _ _ _ p1 (emits_then d2 d3 d4 _ _ _ _ p2 p3))) (omega arith) (λ c q. (here d1, here d2, here d3, q.0, q.1.0, q.1.1.0, q.1.1.1))

pub emits-Member : (u : UnitParts) (d0 d1 d2 : Draft) (o : Place) (offset : ℕ) (t : CType) → EmitsPlace u d0 d1 (o) → EmitsOne d1 d2 (i.Shift offset) → EmitsPlace u d0 d2 (place.Member o offset t)
unfolding Lies size hidden hidden-the_row-Expr-0 shape-the_row-Expr-0 hidden-the_row-Place-1 shape-the_row-Place-1 hidden-the_row-Expr-2 shape-the_row-Expr-2 EmitsOne EmitsPlace EmitsValue EmitsArguments
emits-Member u d0 d1 d2 o offset t p0 p1 =
    emits_as d0 d2 _ _ _ _ (emits_then d0 d1 d2 _ _ _ _ p0 p1) (omega arith) (λ c q. (here d1, q.0, q.1))

pub emits-Number : (u : UnitParts) (d0 d1 : Draft) (sign : Sign) (bits : ℕ) → EmitsOne d0 d1 (i.SetValue (number bits)) → EmitsValue u d0 d1 (expr.Number sign bits)
unfolding Lies size hidden hidden-the_row-Expr-0 shape-the_row-Expr-0 hidden-the_row-Place-1 shape-the_row-Place-1 hidden-the_row-Expr-2 shape-the_row-Expr-2 EmitsOne EmitsPlace EmitsValue EmitsArguments
emits-Number u d0 d1 sign bits p0 =
    p0

pub emits-Null : (u : UnitParts) (d0 d1 : Draft) → EmitsOne d0 d1 (i.SetValue word.Zero) → EmitsValue u d0 d1 (expr.Null)
unfolding Lies size hidden hidden-the_row-Expr-0 shape-the_row-Expr-0 hidden-the_row-Place-1 shape-the_row-Place-1 hidden-the_row-Expr-2 shape-the_row-Expr-2 EmitsOne EmitsPlace EmitsValue EmitsArguments
emits-Null u d0 d1 p0 =
    p0

pub emits-Sizeof : (u : UnitParts) (d0 d1 : Draft) (words : ℕ) → EmitsOne d0 d1 (i.SetValue (number words)) → EmitsValue u d0 d1 (expr.Sizeof words)
unfolding Lies size hidden hidden-the_row-Expr-0 shape-the_row-Expr-0 hidden-the_row-Place-1 shape-the_row-Place-1 hidden-the_row-Expr-2 shape-the_row-Expr-2 EmitsOne EmitsPlace EmitsValue EmitsArguments
emits-Sizeof u d0 d1 words p0 =
    p0

pub emits-Function : (u : UnitParts) (d0 d1 : Draft) (function : ℕ) (t : CType) → EmitsOne d0 d1 (i.SetValue (word.FunctionPointer function (level_of t))) → EmitsValue u d0 d1 (expr.Function function t)
unfolding Lies size hidden hidden-the_row-Expr-0 shape-the_row-Expr-0 hidden-the_row-Place-1 shape-the_row-Place-1 hidden-the_row-Expr-2 shape-the_row-Expr-2 EmitsOne EmitsPlace EmitsValue EmitsArguments
emits-Function u d0 d1 function t p0 =
    p0

pub emits-LibraryFunction : (u : UnitParts) (d0 d1 : Draft) (row : ℕ) → EmitsOne d0 d1 (i.SetValue word.Zero) → EmitsValue u d0 d1 (expr.LibraryFunction row)
unfolding Lies size hidden hidden-the_row-Expr-0 shape-the_row-Expr-0 hidden-the_row-Place-1 shape-the_row-Place-1 hidden-the_row-Expr-2 shape-the_row-Expr-2 EmitsOne EmitsPlace EmitsValue EmitsArguments
emits-LibraryFunction u d0 d1 row p0 =
    p0

pub emits-TargetFunction : (u : UnitParts) (d0 d1 : Draft) (e : Expr) → EmitsValue u d0 d1 (e) → EmitsValue u d0 d1 (expr.TargetFunction e)
unfolding Lies size hidden hidden-the_row-Expr-0 shape-the_row-Expr-0 hidden-the_row-Place-1 shape-the_row-Place-1 hidden-the_row-Expr-2 shape-the_row-Expr-2 EmitsOne EmitsPlace EmitsValue EmitsArguments
emits-TargetFunction u d0 d1 e p0 =
    p0

pub emits-FunctionPointer : (u : UnitParts) (d0 d1 : Draft) (e : Expr) → EmitsValue u d0 d1 (e) → EmitsValue u d0 d1 (expr.FunctionPointer e)
unfolding Lies size hidden hidden-the_row-Expr-0 shape-the_row-Expr-0 hidden-the_row-Place-1 shape-the_row-Place-1 hidden-the_row-Expr-2 shape-the_row-Expr-2 EmitsOne EmitsPlace EmitsValue EmitsArguments
emits-FunctionPointer u d0 d1 e p0 =
    p0

pub emits-ArrayPointer : (u : UnitParts) (d0 d1 : Draft) (o : Place) → EmitsPlace u d0 d1 (o) → EmitsValue u d0 d1 (expr.ArrayPointer o)
unfolding Lies size hidden hidden-the_row-Expr-0 shape-the_row-Expr-0 hidden-the_row-Place-1 shape-the_row-Place-1 hidden-the_row-Expr-2 shape-the_row-Expr-2 EmitsOne EmitsPlace EmitsValue EmitsArguments
emits-ArrayPointer u d0 d1 o p0 =
    p0

pub emits-AddressOf : (u : UnitParts) (d0 d1 : Draft) (o : Place) → EmitsPlace u d0 d1 (o) → EmitsValue u d0 d1 (expr.AddressOf o)
unfolding Lies size hidden hidden-the_row-Expr-0 shape-the_row-Expr-0 hidden-the_row-Place-1 shape-the_row-Place-1 hidden-the_row-Expr-2 shape-the_row-Expr-2 EmitsOne EmitsPlace EmitsValue EmitsArguments
emits-AddressOf u d0 d1 o p0 =
    p0

pub emits-Load : (u : UnitParts) (d0 d1 d2 : Draft) (o : Place) → EmitsPlace u d0 d1 (o) → EmitsOne d1 d2 (i.LoadAs (served u (place_type o))) → EmitsValue u d0 d2 (expr.Load o)
unfolding Lies size hidden hidden-the_row-Expr-0 shape-the_row-Expr-0 hidden-the_row-Place-1 shape-the_row-Place-1 hidden-the_row-Expr-2 shape-the_row-Expr-2 EmitsOne EmitsPlace EmitsValue EmitsArguments
emits-Load u d0 d1 d2 o p0 p1 =
    emits_as d0 d2 _ _ _ _ (emits_then d0 d1 d2 _ _ _ _ p0 p1) (omega arith) (λ c q. (here d1, q.0, q.1))

pub emits-Assign : (u : UnitParts) (d0 d1 d2 d3 d4 : Draft) (o : Place) (e : Expr) → EmitsPlace u d0 d1 (o) → EmitsOne d1 d2 (i.HoldValue) → EmitsValue u d2 d3 (e) → EmitsOne d3 d4 (i.StoreAs (level_of (place_type o))) → EmitsValue u d0 d4 (expr.Assign o e)
unfolding Lies size hidden hidden-the_row-Expr-0 shape-the_row-Expr-0 hidden-the_row-Place-1 shape-the_row-Place-1 hidden-the_row-Expr-2 shape-the_row-Expr-2 EmitsOne EmitsPlace EmitsValue EmitsArguments
emits-Assign u d0 d1 d2 d3 d4 o e p0 p1 p2 p3 =
    emits_as d0 d4 _ _ _ _ (emits_then d0 d1 d4 _ _ _ _ p0 (emits_then d1 d2 d4 _ _ _ _ p1 (emits_then d2 d3 d4 _ _ _ _ p2 p3))) (omega arith) (λ c q. (here d1, here d2, here d3, q.0, q.1.0, q.1.1.0, q.1.1.1))

pub emits-Compound : (u : UnitParts) (d0 d1 d2 d3 d4 d5 d6 d7 : Draft) (o : Place) (how : Update) (e : Expr) → EmitsPlace u d0 d1 (o) → EmitsOne d1 d2 (i.HoldValue) → EmitsOne d2 d3 (i.LoadAs (served u (place_type o))) → EmitsOne d3 d4 (i.HoldValue) → EmitsValue u d4 d5 (e) → EmitsOne d5 d6 (i.Apply (update_operation how e)) → EmitsOne d6 d7 (i.StoreAs (level_of (place_type o))) → EmitsValue u d0 d7 (expr.Compound o how e)
unfolding Lies size hidden hidden-the_row-Expr-0 shape-the_row-Expr-0 hidden-the_row-Place-1 shape-the_row-Place-1 hidden-the_row-Expr-2 shape-the_row-Expr-2 EmitsOne EmitsPlace EmitsValue EmitsArguments
emits-Compound u d0 d1 d2 d3 d4 d5 d6 d7 o how e p0 p1 p2 p3 p4 p5 p6 =
    emits_as d0 d7 _ _ _ _ (emits_then d0 d1 d7 _ _ _ _ p0 (emits_then d1 d2 d7 _ _ _ _ p1 (emits_then d2 d3 d7 _ _ _ _ p2 (emits_then d3 d4 d7 _ _ _ _ p3 (emits_then d4 d5 d7 _ _ _ _ p4 (emits_then d5 d6 d7 _ _ _ _ p5 p6)))))) (omega arith) (λ c q. (here d1, here d2, here d3, here d4, here d5, here d6, q.0, q.1.0, q.1.1.0, q.1.1.1.0, q.1.1.1.1.0, q.1.1.1.1.1.0, q.1.1.1.1.1.1))

pub emits-Step : (u : UnitParts) (d0 d1 d2 d3 d4 d5 d6 : Draft) (o : Place) (how : Update) (which : StepValue) → EmitsPlace u d0 d1 (o) → EmitsOne d1 d2 (i.HoldValue) → EmitsOne d2 d3 (i.LoadAs (served u (place_type o))) → EmitsOne d3 d4 (i.HoldValue) → EmitsOne d4 d5 (i.Advance (operation_of_update how Signed)) → EmitsOne d5 d6 (i.StoreStep (level_of (place_type o)) which) → EmitsValue u d0 d6 (expr.Step o how which)
unfolding Lies size hidden hidden-the_row-Expr-0 shape-the_row-Expr-0 hidden-the_row-Place-1 shape-the_row-Place-1 hidden-the_row-Expr-2 shape-the_row-Expr-2 EmitsOne EmitsPlace EmitsValue EmitsArguments
emits-Step u d0 d1 d2 d3 d4 d5 d6 o how which p0 p1 p2 p3 p4 p5 =
    emits_as d0 d6 _ _ _ _ (emits_then d0 d1 d6 _ _ _ _ p0 (emits_then d1 d2 d6 _ _ _ _ p1 (emits_then d2 d3 d6 _ _ _ _ p2 (emits_then d3 d4 d6 _ _ _ _ p3 (emits_then d4 d5 d6 _ _ _ _ p4 p5))))) (omega arith) (λ c q. (here d1, here d2, here d3, here d4, here d5, q.0, q.1.0, q.1.1.0, q.1.1.1.0, q.1.1.1.1.0, q.1.1.1.1.1))

pub emits-Unary : (u : UnitParts) (d0 d1 d2 : Draft) (operator : UnaryOperator) (e : Expr) → EmitsValue u d0 d1 (e) → EmitsOne d1 d2 (i.Change operator) → EmitsValue u d0 d2 (expr.Unary operator e)
unfolding Lies size hidden hidden-the_row-Expr-0 shape-the_row-Expr-0 hidden-the_row-Place-1 shape-the_row-Place-1 hidden-the_row-Expr-2 shape-the_row-Expr-2 EmitsOne EmitsPlace EmitsValue EmitsArguments
emits-Unary u d0 d1 d2 operator e p0 p1 =
    emits_as d0 d2 _ _ _ _ (emits_then d0 d1 d2 _ _ _ _ p0 p1) (omega arith) (λ c q. (here d1, q.0, q.1))

pub emits-Binary : (u : UnitParts) (d0 d1 d2 d3 d4 : Draft) (operator : BinaryOperator) (a b : Expr) → EmitsValue u d0 d1 (a) → EmitsOne d1 d2 (i.HoldValue) → EmitsValue u d2 d3 (b) → EmitsOne d3 d4 (i.Apply (binary_operation operator a b)) → EmitsValue u d0 d4 (expr.Binary operator a b)
unfolding Lies size hidden hidden-the_row-Expr-0 shape-the_row-Expr-0 hidden-the_row-Place-1 shape-the_row-Place-1 hidden-the_row-Expr-2 shape-the_row-Expr-2 EmitsOne EmitsPlace EmitsValue EmitsArguments
emits-Binary u d0 d1 d2 d3 d4 operator a b p0 p1 p2 p3 =
    emits_as d0 d4 _ _ _ _ (emits_then d0 d1 d4 _ _ _ _ p0 (emits_then d1 d2 d4 _ _ _ _ p1 (emits_then d2 d3 d4 _ _ _ _ p2 p3))) (omega arith) (λ c q. (here d1, here d2, here d3, q.0, q.1.0, q.1.1.0, q.1.1.1))

pub emits-Comma : (u : UnitParts) (d0 d1 d2 : Draft) (a b : Expr) → EmitsValue u d0 d1 (a) → EmitsValue u d1 d2 (b) → EmitsValue u d0 d2 (expr.Comma a b)
unfolding Lies size hidden hidden-the_row-Expr-0 shape-the_row-Expr-0 hidden-the_row-Place-1 shape-the_row-Place-1 hidden-the_row-Expr-2 shape-the_row-Expr-2 EmitsOne EmitsPlace EmitsValue EmitsArguments
emits-Comma u d0 d1 d2 a b p0 p1 =
    emits_as d0 d2 _ _ _ _ (emits_then d0 d1 d2 _ _ _ _ p0 p1) (omega arith) (λ c q. (here d1, q.0, q.1))

pub emits-Convert : (u : UnitParts) (d0 d1 : Draft) (why : Cause) (t : CType) (e : Expr) → EmitsValue u d0 d1 (e) → EmitsValue u d0 d1 (expr.Convert why t e)
unfolding Lies size hidden hidden-the_row-Expr-0 shape-the_row-Expr-0 hidden-the_row-Place-1 shape-the_row-Place-1 hidden-the_row-Expr-2 shape-the_row-Expr-2 EmitsOne EmitsPlace EmitsValue EmitsArguments
emits-Convert u d0 d1 why t e p0 =
    p0

pub emits-Discard : (u : UnitParts) (d0 d1 : Draft) (e : Expr) → EmitsValue u d0 d1 (e) → EmitsValue u d0 d1 (expr.Discard e)
unfolding Lies size hidden hidden-the_row-Expr-0 shape-the_row-Expr-0 hidden-the_row-Place-1 shape-the_row-Place-1 hidden-the_row-Expr-2 shape-the_row-Expr-2 EmitsOne EmitsPlace EmitsValue EmitsArguments
emits-Discard u d0 d1 e p0 =
    p0

-- a jump whose place is told in another way
jump_to : (old new : Draft) (jump : ℕ → Instruction) (place there : ℕ) → place ≡ there → EmitsOne old new (jump place) → EmitsOne old new (jump there)
unfolding EmitsOne EmitsPlace EmitsValue EmitsArguments
jump_to old new jump place there e p = subst (λ n. EmitsOne old new (jump n)) e p

pub emits-Logical : (u : UnitParts) (d0 d1 d2 d3 d4 : Draft) (operator : LogicalOperator) (a b : Expr) (place : ℕ) → EmitsValue u d0 d1 a → EmitsOne d1 d2 (decides operator place) →
    place ≡ here d1 + size b + 1 → EmitsValue u d2 d3 b → EmitsOne d3 d4 i.Truth → EmitsValue u d0 d4 (expr.Logical operator a b)
unfolding Lies size hidden hidden-the_row-Expr-0 shape-the_row-Expr-0 hidden-the_row-Place-1 shape-the_row-Place-1 hidden-the_row-Expr-2 shape-the_row-Expr-2 EmitsOne EmitsPlace EmitsValue EmitsArguments
emits-Logical u d0 d1 d2 d3 d4 operator a b place p0 p1 e p2 p3 =
    let there : place ≡ here d3 = omega (arith, e, p1.long, p2.long) in
    emits_as d0 d4 _ _ _ _ (emits_then d0 d1 d4 _ _ _ _ p0 (emits_then d1 d2 d4 _ _ _ _ (jump_to d1 d2 (decides operator) place (here d3) there p1) (emits_then d2 d3 d4 _ _ _ _ p2 p3)))
    (omega arith) (λ c q. (here d1, q.0, (here d3, q.1.0.0, subst (λ n. Lies u c b n (here d3)) (sym q.1.0.1) q.1.1.0, q.1.1.1)))

pub emits-Conditional : (u : UnitParts) (d0 d1 d2 d3 d4 d5 : Draft) (t a b : Expr) (other end : ℕ) → EmitsValue u d0 d1 t → EmitsOne d1 d2 (i.GoIfZero other) →
    other ≡ here d1 + size a + 2 → EmitsValue u d2 d3 a → EmitsOne d3 d4 (i.GoTo end) → end ≡ here d1 + size a + size b + 2 → EmitsValue u d4 d5 b →
    EmitsValue u d0 d5 (expr.Conditional t a b)
unfolding Lies size hidden hidden-the_row-Expr-0 shape-the_row-Expr-0 hidden-the_row-Place-1 shape-the_row-Place-1 hidden-the_row-Expr-2 shape-the_row-Expr-2 EmitsOne EmitsPlace EmitsValue EmitsArguments
emits-Conditional u d0 d1 d2 d3 d4 d5 t a b other end p0 p1 e p2 p3 f p4 =
    let over : other ≡ suc (here d3) = omega (arith, e, p1.long, p2.long) in
    let last : end ≡ here d5 = omega (arith, f, p1.long, p2.long, p3.long, p4.long) in
    emits_as d0 d5 _ _ _ _ (emits_then d0 d1 d5 _ _ _ _ p0 (emits_then d1 d2 d5 _ _ _ _ (jump_to d1 d2 i.GoIfZero other (suc (here d3)) over p1)
    (emits_then d2 d3 d5 _ _ _ _ p2 (emits_then d3 d4 d5 _ _ _ _ (jump_to d3 d4 i.GoTo end (here d5) last p3) p4)))) (omega arith)
    (λ c q. (
      here d1,
      q.0,
      (
        here d3,
        q.1.0.0,
        subst (λ n. Lies u c a n (here d3)) (sym q.1.0.1) q.1.1.0,
        q.1.1.1.0.0,
        subst (λ n. Lies u c b n (here d5)) (sym q.1.1.1.0.1) q.1.1.1.1,
      ),
    ))

-- arguments, one more at the end
listed_more : (u : UnitParts) (c : Program) (es : List Expr) (e : Expr) (from p q to : ℕ) → ListedLie u c es from p → Lies u c e p q → One c i.HoldValue q to → ListedLie u c (es ++ e ∷ []) from to
listed_more u c [] e from p q to l x y = (q, to, subst (λ n. Lies u c e n q) (sym l) x, y, refl)
listed_more u c (first ∷ es) e from p q to l x y = (l.0, l.1, l.2, l.3, listed_more u c es e l.1 p q to l.4 x y)

pub more_size : (es : List Expr) (e : Expr) → arguments_size (es ++ e ∷ []) ≡ arguments_size es + size e + 1
more_size [] e = omega arith
more_size (first ∷ es) e = omega (arith, more_size es e)

pub emits_no_arguments : (u : UnitParts) (old new : Draft) → new ≡ old → EmitsArguments u old new []
unfolding EmitsOne EmitsPlace EmitsValue EmitsArguments
emits_no_arguments u old new e = emits_none old new e

pub emits_argument : (u : UnitParts) (d0 d1 d2 d3 : Draft) (es : List Expr) (e : Expr) → EmitsArguments u d0 d1 es → EmitsValue u d1 d2 e → EmitsOne d2 d3 i.HoldValue → EmitsArguments u d0 d3 (es ++ e ∷ [])
unfolding EmitsOne EmitsPlace EmitsValue EmitsArguments
emits_argument u d0 d1 d2 d3 es e p0 p1 p2 =
    emits_as d0 d3 _ _ _ _ (emits_then d0 d1 d3 _ _ _ _ p0 (emits_then d1 d2 d3 _ _ _ _ p1 p2)) (omega (arith, more_size es e))
    (λ c q. listed_more u c es e (here d0) (here d1) (here d2) (here d3) q.0 q.1.0 q.1.1)

-- calls
pub emits-named_call : (u : UnitParts) (d0 d1 d2 d3 : Draft) (at site function : ℕ) (e : Expr) (es : List Expr) → callee e ≡ Named function → EmitsArguments u d0 d1 es →
    EmitsOne d1 d2 i.CheckHalt → EmitsOne d2 d3 (i.EnterFunction function site) → EmitsValue u d0 d3 (expr.Call at site e es)
unfolding Lies size hidden hidden-the_row-Expr-0 shape-the_row-Expr-0 hidden-the_row-Place-1 shape-the_row-Place-1 hidden-the_row-Expr-2 shape-the_row-Expr-2 EmitsOne EmitsPlace EmitsValue EmitsArguments
emits-named_call u d0 d1 d2 d3 at site function e es k p0 p1 p2 =
    emits_as d0 d3 _ _ _ _ (emits_then d0 d1 d3 _ _ _ _ p0 (emits_then d1 d2 d3 _ _ _ _ p1 p2))
    (rw k (omega (arith, listed_size es)))
    (λ c q. rw k (here d1, here d2, listed_lies u c es (here d0) (here d1) q.0, q.1.0, q.1.1))

pub emits-row_call : (u : UnitParts) (d0 d1 d2 d3 : Draft) (at site row : ℕ) (e : Expr) (es : List Expr) → callee e ≡ Row row → EmitsArguments u d0 d1 es →
    EmitsOne d1 d2 i.CheckHalt → EmitsOne d2 d3 (i.CallRow row site (count_of (row_type row))) → EmitsValue u d0 d3 (expr.Call at site e es)
unfolding Lies size hidden hidden-the_row-Expr-0 shape-the_row-Expr-0 hidden-the_row-Place-1 shape-the_row-Place-1 hidden-the_row-Expr-2 shape-the_row-Expr-2 EmitsOne EmitsPlace EmitsValue EmitsArguments
emits-row_call u d0 d1 d2 d3 at site row e es k p0 p1 p2 =
    emits_as d0 d3 _ _ _ _ (emits_then d0 d1 d3 _ _ _ _ p0 (emits_then d1 d2 d3 _ _ _ _ p1 p2))
    (rw k (omega (arith, listed_size es)))
    (λ c q. rw k (here d1, here d2, listed_lies u c es (here d0) (here d1) q.0, q.1.0, q.1.1))

pub emits-through_call : (u : UnitParts) (d0 d1 d2 d3 d4 d5 d6 : Draft) (at site : ℕ) (e : Expr) (es : List Expr) (signature : Option FnType) → callee e ≡ Through signature →
    EmitsValue u d0 d1 e → EmitsOne d1 d2 i.HoldValue → EmitsArguments u d2 d3 es → EmitsOne d3 d4 (i.Guard (arguments_of (type_of e))) → EmitsOne d4 d5 i.CheckHalt →
    EmitsOne d5 d6 (i.EnterThrough (arguments_of (type_of e)) site) → EmitsValue u d0 d6 (expr.Call at site e es)
unfolding Lies size hidden hidden-the_row-Expr-0 shape-the_row-Expr-0 hidden-the_row-Place-1 shape-the_row-Place-1 hidden-the_row-Expr-2 shape-the_row-Expr-2 EmitsOne EmitsPlace EmitsValue EmitsArguments
emits-through_call u d0 d1 d2 d3 d4 d5 d6 at site e es signature k p0 p1 p2 p3 p4 p5 =
    emits_as d0 d6 _ _ _ _ (emits_then d0 d1 d6 _ _ _ _ p0 (emits_then d1 d2 d6 _ _ _ _ p1 (emits_then d2 d3 d6 _ _ _ _ p2 (emits_then d3 d4 d6 _ _ _ _ p3 (emits_then d4 d5 d6 _ _ _ _ p4 p5)))))
    (rw k (omega (arith, listed_size es)))
    (λ c q. rw k (here d1, here d2, here d3, here d4, here d5, q.0, q.1.0, listed_lies u c es (here d2) (here d3) q.1.1.0, q.1.1.1.0, q.1.1.1.1.0, q.1.1.1.1.1))

-- the arguments of a list, one after another
pub arguments_start : (u : UnitParts) (d : Draft) (es : List Expr) → EmitsArguments u d d (take 0 es) × (here d ≡ here d + arguments_size (take 0 es))
arguments_start u d es = (emits_no_arguments u d d refl, omega arith)

one_more : (es : List Expr) (n : ℕ) (e : Expr) → n < length es → e ≡ get_or es n e → take (n + 1) es ≡ take n es ++ e ∷ []
one_more es n e low is = take_more es n e low ∙ ap (λ x. take n es ++ x ∷ []) (sym is)

pub arguments_next : (u : UnitParts) (d0 d1 d2 d3 : Draft) (es : List Expr) (n : ℕ) (e : Expr) → n < length es → e ≡ get_or es n e →
    EmitsArguments u d0 d1 (take n es) × (here d1 ≡ here d0 + arguments_size (take n es)) → EmitsValue u d1 d2 e → here d2 ≡ here d1 + size e → EmitsOne d2 d3 i.HoldValue →
    here d3 ≡ here d2 + 1 → EmitsArguments u d0 d3 (take (n + 1) es) × (here d3 ≡ here d0 + arguments_size (take (n + 1) es))
arguments_next u d0 d1 d2 d3 es n e low is so_far value long one last = (
  subst (EmitsArguments u d0 d3) (sym (one_more es n e low is)) (emits_argument u d0 d1 d2 d3 (take n es) e so_far.0 value one),
  omega (arith, so_far.1, long, last, more_size (take n es) e, ap arguments_size (one_more es n e low is)),
)

pub arguments_room : (es : List Expr) (n : ℕ) (e : Expr) → n < length es → e ≡ get_or es n e → arguments_size (take n es) + size e + 1 ≤ arguments_size es
arguments_room [] n e low is = absurd (omega (arith, low))
arguments_room (x ∷ es) zero e low is = let same : size e ≡ size x = ap size is in omega (arith, same)
arguments_room (x ∷ es) (suc n) e low is = let rest = arguments_room es n e (omega (arith, low)) is in omega (arith, rest)

pub arguments_end : (u : UnitParts) (d0 d1 : Draft) (es : List Expr) (n : ℕ) → length es ≤ n → EmitsArguments u d0 d1 (take n es) × (here d1 ≡ here d0 + arguments_size (take n es)) →
    EmitsArguments u d0 d1 es × (here d1 ≡ here d0 + arguments_size es)
arguments_end u d0 d1 es n low so_far = subst (λ l. EmitsArguments u d0 d1 l × (here d1 ≡ here d0 + arguments_size l)) (take_all n es low) so_far

pub ruleset argument_emissions = (arguments_start, arguments_next, arguments_room, arguments_end)
