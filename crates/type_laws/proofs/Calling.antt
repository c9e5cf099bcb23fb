-- Calls keep what was seen, and make typed nodes.
use Rattle.std.proofs.Common.{◌≡◌, ℕ, zero, suc, Bool, true, false, refl, sym, ◌∙◌, ap, subst, List, [], ◌∷◌, ◌++◌, length, slice_get, Option, Some, None, arith, eqb-true, ◌+◌}
use Rattle.std.specs.Prelude.{not, ◌==◌, if◌then◌else◌}
use denote.Hole.Carrier.{hidden}
use Rattle.eff_types.specs.Types.{is_function}
use Rattle.eff_types.specs.declared.types.CType.{CType, Pointer', Function', Row_of-CType, end_of-CType, more_of-CType, items-the_row-CType}
use Rattle.eff_types.specs.declared.types.CType.TheBlock.{hidden-the_row-CType-0, shape-the_row-CType-0, hidden-the_row-CType-1, shape-the_row-CType-1}
use Rattle.eff_types.specs.declared.types.FnType.{FnType}
use Rattle.core_unit.specs.Library.{row_type, row_types}
use Rattle.core_unit.specs.Shapes.{callee_of, function_in, result_of, pointer_to}
use Rattle.core_unit.specs.Typed.{Tables, IsTyped, IsCallee, IsCalled}
use Rattle.core_unit.specs.Typing.{type_of, called_as}
use Rattle.core_unit.proofs.Equations.{type_of-Call}
use Rattle.core_unit.specs.declared.expressions.Expr as tree
use Rattle.core_unit.specs.declared.expressions.Expr.{Expr}
use Rattle.core_unit.specs.declared.expressions.Expr.TheVariants as expr
use Rattle.core_unit.specs.declared.tables.StructInfo.{StructInfo}
use Rattle.type_rules.specs.Calls.{callee_in, callee, passed, called_by, call, fresh}
use Rattle.type_rules.specs.Conversions.{converted}
use Rattle.type_rules.specs.Expressions.{with_argument}
use Rattle.type_rules.specs.Operands.{operand, operand_of, value_in, as_value, is_whole}
use Rattle.type_rules.specs.Reading.{Read, Good, Bad, and_then}
use Rattle.type_rules.specs.Seen.{Seen}
use Rattle.type_rules.specs.Types.{is_result}
use Rattle.type_rules.specs.declared.found.Form.{Form}
use Rattle.type_rules.specs.declared.found.Form.TheVariants.{Lvalue, Value}
use Rattle.type_rules.specs.declared.found.Found.{Found}
use Rattle.type_rules.specs.declared.found.Operand.{Operand}
use Rattle.type_laws.proofs.Converted.{converted_keeps}
use Rattle.type_laws.proofs.Formed.{IsFormed, AreFormed, Stay, OpenAreEmpty, formed_stays}
use Rattle.type_laws.proofs.Operands.{IsFound, IsTypedFound, FormIsKnown, FormIsTyped, IsOperand, IsTypedOperand, operand_keeps, value_is_known, value_is_typed}
use Rattle.type_laws.proofs.Operations.{node_keeps}
use Rattle.type_laws.proofs.Triples.{Each, Triple, Keeps, Always, Lawful, then_keeps, gives_keeps, refused_keeps, fails_keeps, anyway}
use Rattle.type_laws.proofs.Typed as typed
use Rattle.type_laws.proofs.Types.{given_of_result, not_refused}
use Rattle.type_laws.proofs.Unaries.{operand_stays}

-- a function type whose parts are formed
pub record IsFormedFunction (structures : List StructInfo) (f : FnType) : Type 0 where
  pub result : IsFormed structures f.result
  pub given : is_result f.result ≡ true
  pub params : Each (IsFormed structures) f.params

abbrev pub FunctionIsFormed : List StructInfo → Option FnType → Type 0
FunctionIsFormed structures (Some f) = IsFormedFunction structures f
FunctionIsFormed structures None = Unit {0}

row_formed : {n : _} (structures : List StructInfo) (ts : Row_of-CType n) → AreFormed structures ts → Each (IsFormed structures) (items-the_row-CType n ts)
unfolding IsFormed
row_formed structures end_of-CType f = tt
row_formed structures (more_of-CType t ts) f = (f.0, row_formed structures ts f.2)

pub function_in_formed : (structures : List StructInfo) (t : CType) → IsFormed structures t → FunctionIsFormed structures (function_in t)
unfolding IsFormed
function_in_formed structures (Function' _ (more_of-CType r end_of-CType) _ ps effects) f =
    record { result = f.0; given = f.1; params = row_formed structures ps f.2 }
function_in_formed structures t f = tt

callee_formed : (structures : List StructInfo) (t : CType) → IsFormed structures t → FunctionIsFormed structures (callee_of t)
unfolding IsFormed callee_of
callee_formed structures (Pointer' _ (more_of-CType t end_of-CType)) f = function_in_formed structures t f
callee_formed structures (Function' p (more_of-CType r end_of-CType) z ps effects) f =
    function_in_formed structures (Function' p (more_of-CType r end_of-CType) z ps effects) f
callee_formed structures t f = tt

-- the library's functions
rows_formed : (structures : List StructInfo) → Each (IsFormedFunction structures) row_types
unfolding IsFormed hidden hidden-the_row-CType-0 shape-the_row-CType-0 hidden-the_row-CType-1 shape-the_row-CType-1
rows_formed structures = (
  record { result = tt; given = refl; params = (tt, tt) },
  (
    record { result = tt; given = refl; params = (tt, (tt, tt)) },
    (
      record { result = tt; given = refl; params = (tt, tt) },
      (
        record { result = tt; given = refl; params = (tt, (tt, ((tt, refl, (tt, refl, tt)), (tt, tt)))) },
        (
          record { result = tt; given = refl; params = (tt, (tt, tt)) },
          (
            record { result = tt; given = refl; params = (tt, tt) },
            (
              record { result = tt; given = refl; params = (tt, tt) },
              (
                record { result = tt; given = refl; params = (tt, tt) },
                (
                  record { result = tt; given = refl; params = (tt, tt) },
                  (
                    record { result = tt; given = refl; params = (tt, tt) },
                    (
                      record { result = tt; given = refl; params = (tt, tt) },
                      (
                        record { result = tt; given = refl; params = tt },
                        (
                          record { result = tt; given = refl; params = tt },
                          (
                            record { result = tt; given = refl; params = (tt, tt) },
                            (
                              record { result = tt; given = refl; params = tt },
                              tt,
                            ),
                          ),
                        ),
                      ),
                    ),
                  ),
                ),
              ),
            ),
          ),
        ),
      ),
    ),
  ),
)

found_formed : (structures : List StructInfo) (rows : List FnType) (row : ℕ) → Each (IsFormedFunction structures) rows → FunctionIsFormed structures (slice_get rows row)
found_formed structures [] row each = tt
found_formed structures (f ∷ fs) zero each = each.0
found_formed structures (f ∷ fs) (suc row) each = found_formed structures fs row each.1

called_formed : (structures : List StructInfo) (e : Expr) (t : CType) → IsFormed structures t → FunctionIsFormed structures (called_as e t)
unfolding row_type
called_formed structures (tree.LibraryFunction row) t f = found_formed structures row_types row (rows_formed structures)
called_formed structures e t f = callee_formed structures t f

-- what is called
abbrev pub IsCalledBy : Operand → Seen → Type 0
IsCalledBy f s = IsFormed s.structures f.kind × (type_of f.node ≡ f.kind)

abbrev pub IsTypedCallee : Operand → Tables → Type 0
IsTypedCallee f u = IsCallee f.node (IsTyped u f.node)

callee_value : (s : Seen) (place : ℕ) (kind : CType) (e : Expr) (function : Bool) (f : Operand) → is_function kind ≡ function → IsFormed s.structures kind
    → type_of e ≡ kind → (is_function kind ≡ false → IsCalledBy f s) → IsCalledBy (if function then operand_of place kind e else f) s
callee_value s place kind e true f test formed is other = (formed, is)
callee_value s place kind e false f test formed is other = other test

callee_value_typed : (u : Tables) (place : ℕ) (kind : CType) (e : Expr) (function : Bool) (f : Operand) → is_function kind ≡ function → IsCallee e (IsTyped u e)
    → (is_function kind ≡ false → IsTypedCallee f u) → IsTypedCallee (if function then operand_of place kind e else f) u
callee_value_typed u place kind e true f test h other = h
callee_value_typed u place kind e false f test h other = other test

-- a value that isn't a function's stays as it is
plain_value : (s : Seen) (place : ℕ) (kind : CType) (e : Expr) (function : Bool) → function ≡ false → IsFormed s.structures kind → type_of e ≡ kind
    → IsCalledBy (if function then operand_of place (pointer_to kind) (expr.FunctionPointer e) else operand_of place kind e) s
plain_value s place kind e true plain formed is = absurd (cc)
plain_value s place kind e false plain formed is = (formed, is)

plain_value_typed : (u : Tables) (place : ℕ) (kind : CType) (e : Expr) (function : Bool) → function ≡ false → IsCallee e (IsTyped u e)
    → IsTypedCallee (if function then operand_of place (pointer_to kind) (expr.FunctionPointer e) else operand_of place kind e) u
plain_value_typed u place kind e true plain h = absurd (cc)
plain_value_typed u place kind e false plain h = h

in_known : (s : Seen) (f : Found) (form : Form) → f.form ≡ form → IsFound f s → is_whole f.kind ≡ false → IsCalledBy (callee_in f.place f.kind form f) s
unfolding callee_in as_value
in_known s f (Lvalue p) e known whole = let value = value_is_known s f known whole in (value.0, value.1)
in_known s f (Value n) e known whole =
    let form : FormIsKnown f.kind (Value n) = subst (λ x. FormIsKnown f.kind x) e known.1 in
    callee_value s f.place f.kind n (is_function f.kind) (as_value f) refl known.0 form.0 (λ plain.
    subst (λ x. IsCalledBy (value_in f.place f.kind x) s) (sym e) (plain_value s f.place f.kind n (is_function f.kind) plain known.0 form.0))

in_typed : (s : Seen) (u : Tables) (f : Found) (form : Form) → f.form ≡ form → IsFound f s → is_whole f.kind ≡ false → IsTypedFound true f u
    → IsTypedCallee (callee_in f.place f.kind form f) u
unfolding callee_in as_value
in_typed s u f (Lvalue p) e known whole h =
    let place : IsTypedFound false f u = subst (λ x. FormIsTyped false u x) (sym e) (subst (λ x. FormIsTyped true u x) e h) in
    typed.callee_of_typed u (as_value f).node (value_is_typed s u f known whole place)
in_typed s u f (Value n) e known whole h =
    let callee : IsCallee n (IsTyped u n) = subst (λ x. FormIsTyped true u x) e h in
    callee_value_typed u f.place f.kind n (is_function f.kind) (as_value f) refl callee (λ plain.
    subst (λ x. IsTypedCallee (value_in f.place f.kind x) u) (sym e) (plain_value_typed u f.place f.kind n (is_function f.kind) plain callee))

pub callee_keeps : (expression : Seen → Read Found) → Keeps Always IsFound (IsTypedFound true) expression → Keeps Always IsCalledBy IsTypedCallee (callee expression)
unfolding callee and_then
callee_keeps expression keeps s lawful =
    then_keeps s (expression s) _ (keeps s lawful) (λ f t t_lawful t_stay known.
    refused_keeps t (is_whole f.kind) 3 f.place _ (λ whole.
    gives_keeps t (callee_in f.place f.kind f.form f) t_lawful (in_known t f f.form refl known whole) (λ u leads knows p. in_typed t u f f.form refl known whole p.1)))

-- arguments, behind those that were read
abbrev pub AreGiven : List Operand → Seen → Type 0
AreGiven given s = Each (λ o. IsOperand o s) given

abbrev pub AreTypedGiven : List Operand → Tables → Type 0
AreTypedGiven given u = Each (λ o. IsTypedOperand o u) given

pub given_stay : (given : List Operand) (s t : Seen) → Stay s.structures t.structures → OpenAreEmpty s.structures → AreGiven given s → AreGiven given t
given_stay [] s t stay empty each = tt
given_stay (o ∷ os) s t stay empty each = (operand_stays o s t stay empty each.0, given_stay os s t stay empty each.1)

each_behind : (P : Operand → Type 0) (xs : List Operand) (x : Operand) → Each P xs → P x → Each P (xs ++ x ∷ [])
each_behind P [] x each p = (p, tt)
each_behind P (y ∷ ys) x each p = (each.0, each_behind P ys x each.1 p)

pub argument_keeps : (pre : Tables → Type 0) (given : List Operand) (expression : Seen → Read Found) (rest : List Operand → Seen → Read (List Operand))
    → Keeps Always IsFound (IsTypedFound false) expression
    → ((all : List Operand) (pre' : Tables → Type 0) (t : Seen) → Lawful t → AreGiven all t → ((u : Tables) → pre' u → AreTypedGiven all u)
    → Triple pre' AreGiven AreTypedGiven t (rest all t))
    → (s : Seen) → Lawful s → AreGiven given s → ((u : Tables) → pre u → AreTypedGiven given u) → Triple pre AreGiven AreTypedGiven s (with_argument given expression rest s)
unfolding with_argument and_then
argument_keeps pre given expression rest keeps rest_keeps s lawful known is_typed =
    then_keeps s (operand expression s) _ (anyway s _ (operand_keeps Always expression keeps s lawful)) (λ o t t_lawful t_stay o_known.
    rest_keeps (given ++ o ∷ []) _ t t_lawful (each_behind (λ x. IsOperand x t) given o (given_stay given s t t_stay lawful.open_are_empty known) o_known)
    (λ u p. each_behind (λ x. IsTypedOperand x u) given o (is_typed u p.0) p.1))

-- each argument in the type of its parameter
abbrev pub ArePassed : List CType → List Expr → Seen → Type 0
ArePassed ts vs s = Unit {0}

passed_keeps : (ts : List CType) (os : List Operand) (pre : Tables → Type 0) (s : Seen) → length ts ≡ length os → Lawful s → Each (IsFormed s.structures) ts → AreGiven os s
    → ((u : Tables) → pre u → AreTypedGiven os u) → Triple pre (λ vs t. Unit {0}) (λ vs u. typed.ListIsTyped u vs ts) s (passed ts os s)
unfolding passed and_then
passed_keeps [] [] pre s alike lawful formed known is_typed = gives_keeps s [] lawful tt (λ u leads knows p. tt)
passed_keeps [] (o ∷ os) pre s alike lawful formed known is_typed = absurd (omega arith)
passed_keeps (t ∷ ts) [] pre s alike lawful formed known is_typed = absurd (omega arith)
passed_keeps (t ∷ ts) (o ∷ os) pre s alike lawful formed known is_typed =
    then_keeps s (converted t o s) _ (converted_keeps pre s t o lawful formed.0 known.0 (λ u p. (is_typed u p).0)) (λ v w w_lawful w_stay v_known.
    then_keeps w (passed ts os w) _
    (passed_keeps ts os (λ u. pre u × IsTypedOperand v u) w (omega arith) w_lawful (all_stay ts s w w_stay lawful.open_are_empty formed.1) (given_stay os s w w_stay lawful.open_are_empty known.1)
    (λ u p. (is_typed u p.0).1)) (λ vs x x_lawful x_stay vs_known.
    gives_keeps x (v.node ∷ vs) x_lawful tt (λ u leads knows p. (p.0.1, v_known.0.1 ∙ v_known.1, p.1))))
  where
    all_stay : (ts : List CType) (s t : Seen) → Stay s.structures t.structures → OpenAreEmpty s.structures → Each (IsFormed s.structures) ts → Each (IsFormed t.structures) ts
    all_stay [] s t stay empty each = tt
    all_stay (x ∷ xs) s t stay empty each = (formed_stays s.structures t.structures x stay empty each.0, all_stay xs s t stay empty each.1)

called_keeps : (pre : Tables → Type 0) (s : Seen) (place site : ℕ) (f : Operand) (given : List Operand) (found : Option FnType) → called_as f.node f.kind ≡ found → Lawful s
    → IsCalledBy f s → FunctionIsFormed s.structures found → AreGiven given s → ((u : Tables) → pre u → IsTypedCallee f u) → ((u : Tables) → pre u → AreTypedGiven given u)
    → Triple pre IsFound (IsTypedFound false) s (called_by place site f.node given found s)
unfolding and_then
called_keeps pre s place site f given None e lawful f_known formed known f_typed is_typed = fails_keeps s 3 place
called_keeps pre s place site f given (Some t) e lawful f_known formed known f_typed is_typed =
    refused_keeps s (not (length t.params == length given)) 5 place _ (λ r.
    let alike : length t.params ≡ length given = eqb-true (length t.params) (length given) (not_refused (length t.params == length given) r) in
    then_keeps s (passed t.params given s) _ (passed_keeps t.params given pre s alike lawful formed.params known is_typed) (λ vs w w_lawful w_stay vs_known.
    let static : called_as f.node (type_of f.node) ≡ Some t = ap (λ k. called_as f.node k) f_known.1 ∙ e in
    node_keeps _ w place t.result (expr.Call place site f.node vs) w_lawful
    (formed_stays s.structures w.structures t.result w_stay lawful.open_are_empty formed.result)
    (type_of-Call place site f.node vs ∙ ap result_of static) (given_of_result t.result formed.given) (λ u leads p.
    typed.typed-Call u place site f.node vs (f_typed u p.0) (subst (λ x. IsCalled x (typed.ListIsTyped u vs)) (sym static) p.1))))

called_stays : (f : Operand) (s t : Seen) → Stay s.structures t.structures → OpenAreEmpty s.structures → IsCalledBy f s → IsCalledBy f t
called_stays f s t stay empty known = (formed_stays s.structures t.structures f.kind stay empty known.0, known.1)

pub call_keeps : (place site : ℕ) (function : Seen → Read Found) (arguments : Seen → Read (List Operand)) → Keeps Always IsFound (IsTypedFound true) function
    → Keeps Always AreGiven AreTypedGiven arguments → Keeps Always IsFound (IsTypedFound false) (call place site function arguments)
unfolding call and_then
call_keeps place site function arguments f_keeps a_keeps s lawful =
    then_keeps s (callee function s) _ (callee_keeps function f_keeps s lawful) (λ f t t_lawful t_stay f_known.
    then_keeps t (arguments t) _ (anyway t _ (a_keeps t t_lawful)) (λ given v v_lawful v_stay known.
    let here = called_stays f t v v_stay t_lawful.open_are_empty f_known in
    called_keeps _ v place site f given (called_as f.node f.kind) refl v_lawful here (called_formed v.structures f.node f.kind here.0) known (λ u p. p.0.1) (λ u p. p.1)))

-- the numbers of call sites are nothing to what is typed
pub fresh_keeps : (called : Bool) (calls : ℕ) (expression : ℕ → Seen → Read Found) → ((first : ℕ) → Keeps Always IsFound (IsTypedFound called) (expression first))
    → Keeps Always IsFound (IsTypedFound called) (fresh calls expression)
unfolding fresh
fresh_keeps called calls expression keeps s lawful =
    moved (expression s.sites (record s { sites = s.sites + calls })) (keeps s.sites (record s { sites = s.sites + calls }) lawful)
  where
    moved : (r : Read Found) → Triple Always IsFound (IsTypedFound called) (record s { sites = s.sites + calls }) r → Triple Always IsFound (IsTypedFound called) s r
    moved (Bad number place) h = record { holds = tt }
    moved (Good f t) h = record {
      holds = record {
        lawful = h.holds.lawful;
        stay = h.holds.stay;
        known = h.holds.known;
        outer = h.holds.outer;
        back = h.holds.back;
        begun = h.holds.begun;
        calm = h.holds.calm;
        here = h.holds.here;
        old = h.holds.old;
        tables = h.holds.tables;
      };
    }
