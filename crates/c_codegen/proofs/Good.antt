-- Code that lies as told is code: its jumps go on, or to loads of the halt word, and what its instructions name is low.
use Rattle.std.proofs.Common.{◌≡◌, refl, sym, ap, ◌∙◌, subst, ℕ, suc, ◌+◌, ◌^◌, ◌<◌, ◌≤◌, ◌⊎◌, inl, inr, Bool, true, false, ◌||◌, List, [], ◌∷◌, length, Option, Some, None, arith, slice_get, nat_lt}
use Rattle.std.proofs.lemmas.Bool.{cases_lt}
use Rattle.std.proofs.lemmas.Bool.Decides.{nat_tests}
use Rattle.core_unit.specs.Library.{row_types}
use Rattle.core_unit.specs.Places.{callee, Callee, Named, Row, Through, Calls as CallsAt, spots, all_spots}
use Rattle.core_unit.specs.Typed.{Tables, IsTyped, IsTypedPlace, AreTyped, IsCallee, IsCalled, IsObject}
use Rattle.core_unit.specs.Typing.{type_of}
use Rattle.core_unit.specs.declared.expressions.Expr as expr
use Rattle.core_unit.specs.declared.expressions.Expr.{Expr, Row_of-Expr, end_of-Expr, more_of-Expr, end_of-Place, more_of-Place}
use Rattle.core_unit.specs.declared.expressions.Place as place
use Rattle.core_unit.specs.declared.expressions.Place.{Place}
use Rattle.core_unit.specs.declared.expressions.Storage.TheVariants.{Automatic, Static, ThreadLocal}
use Rattle.core_unit.specs.declared.operators.LogicalOperator.{LogicalOperator}
use Rattle.core_unit.specs.declared.operators.LogicalOperator.TheVariants as logical
use Rattle.core_unit.specs.declared.tables.UnitParts.{UnitParts}
use Rattle.eff_types.specs.declared.types.CType.{CType}
use Rattle.eff_types.specs.declared.types.FnType.{FnType}
use Rattle.machine_code.specs.Bounds.{IsOffset}
use Rattle.machine_code.specs.Codes.{GoesOn, IsLowInstruction, IsLowSite, lands, is_check}
use Rattle.mcode.specs.Machine.{Program}
use Rattle.mcode.specs.declared.code.Instruction.{Instruction}
use Rattle.mcode.specs.declared.code.Instruction.TheVariants as i
use Rattle.c_codegen.proofs.Sites.{IsSitedPlace, IsSited, AreSited, behind_place, behind, behind_all}
use Rattle.c_codegen.specs.Lies.{Is, One, decides, Also, Picks, Calls, PlaceLies, Lies, ArgumentsLie}

-- an instruction names nothing that is too high
abbrev pub IsFit : Instruction → Type 0
IsFit (i.SetLocal offset) = IsOffset offset
IsFit (i.SetThreadLocal offset) = IsOffset offset
IsFit (i.Fill offset word count) = IsOffset offset
IsFit (i.FillText offset at count) = IsOffset offset × (at ≤ 2 ^ 31)
IsFit (i.Put offset level) = IsOffset offset
IsFit (i.Bind offset back level) = IsOffset offset
IsFit (i.CallRow row site count) = (row ≤ 2 ^ 20) × (site < 2 ^ 20)
IsFit (i.EnterFunction function site) = site < 2 ^ 20
IsFit (i.EnterThrough count site) = site < 2 ^ 20
IsFit _ = Unit {0}

pub fit_low : (x : Instruction) → IsFit x → IsLowInstruction x × IsLowSite x
fit_low (i.SetLocal offset) h = (h, tt)
fit_low (i.SetThreadLocal offset) h = (h, tt)
fit_low (i.Fill offset word count) h = (h, tt)
fit_low (i.FillText offset at count) h = (h, tt)
fit_low (i.Put offset level) h = (h, tt)
fit_low (i.Bind offset back level) h = (h, tt)
fit_low (i.CallRow row site count) h = h
fit_low (i.EnterFunction function site) h = (tt, h)
fit_low (i.EnterThrough count site) h = (tt, h)
fit_low _ h = (tt, tt)

-- from here to there it goes on, and each instruction between is as it must be
abbrev pub Good : Program → (from to : ℕ) → Type 0
Good c from to =
    (from ≤ to) × ((at : ℕ) (x : Instruction) → from ≤ at → at < to → Is c at x → GoesOn c.instructions at x × IsFit x)

pub good_self : (c : Program) (from to : ℕ) → from ≡ to → Good c from to
good_self c from to e = (omega (arith, e), λ at x low high is. absurd (omega (arith, low, high, e)))

pub good_then : (c : Program) (a b d : ℕ) → Good c a b → Good c b d → Good c a d
good_then c a b d p q = (omega (arith, p.0, q.0), λ at x low high is. by at x low high is (cases_lt at b))
  where
    by : (at : ℕ) (x : Instruction) → a ≤ at → at < d → Is c at x → (at < b) ⊎ (b ≤ at) → GoesOn c.instructions at x × IsFit x
    by at x low high is (inl before) = p.1 at x low before is
    by at x low high is (inr behind) = q.1 at x behind high is

some_same : {A : Type 0} (x y : A) → Some x ≡ Some y → x ≡ y
some_same x y e = cc

pub good_one : (c : Program) (x : Instruction) (from to : ℕ) → One c x from to → GoesOn c.instructions from x → IsFit x → Good c from to
good_one c x from to l goes low =
    (omega (arith, l.1), λ at y least most is. by at y (let e = l.1 in omega (arith, e, least, most)) is)
  where
    by : (at : ℕ) (y : Instruction) → at ≡ from → Is c at y → GoesOn c.instructions at y × IsFit y
    by at y e is =
        let there : Is c from y = subst (λ n. Is c n y) e is in
        let same : x ≡ y = some_same x y (sym l.0 ∙ there) in
        subst (λ n. GoesOn c.instructions n y × IsFit y) (sym e) (subst (λ z. GoesOn c.instructions from z × IsFit z) same (goes, low))

-- jumps
pub lands_on : (c : Program) (at place : ℕ) → at < place → lands c.instructions at place ≡ true
lands_on c at place low = let test : nat_lt at place ≡ true = grind (arith, nat_tests) in ap (λ b. b || is_check (slice_get c.instructions place)) test

or_true : (a : Bool) → a || true ≡ true
or_true true = refl
or_true false = refl

pub lands_back : (c : Program) (at place : ℕ) → Is c place i.CheckHalt → lands c.instructions at place ≡ true
lands_back c at place is = ap (λ x. nat_lt at place || is_check x) is ∙ or_true (nat_lt at place)

pub good_picks : (c : Program) (a b : ℕ → ℕ → Type 0) (from to : ℕ) → ((p q : ℕ) → a p q → Good c p q) → ((p q : ℕ) → b p q → Good c p q) → Picks c a b from to → Good c from to
good_picks c a b from to f g l =
    let first = f (suc from) l.0 l.2 in
    let second = g (suc l.0) to l.4 in
    good_then c from (suc from) to (good_one c (i.GoIfZero (suc l.0)) from (suc from) (l.1, refl) (lands_on c from (suc l.0) (omega (arith, first.0))) tt)
    (good_then c (suc from) l.0 to first
    (good_then c l.0 (suc l.0) to (good_one c (i.GoTo to) l.0 (suc l.0) (l.3, refl) (lands_on c l.0 to (omega (arith, second.0))) tt) second))

decides_lands : (c : Program) (operator : LogicalOperator) (from place : ℕ) → from < place → GoesOn c.instructions from (decides operator place)
decides_lands c logical.And from place low = lands_on c from place low
decides_lands c logical.Or from place low = lands_on c from place low

decides_low : (operator : LogicalOperator) (place : ℕ) → IsFit (decides operator place)
decides_low logical.And place = tt
decides_low logical.Or place = tt

good_also : (c : Program) (operator : LogicalOperator) (right : ℕ → ℕ → Type 0) (from to : ℕ) → ((p q : ℕ) → right p q → Good c p q) → Also c operator right from to → Good c from to
good_also c operator right from to f l =
    let part = f (suc from) l.0 l.2 in
    good_then c from (suc from) to (good_one c (decides operator l.0) from (suc from) (l.1, refl) (decides_lands c operator from l.0 (omega (arith, part.0))) (decides_low operator l.0))
    (good_then c (suc from) l.0 to part (good_one c i.Truth l.0 to l.3 tt tt))

-- what is known of a callee
abbrev pub CalleeFact : Callee → Type 0 → Type 0
CalleeFact (Named function) typed = Unit {0}
CalleeFact (Row row) typed = row < length row_types
CalleeFact (Through signature) typed = typed

pub callee_fact : (e : Expr) (typed : Type 0) → IsCallee e typed → CalleeFact (callee e) typed
callee_fact (expr.Function function t) typed h = tt
callee_fact (expr.LibraryFunction row) typed h = h
callee_fact (expr.Number sign bits) typed h = h
callee_fact expr.Null typed h = h
callee_fact (expr.Sizeof words) typed h = h
callee_fact (expr.TargetFunction' _ e) typed h = h
callee_fact (expr.FunctionPointer' _ e) typed h = h
callee_fact (expr.ArrayPointer' _ o) typed h = h
callee_fact (expr.AddressOf' _ o) typed h = h
callee_fact (expr.Load' _ o) typed h = h
callee_fact (expr.Assign' _ o _ e) typed h = h
callee_fact (expr.Compound' _ o how _ e) typed h = h
callee_fact (expr.Step' _ o how which) typed h = h
callee_fact (expr.Unary' operator _ e) typed h = h
callee_fact (expr.Binary' operator _ a _ b) typed h = h
callee_fact (expr.Logical' operator _ a _ b) typed h = h
callee_fact (expr.Conditional' _ t _ a _ b) typed h = h
callee_fact (expr.Comma' _ a _ b) typed h = h
callee_fact (expr.Call' at site _ e _ es) typed h = h
callee_fact (expr.Convert' why t _ e) typed h = h
callee_fact (expr.Discard' _ e) typed h = h

-- a call, whose callee and arguments are good
good_call : (c : Program) (called : Callee) (t : CType) (site : ℕ) (typed : Type 0) (e es : ℕ → ℕ → Type 0) (from to : ℕ) → CalleeFact called typed → site < 2 ^ 20 →
    (typed → (p q : ℕ) → e p q → Good c p q) → ((p q : ℕ) → es p q → Good c p q) → Calls c called t site e es from to → Good c from to
good_call c (Named function) t site typed e es from to h low f g l =
    good_then c from l.0 to (g from l.0 l.2) (good_then c l.0 l.1 to (good_one c _ l.0 l.1 l.3 tt tt) (good_one c _ l.1 to l.4 tt low))
good_call c (Row row) t site typed e es from to h low f g l =
    good_then c from l.0 to (g from l.0 l.2) (good_then c l.0 l.1 to (good_one c _ l.0 l.1 l.3 tt tt) (good_one c _ l.1 to l.4 tt (omega (arith, h), low)))
good_call c (Through signature) t site typed e es from to h low f g l =
    good_then c from l.0 to (f h from l.0 l.5) (good_then c l.0 l.1 to (good_one c _ l.0 l.1 l.6 tt tt) (good_then c l.1 l.2 to (g l.1 l.2 l.7)
    (good_then c l.2 l.3 to (good_one c _ l.2 l.3 l.8 tt tt) (good_then c l.3 l.4 to (good_one c _ l.3 l.4 l.9 tt tt) (good_one c _ l.4 to l.10 tt low)))))

-- the objects of a frame and of a thread's region stand low
pub record AreLow (t : Tables) : Type 0 where
  pub frame : (offset words : ℕ) → IsObject t.frame offset words → offset + words ≤ 2 ^ 20
  pub region : (offset words : ℕ) → IsObject t.thread_locals offset words → offset + words ≤ 2 ^ 20

pub called_arguments : {n : _} (t : Tables) (es : Row_of-Expr n) (f : Option FnType) → IsCalled f (λ params. AreTyped t es params) → (params : List CType) × AreTyped t es params
called_arguments t es (Some f) h = (f.params, h)
called_arguments t es None h = absurd h

module _ (u : UnitParts) (c : Program) (t : Tables) (low : AreLow t) where
  mutual
    unfolding Lies IsTyped spots

    pub place_good : (o : Place) (from to : ℕ) → IsTypedPlace t o → IsSitedPlace o → PlaceLies u c o from to → Good c from to
    place_good (place.Variable at (Automatic offset) v) from to h m l = good_one c (i.SetLocal offset) from to l tt (let fits = low.frame offset h.words h.there in omega (arith, fits))
    place_good (place.Variable at (Static address) v) from to h m l = good_one c _ from to l tt tt
    place_good (place.Variable at (ThreadLocal offset) v) from to h m l = good_one c (i.SetThreadLocal offset) from to l tt (let fits = low.region offset h.words h.there in omega (arith, fits))
    place_good (place.Text at words) from to h m l = good_one c _ from to l tt tt
    place_good (place.Indirection' _ (more_of-Expr e end_of-Expr) v) from to h m l = value_good e from to h.0 m l
    place_good (place.Arrow' _ (more_of-Expr e end_of-Expr) structure) from to h m l = value_good e from to h.0 m l
    place_good (place.Element' _ (more_of-Expr a end_of-Expr) _ (more_of-Expr b end_of-Expr) side words v) from to h m l =
        good_then c from l.0 to (value_good a from l.0 h.0 (spots b m.0, m.1) l.3) (good_then c l.0 l.1 to (good_one c _ l.0 l.1 l.4 tt tt)
        (good_then c l.1 l.2 to (value_good b l.1 l.2 h.1 (m.0, behind a (spots b m.0) m.1) l.5) (good_one c _ l.2 to l.6 tt tt)))
    place_good (place.Member' _ (more_of-Place o end_of-Place) offset v) from to h m l = good_then c from l.0 to (place_good o from l.0 h.0 m l.1) (good_one c _ l.0 to l.2 tt tt)

    pub value_good : (e : Expr) (from to : ℕ) → IsTyped t e → IsSited e → Lies u c e from to → Good c from to
    value_good (expr.Number sign bits) from to h m l = good_one c _ from to l tt tt
    value_good expr.Null from to h m l = good_one c _ from to l tt tt
    value_good (expr.Sizeof words) from to h m l = good_one c _ from to l tt tt
    value_good (expr.Function function v) from to h m l = good_one c _ from to l tt tt
    value_good (expr.LibraryFunction row) from to h m l = absurd h
    value_good (expr.TargetFunction' _ (more_of-Expr e end_of-Expr)) from to h m l = value_good e from to h.0 m l
    value_good (expr.FunctionPointer' _ (more_of-Expr e end_of-Expr)) from to h m l = value_good e from to h.0 m l
    value_good (expr.ArrayPointer' _ (more_of-Place o end_of-Place)) from to h m l = place_good o from to h.0 m l
    value_good (expr.AddressOf' _ (more_of-Place o end_of-Place)) from to h m l = place_good o from to h.0 m l
    value_good (expr.Load' _ (more_of-Place o end_of-Place)) from to h m l = good_then c from l.0 to (place_good o from l.0 h.0 m l.1) (good_one c _ l.0 to l.2 tt tt)
    value_good (expr.Assign' _ (more_of-Place o end_of-Place) _ (more_of-Expr e end_of-Expr)) from to h m l =
        good_then c from l.0 to (place_good o from l.0 h.0 (spots e m.0, m.1) l.3) (good_then c l.0 l.1 to (good_one c _ l.0 l.1 l.4 tt tt)
        (good_then c l.1 l.2 to (value_good e l.1 l.2 h.2 (m.0, behind_place o (spots e m.0) m.1) l.5) (good_one c _ l.2 to l.6 tt tt)))
    value_good (expr.Compound' _ (more_of-Place o end_of-Place) how _ (more_of-Expr e end_of-Expr)) from to h m l =
        good_then c from l.0 to (place_good o from l.0 h.0 (spots e m.0, m.1) l.6) (good_then c l.0 l.1 to (good_one c _ l.0 l.1 l.7 tt tt)
        (good_then c l.1 l.2 to (good_one c _ l.1 l.2 l.8 tt tt) (good_then c l.2 l.3 to (good_one c _ l.2 l.3 l.9 tt tt)
        (good_then c l.3 l.4 to (value_good e l.3 l.4 h.1 (m.0, behind_place o (spots e m.0) m.1) l.10)
        (good_then c l.4 l.5 to (good_one c _ l.4 l.5 l.11 tt tt) (good_one c _ l.5 to l.12 tt tt))))))
    value_good (expr.Step' _ (more_of-Place o end_of-Place) how which) from to h m l =
        good_then c from l.0 to (place_good o from l.0 h.0 m l.5) (good_then c l.0 l.1 to (good_one c _ l.0 l.1 l.6 tt tt)
        (good_then c l.1 l.2 to (good_one c _ l.1 l.2 l.7 tt tt) (good_then c l.2 l.3 to (good_one c _ l.2 l.3 l.8 tt tt)
        (good_then c l.3 l.4 to (good_one c _ l.3 l.4 l.9 tt tt) (good_one c _ l.4 to l.10 tt tt)))))
    value_good (expr.Unary' operator _ (more_of-Expr e end_of-Expr)) from to h m l = good_then c from l.0 to (value_good e from l.0 h.0 m l.1) (good_one c _ l.0 to l.2 tt tt)
    value_good (expr.Binary' operator _ (more_of-Expr a end_of-Expr) _ (more_of-Expr b end_of-Expr)) from to h m l =
        good_then c from l.0 to (value_good a from l.0 h.0 (spots b m.0, m.1) l.3) (good_then c l.0 l.1 to (good_one c _ l.0 l.1 l.4 tt tt)
        (good_then c l.1 l.2 to (value_good b l.1 l.2 h.1 (m.0, behind a (spots b m.0) m.1) l.5) (good_one c _ l.2 to l.6 tt tt)))
    value_good (expr.Logical' operator _ (more_of-Expr a end_of-Expr) _ (more_of-Expr b end_of-Expr)) from to h m l =
        good_then c from l.0 to (value_good a from l.0 h.0 (spots b m.0, m.1) l.1)
        (good_also c operator (Lies u c b) l.0 to (λ p q n. value_good b p q h.1 (m.0, behind a (spots b m.0) m.1) n) l.2)
    value_good (expr.Conditional' _ (more_of-Expr d end_of-Expr) _ (more_of-Expr a end_of-Expr) _ (more_of-Expr b end_of-Expr)) from to h m l =
        let later = behind d (spots a (spots b m.0)) m.1 in
        good_then c from l.0 to (value_good d from l.0 h.0 (spots a (spots b m.0), m.1) l.1) (good_picks c (Lies u c a) (Lies u c b) l.0 to
        (λ p q n. value_good a p q h.2 (spots b m.0, later) n) (λ p q n. value_good b p q h.3 (m.0, behind a (spots b m.0) later) n) l.2)
    value_good (expr.Comma' _ (more_of-Expr a end_of-Expr) _ (more_of-Expr b end_of-Expr)) from to h m l =
        good_then c from l.0 to (value_good a from l.0 h.0 (spots b m.0, m.1) l.1) (value_good b l.0 to h.1 (m.0, behind a (spots b m.0) m.1) l.2)
    value_good (expr.Call' at site _ (more_of-Expr e end_of-Expr) _ es) from to h m l =
        let call = CallsAt at site (callee e) ∷ m.0 in
        let later = behind e (all_spots es call) m.1 in
        good_call c (callee e) (type_of e) site (IsTyped t e) (Lies u c e) (ArgumentsLie u c es) from to (callee_fact e (IsTyped t e) h.0) (behind_all es call later).0
        (λ typed p q n. value_good e p q typed (all_spots es call, m.1) n)
        (λ p q n. let params = called_arguments t es _ h.1 in arguments_good es params.0 p q params.1 (call, later) n) l
    value_good (expr.Convert' why v _ (more_of-Expr e end_of-Expr)) from to h m l = value_good e from to h.0 m l
    value_good (expr.Discard' _ (more_of-Expr e end_of-Expr)) from to h m l = value_good e from to h.0 m l

    pub arguments_good : {n : _} (es : Row_of-Expr n) (params : List CType) (from to : ℕ) → AreTyped t es params → AreSited es → ArgumentsLie u c es from to → Good c from to
    arguments_good end_of-Expr params from to h m l = good_self c from to l
    arguments_good (more_of-Expr e es) (v ∷ params) from to h m l =
        good_then c from l.0 to (value_good e from l.0 h.0 (all_spots es m.0, m.1) l.2) (good_then c l.0 l.1 to (good_one c _ l.0 l.1 l.3 tt tt)
        (arguments_good es params l.1 to h.2 (m.0, behind e (all_spots es m.0) m.1) l.4))
    arguments_good (more_of-Expr e es) [] from to h m l = absurd h
