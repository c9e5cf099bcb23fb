-- What is appended for functions.
use Rattle.std.proofs.Common.{◌≡◌, refl, sym, ap, ◌∙◌, subst, ℕ, zero, suc, ◌+◌, ◌-◌, ◌^◌, ◌<◌, ◌≤◌, List, [], ◌∷◌, ◌++◌, length, drop, Option, Some, None, arith, get_or, slice_get, length-drop}
use Rattle.std.proofs.Math.Seq.{drop-cons}
use Rattle.std.proofs.lemmas.Option.{slice_get-get_or}
use Rattle.core_unit.specs.Layout.{told}
use Rattle.core_unit.specs.Shapes.{level_of}
use Rattle.core_unit.specs.Units.{IsUnit, IsFunction}
use Rattle.core_unit.specs.declared.body.Body.{Body}
use Rattle.core_unit.specs.declared.tables.FunctionInfo.{FunctionInfo}
use Rattle.core_unit.specs.declared.tables.UnitParts.{UnitParts}
use Rattle.eff_types.specs.declared.types.CType.{CType}
use Rattle.mcode.specs.declared.code.Entry.{Entry}
use Rattle.mcode.specs.declared.code.Instruction.TheVariants as i
use Rattle.c_codegen.specs.declared.draft.Draft.{Draft}
use Rattle.c_codegen.specs.Emits.{here, EmitsOne, EmitsBinds, EmitsMeets, EmitsStatements, EmitsFunction, AddsFunction}
use Rattle.c_codegen.specs.Entries.{entry_at}
use Rattle.c_codegen.specs.Sizes.{list_size, body_size, function_size}
use Rattle.c_codegen.proofs.EmittedStatements.{emits_no_binds, emits_bind, emits_meets, emits_no_meets, emits_function}
use Rattle.c_codegen.proofs.StatedFrames.{body_low}

pub ruleset meeting_emissions = (emits_meets, emits_no_meets)

-- Parameters, of which so many were stored.
pub record AreBound (old new : Draft) (count : ℕ) (ts : List CType) : Type 0 where
  pub code : EmitsBinds old new count ts (drop count ts)
  pub long : here new ≡ here old + count

pub bound_none : (d : Draft) (ts : List CType) → AreBound d d 0 ts
bound_none d ts = record { code = emits_no_binds d d ts refl; long = omega arith }

pub bound_next : (d0 d1 d2 : Draft) (n behind : ℕ) (ts : List CType) (t : CType) → n < length ts → t ≡ get_or ts n t → AreBound d0 d1 n ts → behind ≡ length ts - n - 1 →
    EmitsOne d1 d2 (i.Bind n behind (level_of t)) → here d2 ≡ here d1 + 1 → AreBound d0 d2 (n + 1) ts
bound_next d0 d1 d2 n behind ts t low is so_far back one long =
    let next : suc n ≡ n + 1 = omega arith in
    let first : drop n ts ≡ t ∷ drop (suc n) ts = drop-cons ts n t low ∙ ap (λ x. x ∷ drop (suc n) ts) (sym is) in
    let few : behind ≡ length (drop (suc n) ts) = omega (arith, back, length-drop (suc n) ts) in
    subst (λ k. AreBound d0 d2 k ts) next (record {
      code = emits_bind d0 d1 d2 n behind ts t (drop (suc n) ts) (subst (EmitsBinds d0 d1 n ts) first so_far.code) few one;
      long = omega (arith, so_far.long, long);
    })

drop_all : {A : Type 0} (xs : List A) (n : ℕ) → length xs ≤ n → drop n xs ≡ []
drop_all [] zero low = refl
drop_all [] (suc n) low = refl
drop_all (x ∷ xs) zero low = absurd (omega (arith, low))
drop_all (x ∷ xs) (suc n) low = drop_all xs n (omega (arith, low))

pub bound_all : (d0 d1 : Draft) (n : ℕ) (ts : List CType) → n ≡ length ts → AreBound d0 d1 n ts → EmitsBinds d0 d1 (length ts) ts []
bound_all d0 d1 n ts all so_far =
    subst (λ k. EmitsBinds d0 d1 k ts []) all (subst (EmitsBinds d0 d1 n ts) (drop_all ts n (omega (arith, all))) so_far.code)

pub ruleset binding_emissions = (bound_none, bound_next, bound_all)

-- the end of the body comes behind its statements
pub stated_function : (u : UnitParts) (d0 d1 d2 d3 d4 d5 d6 : Draft) (function : ℕ) (f : FunctionInfo) (body : Body) (at n : ℕ) → at ≡ here d3 → n ≡ told (list_size body.items) →
    here d3 + list_size body.items ≤ 2 ^ 21 → EmitsMeets d0 d1 f.kind.effects.no_block_inference function → EmitsBinds d1 d2 (length f.kind.params) f.kind.params [] →
    EmitsOne d2 d3 (i.Forget (length f.kind.params)) → EmitsStatements u d3 d4 body.items (at + n) (at + n) → EmitsOne d4 d5 i.FallOff → EmitsOne d5 d6 i.LeaveFunction →
    EmitsFunction u d0 d6 function f body
stated_function u d0 d1 d2 d3 d4 d5 d6 function f body at n there long room p0 p1 p2 p3 p4 p5 =
    emits_function u d0 d1 d2 d3 d4 d5 d6 function f body (at + n) p0 p1 p2 p3 (omega (arith, there, long, room)) p4 p5

pub ruleset body_emissions = (stated_function)

-- A function, by whether it is defined.

pub adds_defined : (u : UnitParts) (id place : ℕ) (f : FunctionInfo) (body : Body) (d0 d1 : Draft) (e0 e1 : List (Option Entry)) → f.body ≡ Some body → EmitsFunction u d0 d1 id f body →
    place ≡ here d0 → e1 ≡ e0 ++ Some (entry_at u place f) ∷ [] → AddsFunction u id f f.body d0 d1 e0 e1
adds_defined u id place f body d0 d1 e0 e1 is code there known =
    subst (λ b. AddsFunction u id f b d0 d1 e0 e1) (sym is) (code, known ∙ ap (λ n. e0 ++ Some (entry_at u n f) ∷ []) there)

pub adds_declared : (u : UnitParts) (id : ℕ) (f : FunctionInfo) (d0 d1 : Draft) (e0 e1 : List (Option Entry)) → f.body ≡ None → d1 ≡ d0 → e1 ≡ e0 ++ None ∷ [] →
    AddsFunction u id f f.body d0 d1 e0 e1
adds_declared u id f d0 d1 e0 e1 is same known = subst (λ b. AddsFunction u id f b d0 d1 e0 e1) (sym is) (same, known)

pub defined_size : (f : FunctionInfo) (body : Body) → f.body ≡ Some body → function_size f ≡ body_size f body
defined_size f body is = by f.body is
  where
    by : (found : Option Body) → found ≡ Some body → function_size (record f { body = found }) ≡ body_size f body
    by None e = let clash : ⊥ = cc in absurd clash
    by (Some x) e = let same : x ≡ body = cc in ap (body_size f) same

pub few_parameters : (u : UnitParts) (f : FunctionInfo) → IsFunction u f → length f.kind.params ≤ 16
few_parameters u f lawful = lawful.few

pub ruleset definition_emissions = (adds_defined, adds_declared, defined_size, few_parameters, body_low)

-- Functions of a unit.

pub listed_lawful : (u : UnitParts) (n : ℕ) (f : FunctionInfo) → IsUnit u → n < length u.functions → f ≡ get_or u.functions n f → IsFunction u f
listed_lawful u n f lawful low is = subst (IsFunction u) (sym is) (lawful.functions n f low)

pub listed_known : (u : UnitParts) (n : ℕ) (f : FunctionInfo) → n < length u.functions → f ≡ get_or u.functions n f → slice_get u.functions n ≡ Some f
listed_known u n f low is = slice_get-get_or u.functions n f low ∙ ap Some (sym is)
