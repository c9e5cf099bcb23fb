-- The code of the functions of a unit, one more; and how much room those that are left have.
use Rattle.std.proofs.Common.{◌≡◌, refl, sym, ap, ◌∙◌, subst, ℕ, zero, suc, ◌+◌, ◌^◌, ◌≤◌, List, [], ◌∷◌, length, drop, Option, Some, None, arith, slice_get}
use Rattle.core_unit.specs.declared.body.Body.{Body}
use Rattle.core_unit.specs.declared.tables.FunctionInfo.{FunctionInfo}
use Rattle.core_unit.specs.declared.tables.UnitParts.{UnitParts}
use Rattle.mcode.specs.declared.code.Entry.{Entry}
use Rattle.c_codegen.specs.declared.draft.Draft.{Draft}
use Rattle.c_codegen.specs.Emits.{here, EmitsFunction, AddsFunction}
use Rattle.c_codegen.specs.Functions.{AddsListed, AddsFunctions}
use Rattle.c_codegen.specs.Sizes.{function_size, unit_size}

pub rest_size : (fs : List FunctionInfo) (n : ℕ) (f : FunctionInfo) → slice_get fs n ≡ Some f → unit_size (drop n fs) ≡ function_size f + unit_size (drop (n + 1) fs)
rest_size [] n f known = let clash : ⊥ = cc in absurd clash
rest_size (x ∷ fs) zero f known = let same : x ≡ f = cc in ap (λ (y : FunctionInfo). function_size y + unit_size fs) same
rest_size (x ∷ fs) (suc n) f known =
    let next : suc n + 1 ≡ suc (n + 1) = omega arith in
    rest_size fs n f known ∙ ap (λ k. function_size f + unit_size (drop k (x ∷ fs))) (sym next)

-- how long the code of one is
pub function_long : (u : UnitParts) (n : ℕ) (f : FunctionInfo) (body : Option Body) (d e : Draft) (entries more : List (Option Entry)) → AddsFunction u n f body d e entries more →
    here e ≡ here d + function_size (record f { body = body })
unfolding EmitsFunction
function_long u n f None d e entries more a = omega (arith, ap here a.0)
function_long u n f (Some body) d e entries more a = a.0.long

listed_long : (u : UnitParts) (n : ℕ) (listed : Option FunctionInfo) (d e : Draft) (entries more : List (Option Entry)) → slice_get u.functions n ≡ listed →
    AddsListed u n listed d e entries more → here e + unit_size (drop (n + 1) u.functions) ≡ here d + unit_size (drop n u.functions)
listed_long u n (Some f) d e entries more known a =
    let long = function_long u n f f.body d e entries more a in
    let rest = rest_size u.functions n f known in omega (arith, long, rest)
listed_long u n None d e entries more known a = absurd a

-- what is left of the room is what is left of the functions
pub functions_long : (u : UnitParts) (n : ℕ) (d0 d1 : Draft) (e0 e1 : List (Option Entry)) → AddsFunctions u n d0 d1 e0 e1 →
    here d1 + unit_size (drop n u.functions) ≡ here d0 + unit_size u.functions
unfolding AddsFunctions
functions_long u zero d0 d1 e0 e1 a = ap (λ (d : Draft). here d + unit_size u.functions) a.0
functions_long u (suc n) d0 d1 e0 e1 a =
    let before = functions_long u n d0 a.0 e0 a.1 a.2 in
    let last = listed_long u n (slice_get u.functions n) a.0 d1 a.1 e1 refl a.3 in
    let next : n + 1 ≡ suc n = omega arith in
    ap (λ k. here d1 + unit_size (drop k u.functions)) (sym next) ∙ last ∙ before

-- nothing yet
pub functions_none : (u : UnitParts) (d : Draft) (entries : List (Option Entry)) → AddsFunctions u 0 d d entries entries
unfolding AddsFunctions
functions_none u d entries = (refl, refl)

-- one more
pub functions_next : (u : UnitParts) (n : ℕ) (f : FunctionInfo) (d0 d1 d2 : Draft) (e0 e1 e2 : List (Option Entry)) → slice_get u.functions n ≡ Some f → AddsFunctions u n d0 d1 e0 e1 →
    AddsFunction u n f f.body d1 d2 e1 e2 → AddsFunctions u (n + 1) d0 d2 e0 e2
unfolding AddsFunctions
functions_next u n f d0 d1 d2 e0 e1 e2 known so_far one =
    let next : suc n ≡ n + 1 = omega arith in
    subst (λ k. AddsFunctions u k d0 d2 e0 e2) next (d1, e1, so_far, subst (λ listed. AddsListed u n listed d1 d2 e1 e2) (sym known) one)

-- the next one has room
pub functions_room : (u : UnitParts) (n : ℕ) (f : FunctionInfo) (d0 d1 : Draft) (e0 e1 : List (Option Entry)) → slice_get u.functions n ≡ Some f → here d0 + unit_size u.functions ≤ 2 ^ 21 →
    AddsFunctions u n d0 d1 e0 e1 → here d1 + function_size f ≤ 2 ^ 21
functions_room u n f d0 d1 e0 e1 known room so_far =
    let long = functions_long u n d0 d1 e0 e1 so_far in
    let rest = rest_size u.functions n f known in omega (arith, long, rest, room)

-- all of them
pub functions_all : (u : UnitParts) (n : ℕ) (d0 d1 : Draft) (e0 e1 : List (Option Entry)) → n ≡ length u.functions → AddsFunctions u n d0 d1 e0 e1 → AddsFunctions u (length u.functions) d0 d1 e0 e1
functions_all u n d0 d1 e0 e1 e so_far = subst (λ k. AddsFunctions u k d0 d1 e0 e1) e so_far

pub ruleset function_emissions = (functions_none, functions_next, functions_room, functions_all)
