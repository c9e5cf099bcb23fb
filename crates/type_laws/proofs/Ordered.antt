-- A typed unit is a unit where the calls of each body are numbered in order of place.
use Rattle.std.proofs.Common.{◌≡◌, ℕ, suc, ◌<◌, ◌≤◌, ◌+◌, ◌^◌, refl, sym, ap, subst, List, [], ◌∷◌, ◌++◌, map, flat_map, length, Option, Some, None, All, arith}
use Rattle.c_tree.specs.declared.statements.Tree.{Tree}
use Rattle.core_unit.specs.Places.{places, body_spots}
use Rattle.core_unit.specs.Units.{SiteOf, AreNumbered, body_in, body_sites, calls_of, IsUnit}
use Rattle.core_unit.specs.declared.body.Body.{Body}
use Rattle.core_unit.specs.declared.tables.FunctionInfo.{FunctionInfo}
use Rattle.core_unit.specs.declared.tables.SiteInfo.{SiteInfo}
use Rattle.core_unit.specs.declared.tables.UnitParts.{UnitParts}
use Rattle.core_unit.specs.declared.units.Which.{Which}
use Rattle.type_rules.specs.Reading.{Read, Good, Bad}
use Rattle.type_rules.specs.Seen.{Seen}
use Rattle.type_rules.specs.Units.{parts_of, exceeded, outcome, outcome_of, typed, IsTyped}
use Rattle.type_rules.specs.declared.notes.TypeWarning.{TypeWarning}
use Rattle.type_laws.proofs.Assembled.{typed_units_are_units}
use Rattle.type_laws.proofs.Order.{AreConsecutive, numbered_of, consecutive_joined, AllAgree, in_order_sorted, occurrences, occurrences_in_order, within, AreNumberedFrom, sorted_numbered}

-- The calls of a body have the numbers from the first on, before the last, in order of place.
pub record IsOrdered (first last : ℕ) (body : Body) : Type 0 where
  pub far : first ≤ last
  pub agree : AllAgree (body_spots body)
  pub counts : (k : ℕ) → occurrences k (body_spots body) ≡ within k first last

body_numbered : (function first last : ℕ) (body : Body) → IsOrdered first last body → AreNumberedFrom function first last (places body)
unfolding places
body_numbered function first last body h =
    sorted_numbered function first last (places body) h.far (in_order_sorted (body_spots body) h.agree)
    (λ k. let same = occurrences_in_order k (body_spots body) in let all = h.counts k in omega (arith, same, all))

abbrev pub BodyIsOrdered : ℕ → ℕ → Option Body → Type 0
BodyIsOrdered first last (Some body) = IsOrdered first last body
BodyIsOrdered first last None = first ≡ last

-- those of all bodies, definition after definition
abbrev pub AreOrdered : List FunctionInfo → ℕ → List ℕ → ℕ → Type 0
AreOrdered functions first [] last = first ≡ last
AreOrdered functions first (d ∷ ds) last = (middle : ℕ) × BodyIsOrdered first middle (body_in functions d) × AreOrdered functions middle ds last

record AreCalls (first last : ℕ) (calls : List SiteOf) : Type 0 where
  consecutive : AreConsecutive first calls
  many : first + length calls ≡ last

length_joined : (xs ys : List SiteOf) → length (xs ++ ys) ≡ length xs + length ys
length_joined [] ys = omega arith
length_joined (x ∷ xs) ys = let rest = length_joined xs ys in omega (arith, rest)

calls_joined : (first middle last : ℕ) (xs ys : List SiteOf) → AreCalls first middle xs → AreCalls middle last ys → AreCalls first last (xs ++ ys)
calls_joined first middle last xs ys p q =
    let long = length_joined xs ys in
    let many = p.many in
    let more = q.many in
    record {
      consecutive = consecutive_joined first xs ys p.consecutive (subst (λ n. AreConsecutive n ys) (sym many) q.consecutive);
      many = omega (arith, long, many, more);
    }

body_calls : (function first last : ℕ) (body : Option Body) → BodyIsOrdered first last body → AreCalls first last (body_sites function body)
body_calls function first last (Some body) h = let all = body_numbered function first last body h in record { consecutive = all.consecutive; many = all.many }
body_calls function first last None h = record { consecutive = tt; many = omega (arith, h) }

all_calls : (functions : List FunctionInfo) (first last : ℕ) (ds : List ℕ) → AreOrdered functions first ds last
    → AreCalls first last (flat_map (λ function. body_sites function (body_in functions function)) ds)
all_calls functions first last [] h = record { consecutive = tt; many = omega (arith, h) }
all_calls functions first last (d ∷ ds) h =
    calls_joined first h.0 last (body_sites d (body_in functions d)) (flat_map (λ function. body_sites function (body_in functions function)) ds)
    (body_calls d first h.0 (body_in functions d) h.1) (all_calls functions h.0 last ds h.2)

-- the sites of a typed unit are those of its calls
abbrev infos : List SiteOf → List SiteInfo
infos calls = map (λ call. call.info) calls

sites_of_seen : (s : Seen) → (parts_of s).sites ≡ infos (calls_of (parts_of s))
unfolding parts_of
sites_of_seen s = refl

module _ (u : UnitParts) (warnings : List TypeWarning) where
  of_limits : (s : Seen) (passed : Option Which) → exceeded s ≡ passed → outcome_of (Good tt s) ≡ IsTyped u warnings → u.sites ≡ infos (calls_of u)
  of_limits s (Some limit) e is = let clash = rw e at is in absurd (cc)
  of_limits s None e is =
      let comes = rw e at is in
      let same : parts_of s ≡ u = cc in
      subst (λ (v : UnitParts). v.sites ≡ infos (calls_of v)) same (sites_of_seen s)

  sites_are : (r : Read (Unit {0})) → outcome_of r ≡ IsTyped u warnings → u.sites ≡ infos (calls_of u)
  sites_are (Bad number place) is = absurd (cc)
  sites_are (Good a s) is = of_limits s (exceeded s) refl is

length_infos : (calls : List SiteOf) → length (infos calls) ≡ length calls
length_infos [] = refl
length_infos (call ∷ calls) = ap suc (length_infos calls)

pub ordered_units_are_units : (source marks : List ℕ) (tree : Tree) (u : UnitParts) (warnings : List TypeWarning) (last : ℕ) → All (λ byte. byte < 256) source
    → outcome source marks tree ≡ IsTyped u warnings → AreOrdered u.functions 1 u.definitions last → last ≤ 2 ^ 20 → length u.structures < 2 ^ 32 → IsUnit u
unfolding outcome
ordered_units_are_units source marks tree u warnings last bytes is ordered few few_structures =
    let sites = sites_are u warnings (typed source marks tree) is in
    let calls = all_calls u.functions 1 last u.definitions ordered in
    let many = calls.many in
    let long = length_infos (calls_of u) in
    typed_units_are_units source marks tree u warnings bytes is
    (subst (λ (table : List SiteInfo). AreNumbered 1 (calls_of u) table) (sym sites) (numbered_of 1 (calls_of u) calls.consecutive))
    (subst (λ (table : List SiteInfo). length table < 2 ^ 20) (sym sites) (omega (arith, many, long, few))) few_structures
