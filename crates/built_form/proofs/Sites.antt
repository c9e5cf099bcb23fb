-- Adding the call sites of a function one by one.
use Rattle.std.proofs.Common.{◌≡◌, ℕ, ◌+◌, ◌≤◌, true, false, IsTrue, ◌↔◌, List, [], ◌∷◌, ◌++◌, map, length, drop, append-nil, refl, sym, subst, ap, ◌∙◌}
use Rattle.std.proofs.lemmas.List.{drop_all}
use Rattle.c_text.specs.declared.Token.{Token}
use Rattle.built_unit.specs.declared.units.FunctionInfo.{FunctionInfo}
use Rattle.built_unit.specs.declared.units.SiteInfo.{SiteInfo}
use Rattle.built_unit.specs.Units.{UnitParts}
use Rattle.built_form.specs.declared.item.Item.{Item}
use Rattle.built_form.specs.Built.{AreDeclared, AreItemsBuilt, AreCallsBuilt, IsBuilt, functions_of, site_of, sites_of, unit_of, numbered}

-- From `start` on these sites and numbers were made, and `rest` is left of the calls.
pub record Placing (source : List ℕ) (scope : List (List ℕ)) (function : ℕ) (calls : List Token) (start sites : List SiteInfo)
    (numbers : List ℕ) (rest : List Token) : Type 0 where
  pub sites_are : start ++ map (site_of source scope function) calls ≡ sites ++ map (site_of source scope function) rest
  pub numbers_are : numbered (length start + 1) calls ≡ numbers ++ numbered (length sites + 1) rest
  pub count : length sites + length rest ≡ length start + length calls
  pub declared : AreDeclared source scope rest → AreDeclared source scope calls
  pub only : AreDeclared source scope calls → AreDeclared source scope rest

-- From the first item on these functions, sites and names were made, and `rest` is left of the items.
pub record Resolving (source : List ℕ) (items : List Item) (scope : List (List ℕ)) (functions : List FunctionInfo)
    (sites : List SiteInfo) (rest : List Item) : Type 0 where
  pub functions_are : functions_of source 1 items ≡ functions ++ functions_of source (length sites + 1) rest
  pub sites_are : sites_of source [] items ≡ sites ++ sites_of source scope rest
  pub count : length scope + length rest ≡ length items
  pub built : AreItemsBuilt source scope rest → AreItemsBuilt source [] items
  pub only : AreItemsBuilt source [] items → AreItemsBuilt source scope rest

-- all items are made, and the unit is of them
pub resolved : (source : List ℕ) (items : List Item) (i : ℕ) (scope : List (List ℕ)) (functions : List FunctionInfo)
    (sites : List SiteInfo) (unit : UnitParts) → length items ≤ i → Resolving source items scope functions sites (drop i items)
    → unit.functions ≡ functions → unit.sites ≡ sites → (unit ≡ unit_of source items) × AreItemsBuilt source [] items
resolved source items i scope functions sites unit le r e f = go (drop i items) (drop_all i items le) r
  where
    go : (rest : List Item) → rest ≡ [] → Resolving source items scope functions sites rest
        → (unit ≡ unit_of source items) × AreItemsBuilt source [] items
    go [] d r =
        let fs : unit.functions ≡ functions_of source 1 items = e ∙ (sym (append-nil functions) ∙ sym r.functions_are) in
        let ss : unit.sites ≡ sites_of source [] items = f ∙ (sym (append-nil sites) ∙ sym r.sites_are) in
        let P : List FunctionInfo → UnitParts = λ x. record { functions = x; sites = unit.sites } in
        let Q : List SiteInfo → UnitParts = λ x. record { functions = functions_of source 1 items; sites = x } in
        (ap P fs ∙ ap Q ss, r.built tt)
    go (item ∷ rest) d r = cc

pub all_built : (source : List ℕ) (items : List Item) (unit : UnitParts) → length items ≤ 4096
    → (unit ≡ unit_of source items) × AreItemsBuilt source [] items → (IsTrue true ↔ AreCallsBuilt unit) → IsBuilt source items
all_built source items unit few made decides = record {
  few = few;
  functions = made.1;
  calls = subst AreCallsBuilt made.0 (decides.0 refl);
}

pub not_built : (source : List ℕ) (items : List Item) (unit : UnitParts) → unit ≡ unit_of source items
    → (IsTrue false ↔ AreCallsBuilt unit) → IsBuilt source items → ⊥
not_built source items unit is decides built =
    let calls : AreCallsBuilt unit = subst AreCallsBuilt (sym is) built.calls in
    let no : false ≡ true = decides.1 calls in cc
