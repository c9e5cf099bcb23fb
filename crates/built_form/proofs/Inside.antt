-- The calls of a file stand within its bytes.
use Rattle.std.proofs.Common.{◌≡◌, ℕ, ◌≤◌, List, [], ◌∷◌, map, length, All, arith, Result, Ok, Err, IfOk, subst, sym}
use Rattle.std.proofs.lemmas.List.Elements.{All-map, All-append, All-head, All-tail}
use Rattle.c_text.specs.Spelling.{IsWithin}
use Rattle.c_text.specs.declared.Token.{Token}
use Rattle.built_unit.specs.declared.units.SiteInfo.{SiteInfo}
use Rattle.built_form.specs.declared.item.Item.{Item}
use Rattle.built_unit.specs.Units.{UnitParts}
use Rattle.built_form.specs.declared.refusal.FormRefusal.{FormRefusal}
use Rattle.built_form.specs.Built.{IsItemWithin, AreCallsWithin, calls_of, scope_of, site_of, item_sites, sites_of, unit_of}

calls_inside : (source : List ℕ) (scope : List (List ℕ)) (function : ℕ) (calls : List Token) → All (IsWithin source) calls → All (λ site. site.place ≤ length source) (map (site_of source scope function) calls)
calls_inside source scope function calls within =
    All-map (λ (site : SiteInfo). site.place ≤ length source) (site_of source scope function) calls
    (λ k d less. let h = within k d less in omega (arith, h))

pub sites_inside : (source : List ℕ) (known : List (List ℕ)) (items : List Item) → All (IsItemWithin source) items → All (λ site. site.place ≤ length source) (sites_of source known items)
sites_inside source known [] within = λ k d less. absurd (omega arith)
sites_inside source known (item ∷ items) within =
    All-append (λ (site : SiteInfo). site.place ≤ length source) (item_sites source known item) (sites_of source (scope_of source known item) items)
    (calls_inside source (scope_of source known item) (length known) (calls_of item.kind) (All-head (IsItemWithin source) item items within).1)
    (sites_inside source (scope_of source known item) items (All-tail (IsItemWithin source) item items within))

-- where there is a unit of the items, its calls stand within the source
pub unit_inside : (source : List ℕ) (items : List Item) (result : Result UnitParts FormRefusal) → All (IsItemWithin source) items → IfOk result (λ unit. unit ≡ unit_of source items) → IfOk result (λ unit. AreCallsWithin source unit)
unit_inside source items (Ok unit) within means = subst (λ u. AreCallsWithin source u) (sym means) (sites_inside source [] items within)
unit_inside source items (Err refusal) within means = tt
