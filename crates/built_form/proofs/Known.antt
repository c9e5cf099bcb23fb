-- The parts of the unit of a file are those of a unit.
use Rattle.std.proofs.Common.{◌≡◌, ℕ, suc, ◌+◌, ◌<◌, ◌≤◌, List, [], ◌∷◌, ◌++◌, map, length, refl, sym, subst, ap, arith, All, Option, Some, None, IfSome}
use Rattle.std.specs.List.{AllByRecursion, position}
use Rattle.std.specs.Str.{bytes_eq}
use Rattle.std.proofs.lemmas.List.Quantifiers.{position-Some}
use Rattle.c_text.specs.Spelling.{IsWithin, IsInOrder, text_of}
use Rattle.c_text.specs.declared.Token.{Token}
use Rattle.built_unit.specs.declared.units.SiteInfo.{SiteInfo}
use Rattle.built_unit.specs.Units.{IsUnit}
use Rattle.built_form.specs.declared.item.Item.{Item}
use Rattle.built_form.specs.Form.{Spells, lexemes_of, spelled_items}
use Rattle.built_form.specs.Built.{IsItemWithin, calls_of, number_of, scope_of, site_of, sites_of, functions_of}
use Rattle.built_form.proofs.Placed.{AreFound, found, names_in-items, names_of, all_from, all_within, sites_few, sites_increase, length-app}
use Rattle.c_text.specs.declared.limits.TheConstants.{SOURCE_LIMIT}

number_below : (scope : List (List ℕ)) (text : List ℕ) (bound : ℕ) → length scope ≤ bound → IfSome (number_of scope text) (λ i. i < bound)
unfolding number_of
number_below scope text bound le = go (position (bytes_eq text) scope) refl
  where
    go : (o : Option ℕ) → position (bytes_eq text) scope ≡ o → IfSome o (λ i. i < bound)
    go None e = tt
    go (Some i) e = let h = position-Some (bytes_eq text) scope i [] e in omega (arith, h.0)

-- the site's function and the function that it calls have numbers below the bound
abbrev IsBelow : ℕ → SiteInfo → Type 0
IsBelow bound site = (site.function < bound) × IfSome site.direct (λ callee. callee < bound)

calls_below : (source : List ℕ) (scope : List (List ℕ)) (function bound : ℕ) (calls : List Token) (sites : List SiteInfo)
    → function < bound → length scope ≤ bound → AllByRecursion (IsBelow bound) sites
    → AllByRecursion (IsBelow bound) (map (site_of source scope function) calls ++ sites)
calls_below source scope function bound [] sites f s h = h
calls_below source scope function bound (call ∷ calls) sites f s h =
    ((f, number_below scope (text_of source call) bound s), calls_below source scope function bound calls sites f s h)

sites_below : (source : List ℕ) (known : List (List ℕ)) (items : List Item) (bound : ℕ) → length known + length items ≤ bound
    → AllByRecursion (IsBelow bound) (sites_of source known items)
sites_below source known [] bound le = tt
sites_below source known (item ∷ items) bound le =
    let more : length (scope_of source known item) ≡ length known + 1 = omega (arith, length-app known (text_of source item.name ∷ [])) in
    calls_below source (scope_of source known item) (length known) bound (calls_of item.kind)
    (sites_of source (scope_of source known item) items) (omega arith) (omega (arith, more))
    (sites_below source (scope_of source known item) items bound (omega (arith, more)))

length-functions_of : (source : List ℕ) (next : ℕ) (items : List Item) → length (functions_of source next items) ≡ length items
length-functions_of source next [] = refl
length-functions_of source next (item ∷ items) = ap suc (length-functions_of source (next + length (calls_of item.kind)) items)

-- what the reader of the items hands on
pub record Suits (source : List ℕ) (items : List Item) : Type 0 where
  pub within : All (IsItemWithin source) items
  pub room : length (sites_of source [] items) ≤ SOURCE_LIMIT
  pub unit : length items ≤ 4096 → IsUnit (functions_of source 1 items) (sites_of source [] items)

pub suits : (source : List ℕ) (tokens : List Token) (items : List Item) → All (IsWithin source) tokens → length tokens ≤ SOURCE_LIMIT
    → IsInOrder tokens → Spells (spelled_items items) (lexemes_of source tokens) [] → Suits source items
suits source tokens items within few order spelled =
    let f : AreFound source 0 (length tokens) (names_of items) =
    subst (λ ns. AreFound source 0 (length tokens) ns) (names_in-items items)
    (found source (spelled_items items) tokens [] 0 spelled order within) in
    let room : length (sites_of source [] items) ≤ SOURCE_LIMIT = omega (arith, sites_few source [] items, f.few) in
    record {
      within = all_within source items f.within;
      room = room;
      unit = λ few_items. record {
        few = omega (arith, length-functions_of source 1 items);
        numbered = omega (arith, room);
        known = subst (λ n. All (IsBelow n) (sites_of source [] items)) (sym (length-functions_of source 1 items))
            (all_from (IsBelow (length items)) (sites_of source [] items) (sites_below source [] items (length items) (omega arith)));
        ordered = sites_increase source items f.rising;
      };
    }
