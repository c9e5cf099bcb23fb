-- Where the names of a file stand: within the source, one after the other.
use Rattle.std.proofs.Common.{◌≡◌, ℕ, zero, suc, ◌+◌, ◌<◌, ◌≤◌, List, [], ◌∷◌, ◌++◌, map, length, refl, sym, subst, ap, ◌∙◌, arith, All, Option, Some, None, get_or}
use Rattle.std.specs.List.{AllByRecursion, flat_map}
use Rattle.std.specs.List.Sorted.{IsStrictlyIncreasing}
use Rattle.c_text.specs.Spelling.{IsWithin, IsInOrderFrom, text_of}
use Rattle.c_text.specs.declared.Token.{Token}
use Rattle.built_unit.specs.declared.units.SiteInfo.{SiteInfo}
use Rattle.built_form.specs.declared.item.Item.{Item}
use Rattle.built_form.specs.declared.item.Kind.{Kind}
use Rattle.built_form.specs.declared.item.Kind.TheVariants.{Void, Main}
use Rattle.built_form.specs.declared.item.Mark.{Mark}
use Rattle.built_form.specs.Form.{Lexeme, Part, IsPart, Spells, lexemes_of, spelled_attribute, spelled_block, spelled_body, spelled_kind, spelled_item, spelled_items, brace, return_zero}
use Rattle.built_form.specs.Form.Part.{Sign, Keyword, Word, Ident}
use Rattle.built_form.specs.Built.{IsItemWithin, calls_in, calls_of, scope_of, site_of, item_sites, sites_of}

-- the names among the parts
pub names_in : List Part → List Token
names_in [] = []
names_in (Sign text ∷ parts) = names_in parts
names_in (Keyword text ∷ parts) = names_in parts
names_in (Word text ∷ parts) = names_in parts
names_in (Ident name ∷ parts) = name ∷ names_in parts

-- the names that the items are made of
abbrev pub item_names : Item → List Token
item_names item = item.name ∷ calls_of item.kind

abbrev pub names_of : List Item → List Token
names_of items = flat_map item_names items

names_in-append : (ps qs : List Part) → names_in (ps ++ qs) ≡ names_in ps ++ names_in qs
unfolding names_in
names_in-append [] qs = refl
names_in-append (Sign text ∷ ps) qs = names_in-append ps qs
names_in-append (Keyword text ∷ ps) qs = names_in-append ps qs
names_in-append (Word text ∷ ps) qs = names_in-append ps qs
names_in-append (Ident name ∷ ps) qs = ap (λ l. name ∷ l) (names_in-append ps qs)

names_in-block : (closing : List Part) (calls : List Token) → names_in closing ≡ [] → names_in (spelled_block closing calls) ≡ calls
unfolding names_in
names_in-block closing [] e = e
names_in-block closing (call ∷ calls) e = ap (λ l. call ∷ l) (names_in-block closing calls e)

names_in-body : (calls : Option (List Token)) → names_in (spelled_body calls) ≡ calls_in calls
unfolding names_in
names_in-body None = refl
names_in-body (Some calls) = names_in-block brace calls refl

names_in-attribute : (mark : Option Mark) → names_in (spelled_attribute mark) ≡ []
unfolding names_in
names_in-attribute None = refl
names_in-attribute (Some mark) = refl

names_in-kind : (kind : Kind) → names_in (spelled_kind kind) ≡ calls_of kind
unfolding names_in
names_in-kind (Void ending) =
    names_in-append (spelled_attribute ending.mark) (spelled_body ending.calls)
    ∙ (ap (λ l. l ++ names_in (spelled_body ending.calls)) (names_in-attribute ending.mark) ∙ names_in-body ending.calls)
names_in-kind (Main calls) = names_in-block return_zero calls refl

pub names_in-items : (items : List Item) → names_in (spelled_items items) ≡ names_of items
unfolding names_in
names_in-items [] = refl
names_in-items (item ∷ items) =
    names_in-append (spelled_item item) (spelled_items items)
    ∙ (ap (λ l. (item.name ∷ l) ++ names_in (spelled_items items)) (names_in-kind item.kind)
    ∙ ap (λ l. item_names item ++ l) (names_in-items items))

-- the tokens stand from this place on, each after the start of the one before
pub Rising : ℕ → List Token → Type 0
Rising low [] = Unit {0}
Rising low (token ∷ tokens) = (low ≤ token.start) × Rising (token.start + 1) tokens

rising_lower : (low high : ℕ) (tokens : List Token) → low ≤ high → Rising high tokens → Rising low tokens
unfolding Rising
rising_lower low high [] le r = tt
rising_lower low high (token ∷ tokens) le r = (omega (arith, r.0), r.1)

pub record AreFound (source : List ℕ) (low count : ℕ) (names : List Token) : Type 0 where
  pub rising : Rising low names
  pub within : AllByRecursion (IsWithin source) names
  pub few : length names ≤ count

all_tail : {X : Type 0} (P : X → Type 0) (x : X) (xs : List X) → All P (x ∷ xs) → All P xs
all_tail P x xs h = λ k d lt. h (suc k) d (omega arith)

in_order_rest : (place : ℕ) (token : Token) (tokens : List Token) → place ≤ token.end → IsInOrderFrom token.end tokens
    → IsInOrderFrom place tokens
in_order_rest place token [] le h = tt
in_order_rest place token (t ∷ ts) le h = (omega (arith, h.0), h.1, h.2)

found_first : (source : List ℕ) (low : ℕ) (t : Token) (count : ℕ) (names : List Token) (first : Lexeme) (p : Part) (ps : List Part)
    → first.token ≡ t → IsPart first p → low ≤ t.start → IsWithin source t → names ≡ names_in ps
    → AreFound source (t.start + 1) count names → AreFound source low (count + 1) (names_in (p ∷ ps))
unfolding names_in Rising
found_first source low t count names first (Sign text) ps e fits le within is rest =
    subst (λ ns. AreFound source low (count + 1) ns) is (record {
      rising = rising_lower low (t.start + 1) names (omega arith) rest.rising;
      within = rest.within;
      few = omega (arith, rest.few);
    })
found_first source low t count names first (Keyword text) ps e fits le within is rest =
    subst (λ ns. AreFound source low (count + 1) ns) is (record {
      rising = rising_lower low (t.start + 1) names (omega arith) rest.rising;
      within = rest.within;
      few = omega (arith, rest.few);
    })
found_first source low t count names first (Word text) ps e fits le within is rest =
    subst (λ ns. AreFound source low (count + 1) ns) is (record {
      rising = rising_lower low (t.start + 1) names (omega arith) rest.rising;
      within = rest.within;
      few = omega (arith, rest.few);
    })
found_first source low t count names first (Ident name) ps e fits le within is rest =
    let same : t ≡ name = sym e ∙ fits.0 in
    let P : Token → List Token → Type 0 = λ n ns. AreFound source low (count + 1) (n ∷ ns) in
    subst (λ n. P n (names_in ps)) same (subst (λ ns. P t ns) is (record {
      rising = (le, rest.rising);
      within = (within, rest.within);
      few = omega (arith, rest.few);
    }))

pub found : (source : List ℕ) (ps : List Part) (tokens : List Token) (end : List Lexeme) (low : ℕ)
    → Spells ps (lexemes_of source tokens) end → IsInOrderFrom low tokens → All (IsWithin source) tokens
    → AreFound source low (length tokens) (names_in ps)
unfolding names_in Rising
found source [] tokens end low h order within = record { rising = tt; within = tt; few = omega arith }
found source (p ∷ ps) [] end low h order within = let e = h.1.split in cc
found source (p ∷ ps) (t ∷ ts) end low h order within =
    let split : record { token = t; text = text_of source t } ∷ lexemes_of source ts ≡ h.1.first ∷ h.0 = h.1.split in
    let first : h.1.first ≡ record { token = t; text = text_of source t } = cc in
    let after : h.0 ≡ lexemes_of source ts = cc in
    let rest : AreFound source (t.start + 1) (length ts) (names_in ps) =
    found source ps ts end (t.start + 1) (subst (λ l. Spells ps l end) after h.2)
    (in_order_rest (t.start + 1) t ts (omega (arith, order.1)) order.2) (all_tail (IsWithin source) t ts within) in
    let count : length ts + 1 ≡ length (t ∷ ts) = omega arith in
    subst (λ n. AreFound source low n (names_in (p ∷ ps))) count
    (found_first source low t (length ts) (names_in ps) h.1.first p ps (ap (λ (l : Lexeme). l.token) first) h.1.fits order.0
    (within 0 t (omega arith)) refl rest)

-- What of that holds of the items.

all_cons : {X : Type 0} (P : X → Type 0) (x : X) (xs : List X) → P x → All P xs → All P (x ∷ xs)
all_cons P x xs p h zero d lt = p
all_cons P x xs p h (suc k) d lt = h k d (omega arith)

pub all_from : {X : Type 0} (P : X → Type 0) (xs : List X) → AllByRecursion P xs → All P xs
all_from P [] h = λ k d lt. absurd (omega arith)
all_from P (x ∷ xs) h = all_cons P x xs h.0 (all_from P xs h.1)

all_front : {X : Type 0} (P : X → Type 0) (xs ys : List X) → AllByRecursion P (xs ++ ys) → AllByRecursion P xs × AllByRecursion P ys
all_front P [] ys h = (tt, h)
all_front P (x ∷ xs) ys h = let rest = all_front P xs ys h.1 in ((h.0, rest.0), rest.1)

items_within : (source : List ℕ) (items : List Item) → AllByRecursion (IsWithin source) (names_of items)
    → AllByRecursion (IsItemWithin source) items
items_within source [] h = tt
items_within source (item ∷ items) h =
    let parts = all_front (IsWithin source) (calls_of item.kind) (names_of items) h.1 in
    ((h.0, all_from (IsWithin source) (calls_of item.kind) parts.0), items_within source items parts.1)

pub all_within : (source : List ℕ) (items : List Item) → AllByRecursion (IsWithin source) (names_of items)
    → All (IsItemWithin source) items
all_within source items h = all_from (IsItemWithin source) items (items_within source items h)

length-map' : {X Y : Type 0} (f : X → Y) (xs : List X) → length (map f xs) ≡ length xs
length-map' f [] = refl
length-map' f (x ∷ xs) = ap suc (length-map' f xs)

pub length-app : {X : Type 0} (xs ys : List X) → length (xs ++ ys) ≡ length xs + length ys
length-app [] ys = omega arith
length-app (x ∷ xs) ys = omega (arith, length-app xs ys)

pub sites_few : (source : List ℕ) (known : List (List ℕ)) (items : List Item) → length (sites_of source known items) ≤ length (names_of items)
sites_few source known [] = omega arith
sites_few source known (item ∷ items) =
    omega (
      arith,
      length-app (item_sites source known item) (sites_of source (scope_of source known item) items),
      length-map' (site_of source (scope_of source known item) (length known)) (calls_of item.kind),
      length-app (calls_of item.kind) (names_of items),
      sites_few source (scope_of source known item) items,
    )

-- the numbers stand from this one on, each above the one before
Climbing : ℕ → List ℕ → Type 0
Climbing low [] = Unit {0}
Climbing low (x ∷ xs) = (low ≤ x) × Climbing (x + 1) xs

abbrev place_of : SiteInfo → ℕ
place_of site = site.place

climbing_calls : (source : List ℕ) (scope : List (List ℕ)) (function : ℕ) (calls more : List Token) (sites : List SiteInfo) (low : ℕ)
    → Rising low (calls ++ more) → ((at : ℕ) → Rising at more → Climbing at (map place_of sites))
    → Climbing low (map place_of (map (site_of source scope function) calls ++ sites))
unfolding Rising Climbing
climbing_calls source scope function [] more sites low h rest = rest low h
climbing_calls source scope function (call ∷ calls) more sites low h rest =
    (h.0, climbing_calls source scope function calls more sites (call.start + 1) h.1 rest)

climbing_sites : (source : List ℕ) (known : List (List ℕ)) (items : List Item) (low : ℕ) → Rising low (names_of items)
    → Climbing low (map place_of (sites_of source known items))
unfolding Rising Climbing
climbing_sites source known [] low h = tt
climbing_sites source known (item ∷ items) low h =
    climbing_calls source (scope_of source known item) (length known) (calls_of item.kind) (names_of items)
    (sites_of source (scope_of source known item) items) low
    (rising_lower low (item.name.start + 1) (calls_of item.kind ++ names_of items) (omega (arith, h.0)) h.1)
    (climbing_sites source (scope_of source known item) items)

increasing : (low : ℕ) (xs : List ℕ) → Climbing low xs → (k j : ℕ) → j ≡ k + 1 → j < length xs → get_or xs k 0 < get_or xs j 0
unfolding Climbing
increasing low [] h k j e lt = absurd (omega arith)
increasing low (x ∷ xs) h k zero e lt = absurd (omega arith)
increasing low (x ∷ []) h k (suc j) e lt = absurd (omega arith)
increasing low (x ∷ y ∷ xs) h zero (suc zero) e lt = omega (arith, h.1.0)
increasing low (x ∷ y ∷ xs) h zero (suc (suc j)) e lt = absurd (omega arith)
increasing low (x ∷ y ∷ xs) h (suc k) (suc j) e lt = increasing (x + 1) (y ∷ xs) h.1 k j (omega arith) (omega arith)

pub sites_increase : (source : List ℕ) (items : List Item) → Rising 0 (names_of items)
    → IsStrictlyIncreasing (map place_of (sites_of source [] items))
sites_increase source items h = λ k lt. increasing 0 (map place_of (sites_of source [] items)) (climbing_sites source [] items 0 h) k (k + 1) refl lt
