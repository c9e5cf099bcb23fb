-- The warnings of a unit, call by call, and that they are the only ones.
use Rattle.std.proofs.Common.{◌≡◌, ℕ, ◌<◌, ◌+◌, length, take, get_or, ◌⊎◌, inl, inr, List, [], ◌∷◌, ◌++◌, map, Contains, Option, Some, None, IfSome, IfNone, IsSomeAnd, IsSome, slice_get, sym, ◌∙◌, subst, ap, arith}
use Rattle.std.specs.Option.{option_to_list}
use Rattle.std.specs.List.Sorted.{IsStrictlyIncreasing}
use Rattle.std.proofs.lemmas.List.Elements.{Contains-append_left, Contains-push, Contains-push_cases}
use Rattle.std.proofs.lemmas.List.{append-nil, take_more}
use Rattle.built_unit.specs.declared.units.FunctionInfo.{FunctionInfo}
use Rattle.built_unit.specs.declared.units.SiteInfo.{SiteInfo}
use Rattle.built_unit.specs.Units.{UnitParts}
use Rattle.eff_types.specs.declared.levels.Level.{Level}
use Rattle.eff_check.specs.declared.ViolationKind.{ViolationKind}
use Rattle.eff_check.specs.declared.ViolationKind.TheVariants.{Calls}
use Rattle.eff_check.specs.declared.Warning.{Warning}
use Rattle.eff_check.specs.Violations.{IsMarked, IsViolation, IsWarned, IsWarnedAt, AreWarnings}
use Rattle.eff_check.proofs.Rising.{increasing-push, increasing-before, same_from_increasing}

abbrev parts : List FunctionInfo → List SiteInfo → UnitParts
parts functions sites = record { functions = functions; sites = sites }

-- two lists that are both the warnings of one unit are one list
pub AreWarnings-unique : (unit : UnitParts) (ws vs : List Warning) → AreWarnings unit ws → AreWarnings unit vs → ws ≡ vs
AreWarnings-unique unit ws vs h g =
    same_from_increasing (λ w. w.place) ws vs h.ordered g.ordered
    (λ w c. (g.exact w).1 ((h.exact w).0 c))
    (λ w c. (h.exact w).1 ((g.exact w).0 c))

-- a warning of a unit is due at one of its calls
pub at_a_call : (unit : UnitParts) (w : Warning) → IsWarned unit w → (site : SiteInfo) × Contains unit.sites site × IsWarnedAt unit.functions site w
at_a_call unit w h = (
  h.violates.site,
  h.violates.stands,
  record {
    in_body = h.violates.in_body;
    placed = h.violates.placed;
    marked = h.marked;
    violates = h.violates.violates;
  },
)

pub warned_there : (unit : UnitParts) (site : SiteInfo) (w : Warning) → Contains unit.sites site → IsWarnedAt unit.functions site w → IsWarned unit w
warned_there unit site w c h = record {
  marked = h.marked;
  violates = record { site = site; stands = c; in_body = h.in_body; placed = h.placed; violates = h.violates };
}

-- a marked function has one level
level_is : (o : Option FunctionInfo) (a b : Level) → IsSomeAnd o (λ info. IsSome info.body × (info.effects.level ≡ a)) → IsSomeAnd o (λ info. IsSome info.body × (info.effects.level ≡ b)) → a ≡ b
level_is None a b h g = elim h [ ]
level_is (Some info) a b h g = sym h.1 ∙ g.1

one_kind : (functions : List FunctionInfo) (a b : Level) (site : SiteInfo) (j k : ViolationKind) → IsViolation functions a site j → IsViolation functions b site k → j ≡ k
one_kind functions a b site (Calls m) (Calls n) h g = let e = h.0 in let d = g.0 in cc

abbrev warning_of : ℕ → ℕ → ViolationKind → Level → Warning
warning_of function place kind level = record { function = function; place = place; kind = kind; level = level }

-- at most one warning is due at a call
pub one_at_a_call : (functions : List FunctionInfo) (site : SiteInfo) (v w : Warning) → IsWarnedAt functions site v → IsWarnedAt functions site w → v ≡ w
one_at_a_call functions site v w h g =
    let functions_agree : v.function ≡ w.function = sym h.in_body ∙ g.in_body in
    let places_agree : v.place ≡ w.place = sym h.placed ∙ g.placed in
    let marked : IsMarked functions v.function w.level = subst (λ (f : ℕ). IsMarked functions f w.level) (sym functions_agree) g.marked in
    let levels_agree : v.level ≡ w.level = level_is (slice_get functions v.function) v.level w.level h.marked.marked marked.marked in
    let kinds_agree : v.kind ≡ w.kind = one_kind functions v.level w.level site v.kind w.kind h.violates g.violates in
    ap (λ (f : ℕ). warning_of f v.place v.kind v.level) functions_agree
    ∙ ap (λ (p : ℕ). warning_of w.function p v.kind v.level) places_agree
    ∙ ap (λ (k : ViolationKind). warning_of w.function w.place k v.level) kinds_agree
    ∙ ap (λ (l : Level). warning_of w.function w.place w.kind l) levels_agree

warned_before : (functions : List FunctionInfo) (xs : List SiteInfo) (s : SiteInfo) (w : Warning) → IsWarned (parts functions xs) w → IsWarned (parts functions (xs ++ s ∷ [])) w
warned_before functions xs s w h =
    let at : (site : SiteInfo) × Contains xs site × IsWarnedAt functions site w = at_a_call (parts functions xs) w h in
    warned_there (parts functions (xs ++ s ∷ [])) at.0 w (Contains-append_left xs (s ∷ []) at.0 at.1) at.2

warned_last : (functions : List FunctionInfo) (xs : List SiteInfo) (s : SiteInfo) (w : Warning) → IsWarnedAt functions s w → IsWarned (parts functions (xs ++ s ∷ [])) w
warned_last functions xs s w h = warned_there (parts functions (xs ++ s ∷ [])) s w (Contains-push xs s) h

warned_cases : (functions : List FunctionInfo) (xs : List SiteInfo) (s : SiteInfo) (w : Warning) → IsWarned (parts functions (xs ++ s ∷ [])) w → IsWarned (parts functions xs) w ⊎ IsWarnedAt functions s w
warned_cases functions xs s w h =
    let at : (site : SiteInfo) × Contains (xs ++ s ∷ []) site × IsWarnedAt functions site w = at_a_call (parts functions (xs ++ s ∷ [])) w h in
    elim (Contains-push_cases xs s at.0 at.1) [
      | inl before ↦ inl (warned_there (parts functions xs) at.0 w before at.2)
      | inr e ↦ inr (subst (λ (t : SiteInfo). IsWarnedAt functions t w) (sym e) at.2)
    ]

-- the warnings, with one call more
pub AreWarnings-more : (functions : List FunctionInfo) (xs : List SiteInfo) (s : SiteInfo) (ws : List Warning) (r : Option Warning) → AreWarnings (parts functions xs) ws → IfSome r (IsWarnedAt functions s) → IfNone r ((w : Warning) → IsWarnedAt functions s w → ⊥) → ((x : SiteInfo) → Contains xs x → x.place < s.place) → AreWarnings (parts functions (xs ++ s ∷ [])) (ws ++ option_to_list r)
AreWarnings-more functions xs s ws None h some none later =
    rw append-nil (record {
      exact = λ w. (
        λ c. warned_before functions xs s w ((h.exact w).0 c),
        λ d. elim (warned_cases functions xs s w d) [ inl old ↦ (h.exact w).1 old | inr due ↦ absurd (none w due) ],
      );
      ordered = h.ordered;
    })
AreWarnings-more functions xs s ws (Some v) h some none later = record {
  exact = λ w. (
    λ c. elim (Contains-push_cases ws v w c) [
      | inl old ↦ warned_before functions xs s w ((h.exact w).0 old)
      | inr e ↦ warned_last functions xs s w (subst (λ (t : Warning). IsWarnedAt functions s t) e some)
    ],
    λ d. elim (warned_cases functions xs s w d) [
      | inl old ↦ Contains-append_left ws (v ∷ []) w ((h.exact w).1 old)
      | inr due ↦ subst (λ (t : Warning). Contains (ws ++ v ∷ []) t) (one_at_a_call functions s v w some due) (Contains-push ws v)
    ],
  );
  ordered = increasing-push (λ (w : Warning). w.place) ws v h.ordered below;
}
  where
    below : (w : Warning) → Contains ws w → w.place < v.place
    below w c =
        let at : (site : SiteInfo) × Contains xs site × IsWarnedAt functions site w = at_a_call (parts functions xs) w ((h.exact w).0 c) in
        let before : at.0.place < s.place = later at.0 at.1 in
        let placed : at.0.place ≡ w.place = at.2.placed in
        let placed_here : s.place ≡ v.place = some.placed in
        omega arith

-- The loop over the calls of a unit: after a call that is warned of, and after one that is not.
longer : (xs : List SiteInfo) (i : ℕ) (d : SiteInfo) → IsStrictlyIncreasing (map (λ site. site.place) xs) → i < length xs → (x : SiteInfo) → Contains (take i xs) x → x.place < (get_or xs i d).place
longer xs i d rises within = increasing-before (λ (site : SiteInfo). site.place) xs i d rises within

pub AreWarnings-warned : (functions : List FunctionInfo) (xs : List SiteInfo) (i : ℕ) (d : SiteInfo) (ws : List Warning) (v : Warning) → IsStrictlyIncreasing (map (λ site. site.place) xs) → i < length xs → AreWarnings (parts functions (take i xs)) ws → IsWarnedAt functions (get_or xs i d) v → AreWarnings (parts functions (take (i + 1) xs)) (ws ++ v ∷ [])
AreWarnings-warned functions xs i d ws v rises within h due =
    let step : AreWarnings (parts functions (take i xs ++ get_or xs i d ∷ [])) (ws ++ v ∷ []) =
    AreWarnings-more functions (take i xs) (get_or xs i d) ws (Some v) h due tt (longer xs i d rises within) in
    rw (take_more xs i d within) step

pub AreWarnings-quiet : (functions : List FunctionInfo) (xs : List SiteInfo) (i : ℕ) (d : SiteInfo) (ws : List Warning) → IsStrictlyIncreasing (map (λ site. site.place) xs) → i < length xs → AreWarnings (parts functions (take i xs)) ws → ((w : Warning) → IsWarnedAt functions (get_or xs i d) w → ⊥) → AreWarnings (parts functions (take (i + 1) xs)) ws
AreWarnings-quiet functions xs i d ws rises within h none =
    let step : AreWarnings (parts functions (take i xs ++ get_or xs i d ∷ [])) (ws ++ option_to_list None) =
    AreWarnings-more functions (take i xs) (get_or xs i d) ws None h tt none (longer xs i d rises within) in
    let same : AreWarnings (parts functions (take i xs ++ get_or xs i d ∷ [])) ws = rw append-nil at step in
    rw (take_more xs i d within) same
