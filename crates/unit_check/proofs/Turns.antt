-- The turns of the loops over places and over functions.
use Rattle.std.proofs.Common.{◌≡◌, ◌∙◌, refl, sym, ap, subst, ℕ, ◌+◌, ◌<◌, ◌≤◌, Bool, true, false, List, [], ◌∷◌, ◌++◌, length, get_or, take, Some, slice_get, arith, length-append}
use Rattle.std.specs.Option.{is_some}
use Rattle.std.specs.Prelude.{◌↔◌, IsTrue, nat_lt, slice_index_or}
use Rattle.std.proofs.lemmas.Bool.{ltb-true, ltb-false}
use Rattle.std.proofs.lemmas.List.{take_more, get_or_append_left, get_or_push, get_or_past}
use Rattle.std.proofs.lemmas.Option.{slice_get_read, slice_get_within}
use Rattle.chains.specs.Chain.{HasChain}
use Rattle.chains.specs.Look.{look}
use Rattle.chains.specs.Written.{WrittenChains}
use Rattle.chains.specs.declared.marks.Mark.{Mark}
use Rattle.core_unit.specs.declared.tables.FunctionInfo.{FunctionInfo}
use Rattle.eff_types.specs.Effects.{forbids}
use Rattle.eff_types.specs.declared.levels.Level.{Level}
use Rattle.eff_types.specs.declared.levels.Level.TheVariants.{NonAllocating, NonBlocking}
use Rattle.unit_check.specs.Findings.{AreFound, GoesOn, KeepsLevel, TellsBelow}
use Rattle.unit_check.specs.Lists.{Nothing}
use Rattle.unit_marks.specs.Marks.{mark_rows, look_for}
use Rattle.unit_check.specs.Verdicts.{IsVerified, Verifies}
use Rattle.unit_check.specs.declared.findings.Found.{Found}
use Rattle.unit_check.specs.declared.positions.Position.{Position}

-- before the first place
pub nothing_found : (functions : List FunctionInfo) (a b : WrittenChains) (found : Found) → a.rows ≡ mark_rows functions NonAllocating → b.rows ≡ mark_rows functions NonBlocking →
    found.warnings.items ≡ [] → found.spans.items ≡ [] → AreFound functions [] a b found
nothing_found functions a b found rows_a rows_b none_warned no_spans = record {
  allocation_rows = rows_a;
  blocking_rows = rows_b;
  warned = [];
  exact = Nothing;
  warnings = none_warned;
  held = rw no_spans tt;
}

-- one place more
pub found_more : (functions : List FunctionInfo) (places : List Position) (i : ℕ) (p : Position) (a b new_a new_b : WrittenChains) (old new : Found) → i < length places → p ≡ get_or places i p →
    AreFound functions (take i places) a b old → GoesOn functions p a b new_a new_b old new → AreFound functions (take (i + 1) places) new_a new_b new
found_more functions places i p a b new_a new_b old new below is so_far goes =
    let front : take (i + 1) places ≡ take i places ++ p ∷ [] = take_more places i p below ∙ ap (λ q. take i places ++ q ∷ []) (sym is) in
    subst (λ (ps : List Position). AreFound functions ps new_a new_b new) (sym front) (goes.on (take i places) so_far)

known_one : (functions : List FunctionInfo) (f : ℕ) (info other : FunctionInfo) → slice_get functions f ≡ Some info → slice_get functions f ≡ Some other → other ≡ info
known_one functions f info other e g = let both : Some other ≡ Some info = sym g ∙ e in cc

-- a function is verified exactly where it keeps the level
verified_is : (functions : List FunctionInfo) (level : Level) (rows : List (List Mark)) (f : ℕ) (info : FunctionInfo) → rows ≡ mark_rows functions level → slice_get functions f ≡ Some info →
    KeepsLevel rows f info level ↔ IsVerified functions f level
verified_is functions level rows f info is known = (
  λ k. record { info = info; known = known; defined = k.defined; allowed = k.allowed; kept = λ chain. k.kept (subst (λ (rs : List (List Mark)). HasChain (look rs) f) (sym is) chain) },
  λ v. (let same : v.info ≡ info = known_one functions f info v.info known v.known in record {
    defined = subst (λ (o : FunctionInfo). is_some o.body ≡ true) same v.defined;
    allowed = subst (λ (o : FunctionInfo). forbids o.kind.effects level ≡ false) same v.allowed;
    kept = λ chain. v.kept (subst (λ (rs : List (List Mark)). HasChain (look rs) f) is chain);
  }),
)

-- one function more
pub verified_more : (functions : List FunctionInfo) (level : Level) (rows : List (List Mark)) (count : ℕ) (info : FunctionInfo) (told new : List Bool) (b : Bool) → count < length functions →
    info ≡ get_or functions count info → rows ≡ mark_rows functions level → TellsBelow functions level count told → IsTrue b ↔ KeepsLevel rows count info level → new ≡ told ++ b ∷ [] →
    TellsBelow functions level (count + 1) new
verified_more functions level rows count info told new b below is rows_are so_far one grown = record {
  long = (let size : length told ≡ count = so_far.long in ap length grown ∙ omega (arith, length-append told (b ∷ [])));
  each = λ f within. go f (nat_lt f count) refl within;
} where
  known : slice_get functions count ≡ Some info
  known = slice_get_read functions (length functions) count info refl below is

  last : IsTrue b ↔ IsVerified functions count level
  last = let both : KeepsLevel rows count info level ↔ IsVerified functions count level = verified_is functions level rows count info rows_are known in (λ t. both.0 (one.0 t), λ v. one.1 (both.1 v))

  go : (f : ℕ) (c : Bool) → nat_lt f count ≡ c → f < count + 1 → IsTrue (slice_index_or new f false) ↔ IsVerified functions f level
  go f true e within =
      let low : f < count = ltb-true f count e in
      let size : length told ≡ count = so_far.long in
      let at : slice_index_or new f false ≡ slice_index_or told f false = ap (λ (xs : List Bool). slice_index_or xs f false) grown ∙ get_or_append_left told (b ∷ []) false f (omega arith) in
      subst (λ (t : Bool). IsTrue t ↔ IsVerified functions f level) (sym at) (so_far.each f low)
  go f false e within =
      let high : count ≤ f = ltb-false f count e in
      let same : count ≡ f = omega arith in
      let at : slice_index_or new count false ≡ b = ap (λ (xs : List Bool). slice_index_or xs count false) grown ∙ get_or_push told b false count so_far.long in
      subst (λ (g : ℕ). IsTrue (slice_index_or new g false) ↔ IsVerified functions g level) same (subst (λ (t : Bool). IsTrue t ↔ IsVerified functions count level) (sym at) last)

-- at the end of the functions
pub all_verified : (functions : List FunctionInfo) (level : Level) (count : ℕ) (told : List Bool) → length functions ≤ count → TellsBelow functions level count told →
    Verifies functions level (λ f. slice_index_or told f false)
all_verified functions level count told past tells f = go (nat_lt f count) refl
  where
    go : (c : Bool) → nat_lt f count ≡ c → IsTrue (slice_index_or told f false) ↔ IsVerified functions f level
    go true e = tells.each f (ltb-true f count e)
    go false e =
        let high : count ≤ f = ltb-false f count e in
        let size : length told ≡ count = tells.long in
        let none : slice_index_or told f false ≡ false = get_or_past told f false (omega arith) in (
          λ t. (let wrong : IsTrue false = subst (λ (b : Bool). IsTrue b) none t in let clash : ⊥ = cc in absurd clash),
          λ v. (let low : f < length functions = slice_get_within functions f v.info v.known in absurd (omega arith)),
        )
