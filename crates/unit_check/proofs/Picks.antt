-- One place more is looked at, and what was found before is found still.
use Rattle.std.proofs.Common.{◌≡◌, ◌∙◌, refl, sym, ap, subst, ℕ, zero, suc, ◌+◌, ◌<◌, ◌≤◌, List, [], ◌∷◌, ◌++◌, map, length, get_or, Option, Some, None, slice_get, Result, Ok, Err, arith, length-append}
use Rattle.std.specs.Prelude.{slice_index_or, OnOk}
use Rattle.std.proofs.lemmas.List.{map-append, append-nil, get_or_past}
use Rattle.chains.specs.Chain.{Leads, StartsChain}
use Rattle.chains.specs.Look.{look}
use Rattle.chains.specs.Written.{WrittenChains, Extends, HoldsShown, IsSpanOf}
use Rattle.chains.specs.declared.marks.Mark.{Mark}
use Rattle.chains.specs.declared.marks.Mark.TheVariants.{Passes, Violates, StepsTo}
use Rattle.chains.specs.declared.written.ChainStep as index
use Rattle.chains.specs.declared.written.Span.{Span}
use Rattle.chains.proofs.Growth.{HoldsShown-append}
use Rattle.core_unit.specs.declared.tables.FunctionInfo.{FunctionInfo}
use Rattle.eff_types.specs.declared.levels.Level.{Level}
use Rattle.eff_types.specs.declared.levels.Level.TheVariants.{Plain, NonAllocating, NonBlocking}
use Rattle.unit_check.specs.Findings.{HoldsChain, span_in, HoldsAt, LooksAt, Skipped, Added, steps_for, HoldsFor, AreFound, GoesOn}
use Rattle.unit_check.specs.Lists.{Picked, Nothing, Taken, Left, EachPair}
use Rattle.unit_marks.specs.Marks.{mark_rows, look_for}
use Rattle.unit_check.specs.Verdicts.{IsWarned, BreaksLevel, level_at, level_asked, warning_of, kind_of}
use Rattle.unit_check.specs.declared.findings.Found.{Found}
use Rattle.unit_check.specs.declared.positions.Position.{Position}
use Rattle.unit_check.specs.declared.verdicts.LevelSpan.{LevelSpan}
use Rattle.unit_check.specs.declared.verdicts.ViolationKind.{ViolationKind}
use Rattle.unit_check.specs.declared.verdicts.Warning.{Warning}

picked_taken : {A : Type 0} (P : A → Type 0) (xs chosen : List A) (x : A) → P x → Picked P xs chosen → Picked P (xs ++ x ∷ []) (chosen ++ x ∷ [])
picked_taken P [] [] x p Nothing = Taken x [] [] p Nothing
picked_taken P _ _ x p (Taken y ys chosen q rest) = Taken y (ys ++ x ∷ []) (chosen ++ x ∷ []) q (picked_taken P ys chosen x p rest)
picked_taken P _ _ x p (Left y ys chosen q rest) = Left y (ys ++ x ∷ []) (chosen ++ x ∷ []) q (picked_taken P ys chosen x p rest)

picked_left : {A : Type 0} (P : A → Type 0) (xs chosen : List A) (x : A) → (P x → ⊥) → Picked P xs chosen → Picked P (xs ++ x ∷ []) chosen
picked_left P [] [] x p Nothing = Left x [] [] p Nothing
picked_left P _ _ x p (Taken y ys chosen q rest) = Taken y (ys ++ x ∷ []) chosen q (picked_left P ys chosen x p rest)
picked_left P _ _ x p (Left y ys chosen q rest) = Left y (ys ++ x ∷ []) chosen q (picked_left P ys chosen x p rest)

pair_more : {A B : Type 0} (R : A → B → Type 0) (xs : List A) (ys : List B) (x : A) (y : B) → EachPair R xs ys → R x y → EachPair R (xs ++ x ∷ []) (ys ++ y ∷ [])
pair_more R [] [] x y h r = (r, tt)
pair_more R (z ∷ xs) (w ∷ ys) x y h r = (h.0, pair_more R xs ys x y h.1 r)
pair_more R [] (w ∷ ys) x y h r = absurd h
pair_more R (z ∷ xs) [] x y h r = absurd h

pub pair_map : {A B C : Type 0} (R : A → B → Type 0) (S : A → C → Type 0) (f : B → C) (xs : List A) (ys : List B) → ((x : A) (y : B) → R x y → S x (f y)) → EachPair R xs ys → EachPair S xs (map f ys)
pair_map R S f [] [] h p = tt
pair_map R S f (x ∷ xs) (y ∷ ys) h p = (h x y p.0, pair_map R S f xs ys h p.1)
pair_map R S f [] (y ∷ ys) h p = absurd p
pair_map R S f (x ∷ xs) [] h p = absurd p

pair_kept : {A B : Type 0} (R S : A → B → Type 0) (xs : List A) (ys : List B) → ((x : A) (y : B) → R x y → S x y) → EachPair R xs ys → EachPair S xs ys
pair_kept R S [] [] h p = tt
pair_kept R S (x ∷ xs) (y ∷ ys) h p = (h x y p.0, pair_kept R S xs ys h p.1)
pair_kept R S [] (y ∷ ys) h p = absurd p
pair_kept R S (x ∷ xs) [] h p = absurd p

-- What a span holds it holds still where steps are added behind.
chain_kept : (look : ℕ → ℕ → Mark) (steps more : List index.ChainStep) (m : Mark) (span : Span) → HoldsChain look steps m span → HoldsChain look (steps ++ more) m span
chain_kept look steps more Passes span h = h
chain_kept look steps more Violates span h = (h.0, let within : span.to ≤ length steps = h.1 in omega (arith, length-append steps more))
chain_kept look steps more (StepsTo g) span h = HoldsShown-append look steps more g span h

steps_more : (level : Level) (a b more_a more_b : List index.ChainStep) → (more : List index.ChainStep) × (steps_for level (a ++ more_a) (b ++ more_b) ≡ steps_for level a b ++ more)
steps_more Plain a b more_a more_b = (more_a, refl)
steps_more NonAllocating a b more_a more_b = (more_a, refl)
steps_more NonBlocking a b more_a more_b = (more_b, refl)

held_kept : (functions : List FunctionInfo) (a b more_a more_b : List index.ChainStep) (p : Position) (s : LevelSpan) → HoldsFor functions a b p s → HoldsFor functions (a ++ more_a) (b ++ more_b) p s
held_kept functions a b more_a more_b p s h =
    let grown : (more : List index.ChainStep) × (steps_for (level_at functions p) (a ++ more_a) (b ++ more_b) ≡ steps_for (level_at functions p) a b ++ more) = steps_more (level_at functions p) a b more_a more_b in (
      h.0,
      subst (λ (steps : List index.ChainStep). HoldsChain (look_for functions (level_at functions p)) steps (look_for functions (level_at functions p) p.function p.index) (span_in s)) (sym grown.1)
          (chain_kept (look_for functions (level_at functions p)) (steps_for (level_at functions p) a b) grown.0 (look_for functions (level_at functions p) p.function p.index) (span_in s) h.1),
    )

all_kept : (functions : List FunctionInfo) (a b new_a new_b more_a more_b : List index.ChainStep) (ps : List Position) (ss : List LevelSpan) → new_a ≡ a ++ more_a → new_b ≡ b ++ more_b →
    EachPair (HoldsFor functions a b) ps ss → EachPair (HoldsFor functions new_a new_b) ps ss
all_kept functions a b new_a new_b more_a more_b ps ss e f h =
    subst (λ (x : List index.ChainStep). EachPair (HoldsFor functions x new_b) ps ss) (sym e)
    (subst (λ (y : List index.ChainStep). EachPair (HoldsFor functions (a ++ more_a) y) ps ss) (sym f)
    (pair_kept (HoldsFor functions a b) (HoldsFor functions (a ++ more_a) (b ++ more_b)) ps ss (λ p s. held_kept functions a b more_a more_b p s) h))

pub unchanged : (chains : WrittenChains) → Extends chains chains
unchanged chains = record { rows = refl; steps = ([], sym (append-nil chains.steps)); spans = λ f span h. h }

breaks : (functions : List FunctionInfo) (l : Level) (p : Position) → (l ≡ Plain → ⊥) → StartsChain (look_for functions l) p.function p.index → BreaksLevel functions l p
breaks functions Plain p marked h = absurd (marked refl)
breaks functions NonAllocating p marked h = h
breaks functions NonBlocking p marked h = h

starts : (functions : List FunctionInfo) (l : Level) (p : Position) → BreaksLevel functions l p → StartsChain (look_for functions l) p.function p.index
starts functions Plain p h = absurd h
starts functions NonAllocating p h = h
starts functions NonBlocking p h = h

module _ (functions : List FunctionInfo) (p : Position) (a b new_a new_b : WrittenChains) (old new : Found) (grown_a : Extends a new_a) (grown_b : Extends b new_b) where
  -- a place that isn't warned of
  pub goes_on_skipped : (IsWarned functions p → ⊥) → new ≡ old → GoesOn functions p a b new_a new_b old new
  goes_on_skipped quiet same = record {
    on = λ places h. record {
      allocation_rows = grown_a.rows ∙ h.allocation_rows;
      blocking_rows = grown_b.rows ∙ h.blocking_rows;
      warned = h.warned;
      exact = picked_left (IsWarned functions) places h.warned p quiet h.exact;
      warnings = ap (λ (f : Found). f.warnings.items) same ∙ h.warnings;
      held = subst (λ (f : Found). EachPair (HoldsFor functions new_a.steps new_b.steps) h.warned f.spans.items) (sym same)
          (all_kept functions a.steps b.steps new_a.steps new_b.steps grown_a.steps.0 grown_b.steps.0 h.warned old.spans.items grown_a.steps.1 grown_b.steps.1 h.held);
    };
  }

  -- one that is
  pub goes_on_added : IsWarned functions p → new.warnings.items ≡ old.warnings.items ++ warning_of (level_at functions p) p ∷ [] → (s : LevelSpan) →
      new.spans.items ≡ old.spans.items ++ s ∷ [] → HoldsFor functions new_a.steps new_b.steps p s → GoesOn functions p a b new_a new_b old new
  goes_on_added warned warning s span held = record {
    on = λ places h. record {
      allocation_rows = grown_a.rows ∙ h.allocation_rows;
      blocking_rows = grown_b.rows ∙ h.blocking_rows;
      warned = h.warned ++ p ∷ [];
      exact = picked_taken (IsWarned functions) places h.warned p warned h.exact;
      warnings = warning ∙ (ap (λ ws. ws ++ warning_of (level_at functions p) p ∷ []) h.warnings ∙ sym (map-append (λ (q : Position). warning_of (level_at functions q) q) h.warned (p ∷ [])));
      held = subst (λ (ss : List LevelSpan). EachPair (HoldsFor functions new_a.steps new_b.steps) (h.warned ++ p ∷ []) ss) (sym span)
          (pair_more (HoldsFor functions new_a.steps new_b.steps) h.warned old.spans.items p s
          (all_kept functions a.steps b.steps new_a.steps new_b.steps grown_a.steps.0 grown_b.steps.0 h.warned old.spans.items grown_a.steps.1 grown_b.steps.1 h.held) held);
    };
  }

  -- one that was looked at for the level of its function
  goes_on_looked : (l : Level) (rows : List (List Mark)) (steps : List index.ChainStep) → level_at functions p ≡ l → (l ≡ Plain → ⊥) → rows ≡ mark_rows functions l →
      steps_for l new_a.steps new_b.steps ≡ steps → LooksAt (look rows) l p steps old new → GoesOn functions p a b new_a new_b old new
  goes_on_looked l rows steps e marked is long (Skipped quiet same) =
      goes_on_skipped (λ w. quiet (subst (λ (rs : List (List Mark)). StartsChain (look rs) p.function p.index) (sym is) (starts functions l p (subst (λ (k : Level). BreaksLevel functions k p) e w)))) same
  goes_on_looked l rows steps e marked is long (Added starting warning s span held) =
      goes_on_added
      (subst (λ (k : Level). BreaksLevel functions k p) (sym e) (breaks functions l p marked (subst (λ (rs : List (List Mark)). StartsChain (look rs) p.function p.index) is starting)))
      (warning ∙ ap (λ (k : Level). old.warnings.items ++ warning_of k p ∷ []) (sym e)) s span
      (subst (λ (k : Level). HoldsAt (look_for functions k) k (steps_for k new_a.steps new_b.steps) p s) (sym e)
      (subst (λ (x : List index.ChainStep). HoldsAt (look_for functions l) l x p s) (sym long) (subst (λ (rs : List (List Mark)). HoldsAt (look rs) l steps p s) is held)))

pub look_plain : (functions : List FunctionInfo) (p : Position) (a b : WrittenChains) (found : Found) → Plain ≡ level_at functions p → GoesOn functions p a b a b found found
look_plain functions p a b found e =
    goes_on_skipped functions p a b a b found found (unchanged a) (unchanged b) (λ w. subst (λ (k : Level). BreaksLevel functions k p) (sym e) w) refl

pub look_allocation : (functions : List FunctionInfo) (p : Position) (a b new_a : WrittenChains) (old new : Found) → Extends a new_a → NonAllocating ≡ level_at functions p →
    LooksAt (look a.rows) NonAllocating p new_a.steps old new → GoesOn functions p a b new_a b old new
look_allocation functions p a b new_a old new grown e looked = record {
  on = λ places h. (goes_on_looked functions p a b new_a b old new grown (unchanged b) NonAllocating a.rows new_a.steps (sym e) (λ q. let clash : ⊥ = cc in clash) h.allocation_rows refl looked).on places h;
}

pub look_blocking : (functions : List FunctionInfo) (p : Position) (a b new_b : WrittenChains) (old new : Found) → Extends b new_b → NonBlocking ≡ level_at functions p →
    LooksAt (look b.rows) NonBlocking p new_b.steps old new → GoesOn functions p a b a new_b old new
look_blocking functions p a b new_b old new grown e looked = record {
  on = λ places h. (goes_on_looked functions p a b a new_b old new (unchanged a) grown NonBlocking b.rows new_b.steps (sym e) (λ q. let clash : ⊥ = cc in clash) h.blocking_rows refl looked).on places h;
}

-- nothing starts past the rows
pub none_past : (rows : List (List Mark)) (f i : ℕ) → length rows ≤ f → StartsChain (look rows) f i → ⊥
none_past rows f i past (places, leads) = go places leads
  where
    row : slice_index_or rows f [] ≡ []
    row = get_or_past rows f [] past

    go : (places : List ℕ) → Leads (look rows) f (i ∷ places) → ⊥
    go [] h = let e : slice_index_or [] i Passes ≡ Violates = sym (ap (λ r. slice_index_or r i Passes) row) ∙ h in let clash : ⊥ = cc in clash
    go (j ∷ js) (g, h, rest) = let e : slice_index_or [] i Passes ≡ StepsTo g = sym (ap (λ r. slice_index_or r i Passes) row) ∙ h in let clash : ⊥ = cc in clash

-- a place that starts a chain, once its warning and its span are added
pub looked_added : {T E : Type 0} (result : Result T E) (rows later : List (List Mark)) (level : Level) (p : Position) (steps : List index.ChainStep) (old new : Found) (kind : ViolationKind) (span : Span) →
    StartsChain (look rows) p.function p.index → later ≡ rows → HoldsChain (look later) steps (look later p.function p.index) span → kind ≡ kind_of p.spot.action →
    OnOk result (new.warnings.items ≡ old.warnings.items ++ record { function = p.function; place = p.spot.place; kind = kind; level = level } ∷ []) →
    OnOk result (new.spans.items ≡ old.spans.items ++ record { level = level; from = span.from; to = span.to } ∷ []) → OnOk result (LooksAt (look rows) level p steps old new)
looked_added (Ok done) rows later level p steps old new kind span starting same held is warning spans =
    let w : ViolationKind → Warning = λ (k : ViolationKind). record { function = p.function; place = p.spot.place; kind = k; level = level } in
    Added starting (warning ∙ ap (λ (k : ViolationKind). old.warnings.items ++ w k ∷ []) is) (record { level = level; from = span.from; to = span.to }) spans
    (refl, subst (λ (rs : List (List Mark)). HoldsChain (look rs) steps (look rs p.function p.index) span) same held)
looked_added (Err fault) rows later level p steps old new kind span starting same held is warning spans = tt

pub looked_allocation : {T E : Type 0} (result : Result T E) (functions : List FunctionInfo) (p : Position) (a b new_a : WrittenChains) (old new : Found) → Extends a new_a → NonAllocating ≡ level_at functions p →
    OnOk result (LooksAt (look a.rows) NonAllocating p new_a.steps old new) → OnOk result (GoesOn functions p a b new_a b old new)
looked_allocation (Ok done) functions p a b new_a old new grown e looked = look_allocation functions p a b new_a old new grown e looked
looked_allocation (Err fault) functions p a b new_a old new grown e looked = tt

pub looked_blocking : {T E : Type 0} (result : Result T E) (functions : List FunctionInfo) (p : Position) (a b new_b : WrittenChains) (old new : Found) → Extends b new_b → NonBlocking ≡ level_at functions p →
    OnOk result (LooksAt (look b.rows) NonBlocking p new_b.steps old new) → OnOk result (GoesOn functions p a b a new_b old new)
looked_blocking (Ok done) functions p a b new_b old new grown e looked = look_blocking functions p a b new_b old new grown e looked
looked_blocking (Err fault) functions p a b new_b old new grown e looked = tt
