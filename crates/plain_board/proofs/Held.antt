-- What is held after one report more.
use Rattle.std.proofs.Common.{◌≡◌, ◌<◌, ◌≤◌, ◌-◌, ℕ, true, false, List, [], ◌∷◌, ◌++◌, take, length, get_or, refl, sym, ap, ◌∙◌, subst, inl, inr, arith, min}
use Rattle.std.specs.Prelude.{fold, ◌^◌}
use Rattle.std.proofs.lemmas.Bool.{cases_lt}
use Rattle.std.proofs.lemmas.Grind.{flat_map-append}
use Rattle.std.proofs.lemmas.List.{append-nil, length-take, get_or_append_left, get_or-append_right, length-append}
use Rattle.ctx_set.specs.declared.steps.StackStep.{StackStep}
use Rattle.reports.specs.Counts.{counted}
use Rattle.reports.specs.Passes.{Report}
use Rattle.reports.specs.Prefixes.{prefixes, distinct, asked, has, room}
use Rattle.prefix_table.proofs.Firsts.{entered, firsts_of_firsts, firsts_more, firsts_entered}
use Rattle.plain_board.specs.Counting.{held_after}
use Rattle.plain_board.specs.Gathered.{among}
use Rattle.plain_board.specs.Passes.{Keeps}
use Rattle.plain_board.proofs.Lists.{Later, later, has_left, firsts_once, own_prefix}

pub asked_push : (reports : List Report) (r : Report) → asked (reports ++ r ∷ []) ≡ asked reports ++ prefixes r.stack
asked_push reports r = flat_map-append (λ (report : Report). prefixes report.stack) reports (r ∷ []) ∙ ap (λ (l : List (List StackStep)). asked reports ++ l) (append-nil (prefixes r.stack))

module _ (reports : List Report) (held : List (List StackStep)) (counts : List ℕ) (keeps : Keeps reports held counts) (stack : List StackStep) (next : List (List StackStep)) (entry : next ≡ held_after held stack) where
  pub next_firsts : next ≡ take room (distinct (asked reports ++ prefixes stack))
  next_firsts = entry ∙ ap (λ (h : List (List StackStep)). take room (distinct (h ++ prefixes stack))) keeps.firsts_asked ∙ firsts_more room (asked reports) (prefixes stack)

  itself : take room (distinct held) ≡ held
  itself = ap (λ (h : List (List StackStep)). take room (distinct h)) keeps.firsts_asked ∙ firsts_of_firsts room (asked reports) ∙ sym keeps.firsts_asked

  pub next_folded : next ≡ fold (entered room) held (prefixes stack)
  next_folded = entry ∙ firsts_entered room held (prefixes stack) itself

  pub grown : Later held next
  grown = subst (Later held) (sym next_folded) (later room (prefixes stack) held)

  pub has_next : (p : List StackStep) → has held p ≡ true → has next p ≡ true
  has_next p e = ap (λ (h : List (List StackStep)). has h p) grown.is ∙ has_left held grown.more p e

  pub next_once : (s : List StackStep) → among s next ≤ 1
  next_once s = subst (λ (h : List (List StackStep)). among s h ≤ 1) (sym next_firsts) (firsts_once s room (asked reports ++ prefixes stack))

  pub next_few : length next ≤ room
  next_few = let long = ap length next_firsts ∙ length-take room (distinct (asked reports ++ prefixes stack)) in omega (arith, long)

  pub next_longer : length held ≤ length next
  next_longer = let long = ap length grown.is ∙ length-append held grown.more in omega (arith, long)

  same_old : (i : ℕ) → i < length held → get_or next i [] ≡ get_or held i []
  same_old i low = ap (λ (h : List (List StackStep)). get_or h i []) grown.is ∙ get_or_append_left held grown.more [] i low

  -- a prefix that is new wasn't counted
  new_is_fresh : (i : ℕ) → length held ≤ i → i < length next → has held (get_or next i []) ≡ false
  new_is_fresh i high within =
      let long = ap length grown.is ∙ length-append held grown.more in
      ap (has held) (ap (λ (h : List (List StackStep)). get_or h i []) grown.is ∙ get_or-append_right held grown.more (length held) i [] refl high)
      ∙ grown.fresh (i - length held) [] (omega (arith, long, high, within))

  not_counted : (s : List StackStep) → has held s ≡ false → counted s reports ≡ 0
  not_counted s absent = elim (cases_lt 0 (counted s reports)) [ inl some ↦ absurd (clash some) | inr none ↦ omega (arith, none) ]
    where
      clash : 0 < counted s reports → ⊥
      clash some =
          let held_itself : has held s ≡ true = own_prefix (has held) s (keeps.short s some).0 (keeps.roomy s some) in
          let both_ways : true ≡ false = sym held_itself ∙ absent in
          let no : ⊥ = cc in no

  -- the counts so far, of the new prefixes too
  pub so_far : (i : ℕ) → i < length next → get_or counts i 0 ≡ min (counted (get_or next i []) reports) (2 ^ 64 - 1)
  so_far i within = elim (cases_lt i (length held)) [ inl low ↦ keeps.counts_are i low ∙ ap (λ (s : List StackStep). min (counted s reports) (2 ^ 64 - 1)) (sym (same_old i low)) | inr high ↦ keeps.none i high ∙ ap (λ n. min n (2 ^ 64 - 1)) (sym (not_counted (get_or next i []) (new_is_fresh i high within))) ]
