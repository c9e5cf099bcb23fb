-- What is left of the warnings in order of place.
use Rattle.std.proofs.Common.{◌≡◌, ◌∙◌, sym, ap, subst, ℕ, suc, ◌+◌, ◌-◌, ◌<◌, ◌≤◌, List, ◌∷◌, [], ◌++◌, length, take, drop, get_or, append_assoc, add-one, arith, length-drop, drop-cons}
use Rattle.std.proofs.lemmas.List.{take_all, drop_all}
use Rattle.core_unit.specs.declared.tables.UnitParts.{UnitParts}
use Rattle.printing.specs.Gathered.{Gathers}
use Rattle.printing.proofs.Gathering.{Remains, remains_next, remains_fault}
use Rattle.rt_base.specs.Outside.{SinkState, FailsWithin}
use Rattle.type_rules.specs.declared.notes.TypeWarning.{TypeWarning}
use Rattle.unit_check.specs.declared.verdicts.ChainStep.{ChainStep}
use Rattle.unit_check.specs.declared.verdicts.Warning.{Warning}
use Rattle.warning_text.specs.WarningText.{NamedSource, count_before, typed_text, violation_text, merged_text}

-- the warnings from an index on
pub behind_is : (typed : List TypeWarning) (n m : ℕ) → n ≡ m → take (length typed - n) (drop n typed) ≡ drop m typed
behind_is typed n m e = take_all (length typed - n) (drop n typed) (omega (arith, length-drop n typed)) ∙ ap (λ (k : ℕ). drop k typed) e

-- a list from an index on
from_index : {A : Type 0} (xs : List A) (i : ℕ) (d : A) → i < length xs → drop i xs ≡ get_or xs i d ∷ drop (i + 1) xs
from_index xs i d within = rw add-one (drop-cons xs i d within)

-- behind the last violation
pub ended_text : (source : NamedSource) (u : UnitParts) (typed : List TypeWarning) (ws : List Warning) (chains : List (List ChainStep)) (i : ℕ) → length ws ≤ i →
    merged_text source u typed (drop i ws) chains ≡ typed_text source typed
ended_text source u typed ws chains i past = ap (λ (x : List Warning). merged_text source u typed x chains) (drop_all i ws past)

-- the front of the typing's warnings, the violation with its chain, and all behind them
next_text : (source : NamedSource) (u : UnitParts) (typed : List TypeWarning) (ws : List Warning) (chains : List (List ChainStep)) (i : ℕ) (d : Warning) → i < length ws → length chains ≡ length ws →
    merged_text source u typed (drop i ws) (drop i chains) ≡
    typed_text source (take (count_before (get_or ws i d).place typed) typed)
    ++ (violation_text source u (get_or ws i d) (get_or chains i []) ++ merged_text source u (drop (count_before (get_or ws i d).place typed) typed) (drop (i + 1) ws) (drop (i + 1) chains))
next_text source u typed ws chains i d within many =
    let shorter : i < length chains = omega arith in
    let w : Warning = get_or ws i d in
    let chain : List ChainStep = get_or chains i [] in
    ap (λ (x : List Warning). merged_text source u typed x (drop i chains)) (from_index ws i d within)
    ∙ (ap (λ (x : List (List ChainStep)). merged_text source u typed (w ∷ drop (i + 1) ws) x) (from_index chains i [] shorter)
    ∙ append_assoc (typed_text source (take (count_before w.place typed) typed)) (violation_text source u w chain) (merged_text source u (drop (count_before w.place typed) typed) (drop (i + 1) ws) (drop (i + 1) chains)))

module _ (source : NamedSource) (u : UnitParts) (rest : List TypeWarning) (ws : List Warning) (chains : List (List ChainStep)) (i : ℕ) (d : Warning) (chain : List ChainStep) (front : List TypeWarning)
    (whole held left : List ℕ) (old now : SinkState) (within : i < length ws) (many : length chains ≡ length ws) (are : chain ≡ get_or chains i [])
    (taken : front ≡ take (count_before (get_or ws i d).place rest) rest) (inv : Remains (merged_text source u rest (drop i ws) (drop i chains)) whole held old left now) where
  abbrev behind : List ℕ
  behind = merged_text source u (drop (count_before (get_or ws i d).place rest) rest) (drop (i + 1) ws) (drop (i + 1) chains)

  parts : merged_text source u rest (drop i ws) (drop i chains) ≡ typed_text source front ++ (violation_text source u (get_or ws i d) chain ++ behind)
  parts =
      next_text source u rest ws chains i d within many
      ∙ (ap (λ (f : List TypeWarning). typed_text source f ++ (violation_text source u (get_or ws i d) (get_or chains i []) ++ behind)) (sym taken)
      ∙ ap (λ (c : List ChainStep). typed_text source front ++ (violation_text source u (get_or ws i d) c ++ behind)) (sym are))

  -- a fault within the front of the typing's warnings
  pub front_fails : (new : SinkState) → FailsWithin (left ++ typed_text source front) now new → FailsWithin (held ++ whole) old new
  front_fails new f =
      remains_fault (typed_text source front) (violation_text source u (get_or ws i d) chain ++ behind) whole held left old now new
      (subst (λ (t : List ℕ). Remains t whole held old left now) parts inv) f

  first : (mid : List ℕ) (between : SinkState) → Gathers (typed_text source front) left now mid between → Remains (violation_text source u (get_or ws i d) chain ++ behind) whole held old mid between
  first mid between a =
      remains_next (typed_text source front) (violation_text source u (get_or ws i d) chain ++ behind) whole held left mid old now between
      (subst (λ (t : List ℕ). Remains t whole held old left now) parts inv) a

  -- a fault within the violation and its notes
  pub violation_fails : (mid : List ℕ) (between new : SinkState) → Gathers (typed_text source front) left now mid between → FailsWithin (mid ++ violation_text source u (get_or ws i d) chain) between new →
      FailsWithin (held ++ whole) old new
  violation_fails mid between new a f = remains_fault (violation_text source u (get_or ws i d) chain) behind whole held mid old between new (first mid between a) f

  -- after both
  pub turn : (mid last : List ℕ) (between new : SinkState) (later : List TypeWarning) → Gathers (typed_text source front) left now mid between → Gathers (violation_text source u (get_or ws i d) chain) mid between last new →
      later ≡ drop (count_before (get_or ws i d).place rest) rest → Remains (merged_text source u later (drop (i + 1) ws) (drop (i + 1) chains)) whole held old last new
  turn mid last between new later a b e =
      subst (λ (x : List TypeWarning). Remains (merged_text source u x (drop (i + 1) ws) (drop (i + 1) chains)) whole held old last new) (sym e)
      (remains_next (violation_text source u (get_or ws i d) chain) behind whole held mid last old between new (first mid between a) b)
