use Rattle.std.proofs.Common.{◌≡◌, ℕ, suc, ◌-◌, ◌<◌, Bool, true, false, if◌then◌else◌, List, [], ◌∷◌, ◌++◌, Option, Some, IsSome, length, drop, reverse, refl, sym, ◌∙◌, ap, unwrap_or, arith}
use Rattle.std.proofs.lemmas.List.{reverse-append}
use Rattle.std.proofs.lemmas.Slice.Eq.{bytes_eq-Decides}
use Rattle.std.specs.Str.{bytes_eq}
use Rattle.std.specs.HashMap.{HashMap}
use denote.Ref.{Bor}
use Rattle.c_grammar.specs.Rules.{Declared}
use Rattle.c_grammar.specs.Expressions.{is_type_name}
use Rattle.type_names.specs.declared.Declaration.{Declaration}
use Rattle.type_names.specs.Names.{kind_of, kind_in, declarations, Keeps}

-- A name that is not declared is no typedef name.
pub type_from_kind : (names : List Declared) (text : List ℕ) → unwrap_or (kind_of names text) false ≡ is_type_name names text
type_from_kind [] text = refl
type_from_kind (latest ∷ before) text = by (bytes_eq latest.name text) (type_from_kind before text)
  where
    by : (here : Bool) → unwrap_or (kind_of before text) false ≡ is_type_name before text
        → unwrap_or (if here then Some latest.is_type else kind_of before text) false ≡ (if here then latest.is_type else is_type_name before text)
    by true rest = refl
    by false rest = rest

-- the function, with another value at the name
abbrev pub Writes : List ℕ → Option Bool → (List ℕ → Option Bool) → (List ℕ → Option Bool) → Type 0
Writes name kind old new = (text : List ℕ) → new text ≡ (if bytes_eq name text then kind else old text)

-- A write is undone by a write of what was there.
pub undone : (name : List ℕ) (kind before : Option Bool) (old written new : List ℕ → Option Bool)
    → Writes name kind old written → Writes name before written new → before ≡ old name → (text : List ℕ) → new text ≡ old text
undone name kind before old written new first second was text = by (bytes_eq name text) refl
  where
    by : (here : Bool) → bytes_eq name text ≡ here → new text ≡ old text
    by true e = second text ∙ ap (λ b. if b then before else written text) e ∙ was ∙ ap old ((bytes_eq-Decides name text).0 e)
    by false e = second text ∙ ap (λ b. if b then before else written text) e ∙ first text ∙ ap (λ b. if b then kind else old text) e

module _ (log : List Declaration) (d : Declaration) where
  -- the latest declaration stands last in the log
  pub latest : reverse (log ++ d ∷ []) ≡ d ∷ reverse log
  latest = reverse-append log (d ∷ [])

  -- The latest declaration of its name says what it is.
  pub kinds_behind : Writes d.name.now (Some d.is_type) (kind_of (declarations log)) (kind_of (declarations (log ++ d ∷ [])))
  kinds_behind text = rw latest refl

module _ {S : Type 0} (kinds : HashMap (Bor (List ℕ)) Bool S) (log : List Declaration) (d : Declaration) where
  -- One declaration more.
  pub keeps_more : (new : HashMap (Bor (List ℕ)) Bool S) → Keeps kinds log → d.before ≡ kind_in kinds d.name.now
      → Writes d.name.now (Some d.is_type) (kind_in kinds) (kind_in new) → Keeps new (log ++ d ∷ [])
  keeps_more new keeps was write = record {
    current = λ text. write text ∙ ap (λ k. if bytes_eq d.name.now text then Some d.is_type else k) (keeps.current text) ∙ sym (kinds_behind log d text);
    remembers = rw (latest log d) (was ∙ keeps.current d.name.now, keeps.remembers);
  }

  -- The latest name is declared.
  pub latest_is_known : Keeps kinds (log ++ d ∷ []) → IsSome (kind_in kinds d.name.now)
  latest_is_known keeps = rw (keeps.current d.name.now, latest log d, (bytes_eq-Decides d.name.now d.name.now).1 refl) refl

  -- One declaration less.
  pub keeps_less : (new : HashMap (Bor (List ℕ)) Bool S) → Keeps kinds (log ++ d ∷ [])
      → Writes d.name.now d.before (kind_in kinds) (kind_in new) → Keeps new log
  keeps_less new keeps write =
      let remembered = rw (latest log d) at keeps.remembers in
      record {
        current = undone d.name.now (Some d.is_type) d.before (kind_of (declarations log)) (kind_in kinds) (kind_in new)
            (λ text. keeps.current text ∙ kinds_behind log d text) write remembered.0;
        remembers = remembered.1;
      }

-- A failed declaration, undone.
pub keeps_same : {S : Type 0} (kinds inserted new : HashMap (Bor (List ℕ)) Bool S) (log : List Declaration) (name : List ℕ) (kind before : Option Bool)
    → Keeps kinds log → before ≡ kind_in kinds name → Writes name kind (kind_in kinds) (kind_in inserted) → Writes name before (kind_in inserted) (kind_in new)
    → Keeps new log
keeps_same kinds inserted new log name kind before keeps was first second = record {
  current = λ text. undone name kind before (kind_in kinds) (kind_in inserted) (kind_in new) first second was text ∙ keeps.current text;
  remembers = keeps.remembers;
}

-- A list without its first item has one item less to lose.
pub one_less : {A : Type 0} (xs : List A) (n : ℕ) → n < length xs → drop (length (drop 1 xs) - n) (drop 1 xs) ≡ drop (length xs - n) xs
one_less [] n h = absurd (omega arith)
one_less (x ∷ xs) n h = let e : length (x ∷ xs) - n ≡ suc (length xs - n) = omega arith in rw e refl
