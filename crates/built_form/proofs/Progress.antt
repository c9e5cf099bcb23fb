-- Reading a row of things of one kind up to what ends it, one by one.
use Rattle.std.proofs.Common.{◌≡◌, List, [], ◌∷◌, ◌++◌, refl, sym, subst, ap, ◌∙◌, arith, append_assoc}
use Rattle.std.specs.List.{flat_map}
use Rattle.std.proofs.lemmas.Grind.{flat_map-append}
use Rattle.built_form.specs.Form.{Lexeme, Part, Spells}
use Rattle.built_form.specs.Reading.{Finds}

-- What ends a row: these parts, and what is left after them.
-- From `start` on these were found, and `now` is left; each row that `start` begins with goes on from there.
pub record Progress {A : Type 0} (spelled : A → List Part) (Stops : List Part → List Lexeme → Type 0) (found : List A)
    (start now : List Lexeme) : Type 0 where
  pub read : (parts : List Part) (end : List Lexeme) → Spells parts now end → Spells (flat_map spelled found ++ parts) start end
  pub only : (all : List A) (parts : List Part) (end : List Lexeme) → Stops parts end
      → Spells (flat_map spelled all ++ parts) start end
      → (more : List A) × (all ≡ found ++ more) × Spells (flat_map spelled more ++ parts) now end

module _ {A : Type 0} (spelled : A → List Part) (Stops : List Part → List Lexeme → Type 0) where
  pub progress_start : (start : List Lexeme) → Progress spelled Stops [] start start
  progress_start start = record {
    read = λ parts end h. h;
    only = λ all parts end stop h. (all, refl, h);
  }

  -- the row stops here
  pub IsStop : List Lexeme → Type 0
  IsStop now = (parts : List Part) × (end : List Lexeme) × Stops parts end × Spells parts now end

  pub progress_step : (found : List A) (x : A) (start now after : List Lexeme) → Progress spelled Stops found start now
      → Finds spelled now x after
      → ((parts : List Part) (end : List Lexeme) → Stops parts end → Spells parts now end → ⊥)
      → Progress spelled Stops (found ++ x ∷ []) start after
  progress_step found x start now after before finds going = record {
    read = λ parts end h.
        subst (λ ps. Spells ps start end) (sym (joined parts)) (before.read (spelled x ++ parts) end (finds.read parts end h));
    only = λ all parts end stop h. next all parts end stop (before.only all parts end stop h);
  }
    where
      joined : (parts : List Part) → flat_map spelled (found ++ x ∷ []) ++ parts ≡ flat_map spelled found ++ (spelled x ++ parts)
      joined parts = grind (arith, flat_map-append spelled found (x ∷ []), append_assoc)

      next : (all : List A) (parts : List Part) (end : List Lexeme) → Stops parts end
          → ((more : List A) × (all ≡ found ++ more) × Spells (flat_map spelled more ++ parts) now end)
          → (more : List A) × (all ≡ (found ++ x ∷ []) ++ more) × Spells (flat_map spelled more ++ parts) after end
      next all parts end stop ([], e, h) = absurd (going parts end stop h)
      next all parts end stop (y ∷ more, e, h) =
          let f = finds.only y (flat_map spelled more ++ parts) end (subst (λ ps. Spells ps now end) (append_assoc (spelled y) (flat_map spelled more) parts) h) in
          (more, e ∙ (ap (λ z. found ++ z ∷ more) f.0 ∙ sym (append_assoc found (x ∷ []) more)), f.1)
