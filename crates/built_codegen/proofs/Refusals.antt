-- The refusals of the compiler exclude each other.
use Rattle.std.proofs.Common.{◌≡◌, ℕ, ◌<◌, ◌⊎◌, inl, inr, List, Option, Some, None, Result, Ok, Err, refl, sym, subst, arith, length}
use Rattle.std.specs.Prelude.{slice_get, IsSomeAnd, IfSome, IfOk, IfErr}
use Rattle.std.proofs.lemmas.Option.{slice_get_within}
use Rattle.built_unit.specs.declared.units.FunctionInfo.{FunctionInfo}
use Rattle.built_unit.specs.Units.{UnitParts}
use Rattle.built_code.specs.Machine.{Program}
use Rattle.built_codegen.specs.declared.compiling.CompileRefusal.{CompileRefusal}
use Rattle.built_codegen.specs.declared.compiling.CompileRefusal.TheVariants.{NoEntry, Undefined, Long, NoMemory}
use Rattle.built_codegen.specs.Unit.{IsDefinedAs, HasNoEntry, IsEntry, IsFirstMissing}

known : (fs : List FunctionInfo) (n : ℕ) (P : FunctionInfo → Type 0) (o : Option FunctionInfo) → slice_get fs n ≡ o → IsSomeAnd o P → n < length fs
known fs n P None e h = absurd h
known fs n P (Some f) e h = slice_get_within fs n f e

both : (P : FunctionInfo → Type 0) (o : Option FunctionInfo) → IsSomeAnd o P → IfSome o (λ f. P f → ⊥) → ⊥
both P None h a = absurd h
both P (Some f) h a = a h

-- a unit with an entry has one
pub has_entry : (u : UnitParts) (name : List ℕ) (n : ℕ) → IsEntry u name n → HasNoEntry u name → ⊥
has_entry u name n e none =
    both (IsDefinedAs name) (slice_get u.functions n) e.defined (none n (known u.functions n (IsDefinedAs name) (slice_get u.functions n) refl e.defined))

-- there is one first missing function
pub first_unique : (u : UnitParts) (a b : ℕ) → IsFirstMissing u (Some a) → IsFirstMissing u (Some b) → a ≡ b
first_unique u a b x y = omega (arith, x.1 b y.0, y.1 a x.0)

pub none_or_first : (u : UnitParts) (a : ℕ) → IsFirstMissing u (Some a) → IsFirstMissing u None → ⊥
none_or_first u a x none = none a x.0

pub undefined_same : (u : UnitParts) (a n : ℕ) → IsFirstMissing u (Some a) → Undefined a ≡ Undefined n → IsFirstMissing u (Some n)
undefined_same u a n x e = let same : a ≡ n = cc in subst (λ k. IsFirstMissing u (Some k)) same x

-- neither a missing entry nor a missing function is answered where both are there
pub other_refusal : (r : Result Program CompileRefusal) (refusal : CompileRefusal) → IfErr r (λ e. (e ≡ Long) ⊎ (e ≡ NoMemory)) → r ≡ Err refusal → (refusal ≡ Long) ⊎ (refusal ≡ NoMemory)
other_refusal r refusal h e = subst (λ x. IfErr x (λ e. (e ≡ Long) ⊎ (e ≡ NoMemory))) e h

pub no_entry_other : (r : Result Program CompileRefusal) → IfErr r (λ e. (e ≡ Long) ⊎ (e ≡ NoMemory)) → r ≡ Err NoEntry → ⊥
no_entry_other r h e = elim (other_refusal r NoEntry h e) [ inl x ↦ cc | inr x ↦ cc ]

pub undefined_other : (r : Result Program CompileRefusal) (n : ℕ) → IfErr r (λ e. (e ≡ Long) ⊎ (e ≡ NoMemory)) → r ≡ Err (Undefined n) → ⊥
undefined_other r n h e = elim (other_refusal r (Undefined n) h e) [ inl x ↦ cc | inr x ↦ cc ]

pub entry_kept : (u : UnitParts) (name : List ℕ) (n : ℕ) (r : Result Program CompileRefusal) → IsEntry u name n → IfOk r (λ code. code.entry ≡ n) → IfOk r (λ code. IsEntry u name code.entry)
entry_kept u name n (Ok code) e h = subst (IsEntry u name) (sym h) e
entry_kept u name n (Err refusal) e h = tt
