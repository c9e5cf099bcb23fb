-- Scopes in which more is declared.
use Rattle.std.proofs.Common.{◌≡◌, refl, ℕ, zero, suc, ◌+◌, ◌-◌, ◌≤◌, Bool, true, false, cond, List, [], ◌∷◌, length, drop, None, ap, ◌∙◌, sym, arith}
use Rattle.std.proofs.Math.Seq.{drop-nil}
use Rattle.c_grammar.specs.Rules.{Declared, Scope}
use Rattle.c_grammar.specs.Statements.{declare}
use Rattle.parse_input.specs.Input.{cut_scope}
use Rattle.parse_declarations.specs.Scoped.{Extends}

pub nothing_declared : (s : Scope) (typedefs : Bool) → declare s typedefs None ≡ s
nothing_declared s typedefs = go s.block typedefs
  where
    go : (b c : Bool) → cond b s (cond c s s) ≡ s
    go true c = refl
    go false true = refl
    go false false = refl

drop_none : (n : ℕ) (xs : List Declared) → n ≡ 0 → drop n xs ≡ xs
drop_none n xs e = rw e refl

pub extends_self : (s : Scope) → Extends s s
extends_self s = record { longer = omega arith; cut = drop_none (length s.types - length s.types) s.types (omega arith); block = refl }

-- what is left behind the latest name
drop_one : (n : ℕ) (x : Declared) (xs : List Declared) → n ≡ 1 → drop n (x ∷ xs) ≡ xs
drop_one n x xs e = rw e refl

pub extends_one : (s : Scope) (x : Declared) → Extends s (record s { types = x ∷ s.types })
extends_one s x = record {
  longer = omega arith;
  cut = drop_one (length (x ∷ s.types) - length s.types) x s.types (omega arith);
  block = refl;
}

drop_both : (m n : ℕ) (xs : List Declared) → drop m (drop n xs) ≡ drop (n + m) xs
drop_both m zero xs = let same : zero + m ≡ m = omega arith in rw same refl
drop_both m (suc n) [] = drop-nil m ∙ sym (drop-nil (suc n + m))
drop_both m (suc n) (x ∷ xs) = let next : suc n + m ≡ suc (n + m) = omega arith in rw next (drop_both m n xs)

pub extends_both : (s t u : Scope) → Extends s t → Extends t u → Extends s u
extends_both s t u one other = record {
  longer = omega (arith, one.longer, other.longer);
  cut =
      let sum : length u.types - length s.types ≡ (length u.types - length t.types) + (length t.types - length s.types)
      = omega (arith, one.longer, other.longer) in
      ap (λ n. drop n u.types) sum ∙ sym (drop_both (length t.types - length s.types) (length u.types - length t.types) u.types)
      ∙ ap (λ xs. drop (length t.types - length s.types) xs) other.cut ∙ one.cut;
  block = other.block ∙ one.block;
}

-- back to the old scope
pub extends_cut : (s t : Scope) → Extends s t → cut_scope (length s.types) t ≡ s
extends_cut s t e = go s t.block (drop (length t.types - length s.types) t.types) e.cut e.block
  where
    go : (s : Scope) (block : Bool) (types : List Declared) → types ≡ s.types → block ≡ s.block → record { types = types; block = block } ≡ s
    go s block types e f = rw (e, f) refl

pub extends_longer : (s t : Scope) → Extends s t → length s.types ≤ length t.types
extends_longer s t e = e.longer

pub extends_same : (s t : Scope) → t ≡ s → Extends s t
extends_same s t e = rw e (extends_self s)
