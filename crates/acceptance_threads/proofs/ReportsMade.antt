-- A pass that makes reports.
use Rattle.std.proofs.Common.{◌≡◌, ◌+◌, ℕ, List, [], ◌∷◌, ◌++◌, refl, sym, ap, ◌∙◌, length-append, append_assoc, arith}
use Rattle.std.proofs.lemmas.List.{append-nil}
use Rattle.reports.specs.Passes.{Report, Held}
use Rattle.acceptance_threads.specs.Reporting.{Reports}

-- one report more
pub reports_more : (n : ℕ) (h now next : Held) (r : Report) → Reports n h now → next ≡ record now { own = now.own ++ r ∷ [] } → Reports (n + 1) h next
reports_more n h now next r so_far is = record {
  more = so_far.more ++ r ∷ [];
  many = omega (arith, so_far.many, length-append so_far.more (r ∷ []));
  is = is ∙ (ap (λ (x : Held). record x { own = x.own ++ r ∷ [] }) so_far.is ∙ ap (λ (l : List Report). record h { own = l }) (append_assoc h.own so_far.more (r ∷ [])));
}

pub reports_none : (h : Held) → Reports 0 h h
reports_none h = record { more = []; many = refl; is = ap (λ (l : List Report). record h { own = l }) (sym (append-nil h.own)) }
