use Rattle.std.proofs.Common.{◌∙◌, ap}
use Rattle.word_mem.specs.FirstPass.{PlainParts}
use Rattle.word_mem.proofs.OnePass.{keeps_makes, keeps_merge}
use Rattle.word_mem.proofs.plain.PlainWordsWords.split.Goals as goal

pub invariant_of-pass : goal.invariant_of-pass
invariant_of-pass c = rw c.makes.ensures (keeps_makes _ _ _ _ c.pass.invariant _ c.requires.spare.1)

pub returns-clause-belongs : goal.returns-clause-belongs
returns-clause-belongs c = record {
  opens = ap (λ (p : PlainParts). p.opening) c.pass.view_is ∙ c.requires.belongs.opens;
  tells = keeps_merge _ _ _ _ (invariant_of-pass c);
}
