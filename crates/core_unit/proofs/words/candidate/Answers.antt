-- A word is told by its kind, its level and what it carries.
use Rattle.std.proofs.Common.{◌%◌, ◌^◌, ◌∙◌, ap, arith}
use Rattle.core_unit.specs.declared.words.Word.TheVariants.{FunctionPointer}
use Rattle.core_unit.proofs.Packing.{only, level_in, level_is, rest_is_freed}
use Rattle.core_unit.proofs.words.candidate.Goals as goal

pub returns-in-0 : goal.returns-in-0
returns-in-0 c = λ word p. only word c.args.raw 0 c.in-0.is p

pub returns-in-1 : goal.returns-in-1
returns-in-1 c = λ word p. only word c.args.raw 1 c.in-1.is p

pub returns-in-2 : goal.returns-in-2
returns-in-2 c = λ word p. only word c.args.raw 2 c.in-2.is p

pub returns-in-3 : goal.returns-in-3
returns-in-3 c = λ word p. only word c.args.raw 3 c.in-3.is p

pub returns-in-4 : goal.returns-in-4
returns-in-4 c = λ word p.
    ap (FunctionPointer (c.args.raw % 2 ^ 32)) (c.level_of.ensures (level_in word) (level_is word c.args.raw c.in-4.is p)) ∙ only word c.args.raw 4 c.in-4.is p

pub returns-in-5 : goal.returns-in-5
returns-in-5 c = λ word p. only word c.args.raw 5 c.in-5.is p

pub returns-in-6 : goal.returns-in-6
returns-in-6 c = λ word p. only word c.args.raw 6 c.in-6.is p

pub returns-in_default : goal.returns-in_default
returns-in_default c = λ word p. rest_is_freed word c.args.raw (omega (arith, c.in_default)) p
