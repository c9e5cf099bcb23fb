-- Spans stay true where the list of steps grows, for the crates above too.
use Rattle.std.proofs.Common.{◌≡◌, ℕ, ◌-◌, List, ◌++◌, drop, arith, ◌∙◌, length-append, length-drop}
use Rattle.std.proofs.lemmas.List.{drop-append-le, take-append-le}
use Rattle.chains.specs.declared.marks.Mark.{Mark}
use Rattle.chains.specs.declared.written.ChainStep.{ChainStep}
use Rattle.chains.specs.declared.written.Span.{Span}
use Rattle.chains.specs.Look.{look}
use Rattle.chains.specs.Written.{steps_in, HoldsShown, WrittenChains, Extends}

-- a span stays true where the list grows
pub HoldsShown-append : (look : ℕ → ℕ → Mark) (steps more : List ChainStep) (f : ℕ) (span : Span) → HoldsShown look steps f span → HoldsShown look (steps ++ more) f span
HoldsShown-append look steps more f span held = record {
  ordered = held.ordered;
  within = (let within = held.within in omega (arith, length-append steps more));
  spelled = (held.spelled.0, held.spelled.1, same ∙ held.spelled.2);
} where
  behind : drop span.from (steps ++ more) ≡ drop span.from steps ++ more
  behind = drop-append-le span.from steps more (let low = held.ordered in let within = held.within in omega arith)

  same : steps_in (steps ++ more) span ≡ steps_in steps span
  same = rw behind (take-append-le (span.to - span.from) (drop span.from steps) more (let within = held.within in omega (arith, length-drop span.from steps)))

-- what a call leaves keeps the spans that were given before it
pub HoldsShown-extends : (old new : WrittenChains) (f : ℕ) (span : Span) → Extends old new → HoldsShown (look old.rows) old.steps f span → HoldsShown (look new.rows) new.steps f span
HoldsShown-extends old new f span more held =
    rw (more.rows, more.steps.1) (HoldsShown-append (look old.rows) old.steps more.steps.0 f span held)
