use Rattle.c_tree.specs.declared.words.AttrSpelling.TheVariants.{Gnu}
use Rattle.c_grammar.specs.declared.terminal.Terminal.TheVariants as k
use Rattle.c_grammar.specs.Lexemes.{is}
use Rattle.c_grammar.specs.Rules.{Effect}
use Rattle.parse_input.proofs.Then.{falls_rule}
use Rattle.parse_specifiers.proofs.attribute.gnu_words.Goals as goal

pub each-smaller : goal.each-smaller
each-smaller c =
    falls_rule c.args.room (is k.Comma) (Effect Gnu) c.in_ok-word.word.value c.in_ok-word.word.depth c.each.input c.effect.new.input c.take-comma.new.self
    c.in_ok-word.ensures.reads (cc) c.take-comma.ensures.rest
