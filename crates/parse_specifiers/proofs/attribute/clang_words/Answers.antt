use Rattle.c_grammar.specs.declared.terminal.Terminal.TheVariants as k
use Rattle.c_grammar.specs.Lexemes.{is}
use Rattle.parse_specifiers.specs.Parts.{clang_word}
use Rattle.parse_input.proofs.Then.{falls}
use Rattle.parse_specifiers.proofs.attribute.clang_words.Goals as goal

pub each-smaller : goal.each-smaller
each-smaller c =
    falls c.args.room (is k.Comma) clang_word c.in_ok-word.word.value c.in_ok-word.word.depth c.each.input c.clang_word.new.input c.take-comma.new.self
    c.in_ok-word.ensures.reads (cc) c.take-comma.ensures.rest
