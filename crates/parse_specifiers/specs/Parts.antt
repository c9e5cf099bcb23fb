-- Parts of the rules of attributes and of enumerators that are read by functions of their own.
use Rattle.std.specs.Prelude.{ℕ, List, ◌++◌, Some, None, codes}
use Rattle.grammar.specs.Parts.{Return, Take, Call, Either}
use Rattle.grammar.specs.Parser.{Outcome, Got, Bad}
use Rattle.c_tree.specs.declared.words.Attr.{Attr}
use Rattle.c_tree.specs.declared.words.AttrWord.{AttrWord}
use Rattle.c_tree.specs.declared.words.AttrSpelling.TheVariants.{Brackets, Gnu}
use Rattle.c_tree.specs.declared.expressions.Enumerator.{Enumerator}
use Rattle.c_grammar.specs.declared.terminal.Terminal.TheVariants as k
use Rattle.c_grammar.specs.Lexemes.{Lexeme, span}
use Rattle.c_grammar.specs.Rules.{AttributesRead, Scope, Effect, ClangWords, Conditional}
use Rattle.c_grammar.specs.Expressions.{Reading, word}
use Rattle.c_grammar.specs.Specifiers.{attr, gnu_rest, is_word, is_ordinary_name}

-- one word of an attribute in brackets
abbrev pub clang_word : Reading AttrWord
clang_word = Take (is_word (codes "clang")) (λ t. word k.Colon (λ u. word k.Colon (λ v. Call (Effect Brackets) Return)))

-- an attribute, behind `__attribute__` and behind both brackets
abbrev pub gnu_attribute : ℕ → Reading Attr
gnu_attribute p = gnu_rest (λ words. Return (attr p Gnu words))

abbrev pub bracket_attribute : ℕ → Reading Attr
bracket_attribute p = Call ClangWords (λ words. Return (attr p Brackets words))

-- these attributes, in front of those that are read here
abbrev pub behind_attributes : List Attr → Outcome Lexeme AttributesRead → Outcome Lexeme AttributesRead
behind_attributes attributes (Got more depth left) = Got (record { attributes = attributes ++ more.attributes; bracket = more.bracket }) depth left
behind_attributes attributes (Bad deep left) = Bad deep left

-- an enumerator
abbrev pub enumerator : Scope → Reading Enumerator
enumerator s =
    Take is_ordinary_name (λ name. Either (word k.Equal (λ t. Call (Conditional s) (λ value. Return (record { name = span name; value = Some value }))))
    (Return (record { name = span name; value = None })))
