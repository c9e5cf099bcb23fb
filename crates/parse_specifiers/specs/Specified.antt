-- Specifiers one by one: what reads one of them, or finds their end.
use Rattle.std.specs.Prelude.{ℕ, max, Bool, true, false, cond, not, ◌&&◌, List, ◌++◌, Option, Some, None, is_none}
use Rattle.grammar.specs.Parts.{Return, Take, Call, Either}
use Rattle.grammar.specs.Parser.{Outcome, Got, Bad, after, deepen}
use Rattle.c_tree.specs.declared.words.Attr.{Attr}
use Rattle.c_tree.specs.declared.expressions.Spec.{Spec}
use Rattle.c_tree.specs.declared.expressions.Spec.TheVariants as spec
use Rattle.c_grammar.specs.declared.terminal.Terminal.TheVariants as k
use Rattle.c_grammar.specs.Lexemes.{Lexeme, is, place, span}
use Rattle.c_grammar.specs.declared.state.SpecifierContext.{SpecifierContext}
use Rattle.c_grammar.specs.Rules.{Scope, SpecsState, SpecsRead, Members, Enumerators}
use Rattle.c_grammar.specs.Expressions.{Reading, word}
use Rattle.c_grammar.specs.Specifiers.{is_spec_word, spec_of, after_terminal, after_type, is_barred, is_abstract, is_whole, opens_definition}
use Rattle.parse_input.specs.Input.{head, behind, sees}
use Rattle.parse_input.specs.Reads.{named, reads}
use Rattle.parse_specifiers.specs.Parts.{gnu_attribute, bracket_attribute}
use Rattle.parse_specifiers.specs.declared.specifiers.Tagged.{Tagged}
use Rattle.parse_specifiers.specs.declared.specifiers.Tagged.TheVariants.{Alone, Defined}
use Rattle.parse_specifiers.specs.declared.specifiers.Next.{Next}
use Rattle.parse_specifiers.specs.declared.specifiers.Next.TheVariants.{More, End}

-- a tag, and whether a definition begins behind it
abbrev pub tagged : SpecifierContext → Reading Tagged
tagged context =
    Either (word k.Name (λ tag. Either (Take (opens_definition context) (λ o. Return (Defined (Some (span tag))))) (Return (Alone (span tag)))))
    (Take (opens_definition context) (λ o. Return (Defined None)))

unfoldable pub tagged_read : SpecifierContext → List Lexeme → Outcome Lexeme Tagged
tagged_read context ts = reads (named 0) (tagged context) ts

-- a structure behind its word
abbrev pub structure_of : Scope → ℕ → Tagged → Reading Spec
structure_of s p (Alone tag) = Return (spec.StructName p tag)
structure_of s p (Defined tag) = Call (Members s) (λ lines. Return (spec.Struct p tag lines))

unfoldable pub structure_read : ℕ → SpecifierContext → Scope → ℕ → List Lexeme → Outcome Lexeme Spec
structure_read room context s p ts = after (λ t d left. deepen d (reads (named room) (structure_of s p t) left)) (tagged_read context ts)

-- an enumeration behind its word
abbrev pub enumeration_of : Scope → ℕ → Tagged → Reading Spec
enumeration_of s p (Alone tag) = Return (spec.EnumName p tag)
enumeration_of s p (Defined tag) = Call (Enumerators s) (λ lines. Return (spec.Enum p tag lines))

unfoldable pub enumeration_read : ℕ → SpecifierContext → Scope → ℕ → List Lexeme → Outcome Lexeme Spec
enumeration_read room context s p ts = after (λ t d left. deepen d (reads (named room) (enumeration_of s p t) left)) (tagged_read context ts)

-- one specifier more, with what it allows behind it
abbrev pub goes : SpecsState → Outcome Lexeme Spec → Outcome Lexeme Next
goes state (Got x d left) = Got (More x state) d left
goes state (Bad deep left) = Bad deep left

abbrev pub attributed : Outcome Lexeme Attr → Outcome Lexeme Spec
attributed (Got a d left) = Got (spec.Attribute a) d left
attributed (Bad deep left) = Bad deep left

unfoldable pub word_next : SpecsState → Lexeme → Next
word_next state t = More (spec_of t.terminal t) (after_terminal state t.terminal)

-- the end of the specifiers, if they may end
abbrev pub ended : Bool → Option ℕ → List Lexeme → Outcome Lexeme Next
ended true bracket ts = Got (End bracket) 0 ts
ended false bracket ts = Bad false ts

-- behind a `[`
unfoldable pub bracket_read : ℕ → Bool → SpecsState → ℕ → List Lexeme → Outcome Lexeme Next
bracket_read room ends state p ts =
    cond (sees (is k.OpenBracket) ts) (goes state (attributed (reads (named room) (bracket_attribute p) (behind ts)))) (ended ends (Some p) ts)

unfoldable pub next_read : ℕ → SpecifierContext → Scope → SpecsState → List Lexeme → Outcome Lexeme Next
next_read room context s state ts =
    cond (sees (is_spec_word context s state) ts) (Got (word_next state (head ts)) 0 (behind ts))
    (cond (sees (λ t. is k.Struct t && is_none state.type_specifiers) ts) (goes (after_type state) (structure_read room context s (place (head ts)) (behind ts)))
    (cond (sees (λ t. is k.Enum t && is_none state.type_specifiers) ts) (goes (after_type state) (enumeration_read room context s (place (head ts)) (behind ts)))
    (cond (sees (is k.Attribute) ts) (goes state (attributed (reads (named room) (gnu_attribute (place (head ts))) (behind ts))))
    (cond (sees (λ t. is k.OpenBracket t && not (is_barred context)) ts) (bracket_read room (is_abstract context && is_whole context state) state (place (head ts)) (behind ts))
    (ended (is_whole context state) None ts)))))

-- these specifiers, of this depth, in front of those that are read here
abbrev pub behind_specs : List Spec → ℕ → Outcome Lexeme SpecsRead → Outcome Lexeme SpecsRead
behind_specs specs depth (Got more deeper left) = Got (record { specs = specs ++ more.specs; bracket = more.bracket }) (max depth deeper) left
behind_specs specs depth (Bad deep left) = Bad deep left
