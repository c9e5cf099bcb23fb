-- The rungs from a source to its unit: each is settled by what was found.
use Rattle.std.proofs.Common.{◌≡◌, ℕ, ◌+◌, ◌<◌, ◌≤◌, List, [], length, Option, Some, None, refl, ap, ap₂, subst, sym, ◌∙◌, arith, replicate}
use Rattle.std.proofs.lemmas.List.{length-replicate}
use Rattle.c_text.specs.declared.Token.{Token}
use Rattle.c_text.specs.Place.{LineColumn, line_column}
use Rattle.c_text.specs.Spelling.{IsSpelled, IsFirstFault}
use Rattle.c_tree.specs.declared.statements.Tree.{Tree}
use Rattle.c_parse.specs.Parsed.{IsParsed, IsRefusedAt}
use Rattle.core_unit.specs.declared.tables.UnitParts.{UnitParts}
use Rattle.core_unit.specs.declared.units.Which.{Which}
use Rattle.type_rules.specs.Units.{IsTyped, Breaks, Passes, outcome}
use Rattle.type_rules.specs.declared.notes.TypeWarning.{TypeWarning}
use Rattle.type_units.specs.Answers.{AreInOrder}
use Rattle.rt_base.specs.Outside.{FilesState, IsContents, IsLongerThan}
use Rattle.rtsan_core.specs.declared.reading.Refusal.{Refusal}
use Rattle.rtsan_core.specs.declared.reading.Refusal.TheVariants.{ReadFault, TooLong, Misspelled as RefusedMisspelled, Unread as RefusedUnread, Untyped as RefusedUntyped, TooLarge as RefusedTooLarge, NoMemory}
use Rattle.rtsan_core.specs.Causes.{SourceTooLong, Misspelled, Unread, Untyped, UnitTooLarge}
use Rattle.rtsan_core.specs.Rungs.{Rung, Stops, GoesOn}
use Rattle.rtsan_core.specs.declared.reading.Reading.{Reading}
use Rattle.rtsan_core.specs.Ladder.{IsShort, IsSpelling, IsGrammar, IsTyping, IsTypingEnd, SourceLadder}
use Rattle.rtsan_core.specs.Found.{Is, itself, AreTheTokens, IsTheTree, IsReadAs, IsRefusedFor, IsFileRefused}
use Rattle.rtsan_core.proofs.Climbing.{climb, climb_stop}
use Rattle.rtsan_core.proofs.OneOrder.{one_order}
use Rattle.c_text.specs.declared.limits.TheConstants.{SOURCE_LIMIT}

abbrev place_by : ℕ → ℕ → LineColumn
place_by line column = record { line = line; column = column }

-- a place by its line and its column
placed : (source : List ℕ) (place line column : ℕ) → line ≡ (line_column source place).line → column ≡ (line_column source place).column → line_column source place ≡ place_by line column
placed source place line column e f = sym (ap₂ place_by e f)

short_only : (source : List ℕ) → length source ≤ SOURCE_LIMIT → (other : Rung (Unit {0})) → IsShort source other → other ≡ GoesOn tt
short_only source short (Stops c) h = let long : SOURCE_LIMIT < length source = h.0 in absurd (omega (arith, long, short))
short_only source short (GoesOn u) h = refl

is_short : (source : List ℕ) → length source ≤ SOURCE_LIMIT → Is (IsShort source) (GoesOn tt)
is_short source short = record { is = short; only = short_only source short }

long_only : (source : List ℕ) → SOURCE_LIMIT < length source → (other : Rung (Unit {0})) → IsShort source other → other ≡ Stops SourceTooLong
long_only source long (Stops c) h = ap Stops h.1
long_only source long (GoesOn u) h = let short : length source ≤ SOURCE_LIMIT = h in absurd (omega (arith, long, short))

pub source_long : (file source : List ℕ) → SOURCE_LIMIT < length source → Is (SourceLadder file source) (Stops SourceTooLong)
source_long file source long =
    climb_stop itself (IsShort source) _ SourceTooLong (record { is = (long, refl); only = long_only source long })

spelled_only : (file source : List ℕ) (tokens : List Token) → ((others : List Token) → IsSpelled source others → others ≡ tokens) → ((number place : ℕ) → IsFirstFault source number place → ⊥) → (other : Rung (List Token)) → IsSpelling file source other → other ≡ GoesOn tokens
spelled_only file source tokens only none (Stops c) h = absurd (none h.0 h.1 h.2)
spelled_only file source tokens only none (GoesOn others) h = ap GoesOn (only others h)

pub is_spelled : (file source : List ℕ) (tokens : List Token) → IsSpelled source tokens → ((others : List Token) → IsSpelled source others → others ≡ tokens) → ((number place : ℕ) → IsFirstFault source number place → ⊥) → Is (IsSpelling file source) (GoesOn tokens)
is_spelled file source tokens spelled only none = record { is = spelled; only = spelled_only file source tokens only none }

misspelled_only : (file source : List ℕ) (number place : ℕ) → ((other spot : ℕ) → IsFirstFault source other spot → (other ≡ number) × (spot ≡ place)) → ((tokens : List Token) → IsSpelled source tokens → ⊥) → (other : Rung (List Token)) → IsSpelling file source other → other ≡ Stops (Misspelled file (line_column source place) number)
misspelled_only file source number place only unspelled (Stops c) h =
    let o = only h.0 h.1 h.2 in
    ap Stops (h.3 ∙ ap (λ k. Misspelled file (line_column source k) h.0) o.1 ∙ ap (λ k. Misspelled file (line_column source place) k) o.0)
misspelled_only file source number place only unspelled (GoesOn tokens) h = absurd (unspelled tokens h)

-- a source whose spelling has this first fault
pub source_misspelled : (file source : List ℕ) (number place line column : ℕ) → length source ≤ SOURCE_LIMIT → line ≡ (line_column source place).line → column ≡ (line_column source place).column → IsFirstFault source number place → ((other spot : ℕ) → IsFirstFault source other spot → (other ≡ number) × (spot ≡ place)) → ((tokens : List Token) → IsSpelled source tokens → ⊥) → Is (SourceLadder file source) (Stops (Misspelled file (place_by line column) number))
source_misspelled file source number place line column short e f first only unspelled =
    subst (λ p. Is (SourceLadder file source) (Stops (Misspelled file p number))) (placed source place line column e f)
    (climb itself (IsShort source) _ tt _ (is_short source short)
    (climb_stop itself (IsSpelling file source) _ (Misspelled file (line_column source place) number)
    (record { is = (number, place, first, refl); only = misspelled_only file source number place only unspelled })))

parsed_only : (file source : List ℕ) (tokens : List Token) (tree : Tree) → ((other : Tree) → IsParsed source tokens other → other ≡ tree) → ((number index place : ℕ) → IsRefusedAt source tokens number index place → ⊥) → (other : Rung Tree) → IsGrammar file source tokens other → other ≡ GoesOn tree
parsed_only file source tokens tree only none (Stops c) h = absurd (none h.0 h.1 h.2 h.3)
parsed_only file source tokens tree only none (GoesOn other) h = ap GoesOn (only other h)

pub is_parsed : (file source : List ℕ) (tokens : List Token) (tree : Tree) → IsParsed source tokens tree → ((other : Tree) → IsParsed source tokens other → other ≡ tree) → ((number index place : ℕ) → IsRefusedAt source tokens number index place → ⊥) → Is (IsGrammar file source tokens) (GoesOn tree)
is_parsed file source tokens tree parsed only none = record { is = parsed; only = parsed_only file source tokens tree only none }

unread_only : (file source : List ℕ) (tokens : List Token) (number index place : ℕ) → ((other at spot : ℕ) → IsRefusedAt source tokens other at spot → (other ≡ number) × (at ≡ index) × (spot ≡ place)) → ((tree : Tree) → IsParsed source tokens tree → ⊥) → (other : Rung Tree) → IsGrammar file source tokens other → other ≡ Stops (Unread file (line_column source place) number)
unread_only file source tokens number index place only unparsed (Stops c) h =
    let o = only h.0 h.1 h.2 h.3 in
    ap Stops (h.4 ∙ ap (λ k. Unread file (line_column source k) h.0) o.2 ∙ ap (λ k. Unread file (line_column source place) k) o.0)
unread_only file source tokens number index place only unparsed (GoesOn tree) h = absurd (unparsed tree h)

-- a source of these tokens, of which the grammar refuses one
pub source_unread : (file source : List ℕ) (tokens : List Token) (number index place line column : ℕ) → length source ≤ SOURCE_LIMIT → AreTheTokens source tokens → line ≡ (line_column source place).line → column ≡ (line_column source place).column → IsRefusedAt source tokens number index place → ((other at spot : ℕ) → IsRefusedAt source tokens other at spot → (other ≡ number) × (at ≡ index) × (spot ≡ place)) → ((tree : Tree) → IsParsed source tokens tree → ⊥) → Is (SourceLadder file source) (Stops (Unread file (place_by line column) number))
source_unread file source tokens number index place line column short read e f refused only unparsed =
    subst (λ p. Is (SourceLadder file source) (Stops (Unread file p number))) (placed source place line column e f)
    (climb itself (IsShort source) _ tt _ (is_short source short)
    (climb itself (IsSpelling file source) _ tokens _ (read.spelled file)
    (climb_stop itself (IsGrammar file source tokens) _ (Unread file (line_column source place) number)
    (record { is = (number, index, place, refused, refl); only = unread_only file source tokens number index place only unparsed }))))

-- what the typing noted has one order
typed_only : (file source : List ℕ) (tokens : List Token) (unit : UnitParts) (noted warnings : List TypeWarning) → AreInOrder noted warnings → (other : Rung Reading) → IsTypingEnd file source tokens (IsTyped unit noted) other
    → other ≡ GoesOn (record { tokens = tokens; unit = unit; warnings = warnings })
typed_only file source tokens unit noted warnings ordered other h =
    h.2 ∙ ap (λ ws. GoesOn (record { tokens = tokens; unit = unit; warnings = ws })) (one_order noted h.0 warnings h.1 ordered)

-- a tree that is typed
is_typed : (file source : List ℕ) (tokens : List Token) (tree : Tree) (unit : UnitParts) (noted warnings : List TypeWarning) → outcome source [] tree ≡ IsTyped unit noted → AreInOrder noted warnings
    → Is (IsTyping file source tokens tree) (GoesOn (record { tokens = tokens; unit = unit; warnings = warnings }))
is_typed file source tokens tree unit noted warnings e ordered = record {
  is = subst (λ o. IsTypingEnd file source tokens o (GoesOn (record { tokens = tokens; unit = unit; warnings = warnings }))) (sym e) (warnings, ordered, refl);
  only = λ other h. typed_only file source tokens unit noted warnings ordered other (subst (λ o. IsTypingEnd file source tokens o other) e h);
}

-- a tree that breaks a rule, or passes a limit
is_untyped : (file source : List ℕ) (tokens : List Token) (tree : Tree) (number place : ℕ) → outcome source [] tree ≡ Breaks number place → Is (IsTyping file source tokens tree) (Stops (Untyped file (line_column source place) number))
is_untyped file source tokens tree number place e = record {
  is = subst (λ o. IsTypingEnd file source tokens o (Stops (Untyped file (line_column source place) number))) (sym e) refl;
  only = λ other h. subst (λ o. IsTypingEnd file source tokens o other) e h;
}

is_large : (file source : List ℕ) (tokens : List Token) (tree : Tree) (limit : Which) → outcome source [] tree ≡ Passes limit → Is (IsTyping file source tokens tree) (Stops (UnitTooLarge limit))
is_large file source tokens tree limit e = record {
  is = subst (λ o. IsTypingEnd file source tokens o (Stops (UnitTooLarge limit))) (sym e) refl;
  only = λ other h. subst (λ o. IsTypingEnd file source tokens o other) e h;
}

-- a source whose tree is typed
pub source_typed : (source : List ℕ) (tokens : List Token) (tree : Tree) (unit : UnitParts) (noted warnings : List TypeWarning) → length source ≤ SOURCE_LIMIT → AreTheTokens source tokens → IsTheTree source tokens tree → outcome source [] tree ≡ IsTyped unit noted → AreInOrder noted warnings
    → IsReadAs source (record { tokens = tokens; unit = unit; warnings = warnings })
source_typed source tokens tree unit noted warnings short read parsed e ordered = record {
  reads = λ file.
      climb itself (IsShort source) _ tt _ (is_short source short)
      (climb itself (IsSpelling file source) _ tokens _ (read.spelled file)
      (climb itself (IsGrammar file source tokens) _ tree _ (parsed.parsed file) (is_typed file source tokens tree unit noted warnings e ordered)));
  within = read.within;
  few = read.few;
  ordered = read.ordered;
}

-- a source that is read, of which this rule of typing is the first that is broken
pub source_untyped : (file source : List ℕ) (tokens : List Token) (tree : Tree) (number place line column : ℕ) → length source ≤ SOURCE_LIMIT → AreTheTokens source tokens → IsTheTree source tokens tree → line ≡ (line_column source place).line → column ≡ (line_column source place).column → outcome source [] tree ≡ Breaks number place → Is (SourceLadder file source) (Stops (Untyped file (place_by line column) number))
source_untyped file source tokens tree number place line column short read parsed e f breaks =
    subst (λ p. Is (SourceLadder file source) (Stops (Untyped file p number))) (placed source place line column e f)
    (climb itself (IsShort source) _ tt _ (is_short source short)
    (climb itself (IsSpelling file source) _ tokens _ (read.spelled file)
    (climb itself (IsGrammar file source tokens) _ tree _ (parsed.parsed file) (is_untyped file source tokens tree number place breaks))))

-- a source that is read and typed, whose unit passes this limit
pub source_large : (file source : List ℕ) (tokens : List Token) (tree : Tree) (limit : Which) → length source ≤ SOURCE_LIMIT → AreTheTokens source tokens → IsTheTree source tokens tree → outcome source [] tree ≡ Passes limit → Is (SourceLadder file source) (Stops (UnitTooLarge limit))
source_large file source tokens tree limit short read parsed passes =
    climb itself (IsShort source) _ tt _ (is_short source short)
    (climb itself (IsSpelling file source) _ tokens _ (read.spelled file)
    (climb itself (IsGrammar file source tokens) _ tree _ (parsed.parsed file) (is_large file source tokens tree limit passes)))

-- contents that are told to be longer than the limit are, and else some are
pub some_longer : (contents : Option (List ℕ)) (limit : ℕ) → IsLongerThan contents limit → (source : List ℕ) × IsContents contents source × (limit < length source)
some_longer None limit h =
    let long : List ℕ = replicate (limit + 1) 0 in
    let n : length long ≡ limit + 1 = length-replicate (limit + 1) 0 in
    let h : limit < length long = omega (arith, n) in
    (long, tt, h)
some_longer (Some source) limit h = (source, refl, h)

-- a file is refused as its contents are
pub file_refused : (before after : FilesState) (file source : List ℕ) (refusal : Refusal) → IsContents (before.contents file) source → IsRefusedFor source refusal → IsFileRefused before after file refusal
file_refused before after file source ReadFault contents h = absurd h
file_refused before after file source NoMemory contents h = tt
file_refused before after file source TooLong contents h = (source, contents, h file)
file_refused before after file source (RefusedMisspelled number line column) contents h = (source, contents, h file)
file_refused before after file source (RefusedUnread number line column) contents h = (source, contents, h file)
file_refused before after file source (RefusedUntyped number line column) contents h = (source, contents, h file)
file_refused before after file source (RefusedTooLarge limit) contents h = (source, contents, h file)
