-- What a tree comes to, by what is answered of its readings.
use Rattle.std.specs.Prelude.{Ok, Err, Result, IfOk, IfErr, Option, Some, None}
use Rattle.std.proofs.Common.{◌≡◌, ◌∙◌, refl, sym, ap, subst, ℕ, List, []}
use Rattle.core_unit.specs.declared.tables.FunctionInfo.{FunctionInfo}
use Rattle.core_unit.specs.declared.tables.UnitParts.{UnitParts}
use Rattle.core_unit.specs.declared.units.Which.{Which}
use Rattle.c_tree.specs.declared.statements.Tree.{Tree}
use Rattle.eff_types.specs.declared.levels.Effects.{Effects}
use Rattle.type_rules.specs.Reading.{Read, Good, Bad, and_then}
use Rattle.type_rules.specs.Seen.{Seen}
use Rattle.type_rules.specs.Units.{Outcome, IsTyped, Breaks, Passes, outcome, typed, outcome_of, externals, effects_of_all, exceeded, parts_of, with_whole, without_sites}
use Rattle.type_rules.specs.declared.notes.TypeWarning.{TypeWarning}
use Rattle.type_units.proofs.CallSites.{calls_are_sites}
use Rattle.type_units.specs.Answers.{Answers, AreInOrder, AreTyped, Fills, Reads, refusal_of}
use Rattle.type_units.specs.Ending.{last_tables, parts_with}
use Rattle.type_units.specs.Reserved.{known, opened}
use Rattle.type_units.specs.declared.ending.LastTables.{LastTables}
use Rattle.type_units.specs.declared.ending.TypedParts.{TypedParts}
use Rattle.type_units.specs.declared.refusal.TypeRefusal.{TypeRefusal}
use Rattle.type_units.specs.declared.refusal.TypeRefusal.TheVariants as refusal
use Rattle.typing_state.specs.declared.stop.Stop.{Stop}
use Rattle.typing_state.specs.declared.stop.Stop.TheVariants as stop

-- each function with its effects in the whole unit
abbrev pub settled : Seen → Seen
settled s = record s { functions = with_whole s.whole 0 s.functions }

settled_parts : (s : Seen) → parts_with (settled s) (last_tables (settled s)) ≡ parts_of s
unfolding parts_of last_tables parts_with
settled_parts s = ap (λ sites. record (without_sites s) { sites = sites }) (sym (calls_are_sites (without_sites s)))

pub parts_are : {E : Type 0} (s t : Seen) (answer : Result UnitParts E) → t ≡ settled s → IfOk answer (λ parts. parts ≡ parts_with t (last_tables t)) →
    IfOk answer (λ parts. parts ≡ parts_of s)
parts_are s t (Ok parts) is filled = filled ∙ (ap (λ u. parts_with u (last_tables u)) is ∙ settled_parts s)
parts_are s t (Err error) is filled = filled

-- with the tables that are made last
pub filled : (s : Seen) (last : LastTables) (parts : UnitParts) → last ≡ last_tables s →
    parts ≡ record {
      functions = s.functions;
      definitions = s.definitions;
      sites = last.sites;
      variables = s.variables;
      structures = s.structures;
      statics = s.statics;
      thread_locals = s.thread_locals;
      static_words = last.static_words;
      thread_words = last.thread_words;
    } → parts ≡ parts_with s (last_tables s)
unfolding parts_with
filled s last parts made is = is ∙ ap (parts_with s) made

pub fills : (s : Seen) (noted warnings : List TypeWarning) (parts : UnitParts) (typed : TypedParts) → noted ≡ s.warnings → AreInOrder noted warnings → parts ≡ parts_of s →
    typed ≡ record { parts = parts; warnings = warnings } → Fills s typed
fills s noted warnings parts typed is order are made =
    subst (λ t. Fills s t) (sym made) (record { parts = are; warnings = subst (λ ws. AreInOrder ws warnings) is order })

pub passes : (s : Seen) (limit : Which) → Some limit ≡ exceeded s → outcome_of (Good tt s) ≡ Passes limit
passes s limit e = rw (sym e) refl

inside : (s : Seen) → None ≡ exceeded s → outcome_of (Good tt s) ≡ IsTyped (parts_of s) s.warnings
inside s e = rw (sym e) refl

are_typed : (s : Seen) (typed : TypedParts) → None ≡ exceeded s → Fills s typed → AreTyped (outcome_of (Good tt s)) typed
are_typed s typed e fills = record {
  noted = s.warnings;
  parts = inside s e ∙ ap (λ p. IsTyped p s.warnings) (sym fills.parts);
  warnings = fills.warnings;
}

pub answers : (s : Seen) (answer : Result TypedParts TypeRefusal) → None ≡ exceeded s → IfOk answer (λ typed. Fills s typed) →
    IfErr answer (λ r. r ≡ refusal.NoMemory) → Answers (outcome_of (Good tt s)) answer
answers s (Ok typed) e value memory = are_typed s typed e value
answers s (Err r) e value memory = subst (λ x. Answers (outcome_of (Good tt s)) (Err x)) (sym memory) tt

-- A reading that stops.
pub stops : (read : Read (Unit {0})) (why : Stop) (r : TypeRefusal) → Reads read (Err why) → r ≡ refusal_of why → Answers (outcome_of read) (Err r)
stops read why r reads is = subst (λ x. Answers (outcome_of read) (Err x)) (sym is) (of why reads)
  where
    of : (why : Stop) → Reads read (Err why) → Answers (outcome_of read) (Err (refusal_of why))
    of (stop.Fault number place) e = ap outcome_of e
    of stop.NoMemory e = tt

-- One that goes on.
pub goes_on : (read : Read (Unit {0})) (s : Seen) (answer : Result TypedParts TypeRefusal) → read ≡ Good tt s → Answers (outcome_of (Good tt s)) answer →
    Answers (outcome_of read) answer
goes_on read s answer is given = subst (λ r. Answers (outcome_of r) answer) (sym is) given

-- Both readings of a tree.
outcome_is : (source marks : List ℕ) (tree : Tree) →
    outcome source marks tree
    ≡ outcome_of (and_then (externals tree.externals (opened source marks [])) (λ _ s. externals tree.externals (opened source marks (effects_of_all s.functions))))
unfolding outcome typed opened known
outcome_is source marks tree = refl

then_again : (first : Read (Unit {0})) (again : Seen → Read (Unit {0})) (s : Seen) → first ≡ Good tt s → outcome_of (and_then first (λ _ t. again t)) ≡ outcome_of (again s)
unfolding and_then
then_again first again s is = ap (λ r. outcome_of (and_then r (λ _ t. again t))) is

then_stops : (first : Read (Unit {0})) (again : Seen → Read (Unit {0})) (why : Stop) → Reads first (Err why) →
    Reads (and_then first (λ _ t. again t)) (Err why)
unfolding and_then
then_stops first again (stop.Fault number place) is = ap (λ r. and_then r (λ _ t. again t)) is
then_stops first again stop.NoMemory is = tt

pub reads_again : (source marks : List ℕ) (tree : Tree) (s : Seen) (answer : Result TypedParts TypeRefusal) →
    externals tree.externals (opened source marks []) ≡ Good tt s →
    Answers (outcome_of (externals tree.externals (opened source marks (effects_of_all s.functions)))) answer → Answers (outcome source marks tree) answer
reads_again source marks tree s answer is given =
    subst (λ o. Answers o answer)
    (sym (outcome_is source marks tree
    ∙ then_again (externals tree.externals (opened source marks [])) (λ t. externals tree.externals (opened source marks (effects_of_all t.functions))) s is))
    given

pub stops_first : (source marks : List ℕ) (tree : Tree) (why : Stop) (r : TypeRefusal) → Reads (externals tree.externals (opened source marks [])) (Err why) →
    r ≡ refusal_of why → Answers (outcome source marks tree) (Err r)
stops_first source marks tree why r reads is =
    subst (λ o. Answers o (Err r)) (sym (outcome_is source marks tree))
    (stops (and_then (externals tree.externals (opened source marks [])) (λ _ s. externals tree.externals (opened source marks (effects_of_all s.functions)))) why r
    (then_stops (externals tree.externals (opened source marks [])) (λ t. externals tree.externals (opened source marks (effects_of_all t.functions))) why reads) is)

-- The effects that the second reading is given.
pub with_effects : (source marks : List ℕ) (tree : Tree) (whole items : List Effects) (noted functions : List FunctionInfo) (answer : Result TypedParts TypeRefusal) →
    whole ≡ items → items ≡ effects_of_all noted → noted ≡ functions → Answers (outcome_of (externals tree.externals (opened source marks whole))) answer →
    Answers (outcome_of (externals tree.externals (opened source marks (effects_of_all functions)))) answer
with_effects source marks tree whole items noted functions answer a b c given =
    subst (λ ws. Answers (outcome_of (externals tree.externals (opened source marks ws))) answer) (a ∙ (b ∙ ap effects_of_all c)) given
