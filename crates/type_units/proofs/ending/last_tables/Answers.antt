-- Each table is made of what was seen.
use Rattle.std.proofs.Common.{◌≡◌, ◌∙◌, ap, ℕ, List}
use Rattle.core_unit.specs.declared.tables.FunctionInfo.{FunctionInfo}
use Rattle.core_unit.specs.declared.tables.SiteInfo.{SiteInfo}
use Rattle.type_rules.specs.Seen.{Seen}
use Rattle.type_rules.specs.Units.{words_from}
use Rattle.type_rules.specs.declared.notes.Initial.{Initial}
use Rattle.type_units.specs.Ending.{last_tables}
use Rattle.type_units.specs.Sites.{all_sites}
use Rattle.type_units.specs.declared.ending.LastTables.{LastTables}
use Rattle.type_units.proofs.ending.last_tables.Goals as goal

abbrev tables : List SiteInfo → List ℕ → List ℕ → LastTables
tables sites static_words thread_words = record { sites = sites; static_words = static_words; thread_words = thread_words }

sites_are : (s : Seen) (functions : List FunctionInfo) (definitions : List ℕ) (sites : List SiteInfo) → functions ≡ s.functions → definitions ≡ s.definitions →
    sites ≡ all_sites functions definitions → sites ≡ all_sites s.functions s.definitions
sites_are s functions definitions sites same order is = is ∙ (ap (λ fs. all_sites fs definitions) same ∙ ap (λ ds. all_sites s.functions ds) order)

words_are : (first n m : ℕ) (noted notes : List Initial) (words : List ℕ) → n ≡ m → noted ≡ notes → words ≡ words_from first n noted → words ≡ words_from first m notes
words_are first n m noted notes words many same is = is ∙ (ap (λ k. words_from first k noted) many ∙ ap (λ ns. words_from first m ns) same)

tables_are : (s : Seen) (sites : List SiteInfo) (static_words thread_words : List ℕ) → sites ≡ all_sites s.functions s.definitions →
    static_words ≡ words_from 1 s.static_words s.static_values → thread_words ≡ words_from 0 s.thread_words s.thread_values →
    tables sites static_words thread_words ≡ last_tables s
unfolding last_tables
tables_are s sites static_words thread_words a b c =
    ap (λ xs. tables xs static_words thread_words) a
    ∙ (ap (λ ws. tables (all_sites s.functions s.definitions) ws thread_words) b
    ∙ ap (λ ws. tables (all_sites s.functions s.definitions) (words_from 1 s.static_words s.static_values) ws) c)

pub returns : goal.returns
returns c =
    tables_are c.args.typing.now _ _ _ (sites_are c.args.typing.now _ _ _ c.functions.ensures c.definitions.ensures c.in_ok-sites.ensures)
    (words_are 1 _ _ _ _ _ c.static_words.ensures c.static_values.ensures c.in_ok-static_words.ensures)
    (words_are 0 _ _ _ _ _ c.thread_words.ensures c.thread_values.ensures c.in_ok-thread_words.ensures)
