-- The parts of a unit by the tables that are made last: the code's own words.
use Rattle.core_unit.specs.declared.tables.UnitParts.{UnitParts}
use Rattle.type_rules.specs.Seen.{Seen}
use Rattle.type_rules.specs.Units.{words_from}
use Rattle.type_units.specs.Sites.{all_sites}
use Rattle.type_units.specs.declared.ending.LastTables.{LastTables}

-- its call sites, and what the words of its objects hold at first
unfoldable pub last_tables : Seen → LastTables
last_tables s = record {
  sites = all_sites s.functions s.definitions;
  static_words = words_from 1 s.static_words s.static_values;
  thread_words = words_from 0 s.thread_words s.thread_values;
}

-- the parts with these tables, where the functions stand as they are
unfoldable pub parts_with : Seen → LastTables → UnitParts
parts_with s last = record {
  functions = s.functions;
  definitions = s.definitions;
  sites = last.sites;
  variables = s.variables;
  structures = s.structures;
  statics = s.statics;
  thread_locals = s.thread_locals;
  static_words = last.static_words;
  thread_words = last.thread_words;
}
