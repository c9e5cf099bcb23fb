-- A declaration by where it stands.
use Rattle.std.proofs.Common.{◌≡◌, refl, true, false}
use Rattle.c_tree.specs.declared.declarations.Decl.{Decl}
use Rattle.type_declarations.specs.Declared.{name_declared}
use Rattle.type_recursion.proofs.Continued.{then_good, then_bad}
use Rattle.type_rules.specs.Declarations.{block_declaration, declaration, file_declaration}
use Rattle.type_rules.specs.Reading.{Good, and_then}
use Rattle.type_rules.specs.Seen.{Seen}

pub in_block : (d : Decl) (s : Seen) → block_declaration d s ≡ declaration (name_declared true) d s
unfolding block_declaration name_declared
in_block d s = refl

pub in_file : (d : Decl) (s : Seen) → file_declaration d s ≡ and_then (declaration (name_declared false) d s) (λ _ t. Good tt t)
unfolding file_declaration name_declared
in_file d s = refl

pub ruleset scope_rules = (then_good, then_bad, in_block, in_file)
