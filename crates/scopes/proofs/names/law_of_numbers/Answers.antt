use Rattle.scopes.proofs.Numbers.{equal_numbers, number_kept, noted_stands}
use Rattle.scopes.proofs.names.law_of_numbers.Goals as goal

pub returns-clause-equal : goal.returns-clause-equal
returns-clause-equal c = equal_numbers

pub returns-clause-kept : goal.returns-clause-kept
returns-clause-kept c = number_kept

pub returns-clause-stands : goal.returns-clause-stands
returns-clause-stands c = noted_stands
