-- What is written so far.
use Rattle.std.proofs.Common.{◌≡◌, ◌++◌, replicate}
use Rattle.c_parse.proofs.number.with_new_name.Given as goal

abbrev pub invariant-name : goal.invariant-name
invariant-name l = l.longer ≡ l.source ++ replicate l.counter 97
