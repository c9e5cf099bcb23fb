-- One token decides in the small grammar, and the rest is the theorem's.
use Rattle.grammar.proofs.SumsFit.{sums_fits}
use Rattle.grammar.proofs.example.sums_are_parsed.Goals as goal

pub parser_is_exact-requires : goal.parser_is_exact-requires
parser_is_exact-requires c = sums_fits
