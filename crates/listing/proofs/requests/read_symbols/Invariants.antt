use Rattle.std.proofs.Common.{length}
use Rattle.listing.proofs.Symbols.{Sofar}
use Rattle.listing.proofs.requests.read_symbols.Given as goal

abbrev pub invariant-loop-value : goal.invariant-loop-value
invariant-loop-value l = Sofar l.columns l.rest l.symbols.items

abbrev pub decreases-loop-value : goal.decreases-loop-value
decreases-loop-value l = length l.rest
