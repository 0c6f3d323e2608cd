use Rattle.std.proofs.Common.{length}
use Rattle.listing.specs.Serving.{AtTheBench, ListedLines}
use Rattle.listing.specs.Telling.{to_come}
use Rattle.listing.proofs.bench.bench_lines.Given as goal

abbrev pub invariant-loop-line : goal.invariant-loop-line
invariant-loop-line g l = ListedLines (AtTheBench g.C.Code.meaning) (AtTheBench g.C.Code.meaning) l.initial.card l.initial.run l.card l.run

abbrev pub decreases-loop-line : goal.decreases-loop-line
decreases-loop-line g l = length (to_come l.run)
