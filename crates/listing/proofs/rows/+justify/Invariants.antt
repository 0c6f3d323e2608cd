use Rattle.std.proofs.Common.{length}
use Rattle.listing.proofs.rows.+justify.Given as goal

abbrev pub decreases-justify : goal.decreases-justify
decreases-justify l = length l.columns.now
