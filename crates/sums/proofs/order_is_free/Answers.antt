use Rattle.sums.proofs.Symbols.{sum_of_reindex}
use Rattle.sums.proofs.order_is_free.Goals as goal

pub returns : goal.returns
returns c = sum_of_reindex
