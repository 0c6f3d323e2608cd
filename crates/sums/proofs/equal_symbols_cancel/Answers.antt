use Rattle.sums.proofs.Symbols.{equal_cancel}
use Rattle.sums.proofs.equal_symbols_cancel.Goals as goal

pub returns : goal.returns
returns c = equal_cancel
