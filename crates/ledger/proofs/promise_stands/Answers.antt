use Rattle.ledger.proofs.Stands.{promise}
use Rattle.ledger.proofs.promise_stands.Goals as goal

pub returns : goal.returns
returns c = promise
