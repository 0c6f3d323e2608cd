use Rattle.std.proofs.Common.{refl}
use Rattle.ledger.specs.Ledger.{opened}
use Rattle.card.proofs.cards.makes.Bench+C.open.Goals as goal

pub returns : goal.returns
returns g c = record { pages = refl; opens = λ made past l at shows. (opened past l at, shows) }
