use Rattle.std.proofs.Common.{arith}
use Rattle.std.proofs.lemmas.Result.{err_from_is_err_and}
use Rattle.ledger.specs.Ledger as ledger
use Rattle.card.proofs.Questions.{fetched}
use Rattle.card.proofs.cards.reads.Service+C.fetch.Goals as goal

pub returns-in_err-find-clause-fetches : goal.returns-in_err-find-clause-fetches
returns-in_err-find-clause-fetches g c =
    let p = err_from_is_err_and c.from_residual.result c.from_residual.ensures.1 in
    let none = c.in_err-find.ensures in
    rw (p.1, p.2, none.told) (λ made bench past l at shows. ledger.Unreadable.no_page (omega (arith, none.past, shows.count)))

pub returns-clause-fetches : goal.returns-clause-fetches
returns-clause-fetches g c = λ made bench past l at shows.
    fetched g.C.Code.meaning g.met.C.Code.lawful _ _ c.in_ok-find.ensures made bench past l at shows c.args.message.now c.fetch.result c.fetch.new.message c.requires c.fetch.ensures
