use Rattle.std.proofs.lemmas.Bool.Decides.{Decides-eqb}
use Rattle.std.proofs.lemmas.Slice.Eq.{slice_eq-Decides}
use Rattle.std.proofs.lemmas.Result.{err_from_is_err_and}
use Rattle.ledger.specs.Ledger.{InService, not_compared, other_not_compared}
use Rattle.card.proofs.Questions.{compared_step}
use Rattle.card.proofs.cards.compares.Service+C.compare.Goals as goal

pub returns-in_err-fetch : goal.returns-in_err-fetch
returns-in_err-fetch g c =
    let p = err_from_is_err_and c.from_residual.result c.from_residual.ensures.1 in
    rw (p.1, p.2) (λ made bench past l at shows.
    (l, InService.next bench past l _ _ _ at (not_compared l c.args.one c.args.other _ (c.in_err-fetch.ensures.fetches made bench past l at shows)), shows))

pub returns-in_err-fetch-2 : goal.returns-in_err-fetch-2
returns-in_err-fetch-2 g c =
    let p = err_from_is_err_and c.from_residual-in_err-fetch-2.result c.from_residual-in_err-fetch-2.ensures.1 in
    rw (p.1, p.2) (λ made bench past l at shows.
    (l, InService.next bench past l _ _ _ at (other_not_compared l c.args.one c.args.other _ _ _ (c.in_ok-fetch.ensures.fetches made bench past l at shows) (c.in_err-fetch-2.ensures.fetches made bench past l at shows)), shows))

pub returns : goal.returns
returns g c = λ made bench past l at shows. (
  l,
  InService.next bench past l _ _ _ at
      (compared_step made l c.args.one c.args.other _ _ _ _ c.eq.result (c.in_ok-fetch.ensures.fetches made bench past l at shows) (c.in_ok-fetch-2.ensures.fetches made bench past l at shows) (slice_eq-Decides Decides-eqb _ _ _ c.eq.ensures)),
  shows,
)
