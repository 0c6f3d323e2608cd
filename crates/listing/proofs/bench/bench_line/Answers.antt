use Rattle.std.proofs.lemmas.Result.{err_from_is_err_and}
use Rattle.listing.proofs.Benched.{refused_benched, floor_benched}
use Rattle.listing.proofs.bench.bench_line.Goals as goal

pub returns-in_err-floor : goal.returns-in_err-floor
returns-in_err-floor g c =
    let p = err_from_is_err_and c.from_residual.result c.from_residual.ensures.1 in
    rw (p.1, p.2) (refused_benched g.C.Code.meaning c.args.card.now c.args.line.now _ c.in_err-floor.ensures)

pub returns-in_err-set_floor : goal.returns-in_err-set_floor
returns-in_err-set_floor g c =
    let p = err_from_is_err_and c.from_residual-in_err-set_floor.result c.from_residual-in_err-set_floor.ensures.1 in
    rw (p.1, p.2) (floor_benched g.C.Code.meaning c.args.card.now c.set_floor.new.card c.args.line.now _ _ _ _ (rw c.in-Some.is at c.in_ok-floor.ensures) c.in_err-set_floor.ensures)

pub returns : goal.returns
returns g c = floor_benched g.C.Code.meaning c.args.card.now c.set_floor.new.card c.args.line.now _ _ _ _ (rw c.in-Some.is at c.in_ok-floor.ensures) c.in_ok-set_floor.ensures
