use Rattle.std.proofs.Common.{ap, ◌∙◌, arith}
use Rattle.std.proofs.lemmas.Result.{err_from_is_err_and}
use Rattle.ledger.specs.Ledger.{AtBench, NoSpot, not_floored}
use Rattle.card.proofs.Notes.{floor_next, floor_refused}
use Rattle.card.proofs.cards.floors.Bench+C.set_floor.Goals as goal

pub returns-in_err-lend-clause-continues : goal.returns-in_err-lend-clause-continues
returns-in_err-lend-clause-continues g c =
    let p = err_from_is_err_and c.from_residual.result c.from_residual.ensures.1 in
    let none = c.in_err-lend.ensures.found in
    rw (p.1, p.2, none.told) (λ made past l at shows.
    (l, AtBench.next past l _ _ _ at (not_floored l c.args.page c.args.cell c.args.level _ (NoSpot.no_page (omega (arith, none.past, shows.count)))), shows))

pub returns-clause-continues : goal.returns-clause-continues
returns-clause-continues g c =
    floor_next g.C.Code.meaning g.met.C.Code.lawful _ _ c.in_ok-lend.ensures.found c.floor.new.self c.floor.ensures.taken c.args.cell c.args.level (c.size-size.ensures ∙ ap (λ m. m.size) c.alphabet.ensures)
    c.floor.result c.floor.ensures.cells

pub returns-clause-refused : goal.returns-clause-refused
returns-clause-refused g c = floor_refused c.in_ok-lend.ensures.found c.floor.new.self c.args.cell c.args.level c.size-size.result c.floor.result c.floor.ensures.cells
