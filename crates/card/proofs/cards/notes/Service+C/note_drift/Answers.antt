use Rattle.std.proofs.Common.{ap, ◌∙◌, arith}
use Rattle.std.proofs.lemmas.Result.{err_from_is_err_and}
use Rattle.ledger.specs.Ledger.{InService, NoSpot, no_drift}
use Rattle.card.proofs.Notes.{drift_next, drift_refused}
use Rattle.card.proofs.cards.notes.Service+C.note_drift.Goals as goal

pub returns-in_err-lend-clause-continues : goal.returns-in_err-lend-clause-continues
returns-in_err-lend-clause-continues g c =
    let p = err_from_is_err_and c.from_residual.result c.from_residual.ensures.1 in
    let none = c.in_err-lend.ensures.found in
    rw (p.1, p.2, none.told) (λ made bench past l at shows.
    (l, InService.next bench past l _ _ _ at (no_drift l c.args.page c.args.cell c.args.level _ (NoSpot.no_page (omega (arith, none.past, shows.count)))), shows))

pub returns-clause-continues : goal.returns-clause-continues
returns-clause-continues g c =
    drift_next g.C.Code.meaning g.met.C.Code.lawful _ _ c.in_ok-lend.ensures.found c.drift.new.self c.drift.ensures.taken c.args.cell c.args.level (c.size-size.ensures ∙ ap (λ m. m.size) c.alphabet.ensures)
    c.drift.result c.drift.ensures.cells

pub returns-clause-refused : goal.returns-clause-refused
returns-clause-refused g c = drift_refused c.in_ok-lend.ensures.found c.drift.new.self c.args.cell c.args.level c.size-size.result c.drift.result c.drift.ensures.cells
