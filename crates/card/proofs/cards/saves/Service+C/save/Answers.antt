use Rattle.std.proofs.Common.{arith}
use Rattle.std.proofs.lemmas.Result.{err_from_is_err_and}
use Rattle.ledger.specs.Ledger.{InService, save_no_page}
use Rattle.card.proofs.Saves.{save_granted, save_refused}
use Rattle.card.proofs.Shown.{unaltered}
use Rattle.card.proofs.cards.saves.Service+C.save.Goals as goal

pub returns-in_err-lend-clause-continues : goal.returns-in_err-lend-clause-continues
returns-in_err-lend-clause-continues g c =
    let p = err_from_is_err_and c.from_residual.result c.from_residual.ensures.1 in
    let none = c.in_err-lend.ensures.found in
    rw (p.1, p.2, none.told) (λ made bench past l at shows.
    (l, InService.next bench past l _ _ _ at (save_no_page l c.args.page c.args.message.now (omega (arith, none.past, shows.count))), shows))

pub returns-in_err-save-clause-continues : goal.returns-in_err-save-clause-continues
returns-in_err-save-clause-continues g c =
    let p = err_from_is_err_and c.from_residual-in_err-save.result c.from_residual-in_err-save.ensures.1 in
    let h = c.in_err-save.ensures in
    rw (p.1, p.2) (save_refused g.C.Code.meaning g.met.C.Code.lawful _ _ c.in_ok-lend.ensures.found c.save.new.self h.floors c.args.message.now _ h.levels h.taken)

pub returns-in_err-save-clause-refused : goal.returns-in_err-save-clause-refused
returns-in_err-save-clause-refused g c =
    let p = err_from_is_err_and c.from_residual-in_err-save.result c.from_residual-in_err-save.ensures.1 in
    let h = c.in_err-save.ensures in
    rw p.1 (unaltered c.save.new.self c.in_ok-lend.ensures.found h.floors h.levels.1)

pub returns-clause-continues : goal.returns-clause-continues
returns-clause-continues g c =
    let h = c.in_ok-save.ensures in
    save_granted g.C.Code.meaning g.met.C.Code.lawful _ _ c.in_ok-lend.ensures.found c.save.new.self h.floors c.args.message.now _ h.levels h.taken
