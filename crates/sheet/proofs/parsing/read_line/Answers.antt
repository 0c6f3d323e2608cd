use Rattle.std.proofs.lemmas.Result.{err_from_is_err_and}
use Rattle.sheet.proofs.Steps.{sofar, past}
use Rattle.sheet.proofs.parsing.read_line.Goals as goal

pub returns-in_err-check-in-Save : goal.returns-in_err-check-in-Save
returns-in_err-check-in-Save c =
    let p = err_from_is_err_and c.from_residual-in_err-check-in-Save.result c.from_residual-in_err-check-in-Save.ensures.1 in
    rw (p.1, p.2)
    (past _ _ _ _ _ c.in_err-check-in-Save.field-0.0 (sofar 1 _ _ c.in_ok-page-in-Save.field-0 _ _ c.in_ok-page-in-Save.ensures) c.in_err-check-in-Save.ensures)
