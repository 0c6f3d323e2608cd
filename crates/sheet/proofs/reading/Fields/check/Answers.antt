use Rattle.std.proofs.Common.{◌*◌, ◌++◌, ◌∷◌, [], length, ap, arith, length-drop, true-eqb, false-eqb}
use Rattle.std.proofs.lemmas.Result.{err_from_is_err_and}
use Rattle.sheet.proofs.Steps.{one_more, ill, all_shown}
use Rattle.sheet.proofs.reading.Fields.check.Goals as goal

pub loop-self-preserved : goal.loop-self-preserved
loop-self-preserved c =
    (c.loop-self.invariant.0 ++ c.in_ok-number.field-0 ∷ [], one_more _ _ _ c.loop-self.self.columns.now _ c.in_ok-number.field-0 _ _ c.loop-self.invariant.1 c.in_ok-number.ensures)

pub returns-in_err-number : goal.returns-in_err-number
returns-in_err-number c =
    let p = err_from_is_err_and c.from_residual.result c.from_residual.ensures.1 in
    rw (p.1, p.2)
    (ill _ _ _ _ c.loop-self.self.columns.now _ c.in_err-number.field-0.0 c.loop-self.invariant.1 c.in_err-number.ensures
    (omega (arith, false-eqb _ 0 c.loop-self-test.ensures, ap length c.loop-self.invariant.1.left, length-drop (4 * length c.loop-self.invariant.0) c.args.self.columns.now)))

pub returns : goal.returns
returns c = all_shown _ _ _ c.loop-self.self.columns.now _ c.loop-self.invariant.1 (true-eqb _ _ c.loop-self-test.ensures)
