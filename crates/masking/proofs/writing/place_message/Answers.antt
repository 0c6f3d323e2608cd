use Rattle.std.proofs.Common.{◌+◌, sym, subst, arith}
use Rattle.masking.proofs.Information.{cell_within, rest_there}
use Rattle.masking.proofs.Placing.{Placed, one_more_placed, all_placed}
use Rattle.masking.proofs.writing.place_message.Goals as goal
use Rattle.masking.proofs.writing.place_message.Goals.{in-Some, in_default}

pub bounds-word-cell : goal.bounds-word-cell
bounds-word-cell g c =
    omega (arith, c.loop-index.invariant.fit.whole, cell_within (g.C.Code.meaning c.args.code.now) (g.met.C.Code.lawful c.args.code.now) (c.loop-index.index + 1) c.in-Some.cell c.in-Some.ensures)

pub loop-index-preserved : goal.loop-index-preserved
loop-index-preserved g c =
    let code = g.C.Code.meaning c.args.code.now in
    let laws = g.met.C.Code.lawful c.args.code.now in
    let i = c.loop-index.index in
    elim c.match-information_cell.branch [
      | in-Some w ↦
          subst (λ xs. Placed code c.args.message.now xs (i + 1)) (sym w.word-is)
          (one_more_placed code laws c.args.message.now c.requires.symbols c.loop-index.word i w.in-Some.cell c.loop-index-test.true w.in-Some.ensures c.loop-index.invariant)
      | in_default w ↦ absurd (rest_there code laws i (omega (arith, c.loop-index-test.true, c.requires.symbols.whole)) w.in_default.ensures)
    ]

pub returns-clause-information : goal.returns-clause-information
returns-clause-information g c =
    all_placed (g.C.Code.meaning c.args.code.now) (g.met.C.Code.lawful c.args.code.now) c.args.message.now c.requires.symbols c.loop-index.word c.loop-index.index c.loop-index-test.false c.loop-index.invariant
