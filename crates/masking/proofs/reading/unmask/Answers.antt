use Rattle.std.proofs.Common.{◌+◌, get_or, ap, ◌∙◌, arith}
use Rattle.masking.proofs.Information.{cell_within, rest_there, unmasked_more, unmasked}
use Rattle.masking.proofs.reading.unmask.Goals as goal
use Rattle.masking.proofs.reading.unmask.Goals.{in-Some, in_default}

pub bounds-word-cell : goal.bounds-word-cell
bounds-word-cell g c =
    let code = g.C.Code.meaning c.args.code.now in
    let laws = g.met.C.Code.lawful c.args.code.now in
    omega (arith, (laws.words c.args.word.now c.requires.held).whole, cell_within code laws (c.loop-index.index + 1) c.in-Some.cell c.in-Some.ensures)

pub loop-index-preserved : goal.loop-index-preserved
loop-index-preserved g c =
    let code = g.C.Code.meaning c.args.code.now in
    let laws = g.met.C.Code.lawful c.args.code.now in
    let i = c.loop-index.index in
    elim c.match-information_cell.branch [
      | in-Some w ↦ λ k h.
          ap (λ xs. get_or xs k 0) w.message-is
          ∙ unmasked_more code laws (g.C.Symbols.Alphabet.meaning c.alphabet-alphabet.result.now) c.args.word.now c.loop-index.message i w.in-Some.cell _ c.negative-down.result w.sum.result
          c.alphabet-alphabet.ensures c.requires.held (omega (arith, c.loop-index-test.true, c.loop-index.auto.message)) c.loop-index.invariant w.in-Some.ensures c.first_symbol.ensures c.negative-down.ensures w.sum.ensures k h
      | in_default w ↦ absurd (rest_there code laws i (omega (arith, c.loop-index-test.true, c.requires.room)) w.in_default.ensures)
    ]

pub returns : goal.returns
returns g c =
    let r = unmasked (g.C.Code.meaning c.args.code.now) (g.met.C.Code.lawful c.args.code.now) c.args.word.now c.loop-index.message c.requires.held (omega (arith, c.loop-index.auto.message, c.requires.room))
    (λ k h. c.loop-index.invariant k (omega (arith, c.loop-index.auto.message, c.loop-index-test.false))) in
    record { symbols = r.0; carries = r.1 }
