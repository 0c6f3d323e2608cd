use Rattle.std.proofs.Common.{arith}
use Rattle.plane.proofs.Loops.{level_added}
use Rattle.plane.proofs.Rows.{cut_below, row_level}
use Rattle.plane.proofs.three_sums.Rows.add.Goals as goal

pub loop-b-preserved : goal.loop-b-preserved
loop-b-preserved g c =
    let m = g.A.Alphabet.meaning c.args.self.now.alphabet.now in
    let word = c.args.self.now.word.now in
    level_added m (g.met.A.Alphabet.lawful c.args.self.now.alphabet.now) word c.args.self.now.fit c.args.a c.loop-b.b c.loop-b.sum c.sum-sum.result c.sum.result _ c.loop-b.columns
    (omega (arith, c.from-q.ensures, c.size.ensures)) (omega arith) c.loop-b.invariant
    (row_level word m.size c.args.a c.loop-b.b c.from-q.result c.from.result (omega (arith, c.from-q.ensures, c.size.ensures)) c.from.ensures (cut_below _ _ _ _ c.loop-b-test.true)) c.sum-sum.ensures c.sum.ensures
