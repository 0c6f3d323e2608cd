use Rattle.std.proofs.Common.{◌≡◌, arith}
use Rattle.plane.proofs.Loops.{row_added, levels_all, rows_all, columns_all}
use Rattle.plane.proofs.three_sums.Rows.sums.Goals as goal

pub loop-a-preserved : goal.loop-a-preserved
loop-a-preserved g c =
    row_added (g.A.Alphabet.meaning c.args.self.now.alphabet.now) (g.met.A.Alphabet.lawful c.args.self.now.alphabet.now) c.args.self.now.word.now c.args.self.now.fit
    c.loop-a.a c.loop-a.levels c.loop-a.rows c.add-row.result c.product.result c.sum-levels.result c.sum-rows.result c.loop-a.columns c.add-row.new.columns
    (omega (arith, c.size-a-end.ensures, c.loop-a-test.true)) c.loop-a.invariant c.add-row.ensures.row c.product.ensures c.sum-levels.ensures c.sum-rows.ensures c.add-row.ensures.summed

pub returns : goal.returns
returns g c =
    let m = g.A.Alphabet.meaning c.args.self.now.alphabet.now in
    let l = g.met.A.Alphabet.lawful c.args.self.now.alphabet.now in
    let word = c.args.self.now.word.now in
    let fit = c.args.self.now.fit in
    let last : c.loop-a.a ≡ m.size = omega (arith, c.size-a-end.ensures, c.loop-a-test.false, c.loop-a.auto.a-end) in
    record {
      levels = levels_all m l word fit c.loop-a.a c.loop-a.levels c.loop-a.rows c.loop-a.columns last c.loop-a.invariant;
      rows = rows_all m l word fit c.loop-a.a c.loop-a.levels c.loop-a.rows c.loop-a.columns last c.loop-a.invariant;
      columns = columns_all m l word fit c.loop-a.a c.by_place.result c.loop-a.columns last c.loop-a.invariant.summed c.by_place.ensures;
    }
