use Rattle.plane.proofs.Loops.{RowAdded}
use Rattle.plane.proofs.three_sums.Rows.add.Given as goal

abbrev pub invariant-loop-b : goal.invariant-loop-b
invariant-loop-b g l = RowAdded (g.A.Alphabet.meaning l.self.alphabet.now) l.self.word.now l.a l.b l.sum l.columns
