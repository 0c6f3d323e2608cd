use Rattle.plane.proofs.Loops.{RowsAdded}
use Rattle.plane.proofs.three_sums.Rows.sums.Given as goal

abbrev pub invariant-loop-a : goal.invariant-loop-a
invariant-loop-a g l = RowsAdded (g.A.Alphabet.meaning l.self.alphabet.now) l.self.word.now l.a l.levels l.rows l.columns
