use Rattle.std.proofs.Common.{ℕ, List, length}
use Rattle.sheet.proofs.Steps.{Sofar}
use Rattle.sheet.proofs.reading.Fields.check.Given as goal

abbrev pub invariant-loop-self : goal.invariant-loop-self
invariant-loop-self l = (vs : List ℕ) × Sofar l.initial.self.columns.now l.initial.self.column vs l.self.columns.now l.self.column

abbrev pub decreases-loop-self : goal.decreases-loop-self
decreases-loop-self l = length l.self.columns.now
