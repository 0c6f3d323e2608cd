use Rattle.std.proofs.Common.{◌≡◌, length, take}
use Rattle.sheet.proofs.Steps.{Sofar}
use Rattle.sheet.proofs.reading.Fields.numbers.Given as goal

abbrev pub invariant-loop-value : goal.invariant-loop-value
invariant-loop-value g l =
    (length l.value-items ≡ g.row.N)
    × Sofar l.initial.self.columns.now l.initial.self.column (take l.value-index l.value-items) l.self.columns.now l.self.column
