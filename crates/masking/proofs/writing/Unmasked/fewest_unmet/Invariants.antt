use Rattle.masking.specs.Shifts.{FewestBelow}
use Rattle.masking.proofs.writing.Unmasked.fewest_unmet.Given as goal

abbrev pub invariant-loop-mask : goal.invariant-loop-mask
invariant-loop-mask g l = FewestBelow (g.A.Alphabet.meaning l.self.alphabet.now) l.self.floors.now l.self.word.now l.mask l.best l.fewest
