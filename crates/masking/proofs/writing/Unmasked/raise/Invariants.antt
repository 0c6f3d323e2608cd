use Rattle.std.proofs.Common.{◌≡◌, ℕ, ◌<◌, max, get_or}
use Rattle.masking.specs.Shifts.{shift}
use Rattle.masking.proofs.writing.Unmasked.raise.Given as goal

abbrev pub invariant-loop-cell : goal.invariant-loop-cell
invariant-loop-cell g l =
    (k : ℕ) → k < l.cell → get_or l.page k 0 ≡ max (get_or l.self.floors.now k 0) (get_or (shift (g.A.Alphabet.meaning l.self.alphabet.now) l.mask l.self.word.now) k 0)
