use Rattle.std.proofs.Common.{◌≡◌, ℕ, ◌<◌, get_or}
use Rattle.masking.proofs.Information.{less_mask}
use Rattle.masking.proofs.reading.unmask.Given as goal

abbrev pub invariant-loop-index : goal.invariant-loop-index
invariant-loop-index g l = (k : ℕ) → k < l.index → get_or l.message k 0 ≡ less_mask (g.C.Code.meaning l.code) (g.met.C.Code.lawful l.code) l.word k
