use Rattle.masking.proofs.Placing.{Placed}
use Rattle.masking.proofs.writing.place_message.Given as goal

abbrev pub invariant-loop-index : goal.invariant-loop-index
invariant-loop-index g l = Placed (g.C.Code.meaning l.code) l.message l.word l.index
