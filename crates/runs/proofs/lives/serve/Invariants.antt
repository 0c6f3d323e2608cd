use Rattle.std.proofs.Common.{◌≡◌, vec_items, vec_len}
use Rattle.runs.specs.Lived.{ContinuesAll}
use Rattle.runs.proofs.lives.serve.Given as goal

abbrev pub invariant-loop-request : goal.invariant-loop-request
invariant-loop-request g l = (vec_len l.replies ≡ l.request-index) × ContinuesAll g.C.Code.meaning l.initial.card l.calls (vec_items l.replies) l.card
