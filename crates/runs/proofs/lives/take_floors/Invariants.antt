use Rattle.std.proofs.Common.{◌≡◌, vec_items, vec_len}
use Rattle.runs.specs.Lived.{BenchContinuesAll}
use Rattle.runs.proofs.lives.take_floors.Given as goal

abbrev pub invariant-loop-floor : goal.invariant-loop-floor
invariant-loop-floor g l = (vec_len l.answers ≡ l.floor-index) × BenchContinuesAll g.C.Code.meaning l.initial.card l.floors (vec_items l.answers) l.card
