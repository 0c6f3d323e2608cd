use Rattle.std.proofs.Common.{vec_items, refl, arith, rules}
use Rattle.ledger.specs.Ledger.{AtBench}
use Rattle.card.specs.History.{note_answer}
use Rattle.runs.specs.Told.{bench_call}
use Rattle.runs.proofs.Gathered.{none_yet, one_more}
use Rattle.runs.proofs.lives.take_floors.Goals as goal

pub loop-floor-init : goal.loop-floor-init
loop-floor-init g c = (search rules, λ made. none_yet bench_call note_answer g.C.Code.meaning made (AtBench made) c.args.floors.now c.args.card.now _ c.new-answers.ensures.items)

pub loop-floor-preserved : goal.loop-floor-preserved
loop-floor-preserved g c = (
  search rules,
  λ made.
      one_more bench_call note_answer g.C.Code.meaning made (AtBench made) c.args.floors.now c.args.card.now c.loop-floor.card c.set_floor-answer.new.card (vec_items c.loop-floor.answers) _ c.loop-floor.floor-index _ _ c.set_floor-answer.result
      (c.loop-floor.invariant.1 made) (c.set_floor-answer.ensures made) c.loop-floor-test.true (omega (arith, c.loop-floor.answers.ok.0, c.loop-floor.invariant.0)) refl c.in_ok-push.ensures.items,
)
