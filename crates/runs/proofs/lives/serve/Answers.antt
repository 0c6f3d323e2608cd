use Rattle.std.proofs.Common.{vec_items, refl, arith, rules}
use Rattle.ledger.specs.Ledger.{InService}
use Rattle.runs.specs.Told.{call_of, answer_of}
use Rattle.runs.proofs.Gathered.{none_yet, one_more}
use Rattle.runs.proofs.lives.serve.Goals as goal

pub loop-request-init : goal.loop-request-init
loop-request-init g c = (search rules, λ made bench. none_yet call_of answer_of g.C.Code.meaning made (InService made bench) c.args.calls.now c.args.card.now _ c.new-replies.ensures.items)

pub loop-request-preserved : goal.loop-request-preserved
loop-request-preserved g c = (
  search rules,
  λ made bench.
      one_more call_of answer_of g.C.Code.meaning made (InService made bench) c.args.calls.now c.args.card.now c.loop-request.card c.perform.new.card (vec_items c.loop-request.replies) _ c.loop-request.request-index _ _ c.in_ok-answer.answer
      (c.loop-request.invariant.1 made bench) (c.in_ok-answer.ensures made bench) c.loop-request-test.true (omega (arith, c.loop-request.replies.ok.0, c.loop-request.invariant.0)) refl c.in_ok-push.ensures.items,
)
