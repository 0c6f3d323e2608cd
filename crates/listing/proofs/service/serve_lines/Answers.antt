use Rattle.listing.specs.Serving.{AtService}
use Rattle.listing.proofs.Gathered.{service_sound, none_listed, line_fits, one_listed}
use Rattle.listing.proofs.service.serve_lines.Goals as goal

pub loop-line-init : goal.loop-line-init
loop-line-init g c = none_listed (AtService g.C.Code.meaning c.args.room) (service_sound g.C.Code.meaning g.met.C.Code.lawful c.args.room) c.args.card.now c.args.run.now

pub tell-requires-clause-fits : goal.tell-requires-clause-fits
tell-requires-clause-fits g c =
    line_fits (AtService g.C.Code.meaning c.args.room) (service_sound g.C.Code.meaning g.met.C.Code.lawful c.args.room) c.args.card.now c.loop-line.card c.serve_line.new.card c.args.run.now c.loop-line.run _ _ c.requires c.loop-line.invariant c.in_ok-answer.ensures

pub loop-line-preserved : goal.loop-line-preserved
loop-line-preserved g c =
    let At = AtService g.C.Code.meaning c.args.room in
    let sound = service_sound g.C.Code.meaning g.met.C.Code.lawful c.args.room in
    one_listed At sound At c.args.card.now c.loop-line.card c.serve_line.new.card c.args.run.now c.loop-line.run c.tell.new.self c.in-Some.line _ c.loop-line.invariant c.in-Some.ensures c.in_ok-answer.ensures
    (line_fits At sound c.args.card.now c.loop-line.card c.serve_line.new.card c.args.run.now c.loop-line.run _ _ c.requires c.loop-line.invariant c.in_ok-answer.ensures) c.in_ok-tell.ensures
