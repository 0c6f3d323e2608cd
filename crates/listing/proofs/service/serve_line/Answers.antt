use Rattle.std.proofs.Common.{sym, subst, rules}
use Rattle.listing.specs.Serving.{AtService, Goes}
use Rattle.listing.proofs.Served.{answered, refused_served, call_served}
use Rattle.listing.proofs.service.serve_line.Goals as goal

pub returns-in_ok-answer-in-Ok : goal.returns-in_ok-answer-in-Ok
returns-in_ok-answer-in-Ok g c =
    let asked = c.in-Ok.ensures in
    subst (λ a. Goes (AtService g.C.Code.meaning c.args.room) c.args.card.now c.args.line.now a c.perform.new.card)
    (sym (answered _ _ _ c.map_err.ensures.cases (λ e y p. search rules)))
    (call_served g.C.Code.meaning g.met.C.Code.lawful c.args.room c.args.card.now c.perform.new.card c.args.line.now asked.0 _ _ asked.1 asked.2 c.in_ok-answer-in-Ok.ensures)

pub returns-in-Err : goal.returns-in-Err
returns-in-Err g c = refused_served g.C.Code.meaning c.args.room c.args.card.now c.args.line.now c.in-Err.refusal c.in-Err.ensures
