use Rattle.ledger.specs.Ledger.{new}
use Rattle.opened.proofs.OnePage.{both_granted}
use Rattle.opened.proofs.open_and_save.Goals as goal

pub returns : goal.returns
returns g c =
    let made = c.in_ok-bench.ensures in
    let floored = c.set_floor-floored.ensures.continues _ _ _ new made.shows in
    let opened = c.open-card.ensures.opens _ _ floored.0 floored.1 floored.2 in
    let saved = c.save-saved.ensures.continues _ _ _ floored.0 opened.0 opened.1 in
    record {
      ledger_of = saved.0;
      kept = saved.1;
      shown = saved.2;
      granted = λ cell level fit. both_granted _ (g.met.C.Code.lawful c.args.code) c.args.cell c.args.floor cell level c.args.message.now _ _ saved.0 fit saved.1;
    }
