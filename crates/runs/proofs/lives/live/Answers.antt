use Rattle.std.proofs.Common.{List, [], vec_items}
use Rattle.ledger.specs.Ledger.{Made, BenchCall, Answer, new}
use Rattle.ledger.proofs.Stands.{promise}
use Rattle.card.specs.History.{made_from, note_answer}
use Rattle.runs.specs.Told.{bench_call, told}
use Rattle.runs.proofs.lives.live.Goals as goal

pub returns : goal.returns
returns g c =
    let made : Made = made_from (g.C.Code.meaning c.args.code) c.args.allowance c.args.pages in
    let bench : List (BenchCall × Answer) = told bench_call note_answer [] c.args.floors.now (vec_items c.in_ok-bench.bench) in
    let card = c.in_ok-card.ensures in
    let benched = c.in_ok-bench.ensures.1 made [] _ new card.shows in
    let opened = c.open-card.ensures.opens made bench benched.0 benched.1 benched.2 in
    let served = c.in_ok-replies.ensures.1 made bench [] benched.0 opened.0 opened.1 in
    record {
      pages_there = card.pages_there;
      floors_answered = c.in_ok-bench.ensures.0;
      calls_answered = c.in_ok-replies.ensures.0;
      ledger_of = served.0;
      kept = served.1;
      shown = served.2;
      promise = promise made (g.met.C.Code.lawful c.args.code) card.shows.within;
    }
