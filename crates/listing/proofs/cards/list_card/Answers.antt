use Rattle.std.proofs.lemmas.Result.{on_ok_weaker}
use Rattle.listing.proofs.Made.{card_fits, refused_listed, new_in_use, made_listed}
use Rattle.listing.proofs.cards.list_card.Goals as goal

pub list_others-requires-clause-used : goal.list_others-requires-clause-used
list_others-requires-clause-used g c = new_in_use g.C.Code.meaning g.met.C.Code.lawful c.args.code c.args.terms.allowance c.args.terms.pages c.in-Ok.bench c.in-Ok.ensures

pub returns-in_ok-tell-in-Ok : goal.returns-in_ok-tell-in-Ok
returns-in_ok-tell-in-Ok g c =
    on_ok_weaker c.list_others.result
    (made_listed g.C.Code.meaning g.met.C.Code.lawful c.args.code c.args.terms.allowance c.args.terms.pages c.in-Ok.bench c.args.run.now c.tell.new.self c.list_others.new.run c.in-Ok.ensures c.in_ok-tell-in-Ok.ensures)
    c.list_others.ensures

pub returns-in-Err-Asked : goal.returns-in-Err-Asked
returns-in-Err-Asked g c =
    let meaning = g.C.Code.meaning c.args.code in
    let refused = rw c.in-Err-Asked.field-0-is at c.in-Err-Asked.ensures in
    let fits = card_fits meaning c.args.terms.allowance c.args.terms.pages c.in-Err-Asked.refusal c.args.terms.allowance_shown c.args.terms.pages_shown refused in
    on_ok_weaker c.tell-in-Err-Asked.result (refused_listed meaning c.args.terms.allowance c.args.terms.pages c.in-Err-Asked.refusal c.args.run.now c.tell-in-Err-Asked.new.self fits refused)
    (rw c.in-Err-Asked.field-0-is at c.tell-in-Err-Asked.ensures)
