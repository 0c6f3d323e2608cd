use Rattle.std.proofs.lemmas.Result.{on_ok_weaker}
use Rattle.listing.proofs.Firsts.{one_told}
use Rattle.listing.proofs.lists.list_lines.Goals as goal

pub returns-in-Err : goal.returns-in-Err
returns-in-Err c = on_ok_weaker c.tell.result (one_told c.in-Some.first _ c.args.run.now c.tell.new.self c.in-Some.ensures c.in-Err.ensures.1 c.in-Err.ensures.0) c.tell.ensures
