use Rattle.std.proofs.Common.{rules}
use Rattle.masking.proofs.Readings.{one_reading, reads_corrected}
use Rattle.masking.proofs.reading.read.Goals as goal

pub returns-clause-one_way : goal.returns-clause-one_way
returns-clause-one_way g c =
    let code = g.C.Code.meaning c.args.code.now in
    let laws = g.met.C.Code.lawful c.args.code.now in
    let reads = reads_corrected code laws c.args.levels.now c.correct_copy-answer.new.copy c.unmask.new.message c.in_ok-corrected.corrected
    (search rules) c.unmask.ensures.symbols c.unmask.ensures.carries in
    λ count message other. one_reading code laws c.args.levels.now c.in_ok-corrected.corrected count c.unmask.new.message message reads other
