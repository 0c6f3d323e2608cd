use Rattle.std.proofs.Common.{arith}
use Rattle.masking.proofs.Information.{information_few}
use Rattle.masking.proofs.lengths.message_length.Goals as goal

pub returns-clause-bound : goal.returns-clause-bound
returns-clause-bound g c =
    let code = g.C.Code.meaning c.args.code.now in
    let laws = g.met.C.Code.lawful c.args.code.now in
    omega (arith, information_few code laws, laws.cells_most, laws.information_two, c.dimension.ensures)
