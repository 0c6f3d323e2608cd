use Rattle.std.proofs.Common.{arith}
use Rattle.plane.proofs.Fields.{more_than_checks, information_count}
use Rattle.plane.proofs.PlaneCode.dimension.Goals as goal

pub overflow_sub-result : goal.overflow_sub-result
overflow_sub-result g c =
    let field = c.args.self.now.field in
    omega (arith, more_than_checks (g.F.Field.meaning field) (g.met.F.Field.lawful field) c.length.result c.length.ensures)

pub returns : goal.returns
returns g c =
    let field = c.args.self.now.field in
    information_count (g.F.Field.meaning field) (g.met.F.Field.lawful field) c.length.result c.length.ensures
