use Rattle.std.proofs.Common.{◌∙◌}
use Rattle.code.specs.BareLaws.{item_if_in_run}
use Rattle.code.proofs.bare_code.methods.BareCode.information_cell.Goals as goal

pub returns : goal.returns
returns g c = c.then_some.ensures ∙ item_if_in_run c.args.self.now.cells c.args.index
