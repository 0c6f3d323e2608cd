use Rattle.std.proofs.Common.{sym, subst}
use Rattle.sheet.specs.Fields.{Taken}
use Rattle.sheet.proofs.Shown.{too_short}
use Rattle.sheet.proofs.fields.take_field.Goals as goal

pub returns-in_err-first : goal.returns-in_err-first
returns-in_err-first c = subst (Taken c.args.columns.now) (sym c.from_residual.ensures) (too_short c.args.columns.now c.in_err-first.ensures.cases)
