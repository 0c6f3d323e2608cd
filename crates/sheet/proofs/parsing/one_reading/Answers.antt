use Rattle.sheet.proofs.Readings.{one_reading}
use Rattle.sheet.proofs.parsing.one_reading.Goals as goal

pub returns : goal.returns
returns c = one_reading
