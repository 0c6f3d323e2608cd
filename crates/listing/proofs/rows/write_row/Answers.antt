use Rattle.listing.specs.Told.{told}
use Rattle.listing.proofs.Justified.{digits_most}
use Rattle.listing.proofs.Written.{row_put}
use Rattle.listing.proofs.rows.write_row.Goals as goal

pub put_number-requires-clause-fits : goal.put_number-requires-clause-fits
put_number-requires-clause-fits c = digits_most 5 c.args.number c.requires.number

pub returns : goal.returns
returns c = row_put _ _ _ _ c.args.number (told c.args.answer.now) c.in_ok-put_number.ensures c.in_ok-put_told.ensures c.in_ok-push.ensures.items
