use Rattle.std.proofs.Common.{refl}
use Rattle.listing.specs.Rows.{field}
use Rattle.listing.proofs.Justified.{digits_most}
use Rattle.listing.proofs.Written.{one_put, fits_at}
use Rattle.listing.proofs.rows.put_fields.Goals as goal

pub put_number-requires-clause-fits : goal.put_number-requires-clause-fits
put_number-requires-clause-fits c = digits_most 3 _ (fits_at c.args.fields.now c.loop-value.value-index c.requires c.loop-value-test.true)

pub loop-value-preserved : goal.loop-value-preserved
unfolding field
loop-value-preserved c = one_put _ _ _ c.args.fields.now _ _ c.loop-value-test.true refl c.loop-value.invariant c.in_ok-put_number.ensures
