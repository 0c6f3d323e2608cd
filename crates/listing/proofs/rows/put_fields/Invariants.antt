use Rattle.std.proofs.Common.{◌≡◌, ◌++◌, take, vec_items}
use Rattle.listing.specs.Rows.{columns}
use Rattle.listing.proofs.rows.put_fields.Given as goal

abbrev pub invariant-loop-value : goal.invariant-loop-value
invariant-loop-value l = vec_items l.out ≡ vec_items l.initial.out ++ columns (take l.value-index l.fields)
