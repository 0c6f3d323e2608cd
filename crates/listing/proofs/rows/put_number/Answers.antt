use Rattle.std.proofs.lemmas.List.{length-replicate}
use Rattle.listing.proofs.Written.{appended}
use Rattle.listing.proofs.rows.put_number.Goals as goal

pub returns : goal.returns
returns g c = appended c.extend_from_slice.result _ _ _ _ c.extend_from_slice.ensures.items (simp length-replicate at c.justify.ensures)
