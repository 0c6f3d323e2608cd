use Rattle.one_listing.proofs.Listings.{one_listing}
use Rattle.one_listing.proofs.one_listing.Goals as goal

pub returns : goal.returns
returns c = one_listing
