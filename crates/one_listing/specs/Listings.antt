-- That a sheet has one listing: what the definition of listings says of a sheet, it says of one listing only. Assumes nothing.
use Rattle.std.specs.Prelude.{◌≡◌, ℕ, List}
use Rattle.listing.specs.Listing.{Listing}

-- two listings of a sheet are the same bytes
abbrev pub OneListing : Type 0
OneListing = (sheet a b : List ℕ) → Listing sheet a → Listing sheet b → a ≡ b
