-- The cells and levels that a page finds or does not find are the ledger's. Assumes nothing.
use Rattle.std.proofs.Common.{◌≡◌, ℕ, ◌<◌, arith}
use Rattle.ledger.specs.Ledger as ledger
use Rattle.ledger.specs.Ledger.{Made, no_cell, no_level}
use Rattle.card.specs.declared.refusals.Refusal.{Refusal}
use Rattle.card.specs.declared.refusals.Refusal.TheVariants.{NoCell, NoLevel}
use Rattle.card.specs.Cells.{Spot, NoSpot}
use Rattle.card.specs.History.{refusal_answer}

module _ (made : Made) (page cells size cell level : ℕ) (there : page < made.pages) (whole : cells ≡ made.code.cells) (sized : size ≡ made.code.arithmetic.size) where
  pub same_spot : Spot cells size cell level → ledger.Spot made page cell level
  same_spot spot = record { page_there = there; cell_there = omega (arith, spot.cell_there); level_there = omega (arith, spot.level_there) }

  pub same_no_spot : (e : Refusal) → NoSpot cells size cell level e → ledger.NoSpot made page cell level (refusal_answer e)
  same_no_spot (NoCell c) h = rw h.0 (no_cell there (omega (arith, h.1)))
  same_no_spot (NoLevel v) h = rw h.0 (no_level there (omega (arith, h.1)) (omega (arith, h.2)))
  same_no_spot _ h = absurd h
