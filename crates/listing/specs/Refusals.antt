-- The number, the layer and the place of each refusal that a line is told. Assumes nothing.
use Rattle.std.specs.Prelude.{ℕ}
use Rattle.sheet.specs.Refusals as sheet
use Rattle.card.specs.Refusals as card
use Rattle.listing.specs.declared.refusals.Refusal.{Refusal}
use Rattle.listing.specs.declared.refusals.Refusal.TheVariants.{Sheet, Card}

abbrev pub number : Refusal → ℕ
number (Sheet refusal) = sheet.number refusal
number (Card refusal) = card.number refusal

abbrev pub layer : Refusal → ℕ
layer (Sheet refusal) = sheet.layer refusal
layer (Card refusal) = card.layer refusal

abbrev pub place : Refusal → ℕ
place (Sheet refusal) = sheet.place refusal
place (Card refusal) = card.place refusal
