-- The number, the layer and the place of each refusal of a card. Assumes nothing.
use Rattle.std.specs.Prelude.{ℕ}
use Rattle.masking.specs.Refusals as masking
use Rattle.card.specs.declared.refusals.Refusal.{Refusal}
use Rattle.card.specs.declared.refusals.Refusal.TheVariants.{Masking, PageCount, NoPage, NoCell, NoLevel, Blank, BelowFloor}

abbrev pub number : Refusal → ℕ
number (Masking refusal) = masking.number refusal
number (PageCount pages) = 1
number (NoPage page) = 4
number (NoCell cell) = 5
number (NoLevel level) = 6
number (Blank page) = 10
number (BelowFloor cell) = 12

abbrev pub layer : Refusal → ℕ
layer (Masking refusal) = masking.layer refusal
layer (PageCount pages) = 2
layer (NoPage page) = 2
layer (NoCell cell) = 2
layer (NoLevel level) = 2
layer (Blank page) = 2
layer (BelowFloor cell) = 2

abbrev pub place : Refusal → ℕ
place (Masking refusal) = masking.place refusal
place (PageCount pages) = pages
place (NoPage page) = page
place (NoCell cell) = cell
place (NoLevel level) = level
place (Blank page) = page
place (BelowFloor cell) = cell
