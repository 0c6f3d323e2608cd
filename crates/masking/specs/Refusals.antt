-- The number, the layer and the place of each refusal of writing and reading a page. Assumes nothing.
use Rattle.std.specs.Prelude.{ℕ}
use Rattle.alphabet.specs.Refusals as word
use Rattle.masking.specs.declared.refusals.Refusal.{Refusal}
use Rattle.masking.specs.declared.refusals.Refusal.TheVariants.{Coding, Allowance, Floor, MessageLength, MessageSymbol, NoMask}

abbrev pub number : Refusal → ℕ
number (Coding refusal) = word.number refusal
number (Allowance allowance) = 2
number (Floor floor) = 6
number (MessageLength length) = 7
number (MessageSymbol index) = 8
number (NoMask fewest) = 9

abbrev pub layer : Refusal → ℕ
layer (Coding refusal) = word.layer refusal
layer (Allowance allowance) = 2
layer (Floor floor) = 2
layer (MessageLength length) = 2
layer (MessageSymbol index) = 2
layer (NoMask fewest) = 2

abbrev pub place : Refusal → ℕ
place (Coding refusal) = word.place refusal
place (Allowance allowance) = allowance
place (Floor floor) = floor
place (MessageLength length) = length
place (MessageSymbol index) = index
place (NoMask fewest) = fewest
