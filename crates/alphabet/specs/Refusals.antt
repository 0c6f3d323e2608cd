-- The number, the layer and the place of each refusal of alphabets and codes. Assumes nothing.
use Rattle.std.specs.Prelude.{ℕ}
use Rattle.alphabet.specs.declared.refusals.Choice.{Choice}
use Rattle.alphabet.specs.declared.refusals.Choice.TheVariants.{AlphabetKind, CodeKind, AlphabetSize, CodeLength}
use Rattle.alphabet.specs.declared.refusals.Refusal.{Refusal}
use Rattle.alphabet.specs.declared.refusals.Refusal.TheVariants.{NotOffered, BareLength, TooFar, WordLength, NotASymbol}

-- the place of a number among those that choose a code
abbrev pub ordinal : Choice → ℕ
ordinal AlphabetKind = 1
ordinal CodeKind = 2
ordinal AlphabetSize = 3
ordinal CodeLength = 4

abbrev pub number : Refusal → ℕ
number (NotOffered choice) = 24
number (BareLength length) = 3
number TooFar = 11
number (WordLength length) = 13
number (NotASymbol index) = 14

abbrev pub layer : Refusal → ℕ
layer refusal = 1

abbrev pub place : Refusal → ℕ
place (NotOffered choice) = ordinal choice
place (BareLength length) = length
place TooFar = 0
place (WordLength length) = length
place (NotASymbol index) = index
