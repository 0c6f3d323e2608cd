-- The sizes in which each alphabet is on offer, and what its maker answers. For whoever chooses an alphabet. Assumes nothing.
use Rattle.std.specs.Prelude.{◌≡◌, ℕ, ◌≤◌, ◌||◌, T, Ok, Err, Result, ◌==◌}
use Rattle.alphabet.specs.declared.refusals.Choice.TheVariants.{AlphabetSize}
use Rattle.alphabet.specs.declared.refusals.Refusal.{Refusal}
use Rattle.alphabet.specs.declared.refusals.Refusal.TheVariants.{NotOffered}

abbrev pub ResidueSize : ℕ → Type 0
ResidueSize q = (2 ≤ q) × (q ≤ 16)

-- the primes from 3 to 16
abbrev pub PrimeSize : ℕ → Type 0
PrimeSize q = T (q == 3 || (q == 5 || (q == 7 || (q == 11 || q == 13))))

-- the powers of two from 4 to 16
abbrev pub BinarySize : ℕ → Type 0
BinarySize q = T (q == 4 || (q == 8 || q == 16))

-- a maker grants the size that it is asked for if that is on offer, and refuses it otherwise
abbrev pub Offered : {A : Type 0} → (A → ℕ) → (ℕ → Type 0) → ℕ → Result A Refusal → Type 0
Offered size_of On size (Ok alphabet) = (size_of alphabet ≡ size) × On size
Offered size_of On size (Err refusal) = (refusal ≡ NotOffered AlphabetSize) × (On size → ⊥)
