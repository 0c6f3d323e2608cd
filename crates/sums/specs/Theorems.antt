-- What holds of sums of symbols in every lawful alphabet. For whoever adds a code. Assumes nothing.
use Rattle.std.specs.Prelude.{◌≡◌, ℕ, ◌<◌}
use Rattle.alphabet.specs.Arithmetic.{Arithmetic, Lawful}
use Rattle.sums.specs.Sums.{sum_of}

-- a symbol summed as often as there are symbols is 0
abbrev pub EqualSymbolsCancel : Type 0
EqualSymbolsCancel = (m : Arithmetic) → Lawful m → (z : ℕ) → z < m.size → sum_of m m.size (λ i. z) ≡ 0

-- a map of the numbers below n into themselves that keeps them apart
pub record Injection (n : ℕ) (h : ℕ → ℕ) : Type 0 where
  pub within : (i : ℕ) → i < n → h i < n
  pub apart : (i j : ℕ) → i < n → j < n → h i ≡ h j → i ≡ j

-- a sum of symbols is the same in another order
abbrev pub OrderIsFree : Type 0
OrderIsFree = (m : Arithmetic) → Lawful m → (n : ℕ) (f : ℕ → ℕ) (h : ℕ → ℕ) → ((i : ℕ) → i < n → f i < m.size) → Injection n h → sum_of m n (λ i. f (h i)) ≡ sum_of m n f
