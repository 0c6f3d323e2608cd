-- A word with one symbol added to all its cells, and the symbols that leave the fewest cells below their floors. Assumes nothing.
use Rattle.std.specs.Prelude.{◌≡◌, ℕ, ◌<◌, ◌≤◌, List, map}
use Rattle.alphabet.specs.Arithmetic.{Arithmetic}
use Rattle.masking.specs.Floors.{unmet}

-- one symbol added to all cells
abbrev pub shift : Arithmetic → ℕ → List ℕ → List ℕ
shift m z word = map (λ x. m.sum x z) word

-- of the shifts below a bound, z is the lowest of those with the fewest cells unmet, and that many are unmet
pub record FewestBelow (m : Arithmetic) (floors word : List ℕ) (bound z count : ℕ) : Type 0 where
  pub below : z < bound
  pub counted : count ≡ unmet floors (shift m z word)
  pub fewest : (y : ℕ) → y < bound → count ≤ unmet floors (shift m y word)
  pub lowest : (y : ℕ) → y < z → count < unmet floors (shift m y word)
