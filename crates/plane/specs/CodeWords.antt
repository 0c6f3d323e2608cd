-- Words of the plane as lists of numbers, with their three sums. Assumes nothing.
use Rattle.std.specs.Prelude.{◌≡◌, ℕ, ◌*◌, List, length}
use Rattle.code.specs.Cells.{Below}
use Rattle.sums.proofs.AllSymbols.{Finite}
use Rattle.sums.proofs.Lists.{list_sum}
use Rattle.plane.specs.Weights.{Check, weight}

-- the sum of a word's levels under a weight
abbrev pub sum_under : (F : Finite) → Check → List ℕ → F.ring.Symbol
sum_under F c w = list_sum F (F.size * F.size) (weight F c) w

pub record CodeWord (F : Finite) (w : List ℕ) : Type 0 where
  pub whole : length w ≡ F.size * F.size
  pub below : Below F.size w
  pub sums : (c : Check) → sum_under F c w ≡ F.ring.o
