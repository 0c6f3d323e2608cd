-- Sums along the rows and the columns of a word, for the functions that take them and use them. Assumes nothing.
use Rattle.std.specs.Prelude.{◌≡◌, ℕ, ◌+◌, ◌*◌, ◌<◌, List, slice_index}
use Rattle.alphabet.specs.Arithmetic.{Arithmetic}
use Rattle.sums.specs.Sums.{sum_of}
use Rattle.plane.specs.Plane.{levels_sum, rows_sum, columns_sum}
use Rattle.plane.specs.declared.three_sums.Sums.{Sums}

-- the first n levels of row a
abbrev pub row_part : Arithmetic → List ℕ → (a n : ℕ) → ℕ
row_part m word a n = sum_of m n (λ b. slice_index word (m.size * a + b))

-- the first n levels of column b
abbrev pub column_part : Arithmetic → List ℕ → (b n : ℕ) → ℕ
column_part m word b n = sum_of m n (λ a. slice_index word (m.size * a + b))

-- each place has the sum of its column over the first n rows
abbrev pub ColumnsSummed : Arithmetic → List ℕ → (n : ℕ) → List ℕ → Type 0
ColumnsSummed m word n columns = (b : ℕ) → b < m.size → slice_index columns b ≡ column_part m word b n

pub record SumsOf (m : Arithmetic) (word : List ℕ) (sums : Sums) : Type 0 where
  pub levels : sums.levels ≡ levels_sum m word
  pub rows : sums.rows ≡ rows_sum m word
  pub columns : sums.columns ≡ columns_sum m word

-- two symbols with the product 1, of which the second is below the size
pub record Inverts (m : Arithmetic) (a inverse : ℕ) : Type 0 where
  pub below : inverse < m.size
  pub one : m.product a inverse ≡ 1
