-- The Plane code over a field of q symbols, for whoever writes or reads words in it: cell i is the point (a, b) with i = q * a + b.
-- A word of q * q symbols is a code word if its levels, its levels times their rows and its levels times their columns each sum to 0.
-- Assumes nothing.
use Rattle.std.specs.Prelude.{ℕ, ◌+◌, ◌-◌, ◌*◌, ◌/◌, ◌%◌, ◌&&◌, List, ◌++◌, length, ◌==◌, slice_index}
use Rattle.alphabet.specs.Arithmetic.{Arithmetic}
use Rattle.alphabet.specs.Field.{FieldArithmetic}
use Rattle.code.specs.Words.{BlockCode}
use Rattle.code.specs.Bare.{all_below, from}
use Rattle.sums.specs.Sums.{sum_of}

abbrev pub row : Arithmetic → ℕ → ℕ
row m i = i / m.size

abbrev pub column : Arithmetic → ℕ → ℕ
column m i = i % m.size

abbrev pub levels_sum : Arithmetic → List ℕ → ℕ
levels_sum m word = sum_of m (m.size * m.size) (λ i. slice_index word i)

abbrev pub rows_sum : Arithmetic → List ℕ → ℕ
rows_sum m word = sum_of m (m.size * m.size) (λ i. m.product (row m i) (slice_index word i))

abbrev pub columns_sum : Arithmetic → List ℕ → ℕ
columns_sum m word = sum_of m (m.size * m.size) (λ i. m.product (column m i) (slice_index word i))

-- all cells but the check cells 0, 1 and q
abbrev pub information_cells : ℕ → List ℕ
information_cells q = from 2 (q - 2) ++ from (q + 1) (q * q - (q + 1))

-- the plane's words in any arithmetic
abbrev pub plane_over : Arithmetic → BlockCode
plane_over m = record {
  arithmetic = m;
  cells = m.size * m.size;
  radius = 1;
  information = information_cells m.size;
  holds = λ word. (length word == m.size * m.size) && (all_below m.size word
      && (levels_sum m word == 0 && (rows_sum m word == 0 && columns_sum m word == 0)));
}

abbrev pub plane : FieldArithmetic → BlockCode
plane f = plane_over f.arithmetic
