-- The three sums of a word from the sums of its rows and its columns. Assumes nothing.
use Rattle.std.proofs.Common.{◌≡◌, ℕ, ◌+◌, ◌*◌, ◌%◌, ◌<◌, List, get_or, sym, ap, ◌∙◌, add-zero, mod-eq_of_lt, arith}
use native.Mathlib.Nat.{div-eq_of_lt, mul-add-div, mul-add-mod_self_left}
use Rattle.alphabet.specs.Arithmetic.{Arithmetic, Lawful}
use Rattle.code.specs.Words.{Word}
use Rattle.code.specs.Cells.{below_anywhere}
use Rattle.sums.specs.Sums.{sum_of}
use Rattle.sums.proofs.Ring.{one-⊗}
use Rattle.sums.proofs.FiniteSum.{total, total_same, total-⊗, total_rows, total_exchanged}
use Rattle.sums.proofs.AllSymbols.{Finite}
use Rattle.sums.proofs.Symbols.{ring_of, finite, sum_of_total, sum_of_below}
use Rattle.sums.proofs.Weighed.{weighed}
use Rattle.sums.proofs.Lists.{level}
use Rattle.plane.specs.Plane.{levels_sum, rows_sum, columns_sum, plane_over}
use Rattle.plane.specs.Lines.{row_part, column_part}
use Rattle.plane.specs.Weights.{levels, rows, columns, weight}
use Rattle.plane.specs.Holds.{levels_are, rows_are, columns_are}

module _ (F : Finite) where
  infixl 70 ◌⊗◌
  open F use {ring, size, two, symbol}
  open F.ring use {Symbol, ◌⊗◌}

  positive : 0 < size
  positive = omega (arith, two)

  levels_by_rows : (u : ℕ → Symbol) → weighed ring (size * size) (weight F levels) u ≡ total ring size (λ a. total ring size (λ b. u (size * a + b)))
  unfolding weighed
  levels_by_rows u = total_same ring (size * size) _ u (λ i l. one-⊗ ring (u i)) ∙ total_rows ring size size u

  rows_by_rows : (u : ℕ → Symbol) → weighed ring (size * size) (weight F rows) u ≡ total ring size (λ a. symbol a ⊗ total ring size (λ b. u (size * a + b)))
  unfolding weighed
  rows_by_rows u =
      total_rows ring size size _
      ∙ total_same ring size _ _ (λ a la.
      total_same ring size _ (λ b. symbol a ⊗ u (size * a + b)) (λ b lb.
      ap (λ (k : ℕ). symbol k ⊗ u (size * a + b)) (mul-add-div positive a b ∙ ap (λ k. a + k) (div-eq_of_lt lb) ∙ add-zero a))
      ∙ total-⊗ ring size (symbol a) (λ b. u (size * a + b)))

  columns_by_columns : (u : ℕ → Symbol) → weighed ring (size * size) (weight F columns) u ≡ total ring size (λ b. symbol b ⊗ total ring size (λ a. u (size * a + b)))
  unfolding weighed
  columns_by_columns u =
      total_rows ring size size _
      ∙ total_same ring size _ _ (λ a la. total_same ring size _ (λ b. symbol b ⊗ u (size * a + b)) (λ b lb.
      ap (λ (k : ℕ). symbol k ⊗ u (size * a + b)) (mul-add-mod_self_left size a b ∙ mod-eq_of_lt lb)))
      ∙ total_exchanged ring size size (λ a b. symbol b ⊗ u (size * a + b))
      ∙ total_same ring size _ _ (λ b lb. total-⊗ ring size (symbol b) (λ a. u (size * a + b)))

module _ (m : Arithmetic) (l : Lawful m) (word : List ℕ) (fit : Word (plane_over m) word) where
  pub level_below : (i : ℕ) → get_or word i 0 < m.size
  level_below = below_anywhere m.size word (omega (arith, l.two)) fit.symbols

  pub row_below : (a n : ℕ) → row_part m word a n < m.size
  row_below a n = sum_of_below m l n _ (λ i less. level_below (m.size * a + i))

  pub column_below : (b n : ℕ) → column_part m word b n < m.size
  column_below b n = sum_of_below m l n _ (λ i less. level_below (m.size * i + b))

  row_is : (a n : ℕ) → row_part m word a n ≡ (total (ring_of m l) n (λ b. level (finite m l) word (m.size * a + b))).0
  row_is a n = sum_of_total m l n _ _ (λ i less. sym (mod-eq_of_lt (level_below (m.size * a + i))))

  column_is : (b n : ℕ) → column_part m word b n ≡ (total (ring_of m l) n (λ a. level (finite m l) word (m.size * a + b))).0
  column_is b n = sum_of_total m l n _ _ (λ i less. sym (mod-eq_of_lt (level_below (m.size * i + b))))

  pub levels_from_rows : levels_sum m word ≡ sum_of m m.size (λ a. row_part m word a m.size)
  levels_from_rows =
      levels_are m l word fit.symbols ∙ ap (λ s. s.0) (levels_by_rows (finite m l) (level (finite m l) word))
      ∙ sym (sum_of_total m l m.size _ _ (λ a less. row_is a m.size))

  pub rows_from_rows : rows_sum m word ≡ sum_of m m.size (λ a. m.product a (row_part m word a m.size))
  rows_from_rows =
      rows_are m l word fit.symbols ∙ ap (λ s. s.0) (rows_by_rows (finite m l) (level (finite m l) word))
      ∙ sym (sum_of_total m l m.size _ _ (λ a less.
      ap (λ (k : ℕ). m.product k (row_part m word a m.size)) (sym (mod-eq_of_lt less)) ∙ ap (m.product (a % m.size)) (row_is a m.size)))

  pub columns_from_columns : columns_sum m word ≡ sum_of m m.size (λ b. m.product b (column_part m word b m.size))
  columns_from_columns =
      columns_are m l word fit.symbols ∙ ap (λ s. s.0) (columns_by_columns (finite m l) (level (finite m l) word))
      ∙ sym (sum_of_total m l m.size _ _ (λ b less.
      ap (λ (k : ℕ). m.product k (column_part m word b m.size)) (sym (mod-eq_of_lt less)) ∙ ap (m.product (b % m.size)) (column_is b m.size)))
