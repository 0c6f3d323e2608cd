-- The weights of a plane's points in the three sums: each kind sums to 0, and two changes that cancel in all three are at one point.
-- Assumes nothing.
use Rattle.std.specs.Prelude.{◌≡◌, ℕ, ◌+◌, ◌*◌, ◌/◌, ◌%◌, ◌<◌, ◌≢◌}
use Rattle.std.proofs.Common.{sym, ap, ◌∙◌, mod-eq_of_lt, div-lt_iff_lt-mul, mod-lt, add-zero, arith}
use Rattle.std.proofs.Math.Nat.{div-eq_of_lt, div_self, mod_self, mul-add-div, mul-add-mod_self_left, div-add-mod}
use Rattle.sums.proofs.Ring.{neg_unique, ⊗-neg, same_from_difference}
use Rattle.sums.proofs.FiniteSum.{total, total_same, total_zero, total_rows}
use Rattle.sums.proofs.AllSymbols.{Finite, Inverses, other_is_zero, constants}

pub data Check : Type 0 where
  levels rows columns : Check

abbrev pub weight : (F : Finite) → Check → ℕ → F.ring.Symbol
weight F levels i = F.ring.e
weight F rows i = F.symbol (i / F.size)
weight F columns i = F.symbol (i % F.size)

module _ (F : Finite) where
  infixl 65 ◌⊕◌
  infixl 70 ◌⊗◌
  infixr 75 ⊖◌
  open F use {ring, size, two, symbol, value, value_symbol, symbol_zero, symbol_one}
  open F.ring use {Symbol, ◌⊕◌, ◌⊗◌, ⊖◌, o, e, ⊕-comm, ⊗-comm, ⊗-over}

  positive : 0 < size
  positive = omega (arith, two)

  -- the weights of all points: each row sums to 0, and so do equal columns' sums, one for each row
  pub weights : (c : Check) → total ring (size * size) (weight F c) ≡ o
  weights levels = total_rows ring size size (weight F levels) ∙ constants F (total ring size (λ b. e))
  weights rows =
      total_rows ring size size (weight F rows)
      ∙ total_same ring size _ (λ a. o) (λ a la.
      total_same ring size _ (λ b. symbol a) (λ b lb. ap symbol (mul-add-div positive a b ∙ ap (λ k. a + k) (div-eq_of_lt lb) ∙ add-zero a)) ∙ constants F (symbol a))
      ∙ total_zero ring size
  weights columns =
      total_rows ring size size (weight F columns)
      ∙ total_same ring size _ (λ a. total ring size symbol) (λ a la. total_same ring size _ symbol (λ b lb. ap symbol (mul-add-mod_self_left size a b ∙ mod-eq_of_lt lb)))
      ∙ constants F (total ring size symbol)

  -- two differences that cancel in the levels and under x and y: x is y
  pub same_weight : Inverses F → (x y d d' : Symbol) → d ⊕ d' ≡ o → x ⊗ d ⊕ y ⊗ d' ≡ o → (d ≢ o) → x ≡ y
  same_weight inverse x y d d' cancel cancelled h =
      let other : d' ≡ ⊖ d = neg_unique ring d' d (⊕-comm d' d ∙ cancel) in
      same_from_difference ring x y (other_is_zero F inverse d (x ⊕ ⊖ y) h
      (⊗-over d x (⊖ y)
      ∙ ap (λ s. s ⊕ d ⊗ ⊖ y) (⊗-comm d x)
      ∙ ap (λ s. x ⊗ d ⊕ s) (⊗-neg ring d y ∙ ap (λ s. ⊖ s) (⊗-comm d y) ∙ sym (⊗-neg ring y d) ∙ ap (λ s. y ⊗ s) (sym other))
      ∙ cancelled))

  pub row_below : (i : ℕ) → i < size * size → i / size < size
  row_below i h = (div-lt_iff_lt-mul positive).1 h

  -- cells at points with the same row and column are the same
  pub same_point : (i j : ℕ) → i < size * size → j < size * size → weight F rows i ≡ weight F rows j → weight F columns i ≡ weight F columns j → i ≡ j
  same_point i j li lj r c =
      let same_row : i / size ≡ j / size = sym (value_symbol (i / size) (row_below i li)) ∙ ap value r ∙ value_symbol (j / size) (row_below j lj) in
      let same_column : i % size ≡ j % size = sym (value_symbol (i % size) (mod-lt i positive)) ∙ ap value c ∙ value_symbol (j % size) (mod-lt j positive) in
      sym (div-add-mod i size) ∙ ap (λ a. size * a + i % size) same_row ∙ ap (λ b. size * (j / size) + b) same_column ∙ div-add-mod j size

  -- the weights of the cells 0, 1 and size
  pub rows_0 : weight F rows 0 ≡ o
  rows_0 = ap symbol (div-eq_of_lt positive) ∙ symbol_zero

  pub rows_1 : weight F rows 1 ≡ o
  rows_1 = let h : 1 < size = omega (arith, two) in ap symbol (div-eq_of_lt h) ∙ symbol_zero

  pub rows_size : weight F rows size ≡ e
  rows_size = ap symbol (div_self positive) ∙ symbol_one

  pub columns_0 : weight F columns 0 ≡ o
  columns_0 = ap symbol (mod-eq_of_lt positive) ∙ symbol_zero

  pub columns_1 : weight F columns 1 ≡ e
  columns_1 = let h : 1 < size = omega (arith, two) in ap symbol (mod-eq_of_lt h) ∙ symbol_one

  pub columns_size : weight F columns size ≡ o
  columns_size = ap symbol (mod_self size) ∙ symbol_zero
