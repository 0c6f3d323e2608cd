-- The check cells 0, 1 and q of a word of the plane solved from its sums. Assumes nothing.
use Rattle.std.specs.Prelude.{◌≡◌, ℕ, ◌*◌, ◌<◌, List, length, set, ◌≢◌, slice_index, slice_index_or, slice_set}
use Rattle.std.proofs.Math.Path.{refl, ap}
use Rattle.std.proofs.Common.{◌∙◌, arith}
use Rattle.std.proofs.lemmas.List.{length-set, get_or-set_other}
use Rattle.plane.specs.Information.{two_rows}
use Rattle.sums.proofs.Ring.{neg_zero}
use Rattle.sums.proofs.AllSymbols.{Finite}
use Rattle.sums.proofs.Lists.{level, sum_set_zero, sum_set_one}
use Rattle.code.specs.Cells.{below_set, Below}
use Rattle.plane.specs.Weights.{Check, levels, rows, columns, weight, rows_0, rows_1, rows_size, columns_0, columns_1, columns_size}
use Rattle.plane.specs.CodeWords.{CodeWord, sum_under}

module _ (F : Finite) where
  infixl 65 ◌⊕◌
  infixr 75 ⊖◌
  open F use {ring, size, two, symbol, value, value_below, symbol_value, symbol_zero}
  open F.ring use {◌⊕◌, ⊖◌, o, e, ⊕-assoc, ⊕-neg, ⊕-zero}

  -- the cell k set to minus a sum
  fill : Check → ℕ → List ℕ → List ℕ
  fill c k w = slice_set w k (value (⊖ sum_under F c w))

  fill_length : (c : Check) (k : ℕ) (w : List ℕ) → length (fill c k w) ≡ length w
  unfolding fill
  fill_length c k w = length-set w k (value (⊖ sum_under F c w))

  fill_below : (c : Check) (k : ℕ) (w : List ℕ) → Below size w → Below size (fill c k w)
  unfolding fill
  fill_below c k w h = below_set size w k (value (⊖ sum_under F c w)) h (value_below (⊖ sum_under F c w))

  fill_other : (c : Check) (k : ℕ) (w : List ℕ) (i : ℕ) → (i ≢ k) → slice_index (fill c k w) i ≡ slice_index w i
  unfolding fill
  fill_other c k w i h = get_or-set_other w k i (value (⊖ sum_under F c w)) 0 h

  -- that adds it to the sums in which the cell has weight 1
  fill_adds : (c c' : Check) (k : ℕ) (w : List ℕ) → length w ≡ size * size → k < size * size → weight F c' k ≡ e → slice_index w k ≡ 0 → sum_under F c' (fill c k w) ≡ sum_under F c' w ⊕ ⊖ sum_under F c w
  unfolding fill
  fill_adds c c' k w long h one blank =
      sum_set_one F _ (weight F c') w k (value (⊖ sum_under F c w)) long h one
      ∙ ap (λ s. sum_under F c' w ⊕ (s ⊕ ⊖ level F w k)) (symbol_value (⊖ sum_under F c w))
      ∙ ap (λ s. sum_under F c' w ⊕ (⊖ sum_under F c w ⊕ s)) (ap (λ s. ⊖ s) (ap symbol blank ∙ symbol_zero) ∙ neg_zero ring)
      ∙ ap (λ s. sum_under F c' w ⊕ s) (⊕-zero (⊖ sum_under F c w))

  -- that makes the sum 0
  fill_solves : (c : Check) (k : ℕ) (w : List ℕ) → length w ≡ size * size → k < size * size → weight F c k ≡ e → slice_index w k ≡ 0 → sum_under F c (fill c k w) ≡ o
  fill_solves c k w long h one blank = fill_adds c c k w long h one blank ∙ ⊕-neg (sum_under F c w)

  -- and keeps the sums in which the cell has weight 0
  fill_keeps : (c c' : Check) (k : ℕ) (w : List ℕ) → length w ≡ size * size → k < size * size → weight F c' k ≡ o → sum_under F c' (fill c k w) ≡ sum_under F c' w
  unfolding fill
  fill_keeps c c' k w long h none = sum_set_zero F _ (weight F c') w k (value (⊖ sum_under F c w)) long h none

  pub size_below : size < size * size
  size_below = omega (arith, two, two_rows size two)

  -- the cells size, 1 and 0 filled, one after the other
  pub solved : List ℕ → List ℕ
  solved w = fill levels 0 (fill columns 1 (fill rows size w))

  pub solved_other : (w : List ℕ) (i : ℕ) → (i ≢ 0) → (i ≢ 1) → (i ≢ size) → slice_index (solved w) i ≡ slice_index w i
  unfolding solved
  solved_other w i n0 n1 nq = fill_other levels 0 (fill columns 1 (fill rows size w)) i n0 ∙ fill_other columns 1 (fill rows size w) i n1 ∙ fill_other rows size w i nq

  module _ (w : List ℕ) (long : length w ≡ size * size) (blank_0 : slice_index_or w 0 0 ≡ 0) (blank_1 : slice_index_or w 1 0 ≡ 0) (blank_size : slice_index_or w size 0 ≡ 0) where
    h0 : 0 < size * size
    h0 = omega (arith, size_below)

    h1 : 1 < size * size
    h1 = omega (arith, size_below, two)

    w₁ : List ℕ
    w₁ = fill rows size w

    long₁ : length w₁ ≡ size * size
    unfolding w₁
    long₁ = fill_length rows size w ∙ long

    long₂ : length (fill columns 1 w₁) ≡ size * size
    long₂ = fill_length columns 1 w₁ ∙ long₁

    blank₁ : slice_index_or w₁ 1 0 ≡ 0
    unfolding w₁
    blank₁ = fill_other rows size w 1 (λ p. omega (arith, two)) ∙ blank_1

    blank₂ : slice_index_or (fill columns 1 w₁) 0 0 ≡ 0
    unfolding w₁
    blank₂ = fill_other columns 1 w₁ 0 (λ p. omega arith) ∙ fill_other rows size w 0 (λ p. omega (arith, two)) ∙ blank_0

    solved_sums : (c : Check) → sum_under F c (solved w) ≡ o
    unfolding solved w₁
    solved_sums levels = fill_solves levels 0 (fill columns 1 w₁) long₂ h0 refl blank₂
    solved_sums rows =
        fill_keeps levels rows 0 (fill columns 1 w₁) long₂ h0 (rows_0 F) ∙ fill_keeps columns rows 1 w₁ long₁ h1 (rows_1 F) ∙ fill_solves rows size w long size_below (rows_size F) blank_size
    solved_sums columns = fill_keeps levels columns 0 (fill columns 1 w₁) long₂ h0 (columns_0 F) ∙ fill_solves columns 1 w₁ long₁ h1 (columns_1 F) blank₁

    pub solved_word : Below size w → CodeWord F (solved w)
    unfolding solved w₁
    solved_word below = record {
      whole = fill_length levels 0 (fill columns 1 w₁) ∙ long₂;
      below = fill_below levels 0 (fill columns 1 w₁) (fill_below columns 1 w₁ (fill_below rows size w below));
      sums = solved_sums;
    }

    -- the check cells from the sums of the word before they are filled
    pub solved_at_once : solved w ≡ set (slice_set (slice_set w size (value (⊖ sum_under F rows w))) 1 (value (⊖ sum_under F columns w))) 0
        (value (⊖ (sum_under F levels w ⊕ (⊖ sum_under F rows w ⊕ ⊖ sum_under F columns w))))
    unfolding solved fill w₁
    solved_at_once =
        let same : sum_under F columns w₁ ≡ sum_under F columns w = fill_keeps rows columns size w long size_below (columns_size F) in
        let all : sum_under F levels (fill columns 1 w₁) ≡ sum_under F levels w ⊕ (⊖ sum_under F rows w ⊕ ⊖ sum_under F columns w) =
        fill_adds columns levels 1 w₁ long₁ h1 refl blank₁
        ∙ ap (λ s. s ⊕ ⊖ sum_under F columns w₁) (fill_adds rows levels size w long size_below refl blank_size)
        ∙ ap (λ s. (sum_under F levels w ⊕ ⊖ sum_under F rows w) ⊕ ⊖ s) same
        ∙ ⊕-assoc (sum_under F levels w) (⊖ sum_under F rows w) (⊖ sum_under F columns w) in
        ap (λ s. set (fill columns 1 w₁) 0 (value (⊖ s))) all
        ∙ ap (λ s. set (slice_set w₁ 1 (value (⊖ s))) 0 (value (⊖ (sum_under F levels w ⊕ (⊖ sum_under F rows w ⊕ ⊖ sum_under F columns w))))) same
