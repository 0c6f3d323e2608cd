-- What the sums of a word tell of the words of the plane near it. Assumes nothing.
use Rattle.std.proofs.Common.{◌≡◌, ℕ, ◌+◌, ◌*◌, ◌<◌, ◌≤◌, List, length, get_or, set, sym, ap, ◌∙◌, subst, inl, inr, add-zero, mod-eq_of_lt, mul_comm, arith}
use native.Mathlib.Nat.{mul-add-div, mul-add-mod_self_left, div-eq_of_lt}
use lib.Arith.{digits_lt}
use Rattle.std.proofs.lemmas.List.{length-set}
use Rattle.code.specs.Words.{differences}
use Rattle.code.specs.Differences.{same_or_differs}
use Rattle.sums.proofs.Ring.{one-⊗, ⊗-neg, ⊕-undo, zero_from_same}
use Rattle.sums.proofs.AllSymbols.{Finite}
use Rattle.sums.proofs.Lists.{level, sum_set}
use Rattle.code.specs.Cells.{below_set, Below}
use Rattle.plane.specs.Weights.{Check, levels, rows, columns, weight}
use Rattle.plane.specs.CodeWords.{CodeWord, sum_under}
use Rattle.plane.specs.Apart.{not_one}

module _ (F : Finite) where
  infixl 65 ◌⊕◌
  infixl 70 ◌⊗◌
  infixr 75 ⊖◌
  open F use {ring, size, two, symbol, value, value_below, symbol_value}
  open F.ring use {Symbol, ◌⊕◌, ◌⊗◌, ⊖◌, o, e, ⊕-comm, ⊕-zero, ⊕-neg, ⊗-comm, ⊗-assoc, ⊗-one}

  pub point_within : (A B : Symbol) → size * value A + value B < size * size
  point_within A B = subst (λ (j : ℕ). j + value B < size * size) (mul_comm (value A) size) (digits_lt (value_below A) (value_below B))

  -- to lower by a symbol other than 0 is a change
  pub lowered_differs : (a b : Symbol) → (b ≡ o → ⊥) → a ⊕ ⊖ b ≡ a → ⊥
  lowered_differs a b h p = h (sym (⊕-zero b) ∙ ap (λ s. b ⊕ s) (sym (zero_from_same ring a (⊖ b) p)) ∙ ⊕-neg b)

  -- t is the inverse of the levels' sum: the cell at (rows × t, columns × t) lowered by the levels' sum gives a word
  pub mended : (w : List ℕ) (t : Symbol) (x : ℕ) → length w ≡ size * size → Below size w → sum_under F levels w ⊗ t ≡ e → x < size
      → symbol x ≡ level F w (size * value (sum_under F rows w ⊗ t) + value (sum_under F columns w ⊗ t)) ⊕ ⊖ sum_under F levels w
      → CodeWord F (set w (size * value (sum_under F rows w ⊗ t) + value (sum_under F columns w ⊗ t)) x)
  mended w t x long below one hx is =
      let A : Symbol = sum_under F rows w ⊗ t in
      let B : Symbol = sum_under F columns w ⊗ t in
      let k : ℕ = size * value A + value B in
      let h : k < size * size = point_within A B in
      let positive : 0 < size = omega (arith, two) in
      let at_row : weight F rows k ≡ A = ap symbol (mul-add-div positive (value A) (value B) ∙ ap (λ (j : ℕ). value A + j) (div-eq_of_lt (value_below B)) ∙ add-zero (value A)) ∙ symbol_value A in
      let at_column : weight F columns k ≡ B = ap symbol (mul-add-mod_self_left size (value A) (value B) ∙ mod-eq_of_lt (value_below B)) ∙ symbol_value B in
      let by_inverse : (s : Symbol) → s ⊗ t ⊗ sum_under F levels w ≡ s = λ s. ⊗-assoc s t (sum_under F levels w) ∙ ap (λ y. s ⊗ y) (⊗-comm t (sum_under F levels w) ∙ one) ∙ ⊗-one s in
      let share : (c : Check) → weight F c k ⊗ sum_under F levels w ≡ sum_under F c w = elim [
        | levels ↦ one-⊗ ring (sum_under F levels w)
        | rows ↦ ap (λ s. s ⊗ sum_under F levels w) at_row ∙ by_inverse (sum_under F rows w)
        | columns ↦ ap (λ s. s ⊗ sum_under F levels w) at_column ∙ by_inverse (sum_under F columns w)
      ] in
      let change : symbol x ⊕ ⊖ level F w k ≡ ⊖ sum_under F levels w = ap (λ s. s ⊕ ⊖ level F w k) (is ∙ ⊕-comm (level F w k) (⊖ sum_under F levels w)) ∙ ⊕-undo ring (⊖ sum_under F levels w) (level F w k) in
      record {
        whole = length-set w k x ∙ long;
        below = below_set size w k x below hx;
        sums = λ c.
            sum_set F _ (weight F c) w k x long h
            ∙ ap (λ s. sum_under F c w ⊕ s) (ap (λ s. weight F c k ⊗ s) change ∙ ⊗-neg ring (weight F c k) (sum_under F levels w) ∙ ap (λ s. ⊖ s) (share c))
            ∙ ⊕-neg (sum_under F c w);
      }

  -- the levels sum to 0 but not all sums are: every word is two cells away
  pub none_near : (w c : List ℕ) → length w ≡ size * size → Below size w → sum_under F levels w ≡ o → (((k : Check) → sum_under F k w ≡ o) → ⊥) → CodeWord F c → 2 ≤ differences w c
  none_near w c long below none not word =
      let same_length : length w ≡ length c = long ∙ sym word.whole in
      elim (same_or_differs w c same_length) [
        | inl same ↦ absurd (not (λ k. ap (sum_under F k) same ∙ word.sums k))
        | inr d ↦ elim (same_or_differs (set w d.cell (get_or c d.cell 0)) c (length-set w d.cell (get_or c d.cell 0) ∙ same_length)) [
          | inl one ↦ absurd (not_one F w c long below none word d one)
          | inr d' ↦ omega (arith, d.counts, d'.counts)
        ]
      ]
