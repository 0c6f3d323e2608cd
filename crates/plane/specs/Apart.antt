-- Two different words of the plane differ in at least three cells. Assumes nothing.
use Rattle.std.specs.Prelude.{◌≡◌, ℕ, ◌*◌, ◌<◌, ◌≤◌, List, length, set, ◌≢◌, slice_index, slice_set, refl}
use Rattle.std.proofs.Common.{sym, ap, ◌∙◌, inl, inr, arith}
use Rattle.std.proofs.lemmas.List.{length-set, get_or-set_same}
use Rattle.code.specs.Words.{differences}
use Rattle.code.specs.Differences.{Differs, same_or_differs}
use Rattle.sums.proofs.Ring.{zero-⊕, one-⊗, same_from_difference}
use Rattle.sums.proofs.AllSymbols.{Finite, Inverses}
use Rattle.sums.proofs.Lists.{level, same_level, sum_set, level_kept}
use Rattle.code.specs.Cells.{Below}
use Rattle.plane.specs.Weights.{Check, levels, rows, columns, weight, same_weight, same_point}
use Rattle.plane.specs.CodeWords.{CodeWord, sum_under}

module _ (F : Finite) where
  infixl 65 ◌⊕◌
  infixl 70 ◌⊗◌
  infixr 75 ⊖◌
  open F use {ring, size, symbol}
  open F.ring use {Symbol, ◌⊕◌, ◌⊗◌, ⊖◌, o, e}

  -- no word becomes another by one cell, even if only the levels sum to 0
  pub not_one : (v w : List ℕ) → length v ≡ size * size → Below size v → sum_under F levels v ≡ o → CodeWord F w → (d : Differs v w) → slice_set v d.cell (slice_index w d.cell) ≢ w
  not_one v w long below zero word d is =
      d.apart (sym (level_kept F _ (weight F levels) v d.cell (slice_index w d.cell) long (below d.cell d.within) (word.below d.cell (omega (arith, long, d.within, word.whole))) (omega (arith, long, d.within)) refl zero
      (ap (sum_under F levels) is ∙ word.sums levels)))

  not_two : Inverses F → (v w : List ℕ) → CodeWord F v → CodeWord F w → (d : Differs v w) (d' : Differs (slice_set v d.cell (slice_index w d.cell)) w)
      → slice_set (slice_set v d.cell (slice_index w d.cell)) d'.cell (slice_index w d'.cell) ≢ w
  not_two inverse v w vw ww d d' is =
      let i : ℕ = d.cell in
      let j : ℕ = d'.cell in
      let v' : List ℕ = set v i (slice_index w i) in
      let long : length v' ≡ size * size = length-set v i (slice_index w i) ∙ vw.whole in
      let li : i < size * size = omega (arith, d.within, vw.whole) in
      let lj : j < size * size = omega (arith, d'.within, long) in
      let D : Symbol = symbol (slice_index w i) ⊕ ⊖ level F v i in
      let D' : Symbol = symbol (slice_index w j) ⊕ ⊖ level F v' j in
      let both : (c : Check) → weight F c i ⊗ D ⊕ weight F c j ⊗ D' ≡ o = λ c.
      ap (λ s. s ⊕ weight F c j ⊗ D') (sym (zero-⊕ ring (weight F c i ⊗ D)) ∙ ap (λ s. s ⊕ weight F c i ⊗ D) (sym (vw.sums c)) ∙ sym (sum_set F _ (weight F c) v i (slice_index w i) vw.whole li))
      ∙ sym (sum_set F _ (weight F c) v' j (slice_index w j) long lj) ∙ ap (sum_under F c) is ∙ ww.sums c in
      let cancel : D ⊕ D' ≡ o = ap (λ s. s ⊕ D') (sym (one-⊗ ring D)) ∙ ap (λ s. e ⊗ D ⊕ s) (sym (one-⊗ ring D')) ∙ both levels in
      let differ : D ≡ o → ⊥ = λ p. d.apart (sym (same_level F (slice_index w i) (slice_index v i) (ww.below i (omega (arith, ww.whole))) (vw.below i d.within) (same_from_difference ring (symbol (slice_index w i)) (level F v i) p))) in
      let same : i ≡ j = same_point F i j li lj (same_weight F inverse (weight F rows i) (weight F rows j) D D' cancel (both rows) differ) (same_weight F inverse (weight F columns i) (weight F columns j) D D' cancel (both columns) differ) in
      d'.apart (ap (λ (k : ℕ). slice_index v' k) (sym same) ∙ get_or-set_same v i (slice_index w i) 0 d.within ∙ ap (λ (k : ℕ). slice_index w k) same)

  pub three_apart : Inverses F → (v w : List ℕ) → CodeWord F v → CodeWord F w → (v ≢ w) → 3 ≤ differences v w
  three_apart inverse v w vw ww other =
      let long : length v ≡ length w = vw.whole ∙ sym ww.whole in
      elim (same_or_differs v w long) [
        | inl same ↦ absurd (other same)
        | inr d ↦ elim (same_or_differs (slice_set v d.cell (slice_index w d.cell)) w (length-set v d.cell (slice_index w d.cell) ∙ long)) [
          | inl one ↦ absurd (not_one v w vw.whole vw.below (vw.sums levels) ww d one)
          | inr d' ↦ elim (same_or_differs (slice_set (slice_set v d.cell (slice_index w d.cell)) d'.cell (slice_index w d'.cell)) w
              (length-set (slice_set v d.cell (slice_index w d.cell)) d'.cell (slice_index w d'.cell) ∙ length-set v d.cell (slice_index w d.cell) ∙ long)) [
                | inl two ↦ absurd (not_two inverse v w vw ww d d' two)
                | inr d'' ↦ omega (arith, d.counts, d'.counts, d''.counts)
              ]
        ]
      ]
