-- The plane's code words are the words of symbols whose three sums are 0. Assumes nothing.
use Rattle.std.specs.Prelude.{◌≡◌, ℕ, ◌*◌, ◌/◌, ◌%◌, true, List, length, ◌==◌, slice_index}
use Rattle.std.proofs.Math.Path.{sym, ap}
use Rattle.std.proofs.Common.{◌∙◌, mod-lt, mod-eq_of_lt, arith}
use Rattle.std.proofs.lemmas.Bool.{and_parts, and_from, eqb-true, eq-eqb}
use Rattle.alphabet.specs.Arithmetic.{Arithmetic, Lawful}
use Rattle.code.specs.Bare.{all_below}
use Rattle.code.specs.Cells.{Below, below_anywhere, below_each, each_below}
use Rattle.plane.specs.Plane.{levels_sum, rows_sum, columns_sum, plane_over}
use Rattle.sums.proofs.Ring.{one-⊗}
use Rattle.sums.proofs.Weighed.{weighed}
use Rattle.sums.proofs.Lists.{level}
use Rattle.plane.specs.Weights.{levels, rows, columns, row_below}
use Rattle.plane.specs.CodeWords.{CodeWord, sum_under}
use Rattle.sums.proofs.Symbols.{same_symbol, ring_of, finite, sum_of_total}

module _ (m : Arithmetic) (l : Lawful m) where
  level_is : (w : List ℕ) → Below m.size w → (i : ℕ) → slice_index w i % m.size ≡ slice_index w i
  level_is w h i = mod-eq_of_lt (below_anywhere m.size w (omega (arith, l.two)) h i)

  pub levels_are : (w : List ℕ) → Below m.size w → levels_sum m w ≡ (sum_under (finite m l) levels w).0
  unfolding weighed
  levels_are w h = sum_of_total m l (m.size * m.size) _ _ (λ i less.
      sym (ap (λ s. s.0) (one-⊗ (ring_of m l) (level (finite m l) w i)) ∙ level_is w h i))

  pub rows_are : (w : List ℕ) → Below m.size w → rows_sum m w ≡ (sum_under (finite m l) rows w).0
  unfolding weighed
  rows_are w h = sum_of_total m l (m.size * m.size) _ _ (λ i less.
      sym (ap (λ (x : ℕ). m.product (i / m.size % m.size) x) (level_is w h i)
      ∙ ap (λ (a : ℕ). m.product a (slice_index w i)) (mod-eq_of_lt (row_below (finite m l) i less))))

  pub columns_are : (w : List ℕ) → Below m.size w → columns_sum m w ≡ (sum_under (finite m l) columns w).0
  unfolding weighed
  columns_are w h = sum_of_total m l (m.size * m.size) _ _ (λ i less.
      sym (ap (λ (x : ℕ). m.product (i % m.size % m.size) x) (level_is w h i)
      ∙ ap (λ (b : ℕ). m.product b (slice_index w i)) (mod-eq_of_lt (mod-lt i (omega (arith, l.two))))))

  pub word_from : (w : List ℕ) → (plane_over m).holds w ≡ true → CodeWord (finite m l) w
  word_from w t =
      let p = and_parts (length w == m.size * m.size) _ t in
      let r = and_parts (all_below m.size w) _ p.1 in
      let s = and_parts (levels_sum m w == 0) _ r.1 in
      let u = and_parts (rows_sum m w == 0) _ s.1 in
      let below : Below m.size w = below_each m.size w r.0 in
      record {
        whole = eqb-true (length w) (m.size * m.size) p.0;
        below = below;
        sums = elim [
          | levels ↦ same_symbol m _ _ (sym (levels_are w below) ∙ eqb-true (levels_sum m w) 0 s.0)
          | rows ↦ same_symbol m _ _ (sym (rows_are w below) ∙ eqb-true (rows_sum m w) 0 u.0)
          | columns ↦ same_symbol m _ _ (sym (columns_are w below) ∙ eqb-true (columns_sum m w) 0 u.1)
        ];
      }

  pub holds_from : (w : List ℕ) → length w ≡ m.size * m.size → Below m.size w
      → levels_sum m w ≡ 0 → rows_sum m w ≡ 0 → columns_sum m w ≡ 0 → (plane_over m).holds w ≡ true
  holds_from w long below a b c =
      and_from _ _ (eq-eqb _ _ long) (and_from _ _ (each_below m.size w below)
      (and_from _ _ (eq-eqb (levels_sum m w) 0 a) (and_from _ _ (eq-eqb (rows_sum m w) 0 b) (eq-eqb (columns_sum m w) 0 c))))

  pub word_holds : (w : List ℕ) → CodeWord (finite m l) w → (plane_over m).holds w ≡ true
  word_holds w word =
      holds_from w word.whole word.below
      (levels_are w word.below ∙ ap (λ s. s.0) (word.sums levels))
      (rows_are w word.below ∙ ap (λ s. s.0) (word.sums rows))
      (columns_are w word.below ∙ ap (λ s. s.0) (word.sums columns))
