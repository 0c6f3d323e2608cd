-- The information cells of the plane: all but 0, 1 and q, ascending. Assumes nothing.
use Rattle.std.specs.Prelude.{◌≡◌, ℕ, ◌+◌, ◌-◌, ◌*◌, ◌<◌, ◌≤◌, List, length, Some, ◌≢◌, slice_index, slice_index_or}
use Rattle.std.proofs.Common.{sym, ap, ◌∙◌, inl, inr, mul-le-mul_right, arith}
use Rattle.std.proofs.lemmas.List.{length-append, get_or_append_left, get_or-append_right, ext_get_or}
use Rattle.std.proofs.lemmas.Bool.{cases_lt}
use Rattle.std.proofs.lemmas.List.FromFn.{length-range_with_len, get_or-range_with_len}
use Rattle.std.proofs.lemmas.Option.{slice_get-get_or}
use Rattle.code.specs.Words.{symbols_at}
use Rattle.code.specs.Laws.{Ascending}
use Rattle.code.specs.Calls.{item}
use Rattle.code.specs.Bare.{from}
use Rattle.code.specs.Cells.{length_at, slice_index_at}
use Rattle.plane.specs.Plane.{information_cells}

module _ (q : ℕ) (two : 2 ≤ q) where
  pub two_rows : 2 * q ≤ q * q
  two_rows = mul-le-mul_right q two

  pub length_information : length (information_cells q) + 3 ≡ q * q
  length_information =
      omega (arith, two_rows, length-append (from 2 (q - 2)) (from (q + 1) (q * q - (q + 1))), length-range_with_len 2 (q - 2), length-range_with_len (q + 1) (q * q - (q + 1)))

  pub information_low : (k : ℕ) → k + 2 < q → slice_index (information_cells q) k ≡ k + 2
  information_low k h =
      get_or_append_left (from 2 (q - 2)) (from (q + 1) (q * q - (q + 1))) 0 k (omega (arith, length-range_with_len 2 (q - 2))) ∙ get_or-range_with_len 2 (q - 2) k 0 (omega arith) ∙ omega arith

  pub information_high : (k : ℕ) → q ≤ k + 2 → k + 3 < q * q → slice_index (information_cells q) k ≡ k + 3
  information_high k h l =
      get_or-append_right (from 2 (q - 2)) (from (q + 1) (q * q - (q + 1))) (q - 2) k 0 (length-range_with_len 2 (q - 2)) (omega arith)
      ∙ get_or-range_with_len (q + 1) (q * q - (q + 1)) (k - (q - 2)) 0 (omega arith) ∙ omega arith

  pub item_low : (k : ℕ) → k + 2 < q → item (information_cells q) k ≡ Some (k + 2)
  item_low k h = slice_get-get_or (information_cells q) k 0 (omega (arith, two_rows, length_information)) ∙ ap (λ i. Some i) (information_low k h)

  pub item_high : (k : ℕ) → q ≤ k + 2 → k + 3 < q * q → item (information_cells q) k ≡ Some (k + 3)
  item_high k h l = slice_get-get_or (information_cells q) k 0 (omega (arith, length_information)) ∙ ap (λ i. Some i) (information_high k h l)

  pub information_ascends : Ascending (information_cells q)
  information_ascends i j less h =
      elim (cases_lt (j + 2) q) [
        | inl low ↦ omega (arith, information_low i (omega arith), information_low j low)
        | inr high ↦
            let last : j + 3 < q * q = omega (arith, length_information) in
            elim (cases_lt (i + 2) q) [
              | inl low ↦ omega (arith, information_low i low, information_high j high last)
              | inr both ↦ omega (arith, information_high i both (omega arith), information_high j high last)
            ]
      ]

  pub information_within : (i : ℕ) → i < length (information_cells q) → slice_index (information_cells q) i < q * q
  information_within i h =
      elim (cases_lt (i + 2) q) [
        | inl low ↦ omega (arith, information_low i low, two_rows)
        | inr high ↦ let last : i + 3 < q * q = omega (arith, length_information) in omega (arith, information_high i high last)
      ]

  -- words with the same information agree at every cell but 0, 1 and q
  pub same_outside : (v w : List ℕ) → symbols_at v (information_cells q) ≡ symbols_at w (information_cells q) → (i : ℕ) → i < q * q → (i ≢ 0) → (i ≢ 1) → (i ≢ q) → slice_index v i ≡ slice_index w i
  same_outside v w p i h n0 n1 nq =
      elim (cases_lt i q) [
        | inl low ↦ through (i - 2) (omega (arith, length_information, two_rows)) (information_low (i - 2) (omega arith) ∙ omega arith)
        | inr high ↦ through (i - 3) (omega (arith, length_information)) (information_high (i - 3) (omega arith) (omega arith) ∙ omega arith)
      ]
    where
      through : (k : ℕ) → k < length (information_cells q) → slice_index (information_cells q) k ≡ i → slice_index v i ≡ slice_index w i
      through k l is =
          ap (λ (j : ℕ). slice_index v j) (sym is) ∙ sym (slice_index_at v (information_cells q) k l) ∙ ap (λ (xs : List ℕ). slice_index xs k) p
          ∙ slice_index_at w (information_cells q) k l ∙ ap (λ (j : ℕ). slice_index w j) is

  -- words that agree at every cell but 0, 1 and q have the same information
  pub same_information : (v w : List ℕ) → ((i : ℕ) → (i ≢ 0) → (i ≢ 1) → (i ≢ q) → slice_index v i ≡ slice_index w i) → symbols_at v (information_cells q) ≡ symbols_at w (information_cells q)
  same_information v w same =
      ext_get_or 0 (symbols_at v (information_cells q)) (symbols_at w (information_cells q)) (length_at v (information_cells q) ∙ sym (length_at w (information_cells q))) (λ k h.
      let inside : k < length (information_cells q) = omega (arith, length_at v (information_cells q)) in
      let place : ℕ = slice_index_or (information_cells q) k 0 in
      slice_index_at v (information_cells q) k inside
      ∙ elim (cases_lt (k + 2) q) [
        | inl low ↦
            let is : place ≡ k + 2 = information_low k low in
            same place (λ p. omega arith) (λ p. omega arith) (λ p. omega arith)
        | inr high ↦
            let is : place ≡ k + 3 = information_high k high (omega (arith, length_information)) in
            same place (λ p. omega arith) (λ p. omega arith) (λ p. omega arith)
      ]
      ∙ sym (slice_index_at w (information_cells q) k inside))
