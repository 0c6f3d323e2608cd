-- The information of a word of the plane put in its place, with 0 in the check cells 0, 1 and q. Assumes nothing.
use Rattle.std.specs.Prelude.{◌≡◌, ℕ, zero, suc, ◌+◌, ◌-◌, ◌*◌, ◌<◌, ◌≤◌, List, ◌∷◌, ◌++◌, length, take, drop, ◌≢◌, slice_index, slice_index_or, refl}
use Rattle.std.proofs.Common.{sym, ◌∙◌, subst, inl, inr}
use Rattle.std.proofs.Math.Path.{ap}
use native.Mathlib.Omega.{arith}
use Rattle.std.proofs.lemmas.List.{length-append, length-take-le, length-drop, get_or_append_left, get_or-append_right, get_or-take, get_or-drop, ext_get_or}
use Rattle.std.proofs.lemmas.Bool.{cases_eq, cases_lt}
use Rattle.code.specs.Words.{symbols_at}
use Rattle.plane.specs.Plane.{information_cells}
use Rattle.code.specs.Cells.{Below, below_anywhere, length_at, slice_index_at}
use Rattle.plane.specs.Information.{two_rows, length_information, information_low, information_high}

-- the information in place, 0 in the check cells
pub spread : ℕ → List ℕ → List ℕ
spread q xs = 0 ∷ 0 ∷ (take (q - 2) xs ++ 0 ∷ drop (q - 2) xs)

pub spread_0 : (q : ℕ) (xs : List ℕ) → slice_index (spread q xs) 0 ≡ 0
unfolding spread
spread_0 q xs = refl

pub spread_1 : (q : ℕ) (xs : List ℕ) → slice_index (spread q xs) 1 ≡ 0
unfolding spread
spread_1 q xs = refl

module _ (q : ℕ) (two : 2 ≤ q) (xs : List ℕ) (long : length xs + 3 ≡ q * q) where
  low_length : length (take (q - 2) xs) ≡ q - 2
  low_length = length-take-le (q - 2) xs (omega (arith, two_rows q two))

  pub spread_length : length (spread q xs) ≡ q * q
  unfolding spread
  spread_length = omega (arith, two_rows q two, length-append (take (q - 2) xs) (0 ∷ drop (q - 2) xs), low_length, length-drop (q - 2) xs)

  spread_low : (k : ℕ) → k + 2 < q → slice_index (spread q xs) (suc (suc k)) ≡ slice_index xs k
  unfolding spread
  spread_low k h = get_or_append_left (take (q - 2) xs) (0 ∷ drop (q - 2) xs) 0 k (omega (arith, low_length)) ∙ get_or-take (q - 2) xs k 0 (omega arith)

  spread_high : (k : ℕ) → q ≤ k + 2 → slice_index (spread q xs) (suc (suc (suc k))) ≡ slice_index xs k
  unfolding spread
  spread_high k h =
      let past : suc k - (q - 2) ≡ suc (k - (q - 2)) = omega arith in
      let back : q - 2 + (k - (q - 2)) ≡ k = omega arith in
      get_or-append_right (take (q - 2) xs) (0 ∷ drop (q - 2) xs) (q - 2) (suc k) 0 low_length (omega arith)
      ∙ ap (λ (j : ℕ). slice_index (0 ∷ drop (q - 2) xs) j) past ∙ get_or-drop (q - 2) xs (k - (q - 2)) 0 ∙ ap (λ (j : ℕ). slice_index xs j) back

  pub spread_check : slice_index_or (spread q xs) q 0 ≡ 0
  unfolding spread
  spread_check =
      let two : q ≡ suc (suc (q - 2)) = omega arith in
      let none : q - 2 - (q - 2) ≡ 0 = omega arith in
      ap (λ (j : ℕ). slice_index (0 ∷ 0 ∷ (take (q - 2) xs ++ 0 ∷ drop (q - 2) xs)) j) two
      ∙ get_or-append_right (take (q - 2) xs) (0 ∷ drop (q - 2) xs) (q - 2) (q - 2) 0 low_length (omega arith)
      ∙ ap (λ (j : ℕ). slice_index (0 ∷ drop (q - 2) xs) j) none

  pub spread_below : Below q xs → Below q (spread q xs)
  spread_below h zero l = rw spread_0 (omega arith)
  spread_below h (suc zero) l = rw spread_1 (omega arith)
  spread_below h (suc (suc k)) l =
      elim (cases_lt (k + 2) q) [
        | inl low ↦ subst (λ (x : ℕ). x < q) (sym (spread_low k low)) (below_anywhere q xs (omega arith) h k)
        | inr high ↦ elim (cases_eq (suc (suc k)) q) [
          | inl check ↦ subst (λ (x : ℕ). x < q) (sym (ap (λ (j : ℕ). slice_index (spread q xs) j) check ∙ spread_check)) (omega arith)
          | inr past ↦
              let next : suc (suc (suc (k - 1))) ≡ suc (suc k) = omega arith in
              subst (λ (j : ℕ). slice_index (spread q xs) j < q) next (subst (λ (x : ℕ). x < q) (sym (spread_high (k - 1) (omega arith))) (below_anywhere q xs (omega arith) h (k - 1)))
        ]
      ]

  -- what agrees with the spread word outside the check cells carries the information
  pub carried : (w : List ℕ) → ((i : ℕ) → (i ≢ 0) → (i ≢ 1) → (i ≢ q) → slice_index w i ≡ slice_index (spread q xs) i) → symbols_at w (information_cells q) ≡ xs
  carried w same =
      let len : length (symbols_at w (information_cells q)) ≡ length xs = omega (arith, length_at w (information_cells q), length_information q two) in
      ext_get_or 0 (symbols_at w (information_cells q)) xs len (λ k h.
      let inside : k < length (information_cells q) = omega (arith, length_at w (information_cells q)) in
      slice_index_at w (information_cells q) k inside
      ∙ elim (cases_lt (k + 2) q) [
        | inl low ↦
            let place : slice_index_or (information_cells q) k 0 ≡ suc (suc k) = information_low q two k low ∙ omega arith in
            ap (λ (j : ℕ). slice_index w j) place ∙ same (suc (suc k)) (λ p. omega arith) (λ p. omega arith) (λ p. omega arith) ∙ spread_low k low
        | inr high ↦
            let place : slice_index_or (information_cells q) k 0 ≡ suc (suc (suc k)) = information_high q two k high (omega (arith, length_information q two)) ∙ omega arith in
            ap (λ (j : ℕ). slice_index w j) place ∙ same (suc (suc (suc k))) (λ p. omega arith) (λ p. omega arith) (λ p. omega arith) ∙ spread_high k high
      ])
