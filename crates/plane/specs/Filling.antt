-- Each filling of the plane's information cells belongs to exactly one word. Assumes nothing.
use Rattle.std.specs.Prelude.{◌≡◌, ℕ, ◌+◌, ◌*◌, ◌<◌, List, length, set, ◌≢◌, slice_index, slice_index_or, slice_set, refl}
use Rattle.std.proofs.Common.{sym, ap, ◌∙◌, inl, inr, arith}
use Rattle.std.proofs.lemmas.List.{length-set, get_or-set_same, get_or-set_other, set-get_or, ext_get_or}
use Rattle.std.proofs.lemmas.Bool.{cases_eq}
use Rattle.code.specs.Words.{symbols_at}
use Rattle.plane.specs.Plane.{information_cells}
use Rattle.plane.specs.Information.{length_information, same_outside}
use Rattle.sums.proofs.AllSymbols.{Finite}
use Rattle.sums.proofs.Lists.{sum_set_zero, level_kept}
use Rattle.code.specs.Cells.{below_set, Below}
use Rattle.plane.specs.Weights.{Check, levels, rows, columns, weight, rows_0, rows_1, rows_size, columns_0, columns_1}
use Rattle.plane.specs.CodeWords.{CodeWord, sum_under}
use Rattle.plane.specs.Spread.{spread, spread_0, spread_1, spread_length, spread_check, spread_below, carried}
use Rattle.plane.specs.Solved.{size_below, solved, solved_other, solved_word}

-- a cell set to what another word has there
nearer : (v w : List ℕ) (k i : ℕ) → k < length v → ((i ≢ k) → slice_index v i ≡ slice_index w i) → slice_index (slice_set v k (slice_index w k)) i ≡ slice_index w i
nearer v w k i h same =
    elim (cases_eq i k) [
      | inl here ↦ ap (λ (j : ℕ). slice_index (slice_set v k (slice_index w k)) j) here ∙ get_or-set_same v k (slice_index w k) 0 h ∙ ap (λ (j : ℕ). slice_index w j) (sym here)
      | inr other ↦ get_or-set_other v k i (slice_index w k) 0 other ∙ same other
    ]

-- a word with the check cells of another, with which it agrees elsewhere
replaced_at : (q : ℕ) (v w : List ℕ) → q < length v → 1 < q → length v ≡ length w → ((i : ℕ) → i < length v → (i ≢ 0) → (i ≢ 1) → (i ≢ q) → slice_index v i ≡ slice_index w i)
    → slice_set (slice_set (slice_set v q (slice_index w q)) 1 (slice_index w 1)) 0 (slice_index w 0) ≡ w
replaced_at q v w hq h1 long same =
    let v₁ : List ℕ = set v q (slice_index w q) in
    let v₂ : List ℕ = set v₁ 1 (slice_index w 1) in
    let l₁ : length v₁ ≡ length v = length-set v q (slice_index w q) in
    let l₂ : length v₂ ≡ length v₁ = length-set v₁ 1 (slice_index w 1) in
    let l₃ : length (slice_set v₂ 0 (slice_index w 0)) ≡ length v₂ = length-set v₂ 0 (slice_index w 0) in
    ext_get_or 0 (slice_set v₂ 0 (slice_index w 0)) w (l₃ ∙ l₂ ∙ l₁ ∙ long) (λ i l.
    nearer v₂ w 0 i (omega arith) (λ n0. nearer v₁ w 1 i (omega arith) (λ n1. nearer v w q i hq (λ nq. same i (omega arith) n0 n1 nq))))

module _ (F : Finite) where
  open F use {size, two}
  open F.ring use {o}

  pub filled : (xs : List ℕ) → length xs ≡ length (information_cells size) → Below size xs → (w : List ℕ) × CodeWord F w × (symbols_at w (information_cells size) ≡ xs)
  filled xs long below =
      let n : length xs + 3 ≡ size * size = omega (arith, length_information size two) in
      let w : List ℕ = spread size xs in (
        solved F w,
        solved_word F w (spread_length size two xs n) (spread_0 size xs) (spread_1 size xs) (spread_check size two xs n) (spread_below size two xs n below),
        carried size two xs n (solved F w) (solved_other F w),
      )

  pub filled_once : (v w : List ℕ) → CodeWord F v → CodeWord F w → symbols_at v (information_cells size) ≡ symbols_at w (information_cells size) → v ≡ w
  filled_once v w vw ww p =
      let h0 : 0 < size * size = omega (arith, (size_below F)) in
      let h1 : 1 < size * size = omega (arith, (size_below F), two) in
      let x₁ : ℕ = slice_index_or w size 0 in
      let x₂ : ℕ = slice_index_or w 1 0 in
      let x₃ : ℕ = slice_index_or w 0 0 in
      let v₁ : List ℕ = set v size x₁ in
      let v₂ : List ℕ = set v₁ 1 x₂ in
      let v₃ : List ℕ = set v₂ 0 x₃ in
      let l₀ : length v ≡ size * size = vw.whole in
      let l₁ : length v₁ ≡ size * size = length-set v size x₁ ∙ l₀ in
      let l₂ : length v₂ ≡ size * size = length-set v₁ 1 x₂ ∙ l₁ in
      let l₃ : length v₃ ≡ size * size = length-set v₂ 0 x₃ ∙ l₂ in
      let last : v₃ ≡ w = replaced_at size v w (omega (arith, (size_below F), l₀)) (omega (arith, two)) (l₀ ∙ sym ww.whole) (λ i l. same_outside size two v w p i (omega (arith, l₀))) in
      let b₁ : x₁ < size = ww.below size (omega (arith, (size_below F), ww.whole)) in
      let b₂ : x₂ < size = ww.below 1 (omega (arith, h1, ww.whole)) in
      let b₃ : x₃ < size = ww.below 0 (omega (arith, h0, ww.whole)) in
      let at_last : (c : Check) → sum_under F c v₃ ≡ o = λ c. ap (sum_under F c) last ∙ ww.sums c in
      let rows₁ : sum_under F rows v₁ ≡ o = sym (sum_set_zero F _ (weight F rows) v₁ 1 x₂ l₁ h1 (rows_1 F)) ∙ sym (sum_set_zero F _ (weight F rows) v₂ 0 x₃ l₂ h0 (rows_0 F)) ∙ at_last rows in
      let e₁ : v₁ ≡ v = unset v size x₁ (level_kept F _ (weight F rows) v size x₁ l₀ (vw.below size (omega (arith, (size_below F), l₀))) b₁ (size_below F) (rows_size F) (vw.sums rows) rows₁) in
      let columns₂ : sum_under F columns v₂ ≡ o = sym (sum_set_zero F _ (weight F columns) v₂ 0 x₃ l₂ h0 (columns_0 F)) ∙ at_last columns in
      let below₁ : Below size v₁ = below_set size v size x₁ vw.below b₁ in
      let e₂ : v₂ ≡ v₁ = unset v₁ 1 x₂ (level_kept F _ (weight F columns) v₁ 1 x₂ l₁ (below₁ 1 (omega (arith, h1, l₁))) b₂ h1 (columns_1 F) (ap (sum_under F columns) e₁ ∙ vw.sums columns) columns₂) in
      let below₂ : Below size v₂ = below_set size v₁ 1 x₂ below₁ b₂ in
      let e₃ : v₃ ≡ v₂ = unset v₂ 0 x₃ (level_kept F _ (weight F levels) v₂ 0 x₃ l₂ (below₂ 0 (omega (arith, h0, l₂))) b₃ h0 refl (ap (sum_under F levels) (e₂ ∙ e₁) ∙ vw.sums levels) (at_last levels)) in
      sym (e₃ ∙ e₂ ∙ e₁) ∙ last
    where
      unset : (u : List ℕ) (k x : ℕ) → x ≡ slice_index u k → slice_set u k x ≡ u
      unset u k x h = ap (set u k) h ∙ set-get_or u k 0
