-- What the three sums of a word say: it is a code word, one cell is wrong, or no code word is near. Assumes nothing.
use Rattle.std.proofs.Common.{◌≡◌, ℕ, ◌+◌, ◌*◌, ◌%◌, ◌<◌, List, get_or, set, sym, refl, ap, ◌∙◌, subst, ap₂, mod-lt, mod-eq_of_lt, arith}
use Rattle.alphabet.specs.Arithmetic.{Arithmetic, Lawful}
use Rattle.code.specs.Words.{Word, differences}
use Rattle.code.specs.Calls.{Corrects, AllFar}
use Rattle.code.specs.Cells.{below_anywhere}
use Rattle.code.specs.Differences.{differences_self, differences_set}
use Rattle.sums.proofs.Ring.{zero-⊗}
use Rattle.sums.proofs.Symbols.{SymbolOf, same_symbol, ring_of, finite, product_is, sum_is, negative_is}
use Rattle.plane.specs.Plane.{plane_over}
use Rattle.plane.specs.Lines.{SumsOf, Inverts}
use Rattle.plane.specs.declared.three_sums.Sums.{Sums}
use Rattle.plane.specs.Weights.{levels, rows, columns}
use Rattle.plane.specs.CodeWords.{CodeWord, sum_under}
use Rattle.plane.proofs.Loops.{point_inside}
use Rattle.plane.proofs.Near.{point_within, lowered_differs, mended, none_near}
use Rattle.plane.specs.Holds.{levels_are, rows_are, columns_are, word_from, holds_from, word_holds}

module _ (m : Arithmetic) (l : Lawful m) where
  product_inside : (x y r : ℕ) → r ≡ m.product (x % m.size) (y % m.size) → r < m.size
  product_inside x y r is =
      let positive : 0 < m.size = omega (arith, l.two) in
      subst (λ (k : ℕ). k < m.size) (sym is) (l.product_below _ _ (mod-lt x positive) (mod-lt y positive))

  -- two products are the row and the column of a cell
  pub cell_inside : (x y t q a b n : ℕ) → n ≡ m.size * m.size → q ≡ m.size → a ≡ m.product (x % m.size) (t % m.size) → b ≡ m.product (y % m.size) (t % m.size) → q * a + b < n
  cell_inside x y t q a b n whole same a_call b_call = point_inside m.size q a b n same (product_inside x t a a_call) (product_inside y t b b_call) whole

module _ (m : Arithmetic) (l : Lawful m) (word : List ℕ) (fit : Word (plane_over m) word) (sums : Sums) (are : SumsOf m word sums) where
  S : SymbolOf m
  S = sum_under (finite m l) levels word

  A : SymbolOf m
  A = sum_under (finite m l) rows word

  B : SymbolOf m
  B = sum_under (finite m l) columns word

  s_is : sums.levels ≡ S.0
  unfolding S
  s_is = are.levels ∙ levels_are m l word fit.symbols

  a_is : sums.rows ≡ A.0
  unfolding A
  a_is = are.rows ∙ rows_are m l word fit.symbols

  b_is : sums.columns ≡ B.0
  unfolding B
  b_is = are.columns ∙ columns_are m l word fit.symbols

  pub levels_below : sums.levels < m.size
  levels_below = subst (λ (k : ℕ). k < m.size) (sym s_is) S.1

  -- a symbol with an inverse is not 0
  not_zero : (t : ℕ) → Inverts m sums.levels t → S ≡ (ring_of m l).o → ⊥
  not_zero t inverts none =
      let T : SymbolOf m = (t, inverts.below) in
      let one : m.product 0 t ≡ 1 = ap (λ (k : ℕ). m.product k t) (sym (s_is ∙ ap (λ s. s.0) none)) ∙ inverts.one in
      let zero : m.product 0 t ≡ 0 = ap (λ s. s.0) (zero-⊗ (ring_of m l) T) in
      omega arith

  -- the cell to which the sums point, lowered by the levels' sum
  pub mended_corrects : (t a b q d x : ℕ) → Inverts m sums.levels t
      → a ≡ m.product (sums.rows % m.size) (t % m.size) → b ≡ m.product (sums.columns % m.size) (t % m.size) → q ≡ m.size
      → d ≡ m.negative (sums.levels % m.size) → x ≡ m.sum (get_or word (q * a + b) 0 % m.size) (d % m.size)
      → Corrects (plane_over m) word 1 (set word (q * a + b) x)
  unfolding S A B
  mended_corrects t a b q d x inverts a_call b_call q_is d_call x_call =
      let T : SymbolOf m = (t, inverts.below) in
      let k : ℕ = m.size * m.product A.0 t + m.product B.0 t in
      let a_there : a ≡ m.product A.0 t = product_is m l A.0 t sums.rows t a A.1 inverts.below a_is refl a_call in
      let b_there : b ≡ m.product B.0 t = product_is m l B.0 t sums.columns t b B.1 inverts.below b_is refl b_call in
      let place : q * a + b ≡ k = ap (λ (j : ℕ). j * a + b) q_is ∙ ap₂ (λ (i j : ℕ). m.size * i + j) a_there b_there in
      let within : k < m.size * m.size = point_within (finite m l) ((ring_of m l).◌⊗◌ A T) ((ring_of m l).◌⊗◌ B T) in
      let y : ℕ = get_or word k 0 in
      let hy : y < m.size = below_anywhere m.size word (omega (arith, l.two)) fit.symbols k in
      let hn : m.negative S.0 < m.size = l.negative_below S.0 S.1 in
      let d_is : d ≡ m.negative S.0 = negative_is m l S.0 sums.levels d S.1 s_is d_call in
      let x_is : x ≡ m.sum y (m.negative S.0) = sum_is m l y (m.negative S.0) (get_or word (q * a + b) 0) d x hy hn (ap (λ (j : ℕ). get_or word j 0) place) d_is x_call in
      let hx : x < m.size = subst (λ (j : ℕ). j < m.size) (sym x_is) (l.sum_below y (m.negative S.0) hy hn) in
      let inverse : (ring_of m l).◌⊗◌ S T ≡ (ring_of m l).e = same_symbol m _ _ (ap (λ (j : ℕ). m.product j t) (sym s_is) ∙ inverts.one) in
      let lowered : (finite m l).symbol x ≡ (ring_of m l).◌⊕◌ ((finite m l).symbol y) ((ring_of m l).⊖◌ S) =
      same_symbol m _ _ (mod-eq_of_lt hx ∙ x_is ∙ ap (λ (j : ℕ). m.sum j (m.negative S.0)) (sym (mod-eq_of_lt hy))) in
      let code_word : CodeWord (finite m l) (set word k x) = mended (finite m l) word T x fit.whole fit.symbols inverse hx lowered in
      let changed : y ≡ x → ⊥ = λ same. lowered_differs (finite m l) (y, hy) S (not_zero t inverts) (same_symbol m _ _ (sym (same ∙ x_is))) in
      record {
        fit = fit;
        held = ap (λ (j : ℕ). (plane_over m).holds (set word j x)) place ∙ word_holds m l (set word k x) code_word;
        near = ap (λ (j : ℕ). differences word (set word j x)) place ∙ differences_set word k x (omega (arith, within, fit.whole)) changed;
        within = omega arith;
      }

  pub already_corrects : sums.levels ≡ 0 → sums.rows ≡ 0 → sums.columns ≡ 0 → Corrects (plane_over m) word 0 word
  already_corrects s r c = record {
    fit = fit;
    held = holds_from m l word fit.whole fit.symbols (sym are.levels ∙ s) (sym are.rows ∙ r) (sym are.columns ∙ c);
    near = differences_self word;
    within = omega arith;
  }

  pub all_far : sums.levels ≡ 0 → (sums.rows ≡ 0 → sums.columns ≡ 0 → ⊥) → AllFar (plane_over m) word
  unfolding S A B
  all_far s others other t =
      none_near (finite m l) word other fit.whole fit.symbols (same_symbol m _ _ (sym s_is ∙ s))
      (λ all. others (a_is ∙ ap (λ s. s.0) (all rows)) (b_is ∙ ap (λ s. s.0) (all columns))) (word_from m l other t)
