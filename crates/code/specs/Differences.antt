-- In how many cells words differ: none means the same word, the triangle law, and a cell in which two words differ. Assumes nothing.
use Rattle.std.specs.Prelude.{◌≡◌, ℕ, zero, suc, ◌+◌, ◌<◌, ◌≤◌, cond, ◌⊎◌, List, [], ◌∷◌, length, ◌==◌, ◌≢◌, slice_index, slice_index_or, slice_set, refl}
use Rattle.std.proofs.Common.{ap, ap₂, sym, ◌∙◌, inl, inr, ⊎_elim, arith}
use Rattle.std.proofs.lemmas.Bool.{eq-eqb, ne_eqb, cases_eq}
use Rattle.code.specs.Words.{differences}

-- what one cell adds
abbrev pub differ : ℕ → ℕ → ℕ
differ x y = cond (x == y) 0 1

pub differ_same : (x y : ℕ) → x ≡ y → differ x y ≡ 0
differ_same x y e = ap {B = ℕ} (λ b. cond b 0 1) (eq-eqb x y e)

pub differ_other : (x y : ℕ) → (x ≢ y) → differ x y ≡ 1
differ_other x y e = ap {B = ℕ} (λ b. cond b 0 1) (ne_eqb x y e)

pub differ_way : (x y : ℕ) → ((x ≡ y) × (differ x y ≡ 0)) ⊎ ((x ≢ y) × (differ x y ≡ 1))
differ_way x y = ⊎_elim (λ e. inl (e, differ_same x y e)) (λ e. inr (e, differ_other x y e)) (cases_eq x y)

pub differ_most : (x y : ℕ) → differ x y ≤ 1
differ_most x y = ⊎_elim (λ w. omega (arith, w.1)) (λ w. omega (arith, w.1)) (differ_way x y)

differ_triangle : (x y z : ℕ) → differ y z ≤ differ x y + differ x z
differ_triangle x y z =
    ⊎_elim
    (λ a. ⊎_elim (λ b. omega (arith, differ_same y z (sym a.0 ∙ b.0))) (λ b. omega (arith, b.1, differ_most y z)) (differ_way x z))
    (λ a. omega (arith, a.1, differ_most y z))
    (differ_way x y)

pub differences_self : (xs : List ℕ) → differences xs xs ≡ 0
differences_self [] = refl
differences_self (x ∷ xs) = omega (arith, differ_same x x refl, differences_self xs)

-- words that differ in no cell are one word
pub same_from_none : (xs ys : List ℕ) → length xs ≡ length ys → differences xs ys ≡ 0 → xs ≡ ys
same_from_none [] [] e d = refl
same_from_none [] (y ∷ ys) e d = absurd (omega arith)
same_from_none (x ∷ xs) [] e d = absurd (omega arith)
same_from_none (x ∷ xs) (y ∷ ys) e d =
    ⊎_elim
    (λ w. ap₂ (λ a b. a ∷ b) w.0 (same_from_none xs ys (omega arith) (omega (arith, w.1))))
    (λ w. absurd (omega (arith, w.1)))
    (differ_way x y)

pub differences_triangle : (xs ys zs : List ℕ) → length xs ≡ length ys → length xs ≡ length zs → differences ys zs ≤ differences xs ys + differences xs zs
differences_triangle [] [] zs e f = omega arith
differences_triangle [] (y ∷ ys) zs e f = absurd (omega arith)
differences_triangle (x ∷ xs) [] zs e f = absurd (omega arith)
differences_triangle (x ∷ xs) (y ∷ ys) [] e f = absurd (omega arith)
differences_triangle (x ∷ xs) (y ∷ ys) (z ∷ zs) e f = omega (arith, differ_triangle x y z, differences_triangle xs ys zs (omega arith) (omega arith))

pub differences_most : (xs ys : List ℕ) → differences xs ys ≤ length xs
differences_most [] ys = omega arith
differences_most (x ∷ xs) [] = omega arith
differences_most (x ∷ xs) (y ∷ ys) = omega (arith, differ_most x y, differences_most xs ys)

-- equality of words is decided
pub cases_word : (xs ys : List ℕ) → (xs ≡ ys) ⊎ (xs ≢ ys)
cases_word xs ys =
    ⊎_elim
    (λ e. ⊎_elim (λ d. inl (same_from_none xs ys e d)) (λ d. inr (λ s. d (ap (differences xs) (sym s) ∙ differences_self xs))) (cases_eq (differences xs ys) 0))
    (λ e. inr (λ s. e (ap length s)))
    (cases_eq (length xs) (length ys))

-- a cell in which v and w differ, which counts one
pub record Differs (v w : List ℕ) : Type 0 where
  pub cell : ℕ
  pub within : cell < length v
  pub apart : slice_index_or v cell 0 ≡ slice_index w cell → ⊥
  pub counts : differences v w ≡ suc (differences (slice_set v cell (slice_index w cell)) w)

pub same_or_differs : (v w : List ℕ) → length v ≡ length w → (v ≡ w) ⊎ Differs v w
same_or_differs [] [] long = inl refl
same_or_differs [] (y ∷ ys) long = absurd (omega arith)
same_or_differs (x ∷ xs) [] long = absurd (omega arith)
same_or_differs (x ∷ xs) (y ∷ ys) long =
    elim (cases_eq x y) [
      | inl head ↦ elim (same_or_differs xs ys (omega arith)) [
        | inl tail ↦ inl (ap₂ (λ a b. a ∷ b) head tail)
        | inr there ↦ inr (record {
          cell = suc there.cell;
          within = omega (arith, there.within);
          apart = there.apart;
          counts = omega (arith, there.counts);
        })
      ]
      | inr other ↦ inr (record {
        cell = 0;
        within = omega arith;
        apart = other;
        counts = omega (arith, differ_other x y other, differ_same y y refl);
      })
    ]

pub differences_set : (w : List ℕ) (k x : ℕ) → k < length w → (slice_index w k ≢ x) → differences w (slice_set w k x) ≡ 1
differences_set [] k x h other = absurd (omega arith)
differences_set (y ∷ ys) zero x h other = omega (arith, differ_other y x other, differences_self ys)
differences_set (y ∷ ys) (suc k) x h other = omega (arith, differ_same y y refl, differences_set ys k x (omega arith) other)
