-- Finite sums in a ring, of a function at the numbers below n. Assumes nothing.
use Rattle.std.proofs.Common.{◌≡◌, ℕ, zero, suc, ◌+◌, ◌*◌, ◌<◌, sym, refl, ap, ◌∙◌, inl, inr, add-zero, add-suc, mul-zero, mul-suc, arith}
use Rattle.std.proofs.lemmas.Bool.{cases_eq}
use Rattle.sums.proofs.Ring.{Ring, ⊕-middle, ⊕-right-comm, ⊕-replace, ⊗-zero}

abbrev pub total : (R : Ring) → ℕ → (ℕ → R.Symbol) → R.Symbol
total R zero f = R.o
total R (suc n) f = R.◌⊕◌ (total R n f) (f n)

module _ (R : Ring) where
  infixl 65 ◌⊕◌
  infixl 70 ◌⊗◌
  infixr 75 ⊖◌
  open R use {Symbol, ◌⊕◌, ◌⊗◌, ⊖◌, o, ⊕-assoc, ⊕-zero, ⊗-over}

  pub total_same : (n : ℕ) (f g : ℕ → Symbol) → ((i : ℕ) → i < n → f i ≡ g i) → total R n f ≡ total R n g
  total_same zero f g h = refl
  total_same (suc n) f g h = ap (λ x. x ⊕ f n) (total_same n f g (λ i l. h i (omega arith))) ∙ ap (λ x. total R n g ⊕ x) (h n (omega arith))

  pub total_zero : (n : ℕ) → total R n (λ i. o) ≡ o
  total_zero zero = refl
  total_zero (suc n) = ⊕-zero (total R n (λ i. o)) ∙ total_zero n

  pub total-⊕ : (n : ℕ) (f g : ℕ → Symbol) → total R n (λ i. f i ⊕ g i) ≡ total R n f ⊕ total R n g
  total-⊕ zero f g = sym (⊕-zero o)
  total-⊕ (suc n) f g = ap (λ x. x ⊕ (f n ⊕ g n)) (total-⊕ n f g) ∙ ⊕-middle R (total R n f) (total R n g) (f n) (g n)

  pub total-⊗ : (n : ℕ) (c : Symbol) (f : ℕ → Symbol) → total R n (λ i. c ⊗ f i) ≡ c ⊗ total R n f
  total-⊗ zero c f = sym (⊗-zero R c)
  total-⊗ (suc n) c f = ap (λ x. x ⊕ c ⊗ f n) (total-⊗ n c f) ∙ sym (⊗-over c (total R n f) (f n))

  pub total_more : (n k : ℕ) (f : ℕ → Symbol) → total R (n + k) f ≡ total R n f ⊕ total R k (λ j. f (n + j))
  total_more n zero f = rw add-zero (sym (⊕-zero (total R n f)))
  total_more n (suc k) f = rw add-suc (ap (λ x. x ⊕ f (n + k)) (total_more n k f) ∙ ⊕-assoc (total R n f) (total R k (λ j. f (n + j))) (f (n + k)))

  -- n rows of q are summed row by row
  pub total_rows : (q n : ℕ) (f : ℕ → Symbol) → total R (q * n) f ≡ total R n (λ a. total R q (λ b. f (q * a + b)))
  total_rows q zero f = rw mul-zero refl
  total_rows q (suc n) f = rw mul-suc (total_more (q * n) q f ∙ ap (λ x. x ⊕ total R q (λ b. f (q * n + b))) (total_rows q n f))

  -- two functions that differ at most at k
  pub total_changed : (n k : ℕ) (f g : ℕ → Symbol) → k < n → ((i : ℕ) → i < n → (i ≡ k → ⊥) → f i ≡ g i) → total R n g ≡ total R n f ⊕ (g k ⊕ ⊖ f k)
  total_changed zero k f g h same = absurd (omega arith)
  total_changed (suc n) k f g h same =
      elim (cases_eq k n) [
        | inl here ↦
            let below : total R n f ≡ total R n g = total_same n f g (λ i l. same i (omega arith) (λ p. omega arith)) in
            ap (λ x. x ⊕ g n) (sym below) ∙ sym (⊕-replace R (total R n f) (f n) (g n)) ∙ ap (λ i. (total R n f ⊕ f n) ⊕ (g i ⊕ ⊖ f i)) (sym here)
        | inr before ↦
            let below : total R n g ≡ total R n f ⊕ (g k ⊕ ⊖ f k) = total_changed n k f g (omega arith) (λ i l ne. same i (omega arith) ne) in
            ap (λ x. x ⊕ g n) below ∙ ⊕-right-comm R (total R n f) (g k ⊕ ⊖ f k) (g n) ∙ ap (λ x. (total R n f ⊕ x) ⊕ (g k ⊕ ⊖ f k)) (sym (same n (omega arith) (λ p. before (sym p))))
      ]

  -- rows first or columns first
  pub total_exchanged : (n k : ℕ) (f : ℕ → ℕ → Symbol) → total R n (λ a. total R k (λ b. f a b)) ≡ total R k (λ b. total R n (λ a. f a b))
  total_exchanged zero k f = sym (total_zero k)
  total_exchanged (suc n) k f = ap (λ x. x ⊕ total R k (f n)) (total_exchanged n k f) ∙ sym (total-⊕ k (λ b. total R n (λ a. f a b)) (f n))
