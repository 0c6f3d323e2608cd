-- Weighed sums in a ring: what the change of one place and a shift of all places do to them. Assumes nothing.
use Rattle.std.proofs.Common.{◌≡◌, ℕ, ◌<◌, sym, ap, ◌∙◌}
use Rattle.sums.proofs.Ring.{Ring, ⊗-zero, ⊗-neg}
use Rattle.sums.proofs.FiniteSum.{total, total_same, total-⊕, total-⊗, total_changed}

-- the sum of u 0, u 1 and so on, n of them, each times its weight
unfoldable pub weighed : (R : Ring) → ℕ → (weight u : ℕ → R.Symbol) → R.Symbol
weighed R n weight u = total R n (λ i. R.◌⊗◌ (weight i) (u i))

module _ (R : Ring) (n : ℕ) (weight : ℕ → R.Symbol) where
  infixl 65 ◌⊕◌
  infixl 70 ◌⊗◌
  infixr 75 ⊖◌
  open R use {Symbol, ◌⊕◌, ◌⊗◌, ⊖◌, o, ⊕-zero, ⊗-comm, ⊗-over}

  pub weighed_same : (u v : ℕ → Symbol) → ((i : ℕ) → i < n → u i ≡ v i) → weighed R n weight u ≡ weighed R n weight v
  unfolding weighed
  weighed_same u v same = total_same R n _ _ (λ i l. ap (λ x. weight i ⊗ x) (same i l))

  -- one place changed
  pub weighed_changed : (k : ℕ) (u v : ℕ → Symbol) → k < n → ((i : ℕ) → i < n → (i ≡ k → ⊥) → u i ≡ v i)
      → weighed R n weight v ≡ weighed R n weight u ⊕ weight k ⊗ (v k ⊕ ⊖ u k)
  unfolding weighed
  weighed_changed k u v h same =
      total_changed R n k _ _ h (λ i l ne. ap (λ x. weight i ⊗ x) (same i l ne))
      ∙ ap (λ x. weighed R n weight u ⊕ x) (ap (λ x. weight k ⊗ v k ⊕ x) (sym (⊗-neg R (weight k) (u k))) ∙ sym (⊗-over (weight k) (v k) (⊖ u k)))

  -- the same added at all places, whose weights sum to 0
  pub weighed_shifted : total R n weight ≡ o → (u : ℕ → Symbol) (z : Symbol) → weighed R n weight (λ i. u i ⊕ z) ≡ weighed R n weight u
  unfolding weighed
  weighed_shifted none u z =
      total_same R n _ _ (λ i l. ⊗-over (weight i) (u i) z ∙ ap (λ x. weight i ⊗ u i ⊕ x) (⊗-comm (weight i) z))
      ∙ total-⊕ R n (λ i. weight i ⊗ u i) (λ i. z ⊗ weight i)
      ∙ ap (λ x. weighed R n weight u ⊕ x) (total-⊗ R n z weight ∙ ap (λ x. z ⊗ x) none ∙ ⊗-zero R z)
      ∙ ⊕-zero (weighed R n weight u)
