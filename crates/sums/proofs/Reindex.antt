-- A finite sum is the same in another order: an injection of the numbers below n into themselves reindexes it. Assumes nothing.
use Rattle.std.proofs.Common.{◌≡◌, ℕ, zero, suc, ◌<◌, cond, eqb, sym, refl, ap, ◌∙◌, inl, inr, arith}
use Rattle.std.proofs.lemmas.Bool.{cases_eq, cond-true, cond-false, eq-eqb, ne_eqb}
use Rattle.sums.specs.Theorems.{Injection}
use Rattle.sums.proofs.Ring.{Ring, ⊕-undo'}
use Rattle.sums.proofs.FiniteSum.{total, total_same, total_changed}

-- p and n exchanged
swap : (p n : ℕ) → ℕ → ℕ
swap p n i = cond (eqb i p) n (cond (eqb i n) p i)

swap_first : (p n i : ℕ) → i ≡ p → swap p n i ≡ n
unfolding swap
swap_first p n i h = cond-true (eqb i p) n _ (eq-eqb i p h)

swap_second : (p n i : ℕ) → i ≡ n → swap p n i ≡ p
unfolding swap
swap_second p n i h =
    elim (cases_eq i p) [
      | inl same ↦ cond-true (eqb i p) n _ (eq-eqb i p same) ∙ omega arith
      | inr other ↦ cond-false (eqb i p) n _ (ne_eqb i p other) ∙ cond-true (eqb i n) p i (eq-eqb i n h)
    ]

swap_other : (p n i : ℕ) → (i ≡ p → ⊥) → (i ≡ n → ⊥) → swap p n i ≡ i
unfolding swap
swap_other p n i h k = cond-false (eqb i p) n _ (ne_eqb i p h) ∙ cond-false (eqb i n) p i (ne_eqb i n k)

swap_twice : (p n i : ℕ) → swap p n (swap p n i) ≡ i
swap_twice p n i =
    elim (cases_eq i p) [
      | inl first ↦ swap_second p n (swap p n i) (swap_first p n i first) ∙ sym first
      | inr h ↦ elim (cases_eq i n) [
        | inl second ↦ swap_first p n (swap p n i) (swap_second p n i second) ∙ sym second
        | inr k ↦ ap (swap p n) (swap_other p n i h k) ∙ swap_other p n i h k
      ]
    ]

-- an injection, followed by the exchange of its last value with the last number, is one of the numbers before the last
before_last : (n : ℕ) (h : ℕ → ℕ) → Injection (suc n) h → Injection n (λ i. swap (h n) n (h i))
before_last n h inj = record {
  within = λ i l.
      let bound : h i < suc n = inj.within i (omega arith) in
      let other : h i ≡ h n → ⊥ = λ p. let same : i ≡ n = inj.apart i n (omega arith) (omega arith) p in omega arith in
      let last : h n < suc n = inj.within n (omega arith) in
      elim (cases_eq (h i) n) [
        | inl second ↦ let k : swap (h n) n (h i) ≡ h n = swap_second (h n) n (h i) second in omega arith
        | inr k ↦ let stays : swap (h n) n (h i) ≡ h i = swap_other (h n) n (h i) other k in omega arith
      ];
  apart = λ i j li lj p.
      inj.apart i j (omega arith) (omega arith) (sym (swap_twice (h n) n (h i)) ∙ ap (swap (h n) n) p ∙ swap_twice (h n) n (h j));
}

module _ (R : Ring) where
  infixl 65 ◌⊕◌
  infixr 75 ⊖◌
  open R use {Symbol, ◌⊕◌, ⊖◌, ⊕-assoc}

  total_swap : (n p : ℕ) (f : ℕ → Symbol) → p < suc n → total R (suc n) (λ i. f (swap p n i)) ≡ total R (suc n) f
  total_swap n p f h =
      elim (cases_eq p n) [
        | inl last ↦
            total_same R (suc n) _ f (λ i l. ap f (elim (cases_eq i n) [
              | inl here ↦ swap_second p n i here ∙ omega arith
              | inr k ↦ swap_other p n i (λ q. k (q ∙ last)) k
            ]))
        | inr inner ↦
            let below : total R n (λ i. f (swap p n i)) ≡ total R n f ⊕ (f (swap p n p) ⊕ ⊖ f p) =
            total_changed R n p f (λ i. f (swap p n i)) (omega arith) (λ i l ne. ap f (sym (swap_other p n i ne (λ q. omega arith)))) in
            ap (λ x. x ⊕ f (swap p n n)) below
            ∙ ap (λ i. (total R n f ⊕ (f i ⊕ ⊖ f p)) ⊕ f (swap p n n)) (swap_first p n p refl)
            ∙ ap (λ i. (total R n f ⊕ (f n ⊕ ⊖ f p)) ⊕ f i) (swap_second p n n refl)
            ∙ ⊕-assoc (total R n f) (f n ⊕ ⊖ f p) (f p) ∙ ap (λ x. total R n f ⊕ x) (⊕-undo' R (f n) (f p))
      ]

  pub total_reindex : (n : ℕ) (h : ℕ → ℕ) (f : ℕ → Symbol) → Injection n h → total R n (λ i. f (h i)) ≡ total R n f
  total_reindex zero h f inj = refl
  total_reindex (suc n) h f inj =
      let g : ℕ → Symbol = λ i. f (swap (h n) n i) in
      let undone : total R n (λ i. g (swap (h n) n (h i))) ≡ total R n (λ i. f (h i)) = total_same R n _ _ (λ i l. ap f (swap_twice (h n) n (h i))) in
      let below : total R n (λ i. g (swap (h n) n (h i))) ≡ total R n g = total_reindex n (λ i. swap (h n) n (h i)) g (before_last n h inj) in
      ap (λ x. x ⊕ f (h n)) (sym undone ∙ below) ∙ ap (λ i. total R n g ⊕ f i) (sym (swap_second (h n) n n refl)) ∙ total_swap n (h n) f (inj.within n (omega arith))
