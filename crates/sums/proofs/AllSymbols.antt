-- Sums over all symbols of a finite ring. Assumes nothing.
use Rattle.std.proofs.Common.{◌≡◌, ℕ, ◌<◌, ◌≤◌, sym, ap, ◌∙◌}
use Rattle.sums.proofs.Ring.{Ring, ⊗-zero, ⊕-cancel, zero_from_same, zero_from_product}
use Rattle.sums.proofs.FiniteSum.{total, total_same, total-⊕, total-⊗}
use Rattle.sums.proofs.Reindex.{total_reindex}

-- a ring of size symbols, which are numbered
pub record Finite : Type 1 where
  pub ring : Ring
  pub size : ℕ
  pub two : 2 ≤ size
  pub symbol : ℕ → ring.Symbol
  pub value : ring.Symbol → ℕ
  pub value_below : (s : ring.Symbol) → value s < size
  pub symbol_value : (s : ring.Symbol) → symbol (value s) ≡ s
  pub value_symbol : (i : ℕ) → i < size → value (symbol i) ≡ i
  pub symbol_zero : symbol 0 ≡ ring.o
  pub symbol_one : symbol 1 ≡ ring.e

-- each symbol but 0 has an inverse
abbrev pub Inverses : Finite → Type 0
Inverses F = (s : F.ring.Symbol) → (s ≡ F.ring.o → ⊥) → (t : F.ring.Symbol) × (F.ring.◌⊗◌ s t ≡ F.ring.e)

module _ (F : Finite) where
  infixl 65 ◌⊕◌
  infixl 70 ◌⊗◌
  open F use {ring, size, symbol, value, value_below, symbol_value, value_symbol}
  open F.ring use {Symbol, ◌⊕◌, ◌⊗◌, o, e, ⊗-one}

  -- two symbols with a product of 0, of which one is not 0
  pub other_is_zero : Inverses F → (g a : Symbol) → (g ≡ o → ⊥) → g ⊗ a ≡ o → a ≡ o
  other_is_zero inverse g a h p = let t = inverse g h in zero_from_product ring g t.0 a t.1 p

  -- a change of the symbols into symbols that keeps them apart permutes them
  pub total_permuted : (φ : Symbol → Symbol) → ((s t : Symbol) → φ s ≡ φ t → s ≡ t) → total ring size (λ i. φ (symbol i)) ≡ total ring size symbol
  total_permuted φ apart =
      total_same ring size _ _ (λ i l. sym (symbol_value (φ (symbol i))))
      ∙ total_reindex ring size (λ i. value (φ (symbol i))) symbol (record {
        within = λ i l. value_below (φ (symbol i));
        apart = λ i j li lj p.
            let same : φ (symbol i) ≡ φ (symbol j) = sym (symbol_value (φ (symbol i))) ∙ ap symbol p ∙ symbol_value (φ (symbol j)) in
            sym (value_symbol i li) ∙ ap value (apart (symbol i) (symbol j) same) ∙ value_symbol j lj;
      })

  -- 1, as often as there are symbols, sums to 0
  pub ones : total ring size (λ i. e) ≡ o
  ones =
      zero_from_same ring (total ring size symbol) (total ring size (λ i. e))
      (sym (total-⊕ ring size symbol (λ i. e)) ∙ total_permuted (λ s. s ⊕ e) (λ s t p. ⊕-cancel ring s t e p))

  -- and so does any symbol
  pub constants : (z : Symbol) → total ring size (λ i. z) ≡ o
  constants z = total_same ring size _ _ (λ i l. sym (⊗-one z)) ∙ total-⊗ ring size z (λ i. e) ∙ ap (λ x. z ⊗ x) ones ∙ ⊗-zero ring z
