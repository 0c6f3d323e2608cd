-- Weighed sums of the symbols in a list, and what setting one of them does. Assumes nothing.
use Rattle.std.proofs.Common.{◌≡◌, ℕ, ◌<◌, List, length, get_or, set, sym, ap, ◌∙◌, arith}
use Rattle.std.proofs.lemmas.List.{get_or-set_same, get_or-set_other}
use Rattle.sums.proofs.Ring.{zero-⊕, zero-⊗, one-⊗, same_from_difference}
use Rattle.sums.proofs.AllSymbols.{Finite}
use Rattle.sums.proofs.Weighed.{weighed, weighed_changed}

-- what stands at i, as a symbol
abbrev pub level : (F : Finite) → List ℕ → ℕ → F.ring.Symbol
level F w i = F.symbol (get_or w i 0)

-- the sum of the first n levels, each times its weight
abbrev pub list_sum : (F : Finite) → ℕ → (ℕ → F.ring.Symbol) → List ℕ → F.ring.Symbol
list_sum F n weight w = weighed F.ring n weight (level F w)

-- numbers that are the same symbol
pub same_level : (F : Finite) (x y : ℕ) → x < F.size → y < F.size → F.symbol x ≡ F.symbol y → x ≡ y
same_level F x y hx hy p = sym (F.value_symbol x hx) ∙ ap F.value p ∙ F.value_symbol y hy

module _ (F : Finite) (n : ℕ) (weight : ℕ → F.ring.Symbol) where
  infixl 65 ◌⊕◌
  infixl 70 ◌⊗◌
  infixr 75 ⊖◌
  open F use {ring, size, symbol}
  open F.ring use {Symbol, ◌⊕◌, ◌⊗◌, ⊖◌, o, e, ⊕-zero}

  pub sum_set : (w : List ℕ) (k x : ℕ) → length w ≡ n → k < n → list_sum F n weight (set w k x) ≡ list_sum F n weight w ⊕ weight k ⊗ (symbol x ⊕ ⊖ level F w k)
  sum_set w k x long h =
      let read : get_or (set w k x) k 0 ≡ x = get_or-set_same w k x 0 (omega arith) in
      weighed_changed ring n weight k (level F w) (level F (set w k x)) h (λ i l ne. ap symbol (sym (get_or-set_other w k i x 0 ne)))
      ∙ ap (λ y. list_sum F n weight w ⊕ weight k ⊗ (symbol y ⊕ ⊖ level F w k)) read

  -- at a place of weight 0 nothing changes
  pub sum_set_zero : (w : List ℕ) (k x : ℕ) → length w ≡ n → k < n → weight k ≡ o → list_sum F n weight (set w k x) ≡ list_sum F n weight w
  sum_set_zero w k x long h zero =
      sum_set w k x long h
      ∙ ap (λ s. list_sum F n weight w ⊕ s) (ap (λ s. s ⊗ (symbol x ⊕ ⊖ level F w k)) zero ∙ zero-⊗ ring (symbol x ⊕ ⊖ level F w k))
      ∙ ⊕-zero (list_sum F n weight w)

  pub sum_set_one : (w : List ℕ) (k x : ℕ) → length w ≡ n → k < n → weight k ≡ e → list_sum F n weight (set w k x) ≡ list_sum F n weight w ⊕ (symbol x ⊕ ⊖ level F w k)
  sum_set_one w k x long h one =
      sum_set w k x long h
      ∙ ap (λ s. list_sum F n weight w ⊕ s) (ap (λ s. s ⊗ (symbol x ⊕ ⊖ level F w k)) one ∙ one-⊗ ring (symbol x ⊕ ⊖ level F w k))

  -- a place of weight 1 is set, and both sums are 0: it held that before
  pub level_kept : (w : List ℕ) (k x : ℕ) → length w ≡ n → get_or w k 0 < size → x < size → k < n → weight k ≡ e
      → list_sum F n weight w ≡ o → list_sum F n weight (set w k x) ≡ o → x ≡ get_or w k 0
  level_kept w k x long below hx h one before after =
      let same : symbol x ⊕ ⊖ level F w k ≡ o =
      sym (zero-⊕ ring (symbol x ⊕ ⊖ level F w k)) ∙ ap (λ s. s ⊕ (symbol x ⊕ ⊖ level F w k)) (sym before) ∙ sym (sum_set_one w k x long h one) ∙ after in
      same_level F x (get_or w k 0) hx below (same_from_difference ring (symbol x) (level F w k) same)
