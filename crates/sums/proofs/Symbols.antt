-- The symbols of an arithmetic as a type of their own, on which the laws hold with no side condition. Assumes nothing.
use Rattle.std.proofs.Common.{◌≡◌, ℕ, zero, suc, ◌+◌, ◌%◌, ◌<◌, ◌≤◌, sym, refl, ap, ◌∙◌, inl, inr, mod-lt, mod-eq_of_lt, eq-zero-or-pos, add-one, arith}
use mathlib.Core.HLevel.{Σ_prop_path}
use native.Mathlib.Bridge.{le_prop}
use Rattle.alphabet.specs.Arithmetic.{Arithmetic, Lawful}
use Rattle.alphabet.specs.Field.{FieldArithmetic, FieldLaws}
use Rattle.sums.specs.Sums.{sum_of}
use Rattle.sums.specs.Theorems.{Injection}
use Rattle.sums.proofs.Ring.{Ring}
use Rattle.sums.proofs.FiniteSum.{total}
use Rattle.sums.proofs.Reindex.{total_reindex}
use Rattle.sums.proofs.AllSymbols.{Finite, Inverses, constants}

abbrev pub SymbolOf : Arithmetic → Type 0
SymbolOf m = (x : ℕ) × (x < m.size)

pub same_symbol : (m : Arithmetic) (s t : SymbolOf m) → s.0 ≡ t.0 → s ≡ t
same_symbol m s t p = Σ_prop_path (λ x. le_prop) p

abbrev pub ring_of : (m : Arithmetic) → Lawful m → Ring
ring_of m l = record {
  Symbol = SymbolOf m;
  ◌⊕◌ = λ a b. (m.sum a.0 b.0, l.sum_below a.0 b.0 a.1 b.1);
  ◌⊗◌ = λ a b. (m.product a.0 b.0, l.product_below a.0 b.0 a.1 b.1);
  ⊖◌ = λ a. (m.negative a.0, l.negative_below a.0 a.1);
  o = (0, omega (arith, l.two));
  e = (1, omega (arith, l.two));
  ⊕-comm = λ a b. same_symbol m _ _ (l.sum_comm a.0 b.0 a.1 b.1);
  ⊕-assoc = λ a b c. same_symbol m _ _ (l.sum_assoc a.0 b.0 c.0 a.1 b.1 c.1);
  ⊕-zero = λ a. same_symbol m _ _ (l.sum_zero a.0 a.1);
  ⊕-neg = λ a. same_symbol m _ _ (l.sum_negative a.0 a.1);
  ⊗-comm = λ a b. same_symbol m _ _ (l.product_comm a.0 b.0 a.1 b.1);
  ⊗-assoc = λ a b c. same_symbol m _ _ (l.product_assoc a.0 b.0 c.0 a.1 b.1 c.1);
  ⊗-one = λ a. same_symbol m _ _ (l.product_one a.0 a.1);
  ⊗-over = λ a b c. same_symbol m _ _ (l.distributes a.0 b.0 c.0 a.1 b.1 c.1);
}

abbrev pub finite : (m : Arithmetic) → Lawful m → Finite
finite m l = record {
  ring = ring_of m l;
  size = m.size;
  two = l.two;
  symbol = λ i. (i % m.size, mod-lt i (omega (arith, l.two)));
  value = λ s. s.0;
  value_below = λ s. s.1;
  symbol_value = λ s. same_symbol m _ _ (mod-eq_of_lt s.1);
  value_symbol = λ i h. mod-eq_of_lt h;
  symbol_zero = same_symbol m _ _ (mod-eq_of_lt (omega (arith, l.two)));
  symbol_one = same_symbol m _ _ (mod-eq_of_lt (omega (arith, l.two)));
}

pub inverses : (f : FieldArithmetic) (l : FieldLaws f) → Inverses (finite f.arithmetic l.lawful)
inverses f l s h =
    elim (eq-zero-or-pos s.0) [
      | inl none ↦ absurd (h (same_symbol f.arithmetic _ _ none))
      | inr pos ↦ let there = l.inverses s.0 pos s.1 in ((there.0, there.1), same_symbol f.arithmetic _ _ there.3)
    ]

module _ (m : Arithmetic) (l : Lawful m) where
  -- a sum of numbers is the sum of the symbols that they are
  pub sum_of_total : (n : ℕ) (h : ℕ → ℕ) (s : ℕ → SymbolOf m) → ((i : ℕ) → i < n → h i ≡ (s i).0) → sum_of m n h ≡ (total (ring_of m l) n s).0
  sum_of_total zero h s same = refl
  sum_of_total (suc n) h s same =
      ap (λ x. m.sum x (h n)) (sum_of_total n h s (λ i less. same i (omega arith))) ∙ ap (m.sum (total (ring_of m l) n s).0) (same n (omega arith))

  pub sum_of_same : (n : ℕ) (h k : ℕ → ℕ) → ((i : ℕ) → i < n → h i ≡ k i) → sum_of m n h ≡ sum_of m n k
  sum_of_same zero h k same = refl
  sum_of_same (suc n) h k same = ap (λ x. m.sum x (h n)) (sum_of_same n h k (λ i less. same i (omega arith))) ∙ ap (m.sum (sum_of m n k)) (same n (omega arith))

  pub sum_of_below : (n : ℕ) (h : ℕ → ℕ) → ((i : ℕ) → i < n → h i < m.size) → sum_of m n h < m.size
  sum_of_below zero h below = omega (arith, l.two)
  sum_of_below (suc n) h below = l.sum_below (sum_of m n h) (h n) (sum_of_below n h (λ i less. below i (omega arith))) (below n (omega arith))

  -- what a call of an alphabet's product, sum or negative answers at symbols
  pub product_is : (a b x y r : ℕ) → a < m.size → b < m.size → x ≡ a → y ≡ b → r ≡ m.product (x % m.size) (y % m.size) → r ≡ m.product a b
  product_is a b x y r ha hb x_is y_is is =
      is ∙ ap (λ (k : ℕ). m.product (k % m.size) (y % m.size)) x_is ∙ ap (λ (k : ℕ). m.product k (y % m.size)) (mod-eq_of_lt ha)
      ∙ ap (λ (k : ℕ). m.product a (k % m.size)) y_is ∙ ap (m.product a) (mod-eq_of_lt hb)

  pub sum_is : (a b x y r : ℕ) → a < m.size → b < m.size → x ≡ a → y ≡ b → r ≡ m.sum (x % m.size) (y % m.size) → r ≡ m.sum a b
  sum_is a b x y r ha hb x_is y_is is =
      is ∙ ap (λ (k : ℕ). m.sum (k % m.size) (y % m.size)) x_is ∙ ap (λ (k : ℕ). m.sum k (y % m.size)) (mod-eq_of_lt ha)
      ∙ ap (λ (k : ℕ). m.sum a (k % m.size)) y_is ∙ ap (m.sum a) (mod-eq_of_lt hb)

  pub negative_is : (a x r : ℕ) → a < m.size → x ≡ a → r ≡ m.negative (x % m.size) → r ≡ m.negative a
  negative_is a x r ha x_is is = is ∙ ap (λ (k : ℕ). m.negative (k % m.size)) x_is ∙ ap m.negative (mod-eq_of_lt ha)

  -- one more, as a call of an alphabet's sum adds it
  pub sum_of_more : (n : ℕ) (h : ℕ → ℕ) (all x r : ℕ) → ((i : ℕ) → i ≤ n → h i < m.size) → all ≡ sum_of m n h → x ≡ h n → r ≡ m.sum (all % m.size) (x % m.size) → r ≡ sum_of m (n + 1) h
  sum_of_more n h all x r below before here is =
      sum_is (sum_of m n h) (h n) all x r (sum_of_below n h (λ i less. below i (omega arith))) (below n (omega arith)) before here is
      ∙ ap (λ (k : ℕ). sum_of m k h) (sym (add-one n))

  pub equal_cancel : (z : ℕ) → z < m.size → sum_of m m.size (λ i. z) ≡ 0
  equal_cancel z h = sum_of_total m.size _ (λ i. (z, h)) (λ i less. refl) ∙ ap (λ s. s.0) (constants (finite m l) (z, h))

  pub sum_of_reindex : (n : ℕ) (f : ℕ → ℕ) (h : ℕ → ℕ) → ((i : ℕ) → i < n → f i < m.size) → Injection n h → sum_of m n (λ i. f (h i)) ≡ sum_of m n f
  sum_of_reindex n f h below inj =
      let s : ℕ → SymbolOf m = λ i. (finite m l).symbol (f i) in
      sum_of_total n _ (λ i. s (h i)) (λ i less. sym (mod-eq_of_lt (below (h i) (inj.within i less))))
      ∙ ap (λ t. t.0) (total_reindex (ring_of m l) n h s inj)
      ∙ sym (sum_of_total n f s (λ i less. sym (mod-eq_of_lt (below i less))))
