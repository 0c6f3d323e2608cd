-- A symbol has one inverse at most, so the first that a search finds is the field's. Assumes nothing.
use Rattle.std.proofs.Common.{◌≡◌, ◌≢◌, ℕ, ◌%◌, ◌<◌, ◌≤◌, Option, Some, None, sym, ap, ◌∙◌, subst, inl, inr, mod-lt, mod-eq_of_lt, eq-zero-or-pos, arith}
use Rattle.std.specs.Option.{MatchOption}
use Rattle.alphabet.specs.Arithmetic.{Arithmetic, Lawful}
use Rattle.alphabet.specs.Field.{FieldArithmetic, FieldLaws}

-- what a search of the first n numbers for one whose product with a is 1 finds
abbrev pub Found : (m : Arithmetic) (a n : ℕ) → Option ℕ → Type 0
Found m a n r =
    MatchOption r
    ((k : ℕ) → 0 ≤ k → k < n → m.product a (k % m.size) ≢ 1)
    (λ i. (0 ≤ i) × (i < n) × (m.product a (i % m.size) ≡ 1) × ((k : ℕ) → 0 ≤ k → k < i → m.product a (k % m.size) ≢ 1))

module _ (m : Arithmetic) (l : Lawful m) where
  pos : 0 < m.size
  pos = omega (arith, l.two)

  one : 1 < m.size
  one = omega (arith, l.two)

  times_zero : (a : ℕ) → a < m.size → m.product a 0 ≡ 0
  times_zero a ha =
      let z : ℕ = m.product a 0 in
      let hz : z < m.size = l.product_below a 0 ha pos in
      let double : m.sum z z ≡ z = sym (l.distributes a 0 0 ha pos pos) ∙ ap (m.product a) (l.sum_zero 0 pos) in
      sym (l.sum_zero z hz) ∙ ap (m.sum z) (sym (l.sum_negative z hz)) ∙ sym (l.sum_assoc z z (m.negative z) hz hz (l.negative_below z hz))
      ∙ ap (λ (x : ℕ). m.sum x (m.negative z)) double ∙ l.sum_negative z hz

  zero_times : (x : ℕ) → x < m.size → m.product 0 x ≢ 1
  zero_times x hx e = let none : ◌≡◌ {A = ℕ} 0 1 = sym (times_zero x hx) ∙ l.product_comm x 0 hx pos ∙ e in omega arith

  one_inverse : (a x y : ℕ) → a < m.size → x < m.size → y < m.size → m.product a x ≡ 1 → m.product a y ≡ 1 → x ≡ y
  one_inverse a x y ha hx hy ex ey =
      sym (l.product_one x hx) ∙ ap (m.product x) (sym ey) ∙ sym (l.product_assoc x a y hx ha hy)
      ∙ ap (λ (z : ℕ). m.product z y) (l.product_comm x a hx ha ∙ ex) ∙ l.product_comm 1 y one hy ∙ l.product_one y hy

module _ (f : FieldArithmetic) (l : FieldLaws f) where
  answer : (a : ℕ) (r : Option ℕ) → a < f.arithmetic.size → Found f.arithmetic a f.arithmetic.size r → r ≡ f.inverse a
  answer a None ha none =
      elim (eq-zero-or-pos a) [
        | inl nil ↦ sym l.none_at_zero ∙ ap f.inverse (sym nil)
        | inr some ↦ let there = l.inverses a some ha in absurd (none there.0 (omega arith) there.1 (ap (f.arithmetic.product a) (mod-eq_of_lt there.1) ∙ there.3))
      ]
  answer a (Some i) ha (low, hi, product, first) =
      let e : f.arithmetic.product a i ≡ 1 = ap (f.arithmetic.product a) (sym (mod-eq_of_lt hi)) ∙ product in
      elim (eq-zero-or-pos a) [
        | inl nil ↦ absurd (zero_times f.arithmetic l.lawful i hi (ap (λ (z : ℕ). f.arithmetic.product z i) (sym nil) ∙ e))
        | inr some ↦ let there = l.inverses a some ha in ap (λ x. Some x) (one_inverse f.arithmetic l.lawful a i there.0 ha hi there.1 e there.3) ∙ sym there.2
      ]

  -- m is the field's arithmetic, and q its size
  pub inverse_found : (m : Arithmetic) (a q : ℕ) (r : Option ℕ) → f.arithmetic ≡ m → q ≡ m.size → Found m (a % m.size) q r → r ≡ f.inverse (a % f.arithmetic.size)
  inverse_found m a q r agrees size =
      subst (λ (n : ℕ). Found m (a % m.size) n r → r ≡ f.inverse (a % f.arithmetic.size)) (sym size)
      (subst (λ (w : Arithmetic). Found w (a % w.size) w.size r → r ≡ f.inverse (a % f.arithmetic.size)) agrees
      (answer (a % f.arithmetic.size) r (mod-lt a (pos f.arithmetic l.lawful))))
