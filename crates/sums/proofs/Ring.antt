-- A commutative ring on a type, and what follows from its laws. Assumes nothing.
use Rattle.std.proofs.Common.{◌≡◌, sym, ap, ◌∙◌}

pub record Ring : Type 1 where
  pub Symbol : Type 0
  pub ◌⊕◌ : Symbol → Symbol → Symbol
  pub ◌⊗◌ : Symbol → Symbol → Symbol
  pub ⊖◌ : Symbol → Symbol
  pub o : Symbol
  pub e : Symbol
  pub ⊕-comm : (a b : Symbol) → ◌⊕◌ a b ≡ ◌⊕◌ b a
  pub ⊕-assoc : (a b c : Symbol) → ◌⊕◌ (◌⊕◌ a b) c ≡ ◌⊕◌ a (◌⊕◌ b c)
  pub ⊕-zero : (a : Symbol) → ◌⊕◌ a o ≡ a
  pub ⊕-neg : (a : Symbol) → ◌⊕◌ a (⊖◌ a) ≡ o
  pub ⊗-comm : (a b : Symbol) → ◌⊗◌ a b ≡ ◌⊗◌ b a
  pub ⊗-assoc : (a b c : Symbol) → ◌⊗◌ (◌⊗◌ a b) c ≡ ◌⊗◌ a (◌⊗◌ b c)
  pub ⊗-one : (a : Symbol) → ◌⊗◌ a e ≡ a
  pub ⊗-over : (a b c : Symbol) → ◌⊗◌ a (◌⊕◌ b c) ≡ ◌⊕◌ (◌⊗◌ a b) (◌⊗◌ a c)

module _ (R : Ring) where
  infixl 65 ◌⊕◌
  infixl 70 ◌⊗◌
  infixr 75 ⊖◌
  open R use {Symbol, ◌⊕◌, ◌⊗◌, ⊖◌, o, e, ⊕-comm, ⊕-assoc, ⊕-zero, ⊕-neg, ⊗-comm, ⊗-assoc, ⊗-one, ⊗-over}

  pub zero-⊕ : (a : Symbol) → o ⊕ a ≡ a
  zero-⊕ a = ⊕-comm o a ∙ ⊕-zero a

  -- what is added on the right can be taken away
  pub ⊕-undo : (a b : Symbol) → (a ⊕ b) ⊕ ⊖ b ≡ a
  ⊕-undo a b = ⊕-assoc a b (⊖ b) ∙ ap (λ x. a ⊕ x) (⊕-neg b) ∙ ⊕-zero a

  pub ⊕-undo' : (a b : Symbol) → (a ⊕ ⊖ b) ⊕ b ≡ a
  ⊕-undo' a b = ⊕-assoc a (⊖ b) b ∙ ap (λ x. a ⊕ x) (⊕-comm (⊖ b) b ∙ ⊕-neg b) ∙ ⊕-zero a

  pub ⊕-cancel : (a b c : Symbol) → a ⊕ c ≡ b ⊕ c → a ≡ b
  ⊕-cancel a b c p = sym (⊕-undo a c) ∙ ap (λ x. x ⊕ ⊖ c) p ∙ ⊕-undo b c

  -- a sum of four, the middle two exchanged
  pub ⊕-middle : (a b c d : Symbol) → (a ⊕ b) ⊕ (c ⊕ d) ≡ (a ⊕ c) ⊕ (b ⊕ d)
  ⊕-middle a b c d =
      ⊕-assoc a b (c ⊕ d) ∙ ap (λ x. a ⊕ x) (sym (⊕-assoc b c d) ∙ ap (λ x. x ⊕ d) (⊕-comm b c) ∙ ⊕-assoc c b d) ∙ sym (⊕-assoc a c (b ⊕ d))

  pub ⊗-zero : (a : Symbol) → a ⊗ o ≡ o
  ⊗-zero a = ⊕-cancel (a ⊗ o) o (a ⊗ o) (sym (⊗-over a o o) ∙ ap (λ x. a ⊗ x) (⊕-zero o) ∙ sym (zero-⊕ (a ⊗ o)))

  pub zero-⊗ : (a : Symbol) → o ⊗ a ≡ o
  zero-⊗ a = ⊗-comm o a ∙ ⊗-zero a

  pub one-⊗ : (a : Symbol) → e ⊗ a ≡ a
  one-⊗ a = ⊗-comm e a ∙ ⊗-one a

  -- a sum that is 0 makes one part the negative of the other
  pub neg_unique : (a b : Symbol) → a ⊕ b ≡ o → a ≡ ⊖ b
  neg_unique a b p = sym (⊕-undo a b) ∙ ap (λ x. x ⊕ ⊖ b) p ∙ zero-⊕ (⊖ b)

  pub ⊗-neg : (a b : Symbol) → a ⊗ ⊖ b ≡ ⊖ (a ⊗ b)
  ⊗-neg a b = neg_unique (a ⊗ ⊖ b) (a ⊗ b) (sym (⊗-over a (⊖ b) b) ∙ ap (λ x. a ⊗ x) (⊕-comm (⊖ b) b ∙ ⊕-neg b) ∙ ⊗-zero a)

  pub same_from_difference : (a b : Symbol) → a ⊕ ⊖ b ≡ o → a ≡ b
  same_from_difference a b p = sym (⊕-undo' a b) ∙ ap (λ x. x ⊕ b) p ∙ zero-⊕ b

  pub ⊕-right-comm : (a b c : Symbol) → (a ⊕ b) ⊕ c ≡ (a ⊕ c) ⊕ b
  ⊕-right-comm a b c = ⊕-assoc a b c ∙ ap (λ x. a ⊕ x) (⊕-comm b c) ∙ sym (⊕-assoc a c b)

  -- the part b of a sum replaced by c
  pub ⊕-replace : (a b c : Symbol) → (a ⊕ b) ⊕ (c ⊕ ⊖ b) ≡ a ⊕ c
  ⊕-replace a b c = ⊕-middle a b c (⊖ b) ∙ ap (λ x. (a ⊕ c) ⊕ x) (⊕-neg b) ∙ ⊕-zero (a ⊕ c)

  pub zero_from_same : (a b : Symbol) → a ⊕ b ≡ a → b ≡ o
  zero_from_same a b p = ⊕-cancel b o a (⊕-comm b a ∙ p ∙ sym (zero-⊕ a))

  -- a symbol with an inverse times another is 0 only if the other is
  pub zero_from_product : (g t a : Symbol) → g ⊗ t ≡ e → g ⊗ a ≡ o → a ≡ o
  zero_from_product g t a one p =
      sym (one-⊗ a) ∙ ap (λ x. x ⊗ a) (sym one ∙ ⊗-comm g t) ∙ ⊗-assoc t g a ∙ ap (λ x. t ⊗ x) p ∙ ⊗-zero t

  pub neg_zero : ⊖ o ≡ o
  neg_zero = sym (zero-⊕ (⊖ o)) ∙ ⊕-neg o
