-- What a field means: an arithmetic with inverses, and the laws that it shows. Assumes nothing.
use Rattle.std.specs.Prelude.{◌≡◌, ℕ, ◌<◌, ◌≤◌, Some, None, Option}
use Rattle.alphabet.specs.Arithmetic.{Arithmetic, Lawful}

pub record FieldArithmetic : Type 0 where
  pub arithmetic : Arithmetic
  pub inverse : ℕ → Option ℕ

-- the laws of a field: those of an alphabet, three or more symbols, and an inverse of each symbol but 0
pub record FieldLaws (f : FieldArithmetic) : Type 0 where
  pub lawful : Lawful f.arithmetic
  pub three : 3 ≤ f.arithmetic.size
  pub none_at_zero : f.inverse 0 ≡ None
  pub inverses : (a : ℕ) → 0 < a → a < f.arithmetic.size → (x : ℕ) × (x < f.arithmetic.size) × (f.inverse a ≡ Some x) × (f.arithmetic.product a x ≡ 1)
