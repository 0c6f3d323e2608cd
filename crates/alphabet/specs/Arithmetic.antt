-- What an alphabet means: how many symbols it has and what their sums, negatives and products are.
-- Its symbols are the numbers below its size. For whoever adds an alphabet, and for every code. Assumes nothing.
use Rattle.std.specs.Prelude.{◌≡◌, ℕ, ◌<◌, ◌≤◌}

pub record Arithmetic : Type 0 where
  pub size : ℕ
  pub sum : ℕ → ℕ → ℕ
  pub negative : ℕ → ℕ
  pub product : ℕ → ℕ → ℕ

-- the laws of an alphabet: a commutative ring of 2 to 16 symbols
pub record Lawful (m : Arithmetic) : Type 0 where
  pub two : 2 ≤ m.size
  pub sixteen : m.size ≤ 16
  pub sum_below : (a b : ℕ) → a < m.size → b < m.size → m.sum a b < m.size
  pub negative_below : (a : ℕ) → a < m.size → m.negative a < m.size
  pub product_below : (a b : ℕ) → a < m.size → b < m.size → m.product a b < m.size
  pub sum_comm : (a b : ℕ) → a < m.size → b < m.size → m.sum a b ≡ m.sum b a
  pub sum_assoc : (a b c : ℕ) → a < m.size → b < m.size → c < m.size → m.sum (m.sum a b) c ≡ m.sum a (m.sum b c)
  pub sum_zero : (a : ℕ) → a < m.size → m.sum a 0 ≡ a
  pub sum_negative : (a : ℕ) → a < m.size → m.sum a (m.negative a) ≡ 0
  pub product_comm : (a b : ℕ) → a < m.size → b < m.size → m.product a b ≡ m.product b a
  pub product_assoc : (a b c : ℕ) → a < m.size → b < m.size → c < m.size → m.product (m.product a b) c ≡ m.product a (m.product b c)
  pub product_one : (a : ℕ) → a < m.size → m.product a 1 ≡ a
  pub distributes : (a b c : ℕ) → a < m.size → b < m.size → c < m.size → m.product a (m.sum b c) ≡ m.sum (m.product a b) (m.product a c)
