-- The binary field of q symbols, q of 4, 8 and 16. For whoever computes in it. Assumes nothing.
-- A symbol is a polynomial over two elements: its bit i is the coefficient of x^i. Products are taken
-- modulo x^2 + x + 1, x^3 + x + 1 or x^4 + x + 1, the polynomial whose bits are q + 3.
use Rattle.std.specs.Prelude.{◌≡◌, ℕ, ◌+◌, ◌*◌, ◌/◌, ◌%◌, ◌<◌, cond, bit_xor, nat_le}
use Rattle.alphabet.specs.Arithmetic.{Arithmetic}

-- a times the term of b at x^i, where power = 2^i is the bit of x^i
abbrev pub term : (a b power : ℕ) → ℕ
term a b power = b / power % 2 * (power * a)

-- the product of two polynomials, the second of degree 3 at most
abbrev pub polynomial_product : (a b : ℕ) → ℕ
polynomial_product a b = bit_xor (bit_xor (bit_xor (term a b 1) (term a b 2)) (term a b 4)) (term a b 8)

-- n less p, if n reaches the bit `top` of p's leading term
abbrev pub reduced_once : (top p n : ℕ) → ℕ
reduced_once top p n = cond (nat_le top n) (bit_xor n p) n

-- a polynomial of degree 6 at most, less x^2, x and 1 times the field's polynomial where its terms reach them
unfoldable pub reduced : (q n : ℕ) → ℕ
reduced q n = reduced_once q (q + 3) (reduced_once (2 * q) (2 * (q + 3)) (reduced_once (4 * q) (4 * (q + 3)) n))

-- the product of polynomials, reduced
unfoldable pub times : (q a b : ℕ) → ℕ
times q a b = reduced q (polynomial_product a b)

-- r is the symbol that is left of a polynomial n when a multiple of the field's polynomial is taken away
pub record Remainder (q n r : ℕ) : Type 0 where
  pub below : r < q
  pub multiple : (k : ℕ) × (n ≡ bit_xor (polynomial_product (q + 3) k) r)

abbrev pub binary : ℕ → Arithmetic
binary q = record {
  size = q;
  sum = bit_xor;
  negative = λ a. a;
  product = times q;
}
