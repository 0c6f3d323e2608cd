-- The arithmetic of the remainders by q. For whoever computes with them. Assumes nothing.
use Rattle.std.specs.Prelude.{ℕ, ◌+◌, ◌-◌, ◌*◌, ◌%◌}
use Rattle.alphabet.specs.Arithmetic.{Arithmetic}

abbrev pub modulo : ℕ → Arithmetic
modulo q = record {
  size = q;
  sum = λ a b. (a + b) % q;
  negative = λ a. (q - a) % q;
  product = λ a b. (a * b) % q;
}
