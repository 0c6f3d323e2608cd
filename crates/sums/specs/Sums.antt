-- Sums of symbols in an alphabet's arithmetic. For every code whose code words are told by sums. Assumes nothing.
use Rattle.std.specs.Prelude.{ℕ, zero, suc}
use Rattle.alphabet.specs.Arithmetic.{Arithmetic}

-- the sum of f 0, f 1 and so on, n of them
abbrev pub sum_of : Arithmetic → ℕ → (ℕ → ℕ) → ℕ
sum_of m zero f = 0
sum_of m (suc n) f = m.sum (sum_of m n f) (f n)
