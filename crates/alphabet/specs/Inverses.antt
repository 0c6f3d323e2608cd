-- The inverse of a symbol: the first symbol whose product with it is 1. For whoever makes a field of an arithmetic. Assumes nothing.
use Rattle.std.specs.Prelude.{ℕ, zero, suc, cond, Some, None, Option, ◌==◌}
use Rattle.alphabet.specs.Arithmetic.{Arithmetic}
use Rattle.alphabet.specs.Field.{FieldArithmetic}

-- the first of `count` numbers from x on whose product with a is 1
abbrev pub inverse_from : Arithmetic → ℕ → (count x : ℕ) → Option ℕ
inverse_from m a zero x = None
inverse_from m a (suc count) x = cond (m.product a x == 1) (Some x) (inverse_from m a count (suc x))

-- the first symbol whose product with a is 1
abbrev pub inverse_in : Arithmetic → ℕ → Option ℕ
inverse_in m a = inverse_from m a m.size 0

abbrev pub with_inverses : Arithmetic → FieldArithmetic
with_inverses m = record { arithmetic = m; inverse = inverse_in m }
