-- What holds at each size on offer holds of every size on offer. Assumes nothing.
use Rattle.std.proofs.Common.{sym, subst, eqb→eq}
use Rattle.std.specs.Prelude.{ℕ, Bool, true, false, ◌||◌, T, ◌==◌}
use Rattle.alphabet.specs.Offers.{BinarySize, PrimeSize}

either : (a b : Bool) (P : Type 0) → (T a → P) → (T b → P) → T (a || b) → P
either true b P left right t = left t
either false b P left right t = right t

at_size : (P : ℕ → Type 0) (q n : ℕ) → P n → T (q == n) → P q
at_size P q n p t = subst P (sym (eqb→eq q n t)) p

pub by_binary_size : (P : ℕ → Type 0) → P 4 → P 8 → P 16 → (q : ℕ) → BinarySize q → P q
by_binary_size P four eight sixteen q =
    either _ _ (P q) (at_size P q 4 four)
    (either _ _ (P q) (at_size P q 8 eight)
    (at_size P q 16 sixteen))

pub by_prime_size : (P : ℕ → Type 0) → P 3 → P 5 → P 7 → P 11 → P 13 → (q : ℕ) → PrimeSize q → P q
by_prime_size P three five seven eleven thirteen q =
    either _ _ (P q) (at_size P q 3 three)
    (either _ _ (P q) (at_size P q 5 five)
    (either _ _ (P q) (at_size P q 7 seven)
    (either _ _ (P q) (at_size P q 11 eleven)
    (at_size P q 13 thirteen))))
