-- The Bare code: every word of n symbols is a code word, and every cell an information cell. Assumes nothing.
use Rattle.std.specs.Prelude.{ℕ, Bool, true, ◌&&◌, List, [], ◌∷◌, length, ◌==◌, nat_lt}
use Rattle.std.specs.List.{range_with_len}
use Rattle.alphabet.specs.Arithmetic.{Arithmetic}
use Rattle.code.specs.Words.{BlockCode}

abbrev pub all_below : ℕ → List ℕ → Bool
all_below q [] = true
all_below q (x ∷ xs) = nat_lt x q && all_below q xs

-- count numbers from a on
abbrev pub from : (a count : ℕ) → List ℕ
from = range_with_len

abbrev pub bare : Arithmetic → ℕ → BlockCode
bare m n = record {
  arithmetic = m;
  cells = n;
  radius = 0;
  information = from 0 n;
  holds = λ word. (length word == n) && all_below m.size word;
}
