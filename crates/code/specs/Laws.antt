-- What a code must show: three laws of its words, and the bounds of its sizes. For whoever adds a code. Assumes nothing.
use Rattle.std.specs.Prelude.{◌≡◌, ℕ, ◌+◌, ◌*◌, ◌<◌, ◌≤◌, true, List, map, length, ◌≢◌, slice_index}
use Rattle.alphabet.specs.Arithmetic.{Lawful}
use Rattle.code.specs.Words.{BlockCode, Word, Symbols, symbols_at, differences}

-- each number is above the one before it
abbrev pub Ascending : List ℕ → Type 0
Ascending xs = (i j : ℕ) → i < j → j < length xs → slice_index xs i < slice_index xs j

pub record CodeLaws (code : BlockCode) : Type 0 where
  pub arithmetic : Lawful code.arithmetic
  pub cells_two : 2 ≤ code.cells
  pub cells_most : code.cells ≤ 256
  pub information_two : 2 ≤ length code.information
  pub information_ascends : Ascending code.information
  pub information_within : (i : ℕ) → i < length code.information → slice_index code.information i < code.cells
  pub words : (w : List ℕ) → code.holds w ≡ true → Word code w
  -- each filling of the information cells belongs to exactly one code word
  pub filled : (xs : List ℕ) → length xs ≡ length code.information → Symbols code xs → (w : List ℕ) × (code.holds w ≡ true) × (symbols_at w code.information ≡ xs)
  pub filled_once : (v w : List ℕ) → code.holds v ≡ true → code.holds w ≡ true → symbols_at v code.information ≡ symbols_at w code.information → v ≡ w
  -- a code word with one symbol added to all its cells is a code word
  pub shifted : (w : List ℕ) (z : ℕ) → code.holds w ≡ true → z < code.arithmetic.size → code.holds (map (λ x. code.arithmetic.sum x z) w) ≡ true
  -- two different code words are far apart
  pub apart : (v w : List ℕ) → code.holds v ≡ true → code.holds w ≡ true → (v ≢ w) → 2 * code.radius + 1 ≤ differences v w
