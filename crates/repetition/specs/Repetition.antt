-- The Repetition code over any alphabet: a code word is a symbol in three cells and a symbol in the next three.
-- Of each three the first is the information cell. Assumes nothing.
use Rattle.std.specs.Prelude.{◌≡◌, ℕ, ◌≤◌, not, ◌&&◌, ◌⊎◌, List, [], ◌∷◌, length, count_by, ◌==◌, slice_index}
use Rattle.alphabet.specs.Arithmetic.{Arithmetic}
use Rattle.code.specs.Words.{BlockCode, differences}
use Rattle.code.specs.Bare.{all_below}
use Rattle.repetition.specs.declared.triples.Majority.{Majority}

abbrev pub repeated : (first second : ℕ) → List ℕ
repeated x y = x ∷ x ∷ x ∷ y ∷ y ∷ y ∷ []

-- a code word differs in no cell from its two information symbols repeated
abbrev pub repetition : Arithmetic → BlockCode
repetition m = record {
  arithmetic = m;
  cells = 6;
  radius = 1;
  information = 0 ∷ 3 ∷ [];
  holds = λ word. (length word == 6) && (all_below m.size word && differences word (repeated (slice_index word 0) (slice_index word 3)) == 0);
}

-- how many cells hold another symbol
abbrev pub against : (cells : List ℕ) (symbol : ℕ) → ℕ
against cells x = count_by (λ cell. not (cell == x)) cells

-- a symbol that fewest of three cells are against, and how many those are
pub record Elected (cells : List ℕ) (majority : Majority) : Type 0 where
  pub among : (majority.symbol ≡ slice_index cells 0) ⊎ (majority.symbol ≡ slice_index cells 1)
  pub counted : majority.wrong ≡ against cells majority.symbol
  pub fewest : (x : ℕ) → majority.wrong ≤ against cells x
