-- Words, code words and the messages that they carry. For whoever adds a code, and for all that is written in one.
-- A word is a list of numbers, one for each cell. Assumes nothing.
use Rattle.std.specs.Prelude.{◌≡◌, ℕ, ◌+◌, ◌<◌, Bool, true, cond, List, [], ◌∷◌, map, length, ◌==◌, slice_index}
use Rattle.alphabet.specs.Arithmetic.{Arithmetic}

-- a block code as its users see it
pub record BlockCode : Type 0 where
  -- the arithmetic of its symbols
  pub arithmetic : Arithmetic
  -- how many cells a word has
  pub cells : ℕ
  -- in how many cells a word may be wrong and still be corrected
  pub radius : ℕ
  -- the information cells; the others are check cells
  pub information : List ℕ
  -- which words are code words
  pub holds : List ℕ → Bool

-- each of the numbers is a symbol
abbrev pub Symbols : BlockCode → List ℕ → Type 0
Symbols code xs = (i : ℕ) → i < length xs → slice_index xs i < code.arithmetic.size

-- so many cells with a symbol in each
pub record Filled (cells size : ℕ) (word : List ℕ) : Type 0 where
  pub whole : length word ≡ cells
  pub symbols : (i : ℕ) → i < length word → slice_index word i < size

-- a word that the code can judge
abbrev pub Word : BlockCode → List ℕ → Type 0
Word code word = Filled code.cells code.arithmetic.size word

-- in how many cells two words differ
abbrev pub differences : List ℕ → List ℕ → ℕ
differences [] ys = 0
differences (x ∷ xs) [] = 0
differences (x ∷ xs) (y ∷ ys) = cond (x == y) 0 1 + differences xs ys

-- what stands in the cells that a list names
abbrev pub symbols_at : List ℕ → List ℕ → List ℕ
symbols_at word [] = []
symbols_at word (i ∷ is) = slice_index word i ∷ symbols_at word is

abbrev pub first : List ℕ → ℕ
first [] = 0
first (x ∷ xs) = x

abbrev pub rest : List ℕ → List ℕ
rest [] = []
rest (x ∷ xs) = xs

-- the symbol in the first information cell
abbrev pub mask_of : BlockCode → List ℕ → ℕ
mask_of code word = slice_index word (first code.information)

-- a message has a symbol for every information cell but the first
pub record Message (code : BlockCode) (message : List ℕ) : Type 0 where
  pub whole : length message ≡ length (rest code.information)
  pub symbols : Symbols code message

-- a code word carries a message if, with u in its first information cell, the other information cells hold u plus the message's symbols
pub record Carries (code : BlockCode) (word message : List ℕ) : Type 0 where
  pub held : code.holds word ≡ true
  pub carried : symbols_at word (rest code.information) ≡ map (code.arithmetic.sum (mask_of code word)) message
