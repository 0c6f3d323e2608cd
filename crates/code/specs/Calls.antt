-- What completing and correcting answer, and what they leave in the word. Assumes nothing.
use Rattle.std.specs.Prelude.{◌≡◌, ℕ, ◌<◌, ◌≤◌, true, List, length, Ok, Err, Option, Result, ◌≢◌, slice_get, slice_index}
use Rattle.alphabet.specs.declared.refusals.Refusal.{Refusal}
use Rattle.alphabet.specs.declared.refusals.Refusal.TheVariants.{NotOffered, BareLength, TooFar, WordLength, NotASymbol}
use Rattle.code.specs.Words.{BlockCode, Filled, Word, symbols_at, differences}

-- what stands at a place of a list, if it is that long
abbrev pub item : List ℕ → ℕ → Option ℕ
item = slice_get

-- the first of the numbers that is no symbol
pub record FirstBad (size : ℕ) (xs : List ℕ) (index : ℕ) : Type 0 where
  pub within : index < length xs
  pub bad : size ≤ slice_index xs index
  pub before : (i : ℕ) → i < index → slice_index xs i < size

-- why a word cannot be judged: its length, and if that is right its first cell with no symbol
abbrev pub Unfit : (cells size : ℕ) → List ℕ → Refusal → Type 0
Unfit cells size word (WordLength n) = (n ≡ length word) × (length word ≢ cells)
Unfit cells size word (NotASymbol i) = (length word ≡ cells) × FirstBad size word i
Unfit cells size word (NotOffered choice) = ⊥
Unfit cells size word (BareLength n) = ⊥
Unfit cells size word TooFar = ⊥

abbrev pub Checked : (cells size : ℕ) → List ℕ → Result (Unit {0}) Refusal → Type 0
Checked cells size word (Ok done) = Filled cells size word
Checked cells size word (Err refusal) = Unfit cells size word refusal

-- the word became the code word with the same information
pub record Completes (code : BlockCode) (before after : List ℕ) : Type 0 where
  pub fit : Word code before
  pub held : code.holds after ≡ true
  pub kept : symbols_at after code.information ≡ symbols_at before code.information

abbrev pub Completed : BlockCode → List ℕ → Result (Unit {0}) Refusal → List ℕ → Type 0
Completed code before (Ok done) after = Completes code before after
Completed code before (Err refusal) after = Unfit code.cells code.arithmetic.size before refusal × (after ≡ before)

-- the word became the code word within the radius, which is so many cells away
pub record Corrects (code : BlockCode) (before : List ℕ) (count : ℕ) (after : List ℕ) : Type 0 where
  pub fit : Word code before
  pub held : code.holds after ≡ true
  pub near : differences before after ≡ count
  pub within : count ≤ code.radius

-- no code word is within the radius
abbrev pub AllFar : BlockCode → List ℕ → Type 0
AllFar code word = (other : List ℕ) → code.holds other ≡ true → code.radius < differences word other

-- why a word is not corrected
abbrev pub Uncorrectable : BlockCode → List ℕ → Refusal → Type 0
Uncorrectable code word (WordLength n) = Unfit code.cells code.arithmetic.size word (WordLength n)
Uncorrectable code word (NotASymbol i) = Unfit code.cells code.arithmetic.size word (NotASymbol i)
Uncorrectable code word TooFar = Word code word × AllFar code word
Uncorrectable code word (NotOffered choice) = ⊥
Uncorrectable code word (BareLength n) = ⊥

abbrev pub Corrected : BlockCode → List ℕ → Result ℕ Refusal → List ℕ → Type 0
Corrected code before (Ok count) after = Corrects code before count after
Corrected code before (Err refusal) after = Uncorrectable code before refusal × (after ≡ before)
