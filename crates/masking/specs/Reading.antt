-- What reading a page's levels answers, and what it leaves in the message buffer. It goes by the levels alone. Assumes nothing.
use Rattle.std.specs.Prelude.{◌≡◌, ℕ, ◌≤◌, List, length, Ok, Err, Result, ◌≢◌}
use Rattle.alphabet.specs.declared.refusals.Refusal.TheVariants as word
use Rattle.code.specs.Words.{BlockCode, Word, Message, Carries, rest, differences}
use Rattle.code.specs.Calls.{Unfit, AllFar}
use Rattle.masking.specs.declared.refusals.Refusal.{Refusal}
use Rattle.masking.specs.declared.refusals.Refusal.TheVariants.{Coding, Allowance, Floor, MessageLength, MessageSymbol, NoMask}

-- the levels are so many cells away from the code word within the radius, and that carries the message
pub record Reads (code : BlockCode) (levels : List ℕ) (corrected : ℕ) (message : List ℕ) : Type 0 where
  pub fit : Word code levels
  pub carrier : List ℕ
  pub carrying : Carries code carrier message
  pub symbols : Message code message
  pub near : differences levels carrier ≡ corrected
  pub within : corrected ≤ code.radius

-- why nothing is read: the first of these that is wrong
abbrev pub Unreadable : BlockCode → List ℕ → ℕ → Refusal → Type 0
Unreadable code levels room (Coding (word.WordLength n)) = Unfit code.cells code.arithmetic.size levels (word.WordLength n)
Unreadable code levels room (Coding (word.NotASymbol i)) = Unfit code.cells code.arithmetic.size levels (word.NotASymbol i)
Unreadable code levels room (MessageLength n) = Word code levels × (n ≡ room) × (room ≢ length (rest code.information))
Unreadable code levels room (Coding word.TooFar) = Word code levels × (room ≡ length (rest code.information)) × AllFar code levels
Unreadable code levels room (Coding (word.NotOffered choice)) = ⊥
Unreadable code levels room (Coding (word.BareLength n)) = ⊥
Unreadable code levels room (Allowance f) = ⊥
Unreadable code levels room (Floor v) = ⊥
Unreadable code levels room (MessageSymbol i) = ⊥
Unreadable code levels room (NoMask n) = ⊥

abbrev pub ReadAs : BlockCode → (levels before : List ℕ) → Result ℕ Refusal → List ℕ → Type 0
ReadAs code levels before (Ok corrected) after = Reads code levels corrected after
ReadAs code levels before (Err refusal) after = Unreadable code levels (length before) refusal × (after ≡ before)

-- levels read one way: whatever they read as is what was answered
abbrev pub ReadsOneWay : BlockCode → List ℕ → Result ℕ Refusal → List ℕ → Type 0
ReadsOneWay code levels (Ok corrected) after = (count : ℕ) (message : List ℕ) → Reads code levels count message → (corrected ≡ count) × (after ≡ message)
ReadsOneWay code levels (Err refusal) after = (count : ℕ) (message : List ℕ) → Reads code levels count message → length after ≢ length message
