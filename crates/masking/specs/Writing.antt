-- What writing a message into a page's word answers, and what it leaves in the word. Assumes nothing.
use Rattle.std.specs.Prelude.{◌≡◌, ℕ, ◌+◌, ◌<◌, ◌≤◌, ◌⊎◌, List, length, Ok, Err, Result, ◌≢◌, slice_index}
use Rattle.alphabet.specs.declared.refusals.Refusal.TheVariants as word
use Rattle.code.specs.Words.{BlockCode, Filled, Message, Carries, mask_of, rest, differences}
use Rattle.code.specs.Calls.{FirstBad}
use Rattle.masking.specs.declared.refusals.Refusal.{Refusal}
use Rattle.masking.specs.declared.refusals.Refusal.TheVariants.{Coding, Allowance, Floor, MessageLength, MessageSymbol, NoMask}
use Rattle.masking.specs.Floors.{Allowed, AtLeast, FewLost, Fewest, raised}

-- what is written: the code word with the fewest unmet cells, with those raised to their floors
pub record Writes (code : BlockCode) (floors : List ℕ) (allowance : ℕ) (message : List ℕ) (mask forced : ℕ) (word : List ℕ) : Type 0 where
  pub carrier : List ℕ
  pub fewest : Fewest code floors message mask forced carrier
  pub within : forced ≤ allowance
  pub written : word ≡ raised floors carrier

-- a page that can be written: its floors and its word have a number for each cell, and no more cells are forced than are corrected
pub record Page (code : BlockCode) (floors : List ℕ) (allowance room : ℕ) : Type 0 where
  pub allowed : allowance ≤ code.radius
  pub levels : Filled code.cells code.arithmetic.size floors
  pub whole : room ≡ code.cells

-- the first floor that is no level
pub record HighFloor (code : BlockCode) (floors : List ℕ) (floor : ℕ) : Type 0 where
  pub whole : length floors ≡ code.cells
  pub cell : ℕ
  pub first : FirstBad code.arithmetic.size floors cell
  pub is : floor ≡ slice_index floors cell

-- why a message is none of the code's: its length, and if that is right its first number that is no symbol
abbrev pub NoMessage : BlockCode → (message : List ℕ) → Refusal → Type 0
NoMessage code message (MessageLength n) = (n ≡ length message) × (length message ≢ length (rest code.information))
NoMessage code message (MessageSymbol i) = (length message ≡ length (rest code.information)) × FirstBad code.arithmetic.size message i
NoMessage code message (Allowance f) = ⊥
NoMessage code message (Coding refusal) = ⊥
NoMessage code message (Floor v) = ⊥
NoMessage code message (NoMask n) = ⊥

-- why nothing is written: the first of these that is wrong
abbrev pub Unwritable : BlockCode → (floors : List ℕ) (allowance : ℕ) (message : List ℕ) (room : ℕ) → Refusal → Type 0
Unwritable code floors allowance message room (Allowance f) = (f ≡ allowance) × (code.radius < allowance)
Unwritable code floors allowance message room (Coding (word.WordLength n)) =
    (allowance ≤ code.radius)
    × (((n ≡ length floors) × (length floors ≢ code.cells)) ⊎ (Filled code.cells code.arithmetic.size floors × (n ≡ room) × (room ≢ code.cells)))
Unwritable code floors allowance message room (Coding (word.NotASymbol i)) = ⊥
Unwritable code floors allowance message room (Coding (word.NotOffered choice)) = ⊥
Unwritable code floors allowance message room (Coding (word.BareLength n)) = ⊥
Unwritable code floors allowance message room (Coding word.TooFar) = ⊥
Unwritable code floors allowance message room (Floor v) = (allowance ≤ code.radius) × HighFloor code floors v
Unwritable code floors allowance message room (MessageLength n) = Page code floors allowance room × NoMessage code message (MessageLength n)
Unwritable code floors allowance message room (MessageSymbol i) = Page code floors allowance room × NoMessage code message (MessageSymbol i)
Unwritable code floors allowance message room (NoMask n) =
    Page code floors allowance room × Message code message × ((mask : ℕ) × (carrier : List ℕ) × Fewest code floors message mask n carrier) × (allowance < n)

pub record Written (code : BlockCode) (floors : List ℕ) (allowance : ℕ) (message : List ℕ) (room mask forced : ℕ) (after : List ℕ) : Type 0 where
  pub page : Page code floors allowance room
  pub symbols : Message code message
  pub writes : Writes code floors allowance message mask forced after

abbrev pub WrittenAs : BlockCode → (floors : List ℕ) (allowance : ℕ) (message before : List ℕ) → Result (ℕ × ℕ) Refusal → List ℕ → Type 0
WrittenAs code floors allowance message before (Ok answer) after = Written code floors allowance message (length before) answer.0 answer.1 after
WrittenAs code floors allowance message before (Err refusal) after = Unwritable code floors allowance message (length before) refusal × (after ≡ before)

-- a message for a page that can be written is refused exactly when every allowed word is further than the allowance from every code word that carries it
abbrev pub RefusedExactly : BlockCode → (floors : List ℕ) (allowance : ℕ) (message before : List ℕ) → Result (ℕ × ℕ) Refusal → Type 0
RefusedExactly code floors allowance message before (Ok answer) = AtLeast code floors message (allowance + 1) → ⊥
RefusedExactly code floors allowance message before (Err refusal) = Page code floors allowance (length before) → Message code message → AtLeast code floors message (allowance + 1)

-- and never while the floors take few levels away
abbrev pub GrantedWhileFewLost : BlockCode → (floors : List ℕ) (allowance : ℕ) (message before : List ℕ) → Result (ℕ × ℕ) Refusal → Type 0
GrantedWhileFewLost code floors allowance message before (Ok answer) = Unit {0}
GrantedWhileFewLost code floors allowance message before (Err refusal) = Page code floors allowance (length before) → Message code message → FewLost code floors allowance → ⊥

-- the word is allowed, differs from a code word that carries the message under the mask in so many cells, and no allowed word from any in fewer
pub record Nearest (code : BlockCode) (floors message : List ℕ) (mask forced : ℕ) (word : List ℕ) : Type 0 where
  pub allowed : Allowed code floors word
  pub carrier : List ℕ
  pub carrying : Carries code carrier message
  pub masked : mask_of code carrier ≡ mask
  pub distance : differences word carrier ≡ forced
  pub least : AtLeast code floors message forced

abbrev pub ForcedLeast : BlockCode → (floors message : List ℕ) → Result (ℕ × ℕ) Refusal → List ℕ → Type 0
ForcedLeast code floors message (Ok answer) after = Nearest code floors message answer.0 answer.1 after
ForcedLeast code floors message (Err refusal) after = Unit {0}
