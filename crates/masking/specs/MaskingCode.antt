-- Partially-stuck-at masking codes: an encoder that is told the floors of the cells, and a decoder that is not.
-- Writing within an allowance and reading are one. Assumes nothing.
use Rattle.std.specs.Prelude.{◌≡◌, ℕ, ◌-◌, ◌≤◌, List}
use Rattle.code.specs.Words.{BlockCode, Word, Message, differences}
use Rattle.masking.specs.Floors.{Allowed, FewLost}
use Rattle.masking.specs.Reading.{Reads}
use Rattle.masking.specs.Writing.{Writes}

-- over the floors in a set, and for words with at most so many errors
pub record MaskingCode (code : BlockCode) (States : List ℕ → Type 0) (errors : ℕ) (Encodes : (floors message word : List ℕ) → Type 0) (Decodes : (levels message : List ℕ) → Type 0) : Type 0 where
  -- each message is encoded under all floors of the set
  pub encodes : (floors message : List ℕ) → States floors → Message code message → (word : List ℕ) × Encodes floors message word
  pub encodes_once : (floors message v w : List ℕ) → Encodes floors message v → Encodes floors message w → v ≡ w
  -- what is encoded meets the floors
  pub masks : (floors message word : List ℕ) → States floors → Encodes floors message word → Allowed code floors word
  -- and is decoded from every word that differs from it in few enough cells
  pub decodes : (floors message word levels : List ℕ) → States floors → Message code message → Encodes floors message word → Word code levels → differences word levels ≤ errors → Decodes levels message
  pub decodes_once : (levels message other : List ℕ) → Decodes levels message → Decodes levels other → message ≡ other

-- the floors are levels and take few away
pub record LowFloors (code : BlockCode) (allowance : ℕ) (floors : List ℕ) : Type 0 where
  pub levels : Word code floors
  pub few : FewLost code floors allowance

abbrev pub Encodes : BlockCode → ℕ → (floors message word : List ℕ) → Type 0
Encodes code allowance floors message word = (mask : ℕ) × (forced : ℕ) × Writes code floors allowance message mask forced word

abbrev pub Decodes : BlockCode → (levels message : List ℕ) → Type 0
Decodes code levels message = (corrected : ℕ) × Reads code levels corrected message

-- writing within the allowance and reading: what the allowance leaves of the radius is for errors
abbrev pub WritingMasks : BlockCode → ℕ → Type 0
WritingMasks code allowance = MaskingCode code (LowFloors code allowance) (code.radius - allowance) (Encodes code allowance) (Decodes code)
