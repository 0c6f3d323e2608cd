-- The floors of worn cells, the words that they allow, and how far those are from the code words that carry a message.
-- A list of floors has one number for each cell: the cell holds no level below it. Assumes nothing.
use Rattle.std.specs.Prelude.{◌≡◌, ℕ, ◌+◌, ◌-◌, ◌*◌, ◌<◌, ◌≤◌, max, cond, List, [], ◌∷◌, nat_lt, slice_index}
use Rattle.code.specs.Words.{BlockCode, Word, Carries, mask_of, differences}

-- a word is allowed if no cell is below its floor
pub record Allowed (code : BlockCode) (floors word : List ℕ) : Type 0 where
  pub fit : Word code word
  pub floored : (i : ℕ) → i < code.cells → slice_index floors i ≤ slice_index word i

-- every allowed word differs from every code word that carries the message in at least so many cells
abbrev pub AtLeast : BlockCode → (floors message : List ℕ) → ℕ → Type 0
AtLeast code floors message count =
    (word carrier : List ℕ) → Allowed code floors word → Carries code carrier message → count ≤ differences word carrier

-- the cells of a word that are below their floors, counted
abbrev pub unmet : (floors word : List ℕ) → ℕ
unmet [] xs = 0
unmet (s ∷ ss) [] = 0
unmet (s ∷ ss) (x ∷ xs) = cond (nat_lt x s) 1 0 + unmet ss xs

-- a word with the cells below their floors raised to them
abbrev pub raised : (floors word : List ℕ) → List ℕ
raised [] xs = xs
raised (s ∷ ss) [] = []
raised (s ∷ ss) (x ∷ xs) = max s x ∷ raised ss xs

abbrev pub total : List ℕ → ℕ
total [] = 0
total (x ∷ xs) = x + total xs

-- the floors take so few levels away that some mask leaves no more cells unmet than the allowance
abbrev pub FewLost : BlockCode → (floors : List ℕ) (allowance : ℕ) → Type 0
FewLost code floors allowance = total floors ≤ code.arithmetic.size - 1 + code.arithmetic.size * allowance

-- of the code words that carry the message, one with the fewest cells below their floors, and of those the one with the lowest mask
pub record Fewest (code : BlockCode) (floors message : List ℕ) (mask count : ℕ) (carrier : List ℕ) : Type 0 where
  pub carrying : Carries code carrier message
  pub masked : mask_of code carrier ≡ mask
  pub counted : unmet floors carrier ≡ count
  pub fewest : (other : List ℕ) → Carries code other message → count ≤ unmet floors other
  pub lowest : (other : List ℕ) → Carries code other message → mask_of code other < mask → count < unmet floors other
