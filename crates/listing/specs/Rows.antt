-- The lines of a listing: a number in six columns, then fields of four columns, then a line feed. Assumes nothing.
use Rattle.std.specs.Prelude.{ℕ, suc, ◌<◌, ◌≤◌, List, [], ◌∷◌, ◌++◌, length}
use Rattle.sheet.specs.Fields.{digits, pad_to}
use Rattle.ledger.specs.Ledger.{Answer, done, stored, found, compared, refused}

-- what is told of a call: 0 and its answers in their order, or number, layer and place of the refusal
abbrev pub fields : Answer → List ℕ
fields done = 0 ∷ []
fields (stored mask forced) = 0 ∷ mask ∷ forced ∷ []
fields (found corrected message) = 0 ∷ corrected ∷ message
fields (compared same) = 0 ∷ same ∷ []
fields (refused number layer place) = number ∷ layer ∷ place ∷ []

-- a number right-justified in four columns
unfoldable pub field : ℕ → List ℕ
field v = pad_to 4 (digits v)

-- the number of a line, right-justified in six columns
unfoldable pub line_number : ℕ → List ℕ
line_number n = pad_to 6 (digits n)

-- fields one after another
abbrev pub columns : List ℕ → List ℕ
columns [] = []
columns (v ∷ vs) = field v ++ columns vs

-- the listing's line of this number
abbrev pub row : (number : ℕ) → Answer → List ℕ
row number answer = line_number number ++ (columns (fields answer) ++ 10 ∷ [])

-- a line for each answer, numbered from this number on
abbrev pub rows : (number : ℕ) → List Answer → List ℕ
rows number [] = []
rows number (answer ∷ answers) = row number answer ++ rows (suc number) answers

-- each of the numbers has a place in its four columns
abbrev pub AllFit : List ℕ → Type 0
AllFit [] = Unit {0}
AllFit (v ∷ vs) = (v < 10000) × AllFit vs

-- and there are no more fields than a line has room for
abbrev pub Fits : Answer → Type 0
Fits answer = AllFit (fields answer) × (length (fields answer) ≤ 257)

abbrev pub AllFits : List Answer → Type 0
AllFits [] = Unit {0}
AllFits (answer ∷ answers) = Fits answer × AllFits answers
