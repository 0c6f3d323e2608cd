-- The lines of a sheet: a line feed ends a line, and bytes after the last line feed are a last line. Assumes nothing.
use Rattle.std.specs.Prelude.{◌≡◌, ℕ, ◌-◌, ◌<◌, cond, ◌==◌, ◌⊎◌, List, [], ◌∷◌, ◌++◌, map, length, Some, None, Option, ◌≢◌, slice_index}
use Rattle.std.specs.Borrow.{Bor}

-- no line feed stands in the line
abbrev pub NoFeed : List ℕ → Type 0
NoFeed line = (i : ℕ) → i < length line → slice_index line i ≢ 10

-- the line is the sheet up to its first line feed, and the rest follows that; where there is no line feed, it is the sheet, which is not empty, and nothing follows
abbrev pub Cut : List ℕ → List ℕ → List ℕ → Type 0
Cut sheet line rest = NoFeed line × ((sheet ≡ line ++ 10 ∷ rest) ⊎ ((sheet ≡ line) × (rest ≡ []) × (0 < length line)))

-- the first line and the rest; None of an empty sheet
abbrev pub FirstCut : List ℕ → Option (Bor (List ℕ) × Bor (List ℕ)) → Type 0
FirstCut sheet None = sheet ≡ []
FirstCut sheet (Some p) = Cut sheet p.0.now p.1.now

-- the same where the rest is kept
abbrev pub NextCut : List ℕ → Option (Bor (List ℕ)) → List ℕ → Type 0
NextCut sheet None rest = (sheet ≡ []) × (rest ≡ [])
NextCut sheet (Some line) rest = Cut sheet line.now rest

-- these are the lines of the sheet: none of an empty sheet, else the first line and the lines of what follows it
abbrev pub LinesOf : List (List ℕ) → List ℕ → Type 0
LinesOf [] sheet = sheet ≡ []
LinesOf (line ∷ lines) sheet = (rest : List ℕ) × Cut sheet line rest × LinesOf lines rest

-- lines that are borrowed, as bytes
abbrev pub texts : List (Bor (List ℕ)) → List (List ℕ)
texts = map (λ line. line.now)

-- a byte put before the first of the lines
abbrev pub put_first : ℕ → List (List ℕ) → List (List ℕ)
put_first byte [] = (byte ∷ []) ∷ []
put_first byte (line ∷ more) = (byte ∷ line) ∷ more

-- the lines of the sheet, byte by byte
abbrev pub lines_of : List ℕ → List (List ℕ)
lines_of [] = []
lines_of (byte ∷ sheet) = cond (byte == 10) ([] ∷ lines_of sheet) (put_first byte (lines_of sheet))

-- the lines, each with a line feed after it
abbrev pub ended : List (List ℕ) → List ℕ
ended [] = []
ended (line ∷ lines) = line ++ 10 ∷ ended lines

-- the sheet is not empty, and its last byte is no line feed
abbrev pub Unended : List ℕ → Type 0
Unended sheet = (0 < length sheet) × (slice_index sheet (length sheet - 1) ≢ 10)

-- no other lines are those of the sheet
abbrev pub OnlyLines : List (List ℕ) → List ℕ → Type 0
OnlyLines lines sheet = (others : List (List ℕ)) → LinesOf others sheet → others ≡ lines

-- a last line without a line feed is a line like any other: the lines of a sheet are those of the sheet with the line feed that it lacks, and no others
abbrev pub LastLineCounts : List (List ℕ) → List ℕ → Type 0
LastLineCounts lines sheet = Unended sheet → LinesOf lines (sheet ++ 10 ∷ []) × OnlyLines lines (sheet ++ 10 ∷ [])

-- with a line feed after each, the lines are the sheet, or the sheet with the line feed that it lacks
abbrev pub Rejoined : List (List ℕ) → List ℕ → Type 0
Rejoined lines sheet = (ended lines ≡ sheet) ⊎ (Unended sheet × (ended lines ≡ sheet ++ 10 ∷ []))

-- all lines of the sheet, and what follows for them
pub record AllLines (lines : List (List ℕ)) (sheet : List ℕ) : Type 0 where
  pub cut : LinesOf lines sheet
  pub only : OnlyLines lines sheet
  pub last : LastLineCounts lines sheet
  pub rejoined : Rejoined lines sheet
