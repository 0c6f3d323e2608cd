-- What four columns say: a number, right-justified after spaces, without leading zeros. Assumes nothing.
use Rattle.std.specs.Prelude.{◌≡◌, ℕ, ◌+◌, ◌-◌, ◌≤◌, cond, List, [], ◌∷◌, ◌++◌, map, length, take, drop, replicate, Some, None, Option, ◌==◌}
use Rattle.std.specs.Borrow.{Bor}
use Rattle.std.specs.Int.Digits.{digits_of}

-- the decimal digits of v, as bytes: "0" for zero, else without a leading zero
abbrev pub digits : ℕ → List ℕ
digits v = cond (v == 0) (48 ∷ []) (map (λ d. 48 + d) (digits_of 10 v))

-- padded on the left with spaces to four columns
abbrev pub pad : List ℕ → List ℕ
pad ds = replicate (4 - length ds) 32 ++ ds

-- padded on the left with spaces to so many columns
abbrev pub pad_to : (columns : ℕ) → List ℕ → List ℕ
pad_to columns ds = replicate (columns - length ds) 32 ++ ds

-- the columns cs are those of the number v
unfoldable pub Shows : List ℕ → ℕ → Type 0
Shows cs v = cs ≡ pad (digits v)

-- the columns show a number, or show none
abbrev pub WellFormed : List ℕ → Type 0
WellFormed cs = (v : ℕ) × Shows cs v

abbrev pub IllFormed : List ℕ → Type 0
IllFormed cs = (v : ℕ) → Shows cs v → ⊥

-- the number that the columns show, or None where they show none
abbrev pub Field : List ℕ → Option ℕ → Type 0
Field cs (Some v) = Shows cs v
Field cs None = IllFormed cs

-- the number in the first four columns and the columns after them, or None where those four show none
abbrev pub Taken : List ℕ → Option (ℕ × Bor (List ℕ)) → Type 0
Taken cs (Some p) = Shows (take 4 cs) p.0 × (p.1.now ≡ drop 4 cs)
Taken cs None = IllFormed (take 4 cs)

-- a column that holds a decimal digit
abbrev pub IsDigit : ℕ → Type 0
IsDigit b = (48 ≤ b) × (b ≤ 57)
