-- What the steps that read a line's fields answer: the next number, or the refusal of the first field that shows none. Assumes nothing.
use Rattle.std.specs.Prelude.{◌≡◌, ℕ, ◌+◌, ◌*◌, ◌<◌, List, length, take, drop, Ok, Err, Result}
use Rattle.sheet.specs.declared.refusals.Refusal.{Refusal}
use Rattle.sheet.specs.declared.refusals.Refusal.TheVariants.{IllFormedField}
use Rattle.sheet.specs.declared.verbs.Verb.{Verb}
use Rattle.sheet.specs.declared.parsing.Line.{Line}
use Rattle.sheet.specs.Fields.{Shows, WellFormed, IllFormed}
use Rattle.sheet.specs.Parsing.{verb_of, numbers, field_at, BeginWith, AllWellFormed, Lends}

-- the number of the next field, which begins at this column of the line, and the columns after it
abbrev pub Next : List ℕ → (column : ℕ) → Result ℕ Refusal → List ℕ → (after : ℕ) → Type 0
Next columns column (Ok v) rest after = Shows (take 4 columns) v × (rest ≡ drop 4 columns) × (after ≡ column + 4)
Next columns column (Err e) rest after = (e ≡ IllFormedField column) × IllFormed (take 4 columns)

-- the columns begin at this column of the line; the refusal names the first ill-formed field in so many bytes of them
pub record IllWithin (bytes : ℕ) (columns : List ℕ) (column : ℕ) (e : Refusal) : Type 0 where
  pub index : ℕ
  pub names : e ≡ IllFormedField (column + 4 * index)
  pub inside : 4 * index < bytes
  pub ill : IllFormed (field_at columns index)
  pub before : (k : ℕ) → k < index → WellFormed (field_at columns k)

-- the numbers of so many fields, and the columns after them
abbrev pub NumbersRead : (count : ℕ) → List ℕ → (column : ℕ) → Result (List ℕ) Refusal → List ℕ → (after : ℕ) → Type 0
NumbersRead count columns column (Ok vs) rest after = (length vs ≡ count) × BeginWith columns vs × (rest ≡ drop (4 * count) columns) × (after ≡ column + 4 * count)
NumbersRead count columns column (Err e) rest after = IllWithin (4 * count) columns column e

-- the symbols after a save's page
abbrev pub SymbolsRead : List ℕ → (column : ℕ) → Result (Unit {0}) Refusal → Type 0
SymbolsRead columns column (Ok granted) = AllWellFormed columns
SymbolsRead columns column (Err e) = IllWithin (length columns) columns column e

-- a line of this verb, whose columns begin at this column of the line
abbrev pub LineRead : Verb → List ℕ → (column : ℕ) → Result Line Refusal → Type 0
LineRead v columns column (Ok l) = (verb_of l ≡ v) × BeginWith columns (numbers l) × Lends columns l
LineRead v columns column (Err e) = IllWithin (length columns) columns column e
