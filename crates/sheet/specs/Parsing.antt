-- What a line says, and when it is refused: for its length, else its verb, else the count of its fields, else its first ill-formed field. Assumes nothing.
use Rattle.std.specs.Prelude.{◌≡◌, ℕ, ◌+◌, ◌*◌, ◌<◌, ◌≤◌, List, [], ◌∷◌, length, take, drop, Ok, Err, Result, ◌≢◌}
use Rattle.sheet.specs.declared.refusals.Refusal.{Refusal}
use Rattle.sheet.specs.declared.refusals.Refusal.TheVariants.{SheetLength, LineLength, UnknownVerb, FieldCount, IllFormedField, OutOfTurn}
use Rattle.sheet.specs.declared.verbs.Verb.{Verb}
use Rattle.sheet.specs.declared.verbs.Verb.TheVariants as verb
use Rattle.sheet.specs.declared.parsing.Line.{Line}
use Rattle.sheet.specs.declared.parsing.Line.TheVariants.{Card, Floor, Worn, Move, Open, Read, Same, Save}
use Rattle.sheet.specs.Fields.{Shows, WellFormed, IllFormed}
use Rattle.sheet.specs.Verbs.{name, Counted}

abbrev pub verb_of : Line → Verb
verb_of (Card alphabet code q n f pages) = verb.Card
verb_of (Floor page cell floor) = verb.Floor
verb_of (Worn page cell floor) = verb.Worn
verb_of (Move page cell level) = verb.Move
verb_of Open = verb.Open
verb_of (Read page) = verb.Read
verb_of (Same one other) = verb.Same
verb_of (Save page symbols) = verb.Save

-- the numbers that a line gives, in their order
abbrev pub numbers : Line → List ℕ
numbers (Card alphabet code q n f pages) = alphabet ∷ code ∷ q ∷ n ∷ f ∷ pages ∷ []
numbers (Floor page cell floor) = page ∷ cell ∷ floor ∷ []
numbers (Worn page cell floor) = page ∷ cell ∷ floor ∷ []
numbers (Move page cell level) = page ∷ cell ∷ level ∷ []
numbers Open = []
numbers (Read page) = page ∷ []
numbers (Same one other) = one ∷ other ∷ []
numbers (Save page symbols) = page ∷ []

-- a field of the columns after the verb, counted from 0
abbrev pub field_at : List ℕ → ℕ → List ℕ
field_at columns k = take 4 (drop (4 * k) columns)

-- the columns begin with the fields of these numbers
abbrev pub BeginWith : List ℕ → List ℕ → Type 0
BeginWith columns [] = Unit {0}
BeginWith columns (v ∷ vs) = Shows (take 4 columns) v × BeginWith (drop 4 columns) vs

-- every field of the columns is well formed
abbrev pub AllWellFormed : List ℕ → Type 0
AllWellFormed columns = (k : ℕ) → 4 * k < length columns → WellFormed (field_at columns k)

-- a save borrows the columns after its page, which are fields throughout
abbrev pub Lends : List ℕ → Line → Type 0
Lends columns (Card alphabet code q n f pages) = Unit {0}
Lends columns (Floor page cell floor) = Unit {0}
Lends columns (Worn page cell floor) = Unit {0}
Lends columns (Move page cell level) = Unit {0}
Lends columns Open = Unit {0}
Lends columns (Read page) = Unit {0}
Lends columns (Same one other) = Unit {0}
Lends columns (Save page symbols) = (symbols.now ≡ drop 4 columns) × AllWellFormed symbols.now

-- the line is not too long, it begins with the verb, and whole fields follow, as many as the verb takes
pub record Formed (line : List ℕ) (v : Verb) : Type 0 where
  pub within : length line ≤ 1028
  pub named : take 4 line ≡ name v
  pub counted : Counted v (length (drop 4 line))

-- of the fields after the verb, the one that begins at this column of the line (counted from 1) is ill formed, and those before it are well formed
pub record FirstIll (columns : List ℕ) (column : ℕ) : Type 0 where
  pub index : ℕ
  pub starts : column ≡ 5 + 4 * index
  pub inside : 4 * index < length columns
  pub ill : IllFormed (field_at columns index)
  pub before : (k : ℕ) → k < index → WellFormed (field_at columns k)

-- what a line says, or the first thing that is wrong with it
abbrev pub Parsed : List ℕ → Result Line Refusal → Type 0
Parsed line (Ok l) = Formed line (verb_of l) × BeginWith (drop 4 line) (numbers l) × Lends (drop 4 line) l
Parsed line (Err LineLength) = 1028 < length line
Parsed line (Err UnknownVerb) = (length line ≤ 1028) × ((v : Verb) → take 4 line ≢ name v)
Parsed line (Err (FieldCount bytes)) = (bytes ≡ length line) × (length line ≤ 1028) × ((v : Verb) × (take 4 line ≡ name v) × (Counted v (length (drop 4 line)) → ⊥))
Parsed line (Err (IllFormedField column)) = ((v : Verb) × Formed line v) × FirstIll (drop 4 line) column
Parsed line (Err SheetLength) = ⊥
Parsed line (Err OutOfTurn) = ⊥
