-- That a line has one reading: what the definition of parsing says of a line, it says of one answer only. Assumes nothing.
use Rattle.std.specs.Prelude.{◌≡◌, ℕ, List, [], Ok, Err, Result}
use Rattle.sheet.specs.declared.refusals.Refusal.{Refusal}
use Rattle.sheet.specs.declared.verbs.Verb.{Verb}
use Rattle.sheet.specs.declared.parsing.Line.{Line}
use Rattle.sheet.specs.declared.parsing.Line.TheVariants.{Card, Floor, Worn, Move, Open, Read, Same, Save}
use Rattle.sheet.specs.Parsing.{verb_of, numbers, Parsed}

-- the columns that a line borrows
abbrev pub symbols_of : Line → List ℕ
symbols_of (Card alphabet code q n f pages) = []
symbols_of (Floor page cell floor) = []
symbols_of (Worn page cell floor) = []
symbols_of (Move page cell level) = []
symbols_of Open = []
symbols_of (Read page) = []
symbols_of (Same one other) = []
symbols_of (Save page symbols) = symbols.now

-- an answer by its bytes, wherever they stand
abbrev pub told : Result Line Refusal → Result (Verb × List ℕ × List ℕ) Refusal
told (Ok l) = Ok (verb_of l, numbers l, symbols_of l)
told (Err e) = Err e

-- two answers that a line parses to say the same
abbrev pub OneReading : Type 0
OneReading = (line : List ℕ) (r s : Result Line Refusal) → Parsed line r → Parsed line s → told r ≡ told s
