-- What a card is held to on the lines of a sheet: whatever history led to the card, each line's turn leads to the card after it. Assumes nothing.
use Rattle.std.specs.Prelude.{◌≡◌, ℕ, ◌+◌, ◌%◌, ◌≤◌, ◌⊎◌, min, Bool, true, false, List, [], ◌++◌, map, length, Some, None, Ok, Err, Option, Result}
use Rattle.code.specs.Words.{BlockCode, rest}
use Rattle.sheet.specs.declared.refusals.Refusal as sheet
use Rattle.sheet.specs.declared.refusals.Refusal.TheVariants.{OutOfTurn}
use Rattle.sheet.specs.declared.parsing.Line.{Line}
use Rattle.sheet.specs.declared.parsing.Line.TheVariants.{Card, Floor, Worn, Move, Open, Read, Same, Save}
use Rattle.sheet.specs.Parsing.{AllWellFormed, Parsed}
use Rattle.ledger.specs.Ledger.{Made, Page, Call, save, read, compare, wear, drift, Answer, done, AtBench, InService}
use Rattle.card.specs.declared.cards.Benched.{Benched}
use Rattle.card.specs.declared.cards.Serving.{Serving}
use Rattle.card.specs.declared.cards.Card as cards
use Rattle.card.specs.History.{CardShows}
use Rattle.runs.specs.declared.requests.BenchFloor.{BenchFloor}
use Rattle.runs.specs.declared.requests.Request.{Request}
use Rattle.runs.specs.Told.{call_of}
use Rattle.listing.specs.declared.refusals.Refusal.{Refusal}
use Rattle.listing.specs.declared.run.Run.{Run}
use Rattle.listing.specs.Rows.{AllFits, rows}
use Rattle.listing.specs.Told.{told}
use Rattle.listing.specs.Telling.{to_come, so_far}
use Rattle.listing.specs.Turns.{Stage, at_bench, in_service, ShowAll, ForBench, ForService, Turn, Turns}

-- a card at the bench, and in service
abbrev pub Bench : Type 0 → Type 0
Bench C = cards.Card C Benched

abbrev pub Service : Type 0 → Type 0
Service C = cards.Card C Serving

-- a number as a byte; what is too high for one is no symbol, and stays none
abbrev pub capped : ℕ → ℕ
capped v = min v 255

-- the symbols that a save's columns show, as bytes
abbrev pub SymbolsShown : (columns bytes : List ℕ) → Type 0
SymbolsShown columns bytes = (message : List ℕ) × ShowAll columns message × (bytes ≡ map capped message)

-- a save's columns are whole fields, all well formed
abbrev pub WholeFields : List ℕ → Type 0
WholeFields columns = AllWellFormed columns × (length columns % 4 ≡ 0) × (length columns ≤ 1020)

-- a line is refused: for its form, or because it is for another time
abbrev pub Refuses : (ForIt : Line → Type 0) → (line : List ℕ) → sheet.Refusal → Type 0
Refuses ForIt line e = Parsed line (Err e) ⊎ ((e ≡ OutOfTurn) × ((x : Line) × Parsed line (Ok x) × (ForIt x → ⊥)))

-- what a line asks of a card at the bench: a floor, or None for the opening
abbrev pub FloorAsked : (line : List ℕ) → Result (Option BenchFloor) sheet.Refusal → Type 0
FloorAsked line (Ok (Some f)) = Parsed line (Ok (Floor f.page f.cell f.floor))
FloorAsked line (Ok None) = Parsed line (Ok Open)
FloorAsked line (Err e) = Refuses ForBench line e

-- the call of a line in service, with a buffer of so many symbols for a read; a line that is for the bench has none
abbrev pub CallFor : (room : ℕ) → Line → Call → Type 0
CallFor room (Worn page cell level) call = call ≡ wear page cell level
CallFor room (Move page cell level) call = call ≡ drift page cell level
CallFor room (Read page) call = call ≡ read page room
CallFor room (Same one other) call = call ≡ compare one other
CallFor room (Save page symbols) call = (bytes : List ℕ) × SymbolsShown symbols.now bytes × (call ≡ save page bytes)
CallFor room (Card alphabet code q n f pages) call = ⊥
CallFor room (Floor page cell level) call = ⊥
CallFor room Open call = ⊥

abbrev pub RequestAsked : (room : ℕ) → (line : List ℕ) → Result Request sheet.Refusal → Type 0
RequestAsked room line (Ok request) = (x : Line) × Parsed line (Ok x) × CallFor room x (call_of request)
RequestAsked room line (Err e) = Refuses ForService line e

-- the histories that led to a card at the bench, in service, or at the bench where its opening has been granted
abbrev pub AtTheBench : {C : Type 0} (meaning : C → BlockCode) → Made → Stage → Bench C → Type 0
AtTheBench meaning made (at_bench past) b = (l : List Page) × AtBench made past l × CardShows meaning b made l
AtTheBench meaning made (in_service bench past) b = ⊥

abbrev pub AtItsOpening : {C : Type 0} (meaning : C → BlockCode) → Made → Stage → Bench C → Type 0
AtItsOpening meaning made (at_bench past) b = ⊥
AtItsOpening meaning made (in_service bench past) b = (past ≡ []) × ((l : List Page) × AtBench made bench l × CardShows meaning b made l)

-- a read has room for so many symbols, as many as a message has
abbrev pub AtService : {C : Type 0} (meaning : C → BlockCode) (room : ℕ) → Made → Stage → Service C → Type 0
AtService meaning room made (at_bench past) s = ⊥
AtService meaning room made (in_service bench past) s = (room ≡ length (rest made.code.information)) × ((l : List Page) × InService made bench past l × CardShows meaning s made l)

-- whatever history led to the card, this line is told so and leads to the card after it
abbrev pub Goes : {S : Type 0} (At : Made → Stage → S → Type 0) → S → (line : List ℕ) → Answer → S → Type 0
Goes At s line a s' = (made : Made) (stage : Stage) → At made stage s → (stage' : Stage) × Turn made stage line a stage' × At made stage' s'

-- the same of lines one after another
abbrev pub GoesAll : {S : Type 0} (At After : Made → Stage → S → Type 0) → S → (lines : List (List ℕ)) → List Answer → S → Type 0
GoesAll At After s lines answers s' = (made : Made) (stage : Stage) → At made stage s → (stage' : Stage) × Turns made stage lines answers stage' × After made stage' s'

-- some history led to the card
pub record InUse {S : Type 0} (At : Made → Stage → S → Type 0) (s : S) : Type 0 where
  pub made : Made
  pub stage : Stage
  pub led : At made stage s

-- the answers all fit their columns, and a run writes them one row each and numbers its rows on
pub record Listed (answers : List Answer) (before after : Run) : Type 0 where
  pub fit : AllFits answers
  pub numbered : after.number ≡ before.number + length answers
  pub written : so_far after ≡ so_far before ++ rows before.number answers

-- the first lines of a run lead from card to card, and their answers are listed
pub record ListedLines {S : Type 0} (At After : Made → Stage → S → Type 0) (s : S) (before : Run) (s' : S) (after : Run) : Type 0 where
  pub lines : List (List ℕ)
  pub answers : List Answer
  pub gone : to_come before ≡ lines ++ to_come after
  pub listed : Listed answers before after
  pub goes : GoesAll At After s lines answers s'

-- and those are all of its lines
abbrev pub AllListed : {S : Type 0} (At : Made → Stage → S → Type 0) → S → Run → S → Run → Type 0
AllListed At s before s' after = ListedLines At At s before s' after × (to_come after ≡ [])

-- a line at the bench: true where it asks for the opening
abbrev pub BenchLine : {C : Type 0} (meaning : C → BlockCode) → Bench C → (line : List ℕ) → Result Bool Refusal → Bench C → Type 0
BenchLine meaning b line (Ok true) b' = Parsed line (Ok Open) × (b' ≡ b)
BenchLine meaning b line (Ok false) b' = Goes (AtTheBench meaning) b line done b'
BenchLine meaning b line (Err e) b' = Goes (AtTheBench meaning) b line (told (Err e)) b'

-- the lines at the bench: all of them, or those up to one that opens the card
abbrev pub BenchLines : {C : Type 0} (meaning : C → BlockCode) → Bench C → Run → (opened : Bool) → Bench C → Run → Type 0
BenchLines meaning b before false b' after = AllListed (AtTheBench meaning) b before b' after
BenchLines meaning b before true b' after = ListedLines (AtTheBench meaning) (AtItsOpening meaning) b before b' after
