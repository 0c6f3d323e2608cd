-- What the lines after the first are told, and the calls that they make of the card. Assumes nothing.
use Rattle.std.specs.Prelude.{◌≡◌, ℕ, ◌*◌, List, [], ◌∷◌, length, Ok, Err}
use Rattle.code.specs.Words.{rest}
use Rattle.sheet.specs.declared.refusals.Refusal.{Refusal}
use Rattle.sheet.specs.declared.refusals.Refusal.TheVariants.{OutOfTurn}
use Rattle.sheet.specs.declared.parsing.Line.{Line}
use Rattle.sheet.specs.declared.parsing.Line.TheVariants.{Card, Floor, Worn, Move, Open, Read, Same, Save}
use Rattle.sheet.specs.Parsing.{BeginWith, Parsed}
use Rattle.ledger.specs.Ledger.{Made, Page, BenchCall, floor, Call, save, read, compare, wear, drift, Answer, done, AtBench, InService}
use Rattle.listing.specs.Told.{form_refusal}

-- a card at the bench or in service, by its calls with their answers, the newest first
pub data Stage : Type 0 where
  at_bench : (past : List (BenchCall × Answer)) → Stage
  in_service : (bench : List (BenchCall × Answer)) (past : List (Call × Answer)) → Stage

-- the calls were answered as the card's ledger says
abbrev pub Kept : Made → Stage → Type 0
Kept made (at_bench past) = (l : List Page) × AtBench made past l
Kept made (in_service bench past) = (l : List Page) × InService made bench past l

-- the columns are the fields of these numbers, and nothing else
abbrev pub ShowAll : (columns numbers : List ℕ) → Type 0
ShowAll columns numbers = BeginWith columns numbers × (length columns ≡ 4 * length numbers)

-- the call that a line makes of a card in service; a read's buffer is as long as a message
abbrev pub Calls : Made → Line → Call → Type 0
Calls made (Worn page cell level) call = call ≡ wear page cell level
Calls made (Move page cell level) call = call ≡ drift page cell level
Calls made (Read page) call = call ≡ read page (length (rest made.code.information))
Calls made (Same one other) call = call ≡ compare one other
Calls made (Save page symbols) call = (message : List ℕ) × ShowAll symbols.now message × (call ≡ save page message)
Calls made (Card alphabet code q n f pages) call = ⊥
Calls made (Floor page cell level) call = ⊥
Calls made Open call = ⊥

-- a line for a card at the bench: a floor, or the opening
abbrev pub ForBench : Line → Type 0
ForBench (Floor page cell level) = Unit {0}
ForBench Open = Unit {0}
ForBench (Card alphabet code q n f pages) = ⊥
ForBench (Worn page cell level) = ⊥
ForBench (Move page cell level) = ⊥
ForBench (Read page) = ⊥
ForBench (Same one other) = ⊥
ForBench (Save page symbols) = ⊥

-- a line for a card in service: a note, a question or a save
abbrev pub ForService : Line → Type 0
ForService (Worn page cell level) = Unit {0}
ForService (Move page cell level) = Unit {0}
ForService (Read page) = Unit {0}
ForService (Same one other) = Unit {0}
ForService (Save page symbols) = Unit {0}
ForService (Card alphabet code q n f pages) = ⊥
ForService (Floor page cell level) = ⊥
ForService Open = ⊥

-- a line comes at the wrong time; a second card always does
abbrev pub Untimely : Stage → Line → Type 0
Untimely (at_bench past) x = ForBench x → ⊥
Untimely (in_service bench past) x = ForService x → ⊥

-- what a line is told, and the stage after it: its form is judged first, then its time, then its call is made
pub data Turn (made : Made) : Stage → (line : List ℕ) → Answer → Stage → Type 0 where
  ill_formed : (s : Stage) (line : List ℕ) (e : Refusal) → Parsed line (Err e) → Turn made s line (form_refusal e) s
  untimely : (s : Stage) (line : List ℕ) (x : Line) → Parsed line (Ok x) → Untimely s x → Turn made s line (form_refusal OutOfTurn) s
  floored : (past : List (BenchCall × Answer)) (line : List ℕ) (page cell level : ℕ) (a : Answer) → Parsed line (Ok (Floor page cell level))
      → Turn made (at_bench past) line a (at_bench ((floor page cell level, a) ∷ past))
  opened : (past : List (BenchCall × Answer)) (line : List ℕ) → Parsed line (Ok Open) → Turn made (at_bench past) line done (in_service past [])
  called : (bench : List (BenchCall × Answer)) (past : List (Call × Answer)) (line : List ℕ) (x : Line) (call : Call) (a : Answer) → Parsed line (Ok x) → Calls made x call
      → Turn made (in_service bench past) line a (in_service bench ((call, a) ∷ past))

-- what lines are told one after another
abbrev pub Turns : Made → Stage → (lines : List (List ℕ)) → List Answer → Stage → Type 0
Turns made s [] [] s' = s ≡ s'
Turns made s [] (a ∷ answers) s' = ⊥
Turns made s (line ∷ lines) [] s' = ⊥
Turns made s (line ∷ lines) (a ∷ answers) s' = (t : Stage) × Turn made s line a t × Turns made t lines answers s'
