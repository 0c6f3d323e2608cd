-- What the listing of a sheet is. Assumes nothing.
use Rattle.std.specs.Prelude.{ℕ, ◌≤◌, List, [], ◌∷◌, Ok, Err}
use Rattle.alphabet.specs.Refusals as code_refusals
use Rattle.alphabet.specs.declared.refusals.Refusal as code_refusal
use Rattle.code.specs.Words.{BlockCode}
use Rattle.catalog.specs.Offers.{Chosen}
use Rattle.sheet.specs.declared.refusals.Refusal.{Refusal}
use Rattle.sheet.specs.declared.refusals.Refusal.TheVariants.{SheetLength, OutOfTurn}
use Rattle.sheet.specs.declared.parsing.Line.{Line}
use Rattle.sheet.specs.declared.parsing.Line.TheVariants.{Card, Floor, Worn, Move, Open, Read, Same, Save}
use Rattle.sheet.specs.Refusals.{Checked}
use Rattle.sheet.specs.Cutting.{AllLines}
use Rattle.sheet.specs.Parsing.{Parsed}
use Rattle.ledger.specs.Ledger.{Answer, done, refused}
use Rattle.ledger.specs.Promise.{Promise}
use Rattle.card.specs.declared.refusals.Refusal as card_refusal
use Rattle.card.specs.History.{made_from, refusal_answer}
use Rattle.card.specs.Making.{Pages, RefusedCard}
use Rattle.listing.specs.Rows.{row, rows, AllFits}
use Rattle.listing.specs.Told.{form_refusal}
use Rattle.listing.specs.Turns.{Stage, at_bench, Kept, Turns}

-- a refusal of what a code is chosen from
abbrev pub choice_refusal : code_refusal.Refusal → Answer
choice_refusal e = refused (code_refusals.number e) (code_refusals.layer e) (code_refusals.place e)

-- the answers to a sheet whose first line asks for a card of this code: the card is refused, and that ends the run; or it is made,
-- the other lines are told what they are told of it, its calls are answered by its ledger, and every run of it keeps the promise
pub data CardTold (code : BlockCode) (allowance pages : ℕ) (lines : List (List ℕ)) : List Answer → Type 0 where
  card_refused : (e : card_refusal.Refusal) → RefusedCard code allowance pages e → CardTold code allowance pages lines (refusal_answer e ∷ [])
  card_made : (answers : List Answer) (stage : Stage) → Pages pages → allowance ≤ code.radius → Turns (made_from code allowance pages) (at_bench []) lines answers stage
      → Kept (made_from code allowance pages) stage → Promise (made_from code allowance pages) → CardTold code allowance pages lines (done ∷ answers)

abbrev pub AsksForCard : Line → Type 0
AsksForCard (Card alphabet code q n f pages) = Unit {0}
AsksForCard (Floor page cell level) = ⊥
AsksForCard (Worn page cell level) = ⊥
AsksForCard (Move page cell level) = ⊥
AsksForCard Open = ⊥
AsksForCard (Read page) = ⊥
AsksForCard (Same one other) = ⊥
AsksForCard (Save page symbols) = ⊥

-- the answers to the lines of a sheet: a first line that is refused ends the run
pub data SheetTold : List (List ℕ) → List Answer → Type 0 where
  first_ill_formed : (first : List ℕ) (lines : List (List ℕ)) (e : Refusal) → Parsed first (Err e) → SheetTold (first ∷ lines) (form_refusal e ∷ [])
  first_untimely : (first : List ℕ) (lines : List (List ℕ)) (x : Line) → Parsed first (Ok x) → (AsksForCard x → ⊥) → SheetTold (first ∷ lines) (form_refusal OutOfTurn ∷ [])
  not_on_offer : (first : List ℕ) (lines : List (List ℕ)) (a c q n f p : ℕ) (e : code_refusal.Refusal) → Parsed first (Ok (Card a c q n f p)) → Chosen a c q n (Err e) → SheetTold (first ∷ lines) (choice_refusal e ∷ [])
  on_offer : (first : List ℕ) (lines : List (List ℕ)) (a c q n f p : ℕ) (code : BlockCode) (answers : List Answer) → Parsed first (Ok (Card a c q n f p)) → Chosen a c q n (Ok code) → CardTold code f p lines answers → SheetTold (first ∷ lines) answers

-- the listing of a sheet: its lines, each cut where the sheet says, get one line of the listing for each answer, numbered from 1, and every number has a place in its columns.
-- A sheet that is empty or too long is refused as a whole, in a line of number 0
pub data Listing (sheet : List ℕ) : List ℕ → Type 0 where
  sheet_refused : Checked sheet (Err SheetLength) → Listing sheet (row 0 (form_refusal SheetLength))
  sheet_listed : (lines : List (List ℕ)) (answers : List Answer) → Checked sheet (Ok tt) → AllLines lines sheet → SheetTold lines answers → AllFits answers → Listing sheet (rows 1 answers)
