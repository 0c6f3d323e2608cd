-- What a new card does with a message, and one such card: the promise is of runs that there are. Assumes nothing.
use Rattle.std.specs.Prelude.{ℕ, ◌<◌, ◌≤◌, List, [], ◌∷◌, length}
use Rattle.alphabet.specs.Residue.{modulo}
use Rattle.code.specs.Words.{Message}
use Rattle.code.specs.Laws.{CodeLaws}
use Rattle.code.specs.Bare.{bare}
use Rattle.ledger.specs.Ledger.{Made, Page, save, read, stored, found, InService}

-- a run that saves a message on a page with no cell forced, and reads it back with none corrected
pub record SavesAndReads (made : Made) (p : ℕ) (message : List ℕ) : Type 0 where
  pub mask : ℕ
  pub pages : List Page
  pub run : InService made [] ((read p (length message), found 0 message) ∷ (save p message, stored mask 0) ∷ []) pages

-- a new card has such a run for each page and each message
abbrev pub NewCardsRead : Type 0
NewCardsRead = (made : Made) → CodeLaws made.code → made.allowance ≤ made.code.radius → (p : ℕ) (message : List ℕ) → p < made.pages → Message made.code message → SavesAndReads made p message

-- a card of one page: two cells of three levels, of which one carries the message and the other the mask
abbrev pub small_card : Made
small_card = record { code = bare (modulo 3) 2; allowance = 0; pages = 1 }

abbrev pub SmallCardReads : Type 0
SmallCardReads = CodeLaws small_card.code × SavesAndReads small_card 0 (1 ∷ [])
