-- What a card of one page keeps that is floored once, opened and saved to. Assumes nothing.
use Rattle.std.specs.Prelude.{◌≡◌, ℕ, ◌<◌, true, List, [], ◌∷◌, is_ok}
use Rattle.code.specs.Words.{BlockCode, Message}
use Rattle.ledger.specs.Ledger as ledger
use Rattle.ledger.specs.Ledger.{Made, floor, save, InService}
use Rattle.card.specs.History.{made_from, note_answer, save_answer, CardShows}
use Rattle.opened.specs.declared.Opened.{Opened}

-- a card of one page that forces no cell
abbrev pub one_page : BlockCode → Made
one_page code = made_from code 0 1

-- the floor and the save, each with its answer, lead from a new card to a ledger that the card shows; and both are granted if the cell, the floor and the message are the code's
pub record OpenedAndSaved {C : Type 0} (meaning : C → BlockCode) (code : C) (cell level : ℕ) (message : List ℕ) (o : Opened C) : Type 0 where
  pub ledger_of : List ledger.Page
  pub kept : InService (one_page (meaning code)) ((floor 0 cell level, note_answer o.floored) ∷ []) ((save 0 message, save_answer o.saved) ∷ []) ledger_of
  pub shown : CardShows meaning o.card (one_page (meaning code)) ledger_of
  pub granted : cell < (meaning code).cells → level < (meaning code).arithmetic.size → Message (meaning code) message → (is_ok o.floored ≡ true) × (is_ok o.saved ≡ true)
