-- What listing a card and a sheet's lines adds to a run. Assumes nothing.
use Rattle.std.specs.Prelude.{ℕ, List, [], ◌∷◌, drop, Ok, Err, Result}
use Rattle.code.specs.Words.{BlockCode}
use Rattle.catalog.specs.Kinds.{code_of}
use Rattle.ledger.specs.Ledger.{Made, Answer}
use Rattle.listing.specs.declared.refusals.Refusal.{Refusal}
use Rattle.listing.specs.declared.run.Run.{Run}
use Rattle.listing.specs.declared.terms.Asked.{Asked}
use Rattle.listing.specs.Rows.{Fits}
use Rattle.listing.specs.Told.{told}
use Rattle.listing.specs.Telling.{to_come}
use Rattle.listing.specs.Turns.{Stage, Kept, Turns}
use Rattle.listing.specs.Serving.{Bench, AtTheBench, Listed}
use Rattle.listing.specs.Listing.{CardTold, SheetTold}

-- the lines after the first: whatever history led to the card at the bench, they lead on from it
pub record OthersListed {C : Type 0} (meaning : C → BlockCode) (b : Bench C) (before after : Run) : Type 0 where
  pub answers : List Answer
  pub listed : Listed answers before after
  pub goes : (made : Made) (stage : Stage) → AtTheBench meaning made stage b → (stage' : Stage) × Turns made stage (to_come before) answers stage' × Kept made stage'

-- the first line asks for this card
pub record CardListed (code : BlockCode) (allowance pages : ℕ) (before after : Run) : Type 0 where
  pub answers : List Answer
  pub told : CardTold code allowance pages (drop 1 (to_come before)) answers
  pub listed : Listed answers before after

pub record SheetListed (before after : Run) : Type 0 where
  pub answers : List Answer
  pub told : SheetTold (to_come before) answers
  pub listed : Listed answers before after

-- what a first line asks for: a card, or nothing that it is granted, and then it is told just that, whatever lines follow it
abbrev pub CardAsked : (first : List ℕ) → Result Asked Refusal → Type 0
CardAsked first (Ok asked) = (lines : List (List ℕ)) (answers : List Answer) → CardTold (code_of asked.code) asked.terms.allowance asked.terms.pages lines answers → SheetTold (first ∷ lines) answers
CardAsked first (Err e) = Fits (told (Err e)) × ((lines : List (List ℕ)) → SheetTold (first ∷ lines) (told (Err e) ∷ []))
