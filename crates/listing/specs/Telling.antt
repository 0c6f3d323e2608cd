-- What telling the next line something makes of a run. Assumes nothing.
use Rattle.std.specs.Prelude.{◌≡◌, ℕ, ◌+◌, List, [], ◌∷◌, ◌++◌, drop, vec_items, Some, None, Option}
use Rattle.std.specs.Borrow.{Bor}
use Rattle.sheet.specs.Cutting.{texts}
use Rattle.ledger.specs.Ledger.{Answer}
use Rattle.listing.specs.declared.run.Run.{Run}
use Rattle.listing.specs.Rows.{row}

-- the lines that are still to come, and the rows so far
abbrev pub to_come : Run → List (List ℕ)
to_come run = texts run.lines.now

abbrev pub so_far : Run → List ℕ
so_far run = vec_items run.rows

-- the first of the lines to come, or None where there is none
abbrev pub FirstLine : Run → Option (Bor (List ℕ)) → Type 0
FirstLine run (Some line) = to_come run ≡ line.now ∷ drop 1 (to_come run)
FirstLine run None = to_come run ≡ []

-- it is told this in a row of its number, and the run goes on to the line after it
pub record Tells (before : Run) (answer : Answer) (after : Run) : Type 0 where
  pub gone : to_come after ≡ drop 1 (to_come before)
  pub numbered : after.number ≡ before.number + 1
  pub written : so_far after ≡ so_far before ++ row before.number answer
