-- The number, the layer and the place of each refusal of a sheet and of its lines, and which sheets are refused whole. Assumes nothing.
use Rattle.std.specs.Prelude.{◌≡◌, ℕ, ◌<◌, ◌≤◌, ◌⊎◌, List, length, Ok, Err, Result}
use Rattle.sheet.specs.declared.refusals.Refusal.{Refusal}
use Rattle.sheet.specs.declared.refusals.Refusal.TheVariants.{SheetLength, LineLength, UnknownVerb, FieldCount, IllFormedField, OutOfTurn}

abbrev pub number : Refusal → ℕ
number SheetLength = 26
number LineLength = 25
number UnknownVerb = 20
number (FieldCount bytes) = 22
number (IllFormedField column) = 21
number OutOfTurn = 23

abbrev pub layer : Refusal → ℕ
layer refusal = 3

abbrev pub place : Refusal → ℕ
place SheetLength = 0
place LineLength = 1029
place UnknownVerb = 1
place (FieldCount bytes) = bytes
place (IllFormedField column) = column
place OutOfTurn = 1

-- a sheet has 1 to 65,536 bytes
abbrev pub Checked : List ℕ → Result (Unit {0}) Refusal → Type 0
Checked sheet (Ok granted) = (0 < length sheet) × (length sheet ≤ 65536)
Checked sheet (Err SheetLength) = (length sheet ≡ 0) ⊎ (65536 < length sheet)
Checked sheet (Err LineLength) = ⊥
Checked sheet (Err UnknownVerb) = ⊥
Checked sheet (Err (FieldCount bytes)) = ⊥
Checked sheet (Err (IllFormedField column)) = ⊥
Checked sheet (Err OutOfTurn) = ⊥
