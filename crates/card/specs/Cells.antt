-- What a page's own calls on one of its cells answer and leave. Assumes nothing.
use Rattle.std.specs.Prelude.{◌≡◌, ℕ, ◌<◌, ◌≤◌, max, List, Ok, Err, Result, slice_index, slice_set}
use Rattle.card.specs.declared.refusals.Refusal.{Refusal}
use Rattle.card.specs.declared.refusals.Refusal.TheVariants.{NoCell, NoLevel, BelowFloor}

-- why a cell and a level name no spot of a page of so many cells
abbrev pub NoSpot : (cells size cell level : ℕ) → Refusal → Type 0
NoSpot cells size cell level (NoCell c) = (c ≡ cell) × (cells ≤ cell)
NoSpot cells size cell level (NoLevel v) = (v ≡ level) × (cell < cells) × (size ≤ level)
NoSpot cells size cell level _ = ⊥

-- a cell and a level that name a spot
pub record Spot (cells size cell level : ℕ) : Type 0 where
  pub cell_there : cell < cells
  pub level_there : level < size

-- the spot is there, and its floor and level were set
pub record CellSet (cells size cell level : ℕ) (floors levels : List ℕ) (floor_to level_to : ℕ) (floors' levels' : List ℕ) : Type 0 where
  pub spot : Spot cells size cell level
  pub floor_set : floors' ≡ slice_set floors cell floor_to
  pub level_set : levels' ≡ slice_set levels cell level_to

-- a bench floor sets a cell's floor and level
abbrev pub Floored : (cells size cell level : ℕ) (floors levels : List ℕ) → Result (Unit {0}) Refusal → (floors' levels' : List ℕ) → Type 0
Floored cells size cell level floors levels (Ok done) floors' levels' = CellSet cells size cell level floors levels level level floors' levels'
Floored cells size cell level floors levels (Err refusal) floors' levels' = NoSpot cells size cell level refusal × (floors' ≡ floors) × (levels' ≡ levels)

-- a wear note raises a cell's floor, and its level to that
abbrev pub Worn : (cells size cell level : ℕ) (floors levels : List ℕ) → Result (Unit {0}) Refusal → (floors' levels' : List ℕ) → Type 0
Worn cells size cell level floors levels (Ok done) floors' levels' =
    CellSet cells size cell level floors levels (max (slice_index floors cell) level) (max (slice_index levels cell) (max (slice_index floors cell) level)) floors' levels'
Worn cells size cell level floors levels (Err refusal) floors' levels' = NoSpot cells size cell level refusal × (floors' ≡ floors) × (levels' ≡ levels)

-- why a level does not drift: there is no such spot, or it would be below the floor
abbrev pub NoDrift : (cells size cell level : ℕ) (floors : List ℕ) → Refusal → Type 0
NoDrift cells size cell level floors (BelowFloor c) = (c ≡ cell) × Spot cells size cell level × (level < slice_index floors cell)
NoDrift cells size cell level floors e = NoSpot cells size cell level e

-- a drift note sets a cell's level, and leaves its floor
abbrev pub Drifted : (cells size cell level : ℕ) (floors levels : List ℕ) → Result (Unit {0}) Refusal → (floors' levels' : List ℕ) → Type 0
Drifted cells size cell level floors levels (Ok done) floors' levels' = Spot cells size cell level × (slice_index floors cell ≤ level) × (floors' ≡ floors) × (levels' ≡ slice_set levels cell level)
Drifted cells size cell level floors levels (Err refusal) floors' levels' = NoDrift cells size cell level floors refusal × (floors' ≡ floors) × (levels' ≡ levels)
