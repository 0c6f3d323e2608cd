-- The ledger of a card: what its pages hold and what its calls answer, kept from what the card was made from and from the calls alone.
-- One line for each rule, in the words of the pages; nothing here speaks of how a card works. Assumes nothing.
use Rattle.std.specs.Prelude.{◌≡◌, ℕ, ◌<◌, ◌≤◌, max, Bool, false, not, ◌||◌, List, [], ◌∷◌, length, replicate, Some, None, Option, ◌==◌, ◌≢◌, nat_lt, slice_index, slice_index_or, slice_set}
use Rattle.code.specs.Words.{BlockCode, Message, rest}
use Rattle.code.specs.Calls.{FirstBad, AllFar}
use Rattle.masking.specs.Floors.{Fewest}
use Rattle.masking.specs.Writing.{Writes}
use Rattle.masking.specs.Reading.{Reads}

-- what a card is made from
pub record Made : Type 0 where
  pub code : BlockCode
  pub allowance : ℕ
  pub pages : ℕ

-- a page: its floors and levels, the last message that was granted, and the spent cells, which that save forced or notes moved since
pub record Page : Type 0 where
  pub floors : List ℕ
  pub levels : List ℕ
  pub message : Option (List ℕ)
  pub spent : List Bool

abbrev pub blank : ℕ → Page
blank cells = record { floors = replicate cells 0; levels = replicate cells 0; message = None; spent = replicate cells false }

-- the pages of a new card
abbrev pub blank_pages : Made → List Page
blank_pages made = replicate made.pages (blank made.code.cells)

abbrev pub page_of : Made → List Page → ℕ → Page
page_of made ledger i = slice_index_or ledger i (blank made.code.cells)

abbrev pub floor_at : Page → ℕ → ℕ
floor_at page cell = slice_index page.floors cell

abbrev pub level_at : Page → ℕ → ℕ
level_at page cell = slice_index page.levels cell

pub data BenchCall : Type 0 where
  floor : (page cell level : ℕ) → BenchCall

-- a save brings its symbols, a read the length of its buffer
pub data Call : Type 0 where
  save : (page : ℕ) (symbols : List ℕ) → Call
  read : (page room : ℕ) → Call
  compare : (one other : ℕ) → Call
  wear : (page cell level : ℕ) → Call
  drift : (page cell level : ℕ) → Call

pub data Answer : Type 0 where
  done : Answer
  stored : (mask forced : ℕ) → Answer
  found : (corrected : ℕ) (message : List ℕ) → Answer
  compared : (same : ℕ) → Answer
  refused : (number layer place : ℕ) → Answer

-- a spot is a page, a cell of it and a level, each of which there is
pub record Spot (made : Made) (page cell level : ℕ) : Type 0 where
  pub page_there : page < made.pages
  pub cell_there : cell < made.code.cells
  pub level_there : level < made.code.arithmetic.size

-- the first of these that there is not
pub data NoSpot (made : Made) (page cell level : ℕ) : Answer → Type 0 where
  no_page : made.pages ≤ page → NoSpot made page cell level (refused 4 2 page)
  no_cell : page < made.pages → made.code.cells ≤ cell → NoSpot made page cell level (refused 5 2 cell)
  no_level : page < made.pages → cell < made.code.cells → made.code.arithmetic.size ≤ level → NoSpot made page cell level (refused 6 2 level)

-- why a page is not read: there is none, it is blank, or it is too far gone
pub data Unreadable (made : Made) (ledger : List Page) (page : ℕ) : Answer → Type 0 where
  no_page : made.pages ≤ page → Unreadable made ledger page (refused 4 2 page)
  is_blank : page < made.pages → (page_of made ledger page).message ≡ None → Unreadable made ledger page (refused 10 2 page)
  too_far : (m : List ℕ) → page < made.pages → (page_of made ledger page).message ≡ Some m → AllFar made.code (page_of made ledger page).levels → Unreadable made ledger page (refused 11 1 0)

-- a page that has taken a message reads as its levels do
pub record Readable (made : Made) (ledger : List Page) (page corrected : ℕ) (message : List ℕ) : Type 0 where
  pub page_there : page < made.pages
  pub last : List ℕ
  pub taken : (page_of made ledger page).message ≡ Some last
  pub reads : Reads made.code (page_of made ledger page).levels corrected message

-- the cells of a word that are below their floors
abbrev pub below_floor : (floors word : List ℕ) → List Bool
below_floor [] xs = []
below_floor (s ∷ ss) [] = []
below_floor (s ∷ ss) (x ∷ xs) = nat_lt x s ∷ below_floor ss xs

-- a page with one cell's floor and level set; the cell becomes spent if its level changed
abbrev pub with_cell : Page → (cell floor level : ℕ) → Page
with_cell page cell f v = record {
  floors = slice_set page.floors cell f;
  levels = slice_set page.levels cell v;
  message = page.message;
  spent = slice_set page.spent cell (slice_index_or page.spent cell false || not (v == slice_index page.levels cell));
}

-- a page with a bench floor, to which its cell's level is set
abbrev pub with_floor : Page → (cell floor : ℕ) → Page
with_floor page cell f = record { floors = slice_set page.floors cell f; levels = slice_set page.levels cell f; message = page.message; spent = page.spent }

-- a page that has taken a message: only the forced cells are spent
abbrev pub with_message : Page → (message carrier word : List ℕ) → Page
with_message page m carrier word = record { floors = page.floors; levels = word; message = Some m; spent = below_floor page.floors carrier }

pub data BenchStep (made : Made) : List Page → BenchCall → Answer → List Page → Type 0 where
  floored : (l : List Page) (p c v : ℕ) → Spot made p c v → BenchStep made l (floor p c v) done (slice_set l p (with_floor (page_of made l p) c v))
  not_floored : (l : List Page) (p c v : ℕ) (a : Answer) → NoSpot made p c v a → BenchStep made l (floor p c v) a l

pub data Step (made : Made) : List Page → Call → Answer → List Page → Type 0 where
  -- saves
  save_no_page : (l : List Page) (p : ℕ) (m : List ℕ) → made.pages ≤ p → Step made l (save p m) (refused 4 2 p) l
  save_wrong_length : (l : List Page) (p : ℕ) (m : List ℕ) → p < made.pages → (length m ≢ length (rest made.code.information)) → Step made l (save p m) (refused 7 2 (length m)) l
  save_no_symbol : (l : List Page) (p : ℕ) (m : List ℕ) (i : ℕ) → p < made.pages → length m ≡ length (rest made.code.information) → FirstBad made.code.arithmetic.size m i → Step made l (save p m) (refused 8 2 i) l
  save_no_mask : (l : List Page) (p : ℕ) (m : List ℕ) (mask fewest : ℕ) (carrier : List ℕ) → p < made.pages → Message made.code m
      → Fewest made.code (page_of made l p).floors m mask fewest carrier → made.allowance < fewest → Step made l (save p m) (refused 9 2 fewest) l
  saved : (l : List Page) (p : ℕ) (m : List ℕ) (mask forced : ℕ) (word : List ℕ) → p < made.pages → Message made.code m
      → (w : Writes made.code (page_of made l p).floors made.allowance m mask forced word) → Step made l (save p m) (stored mask forced) (slice_set l p (with_message (page_of made l p) m w.carrier word))
  -- reads
  read_no_page : (l : List Page) (p n : ℕ) → made.pages ≤ p → Step made l (read p n) (refused 4 2 p) l
  read_wrong_room : (l : List Page) (p n : ℕ) → p < made.pages → (n ≢ length (rest made.code.information)) → Step made l (read p n) (refused 7 2 n) l
  not_read : (l : List Page) (p n : ℕ) (a : Answer) → p < made.pages → n ≡ length (rest made.code.information) → Unreadable made l p a → Step made l (read p n) a l
  is_read : (l : List Page) (p n corrected : ℕ) (m : List ℕ) → n ≡ length (rest made.code.information) → Readable made l p corrected m → Step made l (read p n) (found corrected m) l
  -- comparisons: the first page, then the second
  not_compared : (l : List Page) (p r : ℕ) (a : Answer) → Unreadable made l p a → Step made l (compare p r) a l
  other_not_compared : (l : List Page) (p r corrected : ℕ) (m : List ℕ) (a : Answer) → Readable made l p corrected m → Unreadable made l r a → Step made l (compare p r) a l
  alike : (l : List Page) (p r corrected corrected' : ℕ) (m : List ℕ) → Readable made l p corrected m → Readable made l r corrected' m → Step made l (compare p r) (compared 1) l
  unlike : (l : List Page) (p r corrected corrected' : ℕ) (m m' : List ℕ) → Readable made l p corrected m → Readable made l r corrected' m' → (m ≢ m') → Step made l (compare p r) (compared 0) l
  -- notes: a floor rises or stays, and lifts a level below it; a level drifts, but not below its floor
  worn : (l : List Page) (p c v : ℕ) → Spot made p c v
      → Step made l (wear p c v) done (slice_set l p (with_cell (page_of made l p) c (max (floor_at (page_of made l p) c) v) (max (level_at (page_of made l p) c) (max (floor_at (page_of made l p) c) v))))
  not_worn : (l : List Page) (p c v : ℕ) (a : Answer) → NoSpot made p c v a → Step made l (wear p c v) a l
  drifted : (l : List Page) (p c v : ℕ) → Spot made p c v → floor_at (page_of made l p) c ≤ v → Step made l (drift p c v) done (slice_set l p (with_cell (page_of made l p) c (floor_at (page_of made l p) c) v))
  no_drift : (l : List Page) (p c v : ℕ) (a : Answer) → NoSpot made p c v a → Step made l (drift p c v) a l
  below_its_floor : (l : List Page) (p c v : ℕ) → Spot made p c v → v < floor_at (page_of made l p) c → Step made l (drift p c v) (refused 12 2 c) l

-- a card at the bench: these calls, the newest first, lead from a new card to the ledger
pub data AtBench (made : Made) : List (BenchCall × Answer) → List Page → Type 0 where
  new : AtBench made [] (blank_pages made)
  next : (past : List (BenchCall × Answer)) (l : List Page) (call : BenchCall) (a : Answer) (l' : List Page) → AtBench made past l → BenchStep made l call a l' → AtBench made ((call, a) ∷ past) l'

-- a card in service: bench calls, the opening, then these calls
pub data InService (made : Made) : List (BenchCall × Answer) → List (Call × Answer) → List Page → Type 0 where
  opened : (bench : List (BenchCall × Answer)) (l : List Page) → AtBench made bench l → InService made bench [] l
  next : (bench : List (BenchCall × Answer)) (past : List (Call × Answer)) (l : List Page) (call : Call) (a : Answer) (l' : List Page)
      → InService made bench past l → Step made l call a l' → InService made bench ((call, a) ∷ past) l'
