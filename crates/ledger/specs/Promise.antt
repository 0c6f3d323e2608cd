-- The promise of every card, whatever was asked of it: laws that all runs obey, stated from the calls, their answers, the floors
-- and the levels. A run is InService: bench calls, the opening, and calls in any order, each granted or refused. Assumes nothing.
use Rattle.std.specs.Prelude.{◌≡◌, ℕ, ◌+◌, ◌<◌, ◌≤◌, max, Bool, true, ◌⊎◌, List, [], length, Some, ◌≢◌, slice_set}
use Rattle.code.specs.Words.{Message, rest}
use Rattle.code.specs.Calls.{AllFar, FirstBad}
use Rattle.code.specs.Laws.{CodeLaws}
use Rattle.masking.specs.Floors.{Allowed, AtLeast, FewLost, Fewest}
use Rattle.masking.specs.Writing.{Nearest, Writes}
use Rattle.masking.specs.Reading.{Reads}
use Rattle.ledger.specs.Ledger.{Made, Page, page_of, floor_at, level_at, Spot, BenchCall, floor, Call, save, read, compare, wear, drift, Answer, done, stored, found, compared, refused, BenchStep, Step, AtBench, InService}
use Rattle.ledger.specs.Runs.{marked, never_granted, LastSaved}

-- the page that a call names, for a comparison its first
abbrev pub page_named : Call → ℕ
page_named (save p m) = p
page_named (read p n) = p
page_named (compare p r) = p
page_named (wear p c v) = p
page_named (drift p c v) = p

-- the answers that a call may have: a save its mask and forced count, a read a count and a message, a comparison 0 or 1, a note that it is done, and each a refusal
pub data AnswerFits : Call → Answer → Type 0 where
  to_save : (p : ℕ) (m : List ℕ) (mask forced : ℕ) → AnswerFits (save p m) (stored mask forced)
  to_read : (p n corrected : ℕ) (m : List ℕ) → AnswerFits (read p n) (found corrected m)
  to_compare : (p r same : ℕ) → same ≤ 1 → AnswerFits (compare p r) (compared same)
  to_wear : (p c v : ℕ) → AnswerFits (wear p c v) done
  to_drift : (p c v : ℕ) → AnswerFits (drift p c v) done
  refusal : (call : Call) (number layer place : ℕ) → AnswerFits call (refused number layer place)

-- a call that names a page, a cell and a level is refused by the first of them that there is not
pub record FirstMissing (made : Made) (p c v : ℕ) (a : Answer) : Type 0 where
  pub no_page : made.pages ≤ p → a ≡ refused 4 2 p
  pub no_cell : p < made.pages → made.code.cells ≤ c → a ≡ refused 5 2 c
  pub no_level : p < made.pages → c < made.code.cells → made.code.arithmetic.size ≤ v → a ≡ refused 6 2 v

-- saves on a page after any run
pub record SavePromise (made : Made) (l : List Page) (p : ℕ) (m : List ℕ) : Type 0 where
  -- a well-formed save is refused exactly when every allowed word differs from every code word carrying the message in more cells than the allowance
  pub refused_only_if_too_far : (l' : List Page) (n a b : ℕ) → p < made.pages → Message made.code m → Step made l (save p m) (refused n a b) l'
      → AtLeast made.code (page_of made l p).floors m (made.allowance + 1)
  pub granted_only_if_near : (l' : List Page) (mask forced : ℕ) → Step made l (save p m) (stored mask forced) l'
      → AtLeast made.code (page_of made l p).floors m (made.allowance + 1) → ⊥
  -- it is refused with the fewest cells that any mask leaves below their floors
  pub refused_with_fewest : (l' : List Page) (n a b : ℕ) → p < made.pages → Message made.code m → Step made l (save p m) (refused n a b) l'
      → (mask : ℕ) × (carrier : List ℕ) × Fewest made.code (page_of made l p).floors m mask b carrier × (refused n a b ≡ refused 9 2 b)
  -- and never while the floors take few levels away
  pub never_refused_with_few_lost : (l' : List Page) (n a b : ℕ) → p < made.pages → Message made.code m
      → FewLost made.code (page_of made l p).floors made.allowance → Step made l (save p m) (refused n a b) l' → ⊥
  -- a granted save forces as few cells as can be, and within the allowance; the word written is allowed and that far from a code word carrying the message under the mask answered
  pub forced_least : (l' : List Page) (mask forced : ℕ) → Step made l (save p m) (stored mask forced) l'
      → Nearest made.code (page_of made l p).floors m mask forced (page_of made l' p).levels
  pub forced_within_allowance : (l' : List Page) (mask forced : ℕ) → Step made l (save p m) (stored mask forced) l' → forced ≤ made.allowance
  -- the mask is the lowest of those that leave the fewest cells below their floors, and those cells are written at their floors
  pub writes_with_lowest_mask : (l' : List Page) (mask forced : ℕ) → Step made l (save p m) (stored mask forced) l'
      → Writes made.code (page_of made l p).floors made.allowance m mask forced (page_of made l' p).levels
  -- on a page that there is, a message of another length is refused, and then the first number in it that is no symbol
  pub wrong_length_refused : (l' : List Page) (a : Answer) → p < made.pages → (length m ≢ length (rest made.code.information)) → Step made l (save p m) a l' → a ≡ refused 7 2 (length m)
  pub no_symbol_refused : (l' : List Page) (i : ℕ) (a : Answer) → p < made.pages → length m ≡ length (rest made.code.information) → FirstBad made.code.arithmetic.size m i
      → Step made l (save p m) a l' → a ≡ refused 8 2 i
  -- what was just saved is read
  pub read_at_once : (l' l'' : List Page) (mask forced n : ℕ) (a : Answer) → n ≡ length (rest made.code.information)
      → Step made l (save p m) (stored mask forced) l' → Step made l' (read p n) a l'' → a ≡ found forced m

-- reads and comparisons after any run
pub record ReadPromise (made : Made) (bench : List (BenchCall × Answer)) (past : List (Call × Answer)) (l : List Page) : Type 0 where
  -- a page reads as its last message while the cells changed since are at most the radius
  pub last_message_is_read : (l' : List Page) (p n : ℕ) (m : List ℕ) (changed : List Bool) (a : Answer) → n ≡ length (rest made.code.information)
      → LastSaved made bench p past l m changed → marked changed ≤ made.code.radius → Step made l (read p n) a l' → (corrected : ℕ) × (corrected ≤ marked changed) × (a ≡ found corrected m)
  -- and is blank until a save is granted
  pub blank_until_saved : (l' : List Page) (p n : ℕ) (a : Answer) → p < made.pages → n ≡ length (rest made.code.information)
      → never_granted p past ≡ true → Step made l (read p n) a l' → a ≡ refused 10 2 p
  -- each page has one or the other
  pub saved_or_never : (p : ℕ) → (never_granted p past ≡ true) ⊎ ((m : List ℕ) × (changed : List Bool) × LastSaved made bench p past l m changed)
  -- the message and the spent cells that the ledger keeps are those of the run
  pub ledger_has_them : (p : ℕ) (m : List ℕ) (changed : List Bool) → LastSaved made bench p past l m changed → ((page_of made l p).message ≡ Some m) × ((page_of made l p).spent ≡ changed)
  -- a read finds the message and the count of the code word within the radius of the levels
  pub found_as_levels_read : (l' : List Page) (p n c : ℕ) (m : List ℕ) → Step made l (read p n) (found c m) l' → Reads made.code (page_of made l p).levels c m
  -- a page that has taken a message is not read only if no code word is so near
  pub unread_only_if_too_far : (l' : List Page) (p n number layer place : ℕ) (m : List ℕ) (changed : List Bool) → n ≡ length (rest made.code.information) → LastSaved made bench p past l m changed
      → Step made l (read p n) (refused number layer place) l' → (refused number layer place ≡ refused 11 1 0) × AllFar made.code (page_of made l p).levels
  -- a read with room for more or fewer symbols than a message has is refused on a page that there is
  pub wrong_room_refused : (l' : List Page) (p n : ℕ) (a : Answer) → p < made.pages → (n ≢ length (rest made.code.information)) → Step made l (read p n) a l' → a ≡ refused 7 2 n
  -- pages of equal levels that have each taken a message read alike
  pub equal_levels_read_alike : (l' l'' : List Page) (p r n : ℕ) (m k : List ℕ) (c d : List Bool) (a b : Answer) → LastSaved made bench p past l m c → LastSaved made bench r past l k d
      → (page_of made l p).levels ≡ (page_of made l r).levels → n ≡ length (rest made.code.information) → Step made l (read p n) a l' → Step made l (read r n) b l'' → a ≡ b
  -- a comparison answers 1 exactly if both pages read to one message
  pub compared_as_read : (l' l'' l''' : List Page) (p r n same c d : ℕ) (m k : List ℕ) → n ≡ length (rest made.code.information)
      → Step made l (compare p r) (compared same) l' → Step made l (read p n) (found c m) l'' → Step made l (read r n) (found d k) l''' → ((m ≡ k) × (same ≡ 1)) ⊎ ((m ≢ k) × (same ≡ 0))
  pub compared_if_read : (l' l'' l''' : List Page) (p r n c d : ℕ) (m k : List ℕ) (a : Answer) → n ≡ length (rest made.code.information)
      → Step made l (read p n) (found c m) l'' → Step made l (read r n) (found d k) l''' → Step made l (compare p r) a l' → (same : ℕ) × (a ≡ compared same)
  -- a comparison is refused as a read of its first page would be, and if that one reads as a read of its second would be
  pub refused_as_first_read : (l' l'' : List Page) (p r n number layer place : ℕ) (a : Answer) → n ≡ length (rest made.code.information)
      → Step made l (read p n) (refused number layer place) l'' → Step made l (compare p r) a l' → a ≡ refused number layer place
  pub refused_as_second_read : (l' l'' l''' : List Page) (p r n c number layer place : ℕ) (m : List ℕ) (a : Answer) → n ≡ length (rest made.code.information)
      → Step made l (read p n) (found c m) l'' → Step made l (read r n) (refused number layer place) l''' → Step made l (compare p r) a l' → a ≡ refused number layer place
  -- and never otherwise
  pub compare_refused_as_read : (l' : List Page) (p r n number layer place : ℕ) → n ≡ length (rest made.code.information) → Step made l (compare p r) (refused number layer place) l'
      → Step made l (read p n) (refused number layer place) l ⊎ ((c : ℕ) × (m : List ℕ) × Step made l (read p n) (found c m) l × Step made l (read r n) (refused number layer place) l)

-- what a call changes after any run
pub record ChangePromise (made : Made) (l : List Page) : Type 0 where
  pub refused_changes_nothing : (l' : List Page) (call : Call) (n a b : ℕ) → Step made l call (refused n a b) l' → l' ≡ l
  pub read_changes_nothing : (l' : List Page) (p n : ℕ) (a : Answer) → Step made l (read p n) a l' → l' ≡ l
  pub compare_changes_nothing : (l' : List Page) (p r : ℕ) (a : Answer) → Step made l (compare p r) a l' → l' ≡ l
  pub other_pages_keep : (l' : List Page) (call : Call) (a : Answer) → Step made l call a l' → (r : ℕ) → (r ≢ page_named call) → page_of made l' r ≡ page_of made l r
  pub floors_never_fall : (l' : List Page) (call : Call) (a : Answer) → Step made l call a l' → (p i : ℕ) → floor_at (page_of made l p) i ≤ floor_at (page_of made l' p) i
  pub save_keeps_floors : (l' : List Page) (p : ℕ) (m : List ℕ) (a : Answer) → Step made l (save p m) a l' → (page_of made l' p).floors ≡ (page_of made l p).floors
  -- a wear note raises the cell's floor to the higher of the two, and a level below it; nothing else
  pub wear_sets : (l' : List Page) (p c v : ℕ) → Step made l (wear p c v) done l'
      → ((page_of made l' p).floors ≡ slice_set (page_of made l p).floors c (max (floor_at (page_of made l p) c) v))
      × ((page_of made l' p).levels ≡ slice_set (page_of made l p).levels c (max (level_at (page_of made l p) c) (max (floor_at (page_of made l p) c) v)))
  -- a drift note sets the cell's level, at its floor or above; nothing else
  pub drift_sets : (l' : List Page) (p c v : ℕ) → Step made l (drift p c v) done l'
      → ((page_of made l' p).floors ≡ (page_of made l p).floors) × ((page_of made l' p).levels ≡ slice_set (page_of made l p).levels c v) × (floor_at (page_of made l p) c ≤ v)
  -- notes on a spot are granted, but for a drift below the floor
  pub wear_granted : (l' : List Page) (p c v : ℕ) (a : Answer) → Spot made p c v → Step made l (wear p c v) a l' → a ≡ done
  pub drift_granted : (l' : List Page) (p c v : ℕ) (a : Answer) → Spot made p c v → floor_at (page_of made l p) c ≤ v → Step made l (drift p c v) a l' → a ≡ done
  pub drift_refused : (l' : List Page) (p c v : ℕ) (a : Answer) → Spot made p c v → v < floor_at (page_of made l p) c → Step made l (drift p c v) a l' → a ≡ refused 12 2 c
  -- and no note on another
  pub wear_first_missing : (l' : List Page) (p c v : ℕ) (a : Answer) → Step made l (wear p c v) a l' → FirstMissing made p c v a
  pub drift_first_missing : (l' : List Page) (p c v : ℕ) (a : Answer) → Step made l (drift p c v) a l' → FirstMissing made p c v a
  -- a call on a page that there is not is refused before all else
  pub no_page_refused : (l' : List Page) (call : Call) (a : Answer) → made.pages ≤ page_named call → Step made l call a l' → a ≡ refused 4 2 (page_named call)
  -- every page keeps its levels below the alphabet's size and at or above their floors
  pub always_allowed : (p : ℕ) → Allowed made.code (page_of made l p).floors (page_of made l p).levels
  -- a call always has an answer, one of its kind, and one answer only
  pub answered : (call : Call) → (a : Answer) × (l' : List Page) × Step made l call a l'
  pub answer_fits : (l' : List Page) (call : Call) (a : Answer) → Step made l call a l' → AnswerFits call a
  pub answered_one_way : (l' l'' : List Page) (call : Call) (a b : Answer) → Step made l call a l' → Step made l call b l'' → (a ≡ b) × (l' ≡ l'')

-- the same of a card at the bench
pub record BenchPromise (made : Made) (l : List Page) : Type 0 where
  pub bench_floor_sets : (l' : List Page) (p c v : ℕ) → BenchStep made l (floor p c v) done l'
      → ((page_of made l' p).floors ≡ slice_set (page_of made l p).floors c v) × ((page_of made l' p).levels ≡ slice_set (page_of made l p).levels c v)
  pub bench_floor_granted : (l' : List Page) (p c v : ℕ) (a : Answer) → Spot made p c v → BenchStep made l (floor p c v) a l' → a ≡ done
  pub bench_first_missing : (l' : List Page) (p c v : ℕ) (a : Answer) → BenchStep made l (floor p c v) a l' → FirstMissing made p c v a
  pub bench_refused_changes_nothing : (l' : List Page) (call : BenchCall) (n a b : ℕ) → BenchStep made l call (refused n a b) l' → l' ≡ l
  pub bench_other_pages_keep : (l' : List Page) (p c v : ℕ) (a : Answer) → BenchStep made l (floor p c v) a l' → (r : ℕ) → (r ≢ p) → page_of made l' r ≡ page_of made l r
  pub bench_allowed : (p : ℕ) → Allowed made.code (page_of made l p).floors (page_of made l p).levels
  pub bench_answered : (call : BenchCall) → (a : Answer) × (l' : List Page) × BenchStep made l call a l'
  pub bench_answered_one_way : (l' l'' : List Page) (call : BenchCall) (a b : Answer) → BenchStep made l call a l' → BenchStep made l call b l'' → (a ≡ b) × (l' ≡ l'')

pub record Promise (made : Made) : Type 0 where
  pub saves : (bench : List (BenchCall × Answer)) (past : List (Call × Answer)) (l : List Page) (p : ℕ) (m : List ℕ) → InService made bench past l → SavePromise made l p m
  pub reads : (bench : List (BenchCall × Answer)) (past : List (Call × Answer)) (l : List Page) → InService made bench past l → ReadPromise made bench past l
  pub changes : (bench : List (BenchCall × Answer)) (past : List (Call × Answer)) (l : List Page) → InService made bench past l → ChangePromise made l
  pub at_bench : (past : List (BenchCall × Answer)) (l : List Page) → AtBench made past l → BenchPromise made l
  -- the calls and their answers lead to one ledger only
  pub one_bench_ledger : (past : List (BenchCall × Answer)) (l l' : List Page) → AtBench made past l → AtBench made past l' → l ≡ l'
  pub one_ledger : (bench : List (BenchCall × Answer)) (past : List (Call × Answer)) (l l' : List Page) → InService made bench past l → InService made bench past l' → l ≡ l'
  pub opening_changes_nothing : (bench : List (BenchCall × Answer)) (l l' : List Page) → AtBench made bench l → InService made bench [] l' → l' ≡ l
  -- pages of equal levels that have each taken a message read alike in all runs of all cards of one code, whatever their allowances, page counts, floors and calls
  pub equal_levels_read_alike_in_all_runs : (made' : Made) (bench bench' : List (BenchCall × Answer)) (past past' : List (Call × Answer)) (l l' k k' : List Page) (p r n : ℕ) (m t : List ℕ) (c d : List Bool) (a b : Answer)
      → made.code ≡ made'.code → LastSaved made bench p past l m c → LastSaved made' bench' r past' k t d → (page_of made l p).levels ≡ (page_of made' k r).levels → n ≡ length (rest made.code.information)
      → Step made l (read p n) a l' → Step made' k (read r n) b k' → a ≡ b

-- every card of a lawful code that forces no more cells than the code corrects keeps the promise
abbrev pub PromiseStands : Type 0
PromiseStands = (made : Made) → CodeLaws made.code → made.allowance ≤ made.code.radius → Promise made
