-- Every number of an answer has a place in four columns.
use Rattle.std.proofs.Common.{◌≡◌, ℕ, suc, ◌-◌, ◌<◌, ◌≤◌, List, [], ◌∷◌, length, get_or, drop, Ok, Err, ap, subst, arith, length-drop}
use Rattle.code.specs.Words.{rest}
use Rattle.code.specs.Laws.{CodeLaws}
use Rattle.code.specs.Differences.{differences_most}
use Rattle.masking.specs.Floors.{raised, Fewest}
use Rattle.masking.specs.Reading.{Reads}
use Rattle.masking.proofs.Carriers.{mask_low}
use Rattle.masking.proofs.Information.{information_few}
use Rattle.masking.proofs.Unmet.{differences_raised, length_raised}
use Rattle.sheet.specs.declared.refusals.Refusal.{Refusal}
use Rattle.sheet.specs.declared.refusals.Refusal.TheVariants.{SheetLength, LineLength, UnknownVerb, FieldCount, IllFormedField, OutOfTurn}
use Rattle.sheet.specs.declared.parsing.Line.{Line}
use Rattle.sheet.specs.declared.parsing.Line.TheVariants.{Card, Floor, Worn, Move, Open, Read, Same, Save}
use Rattle.sheet.specs.Parsing.{BeginWith, Parsed}
use Rattle.sheet.proofs.Shown.{shown_small}
use Rattle.ledger.specs.Ledger.{Made, Page, page_of, BenchCall, floor, Call, save, read, compare, wear, drift, Answer, done, found, refused, NoSpot, Unreadable, BenchStep, floored, not_floored, Step, save_no_page, save_wrong_length, save_no_symbol, save_no_mask, saved, read_no_page, read_wrong_room, not_read, is_read, not_compared, other_not_compared, alike, unlike, worn, not_worn, drifted, no_drift, below_its_floor, AtBench, InService}
use Rattle.listing.specs.Rows.{AllFit, Fits}
use Rattle.listing.specs.Told.{form_refusal}
use Rattle.listing.specs.Turns.{Stage, Kept, Calls, Turn, ill_formed, untimely, opened, called}

pub refusal_fits : (n a b : ℕ) → n < 10000 → a < 10000 → b < 10000 → Fits (refused n a b)
refusal_fits n a b x y z = ((x, (y, (z, tt))), omega arith)

-- what is granted with no answer
pub done_fits : Fits done
done_fits = ((omega arith, tt), omega arith)

-- a line's refusal
pub form_fits : (line : List ℕ) (e : Refusal) → Parsed line (Err e) → Fits (form_refusal e)
form_fits line SheetLength h = absurd h
form_fits line LineLength h = refusal_fits 25 3 1029 (omega arith) (omega arith) (omega arith)
form_fits line UnknownVerb h = refusal_fits 20 3 1 (omega arith) (omega arith) (omega arith)
form_fits line (FieldCount bytes) h = refusal_fits 22 3 bytes (omega arith) (omega arith) (omega (arith, h.0, h.1))
form_fits line (IllFormedField column) h =
    refusal_fits 21 3 column (omega arith) (omega arith) (omega (arith, h.1.starts, h.1.inside, h.0.1.within, length-drop 4 line))
form_fits line OutOfTurn h = absurd h

pub turn_fits : Fits (form_refusal OutOfTurn)
turn_fits = refusal_fits 23 3 1 (omega arith) (omega arith) (omega arith)

-- a page, a cell and a level that a line names
pub spot_small : (columns : List ℕ) (p c v : ℕ) → BeginWith columns (p ∷ c ∷ v ∷ []) → (p < 10000) × (c < 10000) × (v < 10000)
spot_small columns p c v h = (shown_small _ p h.0, shown_small _ c h.1.0, shown_small _ v h.1.1.0)

no_spot_fits : (made : Made) (p c v : ℕ) (a : Answer) → (p < 10000) × (c < 10000) × (v < 10000) → NoSpot made p c v a → Fits a
no_spot_fits made p c v a small (NoSpot.no_page _) = refusal_fits 4 2 p (omega arith) (omega arith) small.0
no_spot_fits made p c v a small (NoSpot.no_cell _ _) = refusal_fits 5 2 c (omega arith) (omega arith) small.1
no_spot_fits made p c v a small (NoSpot.no_level _ _ _) = refusal_fits 6 2 v (omega arith) (omega arith) small.2

unreadable_fits : (made : Made) (l : List Page) (p : ℕ) (a : Answer) → p < 10000 → Unreadable made l p a → Fits a
unreadable_fits made l p a small (Unreadable.no_page _) = refusal_fits 4 2 p (omega arith) (omega arith) small
unreadable_fits made l p a small (Unreadable.is_blank _ _) = refusal_fits 10 2 p (omega arith) (omega arith) small
unreadable_fits made l p a small (Unreadable.too_far _ _ _ _) = refusal_fits 11 1 0 (omega arith) (omega arith) (omega arith)

symbols_fit : (size : ℕ) (xs : List ℕ) → size ≤ 16 → ((i : ℕ) → i < length xs → get_or xs i 0 < size) → AllFit xs
symbols_fit size [] few low = tt
symbols_fit size (x ∷ xs) few low = (omega (arith, few, low 0 (omega arith)), symbols_fit size xs few (λ i l. low (suc i) (omega arith)))

length_rest : (xs : List ℕ) → length (rest xs) ≡ length xs - 1
length_rest [] = omega arith
length_rest (x ∷ xs) = omega arith

module _ (made : Made) (laws : CodeLaws made.code) where
  -- no more cells are counted than a word has
  fewest_fits : (floors m : List ℕ) (mask count : ℕ) (carrier : List ℕ) → Fewest made.code floors m mask count carrier → (mask < 10000) × (count < 10000)
  fewest_fits floors m mask count carrier f = (
    omega (arith, f.masked, mask_low made.code laws carrier f.carrying.held, laws.arithmetic.sixteen),
    omega (arith, f.counted, differences_raised floors carrier, differences_most (raised floors carrier) carrier, length_raised floors carrier, (laws.words carrier f.carrying.held).whole, laws.cells_most),
  )

  -- a message is shorter than a page
  message_short : length (rest made.code.information) ≤ 255
  message_short = omega (arith, information_few made.code laws, laws.cells_most, length_rest made.code.information)

  reads_fits : (levels m : List ℕ) (count : ℕ) → Reads made.code levels count m → Fits (found count m)
  reads_fits levels m count r = (
    (
      omega arith,
      (omega (arith, r.near, differences_most levels r.carrier, r.fit.whole, laws.cells_most), symbols_fit made.code.arithmetic.size m laws.arithmetic.sixteen r.symbols.symbols),
    ),
    omega (arith, r.symbols.whole, message_short),
  )

  save_fits : (l : List Page) (p : ℕ) (m : List ℕ) (a : Answer) (l' : List Page) → p < 10000 → length m < 10000 → Step made l (save p m) a l' → Fits a
  save_fits l p m a l' small short (save_no_page _ _ _ _) = refusal_fits 4 2 p (omega arith) (omega arith) small
  save_fits l p m a l' small short (save_wrong_length _ _ _ _ _) = refusal_fits 7 2 (length m) (omega arith) (omega arith) short
  save_fits l p m a l' small short (save_no_symbol _ _ _ i _ _ first) = refusal_fits 8 2 i (omega arith) (omega arith) (omega (arith, first.within))
  save_fits l p m a l' small short (save_no_mask _ _ _ mask fewest carrier _ _ f _) = refusal_fits 9 2 fewest (omega arith) (omega arith) (fewest_fits (page_of made l p).floors m mask fewest carrier f).1
  save_fits l p m a l' small short (saved _ _ _ mask forced _ _ _ w) = let f = fewest_fits (page_of made l p).floors m mask forced w.carrier w.fewest in ((omega arith, (f.0, (f.1, tt))), omega arith)

  read_fits : (l : List Page) (p n : ℕ) (a : Answer) (l' : List Page) → p < 10000 → n < 10000 → Step made l (read p n) a l' → Fits a
  read_fits l p n a l' small short (read_no_page _ _ _ _) = refusal_fits 4 2 p (omega arith) (omega arith) small
  read_fits l p n a l' small short (read_wrong_room _ _ _ _ _) = refusal_fits 7 2 n (omega arith) (omega arith) short
  read_fits l p n a l' small short (not_read _ _ _ _ _ _ u) = unreadable_fits made l p a small u
  read_fits l p n a l' small short (is_read _ _ _ count m _ r) = reads_fits (page_of made l p).levels m count r.reads

  compare_fits : (l : List Page) (p r : ℕ) (a : Answer) (l' : List Page) → p < 10000 → r < 10000 → Step made l (compare p r) a l' → Fits a
  compare_fits l p r a l' one other (not_compared _ _ _ _ u) = unreadable_fits made l p a one u
  compare_fits l p r a l' one other (other_not_compared _ _ _ _ _ _ _ u) = unreadable_fits made l r a other u
  compare_fits l p r a l' one other (alike _ _ _ _ _ _ _ _) = ((omega arith, (omega arith, tt)), omega arith)
  compare_fits l p r a l' one other (unlike _ _ _ _ _ _ _ _ _ _) = ((omega arith, (omega arith, tt)), omega arith)

  wear_fits : (l : List Page) (p c v : ℕ) (a : Answer) (l' : List Page) → (p < 10000) × (c < 10000) × (v < 10000) → Step made l (wear p c v) a l' → Fits a
  wear_fits l p c v a l' small (worn _ _ _ _ _) = done_fits
  wear_fits l p c v a l' small (not_worn _ _ _ _ _ none) = no_spot_fits made p c v a small none

  drift_fits : (l : List Page) (p c v : ℕ) (a : Answer) (l' : List Page) → (p < 10000) × (c < 10000) × (v < 10000) → Step made l (drift p c v) a l' → Fits a
  drift_fits l p c v a l' small (drifted _ _ _ _ _ _) = done_fits
  drift_fits l p c v a l' small (no_drift _ _ _ _ _ none) = no_spot_fits made p c v a small none
  drift_fits l p c v a l' small (below_its_floor _ _ _ _ _ _) = refusal_fits 12 2 c (omega arith) (omega arith) small.1

  bench_fits : (l : List Page) (p c v : ℕ) (a : Answer) (l' : List Page) → (p < 10000) × (c < 10000) × (v < 10000) → BenchStep made l (floor p c v) a l' → Fits a
  bench_fits l p c v a l' small (floored _ _ _ _ _) = done_fits
  bench_fits l p c v a l' small (not_floored _ _ _ _ _ none) = no_spot_fits made p c v a small none

  floor_fits : (past : List (BenchCall × Answer)) (p c v : ℕ) (a : Answer) (l : List Page) → (p < 10000) × (c < 10000) × (v < 10000) → AtBench made ((floor p c v, a) ∷ past) l → Fits a
  floor_fits past p c v a l small (AtBench.next _ before _ _ _ _ step) = bench_fits before p c v a l small step

  call_fits : (line : List ℕ) (x : Line) (call : Call) (l l' : List Page) (a : Answer) → Parsed line (Ok x) → Calls made x call → Step made l call a l' → Fits a
  call_fits line (Card alphabet code q n f pages) call l l' a parsed calls step = absurd calls
  call_fits line (Floor page cell level) call l l' a parsed calls step = absurd calls
  call_fits line Open call l l' a parsed calls step = absurd calls
  call_fits line (Worn page cell level) call l l' a parsed calls step = wear_fits l page cell level a l' (spot_small _ page cell level parsed.1) (subst (λ k. Step made l k a l') calls step)
  call_fits line (Move page cell level) call l l' a parsed calls step = drift_fits l page cell level a l' (spot_small _ page cell level parsed.1) (subst (λ k. Step made l k a l') calls step)
  call_fits line (Read page) call l l' a parsed calls step = read_fits l page _ a l' (shown_small _ page parsed.1.0) (omega (arith, message_short)) (subst (λ k. Step made l k a l') calls step)
  call_fits line (Same one other) call l l' a parsed calls step =
      compare_fits l one other a l' (shown_small _ one parsed.1.0) (shown_small _ other parsed.1.1.0) (subst (λ k. Step made l k a l') calls step)
  call_fits line (Save page symbols) call l l' a parsed calls step =
      let short : length calls.0 < 10000 = omega (arith, calls.1.1, ap length parsed.2.0, length-drop 4 (drop 4 line), length-drop 4 line, parsed.0.within) in
      save_fits l page calls.0 a l' (shown_small _ page parsed.1.0) short (subst (λ k. Step made l k a l') calls.2 step)

  served_fits : (line : List ℕ) (x : Line) (call : Call) (bench : List (BenchCall × Answer)) (past : List (Call × Answer)) (a : Answer) (l : List Page) → Parsed line (Ok x) → Calls made x call → InService made bench ((call, a) ∷ past) l → Fits a
  served_fits line x call bench past a l parsed calls (InService.next _ _ before _ _ _ _ step) = call_fits line x call before l a parsed calls step

  -- whatever a line is told
  pub told_fits : (s t : Stage) (line : List ℕ) (a : Answer) → Turn made s line a t → Kept made t → Fits a
  told_fits s t line a (ill_formed _ _ e parsed) kept = form_fits line e parsed
  told_fits s t line a (untimely _ _ _ _ _) kept = turn_fits
  told_fits s t line a (Turn.floored past _ p c v _ parsed) kept = floor_fits past p c v a kept.0 (spot_small _ p c v parsed.1) kept.1
  told_fits s t line a (opened _ _ _) kept = done_fits
  told_fits s t line a (called bench past _ x call _ parsed calls) kept = served_fits line x call bench past a kept.0 parsed calls kept.1
