-- What every page keeps, whatever was asked of the card: its lists have a place for each cell, its floors and levels are symbols,
-- and no level is below its floor. Assumes nothing.
use Rattle.std.proofs.Common.{◌≡◌, ℕ, ◌<◌, ◌≤◌, true, false, List, length, get_or, set, replicate, sym, refl, ap, ◌∙◌, ⊎_elim, arith}
use Rattle.std.proofs.lemmas.List.{length-set, length-replicate, get_or-set_same, get_or-set_other, get_or-replicate, get_or_past}
use Rattle.std.proofs.lemmas.Bool.{cases_lt, cases_eq, eq-eqb, cond-true}
use Rattle.code.specs.Words.{BlockCode, Filled, Word}
use Rattle.code.specs.Laws.{CodeLaws}
use Rattle.masking.specs.Floors.{Allowed}
use Rattle.masking.specs.Writing.{Writes}
use Rattle.masking.proofs.Carriers.{some_symbol}
use Rattle.masking.proofs.Masks.{written_allowed}
use Rattle.ledger.specs.Ledger.{Made, Page, blank, blank_pages, page_of, floor_at, with_cell, with_floor, with_message, BenchCall, Call, Answer, BenchStep, Step, AtBench, InService, floored, not_floored, save_no_page, save_wrong_length, save_no_symbol, save_no_mask, saved, read_no_page, read_wrong_room, not_read, is_read, not_compared, other_not_compared, alike, unlike, worn, not_worn, drifted, no_drift, below_its_floor, new, opened}
use Rattle.ledger.specs.Runs.{grants}
use Rattle.ledger.specs.Promise.{page_named}
use Rattle.ledger.proofs.Marks.{length_below_floor}

-- a sound page
pub record Sound (code : BlockCode) (page : Page) : Type 0 where
  pub floors_fit : Word code page.floors
  pub levels_allowed : Allowed code page.floors page.levels
  pub spent_whole : length page.spent ≡ code.cells

-- a ledger with all its pages, each of them sound. Past the last page stands a blank one.
pub record Kept (made : Made) (l : List Page) : Type 0 where
  pub whole : length l ≡ made.pages
  pub sound : (p : ℕ) → Sound made.code (page_of made l p)

-- a list of symbols with one symbol set
set_filled : (n q : ℕ) (xs : List ℕ) (c v : ℕ) → Filled n q xs → v < q → Filled n q (set xs c v)
set_filled n q xs c v fit low =
    let long : length (set xs c v) ≡ length xs = length-set xs c v in
    record {
      whole = long ∙ fit.whole;
      symbols = λ i l.
          ⊎_elim
          (λ e. omega (arith, ap (λ j. get_or (set xs c v) j 0) e, get_or-set_same xs c v 0 (omega arith)))
          (λ e. omega (arith, get_or-set_other xs c i v 0 e, fit.symbols i (omega arith)))
          (cases_eq i c);
    }

-- no level is below its floor where one floor is set and one level with it
set_allowed : (code : BlockCode) (fs ls : List ℕ) (c f v : ℕ) → Word code fs → Allowed code fs ls → f ≤ v → v < code.arithmetic.size → Allowed code (set fs c f) (set ls c v)
set_allowed code fs ls c f v fit allowed under low = record {
  fit = set_filled code.cells code.arithmetic.size ls c v allowed.fit low;
  floored = λ i l.
      ⊎_elim
      (λ e. omega (
        arith,
        ap (λ j. get_or (set fs c f) j 0) e,
        ap (λ j. get_or (set ls c v) j 0) e,
        get_or-set_same fs c f 0 (omega (arith, fit.whole)),
        get_or-set_same ls c v 0 (omega (arith, allowed.fit.whole)),
      ))
      (λ e. omega (arith, get_or-set_other fs c i f 0 e, get_or-set_other ls c i v 0 e, allowed.floored i l))
      (cases_eq i c);
}

module _ (made : Made) (laws : CodeLaws made.code) where
  zeros_fit : Word made.code (replicate made.code.cells 0)
  zeros_fit =
      let long : length {A = ℕ} (replicate made.code.cells 0) ≡ made.code.cells = length-replicate {A = ℕ} made.code.cells 0 in
      record { whole = long; symbols = λ i l. omega (arith, get_or-replicate {A = ℕ} made.code.cells i 0 0 (omega arith), some_symbol made.code laws) }

  blank_sound : Sound made.code (blank made.code.cells)
  blank_sound = record {
    floors_fit = zeros_fit;
    levels_allowed = record { fit = zeros_fit; floored = λ i l. omega arith };
    spent_whole = length-replicate made.code.cells false;
  }

  -- every page of a new card is blank
  pub new_blank : (p : ℕ) → page_of made (blank_pages made) p ≡ blank made.code.cells
  new_blank p =
      ⊎_elim
      (λ l. get_or-replicate made.pages p (blank made.code.cells) (blank made.code.cells) l)
      (λ l. get_or_past (blank_pages made) p (blank made.code.cells) (omega (arith, length-replicate made.pages (blank made.code.cells))))
      (cases_lt p made.pages)

  new_kept : Kept made (blank_pages made)
  new_kept = record {
    whole = length-replicate made.pages (blank made.code.cells);
    sound = λ p. rw (new_blank p) blank_sound;
  }

  -- the page that was set, and the others
  pub set_page : (l : List Page) (p : ℕ) (x : Page) → Kept made l → p < made.pages → page_of made (set l p x) p ≡ x
  set_page l p x kept low = get_or-set_same l p x (blank made.code.cells) (omega (arith, kept.whole))

  pub set_other_page : (l : List Page) (p r : ℕ) (x : Page) → (r ≡ p → ⊥) → page_of made (set l p x) r ≡ page_of made l r
  set_other_page l p r x other = get_or-set_other l p r x (blank made.code.cells) other

  set_kept : (l : List Page) (p : ℕ) (x : Page) → Kept made l → p < made.pages → Sound made.code x → Kept made (set l p x)
  set_kept l p x kept low sound = record {
    whole = length-set l p x ∙ kept.whole;
    sound = λ r. ⊎_elim (λ (e : r ≡ p). rw (e, set_page l p x kept low) sound) (λ other. rw (set_other_page l p r x other) (kept.sound r)) (cases_eq r p);
  }

  with_cell_sound : (x : Page) (c f v : ℕ) → Sound made.code x → f ≤ v → v < made.code.arithmetic.size → Sound made.code (with_cell x c f v)
  with_cell_sound x c f v sound under low = record {
    floors_fit = set_filled made.code.cells made.code.arithmetic.size x.floors c f sound.floors_fit (omega arith);
    levels_allowed = set_allowed made.code x.floors x.levels c f v sound.floors_fit sound.levels_allowed under low;
    spent_whole = length-set x.spent c _ ∙ sound.spent_whole;
  }

  with_floor_sound : (x : Page) (c v : ℕ) → Sound made.code x → v < made.code.arithmetic.size → Sound made.code (with_floor x c v)
  with_floor_sound x c v sound low = record {
    floors_fit = set_filled made.code.cells made.code.arithmetic.size x.floors c v sound.floors_fit low;
    levels_allowed = set_allowed made.code x.floors x.levels c v v sound.floors_fit sound.levels_allowed (omega arith) low;
    spent_whole = sound.spent_whole;
  }

  with_message_sound : (x : Page) (m : List ℕ) (mask forced : ℕ) (word : List ℕ) → Sound made.code x → (w : Writes made.code x.floors made.allowance m mask forced word)
      → Sound made.code (with_message x m w.carrier word)
  with_message_sound x m mask forced word sound w =
      let whole : length w.carrier ≡ made.code.cells = (laws.words w.carrier w.fewest.carrying.held).whole in
      record {
        floors_fit = sound.floors_fit;
        levels_allowed = written_allowed made.code laws x.floors made.allowance m mask forced word sound.floors_fit w;
        spent_whole = length_below_floor x.floors w.carrier (sound.floors_fit.whole ∙ sym whole) ∙ whole;
      }

  -- what a call does to the pages: nothing, or a message taken or a cell noted on the page that it names
  pub data Effect (l : List Page) (call : Call) (a : Answer) : List Page → Type 0 where
    nothing : Effect l call a l
    takes : (m : List ℕ) (mask forced : ℕ) (word : List ℕ) → page_named call < made.pages → grants (page_named call) call a ≡ true
        → (w : Writes made.code (page_of made l (page_named call)).floors made.allowance m mask forced word)
        → Effect l call a (set l (page_named call) (with_message (page_of made l (page_named call)) m w.carrier word))
    notes : (c f v : ℕ) → page_named call < made.pages → floor_at (page_of made l (page_named call)) c ≤ f → f ≤ v → v < made.code.arithmetic.size
        → Effect l call a (set l (page_named call) (with_cell (page_of made l (page_named call)) c f v))

  pub effect : (l : List Page) (call : Call) (a : Answer) (l' : List Page) → Kept made l → Step made l call a l' → Effect l call a l'
  effect l call a l' kept (save_no_page _ _ _ _) = nothing
  effect l call a l' kept (save_wrong_length _ _ _ _ _) = nothing
  effect l call a l' kept (save_no_symbol _ _ _ _ _ _ _) = nothing
  effect l call a l' kept (save_no_mask _ _ _ _ _ _ _ _ _ _) = nothing
  effect l call a l' kept (saved _ p m mask forced word low _ w) = takes m mask forced word low (cond-true _ _ _ (eq-eqb p p refl)) w
  effect l call a l' kept (read_no_page _ _ _ _) = nothing
  effect l call a l' kept (read_wrong_room _ _ _ _ _) = nothing
  effect l call a l' kept (not_read _ _ _ _ _ _ _) = nothing
  effect l call a l' kept (is_read _ _ _ _ _ _ _) = nothing
  effect l call a l' kept (not_compared _ _ _ _ _) = nothing
  effect l call a l' kept (other_not_compared _ _ _ _ _ _ _ _) = nothing
  effect l call a l' kept (alike _ _ _ _ _ _ _ _) = nothing
  effect l call a l' kept (unlike _ _ _ _ _ _ _ _ _ _) = nothing
  effect l call a l' kept (worn _ p c v spot) =
      let sound = kept.sound p in
      let inside : c < made.code.cells = spot.cell_there in
      notes c _ _ spot.page_there (omega arith) (omega arith)
      (omega (
        arith,
        sound.floors_fit.symbols c (omega (arith, sound.floors_fit.whole)),
        sound.levels_allowed.fit.symbols c (omega (arith, sound.levels_allowed.fit.whole)),
        spot.level_there,
      ))
  effect l call a l' kept (not_worn _ _ _ _ _ _) = nothing
  effect l call a l' kept (drifted _ p c v spot above) = notes c _ _ spot.page_there (omega arith) above spot.level_there
  effect l call a l' kept (no_drift _ _ _ _ _ _) = nothing
  effect l call a l' kept (below_its_floor _ _ _ _ _ _) = nothing

  effect_kept : (l : List Page) (call : Call) (a : Answer) (l' : List Page) → Kept made l → Effect l call a l' → Kept made l'
  effect_kept l call a l' kept nothing = kept
  effect_kept l call a l' kept (takes m mask forced word low _ w) =
      set_kept l (page_named call) _ kept low (with_message_sound (page_of made l (page_named call)) m mask forced word (kept.sound (page_named call)) w)
  effect_kept l call a l' kept (notes c f v low _ under fits) =
      set_kept l (page_named call) _ kept low (with_cell_sound (page_of made l (page_named call)) c f v (kept.sound (page_named call)) under fits)

  pub step_kept : (l : List Page) (call : Call) (a : Answer) (l' : List Page) → Kept made l → Step made l call a l' → Kept made l'
  step_kept l call a l' kept step = effect_kept l call a l' kept (effect l call a l' kept step)

  bench_step_kept : (l : List Page) (call : BenchCall) (a : Answer) (l' : List Page) → Kept made l → BenchStep made l call a l' → Kept made l'
  bench_step_kept l call a l' kept (floored _ p c v spot) = set_kept l p _ kept spot.page_there (with_floor_sound (page_of made l p) c v (kept.sound p) spot.level_there)
  bench_step_kept l call a l' kept (not_floored _ _ _ _ _ _) = kept

  pub bench_kept : (past : List (BenchCall × Answer)) (l : List Page) → AtBench made past l → Kept made l
  bench_kept past l new = new_kept
  bench_kept past l (AtBench.next past' k call a _ before step) = bench_step_kept k call a l (bench_kept past' k before) step

  pub service_kept : (bench : List (BenchCall × Answer)) (past : List (Call × Answer)) (l : List Page) → InService made bench past l → Kept made l
  service_kept bench past l (opened _ _ before) = bench_kept bench l before
  service_kept bench past l (InService.next _ past' k call a _ before step) = step_kept k call a l (service_kept bench past' k before) step
