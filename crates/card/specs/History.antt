-- How a card stands to the ledger of its calls: whatever history led to the card, one call more leads to the card after it. Assumes nothing.
use Rattle.std.specs.Prelude.{◌≡◌, ℕ, ◌<◌, ◌≤◌, Bool, true, false, List, ◌∷◌, length, map, is_some, Ok, Err, vec_items, Result, slice_index_or}
use Rattle.code.specs.Words.{BlockCode}
use Rattle.ledger.specs.Ledger as ledger
use Rattle.ledger.specs.Ledger.{Made, page_of, BenchCall, Call, Answer, done, stored, found, compared, refused, AtBench, InService}
use Rattle.card.specs.declared.page.Page.{Page}
use Rattle.card.specs.declared.cards.Benched.{Benched}
use Rattle.card.specs.declared.cards.Card.{Card}
use Rattle.card.specs.declared.cards.Serving.{Serving}
use Rattle.card.specs.declared.refusals.Refusal.{Refusal}
use Rattle.card.specs.Refusals.{number, layer, place}

-- what a card is made from
abbrev pub made_from : BlockCode → (allowance pages : ℕ) → Made
made_from code allowance pages = record { code = code; allowance = allowance; pages = pages }

-- a page has the floors and levels of the ledger, and has taken a message if the ledger has one
pub record Like (page : Page) (entry : ledger.Page) : Type 0 where
  pub floors : vec_items page.floors ≡ entry.floors
  pub levels : vec_items page.levels ≡ entry.levels
  pub taken : page.taken ≡ is_some entry.message

-- a card of this code, allowance and pages has what the ledger says
pub record Shows {C : Type 0} (meaning : C → BlockCode) (code : C) (allowance : ℕ) (pages : List Page) (made : Made) (l : List ledger.Page) : Type 0 where
  pub coded : meaning code ≡ made.code
  pub allowed : allowance ≡ made.allowance
  pub within : made.allowance ≤ made.code.radius
  pub count : length pages ≡ made.pages
  pub rows : length l ≡ made.pages
  pub each : (i : ℕ) (d : Page) → i < made.pages → Like (slice_index_or pages i d) (page_of made l i)

-- a card has that at either stage
abbrev pub CardShows : {C S : Type 0} (meaning : C → BlockCode) → Card C S → Made → List ledger.Page → Type 0
CardShows meaning card made l = Shows meaning card.code card.allowance (vec_items card.pages) made l

-- whatever history of this kind led to the card, the same and this call with this answer lead to the card after it
abbrev pub OneMore : {C S K : Type 0} (meaning : C → BlockCode) → Made → (List (K × Answer) → List ledger.Page → Type 0) → Card C S → K → Answer → Card C S → Type 0
OneMore {K = K} meaning made Led card call a card' =
    (past : List (K × Answer)) (l : List ledger.Page) → Led past l → CardShows meaning card made l → (l' : List ledger.Page) × Led ((call, a) ∷ past) l' × CardShows meaning card' made l'

-- at the bench
abbrev pub BenchContinues : {C : Type 0} (meaning : C → BlockCode) → Card C Benched → BenchCall → Answer → Card C Benched → Type 0
BenchContinues meaning b call a b' = (made : Made) → OneMore meaning made (AtBench made) b call a b'

-- and in service
abbrev pub Continues : {C : Type 0} (meaning : C → BlockCode) → Card C Serving → Call → Answer → Card C Serving → Type 0
Continues meaning s call a s' = (made : Made) (bench : List (BenchCall × Answer)) → OneMore meaning made (InService made bench) s call a s'

-- what the ledger is answered where a call answers so
abbrev pub refusal_answer : Refusal → Answer
refusal_answer e = refused (number e) (layer e) (place e)

abbrev pub note_answer : Result (Unit {0}) Refusal → Answer
note_answer (Ok granted) = done
note_answer (Err e) = refusal_answer e

abbrev pub save_answer : Result (ℕ × ℕ) Refusal → Answer
save_answer (Ok answer) = stored answer.0 answer.1
save_answer (Err e) = refusal_answer e

-- a read's answer is its count and what its buffer then holds
abbrev pub read_answer : Result ℕ Refusal → List ℕ → Answer
read_answer (Ok corrected) message = found corrected message
read_answer (Err e) message = refusal_answer e

abbrev pub compare_answer : Result Bool Refusal → Answer
compare_answer (Ok true) = compared 1
compare_answer (Ok false) = compared 0
compare_answer (Err e) = refusal_answer e

-- the floors and the levels of all pages
abbrev pub floors_of : List Page → List (List ℕ)
floors_of pages = map (λ page. vec_items page.floors) pages

abbrev pub levels_of : List Page → List (List ℕ)
levels_of pages = map (λ page. vec_items page.levels) pages

-- every cell and every floor is as it was
pub record Unaltered (before after : List Page) : Type 0 where
  pub floors : floors_of after ≡ floors_of before
  pub levels : levels_of after ≡ levels_of before

-- a refused call alters no cell and no floor
abbrev pub RefusedAltersNothing : {T : Type 0} → Result T Refusal → (before after : List Page) → Type 0
RefusedAltersNothing (Ok granted) before after = Unit {0}
RefusedAltersNothing (Err e) before after = Unaltered before after

-- a page that a question names is readable in the ledger as it was read, or unreadable as it was refused
abbrev pub FetchedInLedger : Made → List ledger.Page → (page : ℕ) → Result ℕ Refusal → List ℕ → Type 0
FetchedInLedger made l page (Ok corrected) message = ledger.Readable made l page corrected message
FetchedInLedger made l page (Err e) message = ledger.Unreadable made l page (refusal_answer e)

-- whatever history led to the card, what is fetched of a page is the ledger's
abbrev pub Fetches : {C : Type 0} (meaning : C → BlockCode) → Card C Serving → (page : ℕ) → Result ℕ Refusal → (after : List ℕ) → Type 0
Fetches meaning s page r after =
    (made : Made) (bench : List (BenchCall × Answer)) (past : List (Call × Answer)) (l : List ledger.Page) → InService made bench past l → CardShows meaning s made l
    → FetchedInLedger made l page r after

-- a refused read leaves the buffer as it was
abbrev pub Untouched : Result ℕ Refusal → (before after : List ℕ) → Type 0
Untouched (Ok corrected) before after = Unit {0}
Untouched (Err e) before after = after ≡ before
