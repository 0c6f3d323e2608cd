-- What a card's whole life keeps: the ledger of its calls, and the promise of every run. Assumes nothing.
use Rattle.std.specs.Prelude.{◌≡◌, ℕ, List, [], length, vec_items, vec_len, Result}
use Rattle.code.specs.Words.{BlockCode}
use Rattle.ledger.specs.Ledger as ledger
use Rattle.ledger.specs.Ledger.{Made, BenchCall, Call, Answer, AtBench, InService}
use Rattle.ledger.specs.Promise.{Promise}
use Rattle.card.specs.declared.cards.Benched.{Benched}
use Rattle.card.specs.declared.cards.Card.{Card}
use Rattle.card.specs.declared.cards.Serving.{Serving}
use Rattle.card.specs.declared.refusals.Refusal.{Refusal}
use Rattle.card.specs.History.{made_from, CardShows, note_answer}
use Rattle.card.specs.Making.{Pages}
use Rattle.runs.specs.declared.requests.BenchFloor.{BenchFloor}
use Rattle.runs.specs.declared.requests.Request.{Request}
use Rattle.runs.specs.declared.replies.Reply.{Reply}
use Rattle.runs.specs.declared.lives.Life.{Life}
use Rattle.runs.specs.Told.{bench_call, call_of, answer_of, told}

-- whatever history of this kind led to the card, these requests with these answers lead to the card after them
abbrev pub AllMore : {C S Q K R : Type 0} (meaning : C → BlockCode) → Made → (List (K × Answer) → List ledger.Page → Type 0) → (Q → K) → (R → Answer) → Card C S → List Q → List R → Card C S → Type 0
AllMore {K = K} meaning made Led call answer card requests answers card' =
    (past : List (K × Answer)) (l : List ledger.Page) → Led past l → CardShows meaning card made l
    → (l' : List ledger.Page) × Led (told call answer past requests answers) l' × CardShows meaning card' made l'

-- at the bench
abbrev pub BenchContinuesAll : {C : Type 0} (meaning : C → BlockCode) → Card C Benched → List BenchFloor → List (Result (Unit {0}) Refusal) → Card C Benched → Type 0
BenchContinuesAll meaning b floors answers b' = (made : Made) → AllMore meaning made (AtBench made) bench_call note_answer b floors answers b'

-- and in service
abbrev pub ContinuesAll : {C : Type 0} (meaning : C → BlockCode) → Card C Serving → List Request → List (Result Reply Refusal) → Card C Serving → Type 0
ContinuesAll meaning s calls answers s' = (made : Made) (bench : List (BenchCall × Answer)) → AllMore meaning made (InService made bench) call_of answer_of s calls answers s'

-- the floors and calls, each with its answer, lead from a new card of this code to a ledger that the card shows; and every run of such a card keeps the promise
pub record Lived {C : Type 0} (meaning : C → BlockCode) (code : C) (allowance pages : ℕ) (floors : List BenchFloor) (calls : List Request) (life : Life C) : Type 0 where
  pub pages_there : Pages pages
  pub floors_answered : vec_len life.bench ≡ length floors
  pub calls_answered : vec_len life.replies ≡ length calls
  pub ledger_of : List ledger.Page
  pub kept : InService (made_from (meaning code) allowance pages) (told bench_call note_answer [] floors (vec_items life.bench)) (told call_of answer_of [] calls (vec_items life.replies)) ledger_of
  pub shown : CardShows meaning life.card (made_from (meaning code) allowance pages) ledger_of
  pub promise : Promise (made_from (meaning code) allowance pages)
