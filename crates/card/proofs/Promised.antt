-- What the promise of every run says of the pages that a call finds. Assumes nothing.
use Rattle.std.proofs.Common.{ℕ, List, subst}
use Rattle.code.specs.Words.{BlockCode}
use Rattle.code.specs.Laws.{CodeLaws}
use Rattle.masking.specs.Floors.{Allowed}
use Rattle.ledger.specs.Ledger as ledger
use Rattle.ledger.specs.Ledger.{Made, page_of, BenchCall, Call, Answer, AtBench, InService}
use Rattle.ledger.specs.Promise.{Promise}
use Rattle.ledger.proofs.Stands.{promise}
use Rattle.card.specs.declared.page.Page.{Page}
use Rattle.card.specs.History.{Shows}

module _ {C : Type 0} {meaning : C → BlockCode} (lawful : (c : C) → CodeLaws (meaning c)) {code : C} {allowance : ℕ} {pages : List Page} {made : Made} {l : List ledger.Page} (shows : Shows meaning code allowance pages made l) where
  pub made_lawful : CodeLaws made.code
  made_lawful = subst CodeLaws shows.coded (lawful code)

  pub made_promise : Promise made
  made_promise = promise made made_lawful shows.within

  pub bench_allowed : {past : List (BenchCall × Answer)} → AtBench made past l → (p : ℕ) → Allowed made.code (page_of made l p).floors (page_of made l p).levels
  bench_allowed {past} at p = (made_promise.at_bench past l at).bench_allowed p

  pub service_allowed : {bench : List (BenchCall × Answer)} {past : List (Call × Answer)} → InService made bench past l → (p : ℕ) → Allowed made.code (page_of made l p).floors (page_of made l p).levels
  service_allowed {bench} {past} at p = (made_promise.changes bench past l at).always_allowed p
