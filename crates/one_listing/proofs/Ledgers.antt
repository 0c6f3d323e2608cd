-- A card that keeps the promise has one ledger after the calls and answers so far, and so one answer to the next call.
use Rattle.std.proofs.Common.{◌≡◌, List, [], ◌∷◌, subst}
use Rattle.ledger.specs.Ledger.{Made, Page, BenchCall, Call, Answer, BenchStep, Step, AtBench, InService, opened}
use Rattle.ledger.specs.Promise.{Promise}

-- the ledger before the newest call, and the step from it
pub before_floor : (made : Made) (past : List (BenchCall × Answer)) (call : BenchCall) (a : Answer) (l : List Page) → AtBench made ((call, a) ∷ past) l
    → (k : List Page) × AtBench made past k × BenchStep made k call a l
before_floor made past call a l (AtBench.next _ k _ _ _ before step) = (k, before, step)

pub before_call : (made : Made) (bench : List (BenchCall × Answer)) (past : List (Call × Answer)) (call : Call) (a : Answer) (l : List Page) → InService made bench ((call, a) ∷ past) l
    → (k : List Page) × InService made bench past k × Step made k call a l
before_call made bench past call a l (InService.next _ _ k _ _ _ before step) = (k, before, step)

pub before_opening : (made : Made) (bench : List (BenchCall × Answer)) (l : List Page) → InService made bench [] l → AtBench made bench l
before_opening made bench l (opened _ _ before) = before

module _ (made : Made) (promise : Promise made) where
  pub one_bench_answer : (past : List (BenchCall × Answer)) (call : BenchCall) (a b : Answer) (l l' : List Page) → AtBench made ((call, a) ∷ past) l → AtBench made ((call, b) ∷ past) l' → a ≡ b
  one_bench_answer past call a b l l' run run' =
      let x = before_floor made past call a l run in
      let y = before_floor made past call b l' run' in
      let e : x.0 ≡ y.0 = promise.one_bench_ledger past x.0 y.0 x.1 y.1 in
      ((promise.at_bench past y.0 y.1).bench_answered_one_way l l' call a b (subst (λ k. BenchStep made k call a l) e x.2) y.2).0

  pub one_answer : (bench : List (BenchCall × Answer)) (past : List (Call × Answer)) (call : Call) (a b : Answer) (l l' : List Page) → InService made bench ((call, a) ∷ past) l → InService made bench ((call, b) ∷ past) l' → a ≡ b
  one_answer bench past call a b l l' run run' =
      let x = before_call made bench past call a l run in
      let y = before_call made bench past call b l' run' in
      let e : x.0 ≡ y.0 = promise.one_ledger bench past x.0 y.0 x.1 y.1 in
      ((promise.changes bench past y.0 y.1).answered_one_way l l' call a b (subst (λ k. Step made k call a l) e x.2) y.2).0
