-- Requests and what they are answered, as the calls and answers of the ledger. Assumes nothing.
use Rattle.std.specs.Prelude.{true, false, List, [], ◌∷◌, vec_items, Ok, Err, Result}
use Rattle.ledger.specs.Ledger.{BenchCall, floor, Call, save, read, compare, wear, drift, Answer, done, stored, found, compared}
use Rattle.card.specs.declared.refusals.Refusal.{Refusal}
use Rattle.card.specs.History.{refusal_answer}
use Rattle.runs.specs.declared.requests.BenchFloor.{BenchFloor}
use Rattle.runs.specs.declared.requests.Request.{Request}
use Rattle.runs.specs.declared.requests.Request.TheVariants.{Save, Read, Compare, Wear, Drift}
use Rattle.runs.specs.declared.replies.Reply.{Reply}
use Rattle.runs.specs.declared.replies.Reply.TheVariants.{Done, Stored, Found, Compared}

abbrev pub bench_call : BenchFloor → BenchCall
bench_call f = floor f.page f.cell f.floor

abbrev pub call_of : Request → Call
call_of (Save page symbols) = save page symbols.now
call_of (Read page room) = read page room
call_of (Compare one other) = compare one other
call_of (Wear page cell level) = wear page cell level
call_of (Drift page cell level) = drift page cell level

abbrev pub answer_of : Result Reply Refusal → Answer
answer_of (Ok Done) = done
answer_of (Ok (Stored mask forced)) = stored mask forced
answer_of (Ok (Found corrected message)) = found corrected (vec_items message)
answer_of (Ok (Compared true)) = compared 1
answer_of (Ok (Compared false)) = compared 0
answer_of (Err refusal) = refusal_answer refusal

-- requests with what they are answered, before those that came before, the newest first
abbrev pub told : {Q K R : Type 0} (call : Q → K) (answer : R → Answer) → List (K × Answer) → List Q → List R → List (K × Answer)
told call answer before qs [] = before
told call answer before [] (r ∷ rs) = before
told call answer before (q ∷ qs) (r ∷ rs) = told call answer ((call q, answer r) ∷ before) qs rs

-- only a read wants memory, for its buffer
abbrev pub WantsMemory : Request → Type 0
WantsMemory (Save page symbols) = ⊥
WantsMemory (Read page room) = Unit {0}
WantsMemory (Compare one other) = ⊥
WantsMemory (Wear page cell level) = ⊥
WantsMemory (Drift page cell level) = ⊥
