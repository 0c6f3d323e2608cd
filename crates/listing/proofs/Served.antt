-- A line's turn in service: what its parsing and its call give is what the card is held to.
use Rattle.std.proofs.Common.{◌≡◌, ℕ, ◌≤◌, List, ◌∷◌, length, Ok, Err, Result, IsErrAnd, MatchResult, sym, refl, ap, ◌∙◌, subst, ⊎_elim}
use Rattle.code.specs.Words.{BlockCode, rest}
use Rattle.code.specs.Laws.{CodeLaws}
use Rattle.sheet.specs.declared.refusals.Refusal.{Refusal}
use Rattle.sheet.specs.declared.refusals.Refusal.TheVariants.{OutOfTurn}
use Rattle.sheet.specs.declared.parsing.Line.{Line}
use Rattle.sheet.specs.declared.parsing.Line.TheVariants.{Card, Floor, Worn, Move, Open, Read, Same, Save}
use Rattle.sheet.specs.Parsing.{Parsed}
use Rattle.ledger.specs.Ledger as ledger
use Rattle.ledger.specs.Ledger.{Made, BenchCall, Call, save, read, Answer, InService}
use Rattle.card.specs.History.{CardShows, Continues}
use Rattle.card.specs.declared.refusals.Refusal as card
use Rattle.runs.specs.declared.replies.Reply.{Reply}
use Rattle.runs.specs.Told.{answer_of}
use Rattle.listing.specs.declared.refusals.Refusal as listing
use Rattle.listing.specs.declared.refusals.Refusal.TheVariants as refusals
use Rattle.listing.specs.Told.{form_refusal, told}
use Rattle.listing.specs.Turns.{at_bench, in_service, ForService, Calls, Turn, ill_formed, untimely, called}
use Rattle.listing.specs.Serving.{Service, Refuses, CallFor, AtService, Goes}
use Rattle.listing.proofs.Capped.{uncapped_run}

-- a line is told what its call is answered
pub answered : (r : Result Reply card.Refusal) (answer : Result Reply listing.Refusal) (P : card.Refusal → listing.Refusal → Type 0) → MatchResult r (λ x. answer ≡ Ok x) (λ e. IsErrAnd answer (P e)) → ((e : card.Refusal) (y : listing.Refusal) → P e y → y ≡ refusals.Card e) → told answer ≡ answer_of r
answered (Ok x) answer P h f = ap told h
answered (Err e) (Ok y) P h f = absurd h
answered (Err e) (Err y) P h f = ap (λ k. told (Err k)) (f e y h)

-- whatever history led to the card in service, this line is told so and leads to the card after it
abbrev Serves : {C : Type 0} (meaning : C → BlockCode) (room : ℕ) → Service C → (line : List ℕ) → Answer → Service C → Type 0
Serves meaning room s line a s' =
    (made : Made) (bench : List (BenchCall × Answer)) (past : List (Call × Answer)) (l : List ledger.Page) → InService made bench past l → CardShows meaning s made l → room ≡ length (rest made.code.information)
    → (past' : List (Call × Answer)) × (l' : List ledger.Page) × Turn made (in_service bench past) line a (in_service bench past') × InService made bench past' l' × CardShows meaning s' made l'

module _ {C : Type 0} (meaning : C → BlockCode) where
  goes : (room : ℕ) (s s' : Service C) (line : List ℕ) (a : Answer) → Serves meaning room s line a s' → Goes (AtService meaning room) s line a s'
  goes room s s' line a h made (at_bench past) at = absurd at
  goes room s s' line a h made (in_service bench past) at =
      let next = h made bench past at.1.0 at.1.1 at.1.2 at.0 in
      (in_service bench next.0, next.2, (at.0, (next.1, next.3, next.4)))

  late_served : (room : ℕ) (s : Service C) (line : List ℕ) (x : Line) → Parsed line (Ok x) → (ForService x → ⊥) → Goes (AtService meaning room) s line (form_refusal OutOfTurn) s
  late_served room s line x parsed late = goes room s s line (form_refusal OutOfTurn) (λ made bench past l run shows is. (past, l, untimely (in_service bench past) line x parsed late, run, shows))

  pub refused_served : (room : ℕ) (s : Service C) (line : List ℕ) (e : Refusal) → Refuses ForService line e → Goes (AtService meaning room) s line (form_refusal e) s
  refused_served room s line e h =
      ⊎_elim (λ parsed. goes room s s line (form_refusal e) (λ made bench past l run shows is. (past, l, ill_formed (in_service bench past) line e parsed, run, shows)))
      (λ late. subst (λ k. Goes (AtService meaning room) s line (form_refusal k) s) (sym late.0) (late_served room s line late.1.0 late.1.1 late.1.2)) h

  -- where the card goes on by the line's call
  turned : (s s' : Service C) (line : List ℕ) (x : Line) (call : Call) (a : Answer) (made : Made) (bench : List (BenchCall × Answer)) (past : List (Call × Answer)) → Parsed line (Ok x) → Calls made x call
      → (l' : List ledger.Page) × InService made bench ((call, a) ∷ past) l' × CardShows meaning s' made l'
      → (past' : List (Call × Answer)) × (l' : List ledger.Page) × Turn made (in_service bench past) line a (in_service bench past') × InService made bench past' l' × CardShows meaning s' made l'
  turned s s' line x call a made bench past parsed calls next = ((call, a) ∷ past, next.0, called bench past line x call a parsed calls, next.1, next.2)

  call_serves : (lawful : (c : C) → CodeLaws (meaning c)) (room : ℕ) (s s' : Service C) (line : List ℕ) (x : Line) (call : Call) (a : Answer) → Parsed line (Ok x) → CallFor room x call → Continues meaning s call a s' → Serves meaning room s line a s'
  call_serves lawful room s s' line (Card alphabet code q n f pages) call a parsed h go made bench past l run shows is = absurd h
  call_serves lawful room s s' line (Floor page cell level) call a parsed h go made bench past l run shows is = absurd h
  call_serves lawful room s s' line Open call a parsed h go made bench past l run shows is = absurd h
  call_serves lawful room s s' line (Worn page cell level) call a parsed h go made bench past l run shows is =
      turned s s' line (Worn page cell level) call a made bench past parsed h (go made bench past l run shows)
  call_serves lawful room s s' line (Move page cell level) call a parsed h go made bench past l run shows is =
      turned s s' line (Move page cell level) call a made bench past parsed h (go made bench past l run shows)
  call_serves lawful room s s' line (Read page) call a parsed h go made bench past l run shows is =
      turned s s' line (Read page) call a made bench past parsed (h ∙ ap (read page) is) (go made bench past l run shows)
  call_serves lawful room s s' line (Same one other) call a parsed h go made bench past l run shows is =
      turned s s' line (Same one other) call a made bench past parsed h (go made bench past l run shows)
  call_serves lawful room s s' line (Save page symbols) call a parsed h go made bench past l run shows is =
      let message : List ℕ = h.1.0 in
      let next = go made bench past l run shows in
      let few : made.code.arithmetic.size ≤ 16 = subst (λ code. code.arithmetic.size ≤ 16) shows.coded (lawful s.code).arithmetic.sixteen in
      let saved : InService made bench ((save page h.0, a) ∷ past) next.0 = subst (λ k. InService made bench ((k, a) ∷ past) next.0) h.2 next.1 in
      turned s s' line (Save page symbols) (save page message) a made bench past parsed (message, h.1.1, refl)
      (next.0, uncapped_run made few bench past next.0 page h.0 message a h.1.2 saved, next.2)

  pub call_served : (lawful : (c : C) → CodeLaws (meaning c)) (room : ℕ) (s s' : Service C) (line : List ℕ) (x : Line) (call : Call) (a : Answer) → Parsed line (Ok x) → CallFor room x call → Continues meaning s call a s' → Goes (AtService meaning room) s line a s'
  call_served lawful room s s' line x call a parsed h go = goes room s s' line a (call_serves lawful room s s' line x call a parsed h go)
