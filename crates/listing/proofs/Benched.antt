-- A line's turn at the bench: what its parsing and its floor give is what the card is held to.
use Rattle.std.proofs.Common.{◌≡◌, ℕ, Bool, true, false, List, [], ◌∷◌, Ok, Err, Result, sym, refl, ap, subst, ⊎_elim}
use Rattle.std.specs.Bool.{beq}
use Rattle.std.specs.Result.{MatchResult, IsOkAnd, result_eq}
use Rattle.code.specs.Words.{BlockCode}
use Rattle.code.specs.Laws.{CodeLaws}
use Rattle.sheet.specs.declared.refusals.Refusal.{Refusal}
use Rattle.sheet.specs.declared.refusals.Refusal.TheVariants.{OutOfTurn}
use Rattle.sheet.specs.declared.parsing.Line.{Line}
use Rattle.sheet.specs.declared.parsing.Line.TheVariants.{Floor, Open}
use Rattle.sheet.specs.Parsing.{Parsed}
use Rattle.ledger.specs.Ledger.{Made, floor, Answer, done}
use Rattle.card.specs.History.{BenchContinues}
use Rattle.runs.specs.declared.replies.Reply.{Reply}
use Rattle.runs.specs.declared.replies.Reply.TheVariants.{Done}
use Rattle.listing.specs.declared.refusals.Refusal as listing
use Rattle.listing.specs.declared.run.Run.{Run}
use Rattle.listing.specs.Rows.{Fits}
use Rattle.listing.specs.Told.{form_refusal, told}
use Rattle.listing.specs.Turns.{Stage, at_bench, in_service, ForBench, Turn, ill_formed, untimely, floored, opened}
use Rattle.listing.specs.Serving.{Bench, Refuses, AtTheBench, AtItsOpening, Goes, InUse, ListedLines, BenchLine}
use Rattle.listing.proofs.Fitting.{done_fits}
use Rattle.listing.proofs.Gathered.{bench_sound, line_fits}

-- what a line at the bench is told: that it is done, or its refusal
abbrev pub done_or_refused : Result Bool listing.Refusal → Answer
done_or_refused (Ok opens) = done
done_or_refused (Err e) = told (Err e)

pub told_done : (r : Result Bool listing.Refusal) (answer : Result Reply listing.Refusal) (P : Bool → Reply → Type 0) → MatchResult r (λ x. IsOkAnd answer (P x)) (λ e. answer ≡ Err e) → ((x : Bool) (y : Reply) → P x y → y ≡ Done) → told answer ≡ done_or_refused r
told_done (Ok x) (Ok y) P h f = ap (λ k. told (Ok k)) (f x y h)
told_done (Ok x) (Err e) P h f = absurd h
told_done (Err e) answer P h f = ap told h

-- a line that asks for the opening
pub asks_opening : (eq : listing.Refusal → listing.Refusal → Bool) (r : Result Bool listing.Refusal) → result_eq beq eq r (Ok true) ≡ true → r ≡ Ok true
asks_opening eq (Ok true) is = refl
asks_opening eq (Ok false) is = absurd cc
asks_opening eq (Err e) is = absurd cc

module _ {C : Type 0} (meaning : C → BlockCode) where
  late_benched : (b : Bench C) (line : List ℕ) (x : Line) → Parsed line (Ok x) → (ForBench x → ⊥) → Goes (AtTheBench meaning) b line (form_refusal OutOfTurn) b
  late_benched b line x parsed late made (at_bench past) at = (at_bench past, untimely (at_bench past) line x parsed late, at)
  late_benched b line x parsed late made (in_service bench past) at = absurd at

  pub refused_benched : (b : Bench C) (line : List ℕ) (e : Refusal) → Refuses ForBench line e → Goes (AtTheBench meaning) b line (form_refusal e) b
  refused_benched b line e h =
      ⊎_elim (λ parsed made stage at. (stage, ill_formed stage line e parsed, at))
      (λ late. subst (λ k. Goes (AtTheBench meaning) b line (form_refusal k) b) (sym late.0) (late_benched b line late.1.0 late.1.1 late.1.2)) h

  pub floor_benched : (b b' : Bench C) (line : List ℕ) (page cell level : ℕ) (a : Answer) → Parsed line (Ok (Floor page cell level)) → BenchContinues meaning b (floor page cell level) a b' → Goes (AtTheBench meaning) b line a b'
  floor_benched b b' line page cell level a parsed go made (at_bench past) at =
      let next = go made past at.0 at.1 at.2 in
      (at_bench ((floor page cell level, a) ∷ past), floored past line page cell level a parsed, next)
  floor_benched b b' line page cell level a parsed go made (in_service bench past) at = absurd at

  -- the opening is granted, and the card waits to be opened
  pub open_benched : (b b' : Bench C) (line : List ℕ) → Parsed line (Ok Open) × (b' ≡ b) → (made : Made) (stage : Stage) → AtTheBench meaning made stage b → (stage' : Stage) × Turn made stage line done stage' × AtItsOpening meaning made stage' b'
  open_benched b b' line asked made (at_bench past) at = (in_service past [], opened past line asked.0, (refl, subst (AtTheBench meaning made (at_bench past)) (sym asked.1) at))
  open_benched b b' line asked made (in_service bench past) at = absurd at

  -- another line is told what it goes by
  pub other_benched : (eq : listing.Refusal → listing.Refusal → Bool) (b b' : Bench C) (line : List ℕ) (r : Result Bool listing.Refusal) → result_eq beq eq r (Ok true) ≡ false → BenchLine meaning b line r b' → Goes (AtTheBench meaning) b line (done_or_refused r) b'
  other_benched eq b b' line (Ok true) is h = absurd cc
  other_benched eq b b' line (Ok false) is h = h
  other_benched eq b b' line (Err e) is h = h

  pub bench_fits : (lawful : (c : C) → CodeLaws (meaning c)) (b b' b'' : Bench C) (before run : Run) (line : List ℕ) (r : Result Bool listing.Refusal) → InUse (AtTheBench meaning) b → ListedLines (AtTheBench meaning) (AtTheBench meaning) b before b' run → BenchLine meaning b' line r b'' → Fits (done_or_refused r)
  bench_fits lawful b b' b'' before run line (Ok opens) used so h = done_fits
  bench_fits lawful b b' b'' before run line (Err e) used so h = line_fits (AtTheBench meaning) (bench_sound meaning lawful) b b' b'' before run line (told (Err e)) used so h
