-- From the bench into service: the lines before the opening and those after it are the lines of one card.
use Rattle.std.proofs.Common.{◌≡◌, ℕ, List, [], ◌∷◌, ◌++◌, length, true, sym, ap, ◌∙◌, subst, append-nil}
use Rattle.code.specs.Words.{BlockCode, rest}
use Rattle.code.specs.Laws.{CodeLaws}
use Rattle.ledger.specs.Ledger as ledger
use Rattle.ledger.specs.Ledger.{Made, BenchCall, Answer, AtBench, InService}
use Rattle.card.specs.History.{CardShows}
use Rattle.listing.specs.declared.run.Run.{Run}
use Rattle.listing.specs.Turns.{Stage, at_bench, in_service, Turns}
use Rattle.listing.specs.Serving.{Bench, Service, AtTheBench, AtItsOpening, AtService, InUse, AllListed, BenchLines}
use Rattle.listing.specs.Sheets.{OthersListed}
use Rattle.listing.proofs.Gathered.{listed_append, service_sound}

turns_append : (made : Made) (s t u : Stage) (xs ys : List (List ℕ)) (given later : List Answer) → Turns made s xs given t → Turns made t ys later u → Turns made s (xs ++ ys) (given ++ later) u
turns_append made s t u [] ys [] later h k = subst (λ z. Turns made z ys later u) (sym h) k
turns_append made s t u [] ys (a ∷ given) later h k = absurd h
turns_append made s t u (x ∷ xs) ys [] later h k = absurd h
turns_append made s t u (x ∷ xs) ys (a ∷ given) later h k = (h.0, h.1, turns_append made h.0 t u xs ys given later h.2 k)

-- lines of which none are left
all_of : (all lines left : List (List ℕ)) → all ≡ lines ++ left → left ≡ [] → lines ≡ all
all_of all lines left e none = sym (e ∙ ap (λ k. lines ++ k) none ∙ append-nil lines)

module _ {C : Type 0} (meaning : C → BlockCode) where
  -- opening a card leaves its histories
  abbrev pub Opens : Bench C → Service C → Type 0
  Opens b s = (made : Made) (past : List (BenchCall × Answer)) (l : List ledger.Page) → AtBench made past l → CardShows meaning b made l → InService made past [] l × CardShows meaning s made l

  serving : (room : ℕ) (b : Bench C) (s : Service C) (made : Made) (stage : Stage) → Opens b s → room ≡ length (rest made.code.information) → AtItsOpening meaning made stage b → AtService meaning room made stage s
  serving room b s made (at_bench past) opens is at = absurd at
  serving room b s made (in_service bench past) opens is at =
      let now = opens made bench at.1.0 at.1.1 at.1.2 in
      (is, (at.1.0, subst (λ p. InService made bench p at.1.0) (sym at.0) now.0, now.1))

  room_made : (room : ℕ) (b : Bench C) (made : Made) (stage : Stage) → room ≡ length (rest (meaning b.code).information) → AtTheBench meaning made stage b → room ≡ length (rest made.code.information)
  room_made room b made (at_bench past) e at = e ∙ ap (λ code. length (rest code.information)) at.2.coded
  room_made room b made (in_service bench past) e at = absurd at

  -- some history led to the card that a line opened
  pub opened_in_use : (room : ℕ) (b b' : Bench C) (s : Service C) (before between : Run) → InUse (AtTheBench meaning) b → room ≡ length (rest (meaning b.code).information) → BenchLines meaning b before true b' between → Opens b' s → InUse (AtService meaning room) s
  opened_in_use room b b' s before between used e h opens =
      let then = h.goes used.made used.stage used.led in
      record { made = used.made; stage = then.0; led = serving room b' s used.made then.0 opens (room_made room b used.made used.stage e used.led) then.2 }

  module _ (lawful : (c : C) → CodeLaws (meaning c)) where
    -- a line opens the card, and the others are served
    pub others_served : (room : ℕ) (b b' : Bench C) (s s' : Service C) (before between after : Run) → room ≡ length (rest (meaning b.code).information)
        → BenchLines meaning b before true b' between → Opens b' s → AllListed (AtService meaning room) s between s' after → OthersListed meaning b before after
    others_served room b b' s s' before between after e h opens (k, none) = record {
      answers = h.answers ++ k.answers;
      listed = listed_append before between after h.answers k.answers h.listed k.listed;
      goes = λ made stage at.
          let then = h.goes made stage at in
          let next = k.goes made then.0 (serving room b' s made then.0 opens (room_made room b made stage e at) then.2) in (
            next.0,
            subst (λ z. Turns made stage z (h.answers ++ k.answers) next.0) (ap (λ z. h.lines ++ z) (all_of _ k.lines _ k.gone none) ∙ sym h.gone)
                (turns_append made stage then.0 next.0 h.lines k.lines h.answers k.answers then.1 next.1),
            (service_sound meaning lawful room made next.0 s' next.2).1,
          );
    }
