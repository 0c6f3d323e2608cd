-- A save leads from one history to the next, and a refused one alters nothing. Assumes nothing.
use Rattle.std.proofs.Common.{◌≡◌, ℕ, ◌<◌, ◌≤◌, true, List, ◌∷◌, length, set, Ok, Err, vec_items, Result, refl, ◌∙◌, subst, ⊎_elim, arith}
use Rattle.alphabet.specs.declared.refusals.Refusal.TheVariants as word
use Rattle.code.specs.Words.{BlockCode, Word}
use Rattle.code.specs.Laws.{CodeLaws}
use Rattle.masking.specs.declared.refusals.Refusal.{Refusal}
use Rattle.masking.specs.declared.refusals.Refusal.TheVariants.{Coding, Allowance, Floor, MessageLength, MessageSymbol, NoMask}
use Rattle.masking.specs.Writing.{Unwritable, WrittenAs}
use Rattle.ledger.specs.Ledger as ledger
use Rattle.ledger.specs.Ledger.{Made, page_of, with_message, BenchCall, Call, save, Answer, stored, Step, save_wrong_length, save_no_symbol, save_no_mask, saved, InService}
use Rattle.card.specs.declared.page.Page.{Page}
use Rattle.card.specs.declared.refusals.Refusal.TheVariants.{Masking}
use Rattle.card.specs.History.{Like, Shows, refusal_answer}
use Rattle.card.specs.Lending.{IsPage}
use Rattle.card.proofs.Shown.{floors_filled, in_made, entry_like, page_changed, page_kept}
use Rattle.card.proofs.Promised.{service_allowed}

-- a message that the ledger's page refuses too
refused_step : (made : Made) (l : List ledger.Page) (p : ℕ) (m : List ℕ) (room : ℕ) (e : Refusal) → p < made.pages → made.allowance ≤ made.code.radius → Word made.code (page_of made l p).floors → room ≡ made.code.cells
    → Unwritable made.code (page_of made l p).floors made.allowance m room e → Step made l (save p m) (refusal_answer (Masking e)) l
refused_step made l p m room (MessageLength n) low small floors whole u = rw u.1.0 (save_wrong_length l p m low u.1.1)
refused_step made l p m room (MessageSymbol i) low small floors whole u = save_no_symbol l p m i low u.1.0 u.1.1
refused_step made l p m room (NoMask n) low small floors whole u = save_no_mask l p m u.2.0 n u.2.1 low u.1 u.2.2 u.3
refused_step made l p m room (Allowance f) low small floors whole u = absurd (omega (arith, u.1))
refused_step made l p m room (Floor v) low small floors whole u = absurd (omega (arith, u.1.first.bad, floors.symbols u.1.cell u.1.first.within))
refused_step made l p m room (Coding (word.WordLength n)) low small floors whole u = absurd (⊎_elim (λ a. a.1 floors.whole) (λ b. b.2 whole) u.1)
refused_step made l p m room (Coding (word.NotASymbol i)) low small floors whole u = absurd u
refused_step made l p m room (Coding (word.NotOffered choice)) low small floors whole u = absurd u
refused_step made l p m room (Coding (word.BareLength n)) low small floors whole u = absurd u
refused_step made l p m room (Coding word.TooFar) low small floors whole u = absurd u

module _ {C : Type 0} (meaning : C → BlockCode) (lawful : (c : C) → CodeLaws (meaning c)) (code : C) (allowance : ℕ) {pages : List Page} {p : ℕ} {page : Page} (found : IsPage pages p page) (page' : Page)
    (floors : vec_items page'.floors ≡ vec_items page.floors) (m : List ℕ) where
  module _ {made : Made} {l : List ledger.Page} (shows : Shows meaning code allowance pages made l) where
    like : Like page (page_of made l p)
    like = entry_like shows found

    -- what was written, in the ledger's own code, allowance, floors and levels
    in_ledger : (r : Result (ℕ × ℕ) Refusal) → WrittenAs (meaning code) (vec_items page.floors) allowance m (vec_items page.levels) r (vec_items page'.levels)
        → WrittenAs made.code (page_of made l p).floors made.allowance m (page_of made l p).levels r (vec_items page'.levels)
    in_ledger r h = rw (← like.floors, ← like.levels, ← shows.coded, ← shows.allowed) h

  pub save_granted : (answer : ℕ × ℕ) → WrittenAs (meaning code) (vec_items page.floors) allowance m (vec_items page.levels) (Ok answer) (vec_items page'.levels) → page'.taken ≡ true
      → (made : Made) (bench : List (BenchCall × Answer)) (past : List (Call × Answer)) (l : List ledger.Page) → InService made bench past l → Shows meaning code allowance pages made l
      → (l' : List ledger.Page) × InService made bench ((save p m, stored answer.0 answer.1) ∷ past) l' × Shows meaning code allowance (set pages p page') made l'
  save_granted answer h taken made bench past l at shows =
      let w = in_ledger shows (Ok answer) h in
      let entry' = with_message (page_of made l p) m w.writes.carrier (vec_items page'.levels) in (
        set l p entry',
        InService.next bench past l _ _ _ at (saved l p m answer.0 answer.1 (vec_items page'.levels) (in_made shows found) w.symbols w.writes),
        page_changed shows found page' entry' (record { floors = floors ∙ (like shows).floors; levels = refl; taken = taken }),
      )

  pub save_refused : (e : Refusal) → WrittenAs (meaning code) (vec_items page.floors) allowance m (vec_items page.levels) (Err e) (vec_items page'.levels) → page'.taken ≡ page.taken
      → (made : Made) (bench : List (BenchCall × Answer)) (past : List (Call × Answer)) (l : List ledger.Page) → InService made bench past l → Shows meaning code allowance pages made l
      → (l' : List ledger.Page) × InService made bench ((save p m, refusal_answer (Masking e)) ∷ past) l' × Shows meaning code allowance (set pages p page') made l'
  save_refused e h taken made bench past l at shows =
      let u = in_ledger shows (Err e) h in
      let allowed = service_allowed lawful shows at p in
      let floors_fit = subst (Word made.code) (like shows).floors (floors_filled (like shows) allowed) in (
        l,
        InService.next bench past l _ _ _ at (refused_step made l p m (length (page_of made l p).levels) e (in_made shows found) shows.within floors_fit allowed.fit.whole u.0),
        page_kept shows found page' (record { floors = floors ∙ (like shows).floors; levels = h.1 ∙ (like shows).levels; taken = taken ∙ (like shows).taken }),
      )
