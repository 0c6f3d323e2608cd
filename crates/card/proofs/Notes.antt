-- Bench floors and notes lead from one history to the next, and a refused one alters nothing. Assumes nothing.
use Rattle.std.proofs.Common.{◌≡◌, ℕ, max, List, ◌∷◌, get_or, set, is_some, Ok, Err, vec_items, vec_len, Result, sym, refl, ap, ◌∙◌, ap₂, arith}
use Rattle.std.proofs.lemmas.List.{set-get_or}
use Rattle.code.specs.Words.{BlockCode}
use Rattle.code.specs.Laws.{CodeLaws}
use Rattle.ledger.specs.Ledger as ledger
use Rattle.ledger.specs.Ledger.{Made, page_of, floor_at, level_at, with_cell, with_floor, BenchCall, floor, Call, wear, drift, Answer, floored, not_floored, worn, not_worn, drifted, no_drift, below_its_floor, AtBench, InService}
use Rattle.card.specs.declared.page.Page.{Page}
use Rattle.card.specs.declared.refusals.Refusal.{Refusal}
use Rattle.card.specs.declared.refusals.Refusal.TheVariants.{BelowFloor}
use Rattle.card.specs.Cells.{Spot, NoSpot, Floored, Worn, NoDrift, Drifted}
use Rattle.card.specs.History.{Like, Shows, refusal_answer, note_answer, RefusedAltersNothing}
use Rattle.card.specs.Lending.{IsPage}
use Rattle.card.proofs.Shown.{floors_whole, unaltered, in_made, entry_like, page_changed, page_kept}
use Rattle.card.proofs.Promised.{bench_allowed, service_allowed}
use Rattle.card.proofs.Spots.{same_spot, same_no_spot}

-- a page and its entry with one cell set alike
like_set : {page : Page} (page' : Page) {entry : ledger.Page} (entry' : ledger.Page) (c f v : ℕ) → Like page entry → page'.taken ≡ page.taken → entry'.message ≡ entry.message
    → vec_items page'.floors ≡ set (vec_items page.floors) c f → vec_items page'.levels ≡ set (vec_items page.levels) c v
    → entry'.floors ≡ set entry.floors c f → entry'.levels ≡ set entry.levels c v → Like page' entry'
like_set page' entry' c f v like taken message floors levels floors' levels' = record {
  floors = floors ∙ ap (λ (xs : List ℕ). set xs c f) like.floors ∙ sym floors';
  levels = levels ∙ ap (λ (xs : List ℕ). set xs c v) like.levels ∙ sym levels';
  taken = taken ∙ like.taken ∙ sym (ap (λ m. is_some m) message);
}

like_same : {page : Page} (page' : Page) {entry : ledger.Page} → Like page entry → page'.taken ≡ page.taken → vec_items page'.floors ≡ vec_items page.floors → vec_items page'.levels ≡ vec_items page.levels → Like page' entry
like_same page' like taken floors levels = record { floors = floors ∙ like.floors; levels = levels ∙ like.levels; taken = taken ∙ like.taken }

module _ {C : Type 0} (meaning : C → BlockCode) (lawful : (c : C) → CodeLaws (meaning c)) (code : C) (allowance : ℕ) {pages : List Page} {p : ℕ} {page : Page} (found : IsPage pages p page) (page' : Page) (taken : page'.taken ≡ page.taken)
    (c v : ℕ) {size : ℕ} (sized : size ≡ (meaning code).arithmetic.size) where
  module _ {made : Made} {l : List ledger.Page} (shows : Shows meaning code allowance pages made l) where
    made_size : size ≡ made.code.arithmetic.size
    made_size = sized ∙ ap (λ (k : BlockCode). k.arithmetic.size) shows.coded

    like : Like page (page_of made l p)
    like = entry_like shows found

  pub floor_next : (r : Result (Unit {0}) Refusal) → Floored (vec_len page.floors) size c v (vec_items page.floors) (vec_items page.levels) r (vec_items page'.floors) (vec_items page'.levels)
      → (made : Made) (past : List (BenchCall × Answer)) (l : List ledger.Page) → AtBench made past l → Shows meaning code allowance pages made l
      → (l' : List ledger.Page) × AtBench made ((floor p c v, note_answer r) ∷ past) l' × Shows meaning code allowance (set pages p page') made l'
  floor_next (Ok granted) h made past l at shows =
      let whole = floors_whole (like shows) (bench_allowed lawful shows at p) in
      let spot = same_spot made p (vec_len page.floors) size c v (in_made shows found) whole (made_size shows) h.spot in
      let entry' = with_floor (page_of made l p) c v in (
        set l p entry',
        AtBench.next past l _ _ _ at (floored l p c v spot),
        page_changed shows found page' entry' (like_set page' entry' c v v (like shows) taken refl h.floor_set h.level_set refl refl),
      )
  floor_next (Err e) h made past l at shows =
      let whole = floors_whole (like shows) (bench_allowed lawful shows at p) in (
        l,
        AtBench.next past l _ _ _ at (not_floored l p c v (refusal_answer e) (same_no_spot made p (vec_len page.floors) size c v (in_made shows found) whole (made_size shows) e h.0)),
        page_kept shows found page' (like_same page' (like shows) taken h.1 h.2),
      )

  module _ (made : Made) (bench : List (BenchCall × Answer)) (past : List (Call × Answer)) (l : List ledger.Page) (at : InService made bench past l) (shows : Shows meaning code allowance pages made l) where
    whole : vec_len page.floors ≡ made.code.cells
    whole = floors_whole (like shows) (service_allowed lawful shows at p)

    spot : Spot (vec_len page.floors) size c v → ledger.Spot made p c v
    spot = same_spot made p (vec_len page.floors) size c v (in_made shows found) whole (made_size shows)

    no_spot : (e : Refusal) → NoSpot (vec_len page.floors) size c v e → ledger.NoSpot made p c v (refusal_answer e)
    no_spot = same_no_spot made p (vec_len page.floors) size c v (in_made shows found) whole (made_size shows)

    floor_is : get_or (vec_items page.floors) c 0 ≡ floor_at (page_of made l p) c
    floor_is = ap (λ (xs : List ℕ). get_or xs c 0) (like shows).floors

    -- the card as it was, after a call that the ledger refuses too
    refused_next : (call : Call) (a : Answer) → ledger.Step made l call a l → vec_items page'.floors ≡ vec_items page.floors → vec_items page'.levels ≡ vec_items page.levels
        → (l' : List ledger.Page) × InService made bench ((call, a) ∷ past) l' × Shows meaning code allowance (set pages p page') made l'
    refused_next call a step floors levels = (l, InService.next bench past l call a l at step, page_kept shows found page' (like_same page' (like shows) taken floors levels))

    not_drifted : (e : Refusal) → NoDrift (vec_len page.floors) size c v (vec_items page.floors) e → ledger.Step made l (drift p c v) (refusal_answer e) l
    not_drifted (BelowFloor k) h = rw h.0 (below_its_floor l p c v (spot h.1) (omega (arith, h.2, floor_is)))
    not_drifted e h = no_drift l p c v (refusal_answer e) (no_spot e h)

  pub wear_next : (r : Result (Unit {0}) Refusal) → Worn (vec_len page.floors) size c v (vec_items page.floors) (vec_items page.levels) r (vec_items page'.floors) (vec_items page'.levels)
      → (made : Made) (bench : List (BenchCall × Answer)) (past : List (Call × Answer)) (l : List ledger.Page) → InService made bench past l → Shows meaning code allowance pages made l
      → (l' : List ledger.Page) × InService made bench ((wear p c v, note_answer r) ∷ past) l' × Shows meaning code allowance (set pages p page') made l'
  wear_next (Ok granted) h made bench past l at shows =
      let entry = page_of made l p in
      let f : ℕ = max (floor_at entry c) v in
      let entry' = with_cell entry c f (max (level_at entry c) f) in
      let same_floor : max (get_or (vec_items page.floors) c 0) v ≡ f = ap (λ (xs : List ℕ). max (get_or xs c 0) v) (like shows).floors in
      let same_level : max (get_or (vec_items page.levels) c 0) (max (get_or (vec_items page.floors) c 0) v) ≡ max (level_at entry c) f =
      ap₂ (λ (x y : ℕ). max x y) (ap (λ (xs : List ℕ). get_or xs c 0) (like shows).levels) same_floor in (
        set l p entry',
        InService.next bench past l _ _ _ at (worn l p c v (spot made bench past l at shows h.spot)),
        page_changed shows found page' entry' (like_set page' entry' c f (max (level_at entry c) f) (like shows) taken refl
            (h.floor_set ∙ ap (set (vec_items page.floors) c) same_floor) (h.level_set ∙ ap (set (vec_items page.levels) c) same_level) refl refl),
      )
  wear_next (Err e) h made bench past l at shows =
      refused_next made bench past l at shows (wear p c v) (refusal_answer e) (not_worn l p c v (refusal_answer e) (no_spot made bench past l at shows e h.0)) h.1 h.2

  pub drift_next : (r : Result (Unit {0}) Refusal) → Drifted (vec_len page.floors) size c v (vec_items page.floors) (vec_items page.levels) r (vec_items page'.floors) (vec_items page'.levels)
      → (made : Made) (bench : List (BenchCall × Answer)) (past : List (Call × Answer)) (l : List ledger.Page) → InService made bench past l → Shows meaning code allowance pages made l
      → (l' : List ledger.Page) × InService made bench ((drift p c v, note_answer r) ∷ past) l' × Shows meaning code allowance (set pages p page') made l'
  drift_next (Ok granted) h made bench past l at shows =
      let entry = page_of made l p in
      let entry' = with_cell entry c (floor_at entry c) v in (
        set l p entry',
        InService.next bench past l _ _ _ at (drifted l p c v (spot made bench past l at shows h.0) (omega (arith, h.1, floor_is made bench past l at shows))),
        page_changed shows found page' entry' (record {
          floors = h.2 ∙ (like shows).floors ∙ sym (set-get_or entry.floors c 0);
          levels = h.3 ∙ ap (λ (xs : List ℕ). set xs c v) (like shows).levels;
          taken = taken ∙ (like shows).taken;
        }),
      )
  drift_next (Err e) h made bench past l at shows =
      refused_next made bench past l at shows (drift p c v) (refusal_answer e) (not_drifted made bench past l at shows e h.0) h.1 h.2

module _ {pages : List Page} {p : ℕ} {page : Page} (found : IsPage pages p page) (page' : Page) (c v size : ℕ) where
  pub floor_refused : (r : Result (Unit {0}) Refusal) → Floored (vec_len page.floors) size c v (vec_items page.floors) (vec_items page.levels) r (vec_items page'.floors) (vec_items page'.levels) → RefusedAltersNothing r pages (set pages p page')
  floor_refused (Ok granted) h = tt
  floor_refused (Err e) h = unaltered page' found h.1 h.2

  pub wear_refused : (r : Result (Unit {0}) Refusal) → Worn (vec_len page.floors) size c v (vec_items page.floors) (vec_items page.levels) r (vec_items page'.floors) (vec_items page'.levels) → RefusedAltersNothing r pages (set pages p page')
  wear_refused (Ok granted) h = tt
  wear_refused (Err e) h = unaltered page' found h.1 h.2

  pub drift_refused : (r : Result (Unit {0}) Refusal) → Drifted (vec_len page.floors) size c v (vec_items page.floors) (vec_items page.levels) r (vec_items page'.floors) (vec_items page'.levels) → RefusedAltersNothing r pages (set pages p page')
  drift_refused (Ok granted) h = tt
  drift_refused (Err e) h = unaltered page' found h.1 h.2
