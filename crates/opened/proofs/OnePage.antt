-- On a card of one page a floor of the code is granted, and leaves every message a mask. Assumes nothing.
use Rattle.std.proofs.Common.{◌≡◌, ℕ, zero, suc, ◌<◌, ◌≤◌, true, List, [], ◌∷◌, set, replicate, is_ok, Ok, Err, Result, sym, refl, ap, ◌∙◌, subst, arith, lit<}
use Rattle.code.specs.Words.{BlockCode, Message}
use Rattle.code.specs.Laws.{CodeLaws}
use Rattle.masking.specs.Floors.{total}
use Rattle.ledger.specs.Ledger.{Made, Page, page_of, blank_pages, Spot, floor, save, Answer, done, AtBench, new, InService, opened}
use Rattle.ledger.specs.Promise.{Promise}
use Rattle.ledger.proofs.Stands.{promise}
use Rattle.card.specs.declared.refusals.Refusal.{Refusal}
use Rattle.card.specs.History.{note_answer, save_answer}
use Rattle.opened.specs.Opened.{one_page}

-- one floor is all that a page with one floor loses
total_zeros : (n : ℕ) → total (replicate n 0) ≡ 0
total_zeros zero = refl
total_zeros (suc n) = omega (arith, total_zeros n)

total_of_one : (n c v : ℕ) → total (set (replicate n 0) c v) ≤ v
total_of_one zero c v = omega arith
total_of_one (suc n) zero v = omega (arith, total_zeros n)
total_of_one (suc n) (suc c) v = omega (arith, total_of_one n c v)

first_pages : (made : Made) (l : List Page) → AtBench made [] l → l ≡ blank_pages made
first_pages made _ new = refl

module _ (code : BlockCode) (laws : CodeLaws code) (c v : ℕ) (cell : c < code.cells) (level : v < code.arithmetic.size) where
  promised : Promise (one_page code)
  promised = promise (one_page code) laws (omega arith)

  spot : Spot (one_page code) 0 c v
  spot = record { page_there = lit< tt; cell_there = cell; level_there = level }

  floor_granted : (r : Result (Unit {0}) Refusal) (l : List Page) → AtBench (one_page code) ((floor 0 c v, note_answer r) ∷ []) l → is_ok r ≡ true
  floor_granted (Ok granted) l at = refl
  floor_granted (Err e) _ (AtBench.next _ l _ _ l' at step) = let granted = (promised.at_bench [] l at).bench_floor_granted l' 0 c v _ spot step in cc

  few_lost : (r : Result (Unit {0}) Refusal) (l : List Page) → AtBench (one_page code) ((floor 0 c v, note_answer r) ∷ []) l → total (page_of (one_page code) l 0).floors ≤ v
  few_lost (Err e) _ (AtBench.next _ l _ _ l' at step) = let granted = (promised.at_bench [] l at).bench_floor_granted l' 0 c v _ spot step in cc
  few_lost (Ok granted) _ (AtBench.next _ l _ _ l' at step) =
      let sets = ((promised.at_bench [] l at).bench_floor_sets l' 0 c v step).0 in
      let blank = first_pages (one_page code) l at in
      subst (λ (fs : List ℕ). total fs ≤ v) (sym (sets ∙ ap (λ (ps : List Page). set (page_of (one_page code) ps 0).floors c v) blank)) (total_of_one code.cells c v)

  save_granted : (m : List ℕ) (r : Result (Unit {0}) Refusal) (s : Result (ℕ × ℕ) Refusal) (l : List Page) → Message code m
      → InService (one_page code) ((floor 0 c v, note_answer r) ∷ []) ((save 0 m, save_answer s) ∷ []) l → is_ok s ≡ true
  save_granted m r (Ok answer) l fit at = refl
  save_granted m r (Err e) _ fit (InService.next bench _ l _ _ l' (opened _ _ at) step) =
      absurd ((promised.saves bench [] l 0 m (opened bench l at)).never_refused_with_few_lost l' _ _ _ (lit< tt) fit (omega (arith, few_lost r l at, level)) step)

  pub both_granted : (m : List ℕ) (r : Result (Unit {0}) Refusal) (s : Result (ℕ × ℕ) Refusal) (l : List Page) → Message code m
      → InService (one_page code) ((floor 0 c v, note_answer r) ∷ []) ((save 0 m, save_answer s) ∷ []) l → (is_ok r ≡ true) × (is_ok s ≡ true)
  both_granted m r s _ fit (InService.next bench _ l _ a l' (opened _ _ at) step) =
      (floor_granted r l at, save_granted m r s l' fit (InService.next bench [] l (save 0 m) _ l' (opened bench l at) step))
