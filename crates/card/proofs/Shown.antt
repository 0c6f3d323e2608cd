-- A card that shows a ledger shows the next one once a page of it changed as the entry does; what a page of such a card is. Assumes nothing.
use Rattle.std.proofs.Common.{◌≡◌, ℕ, ◌<◌, List, length, get_or, set, vec_items, vec_len, sym, ap, ◌∙◌, subst, ⊎_elim, arith}
use Rattle.std.proofs.Math.Seq.{map-set_same}
use Rattle.std.proofs.lemmas.List.{length-set, get_or-set_same, get_or-set_other, set-get_or}
use Rattle.std.proofs.lemmas.Bool.{cases_eq}
use Rattle.code.specs.Words.{BlockCode, Filled}
use Rattle.masking.specs.Floors.{Allowed}
use Rattle.ledger.specs.Ledger as ledger
use Rattle.ledger.specs.Ledger.{Made, blank, page_of}
use Rattle.card.specs.declared.page.Page.{Page}
use Rattle.card.specs.History.{Like, Shows, Unaltered}
use Rattle.card.specs.Lending.{IsPage}

-- a page whose entry is allowed has a floor and a level for each cell, and they are symbols
module _ {code : BlockCode} {page : Page} {entry : ledger.Page} (like : Like page entry) (allowed : Allowed code entry.floors entry.levels) where
  levels_filled : Filled code.cells code.arithmetic.size (vec_items page.levels)
  levels_filled = subst (Filled code.cells code.arithmetic.size) (sym like.levels) allowed.fit

  pub floors_whole : vec_len page.floors ≡ code.cells
  floors_whole = omega (arith, page.even, page.levels.ok.0, levels_filled.whole)

  pub floors_filled : Filled code.cells code.arithmetic.size (vec_items page.floors)
  floors_filled =
      let whole : length (vec_items page.floors) ≡ code.cells = omega (arith, floors_whole, page.floors.ok.0) in
      record {
        whole = whole;
        symbols = λ i h.
            let low : i < code.cells = omega arith in
            subst (λ (xs : List ℕ). get_or xs i 0 < code.arithmetic.size) (sym like.floors) (omega (arith, allowed.floored i low, allowed.fit.symbols i (omega (arith, allowed.fit.whole))));
      }

-- the table with one page replaced by one that has the same floors and levels
pub unaltered : {pages : List Page} {p : ℕ} {page : Page} (page' : Page) → IsPage pages p page → vec_items page'.floors ≡ vec_items page.floors → vec_items page'.levels ≡ vec_items page.levels → Unaltered pages (set pages p page')
unaltered {pages} {p} {page} page' found floors levels = record {
  floors = map-set_same (λ (x : Page). vec_items x.floors) pages p page' page (floors ∙ ap (λ (x : Page). vec_items x.floors) found.read);
  levels = map-set_same (λ (x : Page). vec_items x.levels) pages p page' page (levels ∙ ap (λ (x : Page). vec_items x.levels) found.read);
}

module _ {C : Type 0} {meaning : C → BlockCode} {code : C} {allowance : ℕ} {pages : List Page} {made : Made} {l : List ledger.Page} (shows : Shows meaning code allowance pages made l) {p : ℕ} {page : Page} (found : IsPage pages p page) where
  pub in_made : p < made.pages
  in_made = omega (arith, found.there, shows.count)

  pub entry_like : Like page (page_of made l p)
  entry_like = subst (λ (x : Page). Like x (page_of made l p)) (sym found.read) (shows.each p page in_made)

  pub page_changed : (page' : Page) (entry' : ledger.Page) → Like page' entry' → Shows meaning code allowance (set pages p page') made (set l p entry')
  page_changed page' entry' like = record {
    coded = shows.coded;
    allowed = shows.allowed;
    within = shows.within;
    count = length-set pages p page' ∙ shows.count;
    rows = length-set l p entry' ∙ shows.rows;
    each = λ i d h.
        ⊎_elim
        (λ (here : i ≡ p). rw (here, get_or-set_same pages p page' d found.there, get_or-set_same l p entry' (blank made.code.cells) (omega (arith, in_made, shows.rows))) like)
        (λ (other : i ≡ p → ⊥). rw (get_or-set_other pages p i page' d other, get_or-set_other l p i entry' (blank made.code.cells) other) (shows.each i d h))
        (cases_eq i p);
  }

  pub page_kept : (page' : Page) → Like page' (page_of made l p) → Shows meaning code allowance (set pages p page') made l
  page_kept page' like = subst (λ (l' : List ledger.Page). Shows meaning code allowance (set pages p page') made l') (set-get_or l p (blank made.code.cells)) (page_changed page' (page_of made l p) like)
