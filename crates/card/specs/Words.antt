-- What a page's own calls on its word answer and leave. Assumes nothing.
use Rattle.std.specs.Prelude.{◌≡◌, ℕ, Bool, true, false, List, replicate, Ok, Err, vec_items, Result}
use Rattle.code.specs.Words.{BlockCode}
use Rattle.masking.specs.Reading.{ReadAs}
use Rattle.card.specs.declared.page.Page.{Page}
use Rattle.card.specs.declared.refusals.Refusal.{Refusal}
use Rattle.card.specs.declared.refusals.Refusal.TheVariants as refusal

-- a page of so many cells with floors and levels 0, which has taken no message
pub record Blank (cells : ℕ) (page : Page) : Type 0 where
  pub floors : vec_items page.floors ≡ replicate cells 0
  pub levels : vec_items page.levels ≡ replicate cells 0
  pub taken : page.taken ≡ false

-- a page that has taken a message is read as its levels are; a blank one is refused
abbrev pub FetchedAs : BlockCode → (taken : Bool) (page : ℕ) (levels before : List ℕ) → Result ℕ Refusal → List ℕ → Type 0
FetchedAs code taken page levels before (Ok corrected) after = (taken ≡ true) × ReadAs code levels before (Ok corrected) after
FetchedAs code taken page levels before (Err (refusal.Blank p)) after = (taken ≡ false) × (p ≡ page) × (after ≡ before)
FetchedAs code taken page levels before (Err (refusal.Masking e)) after = (taken ≡ true) × ReadAs code levels before (Err e) after
FetchedAs code taken page levels before (Err _) after = ⊥
