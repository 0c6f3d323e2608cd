-- Which page a table lends, and what the table ends as. Assumes nothing.
use Rattle.std.specs.Prelude.{◌≡◌, ℕ, ◌<◌, ◌≤◌, List, length, Result, slice_index_or}
use Rattle.std.specs.Borrow.{Fml, MutBor, LendsIfOk}
use Rattle.std.specs.Vec.{with_item}
use Rattle.std.specs.declared.alloc.Global.{Global}
use Rattle.std.specs.declared.vec.Vec.{Vec}
use Rattle.std.specs.contracts.alloc.Global as global
use Rattle.std.specs.contracts.vec.Vec as vec
use Rattle.std.specs.contracts.impls.GlobalAllocator.TheImpl.{ghosts}
use Rattle.card.specs.contracts.page.Page.{the_row}
use Rattle.card.specs.declared.page.Page.{Page}
use Rattle.card.specs.declared.refusals.Refusal.{Refusal}
use Rattle.card.specs.declared.refusals.Refusal.TheVariants.{NoPage}

-- the page of this number
pub record IsPage (pages : List Page) (i : ℕ) (page : Page) : Type 0 where
  pub there : i < length pages
  pub read : page ≡ slice_index_or pages i page

-- no page has this number
pub record IsNoPage (pages : List Page) (i : ℕ) (e : Refusal) : Type 0 where
  pub past : length pages ≤ i
  pub told : e ≡ NoPage i

-- the page of this number ends as it was left, and the others as they were
abbrev pub LendsPage : MutBor (Vec Page Global) → ℕ → Result (MutBor Page) Refusal → Fml
LendsPage pages i r = LendsIfOk (vec.the_row the_row global.the_row ghosts) the_row pages r (with_item pages.now i) pages.now
