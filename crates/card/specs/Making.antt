-- What making a card answers. Assumes nothing.
use Rattle.std.specs.Prelude.{◌≡◌, ℕ, ◌<◌, ◌≤◌}
use Rattle.code.specs.Words.{BlockCode}
use Rattle.masking.specs.declared.refusals.Refusal.TheVariants as masking
use Rattle.ledger.specs.Ledger.{blank_pages}
use Rattle.card.specs.declared.cards.Benched.{Benched}
use Rattle.card.specs.declared.cards.Card.{Card}
use Rattle.card.specs.declared.faults.Fault.{Fault}
use Rattle.card.specs.declared.faults.Fault.TheVariants.{Asked, Memory}
use Rattle.card.specs.declared.refusals.Refusal.{Refusal}
use Rattle.card.specs.declared.refusals.Refusal.TheVariants.{Masking, PageCount}
use Rattle.card.specs.History.{made_from, CardShows}

-- a card has 1 to 16 pages
abbrev pub Pages : ℕ → Type 0
Pages n = (1 ≤ n) × (n ≤ 16)

-- a new card of this code: its pages are blank
pub record New {C : Type 0} (meaning : C → BlockCode) (code : C) (allowance pages : ℕ) (b : Card C Benched) : Type 0 where
  pub pages_there : Pages pages
  pub code_kept : b.code ≡ code
  pub shows : CardShows meaning b (made_from (meaning code) allowance pages) (blank_pages (made_from (meaning code) allowance pages))

-- why it is not made: the page count, then the allowance
abbrev pub RefusedCard : BlockCode → (allowance pages : ℕ) → Refusal → Type 0
RefusedCard code allowance pages (PageCount n) = (n ≡ pages) × (Pages pages → ⊥)
RefusedCard code allowance pages (Masking (masking.Allowance f)) = (f ≡ allowance) × Pages pages × (code.radius < allowance)
RefusedCard code allowance pages _ = ⊥

-- want of memory is told only of a card that is not refused
abbrev pub NotMade : BlockCode → (allowance pages : ℕ) → Fault → Type 0
NotMade code allowance pages (Asked refusal) = RefusedCard code allowance pages refusal
NotMade code allowance pages Memory = Pages pages × (allowance ≤ code.radius)
