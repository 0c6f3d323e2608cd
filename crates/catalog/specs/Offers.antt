-- Which code two kinds, a size and a length choose, or which of them is the first that is not on offer: one line for each rule. Assumes nothing.
use Rattle.std.specs.Prelude.{◌≡◌, ℕ, ◌*◌, ◌≤◌, Ok, Err, Result, ◌≢◌}
use Rattle.alphabet.specs.Inverses.{with_inverses}
use Rattle.alphabet.specs.declared.refusals.Choice.TheVariants as choice
use Rattle.alphabet.specs.declared.refusals.Refusal.{Refusal}
use Rattle.alphabet.specs.declared.refusals.Refusal.TheVariants.{NotOffered, BareLength}
use Rattle.code.specs.Words.{BlockCode}
use Rattle.code.specs.Bare.{bare}
use Rattle.plane.specs.Plane.{plane}
use Rattle.catalog.specs.declared.kinds.AlphabetKind.{AlphabetKind}
use Rattle.catalog.specs.declared.kinds.CodeKind.{CodeKind}
use Rattle.catalog.specs.declared.kinds.CodeKind.TheVariants.{Bare, Plane}
use Rattle.catalog.specs.Kinds.{alphabet_number, code_number, arithmetic_of, Size}

-- a Bare code takes any length from 2 to 256, a Plane code the square of its field's size
pub data Offer (alphabet : AlphabetKind) (q n : ℕ) : CodeKind → Result BlockCode Refusal → Type 0 where
  no_size : (code : CodeKind) → (Size alphabet code q → ⊥) → Offer alphabet q n code (Err (NotOffered choice.AlphabetSize))
  no_bare_length : Size alphabet Bare q → ((2 ≤ n) × (n ≤ 256) → ⊥) → Offer alphabet q n Bare (Err (BareLength n))
  bare_code : Size alphabet Bare q → 2 ≤ n → n ≤ 256 → Offer alphabet q n Bare (Ok (bare (arithmetic_of alphabet q) n))
  no_plane_length : Size alphabet Plane q → (n ≢ q * q) → Offer alphabet q n Plane (Err (NotOffered choice.CodeLength))
  plane_code : Size alphabet Plane q → n ≡ q * q → Offer alphabet q n Plane (Ok (plane (with_inverses (arithmetic_of alphabet q))))

-- the numbers of the kinds first
pub data Chosen (a c q n : ℕ) (r : Result BlockCode Refusal) : Type 0 where
  no_alphabet_kind : ((alphabet : AlphabetKind) → alphabet_number alphabet ≢ a) → r ≡ Err (NotOffered choice.AlphabetKind) → Chosen a c q n r
  no_code_kind : (alphabet : AlphabetKind) → alphabet_number alphabet ≡ a → ((code : CodeKind) → code_number code ≢ c) → r ≡ Err (NotOffered choice.CodeKind) → Chosen a c q n r
  of_kinds : (alphabet : AlphabetKind) (code : CodeKind) → alphabet_number alphabet ≡ a → code_number code ≡ c → Offer alphabet q n code r → Chosen a c q n r
