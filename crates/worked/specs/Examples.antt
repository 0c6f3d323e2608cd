-- The worked examples of the rules, as one list, in the words of the contracts of writing and reading. Assumes nothing.
use Rattle.std.specs.Prelude.{◌≡◌, ℕ, List, [], ◌∷◌, Some}
use Rattle.alphabet.specs.Residue.{modulo}
use Rattle.alphabet.specs.Binary.{binary}
use Rattle.alphabet.specs.Inverses.{with_inverses}
use Rattle.alphabet.specs.declared.refusals.Refusal.TheVariants.{TooFar}
use Rattle.code.specs.Words.{BlockCode}
use Rattle.code.specs.Bare.{bare}
use Rattle.plane.specs.Plane.{plane}
use Rattle.masking.specs.declared.refusals.Refusal.TheVariants.{Coding, NoMask}
use Rattle.masking.specs.Reading.{Unreadable}
use Rattle.masking.specs.Writing.{Written, Unwritable}

-- a page of this code with these floors takes the message under the mask, with so many cells forced
abbrev pub Takes : BlockCode → (floors : List ℕ) (allowance : ℕ) (message : List ℕ) (mask forced : ℕ) (word : List ℕ) → Type 0
Takes code floors allowance message mask forced word = Written code floors allowance message code.cells mask forced word

-- it is refused, since every mask leaves at least so many cells unmet
abbrev pub Refuses : BlockCode → (floors : List ℕ) (allowance : ℕ) (message : List ℕ) (fewest : ℕ) → Type 0
Refuses code floors allowance message fewest = Unwritable code floors allowance message code.cells (NoMask fewest)

abbrev pub plane_of_three : BlockCode
plane_of_three = plane (with_inverses (modulo 3))

pub record WorkedExamples : Type 0 where
  pub two_worn_cells : Takes (bare (modulo 3) 5) (0 ∷ 1 ∷ 1 ∷ 0 ∷ 0 ∷ []) 0 (2 ∷ 0 ∷ 1 ∷ 0 ∷ []) 2 0 (2 ∷ 1 ∷ 2 ∷ 0 ∷ 2 ∷ [])
  pub lowest_of_two_masks : Takes (bare (modulo 3) 8) (0 ∷ 0 ∷ 1 ∷ 0 ∷ 0 ∷ 1 ∷ 0 ∷ 0 ∷ []) 0 (2 ∷ 0 ∷ 1 ∷ 2 ∷ 0 ∷ 1 ∷ 0 ∷ []) 1 0 (1 ∷ 0 ∷ 1 ∷ 2 ∷ 0 ∷ 1 ∷ 2 ∷ 1 ∷ [])
  pub three_worn_cells_refused : Refuses (bare (modulo 3) 5) (1 ∷ 1 ∷ 1 ∷ 0 ∷ 0 ∷ []) 0 (1 ∷ 2 ∷ 0 ∷ 0 ∷ []) 1
  pub three_worn_cells_taken : Takes (bare (modulo 3) 5) (1 ∷ 1 ∷ 1 ∷ 0 ∷ 0 ∷ []) 0 (1 ∷ 1 ∷ 0 ∷ 0 ∷ []) 1 0 (1 ∷ 2 ∷ 2 ∷ 1 ∷ 1 ∷ [])
  pub floor_of_two : Takes (bare (modulo 3) 2) (0 ∷ 2 ∷ []) 0 (0 ∷ []) 2 0 (2 ∷ 2 ∷ [])
  pub four_residues : Takes (bare (modulo 4) 4) (1 ∷ 1 ∷ 1 ∷ 0 ∷ []) 0 (1 ∷ 2 ∷ 3 ∷ []) 1 0 (1 ∷ 2 ∷ 3 ∷ 0 ∷ [])
  pub four_binary_symbols : Takes (bare (binary 4) 4) (1 ∷ 1 ∷ 1 ∷ 0 ∷ []) 0 (1 ∷ 2 ∷ 3 ∷ []) 3 0 (3 ∷ 2 ∷ 1 ∷ 0 ∷ [])
  pub plane_unworn : Takes plane_of_three (0 ∷ 0 ∷ 0 ∷ 0 ∷ 0 ∷ 0 ∷ 0 ∷ 0 ∷ 0 ∷ []) 0 (1 ∷ 0 ∷ 0 ∷ 0 ∷ 0 ∷ []) 0 0 (1 ∷ 2 ∷ 0 ∷ 2 ∷ 1 ∷ 0 ∷ 0 ∷ 0 ∷ 0 ∷ [])
  pub plane_one_forced : Takes plane_of_three (0 ∷ 1 ∷ 0 ∷ 0 ∷ 1 ∷ 1 ∷ 0 ∷ 0 ∷ 0 ∷ []) 1 (1 ∷ 0 ∷ 0 ∷ 0 ∷ 0 ∷ []) 0 1 (1 ∷ 2 ∷ 0 ∷ 2 ∷ 1 ∷ 1 ∷ 0 ∷ 0 ∷ 0 ∷ [])
  pub plane_none_allowed : Refuses plane_of_three (0 ∷ 1 ∷ 0 ∷ 0 ∷ 1 ∷ 1 ∷ 0 ∷ 0 ∷ 0 ∷ []) 0 (1 ∷ 0 ∷ 0 ∷ 0 ∷ 0 ∷ []) 1
  pub plane_too_far : Unreadable plane_of_three (1 ∷ 2 ∷ 0 ∷ 0 ∷ 0 ∷ 0 ∷ 0 ∷ 0 ∷ 0 ∷ []) 5 (Coding TooFar)
  pub binary_product : (binary 16).product 8 2 ≡ 3
  pub binary_inverse : (with_inverses (binary 16)).inverse 2 ≡ Some 9
