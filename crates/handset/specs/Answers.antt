-- What a handset is answered: how many cells were corrected, or 100 plus a refusal's number. Assumes nothing.
use Rattle.std.specs.Prelude.{◌≡◌, ℕ, ◌+◌, List, length, Ok, Err, Result}
use Rattle.alphabet.specs.declared.refusals.Refusal as choice
use Rattle.alphabet.specs.Refusals as choice-refusals
use Rattle.code.specs.Words.{BlockCode}
use Rattle.masking.specs.declared.refusals.Refusal.{Refusal}
use Rattle.masking.specs.declared.refusals.Refusal.TheVariants.{Coding}
use Rattle.masking.specs.Refusals.{number}
use Rattle.masking.specs.Reading.{ReadAs}
use Rattle.catalog.specs.Offers.{Chosen}
use Rattle.catalog.specs.declared.wanted.Wanted.{Wanted}

-- the answer for what a read answers
abbrev pub told : Result ℕ Refusal → ℕ
told (Ok corrected) = corrected
told (Err refusal) = 100 + number refusal

-- the page is read by this code
abbrev pub ReadBy : BlockCode → (levels before : List ℕ) → ℕ → List ℕ → Type 0
ReadBy code levels before r after = (answer : Result ℕ Refusal) × ReadAs code levels before answer after × (r ≡ told answer)

-- the page is read by the code that is chosen, or the choice is refused and the buffer left as it was
abbrev pub Heard : Result BlockCode choice.Refusal → (levels before : List ℕ) → ℕ → List ℕ → Type 0
Heard (Ok code) levels before r after = ReadBy code levels before r after
Heard (Err refusal) levels before r after = (r ≡ 100 + choice-refusals.number refusal) × (after ≡ before)

-- the length of the page's code is the number of its levels
abbrev pub Handset : (alphabet code q : ℕ) (levels before : List ℕ) → ℕ → List ℕ → Type 0
Handset alphabet code q levels before r after = (choice : Result BlockCode choice.Refusal) × Chosen alphabet code q (length levels) choice × Heard choice levels before r after

-- a page of the code that is chosen is read, or the choice is refused and the buffer left as it was
abbrev pub ReadOf : Result BlockCode choice.Refusal → (levels before : List ℕ) → Result ℕ Refusal → List ℕ → Type 0
ReadOf (Ok code) levels before answer after = ReadAs code levels before answer after
ReadOf (Err refusal) levels before answer after = (answer ≡ Err (Coding refusal)) × (after ≡ before)

abbrev pub ReadWanted : Wanted → (levels before : List ℕ) → Result ℕ Refusal → List ℕ → Type 0
ReadWanted wanted levels before answer after = (choice : Result BlockCode choice.Refusal) × Chosen wanted.alphabet wanted.code wanted.q wanted.n choice × ReadOf choice levels before answer after
