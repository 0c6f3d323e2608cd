-- What a page takes or refuses, by tests that antt computes. Assumes nothing.
use Rattle.std.proofs.Common.{◌≡◌, ℕ, Bool, true, false, ◌&&◌, ◌||◌, eqb, ltb, leb, List, ◌∷◌, length, refl, lt_trans, arith}
use Rattle.std.proofs.lemmas.Bool.{and_parts, leb-true, ltb-true, eqb-true, lt-leb}
use Rattle.alphabet.specs.Arithmetic.{Arithmetic}
use Rattle.alphabet.specs.Every.{every, at}
use Rattle.code.specs.Words.{BlockCode, Filled, Message, symbols_at, rest}
use Rattle.code.specs.Laws.{CodeLaws}
use Rattle.code.specs.Bare.{all_below}
use Rattle.code.specs.Cells.{below_each}
use Rattle.masking.specs.Floors.{unmet, raised}
use Rattle.masking.specs.Shifts.{shift, FewestBelow}
use Rattle.masking.specs.Writing.{Page}
use Rattle.masking.proofs.Choosing.{chosen, writes}
use Rattle.worked.specs.Examples.{Takes, Refuses}

-- so many numbers, each below the size
pub filled : (cells size : ℕ) (word : List ℕ) → eqb (length word) cells ≡ true → all_below size word ≡ true → Filled cells size word
filled cells size word long low = record { whole = eqb-true (length word) cells long; symbols = below_each size word low }

-- a mask leaves no fewer cells unmet than were found, and a lower mask more
abbrev pub no_better : Arithmetic → (floors base : List ℕ) (mask fewest : ℕ) → ℕ → Bool
no_better m floors base mask fewest y = leb fewest (unmet floors (shift m y base)) && (leb mask y || ltb fewest (unmet floors (shift m y base)))

or_right : (a b : Bool) → a ≡ false → (a || b) ≡ true → b ≡ true
or_right true b e h = absurd (let z : ◌≡◌ {A = ℕ} 0 1 = cc in omega arith)
or_right false b e h = h

module _ (code : BlockCode) (laws : CodeLaws code) (floors : List ℕ) (allowance : ℕ) (message base : List ℕ)
    (small : leb allowance code.radius ≡ true) (floors_long : eqb (length floors) code.cells ≡ true) (floors_low : all_below code.arithmetic.size floors ≡ true)
    (message_long : eqb (length message) (length (rest code.information)) ≡ true) (message_low : all_below code.arithmetic.size message ≡ true)
    (held : code.holds base ≡ true) (information : symbols_at base code.information ≡ 0 ∷ message) where
  page : Page code floors allowance code.cells
  page = record { allowed = leb-true allowance code.radius small; levels = filled code.cells code.arithmetic.size floors floors_long floors_low; whole = refl }

  symbols : Message code message
  symbols = record { whole = eqb-true (length message) (length (rest code.information)) message_long; symbols = below_each code.arithmetic.size message message_low }

  fewest_below : (mask fewest : ℕ) → ltb mask code.arithmetic.size ≡ true → fewest ≡ unmet floors (shift code.arithmetic mask base)
      → every code.arithmetic.size (no_better code.arithmetic floors base mask fewest) ≡ true → FewestBelow code.arithmetic floors base code.arithmetic.size mask fewest
  fewest_below mask fewest low counted best =
      let test = at code.arithmetic.size (no_better code.arithmetic floors base mask fewest) best in
      record {
        below = ltb-true mask code.arithmetic.size low;
        counted = counted;
        fewest = λ y h. leb-true fewest (unmet floors (shift code.arithmetic y base)) (and_parts _ _ (test y h)).0;
        lowest = λ y h.
            ltb-true fewest (unmet floors (shift code.arithmetic y base))
            (or_right (leb mask y) (ltb fewest (unmet floors (shift code.arithmetic y base))) (lt-leb mask y h) (and_parts _ _ (test y (lt_trans h (ltb-true mask code.arithmetic.size low)))).1);
      }

  pub takes : (mask forced : ℕ) (word : List ℕ) → ltb mask code.arithmetic.size ≡ true → forced ≡ unmet floors (shift code.arithmetic mask base)
      → every code.arithmetic.size (no_better code.arithmetic floors base mask forced) ≡ true → leb forced allowance ≡ true → word ≡ raised floors (shift code.arithmetic mask base)
      → Takes code floors allowance message mask forced word
  takes mask forced word low counted best within written = record {
    page = page;
    symbols = symbols;
    writes = writes code laws message base symbols held information code.arithmetic refl floors allowance mask forced word (fewest_below mask forced low counted best) (leb-true forced allowance within) written;
  }

  pub refuses : (mask fewest : ℕ) → ltb mask code.arithmetic.size ≡ true → fewest ≡ unmet floors (shift code.arithmetic mask base)
      → every code.arithmetic.size (no_better code.arithmetic floors base mask fewest) ≡ true → ltb allowance fewest ≡ true → Refuses code floors allowance message fewest
  refuses mask fewest low counted best above =
      (page, symbols, (mask, _, chosen code laws message base symbols held information code.arithmetic refl floors mask fewest (fewest_below mask fewest low counted best)), ltb-true allowance fewest above)
