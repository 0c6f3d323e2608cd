-- The code word that writing chooses: the completed message shifted by the mask that was found. Assumes nothing.
use Rattle.std.proofs.Common.{◌≡◌, ℕ, suc, ◌<◌, ◌≤◌, true, List, [], ◌∷◌, map, sym, refl, ap, ◌∙◌, subst, ap₂, arith}
use Rattle.alphabet.specs.Arithmetic.{Arithmetic}
use Rattle.code.specs.Words.{BlockCode, Message, Carries, symbols_at, first, rest, mask_of}
use Rattle.code.specs.Laws.{CodeLaws}
use Rattle.code.specs.Cells.{Below, at_split}
use Rattle.masking.specs.Floors.{Fewest, raised}
use Rattle.masking.specs.Shifts.{shift, FewestBelow}
use Rattle.masking.specs.Writing.{Writes}
use Rattle.masking.proofs.SymbolSums.{zero_sum}
use Rattle.masking.proofs.Carriers.{some_information}
use Rattle.masking.proofs.Shifts.{fewest_shift}

-- a map that leaves symbols alone
map_unchanged : (q : ℕ) (f : ℕ → ℕ) → ((x : ℕ) → x < q → f x ≡ x) → (xs : List ℕ) → Below q xs → map f xs ≡ xs
map_unchanged q f same [] low = refl
map_unchanged q f same (x ∷ xs) low = ap₂ (λ a b. a ∷ b) (same x (low 0 (omega arith))) (map_unchanged q f same xs (λ i h. low (suc i) (omega arith)))

module _ (code : BlockCode) (laws : CodeLaws code) (message base : List ℕ) (symbols : Message code message) (held : code.holds base ≡ true) (information : symbols_at base code.information ≡ 0 ∷ message) where
  split : mask_of code base ∷ symbols_at base (rest code.information) ≡ 0 ∷ message
  split = sym (at_split base code.information (some_information code laws)) ∙ information

  base_plain : mask_of code base ≡ 0
  base_plain = ap first split

  -- the completed word carries the message, with 0 in its first information cell
  base_carries : Carries code base message
  base_carries = record {
    held = held;
    carried =
        ap rest split
        ∙ sym (map_unchanged code.arithmetic.size (code.arithmetic.sum 0) (zero_sum code.arithmetic laws.arithmetic) message symbols.symbols)
        ∙ ap (λ (u : ℕ). map (code.arithmetic.sum u) message) (sym base_plain);
  }

  module _ (m : Arithmetic) (agrees : m ≡ code.arithmetic) (floors : List ℕ) where
    pub chosen : (mask forced : ℕ) → FewestBelow m floors base m.size mask forced → Fewest code floors message mask forced (shift code.arithmetic mask base)
    chosen mask forced few = fewest_shift code laws base message symbols base_carries base_plain floors mask forced (subst (λ (k : Arithmetic). FewestBelow k floors base k.size mask forced) agrees few)

    pub writes : (allowance mask forced : ℕ) (word : List ℕ) → FewestBelow m floors base m.size mask forced → forced ≤ allowance → word ≡ raised floors (shift m mask base) → Writes code floors allowance message mask forced word
    writes allowance mask forced word few small is = record {
      carrier = shift code.arithmetic mask base;
      fewest = chosen mask forced few;
      within = small;
      written = is ∙ ap (λ (k : Arithmetic). raised floors (shift k mask base)) agrees;
    }
