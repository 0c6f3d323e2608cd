-- A message put into the information cells of a word, one symbol after the other. Assumes nothing.
use Rattle.std.proofs.Common.{◌≡◌, ℕ, ◌+◌, ◌<◌, ◌≤◌, List, ◌∷◌, length, get_or, set, Some, sym, ap, ◌∙◌, arith, below_more}
use Rattle.std.proofs.lemmas.List.{ext_get_or, length-set, get_or-set_same, get_or-set_other}
use Rattle.code.specs.Words.{BlockCode, Word, Message, symbols_at, first, rest}
use Rattle.code.specs.Laws.{CodeLaws}
use Rattle.code.specs.Calls.{item}
use Rattle.code.specs.Cells.{below_set, length_at, slice_index_at, at_split, length_rest}
use Rattle.masking.proofs.Carriers.{some_information}
use Rattle.masking.proofs.Information.{get_or_first, get_or_rest, cell_within, rest_cell}

-- the first i symbols of a message are in place
pub record Placed (code : BlockCode) (message word : List ℕ) (i : ℕ) : Type 0 where
  pub fit : Word code word
  pub plain : get_or word (first code.information) 0 ≡ 0
  pub placed : (k : ℕ) → k < i → get_or word (get_or (rest code.information) k 0) 0 ≡ get_or message k 0

module _ (code : BlockCode) (laws : CodeLaws code) (message : List ℕ) (symbols : Message code message) where
  -- the first information cell is none of the others, and the others are not one another
  first_apart : (k : ℕ) → k < length (rest code.information) → get_or (rest code.information) k 0 ≡ first code.information → ⊥
  first_apart k h e =
      omega (arith, laws.information_ascends 0 (k + 1) (omega arith) (omega (arith, length_rest code.information (some_information code laws))), get_or_first code.information, get_or_rest code.information k)

  others_apart : (j k : ℕ) → j < k → k < length (rest code.information) → get_or (rest code.information) j 0 ≡ get_or (rest code.information) k 0 → ⊥
  others_apart j k less h e =
      omega (arith, laws.information_ascends (j + 1) (k + 1) (omega arith) (omega (arith, length_rest code.information (some_information code laws))), get_or_rest code.information j, get_or_rest code.information k)

  pub one_more_placed : (word : List ℕ) (i cell : ℕ) → i < length message → Some cell ≡ item code.information (i + 1) → Placed code message word i → Placed code message (set word cell (get_or message i 0)) (i + 1)
  one_more_placed word i cell inside named before =
      let x : ℕ = get_or message i 0 in
      let is : cell ≡ get_or (rest code.information) i 0 = rest_cell code laws i cell named in
      let there : cell < length word = omega (arith, cell_within code laws (i + 1) cell named, before.fit.whole) in
      let within : i < length (rest code.information) = omega (arith, symbols.whole) in
      record {
        fit = record { whole = length-set word cell x ∙ before.fit.whole; symbols = below_set code.arithmetic.size word cell x before.fit.symbols (symbols.symbols i inside) };
        plain = get_or-set_other word cell (first code.information) x 0 (λ e. first_apart i within (sym is ∙ sym e)) ∙ before.plain;
        placed = below_more _ _
            (λ k h. get_or-set_other word cell (get_or (rest code.information) k 0) x 0 (λ e. others_apart k i h within (e ∙ is)) ∙ before.placed k h)
            (ap (λ (j : ℕ). get_or (set word cell x) j 0) (sym is) ∙ get_or-set_same word cell x 0 there);
      }

  pub all_placed : (word : List ℕ) (i : ℕ) → length message ≤ i → Placed code message word i → symbols_at word code.information ≡ 0 ∷ message
  all_placed word i last done =
      at_split word code.information (some_information code laws)
      ∙ ap (λ (x : ℕ). x ∷ symbols_at word (rest code.information)) done.plain
      ∙ ap (λ (xs : List ℕ). 0 ∷ xs) (ext_get_or 0 (symbols_at word (rest code.information)) message (length_at word (rest code.information) ∙ sym symbols.whole) (λ k h.
      let inside : k < length (rest code.information) = omega (arith, length_at word (rest code.information)) in
      slice_index_at word (rest code.information) k inside ∙ done.placed k (omega (arith, symbols.whole))))
