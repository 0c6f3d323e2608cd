-- The information cells that a code names one by one. Assumes nothing.
use Rattle.std.proofs.Common.{◌≡◌, ℕ, zero, suc, ◌+◌, ◌-◌, ◌%◌, ◌<◌, ◌≤◌, true, ◌≢◌, List, [], ◌∷◌, length, get_or, set, Some, None, sym, refl, ap, ◌∙◌, subst, add-one, arith, get_or-set_other, get_or-set_same, below_more}
use Rattle.std.proofs.lemmas.List.{ext_get_or, get_or-map}
use Rattle.alphabet.specs.Arithmetic.{Arithmetic}
use Rattle.code.specs.Words.{BlockCode, Message, Carries, symbols_at, first, rest, mask_of}
use Rattle.code.specs.Laws.{Ascending, CodeLaws}
use Rattle.code.specs.Calls.{item}
use Rattle.code.specs.Cells.{item_found, item_missing, length_at, slice_index_at, length_rest}
use Rattle.masking.proofs.SymbolSums.{sum_is, negative_is}
use Rattle.masking.proofs.Carriers.{some_information, word_low, mask_low, message_in, message_in_symbols, message_in_carried}

pub get_or_rest : (is : List ℕ) (k : ℕ) → get_or is (k + 1) 0 ≡ get_or (rest is) k 0
get_or_rest [] k = refl
get_or_rest (i ∷ is) k = ap (λ (n : ℕ). get_or (i ∷ is) n 0) (add-one k)

pub get_or_first : (is : List ℕ) → get_or is 0 0 ≡ first is
get_or_first [] = refl
get_or_first (i ∷ is) = refl

module _ (code : BlockCode) (laws : CodeLaws code) where
  pub cell_within : (i cell : ℕ) → Some cell ≡ item code.information i → cell < code.cells
  cell_within i cell e =
      let f = item_found code.information i cell e in
      subst (λ (k : ℕ). k < code.cells) (sym f.1) (laws.information_within i f.0)

  -- the cell of each of a message's symbols is there
  pub rest_there : (i : ℕ) → i < length (rest code.information) → None ≡ item code.information (i + 1) → ⊥
  rest_there i h e = omega (arith, item_missing code.information (i + 1) e, length_rest code.information (some_information code laws))

  pub rest_cell : (i cell : ℕ) → Some cell ≡ item code.information (i + 1) → cell ≡ get_or (rest code.information) i 0
  rest_cell i cell e = (item_found code.information (i + 1) cell e).1 ∙ get_or_rest code.information i

  -- what a message's symbol k is to be
  abbrev pub less_mask : (word : List ℕ) (k : ℕ) → ℕ
  less_mask word k = code.arithmetic.sum (get_or word (get_or (rest code.information) k 0) 0) (code.arithmetic.negative (mask_of code word))

  -- one more symbol of a message
  pub unmasked_more : (m : Arithmetic) (word message : List ℕ) (i cell mask down r : ℕ) → m ≡ code.arithmetic → code.holds word ≡ true → i < length message
      → ((k : ℕ) → k < i → get_or message k 0 ≡ less_mask word k)
      → Some cell ≡ item code.information (i + 1) → mask ≡ mask_of code word → down ≡ m.negative (mask % m.size) → r ≡ m.sum (get_or word cell 0 % m.size) (down % m.size)
      → (k : ℕ) → k < i + 1 → get_or (set message i r) k 0 ≡ less_mask word k
  unmasked_more m word message i cell mask down r agrees held inside before named first less is =
      let low : mask_of code word < code.arithmetic.size = mask_low code laws word held in
      let down_is : down ≡ code.arithmetic.negative (mask_of code word) = negative_is m code.arithmetic (mask_of code word) down agrees low (less ∙ ap (λ (x : ℕ). m.negative (x % m.size)) first) in
      let here : r ≡ less_mask word i =
      sum_is m code.arithmetic (get_or word (get_or (rest code.information) i 0) 0) (code.arithmetic.negative (mask_of code word)) r agrees (word_low code laws word held _) (laws.arithmetic.negative_below _ low)
      (is ∙ ap (λ (x : ℕ). m.sum (get_or word x 0 % m.size) (down % m.size)) (rest_cell i cell named) ∙ ap (λ (x : ℕ). m.sum (get_or word (get_or (rest code.information) i 0) 0 % m.size) (x % m.size)) down_is) in
      below_more _ _
      (λ k h. let ne : k ≢ i = omega arith in rw get_or-set_other (before k h))
      (rw get_or-set_same here)

  -- the other information cells of a code word, less its mask, are the message that it carries
  pub unmasked : (word message : List ℕ) → code.holds word ≡ true → length message ≡ length (rest code.information)
      → ((k : ℕ) → k < length message → get_or message k 0 ≡ less_mask word k)
      → Message code message × Carries code word message
  unmasked word message held whole each =
      let u : ℕ = code.arithmetic.negative (mask_of code word) in
      let low : u < code.arithmetic.size = laws.arithmetic.negative_below (mask_of code word) (mask_low code laws word held) in
      let is : List ℕ = rest code.information in
      let same : message ≡ message_in code laws word =
      ext_get_or 0 message (message_in code laws word) (whole ∙ sym (message_in_symbols code laws word held).whole) (λ k h.
      let inside : k < length is = omega (arith, whole) in
      each k h
      ∙ laws.arithmetic.sum_comm (get_or word (get_or is k 0) 0) u (word_low code laws word held (get_or is k 0)) low
      ∙ ap (code.arithmetic.sum u) (sym (slice_index_at word is k inside))
      ∙ sym (get_or-map (code.arithmetic.sum u) (symbols_at word is) k 0 0 (omega (arith, length_at word is)))) in
      (subst (Message code) (sym same) (message_in_symbols code laws word held), subst (Carries code word) (sym same) (message_in_carried code laws word held))

-- the numbers of an ascending list are at least their places
ascends_past : (xs : List ℕ) → Ascending xs → (i : ℕ) → i < length xs → i ≤ get_or xs i 0
ascends_past xs up zero h = omega arith
ascends_past xs up (suc i) h = omega (arith, ascends_past xs up i (omega arith), up i (suc i) (omega arith) h)

-- there are no more information cells than cells
pub information_few : (code : BlockCode) → CodeLaws code → length code.information ≤ code.cells
information_few code laws =
    let last : ℕ = length code.information - 1 in
    let inside : last < length code.information = omega (arith, laws.information_two) in
    omega (arith, ascends_past code.information laws.information_ascends last inside, laws.information_within last inside)
