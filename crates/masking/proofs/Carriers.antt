-- The code words that carry a message: one for each mask, shifts of one another; and the message of a code word. Assumes nothing.
use Rattle.std.proofs.Common.{◌≡◌, ℕ, zero, suc, ◌<◌, ◌≤◌, true, List, ◌∷◌, map, length, get_or, sym, ap, ◌∙◌, ap₂, arith}
use Rattle.std.proofs.lemmas.List.{length-map, get_or-map, map-id}
use Rattle.code.specs.Words.{BlockCode, Symbols, Message, Carries, symbols_at, first, rest, mask_of}
use Rattle.code.specs.Laws.{CodeLaws}
use Rattle.code.specs.Cells.{below_anywhere, length_at, at_below, at_map, at_split, length_rest, first_within, rest_within}
use Rattle.masking.proofs.SymbolSums.{zero_below, redone, cancelled, moved, map_once, map_after}

module _ (code : BlockCode) (laws : CodeLaws code) where
  pub some_symbol : 0 < code.arithmetic.size
  some_symbol = zero_below code.arithmetic laws.arithmetic

  pub some_information : 1 ≤ length code.information
  some_information = omega (arith, laws.information_two)

  pub word_low : (w : List ℕ) → code.holds w ≡ true → (i : ℕ) → get_or w i 0 < code.arithmetic.size
  word_low w held = below_anywhere code.arithmetic.size w some_symbol (laws.words w held).symbols

  pub mask_low : (w : List ℕ) → code.holds w ≡ true → mask_of code w < code.arithmetic.size
  mask_low w held = word_low w held (first code.information)

  -- two code words that carry one message under one mask are one word
  pub one_carrier : (v w m : List ℕ) → Carries code v m → Carries code w m → mask_of code v ≡ mask_of code w → v ≡ w
  one_carrier v w m cv cw e =
      laws.filled_once v w cv.held cw.held
      (at_split v code.information some_information
      ∙ ap₂ (λ a b. a ∷ b) e (cv.carried ∙ ap (λ u. map (code.arithmetic.sum u) m) e ∙ sym cw.carried)
      ∙ sym (at_split w code.information some_information))

  -- a code word carries one message only
  pub one_message : (w m n : List ℕ) → Message code m → Message code n → Carries code w m → Carries code w n → m ≡ n
  one_message w m n km kn cm cn =
      map_once code.arithmetic.size (code.arithmetic.sum (mask_of code w))
      (λ x y k l e. cancelled code.arithmetic laws.arithmetic (mask_of code w) x y (mask_low w cm.held) k l e)
      m n (km.whole ∙ sym kn.whole) km.symbols kn.symbols (sym cm.carried ∙ cn.carried)

  -- what the information cells hold that carry a message under a mask
  filling_symbols : (z : ℕ) (m : List ℕ) → z < code.arithmetic.size → Symbols code m → (i : ℕ) → i < length (z ∷ map (code.arithmetic.sum z) m) → get_or (z ∷ map (code.arithmetic.sum z) m) i 0 < code.arithmetic.size
  filling_symbols z m low symbols zero l = low
  filling_symbols z m low symbols (suc i) l =
      let k : i < length m = omega (arith, length-map m (code.arithmetic.sum z)) in
      rw (get_or-map (code.arithmetic.sum z) m i 0 0 k) (laws.arithmetic.sum_below z (get_or m i 0) low (symbols i k))

  filled_carries : (w m : List ℕ) (z : ℕ) → code.holds w ≡ true → mask_of code w ∷ symbols_at w (rest code.information) ≡ z ∷ map (code.arithmetic.sum z) m → Carries code w m × (mask_of code w ≡ z)
  filled_carries w m z held s =
      let masked : mask_of code w ≡ z = ap first s in
      (record { held = held; carried = ap rest s ∙ ap (λ u. map (code.arithmetic.sum u) m) (sym masked) }, masked)

  filled_carrier : (m : List ℕ) (z : ℕ) → ((w : List ℕ) × (code.holds w ≡ true) × (symbols_at w code.information ≡ z ∷ map (code.arithmetic.sum z) m)) → (w : List ℕ) × Carries code w m × (mask_of code w ≡ z)
  filled_carrier m z f =
      let c = filled_carries f.0 m z f.1 (sym (at_split f.0 code.information some_information) ∙ f.2) in
      (f.0, c.0, c.1)

  -- each message is carried under each mask
  pub carrier : (m : List ℕ) (z : ℕ) → Message code m → z < code.arithmetic.size → (w : List ℕ) × Carries code w m × (mask_of code w ≡ z)
  carrier m z message low =
      filled_carrier m z (laws.filled (z ∷ map (code.arithmetic.sum z) m)
      (omega (arith, length-map m (code.arithmetic.sum z), message.whole, length_rest code.information some_information))
      (filling_symbols z m low message.symbols))

  -- one symbol added to all cells of a word
  pub mask_shift : (w : List ℕ) (z : ℕ) → code.holds w ≡ true → mask_of code (map (λ x. code.arithmetic.sum x z) w) ≡ code.arithmetic.sum (mask_of code w) z
  mask_shift w z held =
      get_or-map (λ x. code.arithmetic.sum x z) w (first code.information) 0 0
      (omega (arith, first_within code.cells code.information some_information laws.information_within, (laws.words w held).whole))

  pub shift_carries : (w m : List ℕ) (z : ℕ) → Message code m → Carries code w m → z < code.arithmetic.size → Carries code (map (λ x. code.arithmetic.sum x z) w) m
  shift_carries w m z message c low =
      let u : ℕ = mask_of code w in
      record {
        held = laws.shifted w z c.held low;
        carried =
            at_map (λ x. code.arithmetic.sum x z) w (rest code.information) (λ i l. omega (arith, rest_within code.cells code.information laws.information_within i l, (laws.words w c.held).whole))
            ∙ ap (map (λ x. code.arithmetic.sum x z)) c.carried
            ∙ map_after code.arithmetic.size (λ x. code.arithmetic.sum x z) (code.arithmetic.sum u) (code.arithmetic.sum (code.arithmetic.sum u z)) (λ x l. moved code.arithmetic laws.arithmetic u x z (mask_low w c.held) l low) m message.symbols
            ∙ ap (λ v. map (code.arithmetic.sum v) m) (sym (mask_shift w z c.held));
      }

  -- the other information cells of a word, less its mask
  abbrev pub message_in : List ℕ → List ℕ
  message_in w = map (code.arithmetic.sum (code.arithmetic.negative (mask_of code w))) (symbols_at w (rest code.information))

  -- are the message that a code word carries
  pub message_in_symbols : (w : List ℕ) → code.holds w ≡ true → Message code (message_in w)
  message_in_symbols w held =
      let v : ℕ = code.arithmetic.negative (mask_of code w) in
      let low : v < code.arithmetic.size = laws.arithmetic.negative_below (mask_of code w) (mask_low w held) in
      let xs : List ℕ = symbols_at w (rest code.information) in
      let long : length (map (code.arithmetic.sum v) xs) ≡ length xs = length-map xs (code.arithmetic.sum v) in
      record {
        whole = long ∙ length_at w (rest code.information);
        symbols = λ i l.
            let k : i < length xs = omega arith in
            rw (get_or-map (code.arithmetic.sum v) xs i 0 0 k) (laws.arithmetic.sum_below v (get_or xs i 0) low (at_below code.arithmetic.size w (rest code.information) (word_low w held) i k));
      }

  pub message_in_carried : (w : List ℕ) → code.holds w ≡ true → Carries code w (message_in w)
  message_in_carried w held =
      let u : ℕ = mask_of code w in
      let xs : List ℕ = symbols_at w (rest code.information) in
      record {
        held = held;
        carried = sym (map_after code.arithmetic.size (code.arithmetic.sum u) (code.arithmetic.sum (code.arithmetic.negative u)) (λ x. x) (λ x l. redone code.arithmetic laws.arithmetic u x (mask_low w held) l) xs
            (at_below code.arithmetic.size w (rest code.information) (word_low w held)) ∙ map-id xs);
      }
