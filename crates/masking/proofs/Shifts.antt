-- The code words that carry a message are the shifts of the one whose mask is 0, so the fewest unmet cells are found among those. Assumes nothing.
use Rattle.std.proofs.Common.{◌≡◌, ℕ, suc, ◌+◌, ◌-◌, ◌%◌, ◌<◌, ◌≤◌, max, Bool, cond, nat_lt, List, [], ◌∷◌, length, get_or, count_by, sym, refl, ap, ◌∙◌, subst, ap₂, mod-eq_of_lt, arith}
use Rattle.std.specs.List.{zip}
use Rattle.std.proofs.lemmas.List.{length-map, get_or-map, ext_get_or}
use Rattle.std.proofs.lemmas.List.Sums.{sum_by-cons}
use Rattle.alphabet.specs.Arithmetic.{Arithmetic}
use Rattle.code.specs.Words.{BlockCode, Message, Carries, mask_of}
use Rattle.code.specs.Laws.{CodeLaws}
use Rattle.masking.specs.Floors.{Fewest, unmet, raised}
use Rattle.masking.specs.Shifts.{shift, FewestBelow}
use Rattle.masking.proofs.Counting.{least_of}
use Rattle.masking.proofs.SymbolSums.{zero_sum, sum_is}
use Rattle.masking.proofs.Unmet.{length_raised, get_or_raised}
use Rattle.masking.proofs.Carriers.{some_symbol, mask_low, carrier, one_carrier, mask_shift, shift_carries}

module _ (code : BlockCode) (laws : CodeLaws code) (base message : List ℕ) (symbols : Message code message) (carrying : Carries code base message) (plain : mask_of code base ≡ 0) where
  -- a shift's mask is the symbol added
  pub mask_of_shift : (z : ℕ) → z < code.arithmetic.size → mask_of code (shift code.arithmetic z base) ≡ z
  mask_of_shift z low = mask_shift code laws base z carrying.held ∙ ap (λ (u : ℕ). code.arithmetic.sum u z) plain ∙ zero_sum code.arithmetic laws.arithmetic z low

  every_carrier : (other : List ℕ) → Carries code other message → other ≡ shift code.arithmetic (mask_of code other) base
  every_carrier other c =
      let low : mask_of code other < code.arithmetic.size = mask_low code laws other c.held in
      one_carrier code laws other (shift code.arithmetic (mask_of code other) base) message c (shift_carries code laws base message (mask_of code other) symbols carrying low) (sym (mask_of_shift (mask_of code other) low))

  pub fewest_shift : (floors : List ℕ) (z count : ℕ) → FewestBelow code.arithmetic floors base code.arithmetic.size z count → Fewest code floors message z count (shift code.arithmetic z base)
  fewest_shift floors z count few = record {
    carrying = shift_carries code laws base message z symbols carrying few.below;
    masked = mask_of_shift z few.below;
    counted = sym few.counted;
    fewest = λ other c.
        subst (λ (w : List ℕ). count ≤ unmet floors w) (sym (every_carrier other c)) (few.fewest (mask_of code other) (mask_low code laws other c.held));
    lowest = λ other c less. subst (λ (w : List ℕ). count < unmet floors w) (sym (every_carrier other c)) (few.lowest (mask_of code other) less);
  }

module _ (code : BlockCode) (laws : CodeLaws code) where
  pub some_fewest : (floors message : List ℕ) → Message code message → (mask : ℕ) × (count : ℕ) × (carrier : List ℕ) × Fewest code floors message mask count carrier
  some_fewest floors message symbols =
      let base = carrier code laws message 0 symbols (some_symbol code laws) in
      let u : ℕ → ℕ = λ z. unmet floors (shift code.arithmetic z base.0) in
      let all : suc (code.arithmetic.size - 1) ≡ code.arithmetic.size = omega (arith, some_symbol code laws) in
      let l = least_of (code.arithmetic.size - 1) u in (
        l.place,
        u l.place,
        shift code.arithmetic l.place base.0,
        fewest_shift code laws base.0 message symbols base.1 base.2 floors l.place (u l.place) (record {
          below = omega (arith, l.below);
          counted = refl;
          fewest = λ y h. l.least y (omega arith);
          lowest = l.lowest;
        }),
      )

-- a cell of a shifted word is what the alphabet answers for it
pub shifted_cell : (m : Arithmetic) (word : List ℕ) (mask i r : ℕ) → i < length word → get_or word i 0 < m.size → mask < m.size → r ≡ m.sum (get_or word i 0 % m.size) (mask % m.size) → get_or (shift m mask word) i 0 ≡ r
shifted_cell m word mask i r inside low small is = get_or-map (λ x. m.sum x mask) word i 0 0 inside ∙ sym (sum_is m m (get_or word i 0) mask r refl low small is)

-- whether a symbol is below the floor beside it once the mask is added, by what the alphabet answers
abbrev pub is_unmet : (m : Arithmetic) (mask : ℕ) → ℕ × ℕ → Bool
is_unmet m mask p = nat_lt (m.sum (p.0 % m.size) (mask % m.size)) p.1

-- such symbols, counted
pub counted_pairs : (m : Arithmetic) (mask : ℕ) → mask < m.size → (floors word : List ℕ) → ((i : ℕ) → i < length word → get_or word i 0 < m.size) → count_by (is_unmet m mask) (zip word floors) ≡ unmet floors (shift m mask word)
counted_pairs m mask small [] [] low = refl
counted_pairs m mask small [] (x ∷ xs) low = refl
counted_pairs m mask small (s ∷ ss) [] low = refl
counted_pairs m mask small (s ∷ ss) (x ∷ xs) low =
    sum_by-cons (λ p. cond (is_unmet m mask p) 1 0) (x, s) (zip xs ss)
    ∙ ap₂ (λ (a b : ℕ). a + b)
    (ap₂ (λ a b. cond (nat_lt (m.sum a b) s) 1 0) (mod-eq_of_lt (low 0 (omega arith))) (mod-eq_of_lt small))
    (counted_pairs m mask small ss xs (λ i h. low (suc i) (omega arith)))

-- what the cells of a raised word hold, once they are all done
pub raised_all : (m : Arithmetic) (floors base word : List ℕ) (mask : ℕ) → length base ≡ length floors → length word ≡ length floors
    → ((k : ℕ) → k < length word → get_or word k 0 ≡ max (get_or floors k 0) (get_or (shift m mask base) k 0)) → word ≡ raised floors (shift m mask base)
raised_all m floors base word mask long room each =
    let whole : length (shift m mask base) ≡ length base = length-map base (λ x. m.sum x mask) in
    let same : length word ≡ length (raised floors (shift m mask base)) = omega (arith, length_raised floors (shift m mask base)) in
    ext_get_or 0 word (raised floors (shift m mask base)) same (λ k h. each k h ∙ sym (get_or_raised floors (shift m mask base) k (omega arith)))
