-- How far the words that floors allow are from the code words that carry a message. Assumes nothing.
use Rattle.std.proofs.Common.{◌≡◌, ℕ, suc, ◌≤◌, true, List, [], ◌∷◌, map, length, sym, ◌∙◌, ⊎_elim, arith}
use Rattle.std.proofs.lemmas.Bool.{cases_lt}
use Rattle.code.specs.Words.{BlockCode, Word, Symbols, Message, Carries, differences}
use Rattle.code.specs.Laws.{CodeLaws}
use Rattle.masking.specs.Floors.{Allowed, AtLeast, FewLost, Fewest, unmet, raised, total}
use Rattle.masking.proofs.Unmet.{missed, unmet_differ, length_raised, get_or_raised}
use Rattle.masking.proofs.Counting.{over, over_add, over_none, over_missed, pigeon}
use Rattle.masking.proofs.SymbolSums.{cancelled}
use Rattle.masking.proofs.Carriers.{some_symbol, carrier, one_carrier, shift_carries}

module _ (code : BlockCode) (laws : CodeLaws code) where
  -- an allowed word differs from a carrier at least in the cells that the carrier leaves unmet
  pub unmet_at_least : (floors word carrier message : List ℕ) → Allowed code floors word → Carries code carrier message → unmet floors carrier ≤ differences word carrier
  unmet_at_least floors word carrier message allowed c =
      unmet_differ floors word carrier (allowed.fit.whole ∙ sym (laws.words carrier c.held).whole) (λ i l. allowed.floored i (omega (arith, allowed.fit.whole)))

  pub fewest_at_least : (floors message : List ℕ) (mask count : ℕ) (word : List ℕ) → Fewest code floors message mask count word → AtLeast code floors message count
  fewest_at_least floors message mask count word few other carrier allowed c =
      omega (arith, few.fewest carrier c, unmet_at_least floors other carrier message allowed c)

  -- a code word raised to floors that are levels is allowed
  pub raised_allowed : (floors word : List ℕ) → Word code floors → code.holds word ≡ true → Allowed code floors (raised floors word)
  raised_allowed floors word levels held =
      let fit = laws.words word held in
      let whole : length word ≡ code.cells = fit.whole in
      let long : length (raised floors word) ≡ length word = length_raised floors word in
      record {
        fit = record {
          whole = long ∙ whole;
          symbols = λ i l. omega (arith, get_or_raised floors word i (omega arith), levels.symbols i (omega (arith, levels.whole)), fit.symbols i (omega arith));
        };
        floored = λ i l. omega (arith, get_or_raised floors word i (omega arith));
      }

  -- there is one fewest at most
  pub one_fewest : (floors message : List ℕ) (y z a b : ℕ) (v w : List ℕ) → Fewest code floors message y a v → Fewest code floors message z b w → v ≡ w
  one_fewest floors message y z a b v w fv fw =
      let same : a ≡ b = omega (arith, fv.fewest w fw.carrying, fw.fewest v fv.carrying, fv.counted, fw.counted) in
      one_carrier code laws v w message fv.carrying fw.carrying
      (fv.masked
      ∙ ⊎_elim
      (λ less. absurd (omega (arith, same, fv.counted, fw.lowest v fv.carrying (omega (arith, fv.masked)))))
      (λ more. ⊎_elim (λ less. absurd (omega (arith, same, fw.counted, fv.lowest w fw.carrying (omega (arith, fw.masked))))) (λ less. omega arith) (cases_lt z y))
      (cases_lt y z)
      ∙ sym fw.masked)

  -- the shifts of a word leave, all together, no more cells unmet than the floors come to
  over_unmet : (floors word : List ℕ) → Symbols code word → over code.arithmetic.size (λ z. unmet floors (map (λ x. code.arithmetic.sum x z) word)) ≤ total floors
  over_unmet [] word symbols = omega (arith, over_none code.arithmetic.size)
  over_unmet (s ∷ ss) [] symbols = omega (arith, over_none code.arithmetic.size)
  over_unmet (s ∷ ss) (w ∷ ws) symbols =
      let q : ℕ = code.arithmetic.size in
      let f : ℕ → ℕ = λ z. code.arithmetic.sum w z in
      let here : over q (λ z. missed (f z) s) ≤ s = over_missed q s f (λ y z k l e. cancelled code.arithmetic laws.arithmetic w y z (symbols 0 (omega arith)) k l e) in
      let more = over_unmet ss ws (λ i l. symbols (suc i) (omega arith)) in
      omega (arith, here, more, over_add q (λ z. missed (f z) s) (λ z. unmet ss (map (λ x. code.arithmetic.sum x z) ws)))

  -- so one of the carriers leaves few
  pub near_carrier : (floors message : List ℕ) (allowance : ℕ) → Message code message → FewLost code floors allowance → (w : List ℕ) × Carries code w message × (unmet floors w ≤ allowance)
  near_carrier floors message allowance symbols small =
      let base = carrier code laws message 0 symbols (some_symbol code laws) in
      let p = pigeon code.arithmetic.size allowance (total floors) (λ z. unmet floors (map (λ x. code.arithmetic.sum x z) base.0)) (some_symbol code laws)
      (over_unmet floors base.0 (laws.words base.0 base.1.held).symbols) small in
      (map (λ x. code.arithmetic.sum x p.0) base.0, shift_carries code laws base.0 message p.0 symbols base.1 p.1, p.2)
