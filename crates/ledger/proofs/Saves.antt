-- What a save answers and writes, after any run. Assumes nothing.
use Rattle.std.proofs.Common.{◌≡◌, ℕ, ◌+◌, ◌<◌, ◌≤◌, List, sym, refl, subst, arith}
use Rattle.code.specs.Words.{Message}
use Rattle.code.specs.Laws.{CodeLaws}
use Rattle.masking.specs.Floors.{AtLeast, FewLost, Fewest}
use Rattle.masking.specs.Writing.{Nearest, Writes}
use Rattle.masking.proofs.Nearness.{fewest_at_least, near_carrier}
use Rattle.masking.proofs.Masks.{nearest}
use Rattle.ledger.specs.Ledger.{Made, Page, page_of, save, stored, refused, Step, save_no_page, save_wrong_length, save_no_symbol, save_no_mask, saved}
use Rattle.ledger.proofs.Shapes.{Kept, set_page}

module _ (made : Made) (laws : CodeLaws made.code) where
  -- a message for a page that there is is refused for want of a mask only
  only_for_want_of_a_mask : (l : List Page) (p : ℕ) (m : List ℕ) (n a b : ℕ) (l' : List Page) (P : Type 0) → p < made.pages → Message made.code m → Step made l (save p m) (refused n a b) l'
      → ((mask fewest : ℕ) (carrier : List ℕ) → Fewest made.code (page_of made l p).floors m mask fewest carrier → made.allowance < fewest → P) → P
  only_for_want_of_a_mask l p m n a b l' P low message (save_no_page _ _ _ high) k = absurd (omega arith)
  only_for_want_of_a_mask l p m n a b l' P low message (save_wrong_length _ _ _ _ wrong) k = absurd (wrong message.whole)
  only_for_want_of_a_mask l p m n a b l' P low message (save_no_symbol _ _ _ i _ _ first) k = absurd (omega (arith, first.bad, message.symbols i first.within))
  only_for_want_of_a_mask l p m n a b l' P low message (save_no_mask _ _ _ mask fewest carrier _ _ few large) k = k mask fewest carrier few large

  pub refused_only_if_too_far : (l : List Page) (p : ℕ) (m : List ℕ) (n a b : ℕ) (l' : List Page) → p < made.pages → Message made.code m → Step made l (save p m) (refused n a b) l'
      → AtLeast made.code (page_of made l p).floors m (made.allowance + 1)
  refused_only_if_too_far l p m n a b l' low message step =
      only_for_want_of_a_mask l p m n a b l' (AtLeast made.code (page_of made l p).floors m (made.allowance + 1)) low message step
      (λ mask fewest carrier few large word other allowed carries. omega (arith, large, fewest_at_least made.code laws (page_of made l p).floors m mask fewest carrier few word other allowed carries))

  pub refused_with_fewest : (l : List Page) (p : ℕ) (m : List ℕ) (n a b : ℕ) (l' : List Page) → p < made.pages → Message made.code m → Step made l (save p m) (refused n a b) l'
      → (mask : ℕ) × (carrier : List ℕ) × Fewest made.code (page_of made l p).floors m mask b carrier × (refused n a b ≡ refused 9 2 b)
  refused_with_fewest l p m n a b l' low message (save_no_page _ _ _ high) = absurd (omega arith)
  refused_with_fewest l p m n a b l' low message (save_wrong_length _ _ _ _ wrong) = absurd (wrong message.whole)
  refused_with_fewest l p m n a b l' low message (save_no_symbol _ _ _ i _ _ first) = absurd (omega (arith, first.bad, message.symbols i first.within))
  refused_with_fewest l p m n a b l' low message (save_no_mask _ _ _ mask fewest carrier _ _ few large) = (mask, carrier, few, refl)

  pub writes_with_lowest_mask : (l : List Page) (p : ℕ) (m : List ℕ) (mask forced : ℕ) (l' : List Page) → Kept made l → Step made l (save p m) (stored mask forced) l'
      → Writes made.code (page_of made l p).floors made.allowance m mask forced (page_of made l' p).levels
  writes_with_lowest_mask l p m mask forced l' kept (saved _ _ _ _ _ word low _ w) =
      subst (λ x. Writes made.code (page_of made l p).floors made.allowance m mask forced x.levels) (sym (set_page made laws l p _ kept low)) w

  pub never_refused_with_few_lost : (l : List Page) (p : ℕ) (m : List ℕ) (n a b : ℕ) (l' : List Page) → p < made.pages → Message made.code m
      → FewLost made.code (page_of made l p).floors made.allowance → Step made l (save p m) (refused n a b) l' → ⊥
  never_refused_with_few_lost l p m n a b l' low message small step =
      only_for_want_of_a_mask l p m n a b l' ⊥ low message step
      (λ mask fewest carrier few large. let w = near_carrier made.code laws (page_of made l p).floors m made.allowance message small in omega (arith, large, few.fewest w.0 w.1, w.2))

  pub forced_least : (l : List Page) (p : ℕ) (m : List ℕ) (mask forced : ℕ) (l' : List Page) → Kept made l → Step made l (save p m) (stored mask forced) l'
      → Nearest made.code (page_of made l p).floors m mask forced (page_of made l' p).levels
  forced_least l p m mask forced l' kept (saved _ _ _ _ _ word low _ w) =
      subst (λ x. Nearest made.code (page_of made l p).floors m mask forced x.levels) (sym (set_page made laws l p _ kept low))
      (nearest made.code laws (page_of made l p).floors made.allowance m mask forced word (kept.sound p).floors_fit w)

  pub forced_within_allowance : (l : List Page) (p : ℕ) (m : List ℕ) (mask forced : ℕ) (l' : List Page) → Step made l (save p m) (stored mask forced) l' → forced ≤ made.allowance
  forced_within_allowance l p m mask forced l' (saved _ _ _ _ _ word low _ w) = w.within

  pub granted_only_if_near : (l : List Page) (p : ℕ) (m : List ℕ) (mask forced : ℕ) (l' : List Page) → Kept made l → Step made l (save p m) (stored mask forced) l'
      → AtLeast made.code (page_of made l p).floors m (made.allowance + 1) → ⊥
  granted_only_if_near l p m mask forced l' kept step far =
      let n = forced_least l p m mask forced l' kept step in
      omega (arith, far (page_of made l' p).levels n.carrier n.allowed n.carrying, n.distance, forced_within_allowance l p m mask forced l' step)
