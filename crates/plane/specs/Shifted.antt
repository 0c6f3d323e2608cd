-- A word of the plane with one symbol added to all its cells is a word. Assumes nothing.
use Rattle.std.specs.Prelude.{◌≡◌, ℕ, ◌<◌, List, map, length, slice_index}
use Rattle.std.proofs.Common.{sym, ap, ◌∙◌, subst, arith}
use Rattle.std.proofs.lemmas.List.{length-map, get_or-map}
use Rattle.sums.proofs.AllSymbols.{Finite}
use Rattle.sums.proofs.Weighed.{weighed_same, weighed_shifted}
use Rattle.sums.proofs.Lists.{level}
use Rattle.plane.specs.Weights.{weight, weights}
use Rattle.plane.specs.CodeWords.{CodeWord}

module _ (F : Finite) where
  infixl 65 ◌⊕◌
  open F use {ring, size, symbol}
  open F.ring use {Symbol, ◌⊕◌}

  -- h adds z to a symbol
  pub word_shifted : (w : List ℕ) (z : Symbol) (h : ℕ → ℕ) → ((x : ℕ) → x < size → h x < size) → ((x : ℕ) → x < size → symbol (h x) ≡ symbol x ⊕ z) → CodeWord F w → CodeWord F (map h w)
  word_shifted w z h stays adds word = record {
    whole = length-map w h ∙ word.whole;
    below = λ i l.
        let inside : i < length w = omega (arith, length-map w h) in
        subst (λ (x : ℕ). x < size) (sym (get_or-map h w i 0 0 inside)) (stays (slice_index w i) (word.below i inside));
    sums = λ c.
        weighed_same ring _ (weight F c) (level F (map h w)) (λ i. level F w i ⊕ z) (λ i l.
        let inside : i < length w = omega (arith, word.whole) in
        ap symbol (get_or-map h w i 0 0 inside) ∙ adds (slice_index w i) (word.below i inside))
        ∙ weighed_shifted ring _ (weight F c) (weights F c) (level F w) z ∙ word.sums c;
  }
