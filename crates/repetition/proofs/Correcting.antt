-- What two votes over a word say of the code words near it. Assumes nothing.
use Rattle.std.proofs.Common.{◌≡◌, ℕ, ◌+◌, ◌<◌, ◌≤◌, List, length, get_or, sym, ap, ◌∙◌, subst, take, drop, get_or-take, get_or-drop, inl, inr, arith, lit<}
use Rattle.std.proofs.lemmas.Bool.Decides.{nat_tests}
use Rattle.alphabet.specs.Arithmetic.{Arithmetic}
use Rattle.code.specs.Words.{Filled, Word, differences}
use Rattle.code.specs.Calls.{Corrects, AllFar}
use Rattle.repetition.specs.declared.triples.Majority.{Majority}
use Rattle.repetition.specs.Repetition.{repeated, repetition, against, Elected}
use Rattle.repetition.specs.RepetitionLaws.{these_cells, repeats_from, repeated_holds}

-- a word differs from two symbols repeated where its cells are against them
by_triples : (w : List ℕ) (x y : ℕ) → length w ≡ 6 → differences w (repeated x y) ≡ against (take 3 w) x + against (drop 3 w) y
by_triples w x y whole =
    subst (λ (v : List ℕ). differences v (repeated x y) ≡ against (take 3 v) x + against (drop 3 v) y) (these_cells 6 w whole) (grind (arith, nat_tests))

elected_below : (q : ℕ) (cells : List ℕ) (majority : Majority) → ((i : ℕ) → i < 3 → get_or cells i 0 < q) → Elected cells majority → majority.symbol < q
elected_below q cells majority below e =
    elim e.among [
      | inl same ↦ subst (λ (x : ℕ). x < q) (sym same) (below 0 (lit< tt))
      | inr same ↦ subst (λ (x : ℕ). x < q) (sym same) (below 1 (lit< tt))
    ]

module _ (m : Arithmetic) (w : List ℕ) (q : ℕ) (size : q ≡ m.size) (filled : Filled 6 q w) (xs ys : List ℕ) (front : xs ≡ take 3 w) (back : ys ≡ drop 3 w)
    (one other : Majority) (first : Elected xs one) (second : Elected ys other) where
  fit : Filled 6 m.size w
  fit = subst (λ (n : ℕ). Filled 6 n w) size filled

  front_below : (i : ℕ) → i < 3 → get_or xs i 0 < m.size
  front_below i h = rw (front, get_or-take 3 w i 0 h) (fit.symbols i (omega (arith, fit.whole)))

  back_below : (i : ℕ) → i < 3 → get_or ys i 0 < m.size
  back_below i h = rw (back, get_or-drop 3 w i 0) (fit.symbols (3 + i) (omega (arith, fit.whole)))

  apart_by : (x y : ℕ) → differences w (repeated x y) ≡ against xs x + against ys y
  apart_by x y = rw (front, back) (by_triples w x y fit.whole)

  -- few enough cells are outvoted
  pub outvoted : (v : List ℕ) → v ≡ repeated one.symbol other.symbol → one.wrong + other.wrong ≤ 1 → Corrects (repetition m) w (one.wrong + other.wrong) v
  outvoted v is few = record {
    fit = fit;
    held = ap (repetition m).holds is ∙ repeated_holds m _ _ (elected_below m.size xs one front_below first) (elected_below m.size ys other back_below second);
    near = ap (differences w) is ∙ apart_by one.symbol other.symbol ∙ omega (arith, first.counted, second.counted);
    within = few;
  }

  -- too many are, and no two symbols have fewer against them
  pub too_far : 1 < one.wrong + other.wrong → Word (repetition m) w × AllFar (repetition m) w
  too_far many = (
    fit,
    λ v t.
        let x : ℕ = get_or v 0 0 in
        let y : ℕ = get_or v 3 0 in
        let away : differences w v ≡ differences w (repeated x y) = ap (differences w) (repeats_from m v t).repeats in
        omega (arith, away, apart_by x y, first.fewest x, second.fewest y),
  )
