-- The Repetition code over any alphabet is a lawful code. Assumes nothing.
use Rattle.std.specs.Prelude.{◌≡◌, ℕ, zero, suc, ◌<◌, ◌≤◌, true, ◌&&◌, List, [], ◌∷◌, map, length, ◌==◌, ◌≢◌, slice_index}
use Rattle.std.proofs.Common.{ap, ap₂, sym, ◌∙◌, subst, ⊎_elim, arith, lit<, lit≤}
use Rattle.std.proofs.lemmas.Bool.{and_parts, and_from, eqb-true, eq-eqb, lt-ltb}
use Rattle.alphabet.specs.Arithmetic.{Arithmetic, Lawful}
use Rattle.code.specs.Words.{Filled, symbols_at, differences}
use Rattle.code.specs.Laws.{CodeLaws, Ascending}
use Rattle.code.specs.Bare.{all_below, from}
use Rattle.code.specs.BareLaws.{all_cells}
use Rattle.code.specs.Cells.{below_each}
use Rattle.code.specs.Differences.{differ_way, differences_self, same_from_none}
use Rattle.repetition.specs.Repetition.{repeated, repetition}

-- two symbols repeated are at least three cells from any two others
far_apart : (x y x' y' : ℕ) → (repeated x y ≢ repeated x' y') → 3 ≤ differences (repeated x y) (repeated x' y')
far_apart x y x' y' other =
    ⊎_elim
    (λ first. ⊎_elim (λ second. absurd (other (ap₂ repeated first.0 second.0))) (λ second. omega (arith, second.1)) (differ_way y y'))
    (λ first. omega (arith, first.1))
    (differ_way x x')

information_ascends : Ascending (0 ∷ 3 ∷ [])
information_ascends zero zero less h = absurd (omega arith)
information_ascends zero (suc zero) less h = lit< tt
information_ascends zero (suc (suc j)) less h = absurd (omega arith)
information_ascends (suc i) j less h = absurd (omega arith)

information_within : (i : ℕ) → i < 2 → slice_index (0 ∷ 3 ∷ []) i < 6
information_within zero h = lit< tt
information_within (suc zero) h = lit< tt
information_within (suc (suc i)) h = absurd (omega arith)

-- a list of so many numbers is what stands in its first so many cells
pub these_cells : (n : ℕ) (w : List ℕ) → length w ≡ n → symbols_at w (from 0 n) ≡ w
these_cells n w whole = subst (λ (k : ℕ). symbols_at w (from 0 k) ≡ w) whole (all_cells w)

module _ (m : Arithmetic) where
  -- a code word is two symbols repeated
  pub record Repeats (w : List ℕ) : Type 0 where
    pub fit : Filled 6 m.size w
    pub repeats : w ≡ repeated (slice_index w 0) (slice_index w 3)

  pub repeats_from : (w : List ℕ) → (repetition m).holds w ≡ true → Repeats w
  repeats_from w t =
      let p = and_parts (length w == 6) _ t in
      let r = and_parts (all_below m.size w) _ p.1 in
      let whole : length w ≡ 6 = eqb-true (length w) 6 p.0 in
      record {
        fit = record { whole = whole; symbols = below_each m.size w r.0 };
        repeats = same_from_none w _ whole (eqb-true _ 0 r.1);
      }

  pub repeated_holds : (x y : ℕ) → x < m.size → y < m.size → (repetition m).holds (repeated x y) ≡ true
  repeated_holds x y hx hy =
      let symbols : all_below m.size (repeated x y) ≡ true = ap₂ (λ a b. a && (a && (a && (b && (b && (b && true)))))) (lt-ltb x m.size hx) (lt-ltb y m.size hy) in
      and_from (all_below m.size (repeated x y)) _ symbols (eq-eqb (differences (repeated x y) (repeated x y)) 0 (differences_self (repeated x y)))

  pub repetition_laws : Lawful m → CodeLaws (repetition m)
  repetition_laws laws = record {
    arithmetic = laws;
    cells_two = lit≤ tt;
    cells_most = lit≤ tt;
    information_two = lit≤ tt;
    information_ascends = information_ascends;
    information_within = information_within;
    words = λ w t. (repeats_from w t).fit;
    filled = λ xs whole symbols. (repeated (slice_index xs 0) (slice_index xs 1), repeated_holds _ _ (symbols 0 (omega arith)) (symbols 1 (omega arith)), these_cells 2 xs whole);
    filled_once = λ v w tv tw same.
        (repeats_from v tv).repeats
        ∙ ap₂ repeated (ap (λ (xs : List ℕ). slice_index xs 0) same) (ap (λ (xs : List ℕ). slice_index xs 1) same)
        ∙ sym (repeats_from w tw).repeats;
    shifted = λ w z t low.
        let f : ℕ → ℕ = λ x. m.sum x z in
        let r = repeats_from w t in
        ap (λ (v : List ℕ). (repetition m).holds (map f v)) r.repeats
        ∙ repeated_holds (f (slice_index w 0)) (f (slice_index w 3))
        (laws.sum_below _ z (r.fit.symbols 0 (omega (arith, r.fit.whole))) low)
        (laws.sum_below _ z (r.fit.symbols 3 (omega (arith, r.fit.whole))) low);
    apart = λ v w tv tw other.
        let ev = (repeats_from v tv).repeats in
        let ew = (repeats_from w tw).repeats in
        subst (λ (n : ℕ). 3 ≤ n) (sym (ap₂ differences ev ew)) (far_apart _ _ _ _ (λ same. other (ev ∙ same ∙ sym ew)));
  }
