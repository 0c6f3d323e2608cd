-- The Bare code over any alphabet is a lawful code. Assumes nothing.
use Rattle.std.specs.Prelude.{◌≡◌, ℕ, ◌<◌, ◌≤◌, true, List, map, length, Some, None, Ok, Err, Result, ◌==◌, nat_lt, slice_index, refl}
use Rattle.std.proofs.Common.{ap, sym, ◌∙◌, subst, inl, inr, ⊎_elim, arith}
use Rattle.std.specs.Bool.{then_some}
use Rattle.std.proofs.lemmas.List.{ext_get_or, length-map, get_or-map}
use Rattle.std.proofs.lemmas.Bool.{and_parts, and_from, eqb-true, eq-eqb, cases_eq, cases_lt, lt-ltb, le-ltb}
use Rattle.std.proofs.lemmas.List.FromFn.{length-range_with_len, get_or-range_with_len}
use Rattle.std.proofs.lemmas.Option.{slice_get-get_or, slice_get_past}
use Rattle.alphabet.specs.Arithmetic.{Arithmetic, Lawful}
use Rattle.alphabet.specs.declared.refusals.Refusal.{Refusal}
use Rattle.code.specs.Words.{Filled, Word, symbols_at, differences}
use Rattle.code.specs.Laws.{CodeLaws}
use Rattle.code.specs.Calls.{item, Unfit, Checked, Completed, Corrects}
use Rattle.code.specs.Bare.{all_below, from, bare}
use Rattle.code.specs.Cells.{below_each, each_below, length_at, slice_index_at}
use Rattle.code.specs.Differences.{differences_self, same_from_none}

-- the cells of a whole word are the word
pub all_cells : (w : List ℕ) → symbols_at w (from 0 (length w)) ≡ w
all_cells w =
    let long : length (symbols_at w (from 0 (length w))) ≡ length w = length_at w (from 0 (length w)) ∙ length-range_with_len 0 (length w) in
    ext_get_or 0 (symbols_at w (from 0 (length w))) w long (λ k h.
    let inside : k < length w = omega arith in
    slice_index_at w (from 0 (length w)) k (omega (arith, length-range_with_len 0 (length w)))
    ∙ ap (λ (i : ℕ). slice_index w i) (get_or-range_with_len 0 (length w) k 0 inside ∙ omega arith))

-- the information cell of an index is the cell of that index
pub item_run : (n i : ℕ) → i < n → item (from 0 n) i ≡ Some i
item_run n i h = slice_get-get_or (from 0 n) i 0 (omega (arith, length-range_with_len 0 n)) ∙ ap (λ k. Some k) (get_or-range_with_len 0 n i 0 h ∙ omega arith)

pub item_past_run : (n i : ℕ) → n ≤ i → item (from 0 n) i ≡ None
item_past_run n i h = slice_get_past (from 0 n) i (omega (arith, length-range_with_len 0 n))

pub item_if_in_run : (n i : ℕ) → then_some (nat_lt i n) i ≡ item (from 0 n) i
item_if_in_run n i =
    elim (cases_lt i n) [
      | inl low ↦ ap (λ b. then_some b i) (lt-ltb i n low) ∙ sym (item_run n i low)
      | inr high ↦ ap (λ b. then_some b i) (le-ltb i n high) ∙ sym (item_past_run n i high)
    ]

module _ (m : Arithmetic) (laws : Lawful m) (n : ℕ) where
  pub word_from : (w : List ℕ) → (bare m n).holds w ≡ true → Word (bare m n) w
  word_from w t =
      let p = and_parts (length w == n) (all_below m.size w) t in
      record { whole = eqb-true (length w) n p.0; symbols = below_each m.size w p.1 }

  pub word_holds : (w : List ℕ) → Filled n m.size w → (bare m n).holds w ≡ true
  word_holds w fit = and_from (length w == n) (all_below m.size w) (eq-eqb (length w) n fit.whole) (each_below m.size w fit.symbols)

  whole_cells : (w : List ℕ) → length w ≡ n → symbols_at w (from 0 n) ≡ w
  whole_cells w e = subst (λ (k : ℕ). symbols_at w (from 0 k) ≡ w) e (all_cells w)

  pub bare_laws : 2 ≤ n → n ≤ 256 → CodeLaws (bare m n)
  bare_laws long short = record {
    arithmetic = laws;
    cells_two = long;
    cells_most = short;
    information_two = omega (arith, length-range_with_len 0 n);
    information_ascends = λ i j less h. omega (arith, length-range_with_len 0 n, get_or-range_with_len 0 n i 0 (omega (arith, length-range_with_len 0 n)), get_or-range_with_len 0 n j 0 (omega (arith, length-range_with_len 0 n)));
    information_within = λ i h. omega (arith, length-range_with_len 0 n, get_or-range_with_len 0 n i 0 (omega (arith, length-range_with_len 0 n)));
    words = word_from;
    filled = λ xs whole symbols.
        let e : length xs ≡ n = whole ∙ length-range_with_len 0 n in
        (xs, word_holds xs (record { whole = e; symbols = symbols }), whole_cells xs e);
    filled_once = λ v w hv hw same. sym (whole_cells v (word_from v hv).whole) ∙ same ∙ whole_cells w (word_from w hw).whole;
    shifted = λ w z h low.
        let f : ℕ → ℕ = λ x. m.sum x z in
        let fit = word_from w h in
        word_holds (map f w) (record {
          whole = length-map w f ∙ fit.whole;
          symbols = λ i l.
              let inside : i < length w = omega (arith, length-map w f) in
              subst (λ (x : ℕ). x < m.size) (sym (get_or-map f w i 0 0 inside)) (laws.sum_below (slice_index w i) z (fit.symbols i inside) low);
        });
    apart = λ v w hv hw other.
        ⊎_elim
        (λ none. absurd (other (same_from_none v w ((word_from v hv).whole ∙ sym (word_from w hw).whole) none)))
        (λ (some : differences v w ≡ 0 → ⊥). omega (arith, some))
        (cases_eq (differences v w) 0);
  }

  -- a word that passes the tests is the code word that it is completed and corrected to
  pub bare_completed : (w : List ℕ) (q : ℕ) (r : Result (Unit {0}) Refusal) → q ≡ m.size → Checked n q w r → Completed (bare m n) w r w
  bare_completed w q (Ok done) e fit =
      let f : Filled n m.size w = subst (λ (k : ℕ). Filled n k w) e fit in
      record { fit = f; held = word_holds w f; kept = refl }
  bare_completed w q (Err refusal) e unfit = (subst (λ (k : ℕ). Unfit n k w refusal) e unfit, refl)

  pub bare_corrected : (w : List ℕ) (q : ℕ) → q ≡ m.size → Filled n q w → Corrects (bare m n) w 0 w
  bare_corrected w q e fit =
      let f : Filled n m.size w = subst (λ (k : ℕ). Filled n k w) e fit in
      record { fit = f; held = word_holds w f; near = differences_self w; within = omega arith }
