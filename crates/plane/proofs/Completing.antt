-- The check cells set to 0, then to what the sums of the others say. Assumes nothing.
use Rattle.std.proofs.Common.{◌≡◌, ℕ, ◌%◌, ◌<◌, true, List, length, get_or, set, sym, ap, ◌∙◌, subst, arith}
use Rattle.std.proofs.lemmas.List.{length-set, get_or-set_same, get_or-set_other}
use Rattle.alphabet.specs.Arithmetic.{Arithmetic, Lawful}
use Rattle.code.specs.Words.{Word}
use Rattle.code.specs.Calls.{Completes}
use Rattle.sums.proofs.Symbols.{SymbolOf, finite, sum_is, negative_is}
use Rattle.plane.specs.Plane.{plane_over}
use Rattle.plane.specs.Lines.{SumsOf}
use Rattle.plane.specs.declared.three_sums.Sums.{Sums}
use Rattle.plane.specs.Information.{two_rows, same_information}
use Rattle.plane.specs.Weights.{levels, rows, columns}
use Rattle.code.specs.Cells.{below_set}
use Rattle.plane.specs.CodeWords.{sum_under}
use Rattle.plane.specs.Solved.{solved, solved_other, solved_word, solved_at_once}
use Rattle.plane.specs.Holds.{levels_are, rows_are, columns_are, word_holds}

checks_put : ℕ → List ℕ → ℕ → ℕ → ℕ → List ℕ
checks_put q w x y z = set (set (set w q x) 1 y) 0 z

put_other : (q : ℕ) (w : List ℕ) (x y z i : ℕ) → (i ≡ 0 → ⊥) → (i ≡ 1 → ⊥) → (i ≡ q → ⊥) → get_or (checks_put q w x y z) i 0 ≡ get_or w i 0
unfolding checks_put
put_other q w x y z i n0 n1 nq = get_or-set_other (set (set w q x) 1 y) 0 i z 0 n0 ∙ get_or-set_other (set w q x) 1 i y 0 n1 ∙ get_or-set_other w q i x 0 nq

put_0 : (q : ℕ) (w : List ℕ) (x y z : ℕ) → 0 < length w → get_or (checks_put q w x y z) 0 0 ≡ z
unfolding checks_put
put_0 q w x y z h = get_or-set_same (set (set w q x) 1 y) 0 z 0 (omega (arith, length-set (set w q x) 1 y, length-set w q x))

put_1 : (q : ℕ) (w : List ℕ) (x y z : ℕ) → 1 < length w → get_or (checks_put q w x y z) 1 0 ≡ y
unfolding checks_put
put_1 q w x y z h = get_or-set_other (set (set w q x) 1 y) 0 1 z 0 (λ p. omega arith) ∙ get_or-set_same (set w q x) 1 y 0 (omega (arith, length-set w q x))

put_q : (q : ℕ) (w : List ℕ) (x y z : ℕ) → 1 < q → q < length w → get_or (checks_put q w x y z) q 0 ≡ x
unfolding checks_put
put_q q w x y z two h = get_or-set_other (set (set w q x) 1 y) 0 q z 0 (λ p. omega arith) ∙ get_or-set_other (set w q x) 1 q y 0 (λ p. omega arith) ∙ get_or-set_same w q x 0 h

module _ (m : Arithmetic) (l : Lawful m) (word : List ℕ) (fit : Word (plane_over m) word) where
  pub size_inside : (q : ℕ) → q ≡ m.size → q < length word
  size_inside q same = omega (arith, l.two, fit.whole, two_rows m.size l.two)

  pub blanked : (q : ℕ) (w : List ℕ) → w ≡ set (set (set word q 0) 1 0) 0 0 → Word (plane_over m) w
  blanked q w is =
      let positive : 0 < m.size = omega (arith, l.two) in
      record {
        whole = ap length is ∙ length-set (set (set word q 0) 1 0) 0 0 ∙ length-set (set word q 0) 1 0 ∙ length-set word q 0 ∙ fit.whole;
        symbols = subst (λ (v : List ℕ). (i : ℕ) → i < length v → get_or v i 0 < m.size) (sym is)
            (below_set m.size (set (set word q 0) 1 0) 0 0 (below_set m.size (set word q 0) 1 0 (below_set m.size word q 0 fit.symbols positive) positive) positive);
      }

  pub completed : (q : ℕ) (w after : List ℕ) (sums : Sums) (at_q at_1 checks all at_0 : ℕ) → q ≡ m.size → w ≡ set (set (set word q 0) 1 0) 0 0 → SumsOf m w sums
      → at_q ≡ m.negative (sums.rows % m.size)
      → at_1 ≡ m.negative (sums.columns % m.size)
      → checks ≡ m.sum (at_q % m.size) (at_1 % m.size)
      → all ≡ m.sum (sums.levels % m.size) (checks % m.size)
      → at_0 ≡ m.negative (all % m.size)
      → after ≡ set (set (set w q at_q) 1 at_1) 0 at_0
      → Completes (plane_over m) word after
  unfolding checks_put
  completed q w after sums at_q at_1 checks all at_0 q_is w_is are at_q_call at_1_call checks_call all_call at_0_call after_is =
      let F = finite m l in
      let blank : Word (plane_over m) w = blanked q w w_is in
      let L : SymbolOf m = sum_under F levels w in
      let R : SymbolOf m = sum_under F rows w in
      let C : SymbolOf m = sum_under F columns w in
      let n : ℕ → ℕ = m.negative in
      let nR : n R.0 < m.size = l.negative_below R.0 R.1 in
      let nC : n C.0 < m.size = l.negative_below C.0 C.1 in
      let both : ℕ = m.sum (n R.0) (n C.0) in
      let hb : both < m.size = l.sum_below (n R.0) (n C.0) nR nC in
      let whole : m.sum L.0 both < m.size = l.sum_below L.0 both L.1 hb in
      let e₁ : at_q ≡ n R.0 = negative_is m l R.0 sums.rows at_q R.1 (are.rows ∙ rows_are m l w blank.symbols) at_q_call in
      let e₂ : at_1 ≡ n C.0 = negative_is m l C.0 sums.columns at_1 C.1 (are.columns ∙ columns_are m l w blank.symbols) at_1_call in
      let e₃ : checks ≡ both = sum_is m l (n R.0) (n C.0) at_q at_1 checks nR nC e₁ e₂ checks_call in
      let e₄ : all ≡ m.sum L.0 both = sum_is m l L.0 both sums.levels checks all L.1 hb (are.levels ∙ levels_are m l w blank.symbols) e₃ all_call in
      let e₅ : at_0 ≡ n (m.sum L.0 both) = negative_is m l (m.sum L.0 both) all at_0 whole e₄ at_0_call in
      let h : q < length word = size_inside q q_is in
      let two : 1 < q = omega (arith, l.two) in
      let b0 : get_or w 0 0 ≡ 0 = ap (λ (v : List ℕ). get_or v 0 0) w_is ∙ put_0 q word 0 0 0 (omega arith) in
      let b1 : get_or w 1 0 ≡ 0 = ap (λ (v : List ℕ). get_or v 1 0) w_is ∙ put_1 q word 0 0 0 (omega arith) in
      let bq : get_or w m.size 0 ≡ 0 = ap (λ (k : ℕ). get_or w k 0) (sym q_is) ∙ ap (λ (v : List ℕ). get_or v q 0) w_is ∙ put_q q word 0 0 0 two h in
      let put : set (set (set w q at_q) 1 at_1) 0 at_0 ≡ set (set (set w m.size (n R.0)) 1 (n C.0)) 0 (n (m.sum L.0 both)) =
      ap (λ (k : ℕ). set (set (set w k at_q) 1 at_1) 0 at_0) q_is ∙ ap (λ (k : ℕ). set (set (set w m.size k) 1 at_1) 0 at_0) e₁
      ∙ ap (λ (k : ℕ). set (set (set w m.size (n R.0)) 1 k) 0 at_0) e₂ ∙ ap (set (set (set w m.size (n R.0)) 1 (n C.0)) 0) e₅ in
      let is_solved : after ≡ solved F w = after_is ∙ put ∙ sym (solved_at_once F w blank.whole b0 b1 bq) in
      record {
        fit = fit;
        held = subst (λ (v : List ℕ). (plane_over m).holds v ≡ true) (sym is_solved) (word_holds m l (solved F w) (solved_word F w blank.whole b0 b1 bq blank.symbols));
        kept = same_information m.size l.two after word (λ i n0 n1 nq.
            ap (λ (v : List ℕ). get_or v i 0) is_solved ∙ solved_other F w i n0 n1 nq ∙ ap (λ (v : List ℕ). get_or v i 0) w_is ∙ put_other q word 0 0 0 i n0 n1 (λ p. nq (p ∙ q_is)));
      }
