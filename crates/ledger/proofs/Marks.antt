-- Marks on the cells of a page: the cells in which words differ, those below their floors, and how many are marked. Assumes nothing.
use Rattle.std.proofs.Common.{◌≡◌, ℕ, zero, suc, ◌≤◌, max, Bool, true, false, not, ◌||◌, eqb, ltb, List, [], ◌∷◌, length, get_or, set, sym, refl, ap, ◌∙◌, ap₂, ⊎_elim, arith}
use Rattle.std.proofs.lemmas.Bool.{cases_lt, cases_eq, or_parts, not-false, eqb-true, eq-eqb, ne_eqb, lt-ltb, le-ltb}
use Rattle.code.specs.Words.{differences}
use Rattle.code.specs.Differences.{differ_same, differ_most}
use Rattle.masking.specs.Floors.{raised}
use Rattle.ledger.specs.Ledger.{below_floor}
use Rattle.ledger.specs.Runs.{marked, differing, either}

or_unmarked : (b t : Bool) → t ≡ false → (b || t) ≡ b
or_unmarked true t e = refl
or_unmarked false t e = e

not_same : (x y : ℕ) → x ≡ y → not (eqb x y) ≡ false
not_same x y e = ap not (eq-eqb x y e)

-- words differ in a cell whichever comes first
not_either_way : (x y : ℕ) → not (eqb x y) ≡ not (eqb y x)
not_either_way x y =
    ⊎_elim
    (λ e. not_same x y e ∙ sym (not_same y x (sym e)))
    (λ other. ap not (ne_eqb x y other ∙ sym (ne_eqb y x (λ e. other (sym e)))))
    (cases_eq x y)

-- a word adds no mark to itself
pub either_same : (bs : List Bool) (xs : List ℕ) → either bs (differing xs xs) ≡ bs
either_same [] xs = refl
either_same (b ∷ bs) [] = refl
either_same (b ∷ bs) (x ∷ xs) = ap₂ (λ a t. a ∷ t) (or_unmarked b (not (eqb x x)) (not_same x x refl)) (either_same bs xs)

-- one cell set adds a mark there if it held another level
pub either_set : (bs : List Bool) (xs : List ℕ) (c v : ℕ) → length bs ≡ length xs → set bs c (get_or bs c false || not (eqb v (get_or xs c 0))) ≡ either bs (differing xs (set xs c v))
either_set [] xs c v e = refl
either_set (b ∷ bs) [] c v e = absurd (omega arith)
either_set (b ∷ bs) (x ∷ xs) zero v e = ap₂ (λ a t. (b || a) ∷ t) (not_either_way v x) (sym (either_same bs xs))
either_set (b ∷ bs) (x ∷ xs) (suc c) v e = ap₂ (λ a t. a ∷ t) (sym (or_unmarked b (not (eqb x x)) (not_same x x refl))) (either_set bs xs c v (omega arith))

-- the cells below their floors are those in which the raised word differs
pub below_floor_differs : (floors xs : List ℕ) → length floors ≡ length xs → below_floor floors xs ≡ differing (raised floors xs) xs
below_floor_differs [] [] e = refl
below_floor_differs [] (x ∷ xs) e = absurd (omega arith)
below_floor_differs (s ∷ ss) [] e = absurd (omega arith)
below_floor_differs (s ∷ ss) (x ∷ xs) e = ap₂ (λ a t. a ∷ t) here (below_floor_differs ss xs (omega arith))
  where
    here : ltb x s ≡ not (eqb (max s x) x)
    here =
        ⊎_elim
        (λ l. lt-ltb x s l ∙ sym (ap not (ne_eqb (max s x) x (λ d. omega arith))))
        (λ l. le-ltb x s l ∙ sym (not_same (max s x) x (omega arith)))
        (cases_lt x s)

pub length_below_floor : (floors xs : List ℕ) → length floors ≡ length xs → length (below_floor floors xs) ≡ length xs
length_below_floor [] xs e = e
length_below_floor (s ∷ ss) [] e = refl
length_below_floor (s ∷ ss) (x ∷ xs) e = ap suc (length_below_floor ss xs (omega arith))

pub length_differing : (xs ys : List ℕ) → length (differing xs ys) ≤ length xs
length_differing [] ys = omega arith
length_differing (x ∷ xs) [] = omega arith
length_differing (x ∷ xs) (y ∷ ys) = omega (arith, length_differing xs ys)

-- words hold the same in a cell that is not marked as differing
pub same_unmarked : (xs ys : List ℕ) → length xs ≡ length ys → (i : ℕ) → get_or (differing xs ys) i false ≡ false → get_or xs i 0 ≡ get_or ys i 0
same_unmarked [] [] e i u = refl
same_unmarked [] (y ∷ ys) e i u = absurd (omega arith)
same_unmarked (x ∷ xs) [] e i u = absurd (omega arith)
same_unmarked (x ∷ xs) (y ∷ ys) e zero u = eqb-true x y (not-false (eqb x y) u)
same_unmarked (x ∷ xs) (y ∷ ys) e (suc i) u = same_unmarked xs ys (omega arith) i u

-- a cell that is marked in neither
pub unmarked_both : (xs bs : List Bool) → length bs ≤ length xs → (i : ℕ) → get_or (either xs bs) i false ≡ false → (get_or xs i false ≡ false) × (get_or bs i false ≡ false)
unmarked_both [] [] e i u = (refl, refl)
unmarked_both [] (b ∷ bs) e i u = absurd (omega arith)
unmarked_both (a ∷ xs) [] e i u = (u, refl)
unmarked_both (a ∷ xs) (b ∷ bs) e zero u = or_parts a b u
unmarked_both (a ∷ xs) (b ∷ bs) e (suc i) u = unmarked_both xs bs (omega arith) i u

-- words that differ in marked cells only differ in no more than are marked
pub differences_marked : (xs ys : List ℕ) (bs : List Bool) → length xs ≡ length ys → ((i : ℕ) → get_or bs i false ≡ false → get_or xs i 0 ≡ get_or ys i 0) → differences xs ys ≤ marked bs
differences_marked [] ys bs e h = omega arith
differences_marked (x ∷ xs) [] bs e h = absurd (omega arith)
differences_marked (x ∷ xs) (y ∷ ys) [] e h = omega (arith, differ_same x y (h 0 refl), differences_marked xs ys [] (omega arith) (λ i s. h (suc i) s))
differences_marked (x ∷ xs) (y ∷ ys) (true ∷ bs) e h = omega (arith, differ_most x y, differences_marked xs ys bs (omega arith) (λ i s. h (suc i) s))
differences_marked (x ∷ xs) (y ∷ ys) (false ∷ bs) e h = omega (arith, differ_same x y (h 0 refl), differences_marked xs ys bs (omega arith) (λ i s. h (suc i) s))
