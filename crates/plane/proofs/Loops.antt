-- The steps of the loops that take a word's sums: a level, a row and a place more. Assumes nothing.
use Rattle.std.proofs.Common.{◌≡◌, ℕ, zero, suc, ◌+◌, ◌*◌, ◌%◌, ◌<◌, ◌≤◌, List, [], ◌∷◌, length, get_or, set, sym, refl, ap, ◌∙◌, subst, inl, inr, add-zero, mul_comm, mod-lt, mod-eq_of_lt, arith}
use Rattle.std.specs.List.{fold, zip, range_with_len}
use lib.Arith.{digits_lt}
use Rattle.std.proofs.lemmas.List.{get_or-set_same, get_or-set_other}
use Rattle.std.proofs.lemmas.Bool.{cases_eq}
use Rattle.alphabet.specs.Arithmetic.{Arithmetic, Lawful}
use Rattle.code.specs.Words.{Word}
use Rattle.sums.specs.Sums.{sum_of}
use Rattle.sums.proofs.Symbols.{product_is, sum_of_same, sum_of_more}
use Rattle.plane.specs.Plane.{levels_sum, rows_sum, columns_sum, plane_over}
use Rattle.plane.specs.Lines.{row_part, column_part, ColumnsSummed}
use Rattle.plane.proofs.ByLines.{level_below, row_below, column_below, levels_from_rows, rows_from_rows, columns_from_columns}

-- the point (a, b) is a cell
pub point_inside : (size q a b n : ℕ) → q ≡ size → a < size → b < size → n ≡ size * size → q * a + b < n
point_inside size q a b n same ha hb whole =
    let inside : size * a + b < size * size = subst (λ (k : ℕ). k + b < size * size) (mul_comm a size) (digits_lt ha hb) in
    rw (same, whole) inside

-- b levels of row a are summed and added to their columns
pub record RowAdded (m : Arithmetic) (word : List ℕ) (a b row : ℕ) (columns : List ℕ) : Type 0 where
  pub row_sum : row ≡ row_part m word a b
  pub added : (j : ℕ) → j < b → get_or columns j 0 ≡ column_part m word j (a + 1)
  pub left : (j : ℕ) → b ≤ j → j < m.size → get_or columns j 0 ≡ column_part m word j a

-- n rows are summed and added to their columns
pub record RowsAdded (m : Arithmetic) (word : List ℕ) (n all by_row : ℕ) (columns : List ℕ) : Type 0 where
  pub levels : all ≡ sum_of m n (λ a. row_part m word a m.size)
  pub rows : by_row ≡ sum_of m n (λ a. m.product a (row_part m word a m.size))
  pub summed : ColumnsSummed m word n columns

module _ (m : Arithmetic) (l : Lawful m) where
  -- a symbol times its place added to what is there
  abbrev pub add_place : ℕ → ℕ × ℕ → ℕ
  add_place all p = m.sum (all % m.size) (m.product (p.0 % m.size) (p.1 % m.size) % m.size)

  -- n more places from i on
  places_from : (f : ℕ → ℕ) (below : (j : ℕ) → j < m.size → f j < m.size) (n i all : ℕ) (xs : List ℕ) → i + n ≤ m.size → n ≤ length xs
      → ((k j : ℕ) → k < n → j ≡ i + k → m.product j (get_or xs k 0 % m.size) ≡ f j)
      → all ≡ sum_of m i f → fold add_place all (zip (range_with_len i n) xs) ≡ sum_of m (i + n) f
  places_from f below zero i all xs most long same before = before ∙ ap (λ (k : ℕ). sum_of m k f) (sym (add-zero i))
  places_from f below (suc n) i all [] most long same before = absurd (omega arith)
  places_from f below (suc n) i all (x ∷ xs) most long same before =
      let here : m.product (i % m.size) (x % m.size) ≡ f i = ap (λ (k : ℕ). m.product k (x % m.size)) (mod-eq_of_lt (omega arith)) ∙ same 0 i (omega arith) (omega arith) in
      let added : add_place all (i, x) ≡ sum_of m (i + 1) f = sum_of_more m l i f all (m.product (i % m.size) (x % m.size)) (add_place all (i, x)) (λ j less. below j (omega arith)) before here refl in
      places_from f below n (i + 1) (add_place all (i, x)) xs (omega arith) (omega arith) (λ k j less is. same (suc k) j (omega arith) (omega arith)) added
      ∙ ap (λ (k : ℕ). sum_of m k f) (omega arith)

  pub places_added : (q : ℕ) (xs : List ℕ) → q ≡ m.size → length xs ≡ 16
      → fold add_place 0 (zip (range_with_len 0 q) xs) ≡ sum_of m m.size (λ i. m.product i (get_or xs i 0 % m.size))
  places_added q xs same long =
      places_from (λ i. m.product i (get_or xs i 0 % m.size)) (λ j less. l.product_below j _ less (mod-lt (get_or xs j 0) (omega (arith, l.two))))
      q 0 0 xs (omega arith) (omega (arith, l.sixteen)) (λ k j less is. ap (λ (i : ℕ). m.product j (get_or xs i 0 % m.size)) (omega arith)) refl
      ∙ ap (λ (k : ℕ). sum_of m k (λ i. m.product i (get_or xs i 0 % m.size))) (omega arith)

module _ (m : Arithmetic) (l : Lawful m) (word : List ℕ) (fit : Word (plane_over m) word) where
  -- one more level of row a
  pub level_added : (a b row r x level : ℕ) (columns : List ℕ) → b < m.size → length columns ≡ 16 → RowAdded m word a b row columns
      → level ≡ get_or word (m.size * a + b) 0
      → r ≡ m.sum (row % m.size) (level % m.size)
      → x ≡ m.sum (get_or columns b 0 % m.size) (level % m.size)
      → RowAdded m word a (b + 1) r (set columns b x)
  level_added a b row r x level columns h sixteen before here row_here column_here =
      let room : b < length columns = omega (arith, l.sixteen) in
      let sum_here : x ≡ column_part m word b (a + 1) =
      sum_of_more m l a _ (get_or columns b 0) level x (λ i less. level_below m l word fit (m.size * i + b)) (before.left b (omega arith) h) here column_here in
      record {
        row_sum = sum_of_more m l b _ row level r (λ i less. level_below m l word fit (m.size * a + i)) before.row_sum here row_here;
        added = λ j less. elim (cases_eq j b) [
          | inl last ↦ ap (λ (k : ℕ). get_or (set columns b x) k 0) last ∙ get_or-set_same columns b x 0 room ∙ sum_here ∙ ap (λ (k : ℕ). column_part m word k (a + 1)) (sym last)
          | inr other ↦ get_or-set_other columns b j x 0 other ∙ before.added j (omega arith)
        ];
        left = λ j past below. get_or-set_other columns b j x 0 (λ p. omega arith) ∙ before.left j (omega arith) below;
      }

  -- one more row
  pub row_added : (a all by_row row times all' by_row' : ℕ) (columns after : List ℕ) → a < m.size → RowsAdded m word a all by_row columns
      → row ≡ row_part m word a m.size
      → times ≡ m.product (a % m.size) (row % m.size)
      → all' ≡ m.sum (all % m.size) (row % m.size)
      → by_row' ≡ m.sum (by_row % m.size) (times % m.size)
      → ColumnsSummed m word (a + 1) after
      → RowsAdded m word (a + 1) all' by_row' after
  row_added a all by_row row times all' by_row' columns after h before row_here product_here all_is by_row_is summed = record {
    levels = sum_of_more m l a _ all row all' (λ j less. row_below m l word fit j m.size) before.levels row_here all_is;
    rows = sum_of_more m l a _ by_row times by_row' (λ j less. l.product_below j _ (omega arith) (row_below m l word fit j m.size)) before.rows
        (product_is m l a _ a row times h (row_below m l word fit a m.size) refl row_here product_here) by_row_is;
    summed = summed;
  }

  -- all rows
  pub levels_all : (n all by_row : ℕ) (columns : List ℕ) → n ≡ m.size → RowsAdded m word n all by_row columns → all ≡ levels_sum m word
  levels_all n all by_row columns last done =
      done.levels ∙ ap (λ (k : ℕ). sum_of m k (λ a. row_part m word a m.size)) last ∙ sym (levels_from_rows m l word fit)

  pub rows_all : (n all by_row : ℕ) (columns : List ℕ) → n ≡ m.size → RowsAdded m word n all by_row columns → by_row ≡ rows_sum m word
  rows_all n all by_row columns last done =
      done.rows ∙ ap (λ (k : ℕ). sum_of m k (λ a. m.product a (row_part m word a m.size))) last ∙ sym (rows_from_rows m l word fit)

  pub columns_all : (n by_column : ℕ) (columns : List ℕ) → n ≡ m.size → ColumnsSummed m word n columns
      → by_column ≡ sum_of m m.size (λ b. m.product b (get_or columns b 0 % m.size)) → by_column ≡ columns_sum m word
  columns_all n by_column columns last summed is =
      is
      ∙ sum_of_same m l m.size _ _ (λ b less.
      ap (λ (k : ℕ). m.product b (k % m.size)) (summed b less ∙ ap (column_part m word b) last) ∙ ap (m.product b) (mod-eq_of_lt (column_below m l word fit b m.size)))
      ∙ sym (columns_from_columns m l word fit)
