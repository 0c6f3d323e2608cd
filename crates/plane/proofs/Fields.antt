-- A field's arithmetic is its alphabet's: the inverse that it finds, and what the sums say of the plane over it. Assumes nothing.
use Rattle.std.proofs.Common.{◌≡◌, ℕ, ◌+◌, ◌-◌, ◌*◌, ◌%◌, ◌<◌, ◌≤◌, List, length, Some, None, Option, sym, ap, ◌∙◌, subst, inl, inr, lt_of_le_of_lt, mod-eq_of_lt, eq-zero-or-pos, mul-le-mul, arith, lit<, w64, Fits}
use Rattle.alphabet.specs.Arithmetic.{Arithmetic, Lawful}
use Rattle.alphabet.specs.Field.{FieldArithmetic, FieldLaws}
use Rattle.code.specs.Words.{Filled, Word}
use Rattle.code.specs.Calls.{item, Corrects, AllFar}
use Rattle.std.proofs.lemmas.Option.{slice_get_past}
use Rattle.plane.specs.Plane.{plane_over, plane}
use Rattle.plane.specs.Lines.{SumsOf, Inverts}
use Rattle.plane.specs.declared.three_sums.Sums.{Sums}
use Rattle.plane.specs.Information.{two_rows, length_information, item_low, item_high}
use Rattle.plane.proofs.Correcting.{levels_below, already_corrects, all_far}

some_not_none : (x : ℕ) (o : Option ℕ) → o ≡ Some x → o ≡ None → ⊥
some_not_none x o p q = let z : ◌≡◌ {A = ℕ} 0 1 = cc in omega arith

some_same : (x y : ℕ) (o : Option ℕ) → o ≡ Some x → o ≡ Some y → x ≡ y
some_same x y o p q = cc

module _ (f : FieldArithmetic) (l : FieldLaws f) where
  -- there are more cells than check cells
  pub more_than_checks : (n : ℕ) → n ≡ (plane f).cells → 3 ≤ n
  more_than_checks n is = omega (arith, l.three, two_rows f.arithmetic.size l.lawful.two)

  pub information_count : (n : ℕ) → n ≡ (plane f).cells → n - 3 ≡ length (plane f).information
  information_count n is = omega (arith, length_information f.arithmetic.size l.lawful.two)

  pub item_absent : (d i : ℕ) → d ≡ length (plane f).information → d ≤ i → None ≡ item (plane f).information i
  item_absent d i is past = sym (slice_get_past (plane f).information i (omega arith))

  pub later_fits : (d i : ℕ) → d ≡ length (plane f).information → i < d → Fits w64 (i + 3)
  later_fits d i is h =
      let most : f.arithmetic.size * f.arithmetic.size ≤ 256 = mul-le-mul l.lawful.sixteen l.lawful.sixteen in
      let below : i + 3 ≤ 256 = omega (arith, length_information f.arithmetic.size l.lawful.two) in
      record { fits = lt_of_le_of_lt below (lit< tt) }

module _ (f : FieldArithmetic) (l : FieldLaws f) (m : Arithmetic) (agrees : f.arithmetic ≡ m) where
  lawful : Lawful m
  lawful = subst Lawful agrees l.lawful

  same_size : (q : ℕ) → q ≡ m.size → q ≡ f.arithmetic.size
  same_size q same = same ∙ sym (ap (λ k. k.size) agrees)

  pub item_later : (q d i : ℕ) → q ≡ m.size → d ≡ length (plane f).information → q - 2 ≤ i → i < d → Some (i + 3) ≡ item (plane f).information i
  item_later q d i same is past h =
      sym (item_high f.arithmetic.size l.lawful.two i (omega (arith, same_size q same)) (omega (arith, length_information f.arithmetic.size l.lawful.two)))

  pub item_first : (q i : ℕ) → q ≡ m.size → i < q - 2 → Some (i + 2) ≡ item (plane f).information i
  item_first q i same h = sym (item_low f.arithmetic.size l.lawful.two i (omega (arith, same_size q same)))

  -- the inverse of a symbol other than 0
  there : (s : ℕ) → s < m.size → (s ≡ 0 → ⊥) → (t : ℕ) × Inverts m s t × (f.inverse (s % f.arithmetic.size) ≡ Some t)
  there s below not =
      let h : s < f.arithmetic.size = omega (arith, ap (λ k. k.size) agrees) in
      let positive : 0 < s = elim (eq-zero-or-pos s) [ inl none ↦ absurd (not none) | inr pos ↦ pos ] in
      let x = l.inverses s positive h in (
        x.0,
        record {
          below = subst (λ (k : Arithmetic). x.0 < k.size) agrees x.1;
          one = subst (λ (k : Arithmetic). k.product s x.0 ≡ 1) agrees x.3;
        },
        ap f.inverse (mod-eq_of_lt h) ∙ x.2,
      )

  -- a word that passed the tests, and its sums
  module _ (n q : ℕ) (word : List ℕ) (long : n ≡ (plane f).cells) (same : q ≡ m.size) (filled : Filled n q word) (sums : Sums) (are : SumsOf m word sums) where
    pub fit : Word (plane_over m) word
    fit =
        let cells : n ≡ m.size * m.size = long ∙ ap (λ k. k.size * k.size) agrees in
        subst (λ (k : ℕ). Filled (m.size * m.size) k word) same (subst (λ (k : ℕ). Filled k q word) cells filled)

    -- the field finds an inverse of the levels' sum if that is not 0
    pub found_inverts : (t : ℕ) → (sums.levels ≡ 0 → ⊥) → Some t ≡ f.inverse (sums.levels % f.arithmetic.size) → Inverts m sums.levels t
    found_inverts t not found =
        let x = there sums.levels (levels_below m lawful word fit sums are) not in
        subst (Inverts m sums.levels) (some_same x.0 t (f.inverse (sums.levels % f.arithmetic.size)) x.2 (sym found)) x.1

    pub never_none : (sums.levels ≡ 0 → ⊥) → None ≡ f.inverse (sums.levels % f.arithmetic.size) → ⊥
    never_none not none =
        let x = there sums.levels (levels_below m lawful word fit sums are) not in
        some_not_none x.0 (f.inverse (sums.levels % f.arithmetic.size)) x.2 (sym none)

    pub already : sums.levels ≡ 0 → sums.rows ≡ 0 → sums.columns ≡ 0 → Corrects (plane f) word 0 word
    already s r c = subst (λ (k : Arithmetic). Corrects (plane_over k) word 0 word) (sym agrees) (already_corrects m lawful word fit sums are s r c)

    pub too_far : sums.levels ≡ 0 → (sums.rows ≡ 0 → sums.columns ≡ 0 → ⊥) → Word (plane f) word × AllFar (plane f) word
    too_far s others = subst (λ (k : Arithmetic). Word (plane_over k) word × AllFar (plane_over k) word) (sym agrees) (fit, all_far m lawful word fit sums are s others)
