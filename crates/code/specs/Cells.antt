-- Tests of all cells, and what stands in the cells that a list names. Assumes nothing.
use Rattle.std.specs.Prelude.{◌≡◌, ℕ, zero, suc, ◌<◌, ◌≤◌, true, List, [], ◌∷◌, map, length, Some, None, nat_lt, slice_index, slice_index_or, slice_set, refl}
use Rattle.std.proofs.Common.{ap, ap₂, sym, ◌∙◌, subst, inl, inr, ⊎_elim, arith}
use Rattle.std.proofs.lemmas.List.{length-set, get_or-set_same, get_or-set_other, get_or-map, get_or_past}
use Rattle.std.proofs.lemmas.Bool.{and_parts, and_from, ltb-true, lt-ltb, cases_eq, cases_lt}
use Rattle.std.proofs.lemmas.Option.{get_or_from_slice_get, slice_get-get_or, slice_get_within}
use Rattle.code.specs.Words.{symbols_at, first, rest}
use Rattle.code.specs.Calls.{item}
use Rattle.code.specs.Bare.{all_below}

-- each number is below q
abbrev pub Below : ℕ → List ℕ → Type 0
Below q w = (i : ℕ) → i < length w → slice_index w i < q

pub below_each : (q : ℕ) (w : List ℕ) → all_below q w ≡ true → Below q w
below_each q [] t i h = absurd (omega arith)
below_each q (x ∷ xs) t zero h = ltb-true x q (and_parts (nat_lt x q) (all_below q xs) t).0
below_each q (x ∷ xs) t (suc i) h = below_each q xs (and_parts (nat_lt x q) (all_below q xs) t).1 i (omega arith)

pub each_below : (q : ℕ) (w : List ℕ) → Below q w → all_below q w ≡ true
each_below q [] h = refl
each_below q (x ∷ xs) h = and_from (nat_lt x q) (all_below q xs) (lt-ltb x q (h 0 (omega arith))) (each_below q xs (λ i l. h (suc i) (omega arith)))

-- past the end of a list stands 0, which is a symbol too
pub below_anywhere : (q : ℕ) (xs : List ℕ) → 0 < q → Below q xs → (i : ℕ) → slice_index xs i < q
below_anywhere q xs some low i = ⊎_elim (λ l. low i l) (λ l. omega (arith, get_or_past xs i 0 l)) (cases_lt i (length xs))

pub below_set : (q : ℕ) (w : List ℕ) (k x : ℕ) → Below q w → x < q → Below q (slice_set w k x)
below_set q w k x low small i l =
    let inside : i < length w = omega (arith, length-set w k x) in
    elim (cases_eq i k) [
      | inl here ↦ let read : slice_index_or (slice_set w k x) i 0 ≡ x = ap (λ (j : ℕ). slice_index (slice_set w k x) j) here ∙ get_or-set_same w k x 0 (omega arith) in omega arith
      | inr other ↦ subst (λ (y : ℕ). y < q) (sym (get_or-set_other w k i x 0 other)) (low i inside)
    ]

pub item_found : (xs : List ℕ) (i x : ℕ) → Some x ≡ item xs i → (i < length xs) × (x ≡ slice_index xs i)
item_found xs i x e = (slice_get_within xs i x (sym e), sym (get_or_from_slice_get xs i x 0 (sym e)))

pub item_missing : (xs : List ℕ) (i : ℕ) → None ≡ item xs i → length xs ≤ i
item_missing xs i e = ⊎_elim (λ l. absurd (let some : Some (slice_index xs i) ≡ None = sym (slice_get-get_or xs i 0 l) ∙ sym e in cc)) (λ past. past) (cases_lt i (length xs))

pub length_at : (w is : List ℕ) → length (symbols_at w is) ≡ length is
length_at w [] = refl
length_at w (i ∷ is) = ap suc (length_at w is)

pub slice_index_at : (w is : List ℕ) (k : ℕ) → k < length is → slice_index (symbols_at w is) k ≡ slice_index w (slice_index is k)
slice_index_at w [] k h = absurd (omega arith)
slice_index_at w (i ∷ is) zero h = refl
slice_index_at w (i ∷ is) (suc k) h = slice_index_at w is k (omega arith)

pub at_below : (q : ℕ) (w is : List ℕ) → ((i : ℕ) → slice_index w i < q) → Below q (symbols_at w is)
at_below q w [] low i l = absurd (omega arith)
at_below q w (j ∷ is) low zero l = low j
at_below q w (j ∷ is) low (suc i) l = at_below q w is low i (omega arith)

pub at_map : (f : ℕ → ℕ) (w is : List ℕ) → ((i : ℕ) → i < length is → slice_index is i < length w) → symbols_at (map f w) is ≡ map f (symbols_at w is)
at_map f w [] within = refl
at_map f w (j ∷ is) within =
    let here : slice_index_or (map f w) j 0 ≡ f (slice_index w j) = get_or-map f w j 0 0 (within 0 (omega arith)) in
    let more : symbols_at (map f w) is ≡ map f (symbols_at w is) = at_map f w is (λ i l. within (suc i) (omega arith)) in
    ap₂ (λ a b. a ∷ b) here more

-- a list that is not empty is its first and its rest
pub at_split : (w is : List ℕ) → 1 ≤ length is → symbols_at w is ≡ slice_index w (first is) ∷ symbols_at w (rest is)
at_split w [] some = absurd (omega arith)
at_split w (i ∷ is) some = refl

pub length_rest : (is : List ℕ) → 1 ≤ length is → length is ≡ suc (length (rest is))
length_rest [] some = absurd (omega arith)
length_rest (i ∷ is) some = refl

pub first_within : (n : ℕ) (is : List ℕ) → 1 ≤ length is → ((i : ℕ) → i < length is → slice_index is i < n) → first is < n
first_within n [] some within = absurd (omega arith)
first_within n (i ∷ is) some within = within 0 (omega arith)

pub rest_within : (n : ℕ) (is : List ℕ) → ((i : ℕ) → i < length is → slice_index is i < n) → (i : ℕ) → i < length (rest is) → slice_index (rest is) i < n
rest_within n [] within i l = absurd (omega arith)
rest_within n (j ∷ is) within i l = within (suc i) (omega arith)
