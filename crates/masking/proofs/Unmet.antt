-- The cells of a word that are below their floors, and the word with them raised. Assumes nothing.
use Rattle.std.proofs.Common.{◌≡◌, ℕ, zero, suc, ◌<◌, ◌≤◌, max, cond, ltb, ◌⊎◌, List, [], ◌∷◌, length, get_or, refl, ap, inl, inr, ⊎_elim, arith}
use Rattle.std.proofs.lemmas.Bool.{lt-ltb, le-ltb, cases_lt}
use Rattle.code.specs.Words.{differences}
use Rattle.masking.specs.Floors.{unmet, raised}
use Rattle.code.specs.Differences.{differ_same, differ_other, differences_self}

-- what a cell that holds x adds under the floor s
abbrev pub missed : ℕ → ℕ → ℕ
missed x s = cond (ltb x s) 1 0

pub missed_below : (x s : ℕ) → x < s → missed x s ≡ 1
missed_below x s l = ap {B = ℕ} (λ b. cond b 1 0) (lt-ltb x s l)

pub missed_met : (x s : ℕ) → s ≤ x → missed x s ≡ 0
missed_met x s l = ap {B = ℕ} (λ b. cond b 1 0) (le-ltb x s l)

pub missed_way : (x s : ℕ) → ((x < s) × (missed x s ≡ 1)) ⊎ ((s ≤ x) × (missed x s ≡ 0))
missed_way x s = ⊎_elim (λ l. inl (l, missed_below x s l)) (λ l. inr (l, missed_met x s l)) (cases_lt x s)

-- a word that meets the floors differs from a carrier wherever that one does not
pub unmet_differ : (floors word carrier : List ℕ) → length word ≡ length carrier → ((i : ℕ) → i < length word → get_or floors i 0 ≤ get_or word i 0) → unmet floors carrier ≤ differences word carrier
unmet_differ [] word carrier e h = omega arith
unmet_differ (s ∷ ss) [] [] e h = omega arith
unmet_differ (s ∷ ss) [] (c ∷ cs) e h = absurd (omega arith)
unmet_differ (s ∷ ss) (w ∷ ws) [] e h = absurd (omega arith)
unmet_differ (s ∷ ss) (w ∷ ws) (c ∷ cs) e h =
    let more = unmet_differ ss ws cs (omega arith) (λ i l. h (suc i) (omega arith)) in
    let here = h 0 (omega arith) in
    ⊎_elim (λ m. omega (arith, m.1, more, differ_other w c (λ d. omega (arith, m.0)))) (λ m. omega (arith, m.1, more)) (missed_way c s)

pub length_raised : (floors xs : List ℕ) → length (raised floors xs) ≡ length xs
length_raised [] xs = refl
length_raised (s ∷ ss) [] = refl
length_raised (s ∷ ss) (x ∷ xs) = ap suc (length_raised ss xs)

pub get_or_raised : (floors xs : List ℕ) (i : ℕ) → i < length xs → get_or (raised floors xs) i 0 ≡ max (get_or floors i 0) (get_or xs i 0)
get_or_raised [] xs i l = omega arith
get_or_raised (s ∷ ss) [] i l = absurd (omega arith)
get_or_raised (s ∷ ss) (x ∷ xs) zero l = refl
get_or_raised (s ∷ ss) (x ∷ xs) (suc i) l = get_or_raised ss xs i (omega arith)

pub differences_raised : (floors xs : List ℕ) → differences (raised floors xs) xs ≡ unmet floors xs
differences_raised [] xs = differences_self xs
differences_raised (s ∷ ss) [] = refl
differences_raised (s ∷ ss) (x ∷ xs) =
    ⊎_elim
    (λ m. omega (arith, m.1, differences_raised ss xs, differ_other (max s x) x (λ d. omega (arith, m.0))))
    (λ m. omega (arith, m.1, differences_raised ss xs, differ_same (max s x) x (omega (arith, m.0))))
    (missed_way x s)
