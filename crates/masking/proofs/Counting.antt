-- Sums over the numbers below n, and the pigeonhole law. Assumes nothing.
use Rattle.std.proofs.Common.{◌≡◌, ℕ, zero, suc, ◌+◌, ◌-◌, ◌*◌, ◌<◌, ◌≤◌, ◌⊎◌, sym, refl, ap, ◌∙◌, inl, inr, ⊎_elim, suc-mul, mul-suc, arith}
use Rattle.std.proofs.lemmas.Bool.{cases_lt}
use Rattle.std.proofs.lemmas.Bool.Decides.{nat_tests}
use Rattle.code.specs.Differences.{differ, differ_way}
use Rattle.masking.proofs.Unmet.{missed, missed_way}

-- f 0 + .. + f (n - 1)
pub over : ℕ → (ℕ → ℕ) → ℕ
over zero f = 0
over (suc n) f = over n f + f n

pub over_add : (n : ℕ) (f g : ℕ → ℕ) → over n (λ z. f z + g z) ≡ over n f + over n g
unfolding over
over_add zero f g = refl
over_add (suc n) f g = omega (arith, over_add n f g)

pub over_none : (n : ℕ) → over n (λ z. 0) ≡ 0
unfolding over
over_none zero = refl
over_none (suc n) = omega (arith, over_none n)

-- how often f takes the value s: 1 - differ (f z) s is 1 where it does
hits : ℕ → ℕ → ℕ
hits x s = 1 - differ x s

hits_none : (n s : ℕ) (f : ℕ → ℕ) → ((z : ℕ) → z < n → f z ≡ s → ⊥) → over n (λ z. hits (f z) s) ≡ 0
unfolding over hits
hits_none zero s f none = refl
hits_none (suc n) s f none =
    let before = hits_none n s f (λ z l. none z (omega arith)) in
    ⊎_elim (λ w. absurd (none n (omega arith) w.0)) (λ w. omega (arith, before, w.1)) (differ_way (f n) s)

-- no two of the numbers below n have the same f
abbrev pub Once : ℕ → (ℕ → ℕ) → Type 0
Once n f = (y z : ℕ) → y < n → z < n → f y ≡ f z → y ≡ z

hits_once : (n s : ℕ) (f : ℕ → ℕ) → Once n f → over n (λ z. hits (f z) s) ≤ 1
unfolding over hits
hits_once zero s f once = omega arith
hits_once (suc n) s f once =
    ⊎_elim
    (λ w. omega (arith, w.1, hits_none n s f (λ z l e. omega (arith, l, once z n (omega arith) (omega arith) (e ∙ sym w.0)))))
    (λ w. omega (arith, w.1, hits_once n s f (λ y z k l e. once y z (omega arith) (omega arith) e)))
    (differ_way (f n) s)

missed_more : (x s : ℕ) → missed x (suc s) ≡ missed x s + hits x s
unfolding hits
missed_more x s = grind (arith, nat_tests)

over_missed_more : (n s : ℕ) (f : ℕ → ℕ) → over n (λ z. missed (f z) (suc s)) ≡ over n (λ z. missed (f z) s) + over n (λ z. hits (f z) s)
unfolding over
over_missed_more zero s f = refl
over_missed_more (suc n) s f = omega (arith, over_missed_more n s f, missed_more (f n) s)

over_missed_zero : (n : ℕ) (f : ℕ → ℕ) → over n (λ z. missed (f z) 0) ≡ 0
unfolding over
over_missed_zero zero f = refl
over_missed_zero (suc n) f = ⊎_elim (λ a. absurd (omega (arith, a.0))) (λ a. omega (arith, a.1, over_missed_zero n f)) (missed_way (f n) 0)

-- numbers that are all different are below s at most s times
pub over_missed : (n s : ℕ) (f : ℕ → ℕ) → Once n f → over n (λ z. missed (f z) s) ≤ s
over_missed n zero f once = omega (arith, over_missed_zero n f)
over_missed n (suc s) f once = omega (arith, over_missed_more n s f, over_missed n s f once, hits_once n s f once)

-- some z below n has u z at most f, or the sum is large
pub find : (n f : ℕ) (u : ℕ → ℕ) → ((z : ℕ) × (z < n) × (u z ≤ f)) ⊎ (n * suc f ≤ over n u)
unfolding over
find zero f u = inr (omega arith)
find (suc n) f u =
    ⊎_elim
    (λ l. inl (l.0, omega (arith, l.1), l.2))
    (λ big. ⊎_elim (λ l. inr (omega (arith, big, suc-mul n (suc f)))) (λ l. inl (n, omega arith, l)) (cases_lt f (u n)))
    (find n f u)

pub pigeon : (n f t : ℕ) (u : ℕ → ℕ) → 0 < n → over n u ≤ t → t ≤ n - 1 + n * f → (z : ℕ) × (z < n) × (u z ≤ f)
pigeon n f t u some small few = ⊎_elim (λ l. l) (λ big. absurd (omega (arith, big, mul-suc n f))) (find n f u)

-- the lowest of the numbers up to n at which u is least
pub record Least (n : ℕ) (u : ℕ → ℕ) : Type 0 where
  pub place : ℕ
  pub below : place < n
  pub least : (y : ℕ) → y < n → u place ≤ u y
  pub lowest : (y : ℕ) → y < place → u place < u y

pub least_of : (n : ℕ) (u : ℕ → ℕ) → Least (suc n) u
least_of zero u = record { place = 0; below = omega arith; least = λ y l. omega (arith, ap u {x = 0} {y = y} (omega arith)); lowest = λ y l. absurd (omega arith) }
least_of (suc n) u =
    let r = least_of n u in
    ⊎_elim
    (λ l. record {
      place = suc n;
      below = omega arith;
      least = λ y h. ⊎_elim (λ k. omega (arith, l, r.least y k)) (λ k. omega (arith, ap u {x = suc n} {y = y} (omega arith))) (cases_lt y (suc n));
      lowest = λ y h. omega (arith, l, r.least y (omega arith));
    })
    (λ l. record {
      place = r.place;
      below = omega (arith, r.below);
      least = λ y h. ⊎_elim (λ k. r.least y k) (λ k. omega (arith, l, ap u {x = suc n} {y = y} (omega arith))) (cases_lt y (suc n));
      lowest = r.lowest;
    })
    (cases_lt (u (suc n)) (u r.place))
