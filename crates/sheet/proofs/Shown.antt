-- What four columns show: the columns of a number, case by case, and back.
use Rattle.std.proofs.Common.{◌≡◌, ℕ, ◌+◌, ◌-◌, ◌/◌, ◌%◌, ◌<◌, ◌≤◌, eqb, ◌⊎◌, List, [], ◌∷◌, ◌++◌, map, length, get_or, take, drop, replicate, Some, None, Option, sym, refl, ap, ◌∙◌, subst, inl, inr, ⊎_elim, arith, length-append, length-take, MatchOption}
use lib.ListN.{length-replicate}
use Rattle.std.specs.Int.Digits.{digits_of}
use Rattle.std.proofs.lemmas.Int.Digits.{digits_of_step}
use Rattle.std.proofs.lemmas.List.{map_push, length_push, take_rest}
use Rattle.std.proofs.lemmas.Bool.{cases_lt, cond-false, ne_eqb}
use Rattle.sheet.specs.Fields.{digits, pad, Shows, Field, IllFormed}

some : (v : ℕ) → 0 < v → digits v ≡ map (λ d. 48 + d) (digits_of 10 v)
some v h = cond-false (eqb v 0) _ _ (ne_eqb v 0 (λ e. omega arith))

pub digits_one : (v : ℕ) → v < 10 → digits v ≡ (48 + v) ∷ []
digits_one v h =
    ⊎_elim
    (λ z. let e : v ≡ 0 = omega arith in subst (λ n. digits n ≡ (48 + n) ∷ []) (sym e) refl)
    (λ p.
    let q : v / 10 ≡ 0 = omega arith in
    let m : v % 10 ≡ v = omega arith in
    some v p ∙ ap (map (λ d. 48 + d)) (digits_of_step 10 v (omega arith) p ∙ (λ i. digits_of 10 (q i) ++ (m i ∷ []))))
    (cases_lt v 1)

pub digits_more : (v : ℕ) → 10 ≤ v → digits v ≡ digits (v / 10) ++ ((48 + v % 10) ∷ [])
digits_more v h =
    let p : 0 < v = omega arith in
    let q : 0 < v / 10 = omega arith in
    some v p ∙ ap (map (λ d. 48 + d)) (digits_of_step 10 v (omega arith) p) ∙ map_push (λ d. 48 + d) (digits_of 10 (v / 10)) (v % 10) ∙ ap (λ l. l ++ ((48 + v % 10) ∷ [])) (sym (some (v / 10) q))

digits_two : (v : ℕ) → 10 ≤ v → v < 100 → digits v ≡ (48 + v / 10) ∷ (48 + v % 10) ∷ []
digits_two v l h = digits_more v l ∙ ap (λ l. l ++ ((48 + v % 10) ∷ [])) (digits_one (v / 10) (omega arith))

digits_three : (v : ℕ) → 100 ≤ v → v < 1000 → digits v ≡ (48 + v / 10 / 10) ∷ (48 + v / 10 % 10) ∷ (48 + v % 10) ∷ []
digits_three v l h = digits_more v (omega arith) ∙ ap (λ l. l ++ ((48 + v % 10) ∷ [])) (digits_two (v / 10) (omega arith) (omega arith))

digits_four : (v : ℕ) → 1000 ≤ v → v < 10000 → digits v ≡ (48 + v / 10 / 10 / 10) ∷ (48 + v / 10 / 10 % 10) ∷ (48 + v / 10 % 10) ∷ (48 + v % 10) ∷ []
digits_four v l h = digits_more v (omega arith) ∙ ap (λ l. l ++ ((48 + v % 10) ∷ [])) (digits_three (v / 10) (omega arith) (omega arith))

-- each number has a digit, and ten times a number one more
pub digits_some : (v : ℕ) → 1 ≤ length (digits v)
digits_some v =
    ⊎_elim
    (λ l. omega (arith, ap length (digits_one v l)))
    (λ l. omega (arith, ap length (digits_more v l), length_push (digits (v / 10)) (48 + v % 10)))
    (cases_lt v 10)

longer : (n v : ℕ) → n ≤ length (digits (v / 10)) → 10 ≤ v → n + 1 ≤ length (digits v)
longer n v h l = omega (arith, ap length (digits_more v l), length_push (digits (v / 10)) (48 + v % 10))

digits_long : (v : ℕ) → 10000 ≤ v → 5 ≤ length (digits v)
digits_long v l =
    longer 4 v (longer 3 (v / 10) (longer 2 (v / 10 / 10) (longer 1 (v / 10 / 10 / 10) (digits_some (v / 10 / 10 / 10 / 10)) (omega arith)) (omega arith)) (omega arith)) (omega arith)

-- the columns of v
abbrev pub Forms : ℕ → ℕ → ℕ → ℕ → ℕ → Type 0
Forms w x y z v =
    ((w ≡ 32) × (x ≡ 32) × (y ≡ 32) × (z ≡ 48 + v) × (v < 10))
    ⊎ (((w ≡ 32) × (x ≡ 32) × (y ≡ 48 + v / 10) × (z ≡ 48 + v % 10) × (10 ≤ v) × (v < 100))
    ⊎ (((w ≡ 32) × (x ≡ 48 + v / 10 / 10) × (y ≡ 48 + v / 10 % 10) × (z ≡ 48 + v % 10) × (100 ≤ v) × (v < 1000))
    ⊎ ((w ≡ 48 + v / 10 / 10 / 10) × (x ≡ 48 + v / 10 / 10 % 10) × (y ≡ 48 + v / 10 % 10) × (z ≡ 48 + v % 10) × (1000 ≤ v) × (v < 10000))))

four : (w x y z a b c d : ℕ) → w ≡ a → x ≡ b → y ≡ c → z ≡ d → w ∷ x ∷ y ∷ z ∷ [] ≡ a ∷ b ∷ c ∷ d ∷ []
four w x y z a b c d p q r s = cc

pub shown : (w x y z v : ℕ) → Forms w x y z v → Shows (w ∷ x ∷ y ∷ z ∷ []) v
unfolding Shows
shown w x y z v =
    ⊎_elim (λ h. four _ _ _ _ _ _ _ _ h.0 h.1 h.2 h.3 ∙ sym (ap pad (digits_one v h.4)))
    (⊎_elim (λ h. four _ _ _ _ _ _ _ _ h.0 h.1 h.2 h.3 ∙ sym (ap pad (digits_two v h.4 h.5)))
    (⊎_elim (λ h. four _ _ _ _ _ _ _ _ h.0 h.1 h.2 h.3 ∙ sym (ap pad (digits_three v h.4 h.5)))
    (λ h. four _ _ _ _ _ _ _ _ h.0 h.1 h.2 h.3 ∙ sym (ap pad (digits_four v h.4 h.5)))))

parts : (w x y z a b c d : ℕ) → w ∷ x ∷ y ∷ z ∷ [] ≡ a ∷ b ∷ c ∷ d ∷ [] → (w ≡ a) × (x ≡ b) × (y ≡ c) × (z ≡ d)
parts w x y z a b c d e = (cc, cc, cc, cc)

pub forms : (w x y z v : ℕ) → Shows (w ∷ x ∷ y ∷ z ∷ []) v → Forms w x y z v
unfolding Shows
forms w x y z v e =
    ⊎_elim
    (λ l. let p = parts _ _ _ _ _ _ _ _ (e ∙ ap pad (digits_one v l)) in inl (p.0, p.1, p.2, p.3, l))
    (λ g. ⊎_elim
    (λ l. let p = parts _ _ _ _ _ _ _ _ (e ∙ ap pad (digits_two v g l)) in inr (inl (p.0, p.1, p.2, p.3, g, l)))
    (λ g. ⊎_elim
    (λ l. let p = parts _ _ _ _ _ _ _ _ (e ∙ ap pad (digits_three v g l)) in inr (inr (inl (p.0, p.1, p.2, p.3, g, l))))
    (λ g. ⊎_elim
    (λ l. let p = parts _ _ _ _ _ _ _ _ (e ∙ ap pad (digits_four v g l)) in inr (inr (inr (p.0, p.1, p.2, p.3, g, l))))
    (λ g. absurd (omega (arith, digits_long v g, ap length e, length-append (replicate (4 - length (digits v)) 32) (digits v))))
    (cases_lt v 10000))
    (cases_lt v 1000))
    (cases_lt v 100))
    (cases_lt v 10)

-- the columns of an array of four
abbrev pub FormsOf : List ℕ → ℕ → Type 0
FormsOf cs v = Forms (get_or cs 0 0) (get_or cs 1 0) (get_or cs 2 0) (get_or cs 3 0) v

four_columns : (cs : List ℕ) → length cs ≡ 4 → cs ≡ get_or cs 0 0 ∷ get_or cs 1 0 ∷ get_or cs 2 0 ∷ get_or cs 3 0 ∷ []
four_columns [] l = absurd (omega arith)
four_columns (w ∷ []) l = absurd (omega arith)
four_columns (w ∷ x ∷ []) l = absurd (omega arith)
four_columns (w ∷ x ∷ y ∷ []) l = absurd (omega arith)
four_columns (w ∷ x ∷ y ∷ z ∷ []) l = refl
four_columns (w ∷ x ∷ y ∷ z ∷ u ∷ cs) l = absurd (omega arith)

-- four columns show none
pub refused : (cs : List ℕ) (r : Option ℕ) → length cs ≡ 4 → r ≡ None → ((v : ℕ) → FormsOf cs v → ⊥) → Field cs r
refused cs r l e never = subst (Field cs) (sym e) (λ v s. never v (forms _ _ _ _ v (subst (λ k. Shows k v) (four_columns cs l) s)))

-- what four columns show, by the last step
pub told : (cs : List ℕ) (r : Option ℕ) {P : Type 0} {Q : ℕ → Type 0} → length cs ≡ 4 → MatchOption r P Q → (P → (v : ℕ) → FormsOf cs v → ⊥) → ((v : ℕ) → Q v → FormsOf cs v) → Field cs r
told cs (Some v) l h never f = subst (λ k. Shows k v) (sym (four_columns cs l)) (shown _ _ _ _ v (f v h))
told cs None l h never f = refused cs None l refl (never h)

-- what a slice pattern of four columns and the rest knows
pub front_is : (xs : List ℕ) (a b c d : ℕ) → 4 ≤ length xs → get_or xs 0 0 ≡ a → get_or xs 1 0 ≡ b → get_or xs 2 0 ≡ c → get_or xs 3 0 ≡ d → (take 4 xs ≡ a ∷ b ∷ c ∷ d ∷ []) × (take (length xs - 4) (drop 4 xs) ≡ drop 4 xs)
front_is [] a b c d l p q r s = absurd (omega arith)
front_is (w ∷ []) a b c d l p q r s = absurd (omega arith)
front_is (w ∷ x ∷ []) a b c d l p q r s = absurd (omega arith)
front_is (w ∷ x ∷ y ∷ []) a b c d l p q r s = absurd (omega arith)
front_is (w ∷ x ∷ y ∷ z ∷ xs) a b c d l p q r s = (cc, take_rest (w ∷ x ∷ y ∷ z ∷ xs) 4)

-- a number has at least four columns
pub shown_long : (cs : List ℕ) (v : ℕ) → Shows cs v → 4 ≤ length cs
unfolding Shows
shown_long cs v e = omega (arith, ap length e, length-append (replicate (4 - length (digits v)) 32) (digits v), length-replicate {A = ℕ} (4 - length (digits v)) 32)

-- fewer show none
pub too_short : (cs : List ℕ) → length cs < 4 → IllFormed (take 4 cs)
too_short cs l v s = omega (arith, shown_long (take 4 cs) v s, length-take 4 cs)

-- the letters of a front that is known
pub letters : (xs : List ℕ) (a b c d : ℕ) → take 4 xs ≡ a ∷ b ∷ c ∷ d ∷ [] → (4 ≤ length xs) × (get_or xs 0 0 ≡ a) × (get_or xs 1 0 ≡ b) × (get_or xs 2 0 ≡ c) × (get_or xs 3 0 ≡ d)
letters [] a b c d e = absurd (omega (arith, ap length e))
letters (w ∷ []) a b c d e = absurd (omega (arith, ap length e))
letters (w ∷ x ∷ []) a b c d e = absurd (omega (arith, ap length e))
letters (w ∷ x ∷ y ∷ []) a b c d e = absurd (omega (arith, ap length e))
letters (w ∷ x ∷ y ∷ z ∷ xs) a b c d e = (omega arith, cc, cc, cc, cc)

-- four columns show a number below 10,000
pub shown_small : (cs : List ℕ) (v : ℕ) → Shows (take 4 cs) v → v < 10000
unfolding Shows
shown_small cs v e =
    ⊎_elim
    (λ l. l)
    (λ g. absurd (omega (arith, digits_long v g, ap length e, length-take 4 cs, length-append (replicate (4 - length (digits v)) 32) (digits v))))
    (cases_lt v 10000)
