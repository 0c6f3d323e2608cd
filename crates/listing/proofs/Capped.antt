-- A save of symbols that were capped to bytes is a save of the symbols themselves: what does not fit a byte is no symbol either way.
use Rattle.std.proofs.Common.{◌≡◌, ℕ, zero, suc, ◌<◌, ◌≤◌, List, [], ◌∷◌, map, length, get_or, sym, refl, ap, ◌∙◌, subst, ⊎_elim, arith}
use native.Mathlib.Nat.{min-eq_left, min-eq_right}
use Rattle.std.proofs.lemmas.List.{length-map}
use Rattle.std.proofs.lemmas.Bool.{cases_lt}
use Rattle.code.specs.Calls.{FirstBad}
use Rattle.ledger.specs.Ledger.{Made, Page, BenchCall, Call, save, Answer, refused, Step, save_no_page, save_wrong_length, save_no_symbol, save_no_mask, saved, InService}
use Rattle.listing.specs.Serving.{capped}

capped_below : (v size : ℕ) → size ≤ 16 → capped v < size → v ≡ capped v
capped_below v size few l =
    ⊎_elim (λ small. sym (min-eq_left (omega arith))) (λ large. let e : capped v ≡ 255 = min-eq_right (omega arith) in absurd (omega arith)) (cases_lt v 255)

capped_above : (v size : ℕ) → size ≤ capped v → size ≤ v
capped_above v size l =
    ⊎_elim (λ small. let e : capped v ≡ v = min-eq_left (omega arith) in omega arith) (λ large. let e : capped v ≡ 255 = min-eq_right (omega arith) in omega arith) (cases_lt v 255)

capped_at : (m : List ℕ) (i : ℕ) → get_or (map capped m) i 0 ≡ capped (get_or m i 0)
capped_at [] i = refl
capped_at (x ∷ m) zero = refl
capped_at (x ∷ m) (suc i) = capped_at m i

-- symbols are bytes
all_bytes : (m : List ℕ) (size : ℕ) → size ≤ 16 → ((i : ℕ) → i < length (map capped m) → get_or (map capped m) i 0 < size) → map capped m ≡ m
all_bytes [] size few low = refl
all_bytes (x ∷ m) size few low =
    let head : x ≡ capped x = capped_below x size few (low 0 (omega arith)) in
    let tail : map capped m ≡ m = all_bytes m size few (λ i l. low (suc i) (omega arith)) in
    cc

first_bad : (m : List ℕ) (size i : ℕ) → size ≤ 16 → FirstBad size (map capped m) i → FirstBad size m i
first_bad m size i few bad = record {
  within = omega (arith, bad.within, length-map m capped);
  bad = capped_above (get_or m i 0) size (subst (λ v. size ≤ v) (capped_at m i) bad.bad);
  before = λ k l.
      let low : capped (get_or m k 0) < size = subst (λ v. v < size) (capped_at m k) (bad.before k l) in
      subst (λ v. v < size) (sym (capped_below (get_or m k 0) size few low)) low;
}

module _ (made : Made) (few : made.code.arithmetic.size ≤ 16) where
  uncapped : (l : List Page) (p : ℕ) (bytes m : List ℕ) (a : Answer) (l' : List Page) → bytes ≡ map capped m → Step made l (save p bytes) a l' → Step made l (save p m) a l'
  uncapped l p bytes m a l' e (save_no_page _ _ _ none) = save_no_page l p m none
  uncapped l p bytes m a l' e (save_wrong_length _ _ _ there wrong) =
      let long : length bytes ≡ length m = ap length e ∙ length-map m capped in
      subst (λ n. Step made l (save p m) (refused 7 2 n) l) (sym long) (save_wrong_length l p m there (λ h. wrong (long ∙ h)))
  uncapped l p bytes m a l' e (save_no_symbol _ _ _ i there whole first) =
      save_no_symbol l p m i there (sym (ap length e ∙ length-map m capped) ∙ whole) (first_bad m made.code.arithmetic.size i few (subst (λ k. FirstBad made.code.arithmetic.size k i) e first))
  uncapped l p bytes m a l' e (save_no_mask _ _ _ y z w there message fewest over) =
      let same : bytes ≡ m = e ∙ all_bytes m made.code.arithmetic.size few (subst (λ k. (i : ℕ) → i < length k → get_or k i 0 < made.code.arithmetic.size) e message.symbols) in
      subst (λ k. Step made l (save p k) a l') same (save_no_mask l p bytes y z w there message fewest over)
  uncapped l p bytes m a l' e (saved _ _ _ y z w there message writes) =
      let same : bytes ≡ m = e ∙ all_bytes m made.code.arithmetic.size few (subst (λ k. (i : ℕ) → i < length k → get_or k i 0 < made.code.arithmetic.size) e message.symbols) in
      subst (λ k. Step made l (save p k) a l') same (saved l p bytes y z w there message writes)

  pub uncapped_run : (bench : List (BenchCall × Answer)) (past : List (Call × Answer)) (l' : List Page) (p : ℕ) (bytes m : List ℕ) (a : Answer) → bytes ≡ map capped m → InService made bench ((save p bytes, a) ∷ past) l' → InService made bench ((save p m, a) ∷ past) l'
  uncapped_run bench past l' p bytes m a e (InService.next _ _ l _ _ _ run step) = InService.next bench past l (save p m) a l' run (uncapped l p bytes m a l' e step)
