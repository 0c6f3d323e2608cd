-- A number at the right end of columns of spaces, its last digit first.
use borrow.Rule.Slice.PartMut.{put_mid}
use Rattle.std.proofs.Common.{◌≡◌, ℕ, zero, suc, ◌+◌, ◌-◌, ◌/◌, ◌%◌, ◌^◌, ◌<◌, ◌≤◌, List, [], ◌∷◌, ◌++◌, length, take, drop, replicate, sym, ap, ◌∙◌, ⊎_elim, append_assoc, pow-suc, arith, take_all}
use Rattle.std.proofs.Math.Seq.{drop-drop}
use Rattle.std.proofs.lemmas.List.{length_push, take-append-le, take-replicate, drop-replicate}
use Rattle.std.proofs.lemmas.Slice.{drop-put_mid}
use Rattle.std.proofs.lemmas.Bool.{cases_lt}
use Rattle.sheet.specs.Fields.{digits, pad_to}
use Rattle.sheet.proofs.Shown.{digits_one, digits_more}

-- spaces are left of spaces
pub spaces_left : (columns others : List ℕ) (last : ℕ) → columns ≡ others ++ last ∷ [] → columns ≡ replicate (length columns) 32 → others ≡ replicate (length others) 32
spaces_left columns others last e spaces =
    sym (take_all (length others) others (omega arith)) ∙ sym (take-append-le (length others) others (last ∷ []) (omega arith))
    ∙ ap (take (length others)) (sym e ∙ spaces) ∙ take-replicate (length others) (length columns) 32 (omega (arith, ap length e, length_push others last))

-- the digits before the last one have a place in the columns before the last one
pub fewer_digits : (number n : ℕ) → 10 ≤ number → length (digits number) ≤ n + 1 → length (digits (number / 10)) ≤ n
fewer_digits number n l fits = omega (arith, ap length (digits_more number l), length_push (digits (number / 10)) (48 + number % 10))

-- the last digit after the others
pub digit_more : (number n columns : ℕ) (others : List ℕ) → 10 ≤ number → columns ≡ n + 1 → others ≡ pad_to n (digits (number / 10)) → others ++ (48 + number % 10) ∷ [] ≡ pad_to columns (digits number)
digit_more number n columns others l e is =
    let ds = digits (number / 10) in
    let same : digits number ≡ ds ++ (48 + number % 10) ∷ [] = digits_more number l in
    let left : n - length ds ≡ columns - length (digits number) = omega (arith, ap length same, length_push ds (48 + number % 10)) in
    ap (λ k. k ++ (48 + number % 10) ∷ []) is ∙ append_assoc (replicate (n - length ds) 32) ds ((48 + number % 10) ∷ [])
    ∙ ap (λ k. replicate (n - length ds) 32 ++ k) (sym same) ∙ ap (λ k. replicate k 32 ++ digits number) left

-- the only digit after spaces
pub digit_last : (number columns : ℕ) (others : List ℕ) → number < 10 → columns ≡ length others + 1 → others ≡ replicate (length others) 32 → others ++ (48 + number % 10) ∷ [] ≡ pad_to columns (digits number)
digit_last number columns others l e spaces =
    let m : number % 10 ≡ number = omega arith in
    let same : digits number ≡ (48 + number % 10) ∷ [] = digits_one number l ∙ ap (λ k. (48 + k) ∷ []) (sym m) in
    let left : length others ≡ columns - length (digits number) = omega (arith, ap length same) in
    ap (λ k. k ++ (48 + number % 10) ∷ []) spaces ∙ ap (λ k. replicate (length others) 32 ++ k) (sym same) ∙ ap (λ k. replicate k 32 ++ digits number) left

-- a number below a power of ten has at most as many digits
pub digits_most : (n v : ℕ) → v < 10 ^ suc n → length (digits v) ≤ suc n
digits_most zero v l = omega (arith, ap length (digits_one v l))
digits_most (suc n) v l =
    ⊎_elim
    (λ s. omega (arith, ap length (digits_one v s)))
    (λ g.
    let less : v / 10 < 10 ^ suc n = omega (arith, l, pow-suc 10 (suc n)) in
    omega (arith, ap length (digits_more v g), length_push (digits (v / 10)) (48 + v % 10), digits_most n (v / 10) less))
    (cases_lt v 10)

-- spaces are left after the columns of a field
pub spaces_after : (at next all : ℕ) (was put : List ℕ) → next ≡ at + 4 → at ≤ length was → length put ≡ at + 4 - at → drop at was ≡ replicate (all - at) 32 → drop next (put_mid at (at + 4 - at) was put) ≡ replicate (all - next) 32
spaces_after at next all was put e inside long spaces =
    let left : all - at - 4 ≡ all - next = omega arith in
    drop-put_mid at _ was put next (omega arith) inside long ∙ ap (λ n. drop n was) e ∙ sym (drop-drop 4 at was)
    ∙ ap (drop 4) spaces ∙ drop-replicate 4 (all - at) 32 ∙ ap (λ n. replicate n 32) left
