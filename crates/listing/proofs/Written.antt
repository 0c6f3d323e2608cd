-- Fields and rows written one after another.
use Rattle.std.proofs.Common.{◌≡◌, ℕ, zero, suc, ◌+◌, ◌<◌, List, [], ◌∷◌, ◌++◌, length, get_or, take, is_ok, if◌then◌else◌, OnOk, Ok, Err, Result, sym, ap, ◌∙◌, append_assoc, append-nil, arith}
use Rattle.std.proofs.lemmas.List.{take_more}
use Rattle.sheet.specs.Fields.{digits, pad_to}
use Rattle.ledger.specs.Ledger.{Answer}
use Rattle.listing.specs.Rows.{field, line_number, columns, fields, row, AllFit}

-- bytes that are appended where there is memory
pub appended : {V E : Type 0} (r : Result V E) (was out part bytes : List ℕ) → out ≡ (if is_ok r then was ++ part else was) → part ≡ bytes → OnOk r (out ≡ was ++ bytes)
appended (Ok v) was out part bytes w e = w ∙ ap (λ k. was ++ k) e
appended (Err e) was out part bytes w _ = tt

-- one field more
columns_push : (xs : List ℕ) (v : ℕ) → columns (xs ++ v ∷ []) ≡ columns xs ++ field v
columns_push [] v = append-nil (field v)
columns_push (x ∷ xs) v = ap (λ k. field x ++ k) (columns_push xs v) ∙ sym (append_assoc (field x) (columns xs) (field v))

pub one_put : (was out out' xs : List ℕ) (i v : ℕ) → i < length xs → v ≡ get_or xs i 0 → out ≡ was ++ columns (take i xs) → out' ≡ out ++ field v → out' ≡ was ++ columns (take (i + 1) xs)
one_put was out out' xs i v l is so w =
    w ∙ ap (λ k. k ++ field v) so ∙ append_assoc was (columns (take i xs)) (field v)
    ∙ ap (λ k. was ++ k) (sym (columns_push (take i xs) v) ∙ ap (λ x. columns (take i xs ++ x ∷ [])) is ∙ ap columns (sym (take_more xs i 0 l)))

-- a row by its parts
pub row_put : (was numbered filled out : List ℕ) (n : ℕ) (a : Answer) → numbered ≡ was ++ pad_to 6 (digits n) → filled ≡ numbered ++ columns (fields a) → out ≡ filled ++ 10 ∷ [] → out ≡ was ++ row n a
unfolding line_number
row_put was numbered filled out n a en ef eo =
    eo ∙ ap (λ k. k ++ 10 ∷ []) (ef ∙ ap (λ k. k ++ columns (fields a)) en)
    ∙ append_assoc (was ++ line_number n) (columns (fields a)) (10 ∷ []) ∙ append_assoc was (line_number n) (columns (fields a) ++ 10 ∷ [])

-- a number of a list that fits
pub fits_at : (xs : List ℕ) (i : ℕ) → AllFit xs → i < length xs → get_or xs i 0 < 10000
fits_at [] i h l = absurd (omega arith)
fits_at (x ∷ xs) zero h l = h.0
fits_at (x ∷ xs) (suc i) h l = fits_at xs i h.1 (omega arith)
