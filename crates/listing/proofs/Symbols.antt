-- A save's symbols taken off its columns one after another.
use Rattle.std.proofs.Common.{◌≡◌, ℕ, ◌+◌, ◌*◌, ◌<◌, ◌≤◌, List, [], ◌∷◌, ◌++◌, map, length, take, drop, Ok, Err, Result, sym, refl, ap, ◌∙◌, subst, ⊎_elim, arith, length-drop, length-take}
use Rattle.std.proofs.lemmas.List.{map_push, length_push, length-map}
use native.Mathlib.Nat.{min-eq_left, min-eq_right}
use Rattle.std.specs.Result.{OkIff, result_unwrap_or}
use Rattle.std.proofs.lemmas.Bool.{cases_lt}
use Rattle.sheet.specs.Fields.{Shows, IllFormed}
use Rattle.sheet.specs.Parsing.{BeginWith}
use Rattle.sheet.proofs.Shown.{shown_long}
use Rattle.sheet.proofs.Steps.{left_more}
use Rattle.sheet.proofs.Symbols.{begin_push, symbol_there}
use Rattle.listing.specs.Serving.{capped, WholeFields, SymbolsShown}

-- the bytes so far are the symbols of the columns before the rest
pub record Sofar (columns rest bytes : List ℕ) : Type 0 where
  pub message : List ℕ
  pub begins : BeginWith columns message
  pub left : rest ≡ drop (4 * length message) columns
  pub shown : bytes ≡ map capped message
  pub inside : 4 * length message ≤ length columns

pub none_yet : (columns bytes : List ℕ) → bytes ≡ [] → Sofar columns columns bytes
none_yet columns bytes none = record { message = []; begins = tt; left = refl; shown = none; inside = omega arith }

-- a number as a byte, or where it is too high for one the highest
pub byte_capped : {E : Type 0} (r : Result ℕ E) (v : ℕ) → OkIff r (v < 256) v → result_unwrap_or r 255 ≡ capped v
byte_capped (Ok b) v h = h.1 ∙ sym (min-eq_left (omega (arith, h.0)))
byte_capped (Err e) v h = sym (min-eq_right (omega (arith, h)))

-- another field is there
longer : (columns rest : List ℕ) (count value : ℕ) → rest ≡ drop (4 * count) columns → Shows (take 4 rest) value → 4 * count ≤ length columns → 4 * (count + 1) ≤ length columns
longer columns rest count value left shows inside = omega (arith, shown_long (take 4 rest) value shows, length-take 4 rest, ap length left, length-drop (4 * count) columns)

-- the byte of one more symbol has a place
pub room_there : (columns rest bytes : List ℕ) (value : ℕ) → Sofar columns rest bytes → WholeFields columns → Shows (take 4 rest) value → length bytes < 256
room_there columns rest bytes value so whole shows =
    omega (arith, longer columns rest (length so.message) value so.left shows so.inside, whole.2, ap length so.shown, length-map so.message capped)

pub one_more : (columns rest more bytes bytes' : List ℕ) (value byte : ℕ) → Sofar columns rest bytes → Shows (take 4 rest) value × (more ≡ drop 4 rest) → byte ≡ capped value → bytes' ≡ bytes ++ byte ∷ [] → Sofar columns more bytes'
one_more columns rest more bytes bytes' value byte so taken is w =
    let count : length (so.message ++ value ∷ []) ≡ length so.message + 1 = length_push so.message value in
    record {
      message = so.message ++ value ∷ [];
      begins = begin_push columns so.message rest value so.begins so.left taken.0;
      left = left_more columns rest more (length so.message) so.left taken.1 ∙ ap (λ n. drop (4 * n) columns) (sym count);
      shown = w ∙ ap (λ k. k ++ byte ∷ []) so.shown ∙ ap (λ b. map capped so.message ++ b ∷ []) is ∙ sym (map_push capped so.message value);
      inside = subst (λ n. 4 * n ≤ length columns) (sym count) (longer columns rest (length so.message) value so.left taken.0 so.inside);
    }

-- where no field follows, the symbols so far are all
pub all_taken : (columns rest bytes : List ℕ) → Sofar columns rest bytes → WholeFields columns → IllFormed (take 4 rest) → SymbolsShown columns bytes
all_taken columns rest bytes so whole ill =
    ⊎_elim
    (λ some. absurd (symbol_there columns rest (length so.message) whole.0 so.left some ill))
    (λ none. (so.message, (so.begins, omega (arith, ap length so.left, length-drop (4 * length so.message) columns, so.inside)), so.shown))
    (cases_lt 0 (length rest))
