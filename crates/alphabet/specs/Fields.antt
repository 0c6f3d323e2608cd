-- That each symbol but 0 has an inverse, computed at every symbol of every field on offer. Assumes nothing.
use Rattle.std.specs.Prelude.{◌≡◌, ℕ, ◌<◌, ◌≤◌, Bool, true, ◌&&◌, Some, None, Option, ◌==◌, nat_lt, refl}
use Rattle.std.proofs.Common.{arith, lit≤}
use Rattle.std.proofs.lemmas.Bool.{and_parts, eqb-true, false≢true, ltb-true}
use Rattle.alphabet.specs.Arithmetic.{Arithmetic, Lawful}
use Rattle.alphabet.specs.Binary.{binary, reduced, times}
use Rattle.alphabet.specs.Field.{FieldLaws}
use Rattle.alphabet.specs.Inverses.{inverse_in, with_inverses}
use Rattle.alphabet.specs.Offers.{BinarySize, PrimeSize, ResidueSize}
use Rattle.alphabet.specs.Residue.{modulo}
use Rattle.alphabet.specs.Every.{every, at}
use Rattle.alphabet.specs.Remainders.{modulo_lawful}
use Rattle.alphabet.specs.Sizes.{by_binary_size, by_prime_size}
use Rattle.alphabet.specs.Times.{binary_lawful}

-- an answer for the inverse of a is right: none for 0, and for another symbol one whose product with it is 1
abbrev right : Arithmetic → ℕ → Option ℕ → Bool
right m a None = a == 0
right m a (Some x) = nat_lt 0 a && (nat_lt x m.size && m.product a x == 1)

abbrev Inverse : Arithmetic → ℕ → Option ℕ → Type 0
Inverse m a answer = (x : ℕ) × (x < m.size) × (answer ≡ Some x) × (m.product a x ≡ 1)

none_for_zero : (m : Arithmetic) (answer : Option ℕ) → right m 0 answer ≡ true → answer ≡ None
none_for_zero m None t = refl
none_for_zero m (Some x) t = absurd (false≢true t)

some_for_others : (m : Arithmetic) (a : ℕ) (answer : Option ℕ) → 0 < a → right m a answer ≡ true → Inverse m a answer
some_for_others m a None pos t = let zero : a ≡ 0 = eqb-true a 0 t in absurd (omega arith)
some_for_others m a (Some x) pos t =
    let parts = and_parts (nat_lt x m.size) (m.product a x == 1) (and_parts (nat_lt 0 a) _ t).1 in
    (x, ltb-true x m.size parts.0, refl, eqb-true (m.product a x) 1 parts.1)

-- the search answers right at every symbol
abbrev Inverses : Arithmetic → Type 0
Inverses m = every m.size (λ a. right m a (inverse_in m a)) ≡ true

field_laws : (m : Arithmetic) → Lawful m → 3 ≤ m.size → Inverses m → FieldLaws (with_inverses m)
field_laws m lawful three inverses =
    let right_at : (a : ℕ) → a < m.size → right m a (inverse_in m a) ≡ true = at m.size (λ a. right m a (inverse_in m a)) inverses in
    let pos : 0 < m.size = omega arith in
    record {
      lawful = lawful;
      three = three;
      none_at_zero = none_for_zero m (inverse_in m 0) (right_at 0 pos);
      inverses = λ a pos_a below. some_for_others m a (inverse_in m a) pos_a (right_at a below);
    }

binary_inverses : (q : ℕ) → BinarySize q → (3 ≤ q) × Inverses (binary q)
unfolding times reduced
binary_inverses = by_binary_size (λ q. (3 ≤ q) × Inverses (binary q)) (lit≤ tt, refl) (lit≤ tt, refl) (lit≤ tt, refl)

pub binary_field : (q : ℕ) → BinarySize q → FieldLaws (with_inverses (binary q))
binary_field q ok = let found = binary_inverses q ok in field_laws (binary q) (binary_lawful q ok) found.0 found.1

prime_inverses : (q : ℕ) → PrimeSize q → (3 ≤ q) × Inverses (modulo q)
prime_inverses = by_prime_size (λ q. (3 ≤ q) × Inverses (modulo q)) (lit≤ tt, refl) (lit≤ tt, refl) (lit≤ tt, refl) (lit≤ tt, refl) (lit≤ tt, refl)

pub prime_field : (q : ℕ) → ResidueSize q → PrimeSize q → FieldLaws (with_inverses (modulo q))
prime_field q ok prime = let found = prime_inverses q prime in field_laws (modulo q) (modulo_lawful q ok) found.0 found.1
