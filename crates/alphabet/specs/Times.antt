-- The laws of the binary fields. Sums obey them in general; those of products are computed at every symbol. Assumes nothing.
use Rattle.std.specs.Prelude.{◌≡◌, ℕ, ◌+◌, ◌%◌, ◌<◌, ◌≤◌, Bool, true, ◌==◌, bit_xor, nat_eq, nat_lt, refl}
use Rattle.std.proofs.Common.{subst, sym, mod-lt, lit<, lit≤}
use Rattle.std.specs.Int.Bits.{xor_assoc, xor_self, xor_zero_r}
use Rattle.std.proofs.lemmas.Nat.{xor_comm, xor_lt}
use Rattle.std.proofs.lemmas.Bool.{eqb-true, ltb-true}
use Rattle.alphabet.specs.Arithmetic.{Lawful}
use Rattle.alphabet.specs.Binary.{binary, polynomial_product, reduced, times, Remainder}
use Rattle.alphabet.specs.Offers.{BinarySize}
use Rattle.alphabet.specs.Every.{every, any, pairs, triples, at, any_at, at_pair, at_triple}
use Rattle.alphabet.specs.Sizes.{by_binary_size}

-- k times the field's polynomial, taken from the product of a and b, leaves their product in the field
abbrev leaves : (q a b k : ℕ) → Bool
leaves q a b k = polynomial_product a b == bit_xor (polynomial_product (q + 3) k) (times q a b)

-- what is computed at every symbol of the field
record Computed (q : ℕ) : Type 0 where
  below : pairs q (λ a b. nat_lt (times q a b) q) ≡ true
  comm : pairs q (λ a b. nat_eq (times q a b) (times q b a)) ≡ true
  one : every q (λ a. nat_eq (times q a 1) a) ≡ true
  assoc : triples q (λ a b c. nat_eq (times q (times q a b) c) (times q a (times q b c))) ≡ true
  distributes : triples q (λ a b c. nat_eq (times q a (bit_xor b c)) (bit_xor (times q a b) (times q a c))) ≡ true
  multiple : pairs q (λ a b. any 8 (leaves q a b)) ≡ true

at_4 : Computed 4
unfolding times reduced
at_4 = record { below = refl; comm = refl; one = refl; assoc = refl; distributes = refl; multiple = refl }

at_8 : Computed 8
unfolding times reduced
at_8 = record { below = refl; comm = refl; one = refl; assoc = refl; distributes = refl; multiple = refl }

at_16 : Computed 16
unfolding times reduced
at_16 = record { below = refl; comm = refl; one = refl; assoc = refl; distributes = refl; multiple = refl }

computed : (q : ℕ) → BinarySize q → Computed q
computed = by_binary_size Computed at_4 at_8 at_16

times_remainder : (q : ℕ) → BinarySize q → (a b : ℕ) → a < q → b < q → Remainder q (polynomial_product a b) (times q a b)
times_remainder q ok a b ha hb =
    let tests = computed q ok in
    let k = any_at 8 (leaves q a b) (at_pair q (λ x y. any 8 (leaves q x y)) tests.multiple a b ha hb) in
    record { below = ltb-true _ _ (at_pair q _ tests.below a b ha hb); multiple = (k.0, eqb-true _ _ k.2) }

-- a product in the field is the remainder of the product of polynomials
pub product_remainder : (q : ℕ) → BinarySize q → (a b r : ℕ) → r ≡ times q (a % q) (b % q) → Remainder q (polynomial_product (a % q) (b % q)) r
product_remainder q ok a b r e =
    let pos : 0 < q = by_binary_size (λ n. 0 < n) (lit< tt) (lit< tt) (lit< tt) q ok in
    subst (Remainder q (polynomial_product (a % q) (b % q))) (sym e) (times_remainder q ok (a % q) (b % q) (mod-lt a pos) (mod-lt b pos))

lawful : (q : ℕ) → 2 ≤ q → q ≤ 16 → ((a b : ℕ) → a < q → b < q → bit_xor a b < q) → Computed q → Lawful (binary q)
lawful q two sixteen sums tests = record {
  two = two;
  sixteen = sixteen;
  sum_below = sums;
  negative_below = λ a ha. ha;
  product_below = λ a b ha hb. ltb-true _ _ (at_pair q _ tests.below a b ha hb);
  sum_comm = λ a b ha hb. xor_comm a b;
  sum_assoc = λ a b c ha hb hc. xor_assoc a b c;
  sum_zero = λ a ha. xor_zero_r a;
  sum_negative = λ a ha. xor_self a;
  product_comm = λ a b ha hb. eqb-true _ _ (at_pair q _ tests.comm a b ha hb);
  product_assoc = λ a b c ha hb hc. eqb-true _ _ (at_triple q _ tests.assoc a b c ha hb hc);
  product_one = λ a ha. eqb-true _ _ (at q _ tests.one a ha);
  distributes = λ a b c ha hb hc. eqb-true _ _ (at_triple q _ tests.distributes a b c ha hb hc);
}

pub binary_lawful : (q : ℕ) → BinarySize q → Lawful (binary q)
binary_lawful =
    by_binary_size (λ q. Lawful (binary q))
    (lawful 4 (lit≤ tt) (lit≤ tt) (xor_lt 2) at_4)
    (lawful 8 (lit≤ tt) (lit≤ tt) (xor_lt 3) at_8)
    (lawful 16 (lit≤ tt) (lit≤ tt) (xor_lt 4) at_16)
