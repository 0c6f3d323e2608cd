-- The remainders by q: how they are computed with few divisions, and their laws. Assumes nothing.
use Rattle.std.specs.Prelude.{◌≡◌, ℕ, ◌+◌, ◌-◌, ◌*◌, ◌/◌, ◌%◌, ◌<◌, ◌≤◌, ◌≢◌}
use Rattle.std.proofs.Common.{sym, ap, ◌∙◌, add_assoc, add_comm, add-mul, add-sub_of_le, add-zero, div-add-mod', le_of_lt, mod-eq_of_lt, mod-lt, mul-add, mul_assoc, mul_comm, mul-one, mul_right_comm, arith, Fits}
use Rattle.std.proofs.Math.Nat.{add-mod, add-mod-mod, mod-add-mod, mod-eq-sub-mod, mod_self, mul-add-mod_self_right}
use Rattle.std.proofs.Math.Facts.{Fits-below}
use Rattle.std.specs.Int.{w8}
use Rattle.std.proofs.lemmas.Nat.{mul-le}
use Rattle.alphabet.specs.Arithmetic.{Lawful}
use Rattle.alphabet.specs.Offers.{ResidueSize}
use Rattle.alphabet.specs.Residue.{modulo}

-- a number below q is its own remainder
pub remainder_below : {q : ℕ} (a : ℕ) → a < q → a ≡ a % q
remainder_below a h = sym (mod-eq_of_lt h)

-- from a number below twice q, q is taken away once
pub remainder_less_q : (q n : ℕ) → q ≤ n → n < 2 * q → n - q ≡ n % q
remainder_less_q q n high low = let less : n - q < q = omega arith in remainder_below (n - q) less ∙ sym (mod-eq-sub-mod high)

-- the negative of 0 is 0
pub negative_zero : (q x : ℕ) {s : ℕ} → x ≡ s → x ≡ 0 → 0 ≡ (q - s) % q
negative_zero q x {s} e zero = let h : q - s ≡ q = omega arith in sym (ap (λ n. n % q) h ∙ mod_self q)

-- the negative of another symbol is what it lacks of q
pub negative_rest : (q x : ℕ) {s : ℕ} → 0 < q → x ≡ s → (x ≢ 0) → q - x ≡ (q - s) % q
negative_rest q x {s} pos e some =
    let less : q - s < q = omega arith in
    ap (λ n. q - n) e ∙ remainder_below (q - s) less

-- the product of two symbols fits a byte
pub product_fits : (q x y a b : ℕ) → ResidueSize q → x ≡ a % q → y ≡ b % q → Fits w8 (x * y)
product_fits q x y a b ok ex ey =
    let pos : 0 < q = omega arith in
    let left : x ≤ 15 = omega (arith, mod-lt a pos) in
    let right : y ≤ 15 = omega (arith, mod-lt b pos) in
    Fits-below {n = 225} tt (mul-le x y 15 15 left right)

-- a factor may be reduced before it is multiplied
left_factor : (a b q : ℕ) → (a % q * b) % q ≡ (a * b) % q
left_factor a b q =
    let split : a * b ≡ a / q * b * q + a % q * b = ap (λ n. n * b) (sym (div-add-mod' a q)) ∙ add-mul (a / q * q) (a % q) b ∙ ap (λ n. n + a % q * b) (mul_right_comm (a / q) q b) in
    sym (ap (λ n. n % q) split ∙ mul-add-mod_self_right (a / q * b) q (a % q * b))

right_factor : (a b q : ℕ) → (a * (b % q)) % q ≡ (a * b) % q
right_factor a b q = ap (λ n. n % q) (mul_comm a (b % q)) ∙ left_factor b a q ∙ ap (λ n. n % q) (mul_comm b a)

pub modulo_lawful : (q : ℕ) → ResidueSize q → Lawful (modulo q)
modulo_lawful q ok =
    let pos : 0 < q = omega arith in
    record {
      two = ok.0;
      sixteen = ok.1;
      sum_below = λ a b ha hb. mod-lt (a + b) pos;
      negative_below = λ a ha. mod-lt (q - a) pos;
      product_below = λ a b ha hb. mod-lt (a * b) pos;
      sum_comm = λ a b ha hb. ap (λ n. n % q) (add_comm a b);
      sum_assoc = λ a b c ha hb hc. mod-add-mod (a + b) q c ∙ ap (λ n. n % q) (add_assoc a b c) ∙ sym (add-mod-mod a (b + c) q);
      sum_zero = λ a ha. ap (λ n. n % q) (add-zero a) ∙ mod-eq_of_lt ha;
      sum_negative = λ a ha. add-mod-mod a (q - a) q ∙ ap (λ n. n % q) (add-sub_of_le (le_of_lt ha)) ∙ mod_self q;
      product_comm = λ a b ha hb. ap (λ n. n % q) (mul_comm a b);
      product_assoc = λ a b c ha hb hc. left_factor (a * b) c q ∙ ap (λ n. n % q) (mul_assoc a b c) ∙ sym (right_factor a (b * c) q);
      product_one = λ a ha. ap (λ n. n % q) (mul-one a) ∙ mod-eq_of_lt ha;
      distributes = λ a b c ha hb hc. right_factor a (b + c) q ∙ ap (λ n. n % q) (mul-add a b c) ∙ add-mod (a * b) (a * c) q;
    }
