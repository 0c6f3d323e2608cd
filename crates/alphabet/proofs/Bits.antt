-- What the code of the binary fields computes by shifts. Assumes nothing.
use Rattle.std.proofs.Common.{◌≡◌, ℕ, ◌*◌, ◌/◌, ◌%◌, ◌^◌, ◌<◌, ◌≤◌, ◌∙◌, ap, arith, lit<, mod-eq_of_lt, mul_comm}
use Rattle.std.proofs.Math.Nat.{pow-le-pow_right}
use Rattle.std.proofs.lemmas.Nat.{mul-le}
use Rattle.alphabet.specs.Binary.{term}

-- a polynomial of degree 3 at most stays a byte when it is shifted by 3 at most
shifted : (a i : ℕ) → a < 16 → i < 4 → a * 2 ^ i < 256
shifted a i ha hi =
    let bit : 2 ^ i ≤ 8 = pow-le-pow_right {n = 2} (lit< tt) {i = i} {j = 3} (omega arith) in
    let low : a * 2 ^ i ≤ 15 * 8 = mul-le a (2 ^ i) 15 8 (omega arith) bit in
    omega arith

pub shifted_term : (a b i : ℕ) → a < 16 → i < 4 → b / 2 ^ i % 2 * (a * 2 ^ i % 256) ≡ term a b (2 ^ i)
shifted_term a b i ha hi = ap (λ n. b / 2 ^ i % 2 * n) (mod-eq_of_lt (shifted a i ha hi) ∙ mul_comm a (2 ^ i))
