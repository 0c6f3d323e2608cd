use Rattle.std.proofs.Common.{ℕ, ◌^◌, refl, rules}
use Rattle.std.specs.Prelude.{bit_xor}
use Rattle.std.proofs.lemmas.Iterator.{YieldsList-from_range}
use Rattle.std.proofs.lemmas.Iterator.Consumers.{fold_from_yields_List}
use Rattle.alphabet.specs.Binary.{term}
use Rattle.alphabet.proofs.polynomials.polynomial_product.Goals as goal

pub returns : goal.returns
returns c =
    let h : ℕ → ℕ → ℕ = λ sum i. bit_xor sum (term c.args.a c.args.b (2 ^ i)) in
    fold_from_yields_List _ h 0 c.fold.result c.fold.ensures.ran (YieldsList-from_range 0 4 4 refl refl) (λ sum i r q k. search rules)
