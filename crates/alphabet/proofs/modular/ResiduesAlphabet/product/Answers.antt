use Rattle.alphabet.specs.Remainders.{product_fits}
use Rattle.alphabet.proofs.modular.ResiduesAlphabet.product.Goals as goal

pub overflow_mul-result : goal.overflow_mul-result
overflow_mul-result c = product_fits _ _ _ _ _ c.args.self.now.ok c.symbol.ensures c.symbol-2.ensures
