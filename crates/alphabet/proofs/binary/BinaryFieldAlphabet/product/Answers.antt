use Rattle.std.proofs.Common.{◌≡◌, ◌%◌}
use Rattle.alphabet.specs.Binary.{times}
use Rattle.alphabet.specs.Times.{product_remainder}
use Rattle.alphabet.proofs.binary.BinaryFieldAlphabet.product.Goals as goal

pub returns : goal.returns
unfolding times
returns c =
    let q = c.args.self.now.q in
    let value : c.reduced.result ≡ times q (c.args.a % q) (c.args.b % q) = cc in
    record { value = value; remainder = product_remainder q c.args.self.now.ok c.args.a c.args.b c.reduced.result value }
