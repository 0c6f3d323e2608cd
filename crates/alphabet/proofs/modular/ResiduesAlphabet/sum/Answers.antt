use native.Mathlib.Nat.{add-mod}
use Rattle.alphabet.proofs.modular.ResiduesAlphabet.sum.Goals as goal

pub returns : goal.returns
returns c = let e = add-mod c.args.a c.args.b c.args.self.now.q in cc
