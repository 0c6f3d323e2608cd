use Rattle.alphabet.proofs.Bits.{shifted_term}
use Rattle.alphabet.proofs.polynomials.term.Goals as goal

pub returns : goal.returns
returns c = shifted_term c.args.a c.args.b c.args.i c.requires.factor c.requires.within
