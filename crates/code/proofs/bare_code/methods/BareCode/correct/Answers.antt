use Rattle.code.specs.BareLaws.{bare_corrected}
use Rattle.code.proofs.bare_code.methods.BareCode.correct.Goals as goal

pub returns : goal.returns
returns g c =
    bare_corrected (g.A.Alphabet.meaning c.args.self.now.alphabet) (g.met.A.Alphabet.lawful c.args.self.now.alphabet) c.args.self.now.cells c.args.word.now c.size.result c.size.ensures c.in_ok-check_word.ensures
