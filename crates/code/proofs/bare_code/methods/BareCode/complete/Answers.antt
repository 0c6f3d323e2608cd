use Rattle.code.specs.BareLaws.{bare_completed}
use Rattle.code.proofs.bare_code.methods.BareCode.complete.Goals as goal

pub returns : goal.returns
returns g c =
    bare_completed (g.A.Alphabet.meaning c.args.self.now.alphabet) (g.met.A.Alphabet.lawful c.args.self.now.alphabet) c.args.self.now.cells c.args.word.now c.size.result c.check_word.result c.size.ensures c.check_word.ensures
