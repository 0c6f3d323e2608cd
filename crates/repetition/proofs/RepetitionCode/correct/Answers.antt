use Rattle.std.proofs.Common.{refl}
use Rattle.repetition.proofs.Correcting.{outvoted, too_far}
use Rattle.repetition.proofs.RepetitionCode.correct.Goals as goal

pub returns-then-wrong-gt-RADIUS : goal.returns-then-wrong-gt-RADIUS
returns-then-wrong-gt-RADIUS g c =
    let far = too_far (g.A.Alphabet.meaning c.args.self.now.alphabet) c.args.word.now c.size.result c.size.ensures c.in_ok-check_word.ensures
    c.split_at.result.0.now c.split_at.result.1.now c.split_at.ensures.front c.split_at.ensures.back c.vote-first.result c.vote-second.result c.vote-first.ensures c.vote-second.ensures c.if-wrong-gt-RADIUS.true in (far, refl {a = c.args.word.now})

pub returns : goal.returns
returns g c =
    outvoted (g.A.Alphabet.meaning c.args.self.now.alphabet) c.args.word.now c.size.result c.size.ensures c.in_ok-check_word.ensures
    c.split_at.result.0.now c.split_at.result.1.now c.split_at.ensures.front c.split_at.ensures.back c.vote-first.result c.vote-second.result c.vote-first.ensures c.vote-second.ensures c.put.new.word c.put.ensures c.if-wrong-gt-RADIUS.false
