use Rattle.std.proofs.Common.{◌∙◌, arith}
use Rattle.plane.proofs.Completing.{size_inside, blanked, completed}
use Rattle.plane.proofs.repairs.fill_checks.Goals as goal

pub put_checks-requires : goal.put_checks-requires
put_checks-requires g c =
    let m = g.A.Alphabet.meaning c.args.alphabet.now in
    let l = g.met.A.Alphabet.lawful c.args.alphabet.now in
    record {
      inside = size_inside m l c.args.word.now c.requires c.from-q.result (c.from-q.ensures ∙ c.size.ensures);
      apart = omega (arith, l.two, c.from-q.ensures, c.size.ensures);
    }

pub invariant_of-sums : goal.invariant_of-sums
invariant_of-sums g c = record {
  fit = blanked (g.A.Alphabet.meaning c.args.alphabet.now) (g.met.A.Alphabet.lawful c.args.alphabet.now) c.args.word.now c.requires
      c.from-q.result c.put_checks.new.word c.put_checks.ensures;
}

pub put_checks-requires-2 : goal.put_checks-requires-2
put_checks-requires-2 g c =
    let m = g.A.Alphabet.meaning c.args.alphabet.now in
    let l = g.met.A.Alphabet.lawful c.args.alphabet.now in
    record {
      inside = omega (arith, c.put_checks.auto.word, size_inside m l c.args.word.now c.requires c.from-q.result (c.from-q.ensures ∙ c.size.ensures));
      apart = omega (arith, l.two, c.from-q.ensures, c.size.ensures);
    }

pub returns : goal.returns
returns g c =
    completed (g.A.Alphabet.meaning c.args.alphabet.now) (g.met.A.Alphabet.lawful c.args.alphabet.now) c.args.word.now c.requires
    c.from-q.result c.put_checks.new.word c.put_checks-2.new.word c.sums-sums.result
    c.negative-at_q.result c.negative-at_1.result c.sum-checks.result c.sum-all.result c.negative-at_0.result
    (c.from-q.ensures ∙ c.size.ensures) c.put_checks.ensures c.sums-sums.ensures
    c.negative-at_q.ensures c.negative-at_1.ensures c.sum-checks.ensures c.sum-all.ensures c.negative-at_0.ensures c.put_checks-2.ensures
