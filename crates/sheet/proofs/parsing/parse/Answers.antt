use Rattle.std.proofs.Common.{◌≤◌, length, subst, arith}
use Rattle.sheet.specs.Verbs.{Begins}
use Rattle.sheet.proofs.Steps.{said}
use Rattle.sheet.proofs.parsing.parse.Goals as goal

pub returns : goal.returns
returns c =
    let within : length c.args.line.now ≤ 1028 = omega arith in
    let begins = subst (Begins c.args.line.now) c.in_ok-verb.ensures.ok_part c.split_verb.ensures in
    said c.args.line.now c.in_ok-verb.columns.now c.in_ok-verb.verb c.read_line.result within begins c.if-not-counts.ensures c.read_line.ensures
