use Rattle.std.proofs.Common.{◌∙◌, rules, arith}
use Rattle.std.proofs.lemmas.Iterator.{YieldsList-from_range, YieldsList-from_slice, YieldsList-from_zip}
use Rattle.std.proofs.lemmas.Iterator.Consumers.{fold_from_yields_List}
use Rattle.plane.proofs.Loops.{add_place, places_added}
use Rattle.plane.proofs.three_sums.by_place.Goals as goal

pub returns : goal.returns
returns g c =
    let m = g.A.Alphabet.meaning c.args.alphabet.now in
    let l = g.met.A.Alphabet.lawful c.args.alphabet.now in
    fold_from_yields_List _ (add_place m l) 0 c.fold.result c.fold.ensures.ran
    (YieldsList-from_zip (YieldsList-from_range 0 c.size.result c.size.result c.zip.ensures.first (omega arith)) (YieldsList-from_slice c.args.symbols.now c.zip.ensures.second.0))
    (λ all p r q k. search rules)
    ∙ places_added m l c.size.result c.args.symbols.now c.size.ensures (omega arith)
