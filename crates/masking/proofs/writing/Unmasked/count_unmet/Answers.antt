use Rattle.std.proofs.Common.{rules, tests, ◌^◌, cond, ◌∙◌, arith}
use Rattle.std.specs.List.{zip}
use Rattle.std.proofs.lemmas.Iterator.{YieldsList-from_slice, YieldsList-from_zip, YieldsList-from_map}
use Rattle.std.proofs.lemmas.Iterator.Consumers.{YieldsList-at, sum_by_from_yields_List, fits_by_from_yields_list}
use Rattle.std.proofs.lemmas.List.Sums.{count_by-le-length}
use Rattle.std.proofs.lemmas.Slice.Zip.{length-zip}
use Rattle.masking.proofs.Shifts.{is_unmet, counted_pairs}
use Rattle.masking.proofs.writing.Unmasked.count_unmet.Goals as goal

pub sum-requires-clause-fits : goal.sum-requires-clause-fits
sum-requires-clause-fits g c =
    let unmasked = c.args.self.now in
    let is = is_unmet (g.A.Alphabet.meaning unmasked.alphabet.now) c.args.mask in
    let pairs = zip unmasked.word.now unmasked.floors.now in
    fits_by_from_yields_list (λ p. cond (is p) 1 0) pairs c.map.result (2 ^ 64)
    (YieldsList-from_map _ (λ p. cond (is p) 1 0)
    (YieldsList-at c.map.ensures.source (YieldsList-from_zip (YieldsList-from_slice unmasked.word.now cc) (YieldsList-from_slice unmasked.floors.now cc)))
    c.map.ensures.closure (λ x r q k. search (rules, tests)))
    (omega (arith, count_by-le-length is pairs, length-zip unmasked.word.now unmasked.floors.now))

pub returns : goal.returns
returns g c =
    let unmasked = c.args.self.now in
    let m = g.A.Alphabet.meaning unmasked.alphabet.now in
    let is = is_unmet m c.args.mask in
    sum_by_from_yields_List (λ p. cond (is p) 1 0) (zip unmasked.word.now unmasked.floors.now) c.map.result c.sum.result c.sum.ensures.ran
    (YieldsList-from_map _ (λ p. cond (is p) 1 0)
    (YieldsList-at c.map.ensures.source (YieldsList-from_zip (YieldsList-from_slice unmasked.word.now cc) (YieldsList-from_slice unmasked.floors.now cc)))
    c.map.ensures.closure (λ x r q k. search (rules, tests)))
    ∙ counted_pairs m c.args.mask c.requires unmasked.floors.now unmasked.word.now unmasked.filled.symbols
