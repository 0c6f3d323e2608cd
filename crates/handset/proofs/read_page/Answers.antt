use Rattle.std.proofs.Common.{arith}
use Rattle.code.specs.Differences.{differences_most}
use Rattle.handset.proofs.read_page.Goals as goal

-- no more cells are corrected than a word has
pub overflow_cast-result : goal.overflow_cast-result
overflow_cast-result g c =
    let reads = c.in_ok-corrected.ensures.read in
    omega (arith, reads.near, differences_most c.args.levels.now reads.carrier, reads.fit.whole, (g.met.C.Code.lawful c.args.code.now).cells_most)
