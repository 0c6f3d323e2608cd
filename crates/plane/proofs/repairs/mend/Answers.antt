use Rattle.std.proofs.Common.{◌∙◌}
use Rattle.plane.proofs.Correcting.{cell_inside, mended_corrects}
use Rattle.plane.proofs.repairs.mend.Goals as goal

pub bounds-word-cell : goal.bounds-word-cell
bounds-word-cell g c =
    cell_inside (g.A.Alphabet.meaning c.args.alphabet.now) (g.met.A.Alphabet.lawful c.args.alphabet.now) _ _ _
    c.from.result c.from-2.result c.from-3.result _ c.requires.fit.whole (c.from.ensures ∙ c.size.ensures) (c.from-2.ensures ∙ c.product-row.ensures) (c.from-3.ensures ∙ c.product-column.ensures)

pub returns : goal.returns
returns g c =
    mended_corrects (g.A.Alphabet.meaning c.args.alphabet.now) (g.met.A.Alphabet.lawful c.args.alphabet.now) c.args.word.now c.requires.fit c.args.sums c.requires.summed
    c.args.inverse c.from-2.result c.from-3.result c.from.result c.negative-down.result c.sum.result c.requires.inverts
    (c.from-2.ensures ∙ c.product-row.ensures) (c.from-3.ensures ∙ c.product-column.ensures) (c.from.ensures ∙ c.size.ensures) c.negative-down.ensures c.sum.ensures
