use Rattle.std.proofs.Common.{ℕ, ◌<◌, max, ◌≢◌, length, get_or, sym, ap, ◌∙◌, arith, get_or-set_other, get_or-set_same, below_more}
use Rattle.masking.proofs.Shifts.{shifted_cell, raised_all}
use Rattle.masking.proofs.writing.Unmasked.raise.Goals as goal

pub loop-cell-preserved : goal.loop-cell-preserved
loop-cell-preserved g c =
    let unmasked = c.args.self.now in
    let cell = c.loop-cell.cell in
    let inside : cell < length unmasked.word.now = omega (arith, unmasked.filled.whole) in
    below_more _ _
    (λ k h. let ne : k ≢ cell = omega arith in rw get_or-set_other (c.loop-cell.invariant k h))
    (let lt : cell < length c.loop-cell.page = omega arith in
    rw get_or-set_same (c.max.ensures ∙ ap (λ (x : ℕ). max (get_or unmasked.floors.now cell 0) x) (sym (shifted_cell (g.A.Alphabet.meaning unmasked.alphabet.now) unmasked.word.now c.args.mask cell c.sum.result inside (unmasked.filled.symbols cell inside) c.requires.mask c.sum.ensures))))

pub returns : goal.returns
returns g c =
    let unmasked = c.args.self.now in
    raised_all (g.A.Alphabet.meaning unmasked.alphabet.now) unmasked.floors.now unmasked.word.now c.loop-cell.page c.args.mask unmasked.filled.whole (omega (arith, c.loop-cell.auto.page, c.requires.room))
    (λ k h. c.loop-cell.invariant k (omega (arith, c.loop-cell.auto.page, c.loop-cell-test.false)))
