use Rattle.std.proofs.Common.{◌≡◌, ℕ, ◌<◌, Some, length, sym, ◌∙◌, arith}
use Rattle.masking.proofs.Information.{cell_within}
use Rattle.masking.proofs.reading.first_symbol.Goals as goal

pub map_or-requires : goal.map_or-requires
map_or-requires g c =
    let inside : (cell : ℕ) → c.information_cell.result ≡ Some cell → cell < length c.args.word.now = λ cell e.
    omega (arith, c.requires, cell_within (g.C.Code.meaning c.args.code.now) (g.met.C.Code.lawful c.args.code.now) 0 cell (sym e ∙ c.information_cell.ensures)) in
    grind (arith, inside)
