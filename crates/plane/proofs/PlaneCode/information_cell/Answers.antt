use Rattle.std.proofs.Common.{◌∙◌}
use Rattle.plane.proofs.Fields.{item_absent, item_first, item_later, later_fits}
use Rattle.plane.proofs.PlaneCode.information_cell.Goals as goal

pub returns-then-index-dimension : goal.returns-then-index-dimension
returns-then-index-dimension g c =
    let field = c.args.self.now.field in
    item_absent (g.F.Field.meaning field) (g.met.F.Field.lawful field) c.dimension.result c.args.index c.dimension.ensures c.if-index-dimension.true

pub returns-then-index-q : goal.returns-then-index-q
returns-then-index-q g c =
    let field = c.args.self.now.field in
    item_first (g.F.Field.meaning field) (g.met.F.Field.lawful field) (g.F.Alphabet.meaning field) (g.met.F.Field.agrees field) c.from-q.result c.args.index (c.from-q.ensures ∙ c.size.ensures) c.if-index-q.true

pub overflow_add-result-else-index-q : goal.overflow_add-result-else-index-q
overflow_add-result-else-index-q g c =
    let field = c.args.self.now.field in
    later_fits (g.F.Field.meaning field) (g.met.F.Field.lawful field) c.dimension.result c.args.index c.dimension.ensures c.if-index-dimension.false

pub returns-else-index-q : goal.returns-else-index-q
returns-else-index-q g c =
    let field = c.args.self.now.field in
    item_later (g.F.Field.meaning field) (g.met.F.Field.lawful field) (g.F.Alphabet.meaning field) (g.met.F.Field.agrees field) c.from-q.result c.dimension.result c.args.index (c.from-q.ensures ∙ c.size.ensures) c.dimension.ensures
    c.if-index-q.false c.if-index-dimension.false
