use Rattle.std.proofs.Common.{length, ap, ◌∙◌, arith}
use Rattle.sheet.specs.Cutting.{texts}
use Rattle.listing.proofs.Sheets.{lines_few, lines_some, refused_sheet, listed_sheet}
use Rattle.listing.proofs.lists.list.Goals as goal

pub returns-in-Err : goal.returns-in-Err
returns-in-Err c = refused_sheet _ c.in-Err.refusal _ _ c.in-Err.ensures c.new-rows.ensures.items c.in_ok-write_row.ensures

pub new-run-requires : goal.new-run-requires
new-run-requires c = omega (arith, ap length c.as_slice.ensures.value, lines_few _ _ c.in_ok-lines.ensures c.in_default.ensures.1)

pub list_lines-requires : goal.list_lines-requires
list_lines-requires c = omega (arith, ap length c.new-run.ensures.lines, ap length c.as_slice.ensures.value, lines_some _ _ c.in_ok-lines.ensures c.in_default.ensures.0)

pub returns : goal.returns
returns c =
    listed_sheet _ c.in_ok-lines.lines.items c.new-run.result c.list_lines.new.run c.in_default.ensures c.in_ok-lines.ensures (ap texts (c.new-run.ensures.lines ∙ c.as_slice.ensures.value)) c.new-run.ensures.number c.new-run.ensures.rows
    c.in_ok-list_lines.ensures
