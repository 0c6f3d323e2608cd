-- A sheet that is not refused has lines, and no more of them than bytes.
use Rattle.std.proofs.Common.{◌≡◌, ℕ, ◌<◌, ◌≤◌, List, [], ◌∷◌, ◌++◌, length, Ok, Err, sym, ap, ◌∙◌, subst, arith, Bor}
use Rattle.std.proofs.lemmas.List.{length-map}
use Rattle.sheet.specs.declared.refusals.Refusal.{Refusal}
use Rattle.sheet.specs.declared.refusals.Refusal.TheVariants.{SheetLength, LineLength, UnknownVerb, FieldCount, IllFormedField, OutOfTurn}
use Rattle.sheet.specs.Refusals.{Checked}
use Rattle.sheet.specs.Cutting.{LinesOf, AllLines, texts}
use Rattle.sheet.proofs.Cuts.{shorter}
use Rattle.listing.specs.declared.run.Run.{Run}
use Rattle.listing.specs.Rows.{row, rows}
use Rattle.listing.specs.Told.{form_refusal}
use Rattle.listing.specs.Telling.{to_come, so_far}
use Rattle.listing.specs.Listing.{SheetTold, Listing, sheet_refused, sheet_listed}
use Rattle.listing.specs.Sheets.{SheetListed}

few_lines : (lines : List (List ℕ)) (sheet : List ℕ) → LinesOf lines sheet → length lines ≤ length sheet
few_lines [] sheet h = omega arith
few_lines (line ∷ lines) sheet h = omega (arith, few_lines lines h.0 h.2, shorter sheet line h.0 h.1)

pub lines_few : (lines : List (Bor (List ℕ))) (sheet : List ℕ) → AllLines (texts lines) sheet → length sheet ≤ 65536 → length lines ≤ 65536
lines_few lines sheet h l = omega (arith, few_lines (texts lines) sheet h.cut, length-map lines (λ line. line.now))

some_line : (lines : List (List ℕ)) (sheet : List ℕ) → LinesOf lines sheet → 0 < length sheet → 0 < length lines
some_line [] sheet h l = absurd (omega (arith, ap length h))
some_line (line ∷ lines) sheet h l = omega arith

pub lines_some : (lines : List (Bor (List ℕ))) (sheet : List ℕ) → AllLines (texts lines) sheet → 0 < length sheet → 0 < length lines
lines_some lines sheet h l = omega (arith, some_line (texts lines) sheet h.cut l, length-map lines (λ line. line.now))

-- a sheet is refused for its length alone
pub refused_sheet : (sheet : List ℕ) (e : Refusal) (was out : List ℕ) → Checked sheet (Err e) → was ≡ [] → out ≡ was ++ row 0 (form_refusal e) → Listing sheet out
refused_sheet sheet SheetLength was out h none w = subst (Listing sheet) (sym (w ∙ ap (λ k. k ++ row 0 (form_refusal SheetLength)) none)) (sheet_refused h)
refused_sheet sheet LineLength was out h none w = absurd h
refused_sheet sheet UnknownVerb was out h none w = absurd h
refused_sheet sheet (FieldCount bytes) was out h none w = absurd h
refused_sheet sheet (IllFormedField column) was out h none w = absurd h
refused_sheet sheet OutOfTurn was out h none w = absurd h

pub listed_sheet : (sheet : List ℕ) (lines : List (Bor (List ℕ))) (before after : Run) → Checked sheet (Ok tt) → AllLines (texts lines) sheet → to_come before ≡ texts lines → before.number ≡ 1 → so_far before ≡ [] → SheetListed before after → Listing sheet (so_far after)
listed_sheet sheet lines before after checked all same first none h =
    subst (Listing sheet) (sym (h.listed.written ∙ ap (λ k. k ++ rows before.number h.answers) none ∙ ap (λ n. rows n h.answers) first))
    (sheet_listed (texts lines) h.answers checked all (subst (λ k. SheetTold k h.answers) same h.told) h.listed.fit)
