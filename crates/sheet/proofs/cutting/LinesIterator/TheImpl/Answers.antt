-- A line that is cut off is the first of the lines, and what follows it has the others.
use Rattle.std.proofs.Common.{ℕ, List, length, Some, None, Option, ap, Bor, rules}
use Rattle.std.specs.Bool.{⊤}
use Rattle.std.specs.Iterator.{YieldsFirstRef, item_count, MakesProgress}
use Rattle.sheet.specs.declared.cutting.Lines.{Lines}
use Rattle.sheet.specs.Cutting.{NextCut, lines_of}
use Rattle.sheet.proofs.Cuts.{first_cut}
use Rattle.sheet.proofs.cutting.LinesIterator.TheImpl.Goals as goal

abbrev left : Lines → List (List ℕ)
left s = lines_of s.rest.now

yields : (s : Lines) (r : Option (Bor (List ℕ))) (t : Lines) → NextCut s.rest.now r t.rest.now → YieldsFirstRef left s r t
yields s (Some line) t cut = first_cut _ _ _ cut
yields s None t cut = (ap lines_of cut.0, ap lines_of cut.1)

fewer : (s : Lines) (r : Option (Bor (List ℕ))) (t : Lines) → YieldsFirstRef left s r t → MakesProgress (λ _. ⊤) (item_count left) s r t
fewer s (Some line) t e = let shorter = ap length e in search rules
fewer s None t e = search rules

pub next-tells : goal.next-tells
next-tells g x c =
    let first = yields c.args.self.now c.result c.new.self.now c.ensures.cut in
    record { steps = first; goes = fewer _ _ _ first }
