use Rattle.std.proofs.Common.{sym, ap, subst}
use Rattle.std.proofs.lemmas.Result.{IfOk-weaker}
use Rattle.std.proofs.lemmas.Iterator.Consumers.{map_from_collect, YieldsList-from_first}
use Rattle.sheet.specs.Cutting.{lines_of, AllLines}
use Rattle.sheet.proofs.Cuts.{all_cut}
use Rattle.sheet.proofs.cutting.all_lines.Goals as goal

pub returns : goal.returns
returns c =
    IfOk-weaker _ _ _ (λ v e. subst (λ lines. AllLines lines c.args.sheet.now) (sym e) (all_cut c.args.sheet.now))
    (map_from_collect _ c.collect.ensures.ran (YieldsList-from_first (λ x. x.now) (λ s. lines_of s.rest.now) (lines_of c.args.sheet.now) (ap lines_of c.new.ensures)))
