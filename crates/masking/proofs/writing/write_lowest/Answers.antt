use Rattle.std.proofs.Common.{refl}
use Rattle.std.proofs.lemmas.Result.{err_from_is_err_and}
use Rattle.masking.proofs.Choosing.{chosen, writes}
use Rattle.masking.proofs.writing.write_lowest.Goals as goal

pub returns-in_err-check_page : goal.returns-in_err-check_page
returns-in_err-check_page g c =
    let p = err_from_is_err_and c.from_residual.result c.from_residual.ensures.1 in
    rw (p.1, p.2) (c.in_err-check_page.ensures c.args.message.now, refl)

pub returns-then-forced-allowance : goal.returns-then-forced-allowance
returns-then-forced-allowance g c = (
  (
    c.in_ok-check_page.ensures,
    c.in_ok-check_message.ensures,
    (
      c.fewest_unmet-mask.result.0,
      _,
      chosen (g.C.Code.meaning c.args.code.now) (g.met.C.Code.lawful c.args.code.now) c.args.message.now c.unmasked_word.new.word
          c.in_ok-check_message.ensures c.unmasked_word.ensures.held c.unmasked_word.ensures.information _ c.alphabet.ensures c.args.floors.now c.fewest_unmet-mask.result.0 c.fewest_unmet-mask.result.1 c.fewest_unmet-mask.ensures,
    ),
    c.if-forced-allowance.true,
  ),
  refl,
)

pub returns : goal.returns
returns g c = record {
  page = c.in_ok-check_page.ensures;
  symbols = c.in_ok-check_message.ensures;
  writes =
      writes (g.C.Code.meaning c.args.code.now) (g.met.C.Code.lawful c.args.code.now) c.args.message.now c.unmasked_word.new.word
      c.in_ok-check_message.ensures c.unmasked_word.ensures.held c.unmasked_word.ensures.information _ c.alphabet.ensures c.args.floors.now
      c.args.allowance c.fewest_unmet-mask.result.0 c.fewest_unmet-mask.result.1 c.raise.new.page c.fewest_unmet-mask.ensures c.if-forced-allowance.false c.raise.ensures;
}
