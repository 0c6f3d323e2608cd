use Rattle.std.proofs.Common.{arith, rules}
use Rattle.listing.proofs.Justified.{spaces_left, fewer_digits, digit_more, digit_last}
use Rattle.listing.proofs.rows.+justify.Goals as goal

pub justify-requires : goal.justify-requires
justify-requires t c =
    let parts = c.in-Some.ensures.cases in (
      search rules,
      (spaces_left _ _ _ parts.0 c.requires.spaces, fewer_digits _ _ c.if-number-ge10.true (omega (arith, parts.1, c.requires.fits))),
    )

pub returns-then-number-ge10 : goal.returns-then-number-ge10
returns-then-number-ge10 t c = digit_more _ _ _ _ c.if-number-ge10.true (omega (arith, c.in-Some.ensures.cases.1)) c.justify.ensures

pub returns-else-number-ge10 : goal.returns-else-number-ge10
returns-else-number-ge10 t c =
    let parts = c.in-Some.ensures.cases in
    digit_last _ _ _ (omega (arith, c.if-number-ge10.false)) (omega (arith, parts.1)) (spaces_left _ _ _ parts.0 c.requires.spaces)
