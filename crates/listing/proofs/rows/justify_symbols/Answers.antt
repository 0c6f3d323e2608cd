use Rattle.std.proofs.Common.{◌≡◌, ◌+◌, ◌-◌, ◌*◌, ◌<◌, ◌≤◌, ◌^◌, [], ◌++◌, length, take, drop, ap, ◌∙◌, arith}
use Rattle.std.proofs.lemmas.List.{length-replicate}
use Rattle.std.proofs.lemmas.Slice.{take-put_mid}
use Rattle.sheet.specs.Fields.{digits, pad_to}
use Rattle.listing.specs.Rows.{field}
use Rattle.listing.proofs.Justified.{digits_most, spaces_after}
use Rattle.listing.proofs.Written.{one_put}
use Rattle.listing.proofs.rows.justify_symbols.Goals as goal

pub justify-requires-clause-fits : goal.justify-requires-clause-fits
justify-requires-clause-fits c =
    let all : length c.loop-index.columns ≡ 4 * length c.args.symbols.now = c.loop-index.auto.columns ∙ ap length c.requires ∙ length-replicate _ _ in
    let small : c.from.result < 10 ^ 4 = omega arith in
    omega (arith, digits_most 3 c.from.result small, all, c.loop-index-test.true)

pub loop-index-preserved : goal.loop-index-preserved
unfolding field
loop-index-preserved c =
    let at = 4 * c.loop-index.index in
    let next = 4 * (c.loop-index.index + 1) in
    let was = c.loop-index.columns in
    let put = c.justify.new.columns in
    let all : length was ≡ 4 * length c.args.symbols.now = c.loop-index.auto.columns ∙ ap length c.requires ∙ length-replicate _ _ in
    let four : length (take (at + 4 - at) (drop at was)) ≡ 4 = omega (arith, all, c.loop-index-test.true) in
    let long : length put ≡ at + 4 - at = omega (arith, c.justify.auto.columns, four) in
    let inside : at ≤ length was = omega (arith, all, c.loop-index-test.true) in
    record {
      shown =
          one_put [] _ _ c.args.symbols.now _ _ c.loop-index-test.true c.from.ensures c.loop-index.invariant.shown
          (take-put_mid at _ was put next (omega (arith, long)) inside ∙ ap (λ k. take at was ++ k) (c.justify.ensures ∙ ap (λ n. pad_to n (digits c.from.result)) four));
      spaces = spaces_after at next (4 * length c.args.symbols.now) was put (omega arith) inside long c.loop-index.invariant.spaces;
    }
