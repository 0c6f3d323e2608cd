-- The numbers so far are those of the fields that were read.
use Rattle.std.proofs.Common.{◌≡◌, length, take, subst, ◌∙◌, arith, length-set, length-take, ◌<◌}
use Rattle.std.proofs.lemmas.List.{take_more_set, take_all}
use Rattle.std.proofs.lemmas.Result.{err_from_is_err_and}
use Rattle.sheet.proofs.Steps.{Sofar, one_more, numbers_read, ill}
use Rattle.sheet.proofs.reading.Fields.numbers.Goals as goal

pub returns-in_err-value : goal.returns-in_err-value
returns-in_err-value g c =
    let p = err_from_is_err_and c.from_residual.result c.from_residual.ensures.1 in
    rw (p.1, p.2)
    (ill _ _ _ _ c.loop-value.self.columns.now _ c.in_err-value.field-0.0 c.loop-value.invariant.1 c.in_err-value.ensures (omega (arith, c.loop-value.invariant.0, length-take c.loop-value.value-index c.loop-value.value-items)))

pub loop-value-preserved : goal.loop-value-preserved
loop-value-preserved g c =
    let inside : c.loop-value.value-index < length c.loop-value.value-items = omega (arith, c.loop-value.invariant.0) in (
      length-set _ _ _ ∙ c.loop-value.invariant.0,
      rw (take_more_set c.loop-value.value-items c.loop-value.value-index _ inside)
          (one_more _ _ _ c.loop-value.self.columns.now _ c.in_ok-value.field-0 _ _ c.loop-value.invariant.1 c.in_ok-value.ensures),
    )

pub returns : goal.returns
returns g c =
    let all : take c.loop-value.value-index c.loop-value.value-items ≡ c.loop-value.value-items = take_all _ _ (omega (arith, c.loop-value.invariant.0)) in
    numbers_read _ _ _ _ c.loop-value.self.columns.now _ c.loop-value.invariant.0 (subst (λ vs. Sofar c.args.self.now.columns.now c.args.self.now.column vs c.loop-value.self.columns.now c.loop-value.self.column) all c.loop-value.invariant.1)
