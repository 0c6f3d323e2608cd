use Rattle.std.proofs.Common.{◌≡◌, ℕ, ◌+◌, List, length, Some, Option, subst, ap, arith, length-drop, length-take, rules, Bor}
use Rattle.sheet.specs.Fields.{Taken}
use Rattle.sheet.proofs.Shown.{shown_long}
use Rattle.sheet.proofs.reading.Fields.number.Goals as goal

-- a field is four columns
four_less : (columns : List ℕ) (taken : Option (ℕ × Bor (List ℕ))) (value : ℕ) (rest : Bor (List ℕ)) → Taken columns taken → taken ≡ Some (value, rest) → length rest.now + 4 ≡ length columns
four_less columns taken value rest h e =
    let shown = subst (Taken columns) e h in
    omega (arith, shown_long _ value shown.0, length-take 4 columns, ap length shown.1, length-drop 4 columns)

pub overflow_add-self : goal.overflow_add-self
overflow_add-self c =
    let less = four_less _ _ _ c.in_ok-value.rest c.take_field.ensures c.in_ok-value.ensures.ok_part in
    search rules

pub invariant_of-self : goal.invariant_of-self
invariant_of-self c =
    let less = four_less _ _ _ c.in_ok-value.rest c.take_field.ensures c.in_ok-value.ensures.ok_part in
    record { countable = omega arith }
