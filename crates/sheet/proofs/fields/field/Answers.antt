-- Each way out of `field`: by the columns of a number, case by case.
use Rattle.std.proofs.Common.{◌≡◌, length, refl, arith, rules}
use Rattle.sheet.proofs.Shown.{refused, told}
use Rattle.sheet.proofs.fields.field.Goals as goal

pub returns-in-32 : goal.returns-in-32
returns-in-32 c =
    let four : length c.args.columns.now ≡ 4 = search rules in
    refused _ _ four refl (λ v f. grind arith)

pub returns-in-32-2 : goal.returns-in-32-2
returns-in-32-2 c =
    let four : length c.args.columns.now ≡ 4 = search rules in
    told _ _ four c.digit.ensures (λ none v f. grind arith) (λ v h. grind arith)

pub returns-in_err-first_digit-in-32-3 : goal.returns-in_err-first_digit-in-32-3
returns-in_err-first_digit-in-32-3 c =
    let four : length c.args.columns.now ≡ 4 = search rules in
    refused _ _ four c.from_residual.ensures (λ v f. grind (arith, c.in_err-first_digit-in-32-3.ensures))

pub returns-in_ok-first_digit-in-32-3 : goal.returns-in_ok-first_digit-in-32-3
returns-in_ok-first_digit-in-32-3 c =
    let four : length c.args.columns.now ≡ 4 = search rules in
    let tens = c.in_ok-first_digit-in-32-3.ensures in
    told _ _ four c.with_digit.ensures (λ none v f. grind arith) (λ v h. grind arith)

pub returns-in_err-first_digit-in-32-4 : goal.returns-in_err-first_digit-in-32-4
returns-in_err-first_digit-in-32-4 c =
    let four : length c.args.columns.now ≡ 4 = search rules in
    refused _ _ four c.from_residual-in_err-first_digit-in-32-4.ensures (λ v f. grind (arith, c.in_err-first_digit-in-32-4.ensures))

pub returns-in_err-with_digit-in-32-4 : goal.returns-in_err-with_digit-in-32-4
returns-in_err-with_digit-in-32-4 c =
    let four : length c.args.columns.now ≡ 4 = search rules in
    refused _ _ four c.from_residual-in_err-with_digit-in-32-4.ensures (λ v f. grind (arith, c.in_err-with_digit-in-32-4.ensures))

pub returns-in_ok-with_digit-in-32-4 : goal.returns-in_ok-with_digit-in-32-4
returns-in_ok-with_digit-in-32-4 c =
    let four : length c.args.columns.now ≡ 4 = search rules in
    let hundreds = c.in_ok-first_digit-in-32-4.ensures in
    let tens = c.in_ok-with_digit-in-32-4.ensures in
    told _ _ four c.with_digit-in-32-4-2.ensures (λ none v f. grind arith) (λ v h. grind arith)

pub returns-in_err-first_digit-in_default : goal.returns-in_err-first_digit-in_default
returns-in_err-first_digit-in_default c =
    let four : length c.args.columns.now ≡ 4 = search rules in
    refused _ _ four c.from_residual-in_err-first_digit-in_default.ensures (λ v f. grind (arith, c.in_err-first_digit-in_default.ensures))

pub returns-in_err-with_digit-in_default : goal.returns-in_err-with_digit-in_default
returns-in_err-with_digit-in_default c =
    let four : length c.args.columns.now ≡ 4 = search rules in
    refused _ _ four c.from_residual-in_err-with_digit-in_default.ensures (λ v f. grind (arith, c.in_err-with_digit-in_default.ensures))

pub returns-in_err-with_digit-in_default-2 : goal.returns-in_err-with_digit-in_default-2
returns-in_err-with_digit-in_default-2 c =
    let four : length c.args.columns.now ≡ 4 = search rules in
    refused _ _ four c.from_residual-in_err-with_digit-in_default-2.ensures (λ v f. grind (arith, c.in_err-with_digit-in_default-2.ensures))

pub returns-in_ok-with_digit-in_default-2 : goal.returns-in_ok-with_digit-in_default-2
returns-in_ok-with_digit-in_default-2 c =
    let four : length c.args.columns.now ≡ 4 = search rules in
    let thousands = c.in_ok-first_digit-in_default.ensures in
    let hundreds = c.in_ok-with_digit-in_default.ensures in
    let tens = c.in_ok-with_digit-in_default-2.ensures in
    told _ _ four c.with_digit-in_default-3.ensures (λ none v f. grind arith) (λ v h. grind arith)
