use Rattle.std.proofs.Common.{refl}
use Rattle.std.proofs.lemmas.Result.{err_from_is_err_and}
use Rattle.listing.specs.Listing.{first_ill_formed, first_untimely, not_on_offer, on_offer}
use Rattle.listing.proofs.Fitting.{form_fits, turn_fits}
use Rattle.listing.proofs.Firsts.{choice_fits, card_small, card_by, no_card}
use Rattle.listing.proofs.lists.card_asked.Goals as goal

pub returns-in_err-alphabet : goal.returns-in_err-alphabet
returns-in_err-alphabet c =
    let p = err_from_is_err_and c.from_residual.result c.from_residual.ensures.1 in
    rw (p.1, p.2) (form_fits _ _ c.in_err-alphabet.ensures, λ lines. first_ill_formed _ lines _ c.in_err-alphabet.ensures)

pub returns-in_err-code-in-Card : goal.returns-in_err-code-in-Card
returns-in_err-code-in-Card c =
    let p = err_from_is_err_and c.from_residual-in_err-code-in-Card.result c.from_residual-in_err-code-in-Card.ensures.1 in
    let parsed = card_by _ c.in_ok-alphabet.field-0 _ _ _ _ _ _ _ _ _ _ _ _ c.in_ok-alphabet.ensures c.in-Card.is c.from.ensures c.from-in-Card.ensures c.from-in-Card-2.ensures c.from-in-Card-3.ensures refl refl in
    let chosen = c.in_err-code-in-Card.ensures in
    rw (p.1, p.2) (choice_fits _ _ _ _ c.in_err-code-in-Card.field-0.0 (card_small _ _ _ _ _ _ _ parsed.1).0 chosen, λ lines. not_on_offer _ lines _ _ _ _ _ _ _ parsed chosen)

pub invariant_of-terms : goal.invariant_of-terms
invariant_of-terms c =
    let parsed = card_by _ c.in_ok-alphabet.field-0 _ _ _ _ _ _ _ _ _ _ _ _ c.in_ok-alphabet.ensures c.in-Card.is c.from.ensures c.from-in-Card.ensures c.from-in-Card-2.ensures c.from-in-Card-3.ensures c.from-in-Card-4.ensures c.from-in-Card-5.ensures in
    let small = card_small _ _ _ _ _ _ _ parsed.1 in
    record { allowance_shown = small.1; pages_shown = small.2 }

pub returns-in_ok-code-in-Card : goal.returns-in_ok-code-in-Card
returns-in_ok-code-in-Card c lines answers told =
    let parsed = card_by _ c.in_ok-alphabet.field-0 _ _ _ _ _ _ _ _ _ _ _ _ c.in_ok-alphabet.ensures c.in-Card.is c.from.ensures c.from-in-Card.ensures c.from-in-Card-2.ensures c.from-in-Card-3.ensures c.from-in-Card-4.ensures c.from-in-Card-5.ensures in
    on_offer _ lines _ _ _ _ _ _ _ answers parsed c.in_ok-code-in-Card.ensures told

pub returns-in_default : goal.returns-in_default
returns-in_default c = (turn_fits, λ lines. first_untimely _ lines _ c.in_ok-alphabet.ensures (no_card _ c.in_default.not-Card))
