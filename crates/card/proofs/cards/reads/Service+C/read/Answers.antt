use Rattle.std.proofs.Common.{length, sym, ap, ◌∙◌, arith}
use Rattle.std.proofs.lemmas.Result.{err_from_is_err_and}
use Rattle.code.specs.Words.{rest}
use Rattle.ledger.specs.Ledger.{InService, read_no_page, read_wrong_room}
use Rattle.card.proofs.Questions.{read_step}
use Rattle.card.proofs.cards.reads.Service+C.read.Goals as goal

pub returns-in_err-find-clause-continues : goal.returns-in_err-find-clause-continues
returns-in_err-find-clause-continues g c =
    let p = err_from_is_err_and c.from_residual.result c.from_residual.ensures.1 in
    let none = c.in_err-find.ensures in
    rw (p.1, p.2, none.told) (λ made bench past l at shows.
    (l, InService.next bench past l _ _ _ at (read_no_page l c.args.page (length c.args.message.now) (omega (arith, none.past, shows.count))), shows))

pub returns-then-room-message_length-clause-continues : goal.returns-then-room-message_length-clause-continues
returns-then-room-message_length-clause-continues g c =
    rw c.into.ensures (λ made bench past l at shows. (
      l,
      InService.next bench past l _ _ _ at (read_wrong_room l c.args.page (length c.args.message.now) (omega (arith, c.in_ok-find.ensures.there, shows.count))
          (λ same. c.if-room-message_length.true (same ∙ sym (c.message_length.ensures.value ∙ ap (λ k. length (rest k.information)) shows.coded)))),
      shows,
    ))

pub returns-clause-continues : goal.returns-clause-continues
returns-clause-continues g c = λ made bench past l at shows. (
  l,
  InService.next bench past l _ _ _ at
      (read_step made l c.args.page (length c.args.message.now) c.fetch.result c.fetch.new.message (omega (arith, c.in_ok-find.ensures.there, shows.count))
      (c.if-room-message_length.false ∙ c.message_length.ensures.value ∙ ap (λ k. length (rest k.information)) shows.coded) (c.fetch.ensures.fetches made bench past l at shows)),
  shows,
)
