use Rattle.ledger.proofs.NewCards.{new_cards_read, small_card_reads}
use Rattle.ledger.proofs.new_cards_read.Goals as goal

pub returns : goal.returns
returns c = record { each = new_cards_read; one = small_card_reads }
