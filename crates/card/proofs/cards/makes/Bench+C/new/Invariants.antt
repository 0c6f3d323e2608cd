use Rattle.std.proofs.Common.{◌≡◌, vec_items, vec_len}
use Rattle.std.specs.List.{AllByRecursion as All}
use Rattle.card.specs.Words.{Blank}
use Rattle.card.proofs.cards.makes.Bench+C.new.Given as goal

abbrev pub invariant-loop : goal.invariant-loop
invariant-loop g l = All (Blank l.cells) (vec_items l.table) × (vec_len l.table ≡ l.counter)
