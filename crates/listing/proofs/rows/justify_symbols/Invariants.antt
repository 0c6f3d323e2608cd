use Rattle.std.proofs.Common.{◌≡◌, ◌-◌, ◌*◌, length, take, drop, replicate}
use Rattle.listing.specs.Rows.{columns}
use Rattle.listing.proofs.rows.justify_symbols.Given as goal

abbrev pub invariant-loop-index : goal.invariant-loop-index
invariant-loop-index l = record {
  shown : take (4 * l.index) l.columns ≡ columns (take l.index l.symbols);
  spaces : drop (4 * l.index) l.columns ≡ replicate (4 * length l.symbols - 4 * l.index) 32;
}
