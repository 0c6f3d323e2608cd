-- Which refusal a write answers for floors that are no word of the code, and for a message that is no list of symbols. Assumes nothing.
use Rattle.std.specs.Prelude.{ℕ, cond, List, length, nat_lt, slice_index}
use Rattle.alphabet.specs.declared.refusals.Refusal as word
use Rattle.alphabet.specs.declared.refusals.Refusal.TheVariants.{NotOffered, BareLength, TooFar, WordLength, NotASymbol}
use Rattle.masking.specs.declared.refusals.Refusal.{Refusal}
use Rattle.masking.specs.declared.refusals.Refusal.TheVariants.{Coding, Floor, MessageLength, MessageSymbol}

abbrev pub unfit_floors : word.Refusal → (floors : List ℕ) → Refusal
unfit_floors (NotOffered choice) floors = Coding (NotOffered choice)
unfit_floors (BareLength n) floors = Coding (BareLength n)
unfit_floors TooFar floors = Coding TooFar
unfit_floors (WordLength n) floors = Coding (WordLength n)
unfit_floors (NotASymbol i) floors = cond (nat_lt i (length floors)) (Floor (slice_index floors i)) (Coding (NotASymbol i))

abbrev pub unfit_message : word.Refusal → Refusal
unfit_message (NotOffered choice) = Coding (NotOffered choice)
unfit_message (BareLength n) = Coding (BareLength n)
unfit_message TooFar = Coding TooFar
unfit_message (WordLength n) = MessageLength n
unfit_message (NotASymbol i) = MessageSymbol i
