-- Which refusal a read answers for a word that the code does not correct. Assumes nothing.
use Rattle.std.specs.Prelude.{ℕ, cond, ◌==◌}
use Rattle.alphabet.specs.declared.refusals.Refusal as word
use Rattle.alphabet.specs.declared.refusals.Refusal.TheVariants.{NotOffered, BareLength, TooFar, WordLength, NotASymbol}
use Rattle.masking.specs.declared.refusals.Refusal.{Refusal}
use Rattle.masking.specs.declared.refusals.Refusal.TheVariants.{Coding, MessageLength}

abbrev pub unread_as : word.Refusal → (room wanted : ℕ) → Refusal
unread_as (NotOffered choice) room wanted = Coding (NotOffered choice)
unread_as (BareLength n) room wanted = Coding (BareLength n)
unread_as TooFar room wanted = cond (room == wanted) (Coding TooFar) (MessageLength room)
unread_as (WordLength n) room wanted = Coding (WordLength n)
unread_as (NotASymbol i) room wanted = Coding (NotASymbol i)
