-- What is told of a line, as an answer. Assumes nothing.
use Rattle.std.specs.Prelude.{Ok, Err, Result}
use Rattle.sheet.specs.Refusals as sheet
use Rattle.sheet.specs.declared.refusals.Refusal as sheet_refusal
use Rattle.ledger.specs.Ledger.{Answer, refused}
use Rattle.runs.specs.declared.replies.Reply.{Reply}
use Rattle.runs.specs.Told.{answer_of}
use Rattle.listing.specs.declared.refusals.Refusal.{Refusal}
use Rattle.listing.specs.Refusals.{number, layer, place}

-- a refusal of a sheet or of a line's form
abbrev pub form_refusal : sheet_refusal.Refusal → Answer
form_refusal e = refused (sheet.number e) (sheet.layer e) (sheet.place e)

-- what a call is granted
abbrev pub granted : Reply → Answer
granted reply = answer_of (Ok reply)

abbrev pub told : Result Reply Refusal → Answer
told (Ok reply) = granted reply
told (Err refusal) = refused (number refusal) (layer refusal) (place refusal)
