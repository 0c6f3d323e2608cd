-- A card that is asked for: refused, or made.
use Rattle.std.proofs.Common.{ℕ, ◌<◌, [], ◌∷◌, subst, arith}
use Rattle.code.specs.Words.{BlockCode}
use Rattle.code.specs.Laws.{CodeLaws}
use Rattle.masking.specs.declared.refusals.Refusal.TheVariants as masking
use Rattle.ledger.specs.Ledger.{done, blank_pages, new}
use Rattle.ledger.proofs.Stands.{promise}
use Rattle.card.specs.declared.refusals.Refusal.{Refusal}
use Rattle.card.specs.declared.refusals.Refusal.TheVariants.{Masking, PageCount, NoPage, NoCell, NoLevel, Blank, BelowFloor}
use Rattle.card.specs.History.{made_from, refusal_answer}
use Rattle.card.specs.Making.{New, RefusedCard}
use Rattle.listing.specs.declared.run.Run.{Run}
use Rattle.listing.specs.Rows.{Fits}
use Rattle.listing.specs.Telling.{Tells}
use Rattle.listing.specs.Turns.{at_bench, Turns}
use Rattle.listing.specs.Serving.{Bench, AtTheBench, InUse}
use Rattle.listing.specs.Listing.{card_refused, card_made}
use Rattle.listing.specs.Sheets.{OthersListed, CardListed}
use Rattle.listing.proofs.Fitting.{refusal_fits, done_fits}
use Rattle.listing.proofs.Gathered.{listed_one, listed_append}

-- the place of a card's refusal is a number of its line
pub card_fits : (code : BlockCode) (allowance pages : ℕ) (e : Refusal) → allowance < 10000 → pages < 10000 → RefusedCard code allowance pages e → Fits (refusal_answer e)
card_fits code allowance pages (PageCount n) f p h = refusal_fits 1 2 n (omega arith) (omega arith) (omega (arith, h.0))
card_fits code allowance pages (Masking (masking.Allowance n)) f p h = refusal_fits 2 2 n (omega arith) (omega arith) (omega (arith, h.0))
card_fits code allowance pages (Masking (masking.Coding e)) f p h = absurd h
card_fits code allowance pages (Masking (masking.Floor v)) f p h = absurd h
card_fits code allowance pages (Masking (masking.MessageLength n)) f p h = absurd h
card_fits code allowance pages (Masking (masking.MessageSymbol i)) f p h = absurd h
card_fits code allowance pages (Masking (masking.NoMask n)) f p h = absurd h
card_fits code allowance pages (NoPage n) f p h = absurd h
card_fits code allowance pages (NoCell c) f p h = absurd h
card_fits code allowance pages (NoLevel v) f p h = absurd h
card_fits code allowance pages (Blank n) f p h = absurd h
card_fits code allowance pages (BelowFloor c) f p h = absurd h

pub refused_listed : (code : BlockCode) (allowance pages : ℕ) (e : Refusal) (before after : Run) → Fits (refusal_answer e) → RefusedCard code allowance pages e → Tells before (refusal_answer e) after → CardListed code allowance pages before after
refused_listed code allowance pages e before after f h tells = record { answers = refusal_answer e ∷ []; told = card_refused e h; listed = listed_one before after (refusal_answer e) f tells }

module _ {C : Type 0} (meaning : C → BlockCode) (lawful : (c : C) → CodeLaws (meaning c)) where
  pub new_in_use : (code : C) (allowance pages : ℕ) (b : Bench C) → New meaning code allowance pages b → InUse (AtTheBench meaning) b
  new_in_use code allowance pages b h = record { made = made_from (meaning code) allowance pages; stage = at_bench []; led = (blank_pages (made_from (meaning code) allowance pages), new, h.shows) }

  pub made_listed : (code : C) (allowance pages : ℕ) (b : Bench C) (before between after : Run) → New meaning code allowance pages b → Tells before done between → OthersListed meaning b between after → CardListed (meaning code) allowance pages before after
  made_listed code allowance pages b before between after h first o =
      let made = made_from (meaning code) allowance pages in
      let next = o.goes made (at_bench []) (blank_pages made, new, h.shows) in
      record {
        answers = done ∷ o.answers;
        told = card_made o.answers next.0 h.pages_there h.shows.within (subst (λ lines. Turns made (at_bench []) lines o.answers next.0) first.gone next.1) next.2 (promise _ (lawful code) h.shows.within);
        listed = listed_append before between after (done ∷ []) o.answers (listed_one before between done done_fits first) o.listed;
      }
