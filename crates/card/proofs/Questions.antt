-- What a card fetches of a page is what its ledger reads; so reads and comparisons lead from one history to the next. Assumes nothing.
use Rattle.std.proofs.Common.{◌≡◌, ℕ, ◌<◌, Bool, true, false, List, length, is_some, Some, None, Ok, Err, vec_items, Decides, Option, Result, sym, refl, ◌∙◌, subst, arith}
use Rattle.alphabet.specs.declared.refusals.Refusal.TheVariants as word
use Rattle.code.specs.Words.{BlockCode, Word, rest}
use Rattle.code.specs.Laws.{CodeLaws}
use Rattle.masking.specs.declared.refusals.Refusal as masking
use Rattle.masking.specs.declared.refusals.Refusal.TheVariants.{Coding, Allowance, Floor, MessageLength, MessageSymbol, NoMask}
use Rattle.masking.specs.Reading.{Unreadable, ReadAs}
use Rattle.ledger.specs.Ledger as ledger
use Rattle.ledger.specs.Ledger.{Made, page_of, BenchCall, Call, read, compare, Answer, Step, not_read, is_read, alike, unlike, InService}
use Rattle.card.specs.declared.page.Page.{Page}
use Rattle.card.specs.declared.refusals.Refusal.{Refusal}
use Rattle.card.specs.declared.refusals.Refusal.TheVariants as refusal
use Rattle.card.specs.Words.{FetchedAs}
use Rattle.card.specs.History.{Like, Shows, FetchedInLedger, refusal_answer, read_answer, compare_answer}
use Rattle.card.specs.Lending.{IsPage}
use Rattle.card.proofs.Shown.{in_made, entry_like}
use Rattle.card.proofs.Promised.{service_allowed}

-- a message is there, or none is
there_is : (m : Option (List ℕ)) → is_some m ≡ true → (x : List ℕ) × (m ≡ Some x)
there_is (Some x) e = (x, refl)
there_is None e = cc

there_is_none : (m : Option (List ℕ)) → is_some m ≡ false → m ≡ None
there_is_none (Some x) e = cc
there_is_none None e = refl

-- levels that a page cannot but have are refused only if no code word is near
far_only : (code : BlockCode) (levels : List ℕ) (room : ℕ) (e : masking.Refusal) (P : masking.Refusal → Type 0) → Word code levels → room ≡ length (rest code.information) → Unreadable code levels room e
    → (Unreadable code levels room (Coding word.TooFar) → P (Coding word.TooFar)) → P e
far_only code levels room (Coding (word.WordLength n)) P fit long u k = absurd (u.1 fit.whole)
far_only code levels room (Coding (word.NotASymbol i)) P fit long u k = absurd (omega (arith, u.1.bad, fit.symbols i u.1.within))
far_only code levels room (Coding word.TooFar) P fit long u k = k u
far_only code levels room (Coding (word.NotOffered choice)) P fit long u k = absurd u
far_only code levels room (Coding (word.BareLength n)) P fit long u k = absurd u
far_only code levels room (MessageLength n) P fit long u k = absurd (u.2 long)
far_only code levels room (Allowance f) P fit long u k = absurd u
far_only code levels room (Floor v) P fit long u k = absurd u
far_only code levels room (MessageSymbol i) P fit long u k = absurd u
far_only code levels room (NoMask n) P fit long u k = absurd u

module _ {C : Type 0} (meaning : C → BlockCode) (lawful : (c : C) → CodeLaws (meaning c)) (code : C) (allowance : ℕ) {pages : List Page} {p : ℕ} {page : Page} (found : IsPage pages p page)
    (made : Made) (bench : List (BenchCall × Answer)) (past : List (Call × Answer)) (l : List ledger.Page) (at : InService made bench past l) (shows : Shows meaning code allowance pages made l) where
  low : p < made.pages
  low = in_made shows found

  like : Like page (page_of made l p)
  like = entry_like shows found

  -- the read in the ledger's own code and levels
  in_ledger : (before : List ℕ) (r : Result ℕ masking.Refusal) (after : List ℕ) → ReadAs (meaning code) (vec_items page.levels) before r after → ReadAs made.code (page_of made l p).levels before r after
  in_ledger before r after h = rw (← like.levels, ← shows.coded) h

  pub fetched : (before : List ℕ) (r : Result ℕ Refusal) (after : List ℕ) → length before ≡ length (rest (meaning code).information) → FetchedAs (meaning code) page.taken p (vec_items page.levels) before r after → FetchedInLedger made l p r after
  fetched before (Ok corrected) after long h =
      let some = there_is (page_of made l p).message (sym like.taken ∙ h.0) in
      record { page_there = low; last = some.0; taken = some.1; reads = in_ledger before (Ok corrected) after h.1 }
  fetched before (Err (refusal.Blank q)) after long h = rw h.1 (ledger.Unreadable.is_blank low (there_is_none (page_of made l p).message (sym like.taken ∙ h.0)))
  fetched before (Err (refusal.Masking e)) after long h =
      let some = there_is (page_of made l p).message (sym like.taken ∙ h.0) in
      let fit : Word made.code (page_of made l p).levels = (service_allowed lawful shows at p).fit in
      far_only made.code (page_of made l p).levels (length before) e (λ x. ledger.Unreadable made l p (refusal_answer (refusal.Masking x))) fit (rw (← shows.coded) long) (in_ledger before (Err e) after h.1).0
      (λ u. ledger.Unreadable.too_far some.0 low some.1 u.2)
  fetched before (Err _) after long h = absurd h

-- two pages that were both read are alike if their messages are
pub compared_step : (made : Made) (l : List ledger.Page) (p r c d : ℕ) (m k : List ℕ) (b : Bool) → ledger.Readable made l p c m → ledger.Readable made l r d k → Decides b (m ≡ k) → Step made l (compare p r) (compare_answer (Ok b)) l
compared_step made l p r c d m k true one other decides = alike l p r c d m one (subst (ledger.Readable made l r d) (sym (decides.0 refl)) other)
compared_step made l p r c d m k false one other decides = unlike l p r c d m k one other (λ same. let turned = decides.1 same in cc)

-- a read of a page that is there, into a buffer of the right length
pub read_step : (made : Made) (l : List ledger.Page) (p room : ℕ) (r : Result ℕ Refusal) (message : List ℕ) → p < made.pages → room ≡ length (rest made.code.information) → FetchedInLedger made l p r message → Step made l (read p room) (read_answer r message) l
read_step made l p room (Ok corrected) message there long h = is_read l p room corrected message long h
read_step made l p room (Err e) message there long h = not_read l p room (refusal_answer e) there long h
