-- A sheet's first line: what it asks for, and what it is told.
use Rattle.std.proofs.Common.{◌≡◌, ℕ, ◌<◌, List, [], ◌∷◌, drop, Some, Ok, Err, Result, Bor, sym, refl, ◌∙◌, subst, arith}
use Rattle.alphabet.specs.declared.refusals.Choice as choice
use Rattle.alphabet.specs.declared.refusals.Choice.TheVariants as choices
use Rattle.alphabet.specs.declared.refusals.Refusal as code_refusal
use Rattle.alphabet.specs.declared.refusals.Refusal.TheVariants.{NotOffered}
use Rattle.code.specs.Words.{BlockCode}
use Rattle.catalog.specs.declared.kinds.AlphabetKind.{AlphabetKind}
use Rattle.catalog.specs.declared.kinds.CodeKind.{CodeKind}
use Rattle.catalog.specs.Offers.{Offer, no_size, no_bare_length, bare_code, no_plane_length, plane_code, Chosen, no_alphabet_kind, no_code_kind, of_kinds}
use Rattle.sheet.specs.declared.parsing.Line.{Line}
use Rattle.sheet.specs.declared.parsing.Line.TheVariants.{Card, Floor, Worn, Move, Open, Read, Same, Save}
use Rattle.sheet.specs.Parsing.{BeginWith, Parsed}
use Rattle.sheet.proofs.Shown.{shown_small}
use Rattle.ledger.specs.Ledger.{Answer}
use Rattle.listing.specs.declared.run.Run.{Run}
use Rattle.listing.specs.Rows.{Fits}
use Rattle.listing.specs.Telling.{to_come, FirstLine, Tells}
use Rattle.listing.specs.Listing.{choice_refusal, AsksForCard, SheetTold}
use Rattle.listing.specs.Sheets.{SheetListed}
use Rattle.listing.proofs.Fitting.{refusal_fits}
use Rattle.listing.proofs.Gathered.{listed_one}

the_refusal : (e e' : code_refusal.Refusal) → ◌≡◌ {A = Result BlockCode code_refusal.Refusal} (Err e) (Err e') → e ≡ e'
the_refusal e e' same = cc

not_offered_fits : (c : choice.Choice) → Fits (choice_refusal (NotOffered c))
not_offered_fits choices.AlphabetKind = refusal_fits 24 1 1 (omega arith) (omega arith) (omega arith)
not_offered_fits choices.CodeKind = refusal_fits 24 1 2 (omega arith) (omega arith) (omega arith)
not_offered_fits choices.AlphabetSize = refusal_fits 24 1 3 (omega arith) (omega arith) (omega arith)
not_offered_fits choices.CodeLength = refusal_fits 24 1 4 (omega arith) (omega arith) (omega arith)

offer_fits : (alphabet : AlphabetKind) (q n : ℕ) (kind : CodeKind) (r : Result BlockCode code_refusal.Refusal) (e : code_refusal.Refusal) → n < 10000 → r ≡ Err e → Offer alphabet q n kind r → Fits (choice_refusal e)
offer_fits alphabet q n kind r e small is (no_size _ _) = subst (λ x. Fits (choice_refusal x)) (the_refusal _ e is) (not_offered_fits choices.AlphabetSize)
offer_fits alphabet q n kind r e small is (no_bare_length _ _) = subst (λ x. Fits (choice_refusal x)) (the_refusal _ e is) (refusal_fits 3 1 n (omega arith) (omega arith) small)
offer_fits alphabet q n kind r e small is (bare_code _ _ _) = absurd cc
offer_fits alphabet q n kind r e small is (no_plane_length _ _) = subst (λ x. Fits (choice_refusal x)) (the_refusal _ e is) (not_offered_fits choices.CodeLength)
offer_fits alphabet q n kind r e small is (plane_code _ _) = absurd cc

chosen_fits : (a c q n : ℕ) (r : Result BlockCode code_refusal.Refusal) (e : code_refusal.Refusal) → n < 10000 → r ≡ Err e → Chosen a c q n r → Fits (choice_refusal e)
chosen_fits a c q n r e small is (no_alphabet_kind _ was) = subst (λ x. Fits (choice_refusal x)) (the_refusal _ e (sym was ∙ is)) (not_offered_fits choices.AlphabetKind)
chosen_fits a c q n r e small is (no_code_kind _ _ _ was) = subst (λ x. Fits (choice_refusal x)) (the_refusal _ e (sym was ∙ is)) (not_offered_fits choices.CodeKind)
chosen_fits a c q n r e small is (of_kinds alphabet kind _ _ offer) = offer_fits alphabet q n kind r e small is offer

-- the place of a refused choice is a number of its line
pub choice_fits : (a c q n : ℕ) (e : code_refusal.Refusal) → n < 10000 → Chosen a c q n (Err e) → Fits (choice_refusal e)
choice_fits a c q n e small h = chosen_fits a c q n (Err e) e small refl h

-- the numbers of a card's line
pub card_small : (columns : List ℕ) (a c q n f p : ℕ) → BeginWith columns (a ∷ c ∷ q ∷ n ∷ f ∷ p ∷ []) → (n < 10000) × (f < 10000) × (p < 10000)
card_small columns a c q n f p h = (shown_small _ n h.1.1.1.0, shown_small _ f h.1.1.1.1.0, shown_small _ p h.1.1.1.1.1.0)

-- a card's line by equal numbers
pub card_by : (first : List ℕ) (x : Line) (a c q n f p a' c' q' n' f' p' : ℕ) → Parsed first (Ok x) → x ≡ Card a c q n f p → a' ≡ a → c' ≡ c → q' ≡ q → n' ≡ n → f' ≡ f → p' ≡ p → Parsed first (Ok (Card a' c' q' n' f' p'))
card_by first x a c q n f p a' c' q' n' f' p' parsed is ea ec eq en ef ep =
    let same : x ≡ Card a' c' q' n' f' p' = is ∙ (λ i. Card (sym ea i) (sym ec i) (sym eq i) (sym en i) (sym ef i) (sym ep i)) in
    subst (λ k. Parsed first (Ok k)) same parsed

-- a line of another verb asks for no card
pub no_card : (x : Line) → ((a c q n f p : ℕ) → x ≡ Card a c q n f p → ⊥) → AsksForCard x → ⊥
no_card (Card a c q n f p) h asks = h a c q n f p refl
no_card (Floor page cell level) h asks = asks
no_card (Worn page cell level) h asks = asks
no_card (Move page cell level) h asks = asks
no_card Open h asks = asks
no_card (Read page) h asks = asks
no_card (Same one other) h asks = asks
no_card (Save page symbols) h asks = asks

-- a first line that is told just this
pub one_told : (first : Bor (List ℕ)) (a : Answer) (before after : Run) → FirstLine before (Some first) → ((lines : List (List ℕ)) → SheetTold (first.now ∷ lines) (a ∷ [])) → Fits a → Tells before a after → SheetListed before after
one_told first a before after is told f tells = record { answers = a ∷ []; told = subst (λ k. SheetTold k (a ∷ [])) (sym is) (told (drop 1 (to_come before))); listed = listed_one before after a f tells }
