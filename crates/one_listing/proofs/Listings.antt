-- A sheet has one listing.
use Rattle.std.proofs.Common.{◌≡◌, ℕ, List, [], ◌∷◌, get_or, Ok, Err, Result, sym, refl, ap, subst, ⊎_elim, arith}
use Rattle.alphabet.specs.declared.refusals.Refusal as code_refusal
use Rattle.code.specs.Words.{BlockCode}
use Rattle.catalog.specs.Offers.{Chosen}
use Rattle.sheet.specs.declared.refusals.Refusal.TheVariants.{SheetLength}
use Rattle.sheet.specs.declared.parsing.Line.{Line}
use Rattle.sheet.specs.declared.parsing.Line.TheVariants.{Card}
use Rattle.sheet.specs.Refusals.{Checked}
use Rattle.sheet.specs.Parsing.{Parsed}
use Rattle.ledger.specs.Ledger.{Answer, done}
use Rattle.card.specs.History.{made_from, refusal_answer}
use Rattle.listing.specs.Rows.{rows}
use Rattle.listing.specs.Told.{form_refusal}
use Rattle.listing.specs.Turns.{at_bench}
use Rattle.listing.specs.Listing.{choice_refusal, AsksForCard, CardTold, card_refused, card_made, SheetTold, first_ill_formed, first_untimely, not_on_offer, on_offer, sheet_refused, sheet_listed}
use Rattle.one_listing.specs.Listings.{OneListing}
use Rattle.one_listing.proofs.Lines.{one_list_of_numbers, never_both, one_refusal, for_card}
use Rattle.one_listing.proofs.Choices.{one_choice}
use Rattle.one_listing.proofs.Making.{one_card_refusal, refused_or_made}
use Rattle.one_listing.proofs.Turns.{one_turns}

one_card_told : (code : BlockCode) (f p : ℕ) (lines : List (List ℕ)) (xs ys : List Answer) → CardTold code f p lines xs → CardTold code f p lines ys → xs ≡ ys
one_card_told code f p lines xs ys (card_refused d h) (card_refused e k) = ap (λ r. refusal_answer r ∷ []) (one_card_refusal code f p d e h k)
one_card_told code f p lines xs ys (card_refused e h) (card_made _ _ pages small _ _ _) = absurd (refused_or_made code f p e h pages small)
one_card_told code f p lines xs ys (card_made _ _ pages small _ _ _) (card_refused e h) = absurd (refused_or_made code f p e h pages small)
one_card_told code f p lines xs ys (card_made xs' s _ _ turns kept promise) (card_made ys' t _ _ turns' kept' _) =
    ap (λ k. done ∷ k) (one_turns (made_from code f p) promise lines xs' ys' (at_bench []) s t turns turns' kept kept')

-- the numbers of the first line choose one code, or are refused in one way
one_chosen : (line : List ℕ) (a c q n f p a' c' q' n' f' p' : ℕ) (r s : Result BlockCode code_refusal.Refusal) → Parsed line (Ok (Card a c q n f p)) → Parsed line (Ok (Card a' c' q' n' f' p'))
    → Chosen a c q n r → Chosen a' c' q' n' s → r ≡ s
one_chosen line a c q n f p a' c' q' n' f' p' r s h k chosen other =
    one_choice a' c' q' n' r s
    (subst (λ ns. Chosen (get_or ns 0 0) (get_or ns 1 0) (get_or ns 2 0) (get_or ns 3 0) r) (one_list_of_numbers line (Card a c q n f p) (Card a' c' q' n' f' p') h k) chosen)
    other

never_chosen : (code : BlockCode) (e : code_refusal.Refusal) → ◌≡◌ {A = Result BlockCode code_refusal.Refusal} (Ok code) (Err e) → ⊥
never_chosen code e same = let z : ◌≡◌ {A = ℕ} 0 1 = cc in omega arith

-- where one reading asks for a card, each does
asks_for_card : (line : List ℕ) (x : Line) (a c q n f p : ℕ) → Parsed line (Ok x) → Parsed line (Ok (Card a c q n f p)) → (AsksForCard x → ⊥) → ⊥
asks_for_card line x a c q n f p h k late = late (for_card line (Card a c q n f p) x k h tt)

one_told : (lines : List (List ℕ)) (xs ys : List Answer) → SheetTold lines xs → SheetTold lines ys → xs ≡ ys
one_told lines xs ys (first_ill_formed line _ d p) (first_ill_formed _ _ e q) = ap (λ r. form_refusal r ∷ []) (one_refusal line d e p q)
one_told lines xs ys (first_ill_formed line _ e q) (first_untimely _ _ x p _) = absurd (never_both line x e p q)
one_told lines xs ys (first_ill_formed line _ e k) (not_on_offer _ _ a c q n f p _ h _) = absurd (never_both line (Card a c q n f p) e h k)
one_told lines xs ys (first_ill_formed line _ e k) (on_offer _ _ a c q n f p _ _ h _ _) = absurd (never_both line (Card a c q n f p) e h k)
one_told lines xs ys (first_untimely line _ x p _) (first_ill_formed _ _ e q) = absurd (never_both line x e p q)
one_told lines xs ys (first_untimely _ _ _ _ _) (first_untimely _ _ _ _ _) = refl
one_told lines xs ys (first_untimely line _ x h late) (not_on_offer _ _ a c q n f p _ k _) = absurd (asks_for_card line x a c q n f p h k late)
one_told lines xs ys (first_untimely line _ x h late) (on_offer _ _ a c q n f p _ _ k _ _) = absurd (asks_for_card line x a c q n f p h k late)
one_told lines xs ys (not_on_offer line _ a c q n f p _ h _) (first_ill_formed _ _ e k) = absurd (never_both line (Card a c q n f p) e h k)
one_told lines xs ys (not_on_offer line _ a c q n f p _ k _) (first_untimely _ _ x h late) = absurd (asks_for_card line x a c q n f p h k late)
one_told lines xs ys (not_on_offer line _ a c q n f p d h chosen) (not_on_offer _ _ a' c' q' n' f' p' e k other) =
    let same = one_chosen line a c q n f p a' c' q' n' f' p' (Err d) (Err e) h k chosen other in
    let refusals : d ≡ e = cc in
    ap (λ r. choice_refusal r ∷ []) refusals
one_told lines xs ys (not_on_offer line _ a c q n f p e h chosen) (on_offer _ _ a' c' q' n' f' p' code _ k other _) =
    absurd (never_chosen code e (sym (one_chosen line a c q n f p a' c' q' n' f' p' (Err e) (Ok code) h k chosen other)))
one_told lines xs ys (on_offer line _ a c q n f p _ _ h _ _) (first_ill_formed _ _ e k) = absurd (never_both line (Card a c q n f p) e h k)
one_told lines xs ys (on_offer line _ a c q n f p _ _ k _ _) (first_untimely _ _ x h late) = absurd (asks_for_card line x a c q n f p h k late)
one_told lines xs ys (on_offer line _ a c q n f p code _ h chosen _) (not_on_offer _ _ a' c' q' n' f' p' e k other) =
    absurd (never_chosen code e (one_chosen line a c q n f p a' c' q' n' f' p' (Ok code) (Err e) h k chosen other))
one_told lines xs ys (on_offer line others a c q n f p code _ h chosen card) (on_offer _ _ a' c' q' n' f' p' code' _ k other card') =
    let same = one_chosen line a c q n f p a' c' q' n' f' p' (Ok code) (Ok code') h k chosen other in
    let codes : code ≡ code' = cc in
    let numbers = one_list_of_numbers line (Card a c q n f p) (Card a' c' q' n' f' p') h k in
    one_card_told code' f' p' others xs ys (subst (λ ns. CardTold code' (get_or ns 4 0) (get_or ns 5 0) others xs) numbers (subst (λ x. CardTold x f p others xs) codes card)) card'

-- a sheet is refused as a whole, or it is not
refused_or_listed : (sheet : List ℕ) → Checked sheet (Err SheetLength) → Checked sheet (Ok tt) → ⊥
refused_or_listed sheet h k = ⊎_elim (λ e. omega arith) (λ l. omega arith) h

pub one_listing : OneListing
one_listing sheet a b (sheet_refused _) (sheet_refused _) = refl
one_listing sheet a b (sheet_refused h) (sheet_listed _ _ k _ _ _) = absurd (refused_or_listed sheet h k)
one_listing sheet a b (sheet_listed _ _ k _ _ _) (sheet_refused h) = absurd (refused_or_listed sheet h k)
one_listing sheet a b (sheet_listed lines xs _ all told _) (sheet_listed others ys _ all' told' _) =
    ap (rows 1) (one_told others xs ys (subst (λ x. SheetTold x xs) (all'.only lines all.cut) told) told')
