-- Calls made one after the other, each with its answer, lead from one history to the next. Assumes nothing.
use Rattle.std.proofs.Common.{◌≡◌, ℕ, ◌<◌, List, [], ◌∷◌, ◌++◌, length, get_or, sym, ap, ◌∙◌, subst, arith}
use Rattle.code.specs.Words.{BlockCode}
use Rattle.ledger.specs.Ledger as ledger
use Rattle.ledger.specs.Ledger.{Made, Answer}
use Rattle.card.specs.declared.cards.Card.{Card}
use Rattle.card.specs.History.{OneMore}
use Rattle.runs.specs.Told.{told}
use Rattle.runs.specs.Lived.{AllMore}

module _ {Q K R : Type 0} (call : Q → K) (answer : R → Answer) where
  -- one more answer tells of one more request
  told_more : (past : List (K × Answer)) (qs : List Q) (rs : List R) (q d : Q) (r : R) → length rs < length qs → q ≡ get_or qs (length rs) d → told call answer past qs (rs ++ r ∷ []) ≡ (call q, answer r) ∷ told call answer past qs rs
  told_more past [] rs q d r h e = absurd (omega arith)
  told_more past (p ∷ qs) [] q d r h e = ap (λ x. (call x, answer r) ∷ past) (sym e)
  told_more past (p ∷ qs) (s ∷ rs) q d r h e = told_more ((call p, answer s) ∷ past) qs rs q d r (omega arith) e

  module _ {C S : Type 0} (meaning : C → BlockCode) (made : Made) (Led : List (K × Answer) → List ledger.Page → Type 0) (qs : List Q) where
    pub none_yet : (card : Card C S) (rs : List R) → rs ≡ [] → AllMore meaning made Led call answer card qs rs card
    none_yet card rs e past l led shows = (l, subst (λ (z : List R). Led (told call answer past qs z) l) (sym e) led, shows)

    pub one_more : (card card' card'' : Card C S) (rs rs' : List R) (i : ℕ) (q d : Q) (r : R) → AllMore meaning made Led call answer card qs rs card' → OneMore meaning made Led card' (call q) (answer r) card''
        → i < length qs → length rs ≡ i → q ≡ get_or qs i d → rs' ≡ rs ++ r ∷ [] → AllMore meaning made Led call answer card qs rs' card''
    one_more card card' card'' rs rs' i q d r all one within long is more past l led shows =
        let was = all past l led shows in
        let next = one (told call answer past qs rs) was.0 was.1 was.2 in
        let here : q ≡ get_or qs (length rs) d = subst (λ (n : ℕ). q ≡ get_or qs n d) (sym long) is in
        let longer : told call answer past qs rs' ≡ (call q, answer r) ∷ told call answer past qs rs = ap (told call answer past qs) more ∙ told_more past qs rs q d r (omega arith) here in
        (next.0, subst (λ (z : List (K × Answer)). Led z next.0) (sym longer) next.1, next.2)
