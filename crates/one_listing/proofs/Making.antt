-- A card is made, or it is refused in one way.
use Rattle.std.proofs.Common.{◌≡◌, ℕ, ◌<◌, ◌≤◌, ◌⊎◌, sym, ap, ◌∙◌, inl, inr, ⊎_elim, arith}
use Rattle.code.specs.Words.{BlockCode}
use Rattle.masking.specs.declared.refusals.Refusal.TheVariants as masking
use Rattle.card.specs.declared.refusals.Refusal.{Refusal}
use Rattle.card.specs.declared.refusals.Refusal.TheVariants.{Masking, PageCount, NoPage, NoCell, NoLevel, Blank, BelowFloor}
use Rattle.card.specs.Making.{Pages, RefusedCard}

-- refused for its pages, or else for its allowance
refused_for : (code : BlockCode) (f p : ℕ) (e : Refusal) → RefusedCard code f p e → ((e ≡ PageCount p) × (Pages p → ⊥)) ⊎ ((e ≡ Masking (masking.Allowance f)) × Pages p × (code.radius < f))
refused_for code f p (PageCount n) h = inl (ap PageCount h.0, h.1)
refused_for code f p (Masking (masking.Allowance n)) h = inr (ap (λ k. Masking (masking.Allowance k)) h.0, h.1, h.2)
refused_for code f p (Masking (masking.Coding e)) h = absurd h
refused_for code f p (Masking (masking.Floor v)) h = absurd h
refused_for code f p (Masking (masking.MessageLength n)) h = absurd h
refused_for code f p (Masking (masking.MessageSymbol i)) h = absurd h
refused_for code f p (Masking (masking.NoMask n)) h = absurd h
refused_for code f p (NoPage n) h = absurd h
refused_for code f p (NoCell c) h = absurd h
refused_for code f p (NoLevel v) h = absurd h
refused_for code f p (Blank n) h = absurd h
refused_for code f p (BelowFloor c) h = absurd h

pub one_card_refusal : (code : BlockCode) (f p : ℕ) (d e : Refusal) → RefusedCard code f p d → RefusedCard code f p e → d ≡ e
one_card_refusal code f p d e h k =
    ⊎_elim
    (λ x. ⊎_elim (λ y. x.0 ∙ sym y.0) (λ y. absurd (x.1 y.1)) (refused_for code f p e k))
    (λ x. ⊎_elim (λ y. absurd (y.1 x.1)) (λ y. x.0 ∙ sym y.0) (refused_for code f p e k))
    (refused_for code f p d h)

pub refused_or_made : (code : BlockCode) (f p : ℕ) (e : Refusal) → RefusedCard code f p e → Pages p → f ≤ code.radius → ⊥
refused_or_made code f p e h pages small = ⊎_elim (λ x. x.1 pages) (λ x. omega (arith, x.2)) (refused_for code f p e h)
