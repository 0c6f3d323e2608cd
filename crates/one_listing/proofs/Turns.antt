-- Lines that a card is told one after another are told one thing each.
use Rattle.std.proofs.Common.{◌≡◌, ℕ, List, [], ◌∷◌, Ok, sym, refl, ap, subst, arith}
use Rattle.sheet.specs.declared.parsing.Line.TheVariants.{Floor, Open}
use Rattle.sheet.specs.Parsing.{Parsed}
use Rattle.ledger.specs.Ledger.{Made, BenchCall, floor, Call, Answer, AtBench, InService}
use Rattle.ledger.specs.Promise.{Promise}
use Rattle.listing.specs.Told.{form_refusal}
use Rattle.listing.specs.Turns.{Stage, at_bench, in_service, Kept, Turn, ill_formed, untimely, floored, opened, called, Turns}
use Rattle.one_listing.proofs.Lines.{one_list_of_numbers, never_both, one_refusal, for_bench, for_service, calls_in_service, one_call}
use Rattle.one_listing.proofs.Ledgers.{before_floor, before_call, before_opening, one_bench_answer, one_answer}

one_floor : (line : List ℕ) (p c v p' c' v' : ℕ) → Parsed line (Ok (Floor p c v)) → Parsed line (Ok (Floor p' c' v')) → floor p c v ≡ floor p' c' v'
one_floor line p c v p' c' v' h k = cc (one_list_of_numbers line (Floor p c v) (Floor p' c' v') h k)

no_floor : (line : List ℕ) (p c v : ℕ) → Parsed line (Ok (Floor p c v)) → Parsed line (Ok Open) → ⊥
no_floor line p c v h k = let z : ◌≡◌ {A = ℕ} 0 1 = cc in omega arith

module _ (made : Made) where
  -- the stages before one that the ledger led to are such stages too
  turn_kept : (s : Stage) (line : List ℕ) (a : Answer) (t : Stage) → Turn made s line a t → Kept made t → Kept made s
  turn_kept s line a t (ill_formed _ _ _ _) kept = kept
  turn_kept s line a t (untimely _ _ _ _ _) kept = kept
  turn_kept s line a t (floored past _ p c v _ _) kept = let x = before_floor made past (floor p c v) a kept.0 kept.1 in (x.0, x.1)
  turn_kept s line a t (opened past _ _) kept = (kept.0, before_opening made past kept.0 kept.1)
  turn_kept s line a t (called bench past _ _ call _ _ _) kept = let x = before_call made bench past call a kept.0 kept.1 in (x.0, x.1)

  turns_kept : (lines : List (List ℕ)) (answers : List Answer) (s t : Stage) → Turns made s lines answers t → Kept made t → Kept made s
  turns_kept [] [] s t turns kept = subst (Kept made) (sym turns) kept
  turns_kept [] (a ∷ answers) s t turns kept = absurd turns
  turns_kept (line ∷ lines) [] s t turns kept = absurd turns
  turns_kept (line ∷ lines) (a ∷ answers) s t turns kept = turn_kept s line a turns.0 turns.1 (turns_kept lines answers turns.0 t turns.2 kept)

  module _ (promise : Promise made) where
    one_floored : (past : List (BenchCall × Answer)) (c d : BenchCall) (a b : Answer) → c ≡ d → Kept made (at_bench ((c, a) ∷ past)) → Kept made (at_bench ((d, b) ∷ past))
        → (a ≡ b) × (at_bench ((c, a) ∷ past) ≡ at_bench ((d, b) ∷ past))
    one_floored past c d a b e kept kept' =
        let f : a ≡ b = one_bench_answer made promise past d a b kept.0 kept'.0 (subst (λ k. AtBench made ((k, a) ∷ past) kept.0) e kept.1) kept'.1 in
        (f, λ i. at_bench ((e i, f i) ∷ past))

    one_called : (bench : List (BenchCall × Answer)) (past : List (Call × Answer)) (c d : Call) (a b : Answer) → c ≡ d → Kept made (in_service bench ((c, a) ∷ past)) → Kept made (in_service bench ((d, b) ∷ past))
        → (a ≡ b) × (in_service bench ((c, a) ∷ past) ≡ in_service bench ((d, b) ∷ past))
    one_called bench past c d a b e kept kept' =
        let f : a ≡ b = one_answer made promise bench past d a b kept.0 kept'.0 (subst (λ k. InService made bench ((k, a) ∷ past) kept.0) e kept.1) kept'.1 in
        (f, λ i. in_service bench ((e i, f i) ∷ past))

    one_turn : (s : Stage) (line : List ℕ) (a b : Answer) (t u : Stage) → Turn made s line a t → Turn made s line b u → Kept made t → Kept made u → (a ≡ b) × (t ≡ u)
    one_turn s line a b t u (ill_formed _ _ d p) (ill_formed _ _ e q) kept kept' = (ap form_refusal (one_refusal line d e p q), refl)
    one_turn s line a b t u (ill_formed _ _ e q) (untimely _ _ x p _) kept kept' = absurd (never_both line x e p q)
    one_turn s line a b t u (ill_formed _ _ e q) (floored _ _ page cell level _ p) kept kept' = absurd (never_both line (Floor page cell level) e p q)
    one_turn s line a b t u (ill_formed _ _ e q) (opened _ _ p) kept kept' = absurd (never_both line Open e p q)
    one_turn s line a b t u (ill_formed _ _ e q) (called _ _ _ x _ _ p _) kept kept' = absurd (never_both line x e p q)
    one_turn s line a b t u (untimely _ _ x p _) (ill_formed _ _ e q) kept kept' = absurd (never_both line x e p q)
    one_turn s line a b t u (untimely _ _ _ _ _) (untimely _ _ _ _ _) kept kept' = (refl, refl)
    one_turn s line a b t u (untimely _ _ x p late) (floored _ _ page cell level _ q) kept kept' = absurd (late (for_bench line (Floor page cell level) x q p tt))
    one_turn s line a b t u (untimely _ _ x p late) (opened _ _ q) kept kept' = absurd (late (for_bench line Open x q p tt))
    one_turn s line a b t u (untimely _ _ x p late) (called _ _ _ y call _ q calls) kept kept' = absurd (late (for_service line y x q p (calls_in_service made y call calls)))
    one_turn s line a b t u (floored _ _ page cell level _ p) (ill_formed _ _ e q) kept kept' = absurd (never_both line (Floor page cell level) e p q)
    one_turn s line a b t u (floored _ _ page cell level _ q) (untimely _ _ x p late) kept kept' = absurd (late (for_bench line (Floor page cell level) x q p tt))
    one_turn s line a b t u (floored past _ p c v _ h) (floored _ _ p' c' v' _ k) kept kept' = one_floored past (floor p c v) (floor p' c' v') a b (one_floor line p c v p' c' v' h k) kept kept'
    one_turn s line a b t u (floored _ _ p c v _ h) (opened _ _ k) kept kept' = absurd (no_floor line p c v h k)
    one_turn s line a b t u (opened _ _ p) (ill_formed _ _ e q) kept kept' = absurd (never_both line Open e p q)
    one_turn s line a b t u (opened _ _ q) (untimely _ _ x p late) kept kept' = absurd (late (for_bench line Open x q p tt))
    one_turn s line a b t u (opened _ _ k) (floored _ _ p c v _ h) kept kept' = absurd (no_floor line p c v h k)
    one_turn s line a b t u (opened _ _ _) (opened _ _ _) kept kept' = (refl, refl)
    one_turn s line a b t u (called _ _ _ x _ _ p _) (ill_formed _ _ e q) kept kept' = absurd (never_both line x e p q)
    one_turn s line a b t u (called _ _ _ y call _ q calls) (untimely _ _ x p late) kept kept' = absurd (late (for_service line y x q p (calls_in_service made y call calls)))
    one_turn s line a b t u (called bench past _ x c _ p h) (called _ _ _ y d _ q k) kept kept' = one_called bench past c d a b (one_call made line x y c d p q h k) kept kept'

    pub one_turns : (lines : List (List ℕ)) (xs ys : List Answer) (s t u : Stage) → Turns made s lines xs t → Turns made s lines ys u → Kept made t → Kept made u → xs ≡ ys
    one_turns [] [] [] s t u h k kept kept' = refl
    one_turns [] [] (b ∷ ys) s t u h k kept kept' = absurd k
    one_turns [] (a ∷ xs) ys s t u h k kept kept' = absurd h
    one_turns (line ∷ lines) [] ys s t u h k kept kept' = absurd h
    one_turns (line ∷ lines) (a ∷ xs) [] s t u h k kept kept' = absurd k
    one_turns (line ∷ lines) (a ∷ xs) (b ∷ ys) s t u h k kept kept' =
        let first = one_turn s line a b h.0 k.0 h.1 k.1 (turns_kept lines xs h.0 t h.2 kept) (turns_kept lines ys k.0 u k.2 kept') in
        let others : xs ≡ ys = one_turns lines xs ys k.0 t u (subst (λ x. Turns made x lines xs t) first.1 h.2) k.2 kept kept' in
        λ i. first.0 i ∷ others i
