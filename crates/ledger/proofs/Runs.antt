-- What a run tells of a page is what the ledger holds of it: the last message, the cells changed since, and no message before a save. Assumes nothing.
use Rattle.std.proofs.Common.{◌≡◌, ℕ, ◌<◌, ◌≤◌, Bool, true, false, cond, eqb, ◌⊎◌, List, ◌∷◌, length, get_or, Some, None, sym, refl, ap, ◌∙◌, subst, ap₂, inl, inr, ⊎_elim, arith}
use Rattle.std.proofs.lemmas.Bool.{cases_eq, cases_Bool, cond-false, both_ways, eqb-true}
use Rattle.code.specs.Words.{Message, Carries, mask_of, differences}
use Rattle.code.specs.Laws.{CodeLaws}
use Rattle.masking.proofs.Carriers.{one_carrier}
use Rattle.ledger.specs.Ledger.{Made, Page, page_of, with_cell, with_message, BenchCall, Call, save, read, compare, wear, drift, Answer, done, stored, found, compared, refused, BenchStep, floored, not_floored, Step, saved, AtBench, InService, new, opened}
use Rattle.ledger.specs.Runs.{marked, differing, either, grants, never_granted, LastSaved, at_save, since}
use Rattle.ledger.specs.Promise.{page_named}
use Rattle.ledger.proofs.Marks.{either_same, either_set, below_floor_differs, length_differing, same_unmarked, unmarked_both, differences_marked}
use Rattle.ledger.proofs.Shapes.{Sound, Kept, Effect, new_blank, set_page, set_other_page, effect, step_kept, bench_kept, service_kept}

-- a page keeps its message, and what is marked besides are the cells whose level changed
record Keeps (before after : Page) : Type 0 where
  message : after.message ≡ before.message
  spent : after.spent ≡ either before.spent (differing before.levels after.levels)

keeps_same : (x y : Page) → y ≡ x → Keeps x y
keeps_same x y e = subst (Keeps x) (sym e) (record { message = refl; spent = sym (either_same x.spent x.levels) })

module _ (made : Made) (laws : CodeLaws made.code) where
  note_keeps : (x : Page) (c f v : ℕ) → Sound made.code x → Keeps x (with_cell x c f v)
  note_keeps x c f v sound = record { message = refl; spent = either_set x.spent x.levels c v (sound.spent_whole ∙ sym sound.levels_allowed.fit.whole) }

  effect_keeps : (l : List Page) (call : Call) (a : Answer) (l' : List Page) (p : ℕ) → Kept made l → Effect made laws l call a l' → grants p call a ≡ false → Keeps (page_of made l p) (page_of made l' p)
  effect_keeps l call a l' p kept Effect.nothing ungranted = keeps_same (page_of made l p) (page_of made l p) refl
  effect_keeps l call a l' p kept (Effect.takes m mask forced word low granted w) ungranted =
      keeps_same (page_of made l p) (page_of made l' p)
      (set_other_page made laws l (page_named call) p _ (λ same. both_ways (grants p call a) ungranted (ap (λ j. grants j call a) same ∙ granted)))
  effect_keeps l call a l' p kept (Effect.notes c f v low _ _ _) ungranted =
      ⊎_elim
      (λ same.
      subst (λ j. Keeps (page_of made l j) (page_of made l' j)) (sym same)
      (subst (Keeps (page_of made l (page_named call))) (sym (set_page made laws l (page_named call) _ kept low)) (note_keeps (page_of made l (page_named call)) c f v (kept.sound (page_named call)))))
      (λ other. keeps_same (page_of made l p) (page_of made l' p) (set_other_page made laws l (page_named call) p _ other))
      (cases_eq p (page_named call))

  -- a call that grants no save to a page
  step_keeps : (l : List Page) (call : Call) (a : Answer) (l' : List Page) (p : ℕ) → Kept made l → Step made l call a l' → grants p call a ≡ false → Keeps (page_of made l p) (page_of made l' p)
  step_keeps l call a l' p kept step ungranted = effect_keeps l call a l' p kept (effect made laws l call a l' kept step) ungranted

  -- the ledger holds the message and the marks, and the levels follow a code word that carries the message but in marked cells
  pub record Follows (p : ℕ) (l : List Page) (m : List ℕ) (changed : List Bool) : Type 0 where
    pub kept : Kept made l
    pub there : p < made.pages
    pub symbols : Message made.code m
    pub message : (page_of made l p).message ≡ Some m
    pub spent : (page_of made l p).spent ≡ changed
    pub carrier : List ℕ
    pub carrying : Carries made.code carrier m
    pub agrees : (i : ℕ) → get_or changed i false ≡ false → get_or (page_of made l p).levels i 0 ≡ get_or carrier i 0

  follows_save : (l : List Page) (p : ℕ) (m : List ℕ) (mask forced : ℕ) (l' : List Page) (carrier : List ℕ) → Kept made l → Step made l (save p m) (stored mask forced) l'
      → Carries made.code carrier m → mask_of made.code carrier ≡ mask → Follows p l' m (differing (page_of made l' p).levels carrier)
  follows_save l p m mask forced l' carrier kept (saved _ _ _ _ _ word low message w) carrying masked =
      let step : Step made l (save p m) (stored mask forced) l' = saved l p m mask forced word low message w in
      let kept' : Kept made l' = step_kept made laws l (save p m) (stored mask forced) l' kept step in
      let set_is : page_of made l' p ≡ with_message (page_of made l p) m w.carrier word = set_page made laws l p _ kept low in
      let same : w.carrier ≡ carrier = one_carrier made.code laws w.carrier carrier m w.fewest.carrying carrying (w.fewest.masked ∙ sym masked) in
      let whole : length w.carrier ≡ made.code.cells = (laws.words w.carrier w.fewest.carrying.held).whole in
      record {
        kept = kept';
        there = low;
        symbols = message;
        message = ap (λ x. x.message) set_is;
        spent =
            ap (λ x. x.spent) set_is
            ∙ below_floor_differs (page_of made l p).floors w.carrier ((kept.sound p).floors_fit.whole ∙ sym whole)
            ∙ ap₂ differing (sym w.written ∙ sym (ap (λ x. x.levels) set_is)) same;
        carrier = carrier;
        carrying = carrying;
        agrees = same_unmarked (page_of made l' p).levels carrier ((kept'.sound p).levels_allowed.fit.whole ∙ sym (laws.words carrier carrying.held).whole);
      }

  follows_since : (l : List Page) (p : ℕ) (call : Call) (a : Answer) (l' : List Page) (m : List ℕ) (changed : List Bool) → Follows p l m changed → Step made l call a l' → grants p call a ≡ false
      → Follows p l' m (either changed (differing (page_of made l p).levels (page_of made l' p).levels))
  follows_since l p call a l' m changed f step ungranted =
      let x : List ℕ = (page_of made l p).levels in
      let y : List ℕ = (page_of made l' p).levels in
      let kept' : Kept made l' = step_kept made laws l call a l' f.kept step in
      let k = step_keeps l call a l' p f.kept step ungranted in
      let whole : length x ≡ made.code.cells = (f.kept.sound p).levels_allowed.fit.whole in
      let whole' : length y ≡ made.code.cells = (kept'.sound p).levels_allowed.fit.whole in
      let marks : length changed ≡ made.code.cells = sym (ap length f.spent) ∙ (f.kept.sound p).spent_whole in
      record {
        kept = kept';
        there = f.there;
        symbols = f.symbols;
        message = k.message ∙ f.message;
        spent = k.spent ∙ ap (λ b. either b (differing x y)) f.spent;
        carrier = f.carrier;
        carrying = f.carrying;
        agrees = λ i u.
            let parts = unmarked_both changed (differing x y) (omega (arith, length_differing x y)) i u in
            sym (same_unmarked x y (whole ∙ sym whole') i parts.1) ∙ f.agrees i parts.0;
      }

  pub follows : (bench : List (BenchCall × Answer)) (p : ℕ) (past : List (Call × Answer)) (l : List Page) (m : List ℕ) (changed : List Bool) → LastSaved made bench p past l m changed → Follows p l m changed
  follows bench p past l m changed (at_save past' k _ _ mask forced carrier run step carrying masked) =
      follows_save k p m mask forced l carrier (service_kept made laws bench past' k run) step carrying masked
  follows bench p past l m changed (since past' k _ call a _ changed' before step ungranted) =
      follows_since k p call a l m changed' (follows bench p past' k m changed' before) step ungranted

  -- so they are near that code word
  pub follows_near : (p : ℕ) (l : List Page) (m : List ℕ) (changed : List Bool) (f : Follows p l m changed) → differences (page_of made l p).levels f.carrier ≤ marked changed
  follows_near p l m changed f =
      differences_marked (page_of made l p).levels f.carrier changed ((f.kept.sound p).levels_allowed.fit.whole ∙ sym (laws.words f.carrier f.carrying.held).whole) f.agrees

  -- at the bench no page has a message
  bench_step_blank : (l : List Page) (call : BenchCall) (a : Answer) (l' : List Page) (r : ℕ) → Kept made l → ((p : ℕ) → (page_of made l p).message ≡ None) → BenchStep made l call a l' → (page_of made l' r).message ≡ None
  bench_step_blank l call a l' r kept none (floored _ p c v spot) =
      ⊎_elim
      (λ (same : r ≡ p). ap (λ j. (page_of made l' j).message) same ∙ ap (λ x. x.message) (set_page made laws l p _ kept spot.page_there) ∙ none p)
      (λ other. ap (λ x. x.message) (set_other_page made laws l p r _ other) ∙ none r)
      (cases_eq r p)
  bench_step_blank l call a l' r kept none (not_floored _ _ _ _ _ _) = none r

  bench_blank : (past : List (BenchCall × Answer)) (l : List Page) → AtBench made past l → (p : ℕ) → (page_of made l p).message ≡ None
  bench_blank past l new p = ap (λ x. x.message) (new_blank made laws p)
  bench_blank past l (AtBench.next past' k call a _ before step) p = bench_step_blank k call a l p (bench_kept made laws past' k before) (bench_blank past' k before) step

  not_granted : (b t : Bool) → cond b false t ≡ true → (b ≡ false) × (t ≡ true)
  not_granted true t e = absurd (both_ways false refl e)
  not_granted false t e = (refl, e)

  -- nor in service until a save is granted to it
  pub no_message_until_saved : (bench : List (BenchCall × Answer)) (past : List (Call × Answer)) (l : List Page) (p : ℕ) → InService made bench past l → never_granted p past ≡ true → (page_of made l p).message ≡ None
  no_message_until_saved bench past l p (opened _ _ before) never = bench_blank bench l before p
  no_message_until_saved bench past l p (InService.next _ past' k call a _ before step) never =
      let parts = not_granted (grants p call a) (never_granted p past') never in
      (step_keeps k call a l p (service_kept made laws bench past' k before) step parts.0).message ∙ no_message_until_saved bench past' k p before parts.1

  -- a save granted to the page, and no other call, grants it a save
  no_grant : (b : Bool) → cond b false false ≡ true → ⊥
  no_grant true e = both_ways false refl e
  no_grant false e = both_ways false refl e

  abbrev Saved : (bench : List (BenchCall × Answer)) (p : ℕ) → List (Call × Answer) → List Page → Type 0
  Saved bench p past l = (m : List ℕ) × (changed : List Bool) × LastSaved made bench p past l m changed

  save_saved : (bench : List (BenchCall × Answer)) (past : List (Call × Answer)) (l : List Page) (p r : ℕ) (m : List ℕ) (mask forced : ℕ) (l' : List Page) → InService made bench past l
      → Step made l (save r m) (stored mask forced) l' → cond (eqb r p) true false ≡ true → Saved bench p ((save r m, stored mask forced) ∷ past) l'
  save_saved bench past l p r m mask forced l' run (saved _ _ _ _ _ word low message w) granted =
      let same : r ≡ p = eqb-true r p (⊎_elim (λ t. t) (λ t. absurd (both_ways (cond (eqb r p) true false) (cond-false (eqb r p) true false t) granted)) (cases_Bool (eqb r p))) in (
        m,
        differing (page_of made l' r).levels w.carrier,
        subst (λ j. LastSaved made bench j ((save r m, stored mask forced) ∷ past) l' m (differing (page_of made l' r).levels w.carrier)) same
            (at_save past l l' m mask forced w.carrier run (saved l r m mask forced word low message w) w.fewest.carrying w.fewest.masked),
      )

  granted_saved : (bench : List (BenchCall × Answer)) (past : List (Call × Answer)) (l : List Page) (p : ℕ) (call : Call) (a : Answer) (l' : List Page) → InService made bench past l
      → Step made l call a l' → grants p call a ≡ true → Saved bench p ((call, a) ∷ past) l'
  granted_saved bench past l p (save r m) (stored mask forced) l' run step granted = save_saved bench past l p r m mask forced l' run step granted
  granted_saved bench past l p (save r m) done l' run step granted = absurd (no_grant (eqb r p) granted)
  granted_saved bench past l p (save r m) (found c k) l' run step granted = absurd (no_grant (eqb r p) granted)
  granted_saved bench past l p (save r m) (compared same) l' run step granted = absurd (no_grant (eqb r p) granted)
  granted_saved bench past l p (save r m) (refused n b c) l' run step granted = absurd (no_grant (eqb r p) granted)
  granted_saved bench past l p (read r n) a l' run step granted = absurd (both_ways false refl granted)
  granted_saved bench past l p (compare r s) a l' run step granted = absurd (both_ways false refl granted)
  granted_saved bench past l p (wear r c v) a l' run step granted = absurd (both_ways false refl granted)
  granted_saved bench past l p (drift r c v) a l' run step granted = absurd (both_ways false refl granted)

  pub saved_or_never : (bench : List (BenchCall × Answer)) (past : List (Call × Answer)) (l : List Page) (p : ℕ) → InService made bench past l
      → (never_granted p past ≡ true) ⊎ ((m : List ℕ) × (changed : List Bool) × LastSaved made bench p past l m changed)
  saved_or_never bench past l p (opened _ _ before) = inl refl
  saved_or_never bench past l p (InService.next _ past' k call a _ before step) =
      ⊎_elim
      (λ granted. inr (granted_saved bench past' k p call a l before step granted))
      (λ ungranted.
      ⊎_elim
      (λ never. inl (cond-false (grants p call a) false (never_granted p past') ungranted ∙ never))
      (λ s. inr (s.0, _, since past' k l call a s.0 s.1 s.2 step ungranted))
      (saved_or_never bench past' k p before))
      (cases_Bool (grants p call a))
