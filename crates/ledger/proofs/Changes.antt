-- What a call changes, after any run and at the bench. Assumes nothing.
use Rattle.std.proofs.Common.{◌≡◌, ℕ, ◌<◌, ◌≤◌, max, List, length, get_or, set, sym, refl, ap, ◌∙◌, subst, ⊎_elim, arith}
use Rattle.std.proofs.lemmas.List.{get_or-set_same, get_or-set_other, get_or_past, set-get_or}
use Rattle.std.proofs.lemmas.Bool.{cases_lt, cases_eq}
use Rattle.code.specs.Laws.{CodeLaws}
use Rattle.ledger.specs.Ledger.{Made, Page, page_of, floor_at, level_at, Spot, NoSpot, Unreadable, BenchCall, floor, Call, save, read, compare, wear, drift, Answer, done, refused, BenchStep, floored, not_floored, Step, save_no_page, save_wrong_length, save_no_symbol, save_no_mask, saved, read_no_page, read_wrong_room, not_read, is_read, not_compared, other_not_compared, alike, unlike, worn, not_worn, drifted, no_drift, below_its_floor}
use Rattle.ledger.specs.Promise.{page_named, AnswerFits, to_save, to_read, to_compare, to_wear, to_drift, refusal}
use Rattle.ledger.proofs.Shapes.{Kept, Effect, set_page, set_other_page, effect}
use Rattle.ledger.proofs.OneWay.{spot_or_not}

-- a place raised
set_rises : (xs : List ℕ) (c f : ℕ) → get_or xs c 0 ≤ f → (i : ℕ) → get_or xs i 0 ≤ get_or (set xs c f) i 0
set_rises xs c f l i =
    ⊎_elim
    (λ e. ⊎_elim
    (λ k. omega (arith, ap (λ j. get_or xs j 0) e, ap (λ j. get_or (set xs c f) j 0) e, get_or-set_same xs c f 0 k))
    (λ k. omega (arith, ap (λ j. get_or xs j 0) e, get_or_past xs c 0 k))
    (cases_lt c (length xs)))
    (λ e. omega (arith, get_or-set_other xs c i f 0 e))
    (cases_eq i c)

module _ (made : Made) (laws : CodeLaws made.code) where
  pub refused_changes_nothing : (l : List Page) (call : Call) (n a b : ℕ) (l' : List Page) → Step made l call (refused n a b) l' → l' ≡ l
  refused_changes_nothing l call n a b l' (save_no_page _ _ _ _) = refl
  refused_changes_nothing l call n a b l' (save_wrong_length _ _ _ _ _) = refl
  refused_changes_nothing l call n a b l' (save_no_symbol _ _ _ _ _ _ _) = refl
  refused_changes_nothing l call n a b l' (save_no_mask _ _ _ _ _ _ _ _ _ _) = refl
  refused_changes_nothing l call n a b l' (read_no_page _ _ _ _) = refl
  refused_changes_nothing l call n a b l' (read_wrong_room _ _ _ _ _) = refl
  refused_changes_nothing l call n a b l' (not_read _ _ _ _ _ _ _) = refl
  refused_changes_nothing l call n a b l' (not_compared _ _ _ _ _) = refl
  refused_changes_nothing l call n a b l' (other_not_compared _ _ _ _ _ _ _ _) = refl
  refused_changes_nothing l call n a b l' (not_worn _ _ _ _ _ _) = refl
  refused_changes_nothing l call n a b l' (no_drift _ _ _ _ _ _) = refl
  refused_changes_nothing l call n a b l' (below_its_floor _ _ _ _ _ _) = refl

  pub read_changes_nothing : (l : List Page) (p n : ℕ) (a : Answer) (l' : List Page) → Step made l (read p n) a l' → l' ≡ l
  read_changes_nothing l p n a l' (read_no_page _ _ _ _) = refl
  read_changes_nothing l p n a l' (read_wrong_room _ _ _ _ _) = refl
  read_changes_nothing l p n a l' (not_read _ _ _ _ _ _ _) = refl
  read_changes_nothing l p n a l' (is_read _ _ _ _ _ _ _) = refl

  pub compare_changes_nothing : (l : List Page) (p r : ℕ) (a : Answer) (l' : List Page) → Step made l (compare p r) a l' → l' ≡ l
  compare_changes_nothing l p r a l' (not_compared _ _ _ _ _) = refl
  compare_changes_nothing l p r a l' (other_not_compared _ _ _ _ _ _ _ _) = refl
  compare_changes_nothing l p r a l' (alike _ _ _ _ _ _ _ _) = refl
  compare_changes_nothing l p r a l' (unlike _ _ _ _ _ _ _ _ _ _) = refl

  others_keep : (l : List Page) (call : Call) (a : Answer) (l' : List Page) → Effect made laws l call a l' → (r : ℕ) → (r ≡ page_named call → ⊥) → page_of made l' r ≡ page_of made l r
  others_keep l call a l' Effect.nothing r other = refl
  others_keep l call a l' (Effect.takes _ _ _ _ _ _ _) r other = set_other_page made laws l (page_named call) r _ other
  others_keep l call a l' (Effect.notes _ _ _ _ _ _ _) r other = set_other_page made laws l (page_named call) r _ other

  pub other_pages_keep : (l : List Page) (call : Call) (a : Answer) (l' : List Page) → Kept made l → Step made l call a l' → (r : ℕ) → (r ≡ page_named call → ⊥) → page_of made l' r ≡ page_of made l r
  other_pages_keep l call a l' kept step = others_keep l call a l' (effect made laws l call a l' kept step)

  -- the page that was set, if its floors are no lower
  set_page_rises : (l : List Page) (p : ℕ) (x : Page) → Kept made l → p < made.pages → ((i : ℕ) → floor_at (page_of made l p) i ≤ floor_at x i) → (i : ℕ) → floor_at (page_of made l p) i ≤ floor_at (page_of made (set l p x) p) i
  set_page_rises l p x kept low rises = subst (λ y. (i : ℕ) → floor_at (page_of made l p) i ≤ floor_at y i) (sym (set_page made laws l p x kept low)) rises

  named_rises : (l : List Page) (call : Call) (a : Answer) (l' : List Page) → Kept made l → Effect made laws l call a l' → (i : ℕ) → floor_at (page_of made l (page_named call)) i ≤ floor_at (page_of made l' (page_named call)) i
  named_rises l call a l' kept Effect.nothing = λ i. omega arith
  named_rises l call a l' kept (Effect.takes _ _ _ _ low _ _) = set_page_rises l (page_named call) _ kept low (λ i. omega arith)
  named_rises l call a l' kept (Effect.notes c f v low rises _ _) = set_page_rises l (page_named call) _ kept low (set_rises (page_of made l (page_named call)).floors c f rises)

  pub floors_never_fall : (l : List Page) (call : Call) (a : Answer) (l' : List Page) → Kept made l → Step made l call a l' → (p i : ℕ) → floor_at (page_of made l p) i ≤ floor_at (page_of made l' p) i
  floors_never_fall l call a l' kept step p i =
      let e = effect made laws l call a l' kept step in
      ⊎_elim
      (λ same. subst (λ j. floor_at (page_of made l j) i ≤ floor_at (page_of made l' j) i) (sym same) (named_rises l call a l' kept e i))
      (λ other. omega (arith, ap (λ x. floor_at x i) (others_keep l call a l' e p other)))
      (cases_eq p (page_named call))

  pub save_keeps_floors : (l : List Page) (p : ℕ) (m : List ℕ) (a : Answer) (l' : List Page) → Kept made l → Step made l (save p m) a l' → (page_of made l' p).floors ≡ (page_of made l p).floors
  save_keeps_floors l p m a l' kept (save_no_page _ _ _ _) = refl
  save_keeps_floors l p m a l' kept (save_wrong_length _ _ _ _ _) = refl
  save_keeps_floors l p m a l' kept (save_no_symbol _ _ _ _ _ _ _) = refl
  save_keeps_floors l p m a l' kept (save_no_mask _ _ _ _ _ _ _ _ _ _) = refl
  save_keeps_floors l p m a l' kept (saved _ _ _ _ _ _ low _ _) = ap (λ x. x.floors) (set_page made laws l p _ kept low)

  pub wear_sets : (l : List Page) (p c v : ℕ) (l' : List Page) → Kept made l → Step made l (wear p c v) done l'
      → ((page_of made l' p).floors ≡ set (page_of made l p).floors c (max (floor_at (page_of made l p) c) v))
      × ((page_of made l' p).levels ≡ set (page_of made l p).levels c (max (level_at (page_of made l p) c) (max (floor_at (page_of made l p) c) v)))
  wear_sets l p c v l' kept (worn _ _ _ _ spot) = let e = set_page made laws l p _ kept spot.page_there in (ap (λ x. x.floors) e, ap (λ x. x.levels) e)
  wear_sets l p c v l' kept (not_worn _ _ _ _ _ none) = elim none [ ]

  pub drift_sets : (l : List Page) (p c v : ℕ) (l' : List Page) → Kept made l → Step made l (drift p c v) done l'
      → ((page_of made l' p).floors ≡ (page_of made l p).floors) × ((page_of made l' p).levels ≡ set (page_of made l p).levels c v) × (floor_at (page_of made l p) c ≤ v)
  drift_sets l p c v l' kept (drifted _ _ _ _ spot above) =
      let e = set_page made laws l p _ kept spot.page_there in
      (ap (λ x. x.floors) e ∙ set-get_or (page_of made l p).floors c 0, ap (λ x. x.levels) e, above)
  drift_sets l p c v l' kept (no_drift _ _ _ _ _ none) = elim none [ ]

  pub wear_granted : (l : List Page) (p c v : ℕ) (a : Answer) (l' : List Page) → Spot made p c v → Step made l (wear p c v) a l' → a ≡ done
  wear_granted l p c v a l' spot (worn _ _ _ _ _) = refl
  wear_granted l p c v a l' spot (not_worn _ _ _ _ _ none) = absurd (spot_or_not made p c v a spot none)

  pub drift_granted : (l : List Page) (p c v : ℕ) (a : Answer) (l' : List Page) → Spot made p c v → floor_at (page_of made l p) c ≤ v → Step made l (drift p c v) a l' → a ≡ done
  drift_granted l p c v a l' spot above (drifted _ _ _ _ _ _) = refl
  drift_granted l p c v a l' spot above (no_drift _ _ _ _ _ none) = absurd (spot_or_not made p c v a spot none)
  drift_granted l p c v a l' spot above (below_its_floor _ _ _ _ _ under) = absurd (omega arith)

  pub drift_refused : (l : List Page) (p c v : ℕ) (a : Answer) (l' : List Page) → Spot made p c v → v < floor_at (page_of made l p) c → Step made l (drift p c v) a l' → a ≡ refused 12 2 c
  drift_refused l p c v a l' spot under (drifted _ _ _ _ _ above) = absurd (omega arith)
  drift_refused l p c v a l' spot under (no_drift _ _ _ _ _ none) = absurd (spot_or_not made p c v a spot none)
  drift_refused l p c v a l' spot under (below_its_floor _ _ _ _ _ _) = refl

  no_spot_fits : (call : Call) (p c v : ℕ) (a : Answer) → NoSpot made p c v a → AnswerFits call a
  no_spot_fits call p c v a (NoSpot.no_page _) = refusal call _ _ _
  no_spot_fits call p c v a (NoSpot.no_cell _ _) = refusal call _ _ _
  no_spot_fits call p c v a (NoSpot.no_level _ _ _) = refusal call _ _ _

  unreadable_fits : (call : Call) (l : List Page) (p : ℕ) (a : Answer) → Unreadable made l p a → AnswerFits call a
  unreadable_fits call l p a (Unreadable.no_page _) = refusal call _ _ _
  unreadable_fits call l p a (Unreadable.is_blank _ _) = refusal call _ _ _
  unreadable_fits call l p a (Unreadable.too_far _ _ _ _) = refusal call _ _ _

  pub answer_fits : (l : List Page) (call : Call) (a : Answer) (l' : List Page) → Step made l call a l' → AnswerFits call a
  answer_fits l call a l' (save_no_page _ _ _ _) = refusal call _ _ _
  answer_fits l call a l' (save_wrong_length _ _ _ _ _) = refusal call _ _ _
  answer_fits l call a l' (save_no_symbol _ _ _ _ _ _ _) = refusal call _ _ _
  answer_fits l call a l' (save_no_mask _ _ _ _ _ _ _ _ _ _) = refusal call _ _ _
  answer_fits l call a l' (saved _ p m _ _ _ _ _ _) = to_save p m _ _
  answer_fits l call a l' (read_no_page _ _ _ _) = refusal call _ _ _
  answer_fits l call a l' (read_wrong_room _ _ _ _ _) = refusal call _ _ _
  answer_fits l call a l' (not_read _ p _ _ _ _ un) = unreadable_fits call l p a un
  answer_fits l call a l' (is_read _ p n _ _ _ _) = to_read p n _ _
  answer_fits l call a l' (not_compared _ p _ _ un) = unreadable_fits call l p a un
  answer_fits l call a l' (other_not_compared _ _ r _ _ _ _ un) = unreadable_fits call l r a un
  answer_fits l call a l' (alike _ p r _ _ _ _ _) = to_compare p r _ (omega arith)
  answer_fits l call a l' (unlike _ p r _ _ _ _ _ _ _) = to_compare p r _ (omega arith)
  answer_fits l call a l' (worn _ p c v _) = to_wear p c v
  answer_fits l call a l' (not_worn _ p c v _ none) = no_spot_fits call p c v a none
  answer_fits l call a l' (drifted _ p c v _ _) = to_drift p c v
  answer_fits l call a l' (no_drift _ p c v _ none) = no_spot_fits call p c v a none
  answer_fits l call a l' (below_its_floor _ _ _ _ _ _) = refusal call _ _ _

  pub bench_floor_sets : (l : List Page) (p c v : ℕ) (l' : List Page) → Kept made l → BenchStep made l (floor p c v) done l'
      → ((page_of made l' p).floors ≡ set (page_of made l p).floors c v) × ((page_of made l' p).levels ≡ set (page_of made l p).levels c v)
  bench_floor_sets l p c v l' kept (floored _ _ _ _ spot) = let e = set_page made laws l p _ kept spot.page_there in (ap (λ x. x.floors) e, ap (λ x. x.levels) e)
  bench_floor_sets l p c v l' kept (not_floored _ _ _ _ _ none) = elim none [ ]

  pub bench_floor_granted : (l : List Page) (p c v : ℕ) (a : Answer) (l' : List Page) → Spot made p c v → BenchStep made l (floor p c v) a l' → a ≡ done
  bench_floor_granted l p c v a l' spot (floored _ _ _ _ _) = refl
  bench_floor_granted l p c v a l' spot (not_floored _ _ _ _ _ none) = absurd (spot_or_not made p c v a spot none)

  pub bench_refused_changes_nothing : (l : List Page) (call : BenchCall) (n a b : ℕ) (l' : List Page) → BenchStep made l call (refused n a b) l' → l' ≡ l
  bench_refused_changes_nothing l call n a b l' (not_floored _ _ _ _ _ _) = refl

  pub bench_other_pages_keep : (l : List Page) (p c v : ℕ) (a : Answer) (l' : List Page) → BenchStep made l (floor p c v) a l' → (r : ℕ) → (r ≡ p → ⊥) → page_of made l' r ≡ page_of made l r
  bench_other_pages_keep l p c v a l' (floored _ _ _ _ _) r other = set_other_page made laws l p r _ other
  bench_other_pages_keep l p c v a l' (not_floored _ _ _ _ _ _) r other = refl
