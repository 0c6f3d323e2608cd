-- A call has one answer only, and a history one ledger. Assumes nothing.
use Rattle.std.proofs.Common.{◌≡◌, ℕ, ◌<◌, ◌≤◌, List, [], length, set, Some, None, sym, refl, ap, ◌∙◌, subst, ap₂, ⊎_elim, arith}
use Rattle.std.proofs.lemmas.Bool.{cases_order}
use Rattle.code.specs.Words.{mask_of, rest}
use Rattle.code.specs.Calls.{FirstBad}
use Rattle.code.specs.Laws.{CodeLaws}
use Rattle.masking.specs.Floors.{Fewest, unmet, raised}
use Rattle.masking.proofs.Nearness.{one_fewest}
use Rattle.masking.proofs.Readings.{one_reading}
use Rattle.ledger.specs.Ledger.{Made, Page, page_of, with_message, BenchCall, floor, Call, save, read, compare, wear, drift, Answer, refused, Spot, NoSpot, Unreadable, Readable, BenchStep, floored, not_floored, Step, save_no_page, save_wrong_length, save_no_symbol, save_no_mask, saved, read_no_page, read_wrong_room, not_read, is_read, not_compared, other_not_compared, alike, unlike, worn, not_worn, drifted, no_drift, below_its_floor, AtBench, InService, new, opened}
use Rattle.ledger.specs.Promise.{page_named, FirstMissing}

pub never_some : (m : List ℕ) → None ≡ Some m → ⊥
never_some m e = let z : ◌≡◌ {A = ℕ} 0 1 = cc in omega arith

-- the first number that is no symbol is one number
one_first_bad : (size : ℕ) (m : List ℕ) (i j : ℕ) → FirstBad size m i → FirstBad size m j → i ≡ j
one_first_bad size m i j f g =
    ⊎_elim (λ e. e) (λ o. ⊎_elim (λ l. absurd (omega (arith, f.bad, g.before i l))) (λ l. absurd (omega (arith, g.bad, f.before j l))) o) (cases_order i j)

one_no_spot : (made : Made) (p c v : ℕ) (a b : Answer) → NoSpot made p c v a → NoSpot made p c v b → a ≡ b
one_no_spot made p c v a b (NoSpot.no_page _) (NoSpot.no_page _) = refl
one_no_spot made p c v a b (NoSpot.no_page x1) (NoSpot.no_cell x2 x3) = absurd (omega arith)
one_no_spot made p c v a b (NoSpot.no_page x1) (NoSpot.no_level x2 x3 x4) = absurd (omega arith)
one_no_spot made p c v a b (NoSpot.no_cell x1 x2) (NoSpot.no_page x3) = absurd (omega arith)
one_no_spot made p c v a b (NoSpot.no_cell _ _) (NoSpot.no_cell _ _) = refl
one_no_spot made p c v a b (NoSpot.no_cell x1 x2) (NoSpot.no_level x3 x4 x5) = absurd (omega arith)
one_no_spot made p c v a b (NoSpot.no_level x1 x2 x3) (NoSpot.no_page x4) = absurd (omega arith)
one_no_spot made p c v a b (NoSpot.no_level x1 x2 x3) (NoSpot.no_cell x4 x5) = absurd (omega arith)
one_no_spot made p c v a b (NoSpot.no_level _ _ _) (NoSpot.no_level _ _ _) = refl

pub spot_or_not : (made : Made) (p c v : ℕ) (a : Answer) → Spot made p c v → NoSpot made p c v a → ⊥
spot_or_not made p c v a spot (NoSpot.no_page x1) = omega arith
spot_or_not made p c v a spot (NoSpot.no_cell x1 x2) = omega arith
spot_or_not made p c v a spot (NoSpot.no_level x1 x2 x3) = omega arith

module _ (made : Made) (laws : CodeLaws made.code) where
  one_count : (floors m : List ℕ) (y z a b : ℕ) (v w : List ℕ) → Fewest made.code floors m y a v → Fewest made.code floors m z b w → a ≡ b
  one_count floors m y z a b v w f g = sym f.counted ∙ ap (unmet floors) (one_fewest made.code laws floors m y z a b v w f g) ∙ g.counted

  one_unreadable : (l : List Page) (p : ℕ) (a b : Answer) → Unreadable made l p a → Unreadable made l p b → a ≡ b
  one_unreadable l p a b (Unreadable.no_page _) (Unreadable.no_page _) = refl
  one_unreadable l p a b (Unreadable.no_page x1) (Unreadable.is_blank x2 x3) = absurd (omega arith)
  one_unreadable l p a b (Unreadable.no_page x1) (Unreadable.too_far x2 x3 x4 x5) = absurd (omega arith)
  one_unreadable l p a b (Unreadable.is_blank x1 x2) (Unreadable.no_page x3) = absurd (omega arith)
  one_unreadable l p a b (Unreadable.is_blank _ _) (Unreadable.is_blank _ _) = refl
  one_unreadable l p a b (Unreadable.is_blank _ e) (Unreadable.too_far m _ f _) = absurd (never_some m (sym e ∙ f))
  one_unreadable l p a b (Unreadable.too_far x1 x2 x3 x4) (Unreadable.no_page x5) = absurd (omega arith)
  one_unreadable l p a b (Unreadable.too_far m _ f _) (Unreadable.is_blank _ e) = absurd (never_some m (sym e ∙ f))
  one_unreadable l p a b (Unreadable.too_far _ _ _ _) (Unreadable.too_far _ _ _ _) = refl

  readable_or_not : (l : List Page) (p c : ℕ) (m : List ℕ) (a : Answer) → Readable made l p c m → Unreadable made l p a → ⊥
  readable_or_not l p c m a r (Unreadable.no_page x1) = omega arith
  readable_or_not l p c m a r (Unreadable.is_blank _ e) = never_some r.last (sym e ∙ r.taken)
  readable_or_not l p c m a r (Unreadable.too_far _ _ _ far) = omega (arith, far r.reads.carrier r.reads.carrying.held, r.reads.near, r.reads.within)

  one_readable : (l : List Page) (p c d : ℕ) (m n : List ℕ) → Readable made l p c m → Readable made l p d n → (c ≡ d) × (m ≡ n)
  one_readable l p c d m n r s = one_reading made.code laws (page_of made l p).levels c d m n r.reads s.reads

  one_save : (l : List Page) (p : ℕ) (m : List ℕ) (l' l'' : List Page) (a b : Answer) → Step made l (save p m) a l' → Step made l (save p m) b l'' → (a ≡ b) × (l' ≡ l'')
  one_save l p m l' l'' a b (save_no_page _ _ _ _) (save_no_page _ _ _ _) = (refl, refl)
  one_save l p m l' l'' a b (save_no_page x1 x2 x3 x4) (save_wrong_length x5 x6 x7 x8 x9) = absurd (omega arith)
  one_save l p m l' l'' a b (save_no_page x1 x2 x3 x4) (save_no_symbol x5 x6 x7 x8 x9 x10 x11) = absurd (omega arith)
  one_save l p m l' l'' a b (save_no_page x1 x2 x3 x4) (save_no_mask x5 x6 x7 x8 x9 x10 x11 x12 x13 x14) = absurd (omega arith)
  one_save l p m l' l'' a b (save_no_page x1 x2 x3 x4) (saved x5 x6 x7 x8 x9 x10 x11 x12 x13) = absurd (omega arith)
  one_save l p m l' l'' a b (save_wrong_length x1 x2 x3 x4 x5) (save_no_page x6 x7 x8 x9) = absurd (omega arith)
  one_save l p m l' l'' a b (save_wrong_length _ _ _ _ _) (save_wrong_length _ _ _ _ _) = (refl, refl)
  one_save l p m l' l'' a b (save_wrong_length _ _ _ _ wrong) (save_no_symbol _ _ _ _ _ e _) = absurd (wrong e)
  one_save l p m l' l'' a b (save_wrong_length _ _ _ _ wrong) (save_no_mask _ _ _ _ _ _ _ message _ _) = absurd (wrong message.whole)
  one_save l p m l' l'' a b (save_wrong_length _ _ _ _ wrong) (saved _ _ _ _ _ _ _ message _) = absurd (wrong message.whole)
  one_save l p m l' l'' a b (save_no_symbol x1 x2 x3 x4 x5 x6 x7) (save_no_page x8 x9 x10 x11) = absurd (omega arith)
  one_save l p m l' l'' a b (save_no_symbol _ _ _ _ _ e _) (save_wrong_length _ _ _ _ wrong) = absurd (wrong e)
  one_save l p m l' l'' a b (save_no_symbol _ _ _ i _ _ f) (save_no_symbol _ _ _ j _ _ g) = (ap (refused 8 2) (one_first_bad made.code.arithmetic.size m i j f g), refl)
  one_save l p m l' l'' a b (save_no_symbol _ _ _ i _ _ first) (save_no_mask _ _ _ _ _ _ _ message _ _) = absurd (omega (arith, first.bad, message.symbols i first.within))
  one_save l p m l' l'' a b (save_no_symbol _ _ _ i _ _ first) (saved _ _ _ _ _ _ _ message _) = absurd (omega (arith, first.bad, message.symbols i first.within))
  one_save l p m l' l'' a b (save_no_mask x1 x2 x3 x4 x5 x6 x7 x8 x9 x10) (save_no_page x11 x12 x13 x14) = absurd (omega arith)
  one_save l p m l' l'' a b (save_no_mask _ _ _ _ _ _ _ message _ _) (save_wrong_length _ _ _ _ wrong) = absurd (wrong message.whole)
  one_save l p m l' l'' a b (save_no_mask _ _ _ _ _ _ _ message _ _) (save_no_symbol _ _ _ i _ _ first) = absurd (omega (arith, first.bad, message.symbols i first.within))
  one_save l p m l' l'' a b (save_no_mask _ _ _ y c v _ _ f _) (save_no_mask _ _ _ z d w _ _ g _) = (ap (refused 9 2) (one_count (page_of made l p).floors m y z c d v w f g), refl)
  one_save l p m l' l'' a b (save_no_mask _ _ _ y c v _ _ f large) (saved _ _ _ z d _ _ _ g) = absurd (omega (arith, g.within, one_count (page_of made l p).floors m y z c d v g.carrier f g.fewest))
  one_save l p m l' l'' a b (saved x1 x2 x3 x4 x5 x6 x7 x8 x9) (save_no_page x10 x11 x12 x13) = absurd (omega arith)
  one_save l p m l' l'' a b (saved _ _ _ _ _ _ _ message _) (save_wrong_length _ _ _ _ wrong) = absurd (wrong message.whole)
  one_save l p m l' l'' a b (saved _ _ _ _ _ _ _ message _) (save_no_symbol _ _ _ i _ _ first) = absurd (omega (arith, first.bad, message.symbols i first.within))
  one_save l p m l' l'' a b (saved _ _ _ y c _ _ _ f) (save_no_mask _ _ _ z d w _ _ g large) = absurd (omega (arith, f.within, one_count (page_of made l p).floors m y z c d f.carrier w f.fewest g))
  one_save l p m l' l'' a b (saved _ _ _ y c v _ _ f) (saved _ _ _ z d w _ _ g) =
      let floors : List ℕ = (page_of made l p).floors in
      let e : f.carrier ≡ g.carrier = one_fewest made.code laws floors m y z c d f.carrier g.carrier f.fewest g.fewest in
      let masks : y ≡ z = sym f.fewest.masked ∙ ap (mask_of made.code) e ∙ g.fewest.masked in
      let words : v ≡ w = f.written ∙ ap (raised floors) e ∙ sym g.written in
      let counts : c ≡ d = one_count floors m y z c d f.carrier g.carrier f.fewest g.fewest in
      (cc, ap₂ (λ x t. set l p (with_message (page_of made l p) m x t)) e words)

  pub one_read : (l : List Page) (p n : ℕ) (l' l'' : List Page) (a b : Answer) → Step made l (read p n) a l' → Step made l (read p n) b l'' → (a ≡ b) × (l' ≡ l'')
  one_read l p n l' l'' a b (read_no_page _ _ _ _) (read_no_page _ _ _ _) = (refl, refl)
  one_read l p n l' l'' a b (read_no_page x1 x2 x3 x4) (read_wrong_room x5 x6 x7 x8 x9) = absurd (omega arith)
  one_read l p n l' l'' a b (read_no_page x1 x2 x3 x4) (not_read x5 x6 x7 x8 x9 x10 x11) = absurd (omega arith)
  one_read l p n l' l'' a b (read_no_page _ _ _ high) (is_read _ _ _ _ _ _ r) = absurd (omega (arith, r.page_there))
  one_read l p n l' l'' a b (read_wrong_room x1 x2 x3 x4 x5) (read_no_page x6 x7 x8 x9) = absurd (omega arith)
  one_read l p n l' l'' a b (read_wrong_room _ _ _ _ _) (read_wrong_room _ _ _ _ _) = (refl, refl)
  one_read l p n l' l'' a b (read_wrong_room _ _ _ _ wrong) (not_read _ _ _ _ _ e _) = absurd (wrong e)
  one_read l p n l' l'' a b (read_wrong_room _ _ _ _ wrong) (is_read _ _ _ _ _ e _) = absurd (wrong e)
  one_read l p n l' l'' a b (not_read x1 x2 x3 x4 x5 x6 x7) (read_no_page x8 x9 x10 x11) = absurd (omega arith)
  one_read l p n l' l'' a b (not_read _ _ _ _ _ e _) (read_wrong_room _ _ _ _ wrong) = absurd (wrong e)
  one_read l p n l' l'' a b (not_read _ _ _ _ _ _ u) (not_read _ _ _ _ _ _ v) = (one_unreadable l p a b u v, refl)
  one_read l p n l' l'' a b (not_read _ _ _ _ _ _ u) (is_read _ _ _ c m _ r) = absurd (readable_or_not l p c m a r u)
  one_read l p n l' l'' a b (is_read _ _ _ _ _ _ r) (read_no_page _ _ _ high) = absurd (omega (arith, r.page_there))
  one_read l p n l' l'' a b (is_read _ _ _ _ _ e _) (read_wrong_room _ _ _ _ wrong) = absurd (wrong e)
  one_read l p n l' l'' a b (is_read _ _ _ c m _ r) (not_read _ _ _ _ _ _ u) = absurd (readable_or_not l p c m b r u)
  one_read l p n l' l'' a b (is_read _ _ _ c m _ r) (is_read _ _ _ d k _ s) = let e = one_readable l p c d m k r s in (cc (e.0, e.1), refl)

  pub one_compare : (l : List Page) (p r : ℕ) (l' l'' : List Page) (a b : Answer) → Step made l (compare p r) a l' → Step made l (compare p r) b l'' → (a ≡ b) × (l' ≡ l'')
  one_compare l p r l' l'' a b (not_compared _ _ _ _ u) (not_compared _ _ _ _ v) = (one_unreadable l p a b u v, refl)
  one_compare l p r l' l'' a b (not_compared _ _ _ _ u) (other_not_compared _ _ _ c m _ s _) = absurd (readable_or_not l p c m a s u)
  one_compare l p r l' l'' a b (not_compared _ _ _ _ u) (alike _ _ _ c _ m s _) = absurd (readable_or_not l p c m a s u)
  one_compare l p r l' l'' a b (not_compared _ _ _ _ u) (unlike _ _ _ c _ m _ s _ _) = absurd (readable_or_not l p c m a s u)
  one_compare l p r l' l'' a b (other_not_compared _ _ _ c m _ s _) (not_compared _ _ _ _ u) = absurd (readable_or_not l p c m b s u)
  one_compare l p r l' l'' a b (other_not_compared _ _ _ _ _ _ _ u) (other_not_compared _ _ _ _ _ _ _ v) = (one_unreadable l r a b u v, refl)
  one_compare l p r l' l'' a b (other_not_compared _ _ _ _ _ _ _ u) (alike _ _ _ _ d m _ t) = absurd (readable_or_not l r d m a t u)
  one_compare l p r l' l'' a b (other_not_compared _ _ _ _ _ _ _ u) (unlike _ _ _ _ d _ n _ t _) = absurd (readable_or_not l r d n a t u)
  one_compare l p r l' l'' a b (alike _ _ _ c _ m s _) (not_compared _ _ _ _ u) = absurd (readable_or_not l p c m b s u)
  one_compare l p r l' l'' a b (alike _ _ _ _ d m _ t) (other_not_compared _ _ _ _ _ _ _ u) = absurd (readable_or_not l r d m b t u)
  one_compare l p r l' l'' a b (alike _ _ _ _ _ _ _ _) (alike _ _ _ _ _ _ _ _) = (refl, refl)
  one_compare l p r l' l'' a b (alike _ _ _ c d m s t) (unlike _ _ _ e f k n u v other) =
      absurd (other (sym (one_readable l p c e m k s u).1 ∙ (one_readable l r d f m n t v).1))
  one_compare l p r l' l'' a b (unlike _ _ _ c _ m _ s _ _) (not_compared _ _ _ _ u) = absurd (readable_or_not l p c m b s u)
  one_compare l p r l' l'' a b (unlike _ _ _ _ d _ n _ t _) (other_not_compared _ _ _ _ _ _ _ u) = absurd (readable_or_not l r d n b t u)
  one_compare l p r l' l'' a b (unlike _ _ _ e f k n u v other) (alike _ _ _ c d m s t) =
      absurd (other (sym (one_readable l p c e m k s u).1 ∙ (one_readable l r d f m n t v).1))
  one_compare l p r l' l'' a b (unlike _ _ _ _ _ _ _ _ _ _) (unlike _ _ _ _ _ _ _ _ _ _) = (refl, refl)

  one_wear : (l : List Page) (p c v : ℕ) (l' l'' : List Page) (a b : Answer) → Step made l (wear p c v) a l' → Step made l (wear p c v) b l'' → (a ≡ b) × (l' ≡ l'')
  one_wear l p c v l' l'' a b (worn _ _ _ _ _) (worn _ _ _ _ _) = (refl, refl)
  one_wear l p c v l' l'' a b (worn _ _ _ _ s) (not_worn _ _ _ _ _ n) = absurd (spot_or_not made p c v b s n)
  one_wear l p c v l' l'' a b (not_worn _ _ _ _ _ n) (worn _ _ _ _ s) = absurd (spot_or_not made p c v a s n)
  one_wear l p c v l' l'' a b (not_worn _ _ _ _ _ n) (not_worn _ _ _ _ _ o) = (one_no_spot made p c v a b n o, refl)

  one_drift : (l : List Page) (p c v : ℕ) (l' l'' : List Page) (a b : Answer) → Step made l (drift p c v) a l' → Step made l (drift p c v) b l'' → (a ≡ b) × (l' ≡ l'')
  one_drift l p c v l' l'' a b (drifted _ _ _ _ _ _) (drifted _ _ _ _ _ _) = (refl, refl)
  one_drift l p c v l' l'' a b (drifted _ _ _ _ s _) (no_drift _ _ _ _ _ n) = absurd (spot_or_not made p c v b s n)
  one_drift l p c v l' l'' a b (drifted x1 x2 x3 x4 x5 x6) (below_its_floor x7 x8 x9 x10 x11 x12) = absurd (omega arith)
  one_drift l p c v l' l'' a b (no_drift _ _ _ _ _ n) (drifted _ _ _ _ s _) = absurd (spot_or_not made p c v a s n)
  one_drift l p c v l' l'' a b (no_drift _ _ _ _ _ n) (no_drift _ _ _ _ _ o) = (one_no_spot made p c v a b n o, refl)
  one_drift l p c v l' l'' a b (no_drift _ _ _ _ _ n) (below_its_floor _ _ _ _ s _) = absurd (spot_or_not made p c v a s n)
  one_drift l p c v l' l'' a b (below_its_floor x1 x2 x3 x4 x5 x6) (drifted x7 x8 x9 x10 x11 x12) = absurd (omega arith)
  one_drift l p c v l' l'' a b (below_its_floor _ _ _ _ s _) (no_drift _ _ _ _ _ n) = absurd (spot_or_not made p c v b s n)
  one_drift l p c v l' l'' a b (below_its_floor _ _ _ _ _ _) (below_its_floor _ _ _ _ _ _) = (refl, refl)

  pub answered_one_way : (l l' l'' : List Page) (call : Call) (a b : Answer) → Step made l call a l' → Step made l call b l'' → (a ≡ b) × (l' ≡ l'')
  answered_one_way l l' l'' (save p m) a b s t = one_save l p m l' l'' a b s t
  answered_one_way l l' l'' (read p n) a b s t = one_read l p n l' l'' a b s t
  answered_one_way l l' l'' (compare p r) a b s t = one_compare l p r l' l'' a b s t
  answered_one_way l l' l'' (wear p c v) a b s t = one_wear l p c v l' l'' a b s t
  answered_one_way l l' l'' (drift p c v) a b s t = one_drift l p c v l' l'' a b s t

  pub no_page_refused : (l : List Page) (call : Call) (a : Answer) (l' : List Page) → made.pages ≤ page_named call → Step made l call a l' → a ≡ refused 4 2 (page_named call)
  no_page_refused l (save p m) a l' high step = (one_save l p m l' l a (refused 4 2 p) step (save_no_page l p m high)).0
  no_page_refused l (read p n) a l' high step = (one_read l p n l' l a (refused 4 2 p) step (read_no_page l p n high)).0
  no_page_refused l (compare p r) a l' high step = (one_compare l p r l' l a (refused 4 2 p) step (not_compared l p r (refused 4 2 p) (Unreadable.no_page high))).0
  no_page_refused l (wear p c v) a l' high step = (one_wear l p c v l' l a (refused 4 2 p) step (not_worn l p c v (refused 4 2 p) (NoSpot.no_page high))).0
  no_page_refused l (drift p c v) a l' high step = (one_drift l p c v l' l a (refused 4 2 p) step (no_drift l p c v (refused 4 2 p) (NoSpot.no_page high))).0

  pub bench_answered_one_way : (l : List Page) (call : BenchCall) (l' l'' : List Page) (a b : Answer) → BenchStep made l call a l' → BenchStep made l call b l'' → (a ≡ b) × (l' ≡ l'')
  bench_answered_one_way l call l' l'' a b (floored _ _ _ _ _) (floored _ _ _ _ _) = (refl, refl)
  bench_answered_one_way l call l' l'' a b (floored _ p c v s) (not_floored _ _ _ _ _ n) = absurd (spot_or_not made p c v b s n)
  bench_answered_one_way l call l' l'' a b (not_floored _ p c v _ n) (floored _ _ _ _ s) = absurd (spot_or_not made p c v a s n)
  bench_answered_one_way l call l' l'' a b (not_floored _ p c v _ n) (not_floored _ _ _ _ _ o) = (one_no_spot made p c v a b n o, refl)

  -- what is missing is refused by its number, where a call with no spot has that answer
  first_missing : (p c v : ℕ) (a : Answer) → ((b : Answer) → NoSpot made p c v b → a ≡ b) → FirstMissing made p c v a
  first_missing p c v a only = record {
    no_page = λ high. only (refused 4 2 p) (NoSpot.no_page high);
    no_cell = λ low high. only (refused 5 2 c) (NoSpot.no_cell low high);
    no_level = λ low there high. only (refused 6 2 v) (NoSpot.no_level low there high);
  }

  pub wear_first_missing : (l : List Page) (p c v : ℕ) (a : Answer) (l' : List Page) → Step made l (wear p c v) a l' → FirstMissing made p c v a
  wear_first_missing l p c v a l' step = first_missing p c v a (λ b none. (one_wear l p c v l' l a b step (not_worn l p c v b none)).0)

  pub drift_first_missing : (l : List Page) (p c v : ℕ) (a : Answer) (l' : List Page) → Step made l (drift p c v) a l' → FirstMissing made p c v a
  drift_first_missing l p c v a l' step = first_missing p c v a (λ b none. (one_drift l p c v l' l a b step (no_drift l p c v b none)).0)

  pub bench_first_missing : (l : List Page) (p c v : ℕ) (a : Answer) (l' : List Page) → BenchStep made l (floor p c v) a l' → FirstMissing made p c v a
  bench_first_missing l p c v a l' step = first_missing p c v a (λ b none. (bench_answered_one_way l (floor p c v) l' l a b step (not_floored l p c v b none)).0)

  pub wrong_length_refused : (l : List Page) (p : ℕ) (m : List ℕ) (a : Answer) (l' : List Page) → p < made.pages → (length m ≡ length (rest made.code.information) → ⊥) → Step made l (save p m) a l' → a ≡ refused 7 2 (length m)
  wrong_length_refused l p m a l' low wrong step = (one_save l p m l' l a (refused 7 2 (length m)) step (save_wrong_length l p m low wrong)).0

  pub no_symbol_refused : (l : List Page) (p : ℕ) (m : List ℕ) (i : ℕ) (a : Answer) (l' : List Page) → p < made.pages → length m ≡ length (rest made.code.information) → FirstBad made.code.arithmetic.size m i
      → Step made l (save p m) a l' → a ≡ refused 8 2 i
  no_symbol_refused l p m i a l' low whole first step = (one_save l p m l' l a (refused 8 2 i) step (save_no_symbol l p m i low whole first)).0

  pub wrong_room_refused : (l : List Page) (p n : ℕ) (a : Answer) (l' : List Page) → p < made.pages → (n ≡ length (rest made.code.information) → ⊥) → Step made l (read p n) a l' → a ≡ refused 7 2 n
  wrong_room_refused l p n a l' low wrong step = (one_read l p n l' l a (refused 7 2 n) step (read_wrong_room l p n low wrong)).0

  -- the calls and their answers lead to one ledger
  pub one_bench_ledger : (past : List (BenchCall × Answer)) (l l' : List Page) → AtBench made past l → AtBench made past l' → l ≡ l'
  one_bench_ledger past l l' new new = refl
  one_bench_ledger past l l' (AtBench.next past' k call a _ before step) (AtBench.next _ j _ _ _ before' step') =
      let e : k ≡ j = one_bench_ledger past' k j before before' in
      (bench_answered_one_way j call l l' a a (subst (λ x. BenchStep made x call a l) e step) step').1

  pub one_ledger : (bench : List (BenchCall × Answer)) (past : List (Call × Answer)) (l l' : List Page) → InService made bench past l → InService made bench past l' → l ≡ l'
  one_ledger bench past l l' (opened _ _ before) (opened _ _ before') = one_bench_ledger bench l l' before before'
  one_ledger bench past l l' (InService.next _ past' k call a _ before step) (InService.next _ _ j _ _ _ before' step') =
      let e : k ≡ j = one_ledger bench past' k j before before' in
      (answered_one_way j l l' call a a (subst (λ x. Step made x call a l) e step) step').1

  pub opening_changes_nothing : (bench : List (BenchCall × Answer)) (l l' : List Page) → AtBench made bench l → InService made bench [] l' → l' ≡ l
  opening_changes_nothing bench l l' before (opened _ _ before') = one_bench_ledger bench l' l before' before
