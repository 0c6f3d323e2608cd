-- What reads and comparisons answer, after any run. Assumes nothing.
use Rattle.std.proofs.Common.{◌≡◌, ℕ, ◌<◌, ◌≤◌, Bool, ◌⊎◌, List, length, None, sym, refl, ap, ◌∙◌, subst, inl, inr, ⊎_elim, arith}
use Rattle.code.specs.Words.{rest, differences}
use Rattle.code.specs.Calls.{AllFar}
use Rattle.code.specs.Laws.{CodeLaws}
use Rattle.code.specs.Differences.{cases_word}
use Rattle.masking.specs.Reading.{Reads}
use Rattle.masking.proofs.Masks.{written_distance}
use Rattle.ledger.specs.Ledger.{Made, Page, page_of, with_message, save, read, compare, Answer, stored, found, compared, refused, Unreadable, Readable, Step, saved, read_no_page, read_wrong_room, not_read, is_read, not_compared, other_not_compared, alike, unlike}
use Rattle.ledger.specs.Runs.{marked}
use Rattle.ledger.proofs.Shapes.{Kept, set_page, step_kept}
use Rattle.ledger.proofs.OneWay.{never_some, one_read, one_compare}
use Rattle.ledger.proofs.Runs.{Follows, follows_near}

module _ (made : Made) (laws : CodeLaws made.code) where
  pub read_at_once : (l : List Page) (p : ℕ) (m : List ℕ) (mask forced n : ℕ) (l' l'' : List Page) (a : Answer) → made.allowance ≤ made.code.radius → Kept made l → n ≡ length (rest made.code.information)
      → Step made l (save p m) (stored mask forced) l' → Step made l' (read p n) a l'' → a ≡ found forced m
  read_at_once l p m mask forced n l' l'' a small kept room (saved _ _ _ _ _ word low message w) step =
      let kept' : Kept made l' = step_kept made laws l (save p m) (stored mask forced) l' kept (saved l p m mask forced word low message w) in
      let set_is : page_of made l' p ≡ with_message (page_of made l p) m w.carrier word = set_page made laws l p _ kept low in
      let readable : Readable made l' p forced m = record {
        page_there = low;
        last = m;
        taken = ap (λ x. x.message) set_is;
        reads = record {
          fit = (kept'.sound p).levels_allowed.fit;
          carrier = w.carrier;
          carrying = w.fewest.carrying;
          symbols = message;
          near = ap (λ x. differences x.levels w.carrier) set_is ∙ written_distance made.code laws (page_of made l p).floors made.allowance m mask forced word w;
          within = omega (arith, w.within);
        };
      } in
      (one_read made laws l' p n l'' l' a (found forced m) step (is_read l' p n forced m room readable)).0

  -- a page that follows its message is read while few cells are marked
  follows_readable : (p : ℕ) (l : List Page) (m : List ℕ) (changed : List Bool) (f : Follows made laws p l m changed) → marked changed ≤ made.code.radius → Readable made l p (differences (page_of made l p).levels f.carrier) m
  follows_readable p l m changed f few = record {
    page_there = f.there;
    last = m;
    taken = f.message;
    reads = record {
      fit = (f.kept.sound p).levels_allowed.fit;
      carrier = f.carrier;
      carrying = f.carrying;
      symbols = f.symbols;
      near = refl;
      within = omega (arith, follows_near made laws p l m changed f);
    };
  }

  pub last_message_is_read : (l : List Page) (p n : ℕ) (m : List ℕ) (changed : List Bool) (a : Answer) (l' : List Page) → n ≡ length (rest made.code.information) → Follows made laws p l m changed
      → marked changed ≤ made.code.radius → Step made l (read p n) a l' → (corrected : ℕ) × (corrected ≤ marked changed) × (a ≡ found corrected m)
  last_message_is_read l p n m changed a l' room f few step = (
    differences (page_of made l p).levels f.carrier,
    follows_near made laws p l m changed f,
    (one_read made laws l p n l' l a _ step (is_read l p n _ m room (follows_readable p l m changed f few))).0,
  )

  pub blank_is_refused : (l : List Page) (p n : ℕ) (a : Answer) (l' : List Page) → p < made.pages → n ≡ length (rest made.code.information) → (page_of made l p).message ≡ None → Step made l (read p n) a l' → a ≡ refused 10 2 p
  blank_is_refused l p n a l' low room none step = (one_read made laws l p n l' l a (refused 10 2 p) step (not_read l p n (refused 10 2 p) low room (Unreadable.is_blank low none))).0

  -- why a page with a message is not read
  unread_is_far : (l : List Page) (p : ℕ) (m : List ℕ) (changed : List Bool) (a : Answer) → Follows made laws p l m changed → Unreadable made l p a → (a ≡ refused 11 1 0) × AllFar made.code (page_of made l p).levels
  unread_is_far l p m changed a f (Unreadable.no_page high) = absurd (omega (arith, f.there))
  unread_is_far l p m changed a f (Unreadable.is_blank _ none) = absurd (never_some m (sym none ∙ f.message))
  unread_is_far l p m changed a f (Unreadable.too_far _ _ _ far) = (refl, far)

  pub unread_only_if_too_far : (l : List Page) (p n number layer place : ℕ) (m : List ℕ) (changed : List Bool) (l' : List Page) → n ≡ length (rest made.code.information) → Follows made laws p l m changed
      → Step made l (read p n) (refused number layer place) l' → (refused number layer place ≡ refused 11 1 0) × AllFar made.code (page_of made l p).levels
  unread_only_if_too_far l p n number layer place m changed l' room f (read_no_page _ _ _ high) = absurd (omega (arith, f.there))
  unread_only_if_too_far l p n number layer place m changed l' room f (read_wrong_room _ _ _ _ wrong) = absurd (wrong room)
  unread_only_if_too_far l p n number layer place m changed l' room f (not_read _ _ _ _ _ _ un) = unread_is_far l p m changed (refused number layer place) f un

  -- a page that was read can be read
  read_readable : (l : List Page) (p n c : ℕ) (m : List ℕ) (l' : List Page) → Step made l (read p n) (found c m) l' → Readable made l p c m
  read_readable l p n c m l' (not_read _ _ _ _ _ _ un) = elim un [ ]
  read_readable l p n c m l' (is_read _ _ _ _ _ _ readable) = readable

  pub found_as_levels_read : (l : List Page) (p n c : ℕ) (m : List ℕ) (l' : List Page) → Step made l (read p n) (found c m) l' → Reads made.code (page_of made l p).levels c m
  found_as_levels_read l p n c m l' step = (read_readable l p n c m l' step).reads

  -- what two pages that can be read compare as
  readable_compare : (l : List Page) (p r c d : ℕ) (m k : List ℕ) → Readable made l p c m → Readable made l r d k
      → ((m ≡ k) × Step made l (compare p r) (compared 1) l) ⊎ ((m ≡ k → ⊥) × Step made l (compare p r) (compared 0) l)
  readable_compare l p r c d m k x y =
      ⊎_elim
      (λ e. inl (e, alike l p r c d m x (subst (λ t. Readable made l r d t) (sym e) y)))
      (λ other. inr (other, unlike l p r c d m k x y other))
      (cases_word m k)

  same_compared : (x y : ℕ) → compared x ≡ compared y → x ≡ y
  same_compared x y e = cc

  pub compared_as_read : (l : List Page) (p r n same c d : ℕ) (m k : List ℕ) (l' l'' l''' : List Page) → Step made l (compare p r) (compared same) l' → Step made l (read p n) (found c m) l'' → Step made l (read r n) (found d k) l'''
      → ((m ≡ k) × (same ≡ 1)) ⊎ ((m ≡ k → ⊥) × (same ≡ 0))
  compared_as_read l p r n same c d m k l' l'' l''' step one other =
      ⊎_elim
      (λ s. inl (s.0, same_compared same 1 (one_compare made laws l p r l' l (compared same) (compared 1) step s.1).0))
      (λ s. inr (s.0, same_compared same 0 (one_compare made laws l p r l' l (compared same) (compared 0) step s.1).0))
      (readable_compare l p r c d m k (read_readable l p n c m l'' one) (read_readable l r n d k l''' other))

  pub compared_if_read : (l : List Page) (p r n c d : ℕ) (m k : List ℕ) (a : Answer) (l' l'' l''' : List Page) → Step made l (read p n) (found c m) l'' → Step made l (read r n) (found d k) l''' → Step made l (compare p r) a l'
      → (same : ℕ) × (a ≡ compared same)
  compared_if_read l p r n c d m k a l' l'' l''' one other step =
      ⊎_elim
      (λ s. (1, (one_compare made laws l p r l' l a (compared 1) step s.1).0))
      (λ s. (0, (one_compare made laws l p r l' l a (compared 0) step s.1).0))
      (readable_compare l p r c d m k (read_readable l p n c m l'' one) (read_readable l r n d k l''' other))

  -- a page that cannot be read is refused to a read
  unreadable_refused : (l : List Page) (p n : ℕ) (a : Answer) → n ≡ length (rest made.code.information) → Unreadable made l p a → Step made l (read p n) a l
  unreadable_refused l p n a room (Unreadable.no_page high) = read_no_page l p n high
  unreadable_refused l p n a room (Unreadable.is_blank low none) = not_read l p n _ low room (Unreadable.is_blank low none)
  unreadable_refused l p n a room (Unreadable.too_far m low taken far) = not_read l p n _ low room (Unreadable.too_far m low taken far)

  -- a read that has room is refused only of a page that cannot be read
  refused_unreadable : (l : List Page) (p n number layer place : ℕ) (l' : List Page) → n ≡ length (rest made.code.information) → Step made l (read p n) (refused number layer place) l' → Unreadable made l p (refused number layer place)
  refused_unreadable l p n number layer place l' room (read_no_page _ _ _ high) = Unreadable.no_page high
  refused_unreadable l p n number layer place l' room (read_wrong_room _ _ _ _ wrong) = absurd (wrong room)
  refused_unreadable l p n number layer place l' room (not_read _ _ _ _ _ _ un) = un

  pub refused_as_first_read : (l : List Page) (p r n number layer place : ℕ) (a : Answer) (l' l'' : List Page) → n ≡ length (rest made.code.information)
      → Step made l (read p n) (refused number layer place) l'' → Step made l (compare p r) a l' → a ≡ refused number layer place
  refused_as_first_read l p r n number layer place a l' l'' room one step =
      (one_compare made laws l p r l' l a (refused number layer place) step (not_compared l p r (refused number layer place) (refused_unreadable l p n number layer place l'' room one))).0

  pub refused_as_second_read : (l : List Page) (p r n c number layer place : ℕ) (m : List ℕ) (a : Answer) (l' l'' l''' : List Page) → n ≡ length (rest made.code.information)
      → Step made l (read p n) (found c m) l'' → Step made l (read r n) (refused number layer place) l''' → Step made l (compare p r) a l' → a ≡ refused number layer place
  refused_as_second_read l p r n c number layer place m a l' l'' l''' room one other step =
      (one_compare made laws l p r l' l a (refused number layer place) step
      (other_not_compared l p r c m (refused number layer place) (read_readable l p n c m l'' one) (refused_unreadable l r n number layer place l''' room other))).0

  pub compare_refused_as_read : (l : List Page) (p r n number layer place : ℕ) (l' : List Page) → n ≡ length (rest made.code.information) → Step made l (compare p r) (refused number layer place) l'
      → Step made l (read p n) (refused number layer place) l ⊎ ((c : ℕ) × (m : List ℕ) × Step made l (read p n) (found c m) l × Step made l (read r n) (refused number layer place) l)
  compare_refused_as_read l p r n number layer place l' room (not_compared _ _ _ _ un) = inl (unreadable_refused l p n (refused number layer place) room un)
  compare_refused_as_read l p r n number layer place l' room (other_not_compared _ _ _ c m _ readable un) =
      inr (c, m, is_read l p n c m room readable, unreadable_refused l r n (refused number layer place) room un)

-- pages of equal levels read alike, though they be of two cards
pub equal_levels_read_alike : (made made' : Made) (laws : CodeLaws made.code) (laws' : CodeLaws made'.code) (l k : List Page) (p r n : ℕ) (m t : List ℕ) (c d : List Bool) (a b : Answer) (l' k' : List Page) → made.code ≡ made'.code
    → Follows made laws p l m c → Follows made' laws' r k t d → (page_of made l p).levels ≡ (page_of made' k r).levels → n ≡ length (rest made.code.information) → Step made l (read p n) a l' → Step made' k (read r n) b k' → a ≡ b
equal_levels_read_alike made made' laws laws' l k p r n m t c d a b l' k' one_code f g same room (read_no_page _ _ _ high) step = absurd (omega (arith, f.there))
equal_levels_read_alike made made' laws laws' l k p r n m t c d a b l' k' one_code f g same room (read_wrong_room _ _ _ _ wrong) step = absurd (wrong room)
equal_levels_read_alike made made' laws laws' l k p r n m t c d a b l' k' one_code f g same room (not_read _ _ _ _ _ _ un) step =
    let u = unread_is_far made laws l p m c a f un in
    let far : AllFar made'.code (page_of made' k r).levels = subst (AllFar made'.code) same (subst (λ x. AllFar x (page_of made l p).levels) one_code u.1) in
    let room' : n ≡ length (rest made'.code.information) = room ∙ ap (λ x. length (rest x.information)) one_code in
    u.0
    ∙ (one_read made' laws' k r n k k' (refused 11 1 0) b (not_read k r n (refused 11 1 0) g.there room' (Unreadable.too_far t g.there g.message far)) step).0
equal_levels_read_alike made made' laws laws' l k p r n m t c d a b l' k' one_code f g same room (is_read _ _ _ corrected x _ readable) step =
    (one_read made' laws' k r n k k' (found corrected x) b
    (is_read k r n corrected x (room ∙ ap (λ y. length (rest y.information)) one_code) (record {
      page_there = g.there;
      last = t;
      taken = g.message;
      reads = subst (λ y. Reads made'.code y corrected x) same (subst (λ y. Reads y (page_of made l p).levels corrected x) one_code readable.reads);
    })) step).0
