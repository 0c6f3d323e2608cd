-- Cutting a sheet: the first line, the lines one after another, that they are the only ones, and that a last line without a line feed counts.
use Rattle.std.proofs.Common.{◌≡◌, ℕ, zero, suc, ◌+◌, ◌-◌, ◌<◌, ◌==◌, List, [], ◌∷◌, ◌++◌, length, get_or, sym, refl, ap, ◌∙◌, subst, inl, inr, ⊎_elim, append_assoc, arith, length-append}
use Rattle.std.proofs.lemmas.List.{get_or_at, get_or-append-add, nil_from_length}
use Rattle.std.proofs.lemmas.Bool.{cases_lt, cond_both, eqb-true, eqb-false}
use Rattle.sheet.specs.Cutting.{NoFeed, Cut, LinesOf, lines_of, put_first, ended, Unended, OnlyLines, Rejoined, AllLines}

-- a line that is cut off leaves less
pub shorter : (rest line after : List ℕ) → Cut rest line after → length after < length rest
shorter rest line after cut =
    ⊎_elim
    (λ e. omega (arith, ap length e, length-append line (10 ∷ after)))
    (λ e. omega (arith, ap length e.0, ap length e.1, e.2))
    cut.1

-- a line has a byte of the sheet
some : (line : List ℕ) (lines : List (List ℕ)) (sheet : List ℕ) → LinesOf (line ∷ lines) sheet → sheet ≡ [] → ⊥
some line lines sheet h e = omega (arith, shorter sheet line h.0 h.1, ap length e)

feed_inside : (m l r : List ℕ) → NoFeed m → m ≡ l ++ 10 ∷ r → ⊥
feed_inside m l r plain e =
    let at : length l < length m = omega (arith, ap length e, length-append l (10 ∷ r)) in
    plain (length l) at (ap (λ k. get_or k (length l) 0) e ∙ get_or_at l 10 r 0 (length l) refl)

no_feed_tail : (x : ℕ) (l : List ℕ) → NoFeed (x ∷ l) → NoFeed l
no_feed_tail x l plain i h at = plain (suc i) (omega arith) at

same_front : (l m r s : List ℕ) → NoFeed l → NoFeed m → l ++ 10 ∷ r ≡ m ++ 10 ∷ s → (l ≡ m) × (r ≡ s)
same_front [] [] r s p q e = (refl, cc)
same_front [] (y ∷ m) r s p q e = let at : y ≡ 10 = cc in absurd (q 0 (omega arith) at)
same_front (x ∷ l) [] r s p q e = let at : x ≡ 10 = cc in absurd (p 0 (omega arith) at)
same_front (x ∷ l) (y ∷ m) r s p q e =
    let head : x ≡ y = cc in
    let tail : l ++ 10 ∷ r ≡ m ++ 10 ∷ s = cc in
    let same = same_front l m r s (no_feed_tail x l p) (no_feed_tail y m q) tail in
    let front : l ≡ m = same.0 in
    (cc, same.1)

cut_same : (sheet l m r s : List ℕ) → Cut sheet l r → Cut sheet m s → (l ≡ m) × (r ≡ s)
cut_same sheet l m r s p q =
    ⊎_elim
    (λ e. ⊎_elim
    (λ f. same_front l m r s p.0 q.0 (sym e ∙ f))
    (λ f. absurd (feed_inside m l r q.0 (sym f.0 ∙ e)))
    q.1)
    (λ e. ⊎_elim
    (λ f. absurd (feed_inside l m s p.0 (sym e.0 ∙ f)))
    (λ f. (sym e.0 ∙ f.0, e.1 ∙ sym f.1))
    q.1)
    p.1

pub only : (lines : List (List ℕ)) (sheet : List ℕ) → LinesOf lines sheet → OnlyLines lines sheet
only [] sheet h [] g = refl
only [] sheet h (m ∷ others) g = absurd (some m others sheet g h)
only (l ∷ lines) sheet h [] g = absurd (some l lines sheet h g)
only (l ∷ lines) sheet h (m ∷ others) g =
    let same = cut_same sheet l m h.0 g.0 h.1 g.1 in
    let head : l ≡ m = same.0 in
    let tail : others ≡ lines = only lines h.0 h.2 others (subst (LinesOf others) (sym same.1) g.2) in
    cc

-- the last byte of what a line feed is followed by
last_byte : (l rest : List ℕ) → 0 < length rest → get_or (l ++ 10 ∷ rest) (length (l ++ 10 ∷ rest) - 1) 0 ≡ get_or rest (length rest - 1) 0
last_byte l rest h =
    let at : length (l ++ 10 ∷ rest) - 1 ≡ length l + suc (length rest - 1) = omega (arith, length-append l (10 ∷ rest)) in
    ap (λ i. get_or (l ++ 10 ∷ rest) i 0) at ∙ get_or-append-add l (10 ∷ rest) (suc (length rest - 1)) 0

last_feed : (l : List ℕ) → get_or (l ++ 10 ∷ []) (length (l ++ 10 ∷ []) - 1) 0 ≡ 10
last_feed l = get_or_at l 10 [] 0 _ (omega (arith, length-append l (10 ∷ [])))

unended_rest : (sheet l rest : List ℕ) → sheet ≡ l ++ 10 ∷ rest → Unended sheet → Unended rest
unended_rest sheet l rest e u =
    ⊎_elim
    (λ h. (h, λ at. u.1 (ap (λ k. get_or k (length k - 1) 0) e ∙ last_byte l rest h ∙ at)))
    (λ h.
    let none : rest ≡ [] = nil_from_length rest (omega arith) in
    absurd (u.1 (ap (λ k. get_or k (length k - 1) 0) (e ∙ ap (λ k. l ++ 10 ∷ k) none) ∙ last_feed l)))
    (cases_lt 0 (length rest))

unended_more : (sheet l rest : List ℕ) → sheet ≡ l ++ 10 ∷ rest → Unended rest → Unended sheet
unended_more sheet l rest e u = (
  omega (arith, ap length e, length-append l (10 ∷ rest)),
  λ at. u.1 (sym (last_byte l rest u.0) ∙ sym (ap (λ k. get_or k (length k - 1) 0) e) ∙ at),
)

unended_line : (line : List ℕ) → NoFeed line → 0 < length line → Unended line
unended_line line plain h = (h, λ at. plain (length line - 1) (omega arith) at)

-- the same lines with the last line feed
with_feed : (lines : List (List ℕ)) (sheet : List ℕ) → LinesOf lines sheet → Unended sheet → LinesOf lines (sheet ++ 10 ∷ [])
with_feed [] sheet h u = absurd (omega (arith, ap length h, u.0))
with_feed (l ∷ lines) sheet h u =
    ⊎_elim
    (λ e. (
      h.0 ++ 10 ∷ [],
      (h.1.0, inl (ap (λ k. k ++ 10 ∷ []) e ∙ append_assoc l (10 ∷ h.0) (10 ∷ []))),
      with_feed lines h.0 h.2 (unended_rest sheet l h.0 e u),
    ))
    (λ e. ([], (h.1.0, inl (ap (λ k. k ++ 10 ∷ []) e.0)), subst (LinesOf lines) e.1 h.2))
    h.1.1

no_lines : (lines : List (List ℕ)) (sheet : List ℕ) → LinesOf lines sheet → sheet ≡ [] → lines ≡ []
no_lines [] sheet h e = refl
no_lines (l ∷ lines) sheet h e = absurd (some l lines sheet h e)

rejoin : (lines : List (List ℕ)) (sheet : List ℕ) → LinesOf lines sheet → Rejoined lines sheet
rejoin [] sheet h = inl (sym h)
rejoin (l ∷ lines) sheet h =
    ⊎_elim
    (λ e. ⊎_elim
    (λ w. inl (ap (λ k. l ++ 10 ∷ k) w ∙ sym e))
    (λ w. inr (unended_more sheet l h.0 e w.0, ap (λ k. l ++ 10 ∷ k) w.1 ∙ sym (append_assoc l (10 ∷ h.0) (10 ∷ [])) ∙ ap (λ k. k ++ 10 ∷ []) (sym e)))
    (rejoin lines h.0 h.2))
    (λ e. inr (subst Unended (sym e.0) (unended_line l h.1.0 e.2), ap (λ k. l ++ 10 ∷ ended k) (no_lines lines h.0 h.2 e.1) ∙ ap (λ k. k ++ 10 ∷ []) (sym e.0)))
    h.1.1

all_lines : (lines : List (List ℕ)) (sheet : List ℕ) → LinesOf lines sheet → AllLines lines sheet
all_lines lines sheet h = record {
  cut = h;
  only = only lines sheet h;
  last = λ u. (with_feed lines sheet h u, only lines (sheet ++ 10 ∷ []) (with_feed lines sheet h u));
  rejoined = rejoin lines sheet h;
}

-- a byte more at the front of a line
plain_more : (byte : ℕ) (line : List ℕ) → (byte ≡ 10 → ⊥) → NoFeed line → NoFeed (byte ∷ line)
plain_more byte line other plain zero lt at = other at
plain_more byte line other plain (suc i) lt at = plain i (omega arith) at

put_byte : (byte : ℕ) (lines : List (List ℕ)) (sheet : List ℕ) → (byte ≡ 10 → ⊥) → LinesOf lines sheet → LinesOf (put_first byte lines) (byte ∷ sheet)
put_byte byte [] sheet other h =
    ([], (plain_more byte [] other (λ i lt. absurd (omega arith)), inr (ap (λ k. byte ∷ k) h, refl, omega arith)), refl)
put_byte byte (line ∷ lines) sheet other h = (
  h.0,
  (plain_more byte line other h.1.0, ⊎_elim (λ e. inl (ap (λ k. byte ∷ k) e)) (λ e. inr (ap (λ k. byte ∷ k) e.0, e.1, omega arith)) h.1.1),
  h.2,
)

-- the lines of a sheet, byte by byte, are those that it is cut into
are_cut : (sheet : List ℕ) → LinesOf (lines_of sheet) sheet
are_cut [] = refl
are_cut (byte ∷ sheet) =
    cond_both (byte == 10) ([] ∷ lines_of sheet) (put_first byte (lines_of sheet)) (λ lines. LinesOf lines (byte ∷ sheet))
    (λ e. (sheet, (λ i lt. absurd (omega arith), inl (ap (λ b. b ∷ sheet) (eqb-true byte 10 e))), are_cut sheet))
    (λ e. put_byte byte (lines_of sheet) sheet (eqb-false byte 10 e) (are_cut sheet))

pub all_cut : (sheet : List ℕ) → AllLines (lines_of sheet) sheet
all_cut sheet = all_lines (lines_of sheet) sheet (are_cut sheet)

-- the first line, and the lines of what follows it
pub first_cut : (sheet line rest : List ℕ) → Cut sheet line rest → lines_of sheet ≡ line ∷ lines_of rest
first_cut sheet line rest cut = sym (only (lines_of sheet) sheet (are_cut sheet) (line ∷ lines_of rest) (rest, cut, are_cut rest))
