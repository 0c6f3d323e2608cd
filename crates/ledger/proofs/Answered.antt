-- A call always has an answer. Assumes nothing.
use Rattle.std.proofs.Common.{◌≡◌, ℕ, ◌<◌, ◌≤◌, true, ◌⊎◌, List, length, get_or, Some, None, Option, sym, refl, subst, inl, inr, ⊎_elim, arith}
use Rattle.std.proofs.lemmas.Bool.{cases_lt, cases_eq, cases_Bool, both_ways}
use Rattle.code.specs.Words.{Message, differences, rest}
use Rattle.code.specs.Calls.{FirstBad, AllFar}
use Rattle.code.specs.Laws.{CodeLaws}
use Rattle.code.specs.Differences.{cases_word}
use Rattle.masking.specs.Floors.{raised}
use Rattle.masking.proofs.Carriers.{message_in, message_in_symbols, message_in_carried}
use Rattle.masking.proofs.Shifts.{some_fewest}
use Rattle.ledger.specs.Ledger.{Made, Page, page_of, floor_at, BenchCall, floor, Call, save, read, compare, wear, drift, Answer, Spot, NoSpot, Unreadable, Readable, BenchStep, floored, not_floored, Step, save_no_page, save_wrong_length, save_no_symbol, save_no_mask, saved, read_no_page, read_wrong_room, not_read, is_read, not_compared, other_not_compared, alike, unlike, worn, not_worn, drifted, no_drift, below_its_floor}
use Rattle.ledger.proofs.Shapes.{Kept}
use Rattle.ledger.proofs.Search.{first_of, word_of}

-- an answer to a call, and the ledger after it
abbrev Answered : (made : Made) → List Page → Call → Type 0
Answered made l call = (a : Answer) × (l' : List Page) × Step made l call a l'

-- the first number that is no symbol, or all are
cases_symbols : (q : ℕ) (m : List ℕ) → ((i : ℕ) × FirstBad q m i) ⊎ ((i : ℕ) → i < length m → get_or m i 0 < q)
cases_symbols q m =
    ⊎_elim
    (λ f. inl (f.place, record { within = f.below; bad = f.here; before = λ i l. ⊎_elim (λ low. low) (λ high. absurd (f.before i l high)) (cases_lt (get_or m i 0) q) }))
    (λ none. inr (λ i l. ⊎_elim (λ low. low) (λ high. absurd (none i l high)) (cases_lt (get_or m i 0) q)))
    (first_of (λ i. q ≤ get_or m i 0) (λ i. ⊎_elim (λ low. inr (λ high. omega arith)) (λ high. inl high) (cases_lt (get_or m i 0) q)) (length m))

cases_spot : (made : Made) (p c v : ℕ) → Spot made p c v ⊎ ((a : Answer) × NoSpot made p c v a)
cases_spot made p c v =
    ⊎_elim
    (λ pl.
    ⊎_elim
    (λ cl.
    ⊎_elim
    (λ vl. inl (record { page_there = pl; cell_there = cl; level_there = vl }))
    (λ vh. inr (_, NoSpot.no_level pl cl vh))
    (cases_lt v made.code.arithmetic.size))
    (λ ch. inr (_, NoSpot.no_cell pl ch))
    (cases_lt c made.code.cells))
    (λ ph. inr (_, NoSpot.no_page ph))
    (cases_lt p made.pages)

cases_message : (o : Option (List ℕ)) → ((m : List ℕ) × (o ≡ Some m)) ⊎ (o ≡ None)
cases_message None = inr refl
cases_message (Some m) = inl (m, refl)

module _ (made : Made) (laws : CodeLaws made.code) where
  -- a code word lies within the radius of a word, or none does
  cases_near : (x : List ℕ) → ((w : List ℕ) × (made.code.holds w ≡ true) × (differences x w ≤ made.code.radius)) ⊎ AllFar made.code x
  cases_near x =
      let Near : List ℕ → Type 0 = λ w. (made.code.holds w ≡ true) × (differences x w ≤ made.code.radius) in
      ⊎_elim
      (λ f. inl (f.0, f.1.0, f.1.1))
      (λ none. inr (λ w held. ⊎_elim (λ far. far) (λ near. absurd (none w (laws.words w held).whole (laws.words w held).symbols (held, near))) (cases_lt made.code.radius (differences x w))))
      (word_of made.code.arithmetic.size made.code.cells Near
      (λ w. ⊎_elim
      (λ held. ⊎_elim (λ far. inr (λ h. omega (arith, h.1))) (λ near. inl (held, near)) (cases_lt made.code.radius (differences x w)))
      (λ no_word. inr (λ h. both_ways (made.code.holds w) no_word h.0))
      (cases_Bool (made.code.holds w))))

  -- a page can be read, or there is a reason why not
  cases_readable : (l : List Page) (p : ℕ) → Kept made l → ((corrected : ℕ) × (m : List ℕ) × Readable made l p corrected m) ⊎ ((a : Answer) × Unreadable made l p a)
  cases_readable l p kept =
      ⊎_elim
      (λ low.
      ⊎_elim
      (λ last.
      ⊎_elim
      (λ w. inl (
        differences (page_of made l p).levels w.0,
        message_in made.code laws w.0,
        record {
          page_there = low;
          last = last.0;
          taken = last.1;
          reads = record {
            fit = (kept.sound p).levels_allowed.fit;
            carrier = w.0;
            carrying = message_in_carried made.code laws w.0 w.1;
            symbols = message_in_symbols made.code laws w.0 w.1;
            near = refl;
            within = w.2;
          };
        },
      ))
      (λ far. inr (_, Unreadable.too_far last.0 low last.1 far))
      (cases_near (page_of made l p).levels))
      (λ blank. inr (_, Unreadable.is_blank low blank))
      (cases_message (page_of made l p).message))
      (λ high. inr (_, Unreadable.no_page high))
      (cases_lt p made.pages)

  answer_save : (l : List Page) (p : ℕ) (m : List ℕ) → Answered made l (save p m)
  answer_save l p m =
      ⊎_elim
      (λ low.
      ⊎_elim
      (λ e.
      ⊎_elim
      (λ f. (_, l, save_no_symbol l p m f.0 low e f.1))
      (λ symbols.
      let message : Message made.code m = record { whole = e; symbols = symbols } in
      let r = some_fewest made.code laws (page_of made l p).floors m message in
      ⊎_elim
      (λ large. (_, l, save_no_mask l p m r.0 r.1 r.2 low message r.3 (omega (arith, large))))
      (λ small. (
        _,
        _,
        saved l p m r.0 r.1 (raised (page_of made l p).floors r.2) low message (record { carrier = r.2; fewest = r.3; within = small; written = refl }),
      ))
      (cases_lt made.allowance r.1))
      (cases_symbols made.code.arithmetic.size m))
      (λ wrong. (_, l, save_wrong_length l p m low wrong))
      (cases_eq (length m) (length (rest made.code.information))))
      (λ high. (_, l, save_no_page l p m high))
      (cases_lt p made.pages)

  answer_read : (l : List Page) (p n : ℕ) → Kept made l → Answered made l (read p n)
  answer_read l p n kept =
      ⊎_elim
      (λ low.
      ⊎_elim
      (λ e.
      ⊎_elim
      (λ r. (_, l, is_read l p n r.0 r.1 e r.2))
      (λ u. (u.0, l, not_read l p n u.0 low e u.1))
      (cases_readable l p kept))
      (λ wrong. (_, l, read_wrong_room l p n low wrong))
      (cases_eq n (length (rest made.code.information))))
      (λ high. (_, l, read_no_page l p n high))
      (cases_lt p made.pages)

  answer_compare : (l : List Page) (p r : ℕ) → Kept made l → Answered made l (compare p r)
  answer_compare l p r kept =
      ⊎_elim
      (λ s.
      ⊎_elim
      (λ t.
      ⊎_elim
      (λ e. (_, l, alike l p r s.0 t.0 s.1 s.2 (subst (λ k. Readable made l r t.0 k) (sym e) t.2)))
      (λ other. (_, l, unlike l p r s.0 t.0 s.1 t.1 s.2 t.2 other))
      (cases_word s.1 t.1))
      (λ u. (u.0, l, other_not_compared l p r s.0 s.1 u.0 s.2 u.1))
      (cases_readable l r kept))
      (λ u. (u.0, l, not_compared l p r u.0 u.1))
      (cases_readable l p kept)

  answer_wear : (l : List Page) (p c v : ℕ) → Answered made l (wear p c v)
  answer_wear l p c v = ⊎_elim (λ s. (_, _, worn l p c v s)) (λ n. (n.0, l, not_worn l p c v n.0 n.1)) (cases_spot made p c v)

  answer_drift : (l : List Page) (p c v : ℕ) → Answered made l (drift p c v)
  answer_drift l p c v =
      ⊎_elim
      (λ s. ⊎_elim (λ lower. (_, l, below_its_floor l p c v s lower)) (λ high. (_, _, drifted l p c v s high)) (cases_lt v (floor_at (page_of made l p) c)))
      (λ n. (n.0, l, no_drift l p c v n.0 n.1))
      (cases_spot made p c v)

  pub answered : (l : List Page) (call : Call) → Kept made l → (a : Answer) × (l' : List Page) × Step made l call a l'
  answered l (save p m) kept = answer_save l p m
  answered l (read p n) kept = answer_read l p n kept
  answered l (compare p r) kept = answer_compare l p r kept
  answered l (wear p c v) kept = answer_wear l p c v
  answered l (drift p c v) kept = answer_drift l p c v

pub bench_answered : (made : Made) (l : List Page) (call : BenchCall) → (a : Answer) × (l' : List Page) × BenchStep made l call a l'
bench_answered made l (floor p c v) = ⊎_elim (λ s. (_, _, floored l p c v s)) (λ n. (n.0, l, not_floored l p c v n.0 n.1)) (cases_spot made p c v)
