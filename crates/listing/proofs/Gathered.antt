-- Lines listed one after another: their turns, their answers and what is written.
use Rattle.std.proofs.Common.{◌≡◌, ℕ, suc, ◌+◌, List, [], ◌∷◌, ◌++◌, length, Some, sym, refl, ap, ◌∙◌, subst, append_assoc, append-nil, arith, length-append, Bor}
use Rattle.code.specs.Words.{BlockCode}
use Rattle.code.specs.Laws.{CodeLaws}
use Rattle.ledger.specs.Ledger.{Made, Answer}
use Rattle.listing.specs.declared.run.Run.{Run}
use Rattle.listing.specs.Rows.{Fits, AllFits, row, rows}
use Rattle.listing.specs.Telling.{to_come, so_far, FirstLine, Tells}
use Rattle.listing.specs.Turns.{Stage, at_bench, in_service, Kept, Turn, Turns}
use Rattle.listing.specs.Serving.{Bench, Service, AtTheBench, AtService, Goes, InUse, Listed, ListedLines}
use Rattle.listing.proofs.Fitting.{told_fits}

-- one turn more
turns_push : (made : Made) (s t u : Stage) (lines : List (List ℕ)) (answers : List Answer) (line : List ℕ) (a : Answer) → Turns made s lines answers t → Turn made t line a u → Turns made s (lines ++ line ∷ []) (answers ++ a ∷ []) u
turns_push made s t u [] [] line a h turn = (u, subst (λ k. Turn made k line a u) (sym h) turn, refl)
turns_push made s t u [] (b ∷ answers) line a h turn = absurd h
turns_push made s t u (l ∷ lines) [] line a h turn = absurd h
turns_push made s t u (l ∷ lines) (b ∷ answers) line a h turn = (h.0, h.1, turns_push made h.0 t u lines answers line a h.2 turn)

pub rows_append : (n : ℕ) (given later : List Answer) → rows n (given ++ later) ≡ rows n given ++ rows (n + length given) later
rows_append n [] later = ap (λ k. rows k later) (omega arith)
rows_append n (a ∷ given) later =
    ap (λ k. row n a ++ k) (rows_append (suc n) given later ∙ ap (λ k. rows (suc n) given ++ rows k later) (omega arith)) ∙ sym (append_assoc (row n a) (rows (suc n) given) (rows (n + suc (length given)) later))

fits_append : (given later : List Answer) → AllFits given → AllFits later → AllFits (given ++ later)
fits_append [] later h k = k
fits_append (a ∷ given) later h k = (h.0, fits_append given later h.1 k)

pub listed_none : (run : Run) → Listed [] run run
listed_none run = record { fit = tt; numbered = omega arith; written = sym (append-nil (so_far run)) }

-- one line alone
pub listed_one : (before after : Run) (a : Answer) → Fits a → Tells before a after → Listed (a ∷ []) before after
listed_one before after a f h = record { fit = (f, tt); numbered = h.numbered; written = h.written ∙ ap (λ k. so_far before ++ k) (sym (append-nil (row before.number a))) }

pub listed_append : (before between after : Run) (given later : List Answer) → Listed given before between → Listed later between after → Listed (given ++ later) before after
listed_append before between after given later h k = record {
  fit = fits_append given later h.fit k.fit;
  numbered = omega (arith, h.numbered, k.numbered, length-append given later);
  written =
      k.written ∙ ap (λ z. z ++ rows between.number later) h.written ∙ append_assoc (so_far before) (rows before.number given) (rows between.number later)
      ∙ ap (λ z. so_far before ++ z) (ap (λ z. rows before.number given ++ rows z later) h.numbered ∙ sym (rows_append before.number given later));
}

-- cards of one kind, by the histories that lead to them: histories of a lawful code, kept by the ledger
module _ {S : Type 0} (At : Made → Stage → S → Type 0) (sound : (made : Made) (stage : Stage) (s : S) → At made stage s → CodeLaws made.code × Kept made stage) where
  pub none_listed : (s : S) (run : Run) → ListedLines At At s run s run
  none_listed s run = record { lines = []; answers = []; gone = refl; listed = listed_none run; goes = λ made stage at. (stage, refl, at) }

  -- what a line is told fits its columns
  pub line_fits : (s s' s'' : S) (before run : Run) (line : List ℕ) (a : Answer) → InUse At s → ListedLines At At s before s' run → Goes At s' line a s'' → Fits a
  line_fits s s' s'' before run line a used so one =
      let before = so.goes used.made used.stage used.led in
      let next = one used.made before.0 before.2 in
      let led = sound used.made next.0 s'' next.2 in
      told_fits used.made led.0 before.0 next.0 line a next.1 led.1

  -- one line more
  pub one_listed : (After : Made → Stage → S → Type 0) (s s' s'' : S) (before run after : Run) (line : Bor (List ℕ)) (a : Answer) → ListedLines At At s before s' run → FirstLine run (Some line)
      → ((made : Made) (stage : Stage) → At made stage s' → (stage' : Stage) × Turn made stage line.now a stage' × After made stage' s'') → Fits a → Tells run a after → ListedLines At After s before s'' after
  one_listed After s s' s'' before run after line a h first one f tells = record {
    lines = h.lines ++ line.now ∷ [];
    answers = h.answers ++ a ∷ [];
    gone = h.gone ∙ ap (λ k. h.lines ++ k) (first ∙ ap (λ k. line.now ∷ k) (sym tells.gone)) ∙ sym (append_assoc h.lines (line.now ∷ []) (to_come after));
    listed = listed_append before run after h.answers (a ∷ []) h.listed (listed_one run after a f tells);
    goes = λ made stage led.
        let then = h.goes made stage led in
        let next = one made then.0 then.2 in
        (next.0, turns_push made _ _ _ h.lines h.answers line.now a then.1 next.1, next.2);
  }

module _ {C : Type 0} (meaning : C → BlockCode) (lawful : (c : C) → CodeLaws (meaning c)) where
  pub service_sound : (room : ℕ) (made : Made) (stage : Stage) (s : Service C) → AtService meaning room made stage s → CodeLaws made.code × Kept made stage
  service_sound room made (at_bench past) s at = absurd at
  service_sound room made (in_service bench past) s at = (subst CodeLaws at.1.2.coded (lawful s.code), (at.1.0, at.1.1))

  pub bench_sound : (made : Made) (stage : Stage) (b : Bench C) → AtTheBench meaning made stage b → CodeLaws made.code × Kept made stage
  bench_sound made (at_bench past) b at = (subst CodeLaws at.2.coded (lawful b.code), (at.0, at.1))
  bench_sound made (in_service bench past) b at = absurd at
