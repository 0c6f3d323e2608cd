-- Field after field: the numbers so far, a refusal past them, and a line as its verb and fields say.
use Rattle.std.proofs.Common.{◌≡◌, ℕ, zero, suc, ◌+◌, ◌-◌, ◌*◌, ◌<◌, ◌≤◌, List, [], ◌∷◌, ◌++◌, length, take, drop, Ok, Err, Result, refl, sym, ap, ◌∙◌, subst, ⊎_elim, one-add, arith, length-drop, drop-drop}
use Rattle.std.proofs.lemmas.List.{length_push}
use Rattle.std.proofs.lemmas.Bool.{cases_lt}
use Rattle.sheet.specs.declared.refusals.Refusal.{Refusal}
use Rattle.sheet.specs.declared.refusals.Refusal.TheVariants.{IllFormedField}
use Rattle.sheet.specs.declared.verbs.Verb.{Verb}
use Rattle.sheet.specs.declared.parsing.Line.{Line}
use Rattle.sheet.specs.Fields.{Shows, WellFormed, IllFormed}
use Rattle.sheet.specs.Verbs.{name, Counted}
use Rattle.sheet.specs.Parsing.{numbers, field_at, BeginWith, AllWellFormed, Lends, Parsed}
use Rattle.sheet.specs.Steps.{Next, IllWithin, NumbersRead, LineRead}
use Rattle.sheet.proofs.Symbols.{begin_push}

-- the fields after so many are those of the columns after them
field_there : (cs rest : List ℕ) (n k : ℕ) → rest ≡ drop (4 * n) cs → field_at rest k ≡ field_at cs (n + k)
field_there cs rest n k e =
    let at : 4 * n + 4 * k ≡ 4 * (n + k) = omega arith in
    ap (λ l. field_at l k) e ∙ ap (take 4) (drop-drop (4 * k) (4 * n) cs) ∙ ap (λ m. take 4 (drop m cs)) at

pub both : (cs more : List ℕ) (index v : ℕ) → Shows (take 4 cs) v → more ≡ drop 4 cs → ((k : ℕ) → k < index → WellFormed (field_at more k)) → (k : ℕ) → k < index + 1 → WellFormed (field_at cs k)
both cs more index v s e h zero l = (v, s)
both cs more index v s e h (suc k) l = subst (λ n. WellFormed (field_at cs n)) (one-add k) (subst WellFormed (field_there cs more 1 k e) (h k (omega arith)))

-- what is left of the symbols, one symbol on
pub left_more : (cs rest more : List ℕ) (i : ℕ) → rest ≡ drop (4 * i) cs → more ≡ drop 4 rest → more ≡ drop (4 * (i + 1)) cs
left_more cs rest more i e f =
    let at : 4 * i + 4 ≡ 4 * (i + 1) = omega arith in
    f ∙ ap (drop 4) e ∙ drop-drop 4 (4 * i) cs ∙ ap (λ n. drop n cs) at

-- the fields that show numbers are well formed
pub shown_fields : (cs vs : List ℕ) → BeginWith cs vs → (k : ℕ) → k < length vs → WellFormed (field_at cs k)
shown_fields cs [] p k l = absurd (omega arith)
shown_fields cs (v ∷ vs) p k l = both cs (drop 4 cs) (length vs) v p.0 refl (shown_fields (drop 4 cs) vs p.1) k (omega arith)

-- these numbers were read, of the columns that begin at the column from of the line; the rest of them begins at this column
pub record Sofar (cs : List ℕ) (from : ℕ) (vs : List ℕ) (rest : List ℕ) (column : ℕ) : Type 0 where
  pub begins : BeginWith cs vs
  pub left : rest ≡ drop (4 * length vs) cs
  pub at : column ≡ from + 4 * length vs

pub none : (cs : List ℕ) (from : ℕ) → Sofar cs from [] cs from
none cs from = record { begins = tt; left = refl; at = omega arith }

pub one_more : (cs : List ℕ) (from : ℕ) (vs rest : List ℕ) (column v : ℕ) (more : List ℕ) (after : ℕ) → Sofar cs from vs rest column → Next rest column (Ok v) more after → Sofar cs from (vs ++ v ∷ []) more after
one_more cs from vs rest column v more after h next =
    let longer : length (vs ++ v ∷ []) ≡ length vs + 1 = omega (arith, length_push vs v) in
    record {
      begins = begin_push cs vs rest v h.begins h.left next.0;
      left = left_more cs rest more (length vs) h.left next.1 ∙ ap (λ n. drop (4 * n) cs) (sym longer);
      at = omega (arith, h.at, next.2);
    }

pub sofar : (count : ℕ) (cs : List ℕ) (from : ℕ) (vs rest : List ℕ) (column : ℕ) → NumbersRead count cs from (Ok vs) rest column → Sofar cs from vs rest column
sofar count cs from vs rest column h = record {
  begins = h.1;
  left = h.2 ∙ ap (λ n. drop (4 * n) cs) (sym h.0);
  at = omega (arith, h.0, h.3);
}

pub numbers_read : (count : ℕ) (cs : List ℕ) (from : ℕ) (vs rest : List ℕ) (column : ℕ) → length vs ≡ count → Sofar cs from vs rest column → NumbersRead count cs from (Ok vs) rest column
numbers_read count cs from vs rest column e h =
    (e, h.begins, h.left ∙ ap (λ n. drop (4 * n) cs) e, omega (arith, h.at))

-- the field that follows them is the first ill-formed one
pub ill : (bytes : ℕ) (cs : List ℕ) (from : ℕ) (vs rest : List ℕ) (column : ℕ) (e : Refusal) → Sofar cs from vs rest column → (e ≡ IllFormedField column) × IllFormed (take 4 rest) → 4 * length vs < bytes → IllWithin bytes cs from e
ill bytes cs from vs rest column e h next inside = record {
  index = length vs;
  names = next.0 ∙ ap IllFormedField h.at;
  inside = inside;
  ill = subst (λ l. IllFormed (take 4 l)) h.left next.1;
  before = shown_fields cs vs h.begins;
}

-- once nothing is left, all of them show numbers
pub all_shown : (cs : List ℕ) (from : ℕ) (vs rest : List ℕ) (column : ℕ) → Sofar cs from vs rest column → length rest ≡ 0 → AllWellFormed cs
all_shown cs from vs rest column h none k inside =
    shown_fields cs vs h.begins k (omega (arith, ap length h.left, length-drop (4 * length vs) cs))

-- a refusal past the numbers that were read
pub past : (cs : List ℕ) (from : ℕ) (vs rest : List ℕ) (column : ℕ) (e : Refusal) → Sofar cs from vs rest column → IllWithin (length rest) rest column e → IllWithin (length cs) cs from e
past cs from vs rest column e h w = record {
  index = length vs + w.index;
  names = w.names ∙ ap IllFormedField (omega (arith, h.at));
  inside = omega (arith, w.inside, ap length h.left, length-drop (4 * length vs) cs);
  ill = subst IllFormed (field_there cs rest (length vs) w.index h.left) w.ill;
  before = λ k l.
      ⊎_elim
      (λ near. shown_fields cs vs h.begins k near)
      (λ far.
      let at : length vs + (k - length vs) ≡ k = omega arith in
      subst (λ n. WellFormed (field_at cs n)) at (subst WellFormed (field_there cs rest (length vs) (k - length vs) h.left) (w.before (k - length vs) (omega arith))))
      (cases_lt k (length vs));
}

-- a refusal within fewer bytes
pub wider : (few bytes : ℕ) (cs : List ℕ) (column : ℕ) (e : Refusal) → few ≤ bytes → IllWithin few cs column e → IllWithin bytes cs column e
wider few bytes cs column e l w = record {
  index = w.index;
  names = w.names;
  inside = omega (arith, w.inside);
  ill = w.ill;
  before = w.before;
}

-- a line from its verb and its fields
pub said : (line columns : List ℕ) (v : Verb) (r : Result Line Refusal) → length line ≤ 1028 → (take 4 line ≡ name v) × (columns ≡ drop 4 line) → Counted v (length columns) → LineRead v columns 5 r → Parsed line r
said line columns v (Ok l) within h counted read = (
  record {
    within = within;
    named = h.0 ∙ ap name (sym read.0);
    counted = subst (λ u. Counted u (length (drop 4 line))) (sym read.0) (subst (λ k. Counted v (length k)) h.1 counted);
  },
  subst (λ k. BeginWith k (numbers l)) h.1 read.1,
  subst (λ k. Lends k l) h.1 read.2,
)
said line columns v (Err e) within h counted w =
    subst (λ y. Parsed line (Err y)) (sym w.names) (
      (v, record { within = within; named = h.0; counted = subst (λ k. Counted v (length k)) h.1 counted }),
      record {
        index = w.index;
        starts = refl;
        inside = subst (λ k. 4 * w.index < length k) h.1 w.inside;
        ill = subst (λ k. IllFormed (field_at k w.index)) h.1 w.ill;
        before = λ k l. subst (λ m. WellFormed (field_at m k)) h.1 (w.before k l);
      },
    )
