-- A line has one reading: one verb, one number in each field, and one first thing that is wrong.
use Rattle.std.proofs.Common.{◌≡◌, ℕ, ◌*◌, ◌<◌, cond, eqb, List, [], ◌∷◌, length, get_or, take, drop, Ok, Err, sym, refl, ap, ◌∙◌, subst, ⊎_elim, arith, length-drop}
use Rattle.std.proofs.lemmas.Bool.{cases_lt}
use Rattle.sheet.specs.declared.refusals.Refusal.{Refusal}
use Rattle.sheet.specs.declared.refusals.Refusal.TheVariants.{SheetLength, LineLength, UnknownVerb, FieldCount, IllFormedField, OutOfTurn}
use Rattle.sheet.specs.declared.verbs.Verb.{Verb}
use Rattle.sheet.specs.declared.verbs.Verb.TheVariants as verb
use Rattle.sheet.specs.declared.parsing.Line.{Line}
use Rattle.sheet.specs.declared.parsing.Line.TheVariants.{Card, Floor, Worn, Move, Open, Read, Same, Save}
use Rattle.sheet.specs.Fields.{Shows, WellFormed}
use Rattle.sheet.specs.Verbs.{name, Counted}
use Rattle.sheet.specs.Parsing.{verb_of, numbers, field_at, BeginWith, AllWellFormed, Lends, FirstIll, Parsed}
use Rattle.sheet.specs.Readings.{symbols_of, told, OneReading}
use Rattle.sheet.proofs.Shown.{Forms, forms, shown_long}
use Rattle.sheet.proofs.Steps.{both, shown_fields}

-- a verb is known by its letters
spelled : List ℕ → Verb
spelled l =
    cond (eqb (get_or l 0 0) 67) verb.Card
    (cond (eqb (get_or l 0 0) 70) verb.Floor
    (cond (eqb (get_or l 0 0) 87) verb.Worn
    (cond (eqb (get_or l 0 0) 77) verb.Move
    (cond (eqb (get_or l 0 0) 79) verb.Open
    (cond (eqb (get_or l 0 0) 82) verb.Read
    (cond (eqb (get_or l 2 0) 77) verb.Same verb.Save))))))

spelled_name : (v : Verb) → spelled (name v) ≡ v
unfolding spelled
spelled_name verb.Card = refl
spelled_name verb.Floor = refl
spelled_name verb.Worn = refl
spelled_name verb.Move = refl
spelled_name verb.Open = refl
spelled_name verb.Read = refl
spelled_name verb.Same = refl
spelled_name verb.Save = refl

same_verb : (line : List ℕ) (u v : Verb) → take 4 line ≡ name u → take 4 line ≡ name v → u ≡ v
same_verb line u v p q = sym (spelled_name u) ∙ ap spelled (sym p ∙ q) ∙ spelled_name v

-- four columns show one number
same_forms : (w x y z u v : ℕ) → Forms w x y z u → Forms w x y z v → u ≡ v
same_forms w x y z u v p q = grind arith

pub same_number : (cs : List ℕ) (u v : ℕ) → Shows (take 4 cs) u → Shows (take 4 cs) v → u ≡ v
same_number [] u v p q = absurd (omega (arith, shown_long [] u p))
same_number (w ∷ []) u v p q = absurd (omega (arith, shown_long (w ∷ []) u p))
same_number (w ∷ x ∷ []) u v p q = absurd (omega (arith, shown_long (w ∷ x ∷ []) u p))
same_number (w ∷ x ∷ y ∷ []) u v p q = absurd (omega (arith, shown_long (w ∷ x ∷ y ∷ []) u p))
same_number (w ∷ x ∷ y ∷ z ∷ cs) u v p q = same_forms w x y z u v (forms w x y z u p) (forms w x y z v q)

pub same_numbers : (cs us vs : List ℕ) → length us ≡ length vs → BeginWith cs us → BeginWith cs vs → us ≡ vs
same_numbers cs [] [] l p q = refl
same_numbers cs [] (v ∷ vs) l p q = absurd (omega arith)
same_numbers cs (u ∷ us) [] l p q = absurd (omega arith)
same_numbers cs (u ∷ us) (v ∷ vs) l p q =
    let head : u ≡ v = same_number cs u v p.0 q.0 in
    let tail : us ≡ vs = same_numbers (drop 4 cs) us vs (omega arith) p.1 q.1 in
    cc

-- how many numbers a verb's line gives
abbrev wants : Verb → ℕ
wants verb.Card = 6
wants verb.Floor = 3
wants verb.Worn = 3
wants verb.Move = 3
wants verb.Open = 0
wants verb.Read = 1
wants verb.Same = 2
wants verb.Save = 1

counted_numbers : (l : Line) → length (numbers l) ≡ wants (verb_of l)
counted_numbers (Card alphabet code q n f pages) = refl
counted_numbers (Floor page cell floor) = refl
counted_numbers (Worn page cell floor) = refl
counted_numbers (Move page cell level) = refl
counted_numbers Open = refl
counted_numbers (Read page) = refl
counted_numbers (Same one other) = refl
counted_numbers (Save page symbols) = refl

lent : Verb → List ℕ → List ℕ
lent verb.Card cs = []
lent verb.Floor cs = []
lent verb.Worn cs = []
lent verb.Move cs = []
lent verb.Open cs = []
lent verb.Read cs = []
lent verb.Same cs = []
lent verb.Save cs = drop 4 cs

lent_symbols : (cs : List ℕ) (l : Line) → Lends cs l → symbols_of l ≡ lent (verb_of l) cs
unfolding lent
lent_symbols cs (Card alphabet code q n f pages) h = refl
lent_symbols cs (Floor page cell floor) h = refl
lent_symbols cs (Worn page cell floor) h = refl
lent_symbols cs (Move page cell level) h = refl
lent_symbols cs Open h = refl
lent_symbols cs (Read page) h = refl
lent_symbols cs (Same one other) h = refl
lent_symbols cs (Save page symbols) h = h.0

same_line : (cs : List ℕ) (l m : Line) → verb_of l ≡ verb_of m → BeginWith cs (numbers l) → BeginWith cs (numbers m) → Lends cs l → Lends cs m → told (Ok l) ≡ told (Ok m)
same_line cs l m e p q f g =
    let ns : numbers l ≡ numbers m = same_numbers cs (numbers l) (numbers m) (counted_numbers l ∙ ap wants e ∙ sym (counted_numbers m)) p q in
    let ss : symbols_of l ≡ symbols_of m = lent_symbols cs l f ∙ ap (λ v. lent v cs) e ∙ sym (lent_symbols cs m g) in
    λ i. Ok (e i, ns i, ss i)

-- every field of a line that is read is well formed
all_fields : (cs : List ℕ) (l : Line) → Counted (verb_of l) (length cs) → BeginWith cs (numbers l) → Lends cs l → AllWellFormed cs
all_fields cs (Card alphabet code q n f pages) counted shown lends k lt = shown_fields cs (alphabet ∷ code ∷ q ∷ n ∷ f ∷ pages ∷ []) shown k (omega (arith, counted.0, counted.1))
all_fields cs (Floor page cell floor) counted shown lends k lt = shown_fields cs (page ∷ cell ∷ floor ∷ []) shown k (omega (arith, counted.0, counted.1))
all_fields cs (Worn page cell floor) counted shown lends k lt = shown_fields cs (page ∷ cell ∷ floor ∷ []) shown k (omega (arith, counted.0, counted.1))
all_fields cs (Move page cell level) counted shown lends k lt = shown_fields cs (page ∷ cell ∷ level ∷ []) shown k (omega (arith, counted.0, counted.1))
all_fields cs Open counted shown lends k lt = shown_fields cs ([]) shown k (omega (arith, counted.0, counted.1))
all_fields cs (Read page) counted shown lends k lt = shown_fields cs (page ∷ []) shown k (omega (arith, counted.0, counted.1))
all_fields cs (Same one other) counted shown lends k lt = shown_fields cs (one ∷ other ∷ []) shown k (omega (arith, counted.0, counted.1))
all_fields cs (Save page symbols) counted shown lends k lt =
    both cs (drop 4 cs) k page shown.0 refl (λ j less. subst (λ c. WellFormed (field_at c j)) lends.0 (lends.1 j (subst (λ c. 4 * j < length c) (sym lends.0) (omega (arith, length-drop 4 cs))))) k (omega arith)

-- no refusal stands beside a line that is read
never : (line : List ℕ) (l : Line) (e : Refusal) → Parsed line (Ok l) → Parsed line (Err e) → ⊥
never line l LineLength p q = omega (arith, p.0.within)
never line l UnknownVerb p q = q.1 (verb_of l) p.0.named
never line l (FieldCount bytes) p q = q.2.2 (subst (λ v. Counted v (length (drop 4 line))) (same_verb line (verb_of l) q.2.0 p.0.named q.2.1) p.0.counted)
never line l (IllFormedField column) p q =
    let w = all_fields (drop 4 line) l p.0.counted p.1 p.2 q.1.index q.1.inside in
    q.1.ill w.0 w.1
never line l SheetLength p q = q
never line l OutOfTurn p q = q

-- the first ill-formed field is one
not_before : (cs : List ℕ) (a b : ℕ) (p : FirstIll cs a) (q : FirstIll cs b) → p.index < q.index → ⊥
not_before cs a b p q l = let w = q.before p.index l in p.ill w.0 w.1

same_column : (cs : List ℕ) (a b : ℕ) → FirstIll cs a → FirstIll cs b → a ≡ b
same_column cs a b p q =
    ⊎_elim
    (λ l. absurd (not_before cs a b p q l))
    (λ g. ⊎_elim
    (λ l. absurd (not_before cs b a q p l))
    (λ h. omega (arith, p.starts, q.starts))
    (cases_lt q.index p.index))
    (cases_lt p.index q.index)

same_refusal : (line : List ℕ) (e f : Refusal) → Parsed line (Err e) → Parsed line (Err f) → e ≡ f
same_refusal line LineLength LineLength p q = refl
same_refusal line LineLength UnknownVerb p q = absurd (omega (arith, q.0))
same_refusal line LineLength (FieldCount b) p q = absurd (omega (arith, q.1))
same_refusal line LineLength (IllFormedField b) p q = absurd (omega (arith, q.0.1.within))
same_refusal line LineLength SheetLength p q = absurd q
same_refusal line LineLength OutOfTurn p q = absurd q
same_refusal line UnknownVerb LineLength p q = absurd (omega (arith, p.0))
same_refusal line UnknownVerb UnknownVerb p q = refl
same_refusal line UnknownVerb (FieldCount b) p q = absurd (p.1 q.2.0 q.2.1)
same_refusal line UnknownVerb (IllFormedField b) p q = absurd (p.1 q.0.0 q.0.1.named)
same_refusal line UnknownVerb SheetLength p q = absurd q
same_refusal line UnknownVerb OutOfTurn p q = absurd q
same_refusal line (FieldCount a) LineLength p q = absurd (omega (arith, p.1))
same_refusal line (FieldCount a) UnknownVerb p q = absurd (q.1 p.2.0 p.2.1)
same_refusal line (FieldCount a) (FieldCount b) p q = ap FieldCount (p.0 ∙ sym q.0)
same_refusal line (FieldCount a) (IllFormedField b) p q = absurd (p.2.2 (subst (λ v. Counted v (length (drop 4 line))) (same_verb line q.0.0 p.2.0 q.0.1.named p.2.1) q.0.1.counted))
same_refusal line (FieldCount a) SheetLength p q = absurd q
same_refusal line (FieldCount a) OutOfTurn p q = absurd q
same_refusal line (IllFormedField a) LineLength p q = absurd (omega (arith, p.0.1.within))
same_refusal line (IllFormedField a) UnknownVerb p q = absurd (q.1 p.0.0 p.0.1.named)
same_refusal line (IllFormedField a) (FieldCount b) p q = absurd (q.2.2 (subst (λ v. Counted v (length (drop 4 line))) (same_verb line p.0.0 q.2.0 p.0.1.named q.2.1) p.0.1.counted))
same_refusal line (IllFormedField a) (IllFormedField b) p q = ap IllFormedField (same_column (drop 4 line) a b p.1 q.1)
same_refusal line (IllFormedField a) SheetLength p q = absurd q
same_refusal line (IllFormedField a) OutOfTurn p q = absurd q
same_refusal line SheetLength f p q = absurd p
same_refusal line OutOfTurn f p q = absurd p

pub one_reading : OneReading
one_reading line (Ok l) (Ok m) p q = same_line (drop 4 line) l m (same_verb line (verb_of l) (verb_of m) p.0.named q.0.named) p.1 q.1 p.2 q.2
one_reading line (Ok l) (Err f) p q = absurd (never line l f p q)
one_reading line (Err e) (Ok m) p q = absurd (never line m e q p)
one_reading line (Err e) (Err f) p q = ap (λ x. told (Err x)) (same_refusal line e f p q)
