-- The lines that some bytes parse to are alike: they differ at most in where a save's symbols stand.
use Rattle.std.proofs.Common.{◌≡◌, ℕ, List, get_or, Ok, Err, sym, refl, ap, ◌∙◌, subst, arith, Bor}
use Rattle.sheet.specs.declared.refusals.Refusal.{Refusal}
use Rattle.sheet.specs.declared.verbs.Verb.{Verb}
use Rattle.sheet.specs.declared.verbs.Verb.TheVariants as verb
use Rattle.sheet.specs.declared.parsing.Line.{Line}
use Rattle.sheet.specs.declared.parsing.Line.TheVariants.{Card, Floor, Worn, Move, Open, Read, Same, Save}
use Rattle.sheet.specs.Parsing.{verb_of, numbers, Parsed}
use Rattle.sheet.specs.Readings.{symbols_of, told}
use Rattle.sheet.proofs.Readings.{one_reading, same_numbers}
use Rattle.ledger.specs.Ledger.{Made, Call, save}
use Rattle.listing.specs.Turns.{ShowAll, Calls, ForBench, ForService}
use Rattle.listing.specs.Listing.{AsksForCard}

-- equal lines, or saves on one page of equal symbols
data Alike : Line → Line → Type 0 where
  same : (x : Line) → Alike x x
  saves : (page : ℕ) (r s : Bor (List ℕ)) → r.now ≡ s.now → Alike (Save page r) (Save page s)

abbrev reading : Line → Verb × List ℕ × List ℕ
reading x = (verb_of x, numbers x, symbols_of x)

-- a line of this reading
line_of : Verb × List ℕ × List ℕ → Line
line_of (verb.Card, ns, ss) = Card (get_or ns 0 0) (get_or ns 1 0) (get_or ns 2 0) (get_or ns 3 0) (get_or ns 4 0) (get_or ns 5 0)
line_of (verb.Floor, ns, ss) = Floor (get_or ns 0 0) (get_or ns 1 0) (get_or ns 2 0)
line_of (verb.Worn, ns, ss) = Worn (get_or ns 0 0) (get_or ns 1 0) (get_or ns 2 0)
line_of (verb.Move, ns, ss) = Move (get_or ns 0 0) (get_or ns 1 0) (get_or ns 2 0)
line_of (verb.Open, ns, ss) = Open
line_of (verb.Read, ns, ss) = Read (get_or ns 0 0)
line_of (verb.Same, ns, ss) = Same (get_or ns 0 0) (get_or ns 1 0)
line_of (verb.Save, ns, ss) = Save (get_or ns 0 0) (record { ref_ptr = (0, 0); now = ss })

line_alike : (x : Line) → Alike (line_of (reading x)) x
unfolding line_of
line_alike (Card alphabet code q n f pages) = same _
line_alike (Floor page cell level) = same _
line_alike (Worn page cell level) = same _
line_alike (Move page cell level) = same _
line_alike Open = same _
line_alike (Read page) = same _
line_alike (Same one other) = same _
line_alike (Save page symbols) = saves page _ symbols refl

both_alike : (x y z : Line) → Alike x y → Alike x z → Alike y z
both_alike x y z (same _) k = k
both_alike x y z (saves page r s e) (same _) = saves page s r (sym e)
both_alike x y z (saves page r s e) (saves _ _ t f) = saves page s t (sym e ∙ f)

-- two readings of a line are one
same_reading : (line : List ℕ) (x y : Line) → Parsed line (Ok x) → Parsed line (Ok y) → reading x ≡ reading y
same_reading line x y p q = let e : told (Ok x) ≡ told (Ok y) = one_reading line (Ok x) (Ok y) p q in cc

alike : (line : List ℕ) (x y : Line) → Parsed line (Ok x) → Parsed line (Ok y) → Alike x y
alike line x y p q = both_alike (line_of (reading x)) x y (line_alike x) (subst (λ r. Alike (line_of r) y) (sym (same_reading line x y p q)) (line_alike y))

pub one_list_of_numbers : (line : List ℕ) (x y : Line) → Parsed line (Ok x) → Parsed line (Ok y) → numbers x ≡ numbers y
one_list_of_numbers line x y p q = ap (λ r. r.1) (same_reading line x y p q)

-- a line is refused one way or not at all
pub never_both : (line : List ℕ) (x : Line) (e : Refusal) → Parsed line (Ok x) → Parsed line (Err e) → ⊥
never_both line x e p q =
    let f : told (Ok x) ≡ told (Err e) = one_reading line (Ok x) (Err e) p q in
    let z : ◌≡◌ {A = ℕ} 0 1 = cc in omega arith

pub one_refusal : (line : List ℕ) (d e : Refusal) → Parsed line (Err d) → Parsed line (Err e) → d ≡ e
one_refusal line d e p q = let f : told (Err d) ≡ told (Err e) = one_reading line (Err d) (Err e) p q in cc

-- what is said of a line whatever its symbols is said of all that the bytes parse to
carried : (P : Line → Type 0) → ((page : ℕ) (r s : Bor (List ℕ)) → P (Save page r) → P (Save page s)) → (x y : Line) → Alike x y → P x → P y
carried P over x y (same _) h = h
carried P over x y (saves page r s _) h = over page r s h

pub for_bench : (line : List ℕ) (x y : Line) → Parsed line (Ok x) → Parsed line (Ok y) → ForBench x → ForBench y
for_bench line x y p q = carried ForBench (λ page r s h. h) x y (alike line x y p q)

pub for_service : (line : List ℕ) (x y : Line) → Parsed line (Ok x) → Parsed line (Ok y) → ForService x → ForService y
for_service line x y p q = carried ForService (λ page r s h. h) x y (alike line x y p q)

pub for_card : (line : List ℕ) (x y : Line) → Parsed line (Ok x) → Parsed line (Ok y) → AsksForCard x → AsksForCard y
for_card line x y p q = carried AsksForCard (λ page r s h. h) x y (alike line x y p q)

-- a line that makes a call is for a card in service
pub calls_in_service : (made : Made) (x : Line) (call : Call) → Calls made x call → ForService x
calls_in_service made (Card alphabet code q n f pages) call h = h
calls_in_service made (Floor page cell level) call h = h
calls_in_service made (Worn page cell level) call h = tt
calls_in_service made (Move page cell level) call h = tt
calls_in_service made Open call h = h
calls_in_service made (Read page) call h = tt
calls_in_service made (Same one other) call h = tt
calls_in_service made (Save page symbols) call h = tt

-- columns show one message
one_message : (columns m k : List ℕ) → ShowAll columns m → ShowAll columns k → m ≡ k
one_message columns m k p q = same_numbers columns m k (omega (arith, p.1, q.1)) p.0 q.0

-- the bytes make one call
one_call_of : (made : Made) (x : Line) (c d : Call) → Calls made x c → Calls made x d → c ≡ d
one_call_of made (Card alphabet code q n f pages) c d h k = absurd h
one_call_of made (Floor page cell level) c d h k = absurd h
one_call_of made (Worn page cell level) c d h k = h ∙ sym k
one_call_of made (Move page cell level) c d h k = h ∙ sym k
one_call_of made Open c d h k = absurd h
one_call_of made (Read page) c d h k = h ∙ sym k
one_call_of made (Same one other) c d h k = h ∙ sym k
one_call_of made (Save page symbols) c d h k = h.2 ∙ ap (save page) (one_message symbols.now h.0 k.0 h.1 k.1) ∙ sym k.2

alike_call : (made : Made) (x y : Line) (c d : Call) → Alike x y → Calls made x c → Calls made y d → c ≡ d
alike_call made x y c d (same _) h k = one_call_of made x c d h k
alike_call made x y c d (saves page r s e) h k = one_call_of made (Save page r) c d h (k.0, subst (λ ss. ShowAll ss k.0) (sym e) k.1, k.2)

pub one_call : (made : Made) (line : List ℕ) (x y : Line) (c d : Call) → Parsed line (Ok x) → Parsed line (Ok y) → Calls made x c → Calls made y d → c ≡ d
one_call made line x y c d p q h k = alike_call made x y c d (alike line x y p q) h k
