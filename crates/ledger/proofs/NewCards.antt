-- A new card takes each message and reads it back. Assumes nothing.
use Rattle.std.proofs.Common.{◌≡◌, ℕ, zero, suc, ◌≤◌, List, [], ◌∷◌, length, replicate, refl, ap, subst, arith}
use Rattle.alphabet.specs.Residue.{modulo}
use Rattle.alphabet.specs.Remainders.{modulo_lawful}
use Rattle.code.specs.Words.{Message}
use Rattle.code.specs.Laws.{CodeLaws}
use Rattle.code.specs.BareLaws.{bare_laws}
use Rattle.code.specs.Cells.{below_each}
use Rattle.masking.specs.Floors.{FewLost, Fewest, raised, total}
use Rattle.masking.specs.Writing.{Writes}
use Rattle.masking.proofs.Nearness.{near_carrier}
use Rattle.masking.proofs.Shifts.{some_fewest}
use Rattle.ledger.specs.Ledger.{Made, Page, blank_pages, page_of, save, read, stored, found, Step, saved, InService, new, opened}
use Rattle.ledger.specs.NewCard.{SavesAndReads, NewCardsRead, small_card, SmallCardReads}
use Rattle.ledger.proofs.Shapes.{Kept, new_blank, bench_kept, step_kept}
use Rattle.ledger.proofs.Answered.{answered}
use Rattle.ledger.proofs.ReadBack.{read_at_once}

total_zeros : (n : ℕ) → total (replicate n 0) ≡ 0
total_zeros zero = refl
total_zeros (suc n) = omega (arith, total_zeros n)

module _ (made : Made) (laws : CodeLaws made.code) where
  new_kept : Kept made (blank_pages made)
  new_kept = bench_kept made laws [] (blank_pages made) new

  -- the floors of a new card take nothing away
  new_few_lost : (p : ℕ) → FewLost made.code (page_of made (blank_pages made) p).floors 0
  new_few_lost p = omega (arith, ap (λ x. total x.floors) (new_blank made laws p), total_zeros made.code.cells)

  -- so a save forces no cell
  new_writes : (p : ℕ) (m : List ℕ) → Message made.code m → (mask : ℕ) × (word : List ℕ) × Writes made.code (page_of made (blank_pages made) p).floors made.allowance m mask 0 word
  new_writes p m message =
      let floors : List ℕ = (page_of made (blank_pages made) p).floors in
      let f = some_fewest made.code laws floors m message in
      let w = near_carrier made.code laws floors m 0 message (new_few_lost p) in
      let none : f.1 ≡ 0 = omega (arith, f.3.fewest w.0 w.1, w.2) in
      (f.0, raised floors f.2, record { carrier = f.2; fewest = subst (λ n. Fewest made.code floors m f.0 n f.2) none f.3; within = omega arith; written = refl })

  -- and the message is read after it
  read_after : (p : ℕ) (m : List ℕ) (mask : ℕ) (l : List Page) → made.allowance ≤ made.code.radius → Message made.code m → Step made (blank_pages made) (save p m) (stored mask 0) l → SavesAndReads made p m
  read_after p m mask l small message step =
      let r = answered made laws l (read p (length m)) (step_kept made laws (blank_pages made) (save p m) (stored mask 0) l new_kept step) in
      let is : r.0 ≡ found 0 m = read_at_once made laws (blank_pages made) p m mask 0 (length m) l r.1 r.0 small new_kept message.whole step r.2 in
      record {
        mask = mask;
        pages = r.1;
        run = InService.next [] ((save p m, stored mask 0) ∷ []) l (read p (length m)) (found 0 m) r.1
            (InService.next [] [] (blank_pages made) (save p m) (stored mask 0) l (opened [] (blank_pages made) new) step)
            (subst (λ a. Step made l (read p (length m)) a r.1) is r.2);
      }

pub new_cards_read : NewCardsRead
new_cards_read made laws small p m low message =
    let w = new_writes made laws p m message in
    read_after made laws p m w.0 _ small message (saved (blank_pages made) p m w.0 0 w.1 low message w.2)

small_laws : CodeLaws small_card.code
small_laws = bare_laws (modulo 3) (modulo_lawful 3 (omega arith, omega arith)) 2 (omega arith) (omega arith)

pub small_card_reads : SmallCardReads
small_card_reads = (
  small_laws,
  new_cards_read small_card small_laws (omega arith) 0 (1 ∷ []) (omega arith) (record { whole = refl; symbols = below_each 3 (1 ∷ []) refl }),
)
