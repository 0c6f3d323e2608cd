-- What follows from what writing leaves: when it refuses, how few cells it forces, and that writing and reading are a masking code. Assumes nothing.
use Rattle.std.proofs.Common.{◌≡◌, ℕ, ◌+◌, ◌-◌, ◌≤◌, List, length, Ok, Err, Result, sym, refl, ap, ◌∙◌, ⊎_elim, arith}
use Rattle.alphabet.specs.declared.refusals.Refusal.TheVariants as word
use Rattle.code.specs.Words.{BlockCode, Word, Message, differences}
use Rattle.code.specs.Laws.{CodeLaws}
use Rattle.masking.specs.declared.refusals.Refusal.{Refusal}
use Rattle.masking.specs.declared.refusals.Refusal.TheVariants.{Coding, Allowance, Floor, MessageLength, MessageSymbol, NoMask}
use Rattle.masking.specs.Floors.{Allowed, AtLeast, raised}
use Rattle.masking.specs.Writing.{Writes, Page, Unwritable, WrittenAs, RefusedExactly, GrantedWhileFewLost, Nearest, ForcedLeast}
use Rattle.masking.specs.MaskingCode.{WritingMasks}
use Rattle.masking.proofs.Unmet.{differences_raised}
use Rattle.masking.proofs.Nearness.{fewest_at_least, raised_allowed, one_fewest, near_carrier}
use Rattle.masking.proofs.Shifts.{some_fewest}
use Rattle.masking.proofs.Readings.{one_reading, reads_back}

module _ (code : BlockCode) (laws : CodeLaws code) where
  -- the word written is that far from the code word that it was raised from
  pub written_distance : (floors : List ℕ) (allowance : ℕ) (message : List ℕ) (mask forced : ℕ) (word : List ℕ) (w : Writes code floors allowance message mask forced word) → differences word w.carrier ≡ forced
  written_distance floors allowance message mask forced word w =
      ap (λ x. differences x w.carrier) w.written ∙ differences_raised floors w.carrier ∙ w.fewest.counted

  pub written_allowed : (floors : List ℕ) (allowance : ℕ) (message : List ℕ) (mask forced : ℕ) (word : List ℕ) → Word code floors → Writes code floors allowance message mask forced word → Allowed code floors word
  written_allowed floors allowance message mask forced word levels w =
      rw w.written (raised_allowed code laws floors w.carrier levels w.fewest.carrying.held)

  pub nearest : (floors : List ℕ) (allowance : ℕ) (message : List ℕ) (mask forced : ℕ) (word : List ℕ) → Word code floors → Writes code floors allowance message mask forced word → Nearest code floors message mask forced word
  nearest floors allowance message mask forced word levels w = record {
    allowed = written_allowed floors allowance message mask forced word levels w;
    carrier = w.carrier;
    carrying = w.fewest.carrying;
    masked = w.fewest.masked;
    distance = written_distance floors allowance message mask forced word w;
    least = fewest_at_least code laws floors message mask forced w.carrier w.fewest;
  }

  pub forced_least : (floors : List ℕ) (allowance : ℕ) (message before : List ℕ) (r : Result (ℕ × ℕ) Refusal) (after : List ℕ) → WrittenAs code floors allowance message before r after → ForcedLeast code floors message r after
  forced_least floors allowance message before (Ok answer) after h = nearest floors allowance message answer.0 answer.1 after h.page.levels h.writes
  forced_least floors allowance message before (Err refusal) after h = tt

  -- a page that can be written and a message for it are refused for want of a mask only
  only_for_want_of_a_mask : (floors : List ℕ) (allowance : ℕ) (message : List ℕ) (room : ℕ) (e : Refusal) (P : Type 0) → Page code floors allowance room → Message code message → Unwritable code floors allowance message room e
      → ((fewest : ℕ) → Unwritable code floors allowance message room (NoMask fewest) → P) → P
  only_for_want_of_a_mask floors allowance message room (Allowance f) P page symbols u k = absurd (omega (arith, page.allowed, u.1))
  only_for_want_of_a_mask floors allowance message room (Coding (word.WordLength n)) P page symbols u k = absurd (⊎_elim (λ a. a.1 page.levels.whole) (λ b. b.2 page.whole) u.1)
  only_for_want_of_a_mask floors allowance message room (Coding (word.NotASymbol i)) P page symbols u k = absurd u
  only_for_want_of_a_mask floors allowance message room (Coding (word.NotOffered choice)) P page symbols u k = absurd u
  only_for_want_of_a_mask floors allowance message room (Coding (word.BareLength n)) P page symbols u k = absurd u
  only_for_want_of_a_mask floors allowance message room (Coding word.TooFar) P page symbols u k = absurd u
  only_for_want_of_a_mask floors allowance message room (Floor v) P page symbols u k =
      absurd (omega (arith, u.1.first.bad, page.levels.symbols u.1.cell u.1.first.within))
  only_for_want_of_a_mask floors allowance message room (MessageLength n) P page symbols u k = absurd (u.1.1 symbols.whole)
  only_for_want_of_a_mask floors allowance message room (MessageSymbol i) P page symbols u k = absurd (omega (arith, u.1.1.bad, symbols.symbols i u.1.1.within))
  only_for_want_of_a_mask floors allowance message room (NoMask fewest) P page symbols u k = k fewest u

  pub refused_exactly : (floors : List ℕ) (allowance : ℕ) (message before : List ℕ) (r : Result (ℕ × ℕ) Refusal) (after : List ℕ) → WrittenAs code floors allowance message before r after → RefusedExactly code floors allowance message before r
  refused_exactly floors allowance message before (Ok answer) after h = λ far.
      let n = nearest floors allowance message answer.0 answer.1 after h.page.levels h.writes in
      omega (arith, far after n.carrier n.allowed n.carrying, n.distance, h.writes.within)
  refused_exactly floors allowance message before (Err refusal) after h = λ page symbols.
      only_for_want_of_a_mask floors allowance message (length before) refusal (AtLeast code floors message (allowance + 1)) page symbols h.0
      (λ fewest u w carrier allowed carrying. omega (arith, u.3, fewest_at_least code laws floors message u.2.0 fewest u.2.1 u.2.2 w carrier allowed carrying))

  pub granted_while_few_lost : (floors : List ℕ) (allowance : ℕ) (message before : List ℕ) (r : Result (ℕ × ℕ) Refusal) (after : List ℕ) → WrittenAs code floors allowance message before r after → GrantedWhileFewLost code floors allowance message before r
  granted_while_few_lost floors allowance message before (Ok answer) after h = tt
  granted_while_few_lost floors allowance message before (Err refusal) after h = λ page symbols small.
      only_for_want_of_a_mask floors allowance message (length before) refusal ⊥ page symbols h.0
      (λ fewest u. let w = near_carrier code laws floors message allowance symbols small in omega (arith, u.3, u.2.2.fewest w.0 w.1, w.2))

  -- writing within an allowance that the radius covers, and reading
  pub writing_masks : (allowance : ℕ) → allowance ≤ code.radius → WritingMasks code allowance
  writing_masks allowance small = record {
    encodes = λ floors message low symbols.
        let f = some_fewest code laws floors message symbols in
        let w = near_carrier code laws floors message allowance symbols low.few in
        (raised floors f.2, (f.0, f.1, record { carrier = f.2; fewest = f.3; within = omega (arith, f.3.fewest w.0 w.1, w.2); written = refl }));
    encodes_once = λ floors message v w a b.
        a.2.written ∙ ap (raised floors) (one_fewest code laws floors message a.0 b.0 a.1 b.1 a.2.carrier b.2.carrier a.2.fewest b.2.fewest) ∙ sym b.2.written;
    masks = λ floors message word low e. written_allowed floors allowance message e.0 e.1 word low.levels e.2;
    decodes = λ floors message word levels low symbols e fit errors.
        reads_back code laws word levels e.2.carrier message e.1 (code.radius - allowance)
        (written_allowed floors allowance message e.0 e.1 word low.levels e.2).fit.whole fit symbols e.2.fewest.carrying
        (omega (arith, written_distance floors allowance message e.0 e.1 word e.2)) errors (omega (arith, e.2.within));
    decodes_once = λ levels message other a b. (one_reading code laws levels a.0 b.0 message other a.1 b.1).1;
  }
