-- What levels read as: one message at most, and the message that was written while few cells are wrong. Assumes nothing.
use Rattle.std.proofs.Common.{◌≡◌, ℕ, ◌+◌, ◌≤◌, true, List, length, sym, refl, ap, ◌∙◌, subst, ⊎_elim, arith}
use Rattle.code.specs.Words.{BlockCode, Word, Message, Carries, differences}
use Rattle.code.specs.Calls.{Corrects}
use Rattle.code.specs.Laws.{CodeLaws}
use Rattle.code.specs.Differences.{differences_triangle, cases_word}
use Rattle.masking.specs.Reading.{Reads}
use Rattle.masking.proofs.Carriers.{one_message}

module _ (code : BlockCode) (laws : CodeLaws code) where
  -- two code words within the radius of one word are one
  pub one_near : (x v w : List ℕ) → length x ≡ code.cells → code.holds v ≡ true → code.holds w ≡ true
      → differences x v ≤ code.radius → differences x w ≤ code.radius → v ≡ w
  one_near x v w whole hv hw dv dw =
      ⊎_elim
      (λ e. e)
      (λ other. absurd (omega (arith, laws.apart v w hv hw other, differences_triangle x v w (whole ∙ sym (laws.words v hv).whole) (whole ∙ sym (laws.words w hw).whole))))
      (cases_word v w)

  -- levels read one way
  pub one_reading : (levels : List ℕ) (a b : ℕ) (m n : List ℕ) → Reads code levels a m → Reads code levels b n → (a ≡ b) × (m ≡ n)
  one_reading levels a b m n rm rn =
      let e : rm.carrier ≡ rn.carrier = one_near levels rm.carrier rn.carrier rm.fit.whole rm.carrying.held rn.carrying.held (omega (arith, rm.near, rm.within)) (omega (arith, rn.near, rn.within)) in (
        sym rm.near ∙ ap (differences levels) e ∙ rn.near,
        one_message code laws rn.carrier m n rm.symbols rn.symbols (subst (λ u. Carries code u m) e rm.carrying) rn.carrying,
      )

  -- a word that differs from a carrier in few cells, and the levels from the word in few more
  pub reads_back : (word levels carrier message : List ℕ) (forced errors : ℕ) → length word ≡ code.cells → Word code levels → Message code message → Carries code carrier message
      → differences word carrier ≤ forced → differences word levels ≤ errors → forced + errors ≤ code.radius → (corrected : ℕ) × Reads code levels corrected message
  reads_back word levels carrier message forced errors whole fit symbols carrying near few small = (
    differences levels carrier,
    record {
      fit = fit;
      carrier = carrier;
      carrying = carrying;
      symbols = symbols;
      near = refl;
      within = omega (arith, differences_triangle word levels carrier (whole ∙ sym fit.whole) (whole ∙ sym (laws.words carrier carrying.held).whole));
    },
  )

  -- the code word that the levels were corrected to, and what it carries
  pub reads_corrected : (levels word message : List ℕ) (count : ℕ) → Corrects code levels count word → Message code message → Carries code word message → Reads code levels count message
  reads_corrected levels word message count corrects symbols carrying = record {
    fit = corrects.fit;
    carrier = word;
    carrying = carrying;
    symbols = symbols;
    near = corrects.near;
    within = corrects.within;
  }
