-- Of three cells, the symbol of the last two where they agree, and else that of the first, has fewest cells against it. Assumes nothing.
use Rattle.std.proofs.Common.{◌≡◌, ◌≢◌, ℕ, ◌⊎◌, List, [], ◌∷◌, length, get_or, inl, inr, arith}
use Rattle.std.proofs.lemmas.Bool.Decides.{nat_tests}
use Rattle.repetition.specs.Repetition.{against, Elected}

pub elected : (cells : List ℕ) (s n : ℕ) → length cells ≡ 3 → ((get_or cells 1 0 ≡ get_or cells 2 0) × (s ≡ get_or cells 1 0)) ⊎ ((get_or cells 1 0 ≢ get_or cells 2 0) × (s ≡ get_or cells 0 0)) → n ≡ against cells s
    → Elected cells (record { symbol = s; wrong = n })
elected (a ∷ b ∷ c ∷ []) s n h way e =
    record {
      among = elim way [ inl p ↦ inr p.1 | inr p ↦ inl p.1 ];
      counted = e;
      fewest = λ x. elim way [ inl p ↦ grind (arith, nat_tests, e, p) | inr p ↦ grind (arith, nat_tests, e, p) ];
    }
elected [] s n h way e = absurd (omega arith)
elected (a ∷ []) s n h way e = absurd (omega arith)
elected (a ∷ b ∷ []) s n h way e = absurd (omega arith)
elected (a ∷ b ∷ c ∷ d ∷ xs) s n h way e = absurd (omega arith)
