-- Two kinds, a size and a length choose one code, or are refused in one way.
use Rattle.std.proofs.Common.{◌≡◌, ℕ, Result, sym, refl, ◌∙◌, subst, arith}
use Rattle.alphabet.specs.declared.refusals.Refusal.{Refusal}
use Rattle.code.specs.Words.{BlockCode}
use Rattle.catalog.specs.declared.kinds.AlphabetKind.{AlphabetKind}
use Rattle.catalog.specs.declared.kinds.AlphabetKind.TheVariants.{Residues, Binary}
use Rattle.catalog.specs.declared.kinds.CodeKind.{CodeKind}
use Rattle.catalog.specs.declared.kinds.CodeKind.TheVariants.{Bare, Plane}
use Rattle.catalog.specs.Kinds.{alphabet_number, code_number}
use Rattle.catalog.specs.Offers.{Offer, no_size, no_bare_length, bare_code, no_plane_length, plane_code, Chosen, no_alphabet_kind, no_code_kind, of_kinds}

one_alphabet_kind : (x y : AlphabetKind) → alphabet_number x ≡ alphabet_number y → x ≡ y
one_alphabet_kind Residues Residues e = refl
one_alphabet_kind Residues Binary e = absurd (omega arith)
one_alphabet_kind Binary Residues e = absurd (omega arith)
one_alphabet_kind Binary Binary e = refl

one_code_kind : (x y : CodeKind) → code_number x ≡ code_number y → x ≡ y
one_code_kind Bare Bare e = refl
one_code_kind Bare Plane e = absurd (omega arith)
one_code_kind Plane Bare e = absurd (omega arith)
one_code_kind Plane Plane e = refl

one_offer : (alphabet : AlphabetKind) (q n : ℕ) (kind : CodeKind) (r s : Result BlockCode Refusal) → Offer alphabet q n kind r → Offer alphabet q n kind s → r ≡ s
one_offer alphabet q n kind r s (no_size _ _) (no_size _ _) = refl
one_offer alphabet q n kind r s (no_size _ none) (no_bare_length size _) = absurd (none size)
one_offer alphabet q n kind r s (no_size _ none) (bare_code size _ _) = absurd (none size)
one_offer alphabet q n kind r s (no_size _ none) (no_plane_length size _) = absurd (none size)
one_offer alphabet q n kind r s (no_size _ none) (plane_code size _) = absurd (none size)
one_offer alphabet q n kind r s (no_bare_length size _) (no_size _ none) = absurd (none size)
one_offer alphabet q n kind r s (no_bare_length _ _) (no_bare_length _ _) = refl
one_offer alphabet q n kind r s (no_bare_length _ wrong) (bare_code _ low high) = absurd (wrong (low, high))
one_offer alphabet q n kind r s (bare_code size _ _) (no_size _ none) = absurd (none size)
one_offer alphabet q n kind r s (bare_code _ low high) (no_bare_length _ wrong) = absurd (wrong (low, high))
one_offer alphabet q n kind r s (bare_code _ _ _) (bare_code _ _ _) = refl
one_offer alphabet q n kind r s (no_plane_length size _) (no_size _ none) = absurd (none size)
one_offer alphabet q n kind r s (no_plane_length _ _) (no_plane_length _ _) = refl
one_offer alphabet q n kind r s (no_plane_length _ wrong) (plane_code _ square) = absurd (wrong square)
one_offer alphabet q n kind r s (plane_code size _) (no_size _ none) = absurd (none size)
one_offer alphabet q n kind r s (plane_code _ square) (no_plane_length _ wrong) = absurd (wrong square)
one_offer alphabet q n kind r s (plane_code _ _) (plane_code _ _) = refl

pub one_choice : (a c q n : ℕ) (r s : Result BlockCode Refusal) → Chosen a c q n r → Chosen a c q n s → r ≡ s
one_choice a c q n r s (no_alphabet_kind _ e) (no_alphabet_kind _ f) = e ∙ sym f
one_choice a c q n r s (no_alphabet_kind none _) (no_code_kind alphabet is _ _) = absurd (none alphabet is)
one_choice a c q n r s (no_alphabet_kind none _) (of_kinds alphabet _ is _ _) = absurd (none alphabet is)
one_choice a c q n r s (no_code_kind alphabet is _ _) (no_alphabet_kind none _) = absurd (none alphabet is)
one_choice a c q n r s (no_code_kind _ _ _ e) (no_code_kind _ _ _ f) = e ∙ sym f
one_choice a c q n r s (no_code_kind _ _ none _) (of_kinds _ kind _ is _) = absurd (none kind is)
one_choice a c q n r s (of_kinds alphabet _ is _ _) (no_alphabet_kind none _) = absurd (none alphabet is)
one_choice a c q n r s (of_kinds _ kind _ is _) (no_code_kind _ _ none _) = absurd (none kind is)
one_choice a c q n r s (of_kinds x u e f offer) (of_kinds y v g h other) =
    let kinds : x ≡ y = one_alphabet_kind x y (e ∙ sym g) in
    let codes : u ≡ v = one_code_kind u v (f ∙ sym h) in
    one_offer y q n v r s (subst (λ k. Offer k q n v r) kinds (subst (λ k. Offer x q n k r) codes offer)) other
