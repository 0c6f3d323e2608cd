-- The worked examples, each computed from the definitions. Assumes nothing.
use Rattle.std.proofs.Common.{◌≡◌, ℕ, true, ◌&&◌, leb, List, [], ◌∷◌, refl, arith, lit≤}
use Rattle.std.proofs.lemmas.Bool.{and_parts, leb-true}
use Rattle.alphabet.specs.Residue.{modulo}
use Rattle.alphabet.specs.Binary.{binary, times, reduced}
use Rattle.alphabet.specs.Field.{FieldLaws}
use Rattle.alphabet.specs.Inverses.{with_inverses}
use Rattle.alphabet.specs.Remainders.{modulo_lawful}
use Rattle.alphabet.specs.Times.{binary_lawful}
use Rattle.alphabet.specs.Fields.{prime_field}
use Rattle.code.specs.Words.{Word}
use Rattle.code.specs.Laws.{CodeLaws}
use Rattle.code.specs.Bare.{bare}
use Rattle.code.specs.BareLaws.{bare_laws}
use Rattle.plane.specs.PlaneLaws.{plane_laws}
use Rattle.plane.proofs.Correcting.{all_far}
use Rattle.worked.specs.Examples.{WorkedExamples, plane_of_three}
use Rattle.worked.proofs.Computed.{filled, takes, refuses}

bare_residues : (q n : ℕ) → leb 2 q && leb q 16 ≡ true → leb 2 n && leb n 256 ≡ true → CodeLaws (bare (modulo q) n)
bare_residues q n size long =
    let s = and_parts _ _ size in
    let l = and_parts _ _ long in
    bare_laws (modulo q) (modulo_lawful q (leb-true 2 q s.0, leb-true q 16 s.1)) n (leb-true 2 n l.0) (leb-true n 256 l.1)

three_field : FieldLaws (with_inverses (modulo 3))
three_field = prime_field 3 (lit≤ tt, lit≤ tt) tt

plane_lawful : CodeLaws plane_of_three
plane_lawful = plane_laws (with_inverses (modulo 3)) three_field

pub established : WorkedExamples
unfolding times reduced
established = record {
  two_worn_cells =
      takes (bare (modulo 3) 5) (bare_residues 3 5 refl refl) (0 ∷ 1 ∷ 1 ∷ 0 ∷ 0 ∷ []) 0 (2 ∷ 0 ∷ 1 ∷ 0 ∷ []) (0 ∷ 2 ∷ 0 ∷ 1 ∷ 0 ∷ [])
      refl refl refl refl refl refl refl _ _ _ refl refl refl refl refl;
  lowest_of_two_masks =
      takes (bare (modulo 3) 8) (bare_residues 3 8 refl refl) (0 ∷ 0 ∷ 1 ∷ 0 ∷ 0 ∷ 1 ∷ 0 ∷ 0 ∷ []) 0 (2 ∷ 0 ∷ 1 ∷ 2 ∷ 0 ∷ 1 ∷ 0 ∷ []) (0 ∷ 2 ∷ 0 ∷ 1 ∷ 2 ∷ 0 ∷ 1 ∷ 0 ∷ [])
      refl refl refl refl refl refl refl _ _ _ refl refl refl refl refl;
  three_worn_cells_refused =
      refuses (bare (modulo 3) 5) (bare_residues 3 5 refl refl) (1 ∷ 1 ∷ 1 ∷ 0 ∷ 0 ∷ []) 0 (1 ∷ 2 ∷ 0 ∷ 0 ∷ []) (0 ∷ 1 ∷ 2 ∷ 0 ∷ 0 ∷ [])
      refl refl refl refl refl refl refl 0 1 refl refl refl refl;
  three_worn_cells_taken =
      takes (bare (modulo 3) 5) (bare_residues 3 5 refl refl) (1 ∷ 1 ∷ 1 ∷ 0 ∷ 0 ∷ []) 0 (1 ∷ 1 ∷ 0 ∷ 0 ∷ []) (0 ∷ 1 ∷ 1 ∷ 0 ∷ 0 ∷ [])
      refl refl refl refl refl refl refl _ _ _ refl refl refl refl refl;
  floor_of_two =
      takes (bare (modulo 3) 2) (bare_residues 3 2 refl refl) (0 ∷ 2 ∷ []) 0 (0 ∷ []) (0 ∷ 0 ∷ [])
      refl refl refl refl refl refl refl _ _ _ refl refl refl refl refl;
  four_residues =
      takes (bare (modulo 4) 4) (bare_residues 4 4 refl refl) (1 ∷ 1 ∷ 1 ∷ 0 ∷ []) 0 (1 ∷ 2 ∷ 3 ∷ []) (0 ∷ 1 ∷ 2 ∷ 3 ∷ [])
      refl refl refl refl refl refl refl _ _ _ refl refl refl refl refl;
  four_binary_symbols =
      takes (bare (binary 4) 4) (bare_laws (binary 4) (binary_lawful 4 tt) 4 (lit≤ tt) (lit≤ tt)) (1 ∷ 1 ∷ 1 ∷ 0 ∷ []) 0 (1 ∷ 2 ∷ 3 ∷ []) (0 ∷ 1 ∷ 2 ∷ 3 ∷ [])
      refl refl refl refl refl refl refl _ _ _ refl refl refl refl refl;
  plane_unworn =
      takes plane_of_three plane_lawful (0 ∷ 0 ∷ 0 ∷ 0 ∷ 0 ∷ 0 ∷ 0 ∷ 0 ∷ 0 ∷ []) 0 (1 ∷ 0 ∷ 0 ∷ 0 ∷ 0 ∷ []) (1 ∷ 2 ∷ 0 ∷ 2 ∷ 1 ∷ 0 ∷ 0 ∷ 0 ∷ 0 ∷ [])
      refl refl refl refl refl refl refl _ _ _ refl refl refl refl refl;
  plane_one_forced =
      takes plane_of_three plane_lawful (0 ∷ 1 ∷ 0 ∷ 0 ∷ 1 ∷ 1 ∷ 0 ∷ 0 ∷ 0 ∷ []) 1 (1 ∷ 0 ∷ 0 ∷ 0 ∷ 0 ∷ []) (1 ∷ 2 ∷ 0 ∷ 2 ∷ 1 ∷ 0 ∷ 0 ∷ 0 ∷ 0 ∷ [])
      refl refl refl refl refl refl refl _ _ _ refl refl refl refl refl;
  plane_none_allowed =
      refuses plane_of_three plane_lawful (0 ∷ 1 ∷ 0 ∷ 0 ∷ 1 ∷ 1 ∷ 0 ∷ 0 ∷ 0 ∷ []) 0 (1 ∷ 0 ∷ 0 ∷ 0 ∷ 0 ∷ []) (1 ∷ 2 ∷ 0 ∷ 2 ∷ 1 ∷ 0 ∷ 0 ∷ 0 ∷ 0 ∷ [])
      refl refl refl refl refl refl refl 0 1 refl refl refl refl;
  plane_too_far =
      let word : List ℕ = 1 ∷ 2 ∷ 0 ∷ 0 ∷ 0 ∷ 0 ∷ 0 ∷ 0 ∷ 0 ∷ [] in
      let fit : Word plane_of_three word = filled 9 3 word refl refl in
      (fit, refl, all_far (modulo 3) three_field.lawful word fit (record { levels = 0; rows = 0; columns = 2 }) (record { levels = refl; rows = refl; columns = refl }) refl (λ rows columns. omega arith));
  binary_product = refl;
  binary_inverse = refl;
}
