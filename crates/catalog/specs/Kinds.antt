-- The kinds of alphabets and codes, their numbers, and what each means. Assumes nothing.
use Rattle.std.specs.Prelude.{◌≡◌, ℕ, Ok, Err, Result, ◌≢◌}
use Rattle.alphabet.specs.Arithmetic.{Arithmetic}
use Rattle.alphabet.specs.Residue.{modulo}
use Rattle.alphabet.specs.Binary.{binary}
use Rattle.alphabet.specs.Inverses.{with_inverses}
use Rattle.alphabet.specs.Offers.{ResidueSize, PrimeSize, BinarySize}
use Rattle.alphabet.specs.declared.refusals.Choice.{Choice}
use Rattle.alphabet.specs.declared.refusals.Refusal.{Refusal}
use Rattle.alphabet.specs.declared.refusals.Refusal.TheVariants.{NotOffered}
use Rattle.code.specs.Words.{BlockCode}
use Rattle.code.specs.Bare.{bare}
use Rattle.plane.specs.Plane.{plane}
use Rattle.catalog.specs.declared.kinds.AlphabetKind.{AlphabetKind}
use Rattle.catalog.specs.declared.kinds.AlphabetKind.TheVariants.{Residues, Binary}
use Rattle.catalog.specs.declared.kinds.CodeKind.{CodeKind}
use Rattle.catalog.specs.declared.kinds.CodeKind.TheVariants.{Bare, Plane}
use Rattle.catalog.specs.declared.offered.AnyCode.{AnyCode}
use Rattle.catalog.specs.declared.offered.AnyCode.TheVariants.{BareResidues, BareBinary, PlaneResidues, PlaneBinary}

abbrev pub alphabet_number : AlphabetKind → ℕ
alphabet_number Residues = 0
alphabet_number Binary = 1

abbrev pub code_number : CodeKind → ℕ
code_number Bare = 0
code_number Plane = 1

-- a number is that of a kind, or of none, and then the choice that it makes is refused
abbrev pub Named : {K : Type 0} → (K → ℕ) → Choice → ℕ → Result K Refusal → Type 0
Named number_of choice number (Ok kind) = number_of kind ≡ number
Named number_of choice number (Err refusal) = (refusal ≡ NotOffered choice) × ((kind : _) → number_of kind ≢ number)

-- the arithmetic of an alphabet's kind and size
abbrev pub arithmetic_of : AlphabetKind → ℕ → Arithmetic
arithmetic_of Residues q = modulo q
arithmetic_of Binary q = binary q

-- the sizes in which a kind of alphabet is on offer for a kind of code
abbrev pub Size : AlphabetKind → CodeKind → ℕ → Type 0
Size Residues Bare q = ResidueSize q
Size Residues Plane q = PrimeSize q
Size Binary Bare q = BinarySize q
Size Binary Plane q = BinarySize q

-- what a code of the catalog means
abbrev pub code_of : AnyCode → BlockCode
code_of (BareResidues c) = bare (modulo c.alphabet.q) c.cells
code_of (BareBinary c) = bare (binary c.alphabet.q) c.cells
code_of (PlaneResidues c) = plane (with_inverses (modulo c.field.residues.q))
code_of (PlaneBinary c) = plane (with_inverses (binary c.field.q))

abbrev pub meaning_of : Result AnyCode Refusal → Result BlockCode Refusal
meaning_of (Ok code) = Ok (code_of code)
meaning_of (Err refusal) = Err refusal
