-- The rows of a word, cut out of it. Assumes nothing.
use Rattle.std.proofs.Common.{◌≡◌, ℕ, ◌+◌, ◌-◌, ◌*◌, ◌<◌, List, length, drop, get_or, ap₂, ◌∙◌, arith}
use Rattle.std.specs.List.{slice_range}
use Rattle.std.proofs.lemmas.List.{length-take, get_or-take, get_or-drop}

-- q cells are q at most
pub cut_below : (word : List ℕ) (start q b : ℕ) → b < length (slice_range word start (start + q)) → b < q
cut_below word start q b h = omega (arith, length-take (start + q - start) (drop start word))

-- the cell b of row a
pub row_level : (word : List ℕ) (size a b q i : ℕ) → q ≡ size → i ≡ a → b < q → get_or (slice_range word (q * i) (q * i + q)) b 0 ≡ get_or word (size * a + b) 0
row_level word size a b q i same row h =
    get_or-take (q * i + q - q * i) _ b 0 (omega arith) ∙ get_or-drop (q * i) word b 0 ∙ ap₂ (λ (j k : ℕ). get_or word (j * k + b) 0) same row
