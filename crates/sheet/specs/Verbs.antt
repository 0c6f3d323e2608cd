-- The verbs: their names in the first four bytes of a line, and how many fields follow each. Assumes nothing.
use Rattle.std.specs.Prelude.{◌≡◌, ℕ, ◌/◌, ◌%◌, ◌≤◌, Bool, true, false, List, take, drop, Some, None, codes, Option, ◌≢◌}
use Rattle.std.specs.Borrow.{Bor}
use Rattle.sheet.specs.declared.verbs.Verb.{Verb}
use Rattle.sheet.specs.declared.verbs.Verb.TheVariants.{Card, Floor, Worn, Move, Open, Read, Same, Save}

abbrev pub name : Verb → List ℕ
name Card = codes "CARD"
name Floor = codes "FLOR"
name Worn = codes "WORN"
name Move = codes "MOVE"
name Open = codes "OPEN"
name Read = codes "READ"
name Same = codes "SAME"
name Save = codes "SAVE"

-- the verb is the one in the first four bytes, and the rest follows; None where no verb stands there
abbrev pub Begins : List ℕ → Option (Verb × Bor (List ℕ)) → Type 0
Begins line (Some p) = (take 4 line ≡ name p.0) × (p.1.now ≡ drop 4 line)
Begins line None = (v : Verb) → take 4 line ≢ name v

-- a verb takes so many fields
abbrev pub Takes : Verb → ℕ → Type 0
Takes Card fields = fields ≡ 6
Takes Floor fields = fields ≡ 3
Takes Worn fields = fields ≡ 3
Takes Move fields = fields ≡ 3
Takes Open fields = fields ≡ 0
Takes Read fields = fields ≡ 1
Takes Same fields = fields ≡ 2
Takes Save fields = 1 ≤ fields

-- so many bytes after the verb are whole fields, as many as it takes
abbrev pub Counted : Verb → ℕ → Type 0
Counted v bytes = (bytes % 4 ≡ 0) × Takes v (bytes / 4)

-- the answer is true where P holds, and false where it does not
abbrev pub Tells : Bool → Type 0 → Type 0
Tells true P = P
Tells false P = P → ⊥
