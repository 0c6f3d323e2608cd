-- What a run tells of a page, from its calls, their answers and the levels alone: the last message, and the cells that the save
-- forced or a note moved since, each once. The message and the spent cells that a ledger keeps for itself play no part. Assumes nothing.
use Rattle.std.specs.Prelude.{◌≡◌, ℕ, ◌+◌, Bool, true, false, cond, not, ◌||◌, List, [], ◌∷◌, ◌==◌}
use Rattle.code.specs.Words.{Carries, mask_of}
use Rattle.ledger.specs.Ledger.{Made, Page, page_of, BenchCall, Call, save, read, compare, wear, drift, Answer, done, stored, found, compared, refused, Step, InService}

-- how many cells are marked
abbrev pub marked : List Bool → ℕ
marked [] = 0
marked (b ∷ bs) = cond b 1 0 + marked bs

-- the cells in which two words differ
abbrev pub differing : List ℕ → List ℕ → List Bool
differing [] ys = []
differing (x ∷ xs) [] = []
differing (x ∷ xs) (y ∷ ys) = not (x == y) ∷ differing xs ys

-- the cells marked in one list or the other
abbrev pub either : List Bool → List Bool → List Bool
either [] ys = []
either (a ∷ xs) [] = a ∷ xs
either (a ∷ xs) (b ∷ ys) = (a || b) ∷ either xs ys

-- a call and its answer grant a save to the page
abbrev pub is_stored : Answer → Bool
is_stored done = false
is_stored (stored mask forced) = true
is_stored (found corrected m) = false
is_stored (compared same) = false
is_stored (refused n a b) = false

abbrev pub grants : (page : ℕ) → Call → Answer → Bool
grants p (save r m) a = cond (r == p) (is_stored a) false
grants p (read r n) a = false
grants p (compare r s) a = false
grants p (wear r c v) a = false
grants p (drift r c v) a = false

-- none of these calls granted a save to the page
abbrev pub never_granted : (page : ℕ) → List (Call × Answer) → Bool
never_granted p [] = true
never_granted p (x ∷ past) = cond (grants p x.0 x.1) false (never_granted p past)

-- the last message granted to the page, and the cells that were forced at its save or whose level a call changed since.
-- The forced cells are those that hold another level than the code word of the message and the mask answered.
pub data LastSaved (made : Made) (bench : List (BenchCall × Answer)) (p : ℕ) : List (Call × Answer) → List Page → (message : List ℕ) (changed : List Bool) → Type 0 where
  at_save : (past : List (Call × Answer)) (l l' : List Page) (m : List ℕ) (mask forced : ℕ) (carrier : List ℕ)
      → InService made bench past l → Step made l (save p m) (stored mask forced) l' → Carries made.code carrier m → mask_of made.code carrier ≡ mask
      → LastSaved made bench p ((save p m, stored mask forced) ∷ past) l' m (differing (page_of made l' p).levels carrier)
  since : (past : List (Call × Answer)) (l l' : List Page) (call : Call) (a : Answer) (m : List ℕ) (changed : List Bool)
      → LastSaved made bench p past l m changed → Step made l call a l' → grants p call a ≡ false
      → LastSaved made bench p ((call, a) ∷ past) l' m (either changed (differing (page_of made l p).levels (page_of made l' p).levels))
