-- What the laws of an alphabet give: a symbol added can be taken off again. Assumes nothing.
use Rattle.std.proofs.Common.{◌≡◌, ℕ, suc, ◌%◌, ◌<◌, List, [], ◌∷◌, map, length, get_or, sym, refl, ap, ◌∙◌, ap₂, mod-eq_of_lt, arith}
use Rattle.alphabet.specs.Arithmetic.{Arithmetic, Lawful}
use Rattle.code.specs.Words.{first, rest}

module _ (m : Arithmetic) (laws : Lawful m) where
  pub zero_below : 0 < m.size
  zero_below = omega (arith, laws.two)

  pub zero_sum : (a : ℕ) → a < m.size → m.sum 0 a ≡ a
  zero_sum a l = laws.sum_comm 0 a zero_below l ∙ laws.sum_zero a l

  pub negative_sum : (a : ℕ) → a < m.size → m.sum (m.negative a) a ≡ 0
  negative_sum a l = laws.sum_comm (m.negative a) a (laws.negative_below a l) l ∙ laws.sum_negative a l

  pub undone : (a b : ℕ) → a < m.size → b < m.size → m.sum (m.negative a) (m.sum a b) ≡ b
  undone a b k l = sym (laws.sum_assoc (m.negative a) a b (laws.negative_below a k) k l) ∙ ap (λ x. m.sum x b) (negative_sum a k) ∙ zero_sum b l

  pub redone : (a b : ℕ) → a < m.size → b < m.size → m.sum a (m.sum (m.negative a) b) ≡ b
  redone a b k l = sym (laws.sum_assoc a (m.negative a) b k (laws.negative_below a k) l) ∙ ap (λ x. m.sum x b) (laws.sum_negative a k) ∙ zero_sum b l

  pub cancelled : (a b c : ℕ) → a < m.size → b < m.size → c < m.size → m.sum a b ≡ m.sum a c → b ≡ c
  cancelled a b c j k l e = sym (undone a b j k) ∙ ap (m.sum (m.negative a)) e ∙ undone a c j l

  pub moved : (a b c : ℕ) → a < m.size → b < m.size → c < m.size → m.sum (m.sum a b) c ≡ m.sum (m.sum a c) b
  moved a b c j k l = laws.sum_assoc a b c j k l ∙ ap (m.sum a) (laws.sum_comm b c k l) ∙ sym (laws.sum_assoc a c b j l k)

-- what an alphabet answers for symbols, in a meaning that agrees with its own
pub sum_is : (m n : Arithmetic) (a b r : ℕ) → m ≡ n → a < n.size → b < n.size → r ≡ m.sum (a % m.size) (b % m.size) → r ≡ n.sum a b
sum_is m n a b r agrees ha hb is = is ∙ ap (λ k. k.sum (a % k.size) (b % k.size)) agrees ∙ ap₂ n.sum (mod-eq_of_lt ha) (mod-eq_of_lt hb)

pub negative_is : (m n : Arithmetic) (a r : ℕ) → m ≡ n → a < n.size → r ≡ m.negative (a % m.size) → r ≡ n.negative a
negative_is m n a r agrees ha is = is ∙ ap (λ k. k.negative (a % k.size)) agrees ∙ ap n.negative (mod-eq_of_lt ha)

-- maps over lists of symbols
pub map_once : (q : ℕ) (f : ℕ → ℕ) → ((x y : ℕ) → x < q → y < q → f x ≡ f y → x ≡ y) → (xs ys : List ℕ) → length xs ≡ length ys
    → ((i : ℕ) → i < length xs → get_or xs i 0 < q) → ((i : ℕ) → i < length ys → get_or ys i 0 < q) → map f xs ≡ map f ys → xs ≡ ys
map_once q f once [] [] e k l s = refl
map_once q f once [] (y ∷ ys) e k l s = absurd (omega arith)
map_once q f once (x ∷ xs) [] e k l s = absurd (omega arith)
map_once q f once (x ∷ xs) (y ∷ ys) e k l s =
    let here : x ≡ y = once x y (k 0 (omega arith)) (l 0 (omega arith)) (ap first s) in
    let more : xs ≡ ys = map_once q f once xs ys (omega arith) (λ i h. k (suc i) (omega arith)) (λ i h. l (suc i) (omega arith)) (ap rest s) in
    cc

pub map_after : (q : ℕ) (f g h : ℕ → ℕ) → ((x : ℕ) → x < q → f (g x) ≡ h x) → (xs : List ℕ) → ((i : ℕ) → i < length xs → get_or xs i 0 < q) → map f (map g xs) ≡ map h xs
map_after q f g h e [] l = refl
map_after q f g h e (x ∷ xs) l =
    let here : f (g x) ≡ h x = e x (l 0 (omega arith)) in
    let more : map f (map g xs) ≡ map h xs = map_after q f g h e xs (λ i k. l (suc i) (omega arith)) in
    cc
