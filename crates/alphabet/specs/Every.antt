-- A rule of all symbols, shown by one test that antt computes at each of them. Assumes nothing.
use Rattle.std.specs.Prelude.{◌≡◌, ℕ, zero, suc, ◌<◌, Bool, true, false, ◌&&◌, ◌||◌, refl}
use Rattle.std.proofs.lemmas.Bool.Decides.{Decides-below_and, Decides-below_or}

-- the test passes at each number below n
abbrev pub every : ℕ → (ℕ → Bool) → Bool
every zero test = true
every (suc n) test = test n && every n test

-- the test passes at some number below n
abbrev pub any : ℕ → (ℕ → Bool) → Bool
any zero test = false
any (suc n) test = test n || any n test

abbrev pub pairs : ℕ → (ℕ → ℕ → Bool) → Bool
pairs n test = every n (λ a. every n (test a))

abbrev pub triples : ℕ → (ℕ → ℕ → ℕ → Bool) → Bool
triples n test = every n (λ a. pairs n (test a))

pub at : (n : ℕ) (test : ℕ → Bool) → every n test ≡ true → (a : ℕ) → a < n → test a ≡ true
at n test t = (Decides-below_and test (λ a. test a ≡ true) (λ k. every k test) (λ a. ((λ e. e), λ e. e)) refl (λ _. refl) n).0 t

pub any_at : (n : ℕ) (test : ℕ → Bool) → any n test ≡ true → (a : ℕ) × (a < n) × (test a ≡ true)
any_at n test t = (Decides-below_or test (λ a. test a ≡ true) (λ k. any k test) (λ a. ((λ e. e), λ e. e)) refl (λ _. refl) n).0 t

pub at_pair : (n : ℕ) (test : ℕ → ℕ → Bool) → pairs n test ≡ true → (a b : ℕ) → a < n → b < n → test a b ≡ true
at_pair n test t a b ha hb = at n (test a) (at n (λ x. every n (test x)) t a ha) b hb

pub at_triple : (n : ℕ) (test : ℕ → ℕ → ℕ → Bool) → triples n test ≡ true → (a b c : ℕ) → a < n → b < n → c < n → test a b c ≡ true
at_triple n test t a b c ha hb hc = at_pair n (test a) (at n (λ x. pairs n (test x)) t a ha) b c hb hc
