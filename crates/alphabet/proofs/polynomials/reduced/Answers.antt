use Rattle.std.proofs.Common.{ℕ, ◌+◌, ◌*◌, [], ◌∷◌, ◌∙◌, one-mul, rules}
use Rattle.std.proofs.lemmas.Iterator.{YieldsList-from_slice}
use Rattle.std.proofs.lemmas.Iterator.Consumers.{fold_from_yields_List}
use Rattle.alphabet.specs.Binary.{reduced_once, reduced}
use Rattle.alphabet.proofs.polynomials.reduced.Goals as goal

pub returns : goal.returns
unfolding reduced
returns c =
    let q : ℕ = c.args.q in
    let h : ℕ → ℕ → ℕ = λ left k. reduced_once (k * q) (k * (q + 3)) left in
    fold_from_yields_List _ h c.args.n c.fold.result c.fold.ensures.ran (YieldsList-from_slice (4 ∷ 2 ∷ 1 ∷ []) cc) (λ left k r f s. search rules)
    ∙ simp one-mul
