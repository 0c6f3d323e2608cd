use Rattle.std.proofs.Common.{ap, ◌∙◌, subst, ◌≡◌, ℕ, ◌*◌, ◌≢◌}
use Rattle.std.proofs.lemmas.Result.{err_from_is_err_and}
use Rattle.catalog.specs.declared.kinds.AlphabetKind.TheVariants.{Residues, Binary}
use Rattle.catalog.specs.declared.kinds.CodeKind.TheVariants.{Plane}
use Rattle.catalog.specs.Offers.{no_size, no_plane_length}
use Rattle.catalog.proofs.Offering.{plane_offered}
use Rattle.catalog.proofs.wanted.choose_plane.Goals as goal

pub returns-in_err-new-in-Residues : goal.returns-in_err-new-in-Residues
returns-in_err-new-in-Residues c =
    let p = err_from_is_err_and c.from_residual.result c.from_residual.ensures.1 in
    let h = c.in_err-new-in-Residues.ensures in
    rw (c.in-Residues.is, p.1, p.2, h.0) (no_size Plane h.1)

pub returns-in_err-square-in-Residues : goal.returns-in_err-square-in-Residues
returns-in_err-square-in-Residues c =
    let p = err_from_is_err_and c.from_residual-in_err-square-in-Residues.result c.from_residual-in_err-square-in-Residues.ensures.1 in
    let h = c.in_err-square-in-Residues.ensures in
    let made = c.in_ok-new-in-Residues.ensures in
    rw (c.in-Residues.is, p.1, p.2, h.0) (no_plane_length made.1 (subst (λ (k : ℕ). c.args.n ≢ k * k) made.0 h.1))

pub returns-in_ok-square-in-Residues : goal.returns-in_ok-square-in-Residues
returns-in_ok-square-in-Residues c =
    let made = c.in_ok-new-in-Residues.ensures in
    let code = c.in_ok-square-in-Residues.ensures in
    rw c.in-Residues.is (plane_offered Residues c.args.q c.args.n _ (ap (λ f. f.residues.q) code.0 ∙ made.0) (subst (λ (k : ℕ). c.args.n ≡ k * k) made.0 code.1) made.1)

pub returns-in_err-new-in-Binary : goal.returns-in_err-new-in-Binary
returns-in_err-new-in-Binary c =
    let p = err_from_is_err_and c.from_residual-in_err-new-in-Binary.result c.from_residual-in_err-new-in-Binary.ensures.1 in
    let h = c.in_err-new-in-Binary.ensures in
    rw (c.in-Binary.is, p.1, p.2, h.0) (no_size Plane h.1)

pub returns-in_err-square-in-Binary : goal.returns-in_err-square-in-Binary
returns-in_err-square-in-Binary c =
    let p = err_from_is_err_and c.from_residual-in_err-square-in-Binary.result c.from_residual-in_err-square-in-Binary.ensures.1 in
    let h = c.in_err-square-in-Binary.ensures in
    let made = c.in_ok-new-in-Binary.ensures in
    rw (c.in-Binary.is, p.1, p.2, h.0) (no_plane_length made.1 (subst (λ (k : ℕ). c.args.n ≢ k * k) made.0 h.1))

pub returns-in_ok-square-in-Binary : goal.returns-in_ok-square-in-Binary
returns-in_ok-square-in-Binary c =
    let made = c.in_ok-new-in-Binary.ensures in
    let code = c.in_ok-square-in-Binary.ensures in
    rw c.in-Binary.is (plane_offered Binary c.args.q c.args.n _ (ap (λ f. f.q) code.0 ∙ made.0) (subst (λ (k : ℕ). c.args.n ≡ k * k) made.0 code.1) made.1)
