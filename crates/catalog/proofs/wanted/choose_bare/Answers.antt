use Rattle.std.proofs.Common.{ap, ◌∙◌}
use Rattle.std.proofs.lemmas.Result.{err_from_is_err_and}
use Rattle.catalog.specs.declared.kinds.AlphabetKind.TheVariants.{Residues, Binary}
use Rattle.catalog.specs.declared.kinds.CodeKind.TheVariants.{Bare}
use Rattle.catalog.specs.Offers.{no_size, no_bare_length}
use Rattle.catalog.proofs.Offering.{bare_offered}
use Rattle.catalog.proofs.wanted.choose_bare.Goals as goal

pub returns-in_err-new-in-Residues : goal.returns-in_err-new-in-Residues
returns-in_err-new-in-Residues c =
    let p = err_from_is_err_and c.from_residual.result c.from_residual.ensures.1 in
    let h = c.in_err-new-in-Residues.ensures in
    rw (c.in-Residues.is, p.1, p.2, h.0) (no_size Bare h.1)

pub returns-in_err-new-in-Residues-2 : goal.returns-in_err-new-in-Residues-2
returns-in_err-new-in-Residues-2 c =
    let p = err_from_is_err_and c.from_residual-in_err-new-in-Residues-2.result c.from_residual-in_err-new-in-Residues-2.ensures.1 in
    let h = c.in_err-new-in-Residues-2.ensures in
    rw (c.in-Residues.is, p.1, p.2, h.0) (no_bare_length c.in_ok-new-in-Residues.ensures.1 h.1)

pub returns-in_ok-new-in-Residues-2 : goal.returns-in_ok-new-in-Residues-2
returns-in_ok-new-in-Residues-2 c =
    let made = c.in_ok-new-in-Residues.ensures in
    let code = c.in_ok-new-in-Residues-2.ensures in
    rw c.in-Residues.is (bare_offered Residues c.args.q c.args.n c.in_ok-new-in-Residues-2.field-0.alphabet.q c.in_ok-new-in-Residues-2.field-0.cells (ap (λ a. a.q) code.0 ∙ made.0) code.1 made.1 c.in_ok-new-in-Residues-2.field-0.long c.in_ok-new-in-Residues-2.field-0.short)

pub returns-in_err-new-in-Binary : goal.returns-in_err-new-in-Binary
returns-in_err-new-in-Binary c =
    let p = err_from_is_err_and c.from_residual-in_err-new-in-Binary.result c.from_residual-in_err-new-in-Binary.ensures.1 in
    let h = c.in_err-new-in-Binary.ensures in
    rw (c.in-Binary.is, p.1, p.2, h.0) (no_size Bare h.1)

pub returns-in_err-new-in-Binary-2 : goal.returns-in_err-new-in-Binary-2
returns-in_err-new-in-Binary-2 c =
    let p = err_from_is_err_and c.from_residual-in_err-new-in-Binary-2.result c.from_residual-in_err-new-in-Binary-2.ensures.1 in
    let h = c.in_err-new-in-Binary-2.ensures in
    rw (c.in-Binary.is, p.1, p.2, h.0) (no_bare_length c.in_ok-new-in-Binary.ensures.1 h.1)

pub returns-in_ok-new-in-Binary-2 : goal.returns-in_ok-new-in-Binary-2
returns-in_ok-new-in-Binary-2 c =
    let made = c.in_ok-new-in-Binary.ensures in
    let code = c.in_ok-new-in-Binary-2.ensures in
    rw c.in-Binary.is (bare_offered Binary c.args.q c.args.n c.in_ok-new-in-Binary-2.field-0.alphabet.q c.in_ok-new-in-Binary-2.field-0.cells (ap (λ a. a.q) code.0 ∙ made.0) code.1 made.1 c.in_ok-new-in-Binary-2.field-0.long c.in_ok-new-in-Binary-2.field-0.short)
