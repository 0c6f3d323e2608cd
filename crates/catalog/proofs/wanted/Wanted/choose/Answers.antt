use Rattle.std.proofs.Common.{sym, refl, ap, ◌∙◌}
use Rattle.std.proofs.lemmas.Result.{err_from_is_err_and}
use Rattle.catalog.specs.declared.kinds.CodeKind.TheVariants.{Bare, Plane}
use Rattle.catalog.specs.Kinds.{code_number}
use Rattle.catalog.specs.Offers.{no_code_kind, of_kinds}
use Rattle.catalog.proofs.wanted.Wanted.choose.Goals as goal

pub returns-in_err-code : goal.returns-in_err-code
returns-in_err-code c =
    let p = err_from_is_err_and c.from_residual-in_err-code.result c.from_residual-in_err-code.ensures.1 in
    let h = c.in_err-code.ensures in
    rw (p.1, p.2, h.0) (no_code_kind c.in_ok-alphabet.alphabet c.in_ok-alphabet.ensures h.1 refl)

pub returns-in-Bare : goal.returns-in-Bare
returns-in-Bare c =
    of_kinds c.in_ok-alphabet.alphabet Bare c.in_ok-alphabet.ensures (ap code_number (sym c.in-Bare.is) ∙ c.in_ok-code.ensures) c.choose_bare.ensures

pub returns-in-Plane : goal.returns-in-Plane
returns-in-Plane c =
    of_kinds c.in_ok-alphabet.alphabet Plane c.in_ok-alphabet.ensures (ap code_number (sym c.in-Plane.is) ∙ c.in_ok-code.ensures) c.choose_plane.ensures
