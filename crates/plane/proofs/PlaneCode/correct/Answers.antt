use Rattle.std.proofs.Common.{refl, inl, inr}
use Rattle.plane.proofs.Fields.{fit, found_inverts, never_none, already, too_far}
use Rattle.plane.proofs.PlaneCode.correct.Goals as goal

pub returns-then-sums-eq0-3 : goal.returns-then-sums-eq0-3
returns-then-sums-eq0-3 g c =
    let field = c.args.self.now.field in
    already (g.F.Field.meaning field) (g.met.F.Field.lawful field) (g.F.Alphabet.meaning field) (g.met.F.Field.agrees field)
    c.length.result c.size.result c.args.word.now c.length.ensures c.size.ensures c.in_ok-check_word.ensures c.sums-sums.result c.sums-sums.ensures
    c.if-sums-eq0.true c.if-sums-eq0-2.true c.if-sums-eq0-3.true

pub returns-else-sums-eq0-2 : goal.returns-else-sums-eq0-2
returns-else-sums-eq0-2 g c =
    let field = c.args.self.now.field in
    let far = too_far (g.F.Field.meaning field) (g.met.F.Field.lawful field) (g.F.Alphabet.meaning field) (g.met.F.Field.agrees field)
    c.length.result c.size.result c.args.word.now c.length.ensures c.size.ensures c.in_ok-check_word.ensures c.sums-sums.result c.sums-sums.ensures
    c.if-sums-eq0.true (λ p q. elim c.else-sums-eq0-2.either [ inl w ↦ w.1 q | inr n ↦ n p ]) in (far, refl {a = c.args.word.now})

pub mend-requires : goal.mend-requires
mend-requires g c =
    let field = c.args.self.now.field in
    record {
      fit = fit (g.F.Field.meaning field) (g.met.F.Field.lawful field) (g.F.Alphabet.meaning field) (g.met.F.Field.agrees field)
          c.length.result c.size.result c.args.word.now c.length.ensures c.size.ensures c.in_ok-check_word.ensures c.sums-sums.result c.sums-sums.ensures;
      summed = c.sums-sums.ensures;
      inverts = found_inverts (g.F.Field.meaning field) (g.met.F.Field.lawful field) (g.F.Alphabet.meaning field) (g.met.F.Field.agrees field)
          c.length.result c.size.result c.args.word.now c.length.ensures c.size.ensures c.in_ok-check_word.ensures c.sums-sums.result c.sums-sums.ensures
          c.in-Some.inverse c.if-sums-eq0.false c.in-Some.ensures.value;
    }

pub unreachable-requires : goal.unreachable-requires
unreachable-requires g c =
    let field = c.args.self.now.field in
    never_none (g.F.Field.meaning field) (g.met.F.Field.lawful field) (g.F.Alphabet.meaning field) (g.met.F.Field.agrees field)
    c.length.result c.size.result c.args.word.now c.length.ensures c.size.ensures c.in_ok-check_word.ensures c.sums-sums.result c.sums-sums.ensures
    c.if-sums-eq0.false c.in_default.ensures.value
