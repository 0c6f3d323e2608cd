use Rattle.std.proofs.Common.{rules, ◌≡◌, ◌≢◌, ◌%◌, ℕ}
use Rattle.std.proofs.lemmas.Iterator.{first_from_Range}
use Rattle.alphabet.proofs.Inverting.{inverse_found}
use Rattle.alphabet.proofs.traits.Field.inverse.Goals as goal

pub returns-clause-value : goal.returns-clause-value
returns-clause-value g c =
    let m = g.Self.Alphabet.meaning c.args.self.now in
    let a : ℕ = c.args.a % m.size in
    inverse_found (g.Self.Field.meaning c.args.self.now) (g.met.Self.Field.lawful c.args.self.now) m c.args.a c.size.result c.find.result (g.met.Self.Field.agrees c.args.self.now) c.size.ensures
    (first_from_Range _ _ _ _ (λ x. m.product a (x % m.size) ≡ 1) (λ x. m.product a (x % m.size) ≢ 1) c.find.ensures.ran (λ x q k. search rules) (λ x q k. search rules))
