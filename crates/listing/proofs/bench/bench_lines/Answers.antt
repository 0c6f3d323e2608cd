use Rattle.std.proofs.Common.{◌≡◌, Ok, true, sym, ap, ◌∙◌, subst, rules}
use Rattle.ledger.specs.Ledger.{done}
use Rattle.listing.specs.Rows.{Fits}
use Rattle.listing.specs.Telling.{Tells}
use Rattle.listing.specs.Serving.{AtTheBench, AtItsOpening, BenchLine}
use Rattle.listing.proofs.Benched.{done_or_refused, told_done, asks_opening, open_benched, other_benched, bench_fits}
use Rattle.listing.proofs.Fitting.{done_fits}
use Rattle.listing.proofs.Gathered.{bench_sound, none_listed, one_listed}
use Rattle.listing.proofs.bench.bench_lines.Goals as goal

pub loop-line-init : goal.loop-line-init
loop-line-init g c = none_listed (AtTheBench g.C.Code.meaning) (bench_sound g.C.Code.meaning g.met.C.Code.lawful) c.args.card.now c.args.run.now

pub tell-requires-clause-fits : goal.tell-requires-clause-fits
tell-requires-clause-fits g c =
    subst Fits (sym (told_done c.bench_line-told.result c.map.result _ c.map.ensures.cases (λ x y p. search rules)))
    (bench_fits g.C.Code.meaning g.met.C.Code.lawful c.args.card.now c.loop-line.card c.bench_line-told.new.card c.args.run.now c.loop-line.run c.in-Some.line.now _ c.requires c.loop-line.invariant c.bench_line-told.ensures)

pub returns-then-opens : goal.returns-then-opens
returns-then-opens g c =
    let r = c.bench_line-told.result in
    let is : r ≡ Ok true = asks_opening _ r (sym c.eq-opens.ensures ∙ c.if-opens.true) in
    let opening = subst (λ k. BenchLine g.C.Code.meaning c.loop-line.card c.in-Some.line.now k c.bench_line-told.new.card) is c.bench_line-told.ensures in
    let same = told_done r c.map.result _ c.map.ensures.cases (λ x y p. search rules) ∙ ap done_or_refused is in
    one_listed (AtTheBench g.C.Code.meaning) (bench_sound g.C.Code.meaning g.met.C.Code.lawful) (AtItsOpening g.C.Code.meaning) c.args.card.now c.loop-line.card c.bench_line-told.new.card c.args.run.now c.loop-line.run c.tell.new.self c.in-Some.line done
    c.loop-line.invariant c.in-Some.ensures (open_benched g.C.Code.meaning c.loop-line.card c.bench_line-told.new.card c.in-Some.line.now opening) done_fits (subst (λ a. Tells c.loop-line.run a c.tell.new.self) same c.in_ok-tell.ensures)

pub loop-line-preserved : goal.loop-line-preserved
loop-line-preserved g c =
    let r = c.bench_line-told.result in
    let At = AtTheBench g.C.Code.meaning in
    let same = told_done r c.map.result _ c.map.ensures.cases (λ x y p. search rules) in
    one_listed At (bench_sound g.C.Code.meaning g.met.C.Code.lawful) At c.args.card.now c.loop-line.card c.bench_line-told.new.card c.args.run.now c.loop-line.run c.tell.new.self c.in-Some.line (done_or_refused r) c.loop-line.invariant c.in-Some.ensures
    (other_benched g.C.Code.meaning _ c.loop-line.card c.bench_line-told.new.card c.in-Some.line.now r (sym c.eq-opens.ensures ∙ c.if-opens.false) c.bench_line-told.ensures)
    (bench_fits g.C.Code.meaning g.met.C.Code.lawful c.args.card.now c.loop-line.card c.bench_line-told.new.card c.args.run.now c.loop-line.run c.in-Some.line.now r c.requires c.loop-line.invariant c.bench_line-told.ensures)
    (subst (λ a. Tells c.loop-line.run a c.tell.new.self) same c.in_ok-tell.ensures)
