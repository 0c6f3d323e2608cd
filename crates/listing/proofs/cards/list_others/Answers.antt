use Rattle.std.proofs.Common.{subst}
use Rattle.std.proofs.lemmas.Result.{on_ok_weaker}
use Rattle.listing.specs.Serving.{BenchLines}
use Rattle.listing.proofs.Opened.{opened_in_use, others_served}
use Rattle.listing.proofs.cards.list_others.Goals as goal

pub serve_lines-requires : goal.serve_lines-requires
serve_lines-requires g c =
    let opened = subst (λ k. BenchLines g.C.Code.meaning c.args.bench c.args.run.now k c.bench_lines.new.card c.bench_lines.new.run) c.if-not-branch.false c.in_ok-bench_lines.ensures in
    opened_in_use g.C.Code.meaning c.args.room c.args.bench c.bench_lines.new.card c.open-card.result c.args.run.now c.bench_lines.new.run c.requires.used c.requires.room opened c.open-card.ensures.opens

pub returns : goal.returns
returns g c =
    let opened = subst (λ k. BenchLines g.C.Code.meaning c.args.bench c.args.run.now k c.bench_lines.new.card c.bench_lines.new.run) c.if-not-branch.false c.in_ok-bench_lines.ensures in
    on_ok_weaker c.serve_lines.result
    (others_served g.C.Code.meaning g.met.C.Code.lawful c.args.room c.args.bench c.bench_lines.new.card c.open-card.result c.serve_lines.new.card c.args.run.now c.bench_lines.new.run c.serve_lines.new.run c.requires.room opened c.open-card.ensures.opens)
    c.serve_lines.ensures
