-- One round after another, and then the end.
use Rattle.std.proofs.Common.{◌∙◌, ◌∷◌, ◌++◌, [], ap, arith}
use Rattle.bench_text.specs.declared.bench.BenchLine.TheVariants.{End}
use Rattle.load_job.specs.Load.{lines_of}
use Rattle.load_job.proofs.LoadLaws.{rounds-more, rounds-none}
use Rattle.load_job.proofs.generating.lines_from.Goals as goal

pub loop-preserved : goal.loop-preserved
loop-preserved c =
    let lt = c.loop-test.true in
    record {
      rounds = rounds-more c.loop.lines.items _ 2000 c.loop.counter c.loop.draws.state _ lt c.draw_round.ensures.state
          (c.in_ok-push_round.ensures ∙ ap (λ r. c.loop.lines.items ++ lines_of r) c.draw_round.ensures.round)
          ∙ c.loop.invariant.rounds;
      within = omega (arith, lt);
    }

pub returns : goal.returns
returns c =
    let past = c.loop-test.false in
    let within = c.loop.invariant.within in
    c.in_ok-push.ensures.items
    ∙ ap (λ ls. ls ++ End 0 ∷ []) (rounds-none c.loop.lines.items _ 2000 c.loop.counter c.loop.draws.state (omega (arith, past)) c.loop.invariant.rounds)
