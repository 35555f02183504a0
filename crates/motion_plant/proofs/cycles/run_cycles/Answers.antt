-- No cycle so far.
use Rattle.std.proofs.Common.{ℕ, sym, subst, arith}
use Rattle.motion_plant.specs.Cycling.{IsCycling}
use Rattle.motion_plant.proofs.CycleSteps.{cycling_first}
use Rattle.motion_plant.proofs.cycles.run_cycles.Goals as goal

pub loop-init : goal.loop-init
loop-init g c =
    let none = c.requires.fresh.2 in
    let lines = c.args.lines.now.items in
    record {
      cycling = subst (λ (n : ℕ). IsCycling c.args.permit.now lines n c.args.permit.now lines) (sym none)
          (cycling_first c.args.permit.now lines c.requires.fresh.0 c.requires.fresh.1
          c.requires.width.0);
      ins = c.requires.width.1;
      outs = c.requires.width.2;
      most = c.requires.few.1;
      few = omega arith;
    }
