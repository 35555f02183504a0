-- The end of a task is one more entry.
use Rattle.std.proofs.Common.{sym, arith, subst, length, ◌<◌}
use Rattle.std.specs.Prelude.{refl}
use Rattle.motion_history.specs.Entries.{end_of}
use Rattle.motion_kernel.specs.Segments.{SegmentedState}
use Rattle.motion_kernel.proofs.kept.Segmented.{segmented_more}
use Rattle.motion_kernel.proofs.segmented.SegmentedKernel.end.Goals as goal

pub invariant_of-self : goal.invariant_of-self
invariant_of-self c =
    let k = c.self.inside in
    let room = subst (λ (x : SegmentedState). length x.history < x.config.entries) (sym c.self.view_is) c.requires.room in
    let task = subst (λ (x : SegmentedState). c.args.task < length x.config.tasks) (sym c.self.view_is) c.requires.task in
    segmented_more c.cycles_add_up.ensures.more k (record k { segment = record k.segment { history = c.record_end.new.self } }) (end_of c.args.task) c.self.invariant refl refl
    c.record_end.ensures c.self.invariant.places refl task c.self.invariant.machine c.self.invariant.owners room (let h = c.self.invariant.legal.cycles in omega arith)
