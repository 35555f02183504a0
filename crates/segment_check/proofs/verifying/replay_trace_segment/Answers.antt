-- The verdict by the replay.
use Rattle.std.proofs.Common.{◌∙◌, ap}
use Rattle.motion_kernel.specs.Segments.{SegmentedState}
use Rattle.trace_check.specs.declared.replaying.Replayed.TheVariants as replay
use Rattle.segment_check.proofs.Heads.{by_replay, found_legal}
use Rattle.segment_check.proofs.verifying.replay_trace_segment.Goals as goal

pub returns-in_ok-header_behind-in-Legal : goal.returns-in_ok-header_behind-in-Legal
returns-in_ok-header_behind-in-Legal c =
    let told = rw c.in-Legal.is at c.in_ok-kernel.ensures.replay in
    let before = rw c.in-Legal.is at c.in_ok-kernel.ensures.before in
    let by = by_replay c.args.trace_segment.now c.args.kernel (replay.Legal c.in-Legal.kernel) c.requires.begun told in
    found_legal c.args.trace_segment.now c.in-Legal.kernel c.entries.result _ c.requires.may by c.entries.ensures.count
    (before ∙ ap (λ (k : SegmentedState). k.before) c.requires.begun) c.in_ok-header_behind-in-Legal.ensures

pub returns-in-IllegalAt : goal.returns-in-IllegalAt
returns-in-IllegalAt c =
    let told = rw c.in-IllegalAt.is at c.in_ok-kernel.ensures.replay in
    let by = by_replay c.args.trace_segment.now c.args.kernel (replay.IllegalAt c.in-IllegalAt.difference) c.requires.begun told in
    (c.requires.may, by.0, by.1)
