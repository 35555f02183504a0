-- Command by command.
use Rattle.std.proofs.Common.{arith, sym}
use Rattle.command_pool.specs.Waiting.{queue_of}
use Rattle.segment_text.proofs.HeaderLaws.{all_put, no_lines_put, none_left, waiting_put}
use Rattle.segment_text.proofs.writing.header.push_list.Goals as goal

pub loop-place-init : goal.loop-place-init
loop-place-init c = no_lines_put _

pub returns-in-None : goal.returns-in-None
returns-in-None c = all_put _ _ (queue_of c.args.start.now.queues c.args.list) c.loop-place.place (sym c.in-None.ensures) c.loop-place.invariant

pub returns : goal.returns
returns c =
    let count = c.waiting_count-place-end.ensures.count in
    none_left _ _ (queue_of c.args.start.now.queues c.args.list) c.loop-place.place (omega (arith, count, c.loop-place-test.false)) c.loop-place.invariant

pub loop-place-preserved : goal.loop-place-preserved
loop-place-preserved c =
    waiting_put _ _ _ (queue_of c.args.start.now.queues c.args.list) c.loop-place.place _ (sym c.in-Some.ensures) c.loop-place.invariant c.in_ok-push_waiting-in-Some.ensures
