-- What was started has stood still until it is joined, and the close gives the whole.
use Rattle.std.proofs.Common.{length, ap, ◌∙◌, sym, arith, subst, rules}
use Rattle.atomic_table.specs.Seated.{TableId}
use Rattle.kernel_turn.specs.PermitState.{PermitState}
use Rattle.motion_plant.specs.Joined.{IsSeated}
use Rattle.motion_plant.specs.Lines.{ended_line}
use Rattle.motion_plant.specs.Makers.{IsUpTo, Owns}
use Rattle.motion_plant.specs.Places.{Each}
use Rattle.motion_history.specs.Setup.{Setup}
use Rattle.motion_plant.proofs.AllJoined.{joined_both}
use Rattle.motion_plant.proofs.Lists.{length_map}
use Rattle.motion_plant.proofs.Meets.{meets, seats_still, still_started}
use Rattle.motion_plant.proofs.finish.run_started.Goals as goal

pub finish_drives-requires-clause-started : goal.finish_drives-requires-clause-started
finish_drives-requires-clause-started g c κs within =
    let s = c.stop_if_over.ensures.stopped c.args.opened.permit c.args.jobs.lines.items
    c.run_cycles-ending.new.lines.items c.run_cycles-ending.ensures.cycled in
    still_started c.args.spawner.now.jobs c.args.jobs.base c.args.jobs.lines.items
    c.run_cycles-ending.new.lines.items c.end_all.new.lines.items c.requires.started.0 s.jobs
    c.end_all.ensures.ended

pub finish_tasks-requires-clause-own : goal.finish_tasks-requires-clause-own
finish_tasks-requires-clause-own g c κs within =
    let s = c.stop_if_over.ensures.stopped c.args.opened.permit c.args.jobs.lines.items
    c.run_cycles-ending.new.lines.items c.run_cycles-ending.ensures.cycled in (
      ap (λ (p : PermitState). p.table) s.kept ∙ c.requires.own.0 ∙ sym c.deref-3.ensures,
      ap (λ (p : PermitState). p.opening) s.kept ∙ c.requires.own.1,
      s.out ∙ c.requires.own.3,
    )

pub finish_tasks-requires-clause-seats : goal.finish_tasks-requires-clause-seats
finish_tasks-requires-clause-seats g c κs within =
    let s = c.stop_if_over.ensures.stopped c.args.opened.permit c.args.jobs.lines.items
    c.run_cycles-ending.new.lines.items c.run_cycles-ending.ensures.cycled in
    subst (λ (t : TableId). Each (IsSeated t c.stop_if_over.new.permit.config)
    c.args.jobs.seats.items) (sym c.deref-3.ensures)
    (seats_still _ _ _ _ (sym (ap (λ (p : PermitState). p.config) s.kept)) c.requires.seats)

pub finish_tasks-requires-clause-owns : goal.finish_tasks-requires-clause-owns
finish_tasks-requires-clause-owns g c κs within =
    let s = c.stop_if_over.ensures.stopped c.args.opened.permit c.args.jobs.lines.items
    c.run_cycles-ending.new.lines.items c.run_cycles-ending.ensures.cycled in
    subst (λ (t : Setup). Owns (IsUpTo t 0) c.stop_if_over.new.permit.own
    c.stop_if_over.new.permit.seen) (sym (ap (λ (p : PermitState). p.config) s.kept)) s.owns

pub close-kernel-requires-clause-opening : goal.close-kernel-requires-clause-opening
close-kernel-requires-clause-opening g c =
    let s = c.stop_if_over.ensures.stopped c.args.opened.permit c.args.jobs.lines.items
    c.run_cycles-ending.new.lines.items c.run_cycles-ending.ensures.cycled in
    ap (λ (p : PermitState). p.opening) c.finish_tasks.ensures.joined.kept ∙
    ap (λ (p : PermitState). p.opening) s.kept ∙ c.requires.own.1

pub close-kernel-requires-clause-alone : goal.close-kernel-requires-clause-alone
close-kernel-requires-clause-alone g c =
    let s = c.stop_if_over.ensures.stopped c.args.opened.permit c.args.jobs.lines.items
    c.run_cycles-ending.new.lines.items c.run_cycles-ending.ensures.cycled in
    let a = c.finish_tasks.ensures.joined.out in
    let b = s.out in
    let d = c.requires.own.3 in
    omega arith

pub returns-clause-meets : goal.returns-clause-meets
returns-clause-meets g c =
    let s = c.stop_if_over.ensures.stopped c.args.opened.permit c.args.jobs.lines.items
    c.run_cycles-ending.new.lines.items c.run_cycles-ending.ensures.cycled in
    let l = c.finish_drives.ensures.logs in
    let n = ap length c.end_all.ensures.ended ∙
    length_map ended_line c.run_cycles-ending.new.lines.items in
    meets c.args.opened.permit c.stop_if_over.new.permit c.finish_tasks.new.permit _ c.args.jobs.lines.items
    c.run_cycles-ending.new.lines.items c.end_all.new.lines.items c.run_cycles-ending.result
    c.finish_drives.new.logs.items c.close-kernel.result
    s c.end_all.ensures.ended l.1 (l.0 ∙ n) c.finish_tasks.ensures.joined
    c.close-kernel.ensures.closed c.args.jobs.seats.items c.finish_tasks.ensures.tasks
    c.history.ensures.legal (c.histories_keep_the_headline.ensures _ _ c.history.ensures.setup
    c.history.ensures.whole c.history.ensures.legal) c.requires.own.4

pub returns-clause-config : goal.returns-clause-config
returns-clause-config g c =
    let s = c.stop_if_over.ensures.stopped c.args.opened.permit c.args.jobs.lines.items
    c.run_cycles-ending.new.lines.items c.run_cycles-ending.ensures.cycled in
    c.close-kernel.ensures.closed.config ∙
    ap (λ (p : PermitState). p.config) c.finish_tasks.ensures.joined.kept ∙
    ap (λ (p : PermitState). p.config) s.kept

pub returns-clause-gone : goal.returns-clause-gone
returns-clause-gone g c =
    let s = c.stop_if_over.ensures.stopped c.args.opened.permit c.args.jobs.lines.items
    c.run_cycles-ending.new.lines.items c.run_cycles-ending.ensures.cycled in
    let n = ap length c.end_all.ensures.ended ∙
    length_map ended_line c.run_cycles-ending.new.lines.items in
    let a = s.width in
    let b = c.requires.width.0 in
    joined_both c.args.spawner.now.jobs c.finish_drives.new.spawner.jobs
    c.finish_tasks.new.spawner.jobs c.args.jobs.base _ _ _ _ c.finish_drives.ensures.gone
    c.finish_tasks.ensures.gone (search rules) (omega arith)
