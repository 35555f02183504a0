-- A cycle, from what its parts made.
use Rattle.std.specs.Prelude.{◌≡◌, length, Option}
use Rattle.std.proofs.Common.{◌∙◌, sym, ap, subst, arith}
use Rattle.std.proofs.lemmas.Bool.{and_parts}
use Rattle.command_pool.specs.declared.wanted.Wanted.{Wanted}
use Rattle.axis_core.specs.AxisKept.{IsCoreKept}
use Rattle.axis_core.specs.Cores.{Core, core_at}
use Rattle.axis_core.specs.Cycles.{core_after_answer, core_after_cycle, core_after_step, row_shown}
use Rattle.axis_core.specs.Drives.{is_driven}
use Rattle.axis_core.specs.Kept.{MayAdvance}
use Rattle.axis_core.specs.Rows.{KeepsSpell}
use Rattle.axis_core.specs.declared.axis.Axis.{Axis}
use Rattle.axis_core.proofs.KeptRanges.{go-on-of, take-over-of}
use Rattle.axis_core.proofs.KeptRows.{driven-word, row-kept}
use Rattle.axis_core.proofs.KeptCycles.{IsSeen, cycled-kept, cycle-made, drive-by}
use Rattle.axis_core.proofs.KeptMoves.{Laws}
use Rattle.axis_core.proofs.NoteCounts.{answered-count, run-count}
use Rattle.axis_core.proofs.OneStep.{may-end, ran-made}
use Rattle.axis_core.proofs.cycles.change_in_cycle.Goals as goal

pub is_driven-driven-requires : goal.is_driven-driven-requires
is_driven-driven-requires c = drive-by c.offsets_are_small.ensures c.args.axis.now c.requires.kept.axis.base

pub pass-ending-requires-clause-drive : goal.pass-ending-requires-clause-drive
pass-ending-requires-clause-drive c = drive-by c.offsets_are_small.ensures c.args.axis.now c.requires.kept.axis.base

pub pass-ending-requires-clause-may : goal.pass-ending-requires-clause-may
pass-ending-requires-clause-may c = λ h.
    let old = core_at c.args.axis.now c.args.pool.now c.args.list c.args.notes.now in
    let drive = drive-by c.offsets_are_small.ensures c.args.axis.now c.requires.kept.axis.base in
    let on = and_parts c.is_driven-driven.result c.args.axis.now.driven h in
    let may = go-on-of c.args.look.now old c.requires.look.cam c.requires.kept on.1 drive.offset in
    let P : Option Wanted → Type 0 = λ o. MayAdvance c.args.axis.now o c.args.look.now in
    subst P (sym c.first.ensures) may.advance

pub end_by-requires-clause-may : goal.end_by-requires-clause-may
end_by-requires-clause-may c =
    let k = c.requires.kept in
    may-end _ _ c.args.axis.now.state _ (take-over-of c.args.axis.now.state c.args.axis.now.active c.args.axis.now.limits _ k.waiting k.queue)
    c.pass-ending.ensures.small c.pass-ending.ensures.state c.pass-ending.ensures.running

pub reset-requires : goal.reset-requires
reset-requires c =
    let look = c.args.look.now in
    let old = core_at c.args.axis.now c.args.pool.now c.args.list c.args.notes.now in
    let ran = ran-made look old c.is_driven-driven.result _ c.pass-ending.new.axis c.leave_stopping.new.axis c.pass-ending.result
    (core_at c.end_by.new.axis c.end_by.new.pool c.args.list c.end_by.new.notes) c.requires.kept c.is_driven-driven.ensures c.first.ensures
    c.pass-ending.ensures.axis c.pass-ending.ensures.ending c.end_by.ensures.after c.leave_stopping.ensures in
    let n = answered-count c.ends_tell_their_owners.ensures.owners look.input old in
    let m = run-count c.ends_tell_their_owners.ensures.owners look (is_driven c.args.axis.now look.input) (core_after_answer look.input old) in
    let few = c.waiting.ensures.few in
    let count = c.waiting.ensures.count in
    let none : length c.args.notes.now ≡ 0 = ap length c.requires.room in
    let told : length c.end_by.new.notes ≡ length (core_after_step look (is_driven c.args.axis.now look.input) (core_after_answer look.input old)).notes =
    ap (λ (x : Core). length x.notes) ran in
    omega (arith, n, m, few, count, none, told)

laws-before : goal.After-give-arg-1 → Laws
laws-before c = record {
  taken = c.taken_steps_keep.ensures.kept;
  slower = c.braking_steps_are_only_cut.ensures.slower;
  standing = c.standing_is_kept.ensures.kept;
  counts = c.setpoints_have_counts.ensures;
  homing = c.homing_keeps_counts.ensures;
  read_back = c.counts_are_read_back.ensures.count;
  near = c.counts_are_read_back.ensures.distance;
  offsets = c.offsets_are_small.ensures;
}

pub give-requires : goal.give-requires
give-requires c = λ on.
    let look = c.args.look.now in
    let old = core_at c.args.axis.now c.args.pool.now c.args.list c.args.notes.now in
    let ran = ran-made look old c.is_driven-driven.result _ c.pass-ending.new.axis c.leave_stopping.new.axis c.pass-ending.result
    (core_at c.end_by.new.axis c.end_by.new.pool c.args.list c.end_by.new.notes) c.requires.kept c.is_driven-driven.ensures c.first.ensures
    c.pass-ending.ensures.axis c.pass-ending.ensures.ending c.end_by.ensures.after c.leave_stopping.ensures in
    driven-word c.taken_steps_keep.ensures.admissible (laws-before c) look old
    (core_at c.leave_stopping.new.axis c.end_by.new.pool c.args.list c.end_by.new.notes) c.reset.new.axis
    (record { brought = c.requires.look; actual = c.reported.ensures.count }) c.requires.kept ran c.reset.ensures.axis
    (sym c.is_driven-driven.ensures ∙ on)

made : (c : goal.After-give) → core_at c.give.new.axis c.end_by.new.pool c.args.list c.reset.new.notes
    ≡ core_after_cycle c.args.look.now (core_at c.args.axis.now c.args.pool.now c.args.list c.args.notes.now)
made c =
    let look = c.args.look.now in
    let old = core_at c.args.axis.now c.args.pool.now c.args.list c.args.notes.now in
    let ran = ran-made look old c.is_driven-driven.result _ c.pass-ending.new.axis c.leave_stopping.new.axis c.pass-ending.result
    (core_at c.end_by.new.axis c.end_by.new.pool c.args.list c.end_by.new.notes) c.requires.kept c.is_driven-driven.ensures c.first.ensures
    c.pass-ending.ensures.axis c.pass-ending.ensures.ending c.end_by.ensures.after c.leave_stopping.ensures in
    cycle-made look old c.end_by.new.pool c.args.list c.leave_stopping.new.axis c.reset.new.axis c.give.new.axis c.end_by.new.notes c.reset.new.notes
    ran c.reset.ensures.axis c.reset.ensures.notes c.give.ensures

laws-at : goal.After-give → Laws
laws-at c = record {
  taken = c.taken_steps_keep.ensures.kept;
  slower = c.braking_steps_are_only_cut.ensures.slower;
  standing = c.standing_is_kept.ensures.kept;
  counts = c.setpoints_have_counts.ensures;
  homing = c.homing_keeps_counts.ensures;
  read_back = c.counts_are_read_back.ensures.count;
  near = c.counts_are_read_back.ensures.distance;
  offsets = c.offsets_are_small.ensures;
}

pub returns-clause-after : goal.returns-clause-after
returns-clause-after c = made c

pub returns-clause-kept : goal.returns-clause-kept
returns-clause-kept c =
    let seen : IsSeen c.args.axis.now c.args.look.now = record { brought = c.requires.look; actual = c.reported.ensures.count } in
    subst IsCoreKept (sym (made c)) (cycled-kept (laws-at c) c.args.look.now _ seen c.requires.kept)

pub returns-clause-limits : goal.returns-clause-limits
returns-clause-limits c =
    let input = c.args.look.now.input in
    let P : Axis → Type 0 = λ a. KeepsSpell c.args.axis.now (row_shown input a) a in
    subst P (sym (ap (λ (x : Core). x.axis) (made c)))
    (row-kept c.taken_steps_keep.ensures.admissible (laws-at c) c.args.look.now (core_at c.args.axis.now c.args.pool.now c.args.list c.args.notes.now) c.requires.look c.requires.kept)
