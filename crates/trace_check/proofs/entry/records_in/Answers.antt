-- The number of an entry's records.
use Rattle.std.specs.Prelude.{◌≡◌, length, refl}
use Rattle.std.proofs.Common.{◌∙◌, ap, arith}
use Rattle.motion_history.specs.Setup.{Setup}
use Rattle.motion_history.specs.Entries.{cycle_count}
use Rattle.trace_text.specs.TraceState.{entry_of}
use Rattle.trace_check.proofs.CycleLaws.{this-cycle}
use Rattle.trace_check.proofs.FoundLaws.{count-cycle, count-event}
use Rattle.trace_check.proofs.entry.records_in.Goals as goal

pub returns-in-Cycle-clause-count : goal.returns-in-Cycle-clause-count
returns-in-Cycle-clause-count c = λ e kept is.
    let f = this-cycle e c.in-Cycle.number c.in-Cycle.axes.now c.in-Cycle.groups.now (rw c.in-Cycle.is at is) in
    let read = rw f.is at kept in
    let a : length c.axes.result.now ≡ length c.args.trace.now.config.axes = ap length c.axes.ensures.axes ∙ ap (λ (s : Setup). length s.axes) c.config.ensures in
    let b : length c.groups.result.now ≡ length c.args.trace.now.config.groups = ap length c.groups.ensures ∙ ap (λ (s : Setup). length s.groups) c.config-in-Cycle.ensures in
    let axes = read.axes in
    let groups = read.groups in
    let count = count-cycle c.args.trace.now.version c.args.trace.now.config (record { number = c.in-Cycle.number; axes = c.in-Cycle.axes.now; groups = c.in-Cycle.groups.now; places = f.places }) in
    rw f.is (omega (arith, count, a, b, axes, groups))

pub returns-in-Call-clause-count : goal.returns-in-Call-clause-count
returns-in-Call-clause-count c = λ e kept is.
    let none : cycle_count (entry_of e) ≡ 0 = rw (← is, c.in-Call.is) refl in
    count-event c.args.trace.now.version c.args.trace.now.config e none

pub returns-in-End-clause-count : goal.returns-in-End-clause-count
returns-in-End-clause-count c = λ e kept is.
    let none : cycle_count (entry_of e) ≡ 0 = rw (← is, c.in-End.is) refl in
    count-event c.args.trace.now.version c.args.trace.now.config e none
