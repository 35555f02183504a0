-- The first records of a cycle, and the whole cycle.
use Rattle.std.specs.Prelude.{◌≡◌, refl, length}
use Rattle.std.proofs.Common.{◌∙◌, ap}
use Rattle.motion_history.specs.Setup.{Setup}
use Rattle.trace_text.specs.TraceKept.{IsEntryRead}
use Rattle.trace_check.proofs.CycleLaws.{before-grow, before-row, each-at, found-now, this-cycle, whole-cycle}
use Rattle.trace_check.proofs.rows.wrong_in_cycle.Goals as goal

pub returns-in-Some-clause-before : goal.returns-in-Some-clause-before
returns-in-Some-clause-before c = λ e at is.
    let f = this-cycle e c.in-Cycle-found.found_number c.in-Cycle-found.rows.now c.in-Cycle-found.grows.now (rw c.in-Cycle-found.is at is) in
    let each : length c.in-Cycle-found.rows.now ≡ length c.args.trace.now.config.axes =
    c.if-many-axes.false ∙ ap length c.axes.ensures.axes ∙ ap (λ (s : Setup). length s.axes) c.config.ensures in
    rw (c.in-Cycle.is, c.if-number-found_number.false, f.is)
    (before-row c.args.trace.now.version c.args.trace.now.config _ c.in-Cycle.axes.now c.in-Cycle-found.rows.now _ _ f.places c.in-Some.row _ refl
    (λ j l. found-now c.args.trace.now c.args.entry e _ at f.is _ _ _ _ j (c.in-Some.ensures.before j l)) c.in-Some.ensures.many each c.in-Some.ensures.within)

pub returns-in-Some-wrong_group_row-clause-before : goal.returns-in-Some-wrong_group_row-clause-before
returns-in-Some-wrong_group_row-clause-before c = λ e at is.
    let f = this-cycle e c.in-Cycle-found.found_number c.in-Cycle-found.rows.now c.in-Cycle-found.grows.now (rw c.in-Cycle-found.is at is) in
    let each : length c.in-Cycle-found.rows.now ≡ length c.args.trace.now.config.axes =
    c.if-many-axes.false ∙ ap length c.axes.ensures.axes ∙ ap (λ (s : Setup). length s.axes) c.config.ensures in
    rw (c.in-Cycle.is, c.if-number-found_number.false, f.is)
    (before-grow c.args.trace.now.version c.args.trace.now.config _ c.in-Cycle.axes.now c.in-Cycle-found.rows.now _ _ f.places c.in-Some-wrong_group_row.grow _ refl
    (λ j. found-now c.args.trace.now c.args.entry e _ at f.is _ _ _ _ j (c.in-None.ensures.all j)) c.in-None.ensures.same each c.in-Some-wrong_group_row.ensures.before)

pub returns-in-None-wrong_group_row-clause-same : goal.returns-in-None-wrong_group_row-clause-same
returns-in-None-wrong_group_row-clause-same c = λ e at is.
    let f = this-cycle e c.in-Cycle-found.found_number c.in-Cycle-found.rows.now c.in-Cycle-found.grows.now (rw c.in-Cycle-found.is at is) in
    let each : length c.in-Cycle-found.rows.now ≡ length c.args.trace.now.config.axes =
    c.if-many-axes.false ∙ ap length c.axes.ensures.axes ∙ ap (λ (s : Setup). length s.axes) c.config.ensures in
    let read = rw f.is at (each-at (IsEntryRead c.args.trace.now.version c.args.trace.now.config) c.args.trace.now.found c.args.entry e c.requires.kept.entries at) in
    rw (c.in-Cycle.is, c.if-number-found_number.false, c.in-None-wrong_group_row.ensures.same)
    (f.is ∙ whole-cycle c.args.trace.now.version c.args.trace.now.config c.in-Cycle-found.found_number c.in-Cycle.axes.now c.in-Cycle-found.rows.now c.in-Cycle-found.grows.now f.places
    (λ j. found-now c.args.trace.now c.args.entry e _ at f.is _ _ _ _ j (c.in-None.ensures.all j)) c.in-None.ensures.same each read.places)
