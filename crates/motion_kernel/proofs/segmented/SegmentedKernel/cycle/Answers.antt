-- A cycle is one more entry.
use Rattle.std.proofs.Common.{◌≡◌, ◌∙◌, ap, sym, arith, subst, length, ◌<◌, ◌+◌, ◌++◌, ◌∷◌, []}
use Rattle.std.specs.Prelude.{refl}
use Rattle.motion_history.specs.Entries.{HistoryState, cycle, cycles_of}
use Rattle.motion_kernel.specs.cycles.Cycles.{cycled}
use Rattle.motion_kernel.specs.looks.DriveAnswers.{no_answer}
use Rattle.motion_kernel.specs.Segments.{SegmentedState}
use Rattle.motion_kernel.specs.Histories.{after}
use Rattle.motion_kernel.specs.kept.Machine.{IsMachineKept}
use Rattle.motion_kernel.specs.owners.Blocks.{OwnersHaveBlocks}
use Rattle.motion_kernel.specs.Seen.{machine_of}
use Rattle.motion_kernel.proofs.cycles.Entries.{after_is, is_cycle}
use Rattle.motion_kernel.proofs.cycles.Rows.{grow_count, row_count, row_inputs}
use Rattle.motion_kernel.proofs.kept.Segmented.{segmented_more}
use Rattle.motion_kernel.proofs.segmented.SegmentedKernel.cycle.Goals as goal

pub cycle_machine-requires-clause-step : goal.cycle_machine-requires-clause-step
cycle_machine-requires-clause-step c =
    let k = c.self.inside in
    c.machines_stay_kept.ensures.may_step k.layout (machine_of k.parts) c.args.ins.now c.self.invariant.machine

pub cycle_machine-requires-clause-go_on : goal.cycle_machine-requires-clause-go_on
cycle_machine-requires-clause-go_on c =
    let k = c.self.inside in
    c.machines_stay_kept.ensures.may_go_on k.layout (machine_of k.parts) c.args.ins.now c.self.invariant.machine

pub cycle_machine-requires-clause-history : goal.cycle_machine-requires-clause-history
cycle_machine-requires-clause-history c =
    let k = c.self.inside in
    let room = c.self.invariant.room in
    let left : cycles_of k.segment.history.entries < k.layout.cycles = subst (λ (x : SegmentedState). cycles_of x.history < x.config.cycles) (sym c.self.view_is) c.requires.cycle in
    let cycles = room.cycles in
    record { axes = room.axes; groups = room.groups; cycle = omega arith; rows = room.rows; group_rows = room.group_rows }

pub record_cycle-requires-clause-groups : goal.record_cycle-requires-clause-groups
record_cycle-requires-clause-groups c =
    let k = c.self.inside in
    rw c.cycle_machine.ensures.rows (grow_count k.layout (machine_of k.parts) c.args.ins.now ∙ c.self.invariant.machine.sized.groups ∙ sym c.self.invariant.room.groups)

pub invariant_of-self : goal.invariant_of-self
invariant_of-self c =
    let k = c.self.inside in
    let s = k.layout in
    let m = machine_of k.parts in
    let ins = c.args.ins.now in
    let n = cycles_of k.segment.history.entries in
    let v = c.self.view_is in
    let room = subst (λ (x : SegmentedState). length x.history < x.config.entries) (sym v) c.requires.room in
    let left : n < s.cycles = subst (λ (x : SegmentedState). cycles_of x.history < x.config.cycles) (sym v) c.requires.cycle in
    let answers : length ins ≡ length s.axes = subst (λ (x : SegmentedState). length ins ≡ length x.config.axes) (sym v) c.requires.ins in
    let long : length ins ≡ length m.axes = answers ∙ sym c.self.invariant.machine.sized.axes in
    let shown = row_inputs s m ins long in
    let counted = c.counts_have_32_bits.ensures in
    let e = cycle (n + 1) (cycled s m ins).axes (cycled s m ins).groups in
    let history = c.record_cycle.ensures
    ∙ ap (λ (h : HistoryState). record h { entries = h.entries ++ cycle (cycles_of h.entries + 1) h.rows h.group_rows ∷ []; rows = []; group_rows = [] }) c.cycle_machine.ensures.rows
    ∙ (λ i. record k.segment.history {
      entries = k.segment.history.entries ++ cycle (n + 1) (cycled s m ins).axes (cycled s m ins).groups ∷ [];
      rows = sym c.self.invariant.room.rows i;
      group_rows = sym c.self.invariant.room.group_rows i;
    }) in
    let step : machine_of c.cycle_machine.new.parts ≡ after s m e = c.cycle_machine.ensures.after ∙ sym (after_is s m ins (n + 1) shown) in
    let kept = c.machines_stay_kept.ensures.cycle s m ins c.self.invariant.machine (λ j l. counted j no_answer (omega arith)) in
    segmented_more c.cycles_add_up.ensures.more k
    (record k { parts = c.cycle_machine.new.parts; aside = c.cycle_machine.new.aside; segment = record k.segment { history = c.record_cycle.new.self } }) e c.self.invariant refl refl
    history c.cycle_machine.ensures.places step (refl, is_cycle s m ins shown (row_count s m ins) counted) (subst (IsMachineKept s) (sym c.cycle_machine.ensures.after) kept)
    (subst (OwnersHaveBlocks s) (sym c.cycle_machine.ensures.after) (c.owners_have_blocks.ensures.cycle s m ins c.self.invariant.machine c.self.invariant.owners)) room (omega arith)
