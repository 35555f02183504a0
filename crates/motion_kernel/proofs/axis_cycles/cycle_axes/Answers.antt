-- One axis after another goes through the cycle.
use Rattle.std.proofs.Common.{◌≡◌, ◌∙◌, ap, sym, arith, length, map, take, ◌+◌, ◌++◌, ◌∷◌, []}
use Rattle.std.proofs.lemmas.List.{length-set, map-append, take_all, take_more_set}
use Rattle.plc_types.specs.declared.axis.AxisRow.{AxisRow}
use Rattle.motion_history.specs.Entries.{HistoryState}
use Rattle.motion_kernel.specs.looks.Around.{around_of}
use Rattle.motion_kernel.specs.cycles.AxisCycles.{AxesCycled, after_axis_cycle, axes_cycled, core_in_cycle, row_in_cycle}
use Rattle.motion_kernel.specs.Seen.{machine_of}
use Rattle.motion_kernel.proofs.cycles.Rows.{rows_count}
use Rattle.motion_kernel.proofs.cycles.Steps.{cycled_more, cycled_none}
use Rattle.motion_kernel.proofs.Sizes.{sized_axis}
use Rattle.motion_kernel.proofs.axis_cycles.cycle_axes.Goals as goal

pub loop-axis-init : goal.loop-axis-init
loop-axis-init c =
    let h : HistoryState = c.args.history.now in
    let none = sym (ap (λ (g : AxesCycled). g.rows) (cycled_none c.args.layout.now (around_of c.args.around.now) (machine_of c.args.parts.now))) in
    record {
      machine = sym (ap (λ (g : AxesCycled). g.machine) (cycled_none c.args.layout.now (around_of c.args.around.now) (machine_of c.args.parts.now)));
      rows = λ i. record h { rows = (c.requires.none ∙ none) i };
      outs = ap (map (λ (r : AxisRow). r.output)) none;
      long = omega arith;
      sized = c.requires.sized;
      none = c.new-notes.ensures;
    }

pub put_row-requires-clause-cycle : goal.put_row-requires-clause-cycle
put_row-requires-clause-cycle c = rw c.loop-axis.invariant.rows c.requires.cycle

pub put_row-requires-clause-room : goal.put_row-requires-clause-room
put_row-requires-clause-room c =
    let n = c.loop-axis.axis in
    let count : length (axes_cycled c.args.layout.now n (around_of c.args.around.now) (machine_of c.args.parts.now)).rows ≡ n =
    rows_count c.args.layout.now n (around_of c.args.around.now) (machine_of c.args.parts.now) in
    let l = c.loop-axis-test.true in
    let rows = c.requires.rows in
    rw c.loop-axis.invariant.rows (omega (arith, c.args.parts.now.axes.ok.0))

pub put_row-requires-clause-out : goal.put_row-requires-clause-out
put_row-requires-clause-out c =
    let l = c.loop-axis-test.true in
    let outs = c.requires.outs in
    let long = c.loop-axis.invariant.long in
    omega (arith, c.args.parts.now.axes.ok.0)

pub loop-axis-preserved : goal.loop-axis-preserved
loop-axis-preserved c =
    let s = c.args.layout.now in
    let around = around_of c.args.around.now in
    let m = machine_of c.args.parts.now in
    let n = c.loop-axis.axis in
    let v = c.loop-axis.invariant in
    let before = machine_of c.loop-axis.parts in
    let so_far = axes_cycled s n around m in
    let row : c.cycle_axis-row.result ≡ row_in_cycle s around n so_far.machine = c.cycle_axis-row.ensures.row ∙ ap (λ x. row_in_cycle s around n x) v.machine in
    let more = cycled_more n s around m in
    let rows : so_far.rows ++ c.cycle_axis-row.result ∷ [] ≡ (axes_cycled s (n + 1) around m).rows =
    ap (λ r. so_far.rows ++ r ∷ []) row ∙ sym (ap (λ (g : AxesCycled). g.rows) more) in
    record {
      machine = c.cycle_axis-row.ensures.after ∙ ap (after_axis_cycle s around n) v.machine ∙ sym (ap (λ (g : AxesCycled). g.machine) more);
      rows = c.put_row.ensures.row ∙ ap (λ (h : HistoryState). record h { rows = h.rows ++ c.cycle_axis-row.result ∷ [] }) v.rows
          ∙ ap (λ rs. record c.args.history.now { rows = rs }) rows;
      outs = ap (take (n + 1)) c.put_row.ensures.out
          ∙ take_more_set c.loop-axis.outs n c.cycle_axis-row.result.output (let r = c.requires.outs in let l = v.long in let t = c.loop-axis-test.true in omega (arith, c.args.parts.now.axes.ok.0))
          ∙ ap (λ os. os ++ c.cycle_axis-row.result.output ∷ []) v.outs
          ∙ sym (map-append (λ (r : AxisRow). r.output) so_far.rows (c.cycle_axis-row.result ∷ []))
          ∙ ap (map (λ (r : AxisRow). r.output)) rows;
      long = ap length c.put_row.ensures.out ∙ length-set c.loop-axis.outs _ _ ∙ v.long;
      sized = rw c.cycle_axis-row.ensures.after (sized_axis s before n (core_in_cycle s around n before) v.sized);
      none = c.cycle_axis-row.ensures.none;
    }

pub returns-clause-outs : goal.returns-clause-outs
returns-clause-outs c =
    let s = c.args.layout.now in
    let around = around_of c.args.around.now in
    let m = machine_of c.args.parts.now in
    let n = c.loop-axis.axis in
    let v = c.loop-axis.invariant in
    let end = c.len-axis-end.ensures in
    let past = c.loop-axis-test.false in
    let within = c.loop-axis.auto.axis-end in
    let all : n ≡ length m.axes = omega (arith, c.args.parts.now.axes.ok.0) in
    let outs = c.requires.outs in
    let long = v.long in
    sym (take_all n c.loop-axis.outs (omega arith)) ∙ v.outs ∙ ap (λ k. map (λ (r : AxisRow). r.output) (axes_cycled s k around m).rows) all
