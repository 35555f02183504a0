-- One group after another has its GroupReset done, where it may be.
use Rattle.std.proofs.Common.{◌≡◌, ◌∙◌, ap, sym, arith, length, ◌+◌, ◌++◌, ◌∷◌, []}
use Rattle.std.proofs.lemmas.List.{length-map}
use Rattle.group_core.specs.Cycles.{row_of}
use Rattle.motion_history.specs.Entries.{HistoryState}
use Rattle.motion_kernel.specs.cycles.GroupResets.{GroupsReset, after_group_reset, core_after_reset, groups_reset}
use Rattle.motion_kernel.specs.Seen.{machine_of, placed}
use Rattle.motion_kernel.proofs.cycles.Rows.{grows_count}
use Rattle.motion_kernel.proofs.cycles.Steps.{reset_more, reset_none}
use Rattle.motion_kernel.proofs.Sizes.{sized_group}
use Rattle.motion_kernel.proofs.group_cycles.reset_groups.Goals as goal

pub loop-group-init : goal.loop-group-init
loop-group-init c =
    let h : HistoryState = c.args.history.now in
    let none = sym (ap (λ (g : GroupsReset). g.rows) (reset_none c.args.layout.now (machine_of c.args.parts.now))) in
    record {
      machine = sym (ap (λ (g : GroupsReset). g.machine) (reset_none c.args.layout.now (machine_of c.args.parts.now)));
      rows = λ i. record h { group_rows = (c.requires.none ∙ none) i };
      sized = c.requires.sized;
    }

pub push_group_row-requires-clause-cycle : goal.push_group_row-requires-clause-cycle
push_group_row-requires-clause-cycle c = rw c.loop-group.invariant.rows c.requires.cycle

pub push_group_row-requires-clause-room : goal.push_group_row-requires-clause-room
push_group_row-requires-clause-room c =
    let n = c.loop-group.group in
    let count : length (groups_reset c.args.layout.now n (machine_of c.args.parts.now)).rows ≡ n = grows_count c.args.layout.now n (machine_of c.args.parts.now) in
    let l = c.loop-group-test.true in
    let rows = c.requires.rows in
    let e = length-map c.args.parts.now.groups.items placed in
    rw c.loop-group.invariant.rows (omega (arith, c.args.parts.now.groups.ok.0, e))

pub loop-group-preserved : goal.loop-group-preserved
loop-group-preserved c =
    let s = c.args.layout.now in
    let m = machine_of c.args.parts.now in
    let n = c.loop-group.group in
    let v = c.loop-group.invariant in
    let before = machine_of c.loop-group.parts in
    let so_far = groups_reset s n m in
    let row : c.reset_group-row.result ≡ row_of (core_after_reset s n so_far.machine).group = c.reset_group-row.ensures.row ∙ ap (λ x. row_of (core_after_reset s n x).group) v.machine in
    let more = reset_more n s m in
    let rows : so_far.rows ++ c.reset_group-row.result ∷ [] ≡ (groups_reset s (n + 1) m).rows =
    ap (λ r. so_far.rows ++ r ∷ []) row ∙ sym (ap (λ (g : GroupsReset). g.rows) more) in
    record {
      machine = c.reset_group-row.ensures.after ∙ ap (after_group_reset s n) v.machine ∙ sym (ap (λ (g : GroupsReset). g.machine) more);
      rows = c.push_group_row.ensures ∙ ap (λ (h : HistoryState). record h { group_rows = h.group_rows ++ c.reset_group-row.result ∷ [] }) v.rows
          ∙ ap (λ rs. record c.args.history.now { group_rows = rs }) rows;
      sized = rw c.reset_group-row.ensures.after (sized_group s before n (core_after_reset s n before) v.sized);
    }
