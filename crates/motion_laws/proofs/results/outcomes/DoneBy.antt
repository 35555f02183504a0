-- In which entries an instance is notified that its command is Done.
-- for: results_are_told, done_moves_are_at_their_targets, commands_end_by_their_kinds
use Rattle.std.specs.Prelude.{◌≡◌, ◌⊎◌, ℕ, Some, [], slice_get}
use Rattle.std.proofs.Common.{arith, subst, sym, inl, inr}
use Rattle.std.proofs.lemmas.Bool.{cases_eq}
use Rattle.buffer_modes.specs.Owners.{owner_count}
use Rattle.command_changes.specs.Group as group
use Rattle.command_core.specs.CommandState.{CommandState, active_of}
use Rattle.command_pool.specs.declared.ending.Finish.TheVariants as finish
use Rattle.plc_types.specs.declared.inputs.Inputs.{Inputs}
use Rattle.plc_types.specs.declared.outputs.Outputs.{Outputs}
use Rattle.motion_history.specs.Entries.{Entry, call, cycle, end_of}
use Rattle.motion_history.specs.Setup.{Setup}
use Rattle.motion_kernel.specs.Histories.{inputs_of}
use Rattle.motion_kernel.specs.Machine.{Machine, axis_core_at, group_core_at}
use Rattle.motion_kernel.specs.cycles.Cycles.{look_of_axis, look_of_group}
use Rattle.motion_laws.specs.calls.Axis as on_axis
use Rattle.motion_laws.specs.calls.Group as on_group
use Rattle.motion_kernel.specs.calls.Requests.{Request, machine_asked, request_of}
use Rattle.motion_laws.specs.entries.GroupEvents.{moved_in}
use Rattle.motion_kernel.specs.owners.Commands.{active_at}
use Rattle.motion_kernel.specs.owners.Objects.{a_group, an_axis, IsThere, Object}
use Rattle.motion_laws.specs.owners.Shown.{AreWhereShown}
use Rattle.motion_laws.specs.results.Effects.{changes_by_request, changes_in_cycle}
use Rattle.motion_kernel.specs.owners.Blocks.{command_state_at}
use Rattle.motion_laws.specs.results.Outcomes.{end_of_command}
use Rattle.motion_laws.proofs.owners.Events.{active_in, commands_of}
use Rattle.motion_kernel.proofs.owners.Blocks.{untold}
use Rattle.motion_kernel.proofs.owners.Counts.{found_in}
use Rattle.motion_laws.proofs.results.Events.{one_there}
use Rattle.motion_laws.proofs.results.outcomes.Doing.{axis_cycle, group_cycle, group_reset}
use Rattle.motion_laws.proofs.results.outcomes.Done.{EndsNoneDone, HasOneEnd, NoDone, all_none, end_more, none_done, one_end}
use Rattle.motion_laws.proofs.results.outcomes.NotDone.{axis_none, group_none}

-- no call makes a command of another instance Done
request_none : (s : Setup) (r : Request) (k : ℕ) (i : Inputs) (m : Machine) (o : Object) →
    EndsNoneDone (changes_by_request s r k i m o)
request_none s r k i m (an_axis n) = axis_none (on_axis.by_request s r k i m n) (axis_core_at m n)
request_none s r k i m (a_group j) = group_none (on_group.by_request s r k i m j) (group_core_at m j)

quiet_done : (k : ℕ) (c : CommandState) → c.notes ≡ [] → NoDone k c.notes
quiet_done k c e = subst (NoDone k) (sym e) tt

pub call_not_done : (s : Setup) (m : Machine) (j : ℕ) (i : Inputs) (reply : Outputs) (k : ℕ) (o : Object) →
    end_of_command s m (call j i reply) k o ≡ Some finish.Done → ⊥
call_not_done s m j i reply k o e =
    let r = request_of (slice_get s.blocks j) j i m in
    let x = machine_asked r j i m in
    none_done k _ (all_none k (changes_by_request s r j i x o) (command_state_at x o) (request_none s r j i x o)
    (quiet_done k (command_state_at x o) (untold x o))) e

-- an instance whose command is Done had the active one, or a reset
pub done_by : (s : Setup) (m : Machine) (e : Entry) (k : ℕ) (o : Object) → AreWhereShown s m → IsThere m o →
    end_of_command s m e k o ≡ Some finish.Done → (active_at m k o ≡ 1) ⊎ ((command_state_at m o).reset ≡ Some k)
done_by s m (call j i reply) k o h l e = absurd (call_not_done s m j i reply k o e)
done_by s m (cycle c rows grows) k o h l e =
    let command_state = command_state_at m o in
    let xs = changes_in_cycle s m (inputs_of rows) o in
    let few = one_there s k m o (h.commands k) l in
    let all = commands_of m k o in
    let act = active_in m k o in
    elim (cases_eq (active_of k command_state) 0) [
      | inl none ↦ elim (cases_eq (owner_count k command_state.reset) 0) [
        | inl free ↦ absurd (none_done k _ (one_end k xs command_state (one o) none free (quiet_done k command_state (untold m o))) e)
        | inr own ↦ inr (found_in k command_state.reset (omega arith))
      ]
      | inr some ↦ inl (omega arith)
    ]
  where
    one : (p : Object) → HasOneEnd (changes_in_cycle s m (inputs_of rows) p)
    one (an_axis n) = axis_cycle (look_of_axis s m (inputs_of rows) n) (axis_core_at m n)
    one (a_group j) = end_more (group.cycle_changes (look_of_group s m (inputs_of rows) j) (group_core_at m j))
        (group.reset_changes (group_core_at (moved_in s m (inputs_of rows)) j))
        (group_cycle (look_of_group s m (inputs_of rows) j) (group_core_at m j)) (group_reset (group_core_at (moved_in s m (inputs_of rows)) j))
done_by s m (end_of task) k (an_axis n) h l e = absurd (cc)
done_by s m (end_of task) k (a_group j) h l e = absurd (cc)
