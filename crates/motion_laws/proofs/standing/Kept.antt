-- A machine that can stand so can after every call and every cycle, and one at opening can.
-- for: machines_can_stand
use Rattle.std.specs.Prelude.{ℕ, ◌+◌, List, [], ◌∷◌, length}
use Rattle.std.proofs.Common.{arith}
use Rattle.plc_types.specs.declared.drive.DriveIn.{DriveIn}
use Rattle.plc_types.specs.declared.inputs.Inputs.{Inputs}
use Rattle.motion_history.specs.Calls.{IsCall}
use Rattle.motion_history.specs.Entries.{Entry, call, cycle, cycle_count, end_of}
use Rattle.motion_history.specs.Setup.{Setup, IsSetup}
use Rattle.motion_kernel.proofs.kept.Machine.{kept_by_cycle}
use Rattle.motion_kernel.proofs.kept.Opening.{none_waits}
use Rattle.motion_kernel.proofs.owners.commands.Events.{OwnerLaws}
use Rattle.motion_kernel.proofs.walk.Calls.{by_call}
use Rattle.motion_kernel.proofs.walk.Cycles.{by_cycle}
use Rattle.motion_kernel.proofs.walk.Keeps.{Anyone}
use Rattle.motion_kernel.specs.Histories.{Follows, IsLegalFrom, IsPast, inputs_of, machine_after, machine_from, replay}
use Rattle.motion_kernel.specs.Machine.{Machine, list_of, machine_at_opening}
use Rattle.motion_kernel.specs.calls.Calls.{after_call}
use Rattle.motion_kernel.specs.cycles.Cycles.{after_cycle}
use Rattle.motion_kernel.specs.kept.Machine.{AreWhole, IsMachineKept}
use Rattle.motion_laws.proofs.entries.errors.Calls as errors
use Rattle.motion_laws.proofs.entries.errors.Cycles as error_cycles
use Rattle.motion_laws.proofs.entries.errors.Histories.{opening_shown}
use Rattle.motion_laws.proofs.entries.errors.Laws.{ErrorLaws}
use Rattle.motion_laws.proofs.owners.Shown.{call_all_shown, cycle_all_shown, opening_all_shown}
use Rattle.motion_laws.proofs.owners.kinds.Kept.{kinds_kept, opening_match}
use Rattle.motion_laws.proofs.standing.Axes as axes
use Rattle.motion_laws.proofs.standing.Axes.{AxisLaws}
use Rattle.motion_laws.proofs.standing.Groups as groups
use Rattle.motion_laws.proofs.standing.Groups.{LinesLead}
use Rattle.motion_laws.specs.Standing.{IsStanding, KindsMatch}

-- the laws on which it rests
pub record StandingLaws : Type 0 where
  pub owners : OwnerLaws
  pub errors : ErrorLaws
  pub axes : AxisLaws
  pub groups : LinesLead

module _ (laws : StandingLaws) where
  pub call_stands : (s : Setup) (m : Machine) (k : ℕ) (i : Inputs) → AreWhole s → IsCall s k i →
      IsStanding s m → IsStanding s (after_call s m k i)
  call_stands s m k i whole made h =
      let walk = laws.owners.walk in
      let kept = walk.machines.call s m k i whole made h.kept in
      let before = h.kept.sized in
      let axes_before = before.axes in
      let groups_before = before.groups in
      let after = kept.sized in
      let axes_after = after.axes in
      let groups_after = after.groups in
      record {
        kept = kept;
        stands = record {
          commands = call_all_shown laws.owners s m k i whole made h.kept h.stands.commands;
          kinds = by_call walk s Anyone (KindsMatch s) (KindsMatch s) (kinds_kept walk s) k tt m i
              whole made h.kept h.stands.kinds;
          shown = errors.call_shown laws.errors s m k i whole made h.kept h.stands.shown;
          objects = record {
            axes = λ n l. axes.call_stands laws.axes walk s m k i n whole made h.kept (omega arith)
                (h.stands.objects.axes n (omega arith));
            groups = λ j l. groups.call_stands laws.groups walk s m k i j whole made h.kept
                (omega arith) (h.stands.objects.groups j (omega arith));
          };
        };
      }

  pub cycle_stands : (s : Setup) (m : Machine) (ins : List DriveIn) →
      IsMachineKept s (after_cycle s m ins) → IsStanding s m → IsStanding s (after_cycle s m ins)
  cycle_stands s m ins kept h =
      let walk = laws.owners.walk in
      let before = h.kept.sized in
      let axes_before = before.axes in
      let groups_before = before.groups in
      let after = kept.sized in
      let axes_after = after.axes in
      let groups_after = after.groups in
      record {
        kept = kept;
        stands = record {
          commands = cycle_all_shown laws.owners s m ins h.kept h.stands.commands;
          kinds = by_cycle walk s Anyone (KindsMatch s) (KindsMatch s) (kinds_kept walk s) m ins
              h.kept h.stands.kinds;
          shown = error_cycles.cycle_shown laws.errors s m ins h.kept h.stands.shown;
          objects = record {
            axes = λ n l. axes.cycle_stands laws.axes walk.machines s m ins n h.kept kept
                (omega arith) l (h.stands.objects.axes n (omega arith));
            groups = λ j l. groups.cycle_stands laws.groups s m ins j h.kept (omega arith)
                (h.stands.objects.groups j (omega arith));
          };
        };
      }

  pub opening_stands : (s : Setup) → IsSetup s → AreWhole s → IsStanding s (machine_at_opening s)
  opening_stands s setup whole =
      let kept = laws.owners.walk.machines.opened s setup whole in
      let sizes = kept.sized in
      let axes_are = sizes.axes in
      let groups_are = sizes.groups in
      record {
        kept = kept;
        stands = record {
          commands = opening_all_shown s;
          kinds = opening_match s;
          shown = opening_shown laws.errors s;
          objects = record {
            axes = λ n l. axes.opened_stands laws.axes s n s.axes n (omega arith) _
                (none_waits (length s.axes + length s.groups) n) (kept.axes n l).core.axis;
            groups = λ j l. groups.opened_stands s.groups j (omega arith) _
                (none_waits (length s.axes + length s.groups) (list_of (machine_at_opening s) j));
          };
        };
      }

  -- so it can after the entries of a history
  replay_stands : (s : Setup) (cycles : ℕ) (m : Machine) (es : List Entry) → AreWhole s →
      IsStanding s m → Follows s cycles m es → IsStanding s (replay s m es)
  replay_stands s cycles m [] whole h f = h
  replay_stands s cycles m (call k i reply ∷ es) whole h f =
      replay_stands s (cycles + cycle_count (call k i reply)) (after_call s m k i) es whole
      (call_stands s m k i whole f.0.0 h) f.1
  replay_stands s cycles m (cycle c rows grows ∷ es) whole h f =
      replay_stands s (cycles + cycle_count (cycle c rows grows)) (after_cycle s m (inputs_of rows))
      es whole (cycle_stands s m (inputs_of rows)
      (kept_by_cycle laws.owners.walk.machines s m rows grows h.kept f.0.1) h) f.1
  replay_stands s cycles m (end_of task ∷ es) whole h f =
      replay_stands s (cycles + cycle_count (end_of task)) m es whole h f.1

  pub segment_stands : (s : Setup) (m : Machine) (es : List Entry) → AreWhole s → IsStanding s m →
      IsLegalFrom s m es → IsStanding s (machine_from s m es)
  unfolding machine_from
  segment_stands s m es whole h legal = replay_stands s 0 m es whole h legal.follows

  pub past_stands : (s : Setup) (es : List Entry) → IsSetup s → AreWhole s → IsPast s es →
      IsStanding s (machine_after s es)
  unfolding machine_after
  past_stands s es setup whole past =
      replay_stands s 0 (machine_at_opening s) es whole (opening_stands s setup whole) past.follows
