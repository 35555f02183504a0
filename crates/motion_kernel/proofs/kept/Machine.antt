-- The law that machines stay kept, and a cycle of a history.
-- for: rows_are_counted, owners_have_blocks
use Rattle.std.specs.Prelude.{◌≡◌, ℕ, ◌<◌, List, length}
use Rattle.std.proofs.Common.{arith, ◌∙◌}
use Rattle.std.proofs.lemmas.List.{length-map}
use Rattle.std.proofs.lemmas.List.Elements.{All-get_or}
use Rattle.plc_types.specs.Counts.{IsCount}
use Rattle.plc_types.specs.declared.axis.AxisRow.{AxisRow}
use Rattle.plc_types.specs.declared.drive.DriveIn.{DriveIn}
use Rattle.plc_types.specs.declared.inputs.Inputs.{Inputs}
use Rattle.plc_types.specs.declared.group.GroupRow.{GroupRow}
use Rattle.motion_history.specs.Calls.{IsCall}
use Rattle.motion_history.specs.Setup.{Setup, IsSetup}
use Rattle.motion_kernel.specs.calls.Calls.{after_call}
use Rattle.motion_kernel.specs.cycles.Cycles.{after_cycle, around_in, stepped_in}
use Rattle.motion_kernel.specs.looks.DriveAnswers.{answer_at, no_answer}
use Rattle.motion_kernel.specs.Histories.{IsCycleOf, inputs_of}
use Rattle.motion_kernel.specs.Machine.{Machine, machine_at_opening}
use Rattle.motion_kernel.specs.kept.Machine.{AreWhole, IsMachineKept}
use Rattle.motion_kernel.specs.kept.Ready.{MayGoOn}

-- machines_stay_kept
pub record MachinesStayKept : Type 0 where
  pub opened : (s : Setup) → IsSetup s → AreWhole s → IsMachineKept s (machine_at_opening s)
  pub call : (s : Setup) (m : Machine) (k : ℕ) (i : Inputs) → AreWhole s → IsCall s k i → IsMachineKept s m → IsMachineKept s (after_call s m k i)
  pub may_go_on : (s : Setup) (m : Machine) (ins : List DriveIn) → IsMachineKept s m → MayGoOn s (around_in s ins m) (stepped_in s ins m).machine
  pub cycle : (s : Setup) (m : Machine) (ins : List DriveIn) → IsMachineKept s m →
      ((n : ℕ) → n < length m.axes → IsCount (answer_at ins n).actual) → IsMachineKept s (after_cycle s m ins)

-- a machine is kept by a cycle of its history
pub kept_by_cycle : MachinesStayKept → (s : Setup) (m : Machine) (rows : List AxisRow) (grows : List GroupRow) → IsMachineKept s m → IsCycleOf s m rows grows →
    IsMachineKept s (after_cycle s m (inputs_of rows))
kept_by_cycle laws s m rows grows h is =
    let size : length (inputs_of rows) ≡ length m.axes = length-map rows _ ∙ is.answers in
    laws.cycle s m (inputs_of rows) h
    (λ n l. All-get_or (λ (d : DriveIn). IsCount d.actual) (inputs_of rows) n no_answer (omega arith) is.counts)
