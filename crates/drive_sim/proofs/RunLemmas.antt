-- A simulated drive over a list of outputs.
-- for: answers_come_one_cycle_later
use Rattle.std.specs.Prelude.{ℕ, zero, suc, ◌≡◌, ◌≤◌, ◌<◌, ◌+◌, ◌^◌, ℤ, Bool, true, false, List, [], ◌∷◌, length, take, slice_get, Some}
use Rattle.std.proofs.Common.{arith, refl}
use Rattle.plc_types.specs.declared.drive.DriveOut.{DriveOut}
use Rattle.drive_sim.specs.Sim.{DriveSim}
use Rattle.drive_sim.specs.Steps.{opened, answer_of, next_step, drive_stepped}
use Rattle.drive_sim.specs.Runs.{drive_after, answers_of}

-- the answer after some outputs is that of the drive after them
pub answer_after : (sim : DriveSim) (outs : List DriveOut) (before : ℕ) → before ≤ length outs →
    slice_get (answers_of sim outs) before ≡ Some (answer_of (drive_after sim (take before outs)))
answer_after sim [] zero le = refl
answer_after sim [] (suc before) le = absurd (omega arith)
answer_after sim (out ∷ outs) zero le = refl
answer_after sim (out ∷ outs) (suc before) le = answer_after (drive_stepped sim out) outs before (omega arith)

stepped-steps : (sim : DriveSim) (out : DriveOut) → (drive_stepped sim out).steps ≡ next_step sim
unfolding drive_stepped
stepped-steps sim out = refl

counted : (sim : DriveSim) (outs : List DriveOut) → sim.steps + length outs < 2 ^ 64 → (drive_after sim outs).steps ≡ sim.steps + length outs
counted sim [] few = omega arith
counted sim (out ∷ outs) few =
    let one : (drive_stepped sim out).steps ≡ next_step sim = stepped-steps sim out in
    let more : (drive_stepped sim out).steps ≡ sim.steps + 1 = omega arith in
    let rest : (drive_after (drive_stepped sim out) outs).steps ≡ (drive_stepped sim out).steps + length outs = counted (drive_stepped sim out) outs (omega arith) in
    omega arith

opened-steps : (lag : ℕ) (faults : List ℕ) (count : ℤ) (ready : Bool) → (opened lag faults count ready).steps ≡ 0
opened-steps lag faults count true = refl
opened-steps lag faults count false = refl

-- a drive that opened counts its steps
pub steps-counted : (lag : ℕ) (faults : List ℕ) (count : ℤ) (ready : Bool) (outs : List DriveOut) → length outs < 2 ^ 64 →
    (drive_after (opened lag faults count ready) outs).steps ≡ length outs
steps-counted lag faults count ready outs few =
    let none : (opened lag faults count ready).steps ≡ 0 = opened-steps lag faults count ready in
    let all = counted (opened lag faults count ready) outs (omega arith) in
    omega arith
