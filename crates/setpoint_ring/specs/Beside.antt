-- The two ends of one ring, side by side. This project's profile.
use Rattle.std.specs.Prelude.{◌≡◌, ℕ, ◌+◌, ◌≤◌, [], ◌++◌, length, false}
use Rattle.setpoint_ring.specs.Sides.{Ring, KernelSide, DriveSide}

-- two ends of one ring: what was taken, followed by what is in the ring, is what was sent, and the
-- other slots are known to be free
pub record AreBeside (kernel : KernelSide) (drive : DriveSide) : Type 0 where
  pub ring : kernel.ring ≡ drive.ring
  pub outputs : drive.taken ++ drive.waiting ≡ kernel.sent
  pub answers : kernel.taken ++ kernel.waiting ≡ drive.sent
  pub output_slots : kernel.ring.room ≤ kernel.free + length drive.waiting
  pub answer_slots : drive.ring.room ≤ drive.free + length kernel.waiting

-- the kernel's end of a ring through which nothing went yet
abbrev pub new_kernel_side : Ring → KernelSide
new_kernel_side r = record { ring = r; sent = []; taken = []; waiting = []; free = r.room; ended = false }

-- the drive's end of a ring through which nothing went yet
abbrev pub new_drive_side : Ring → DriveSide
new_drive_side r = record { ring = r; sent = []; taken = []; waiting = []; free = r.room; ended = false }

-- the two ends of one new ring with this many slots each way
pub record AreNew (room : ℕ) (kernel : KernelSide) (drive : DriveSide) : Type 0 where
  pub room_is : kernel.ring.room ≡ room
  pub kernel_is : kernel ≡ new_kernel_side kernel.ring
  pub drive_is : drive ≡ new_drive_side kernel.ring
