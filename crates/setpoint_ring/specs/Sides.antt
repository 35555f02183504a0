-- What contracts see of the two ends of a drive's ring. This project's profile.
use Rattle.std.specs.Prelude.{◌≡◌, ℕ, List, [], Bool, true}
use Rattle.std.specs.declared.alloc.Global.{Global}
use denote.RawPtr.{Ptr}
use Rattle.plc_types.specs.declared.drive.DriveIn.{DriveIn}
use Rattle.plc_types.specs.declared.drive.DriveOut.{DriveOut}

-- what distinguishes the items' way from any other: where they lie, and under which names in proofs
pub record Way : Type 0 where
  pub words : Ptr
  pub slots : Ptr
  pub names : ℕ × (ℕ × ℕ)
  pub heap : Global

-- a drive's ring: outputs go one way and answers the other, each with this many slots
pub record Ring : Type 0 where
  pub outputs : Way
  pub answers : Way
  pub room : ℕ

-- the kernel's end of a ring
pub record KernelSide : Type 0 where
  pub ring : Ring
  -- the outputs sent so far, the oldest first
  pub sent : List DriveOut
  -- the answers taken so far, the oldest first
  pub taken : List DriveIn
  -- the answers that it knows to be in the ring, the next first
  pub waiting : List DriveIn
  -- how many slots it knows to be free for outputs, beside the one for the end
  pub free : ℕ
  -- whether it sent the end
  pub ended : Bool

-- the drive's end of a ring
pub record DriveSide : Type 0 where
  pub ring : Ring
  -- the answers sent so far, the oldest first
  pub sent : List DriveIn
  -- the outputs taken so far, the oldest first
  pub taken : List DriveOut
  -- the outputs that it knows to be in the ring, the next first
  pub waiting : List DriveOut
  -- how many slots it knows to be free for answers
  pub free : ℕ
  -- whether it saw the end in the ring, after the outputs that wait
  pub ended : Bool

-- the drive saw the end, and no output waits before it
pub record HasEnded (drive : DriveSide) : Type 0 where
  pub seen : drive.ended ≡ true
  pub empty : drive.waiting ≡ []
