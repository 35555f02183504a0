-- Ends of a ring that are the same field by field.
-- for: push, take
use Rattle.std.proofs.Common.{◌≡◌, ℕ, Bool, List}
use Rattle.std.specs.declared.alloc.Global.{Global}
use Rattle.rtrb.specs.Ends.{SameRing}
use Rattle.rtrb.specs.declared.end.End.{End}
use Rattle.plc_types.specs.declared.drive.DriveIn.{DriveIn}
use Rattle.plc_types.specs.declared.drive.DriveOut.{DriveOut}
use Rattle.setpoint_ring.specs.Inside.{way_of}
use Rattle.setpoint_ring.specs.Sides.{Way, Ring, KernelSide, DriveSide}

-- an end that stays on its ring is on the same way
pub way_same : {T P : Type 0} (a b : End T Global P) → SameRing a b → way_of b ≡ way_of a
way_same a b same = let words = same.0 in let slots = same.1 in let names = same.2 in let heap = same.3 in cc

abbrev pub ring_made : Way → Way → ℕ → Ring
ring_made outputs answers room = record { outputs = outputs; answers = answers; room = room }

pub outputs_same : (new old answers : Way) (room : ℕ) (ring : Ring) → new ≡ old → ring_made old answers room ≡ ring → ring_made new answers room ≡ ring
outputs_same new old answers room ring same is = cc

abbrev pub kernel_made : Ring → List DriveOut → List DriveIn → List DriveIn → ℕ → Bool → KernelSide
kernel_made ring sent taken waiting free ended = record { ring = ring; sent = sent; taken = taken; waiting = waiting; free = free; ended = ended }

pub kernel_same : (r r' : Ring) (s s' : List DriveOut) (t t' w w' : List DriveIn) (f f' : ℕ) (e e' : Bool) → r ≡ r' → s ≡ s' → t ≡ t' → w ≡ w' → f ≡ f' → e ≡ e' →
    kernel_made r s t w f e ≡ kernel_made r' s' t' w' f' e'
kernel_same r r' s s' t t' w w' f f' e e' p q u v x y = cc

abbrev pub drive_made : Ring → List DriveIn → List DriveOut → List DriveOut → ℕ → Bool → DriveSide
drive_made ring sent taken waiting free ended = record { ring = ring; sent = sent; taken = taken; waiting = waiting; free = free; ended = ended }

pub drive_same : (r r' : Ring) (s s' : List DriveIn) (t t' w w' : List DriveOut) (f f' : ℕ) (e e' : Bool) → r ≡ r' → s ≡ s' → t ≡ t' → w ≡ w' → f ≡ f' → e ≡ e' →
    drive_made r s t w f e ≡ drive_made r' s' t' w' f' e'
drive_same r r' s s' t t' w w' f f' e e' p q u v x y = cc
