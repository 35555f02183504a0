-- What goes through a ring, and in which order. This project's profile.
use Rattle.std.specs.Prelude.{◌≡◌, ◌+◌, ◌<◌, ◌≤◌, ◌^◌, Bool, true, false, List, [], ◌∷◌, length, map}
use Rattle.plc_types.specs.declared.drive.DriveOut.{DriveOut}
use Rattle.setpoint_ring.specs.declared.numbered.Numbered.{Numbered}
use Rattle.setpoint_ring.specs.declared.numbered.ToDrive.{ToDrive}
use Rattle.setpoint_ring.specs.declared.numbered.ToDrive.TheVariants.{Output, End}
use Rattle.setpoint_ring.specs.declared.outputs.Next.{Next}
use Rattle.setpoint_ring.specs.declared.outputs.Next.TheVariants as next

-- the outputs before the end, without their numbers
abbrev pub outputs_of : List ToDrive → List DriveOut
outputs_of [] = []
outputs_of (Output output ∷ more) = output.item ∷ outputs_of more
outputs_of (End ∷ more) = []

-- whether the end is among what goes to the drive
abbrev pub has_end : List ToDrive → Bool
has_end [] = false
has_end (Output output ∷ more) = has_end more
has_end (End ∷ more) = true

-- nothing stands after the end
abbrev pub EndsLast : List ToDrive → Type 0
EndsLast [] = Unit {0}
EndsLast (Output output ∷ more) = EndsLast more
EndsLast (End ∷ more) = more ≡ []

-- what goes to the drive next: an output is numbered next after those before it, which are numbered
-- from 1 without a gap, up to 200,000; nothing goes there after the end
abbrev pub IsNextOutput : List ToDrive → ToDrive → Type 0
IsNextOutput before (Output output) =
    (has_end before ≡ false) × (output.number ≡ length (outputs_of before) + 1) ×
    (output.number ≤ 200000)
IsNextOutput before End = has_end before ≡ false

-- what stands next in the outputs' way
abbrev pub next_of : List ToDrive → Next
next_of [] = next.Nothing
next_of (Output output ∷ more) = next.Output
next_of (End ∷ more) = next.End

module _ {T : Type 0} where
  -- the answer is numbered next after those before it, which are numbered from 1 without a gap, by
  -- a number of 32 bits
  abbrev pub IsNextAnswer : List (Numbered T) → Numbered T → Type 0
  IsNextAnswer before answer = (answer.number ≡ length before + 1) × (answer.number < 2 ^ 32)

  -- the items without their numbers
  abbrev pub items_of : List (Numbered T) → List T
  items_of numbered = map (λ n. n.item) numbered
