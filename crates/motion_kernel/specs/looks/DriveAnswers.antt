-- The drives' answers of a cycle, and the errors that axes get from them.
use Rattle.std.specs.Prelude.{ℕ, nat_eq, if◌then◌else◌, pos, List, [], ◌∷◌, slice_index_or}
use Rattle.axis_core.specs.Drives.{answer_error_of}
use Rattle.axis_core.specs.declared.axis.Axis.{Axis}
use Rattle.plc_types.specs.declared.drive.DriveIn.{DriveIn}
use Rattle.motion_kernel.specs.Machine.{axis_among}

-- an answer that is nowhere stands for one of a drive that is not ready
abbrev pub no_answer : DriveIn
no_answer = record { statusword = 0; mode_display = pos 0; actual = pos 0 }

-- the drive's answer for an axis
abbrev pub answer_at : List DriveIn → ℕ → DriveIn
answer_at ins n = slice_index_or ins n no_answer

-- the error that the first of some axes gets from its drive's answer, or 0
abbrev pub first_error : List Axis → List DriveIn → List ℕ → ℕ
first_error axes ins [] = 0
first_error axes ins (n ∷ ns) =
    let error = answer_error_of (axis_among axes n) (answer_at ins n) in
    if nat_eq error 0 then first_error axes ins ns else error
