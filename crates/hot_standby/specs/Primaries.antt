-- What contracts see of a kernel that a standby may follow. This project's profile.
use Rattle.std.specs.Prelude.{ℕ, Option, Some, None}
use Rattle.motion_kernel.specs.KernelState.{KernelState}

-- a kernel, and after how many of its events a standby that followed it takes its place: 0 where
-- none follows. As long as its history is shorter, a standby follows
pub record Primary : Type 0 where
  pub kernel : KernelState
  pub cut : ℕ

-- the number of events that was reported, 0 where none was
abbrev pub cut_of : Option ℕ → ℕ
cut_of None = 0
cut_of (Some events) = events
