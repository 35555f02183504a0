-- What the end of a task makes of a machine. This project's profile.
use Rattle.std.specs.Prelude.{◌≡◌, ◌↔◌, ◌≤◌, ◌<◌, ℕ, length}
use Rattle.motion_kernel.specs.Segments.{SegmentedState}
use Rattle.motion_c.specs.Room.{HasRoom}

-- which code an end answers: 0 where it is made, 5 where there is no such task, and else 8 where
-- the segment is full
pub record TellsEnd (k : SegmentedState) (task : ℕ) (code : ℕ) : Type 0 where
  pub ok : (code ≡ 0) ↔ ((task < length k.config.tasks) × HasRoom k)
  pub unknown : (code ≡ 5) ↔ (length k.config.tasks ≤ task)
  pub full : (code ≡ 8) ↔ ((task < length k.config.tasks) × (HasRoom k → ⊥))
