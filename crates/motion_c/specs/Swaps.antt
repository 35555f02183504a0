-- What a swap from C makes of two machines, and the emptying of a history. This project's profile.
use Rattle.std.specs.Prelude.{◌≡◌, ◌↔◌, ℕ, Option, Some, None}
use Rattle.lasting_kernel.specs.Lasting.{after_hand_over}
use Rattle.motion_kernel.specs.Segments.{SegmentedState, IsEarly}
use Rattle.motion_c.specs.declared.machine.Machine.{Machine}

-- the machines of two handles, if each holds one
abbrev pub both_of : Option Machine → Option Machine → Option (Machine × Machine)
both_of (Some m) (Some s) = Some (m, s)
both_of (Some m) None = None
both_of None s = None

-- two kernels are of one configuration
abbrev pub AreOfOne : SegmentedState → SegmentedState → Type 0
AreOfOne k s = k.config ≡ s.config

-- which code a swap answers: 0 where it is made, 12 where the two aren't of one configuration, and
-- else 9 where no more can be counted
pub record TellsSwap (k s : SegmentedState) (code : ℕ) : Type 0 where
  pub ok : (code ≡ 0) ↔ (AreOfOne k s × IsEarly k.before)
  pub other : (code ≡ 12) ↔ (AreOfOne k s → ⊥)
  pub over : (code ≡ 9) ↔ (AreOfOne k s × (IsEarly k.before → ⊥))

-- which code the emptying of a history answers: 0 where it is made, and 9 where no more can be
-- counted
pub record TellsForget (k : SegmentedState) (code : ℕ) : Type 0 where
  pub ok : (code ≡ 0) ↔ IsEarly k.before
  pub over : (code ≡ 9) ↔ (IsEarly k.before → ⊥)

-- a machine handed its segment over to a spare one: that has its kernel as it was, and the machine's
-- own goes on with an empty segment; each keeps its version and its trace
pub record IsSwapped (m s : Machine) (machine_after spare_after : Option Machine) : Type 0 where
  pub machine : machine_after ≡ Some (record m { kernel = after_hand_over m.kernel })
  pub spare : spare_after ≡ Some (record s { kernel = m.kernel })
