-- The rounds of a generated load: each draws a block and the inputs of its call. This project's
-- profile.
use Rattle.std.specs.Prelude.{ℕ, zero, suc, ◌+◌, ◌*◌, List, [], ◌∷◌, slice_index_or}
use Rattle.plc_types.specs.declared.kind.BufferMode.{BufferMode}
use Rattle.plc_types.specs.declared.kind.BufferMode.TheVariants.{Aborting, Buffered, BlendingLow, BlendingPrevious, BlendingNext, BlendingHigh}
use Rattle.load_job.specs.Draws.{drawn, state_after}
use Rattle.load_job.specs.Machine.{greatest_acceleration, greatest_velocity}
use Rattle.load_job.specs.declared.round.Round.{Round}

-- the modes in their order. PLCopen Motion Control Part 1, the input BufferMode
abbrev pub modes : List BufferMode
modes = Aborting ∷ Buffered ∷ BlendingLow ∷ BlendingPrevious ∷ BlendingNext ∷ BlendingHigh ∷ []

-- how many positions there are, in steps of 1,000 internal units from 0: some lie beyond the
-- highest place of an axis
abbrev pub positions : ℕ
positions = 1100001

-- the round that is drawn from a state on
unfoldable pub round_from : ℕ → Round
round_from x = record {
  axis = drawn 1 8 x;
  block = drawn 2 4 x;
  position = 1000 * drawn 3 positions x;
  velocity = 1 + drawn 4 greatest_velocity x;
  acceleration = 1 + drawn 5 greatest_acceleration x;
  deceleration = 1 + drawn 6 greatest_acceleration x;
  mode = slice_index_or modes (drawn 7 6 x) Aborting;
}

-- this many rounds from a state on, of seven draws each
unfoldable pub rounds_from : ℕ → ℕ → List Round
rounds_from zero x = []
rounds_from (suc n) x = round_from x ∷ rounds_from n (state_after 7 x)
