-- Which instances find something at a cycle's end (MC_Power, MC_Stop and MC_GroupStop; PLCopen
-- Motion Control Part 1 and Part 4).
use Rattle.std.specs.Prelude.{ℕ, zero, suc, Bool, ◌||◌, if◌then◌else◌, Option, Some, None, List, [], ◌∷◌, ◌++◌, length, slice_get}
use Rattle.plc_types.specs.declared.kind.BlockKind.{BlockKind}
use Rattle.fb_outputs.specs.Steps.{is_power, is_stop}
use Rattle.motion_history.specs.Setup.{Setup}
use Rattle.motion_history.specs.declared.config.BlockDef.{BlockDef}

-- whether an instance of a block of this kind does
abbrev pub finds : BlockKind → Bool
finds kind = is_power kind || is_stop kind

-- some instances, and after them this one where its block is of a kind that does
abbrev pub with_polled_of : BlockKind → ℕ → List ℕ → List ℕ
with_polled_of kind k found = if finds kind then found ++ k ∷ [] else found

abbrev pub with_polled : Option BlockDef → ℕ → List ℕ → List ℕ
with_polled None k found = found
with_polled (Some b) k found = with_polled_of b.kind k found

-- those of the first n
unfoldable pub polled_among : ℕ → List BlockDef → List ℕ
polled_among zero blocks = []
polled_among (suc n) blocks = with_polled (slice_get blocks n) n (polled_among n blocks)

-- all of a configuration
abbrev pub polled_of : Setup → List ℕ
polled_of s = polled_among (length s.blocks) s.blocks
