-- Numbers that a handle is asked for. This project's profile.
use Rattle.std.specs.Prelude.{ℕ, Option, Some, None, List}
use Rattle.std.specs.Option.{option_and_then, option_map}
use Rattle.machine_words.specs.Names.{axis_at, block_at, group_at, task_at}
use Rattle.motion_history.specs.Setup.{Setup}
use Rattle.motion_kernel.specs.Segments.{SegmentedState}
use Rattle.motion_c.specs.Held.{held}
use Rattle.motion_c.specs.declared.machine.Machine.{Machine}
use Rattle.motion_c.specs.declared.motion.Motion.{Motion}
use Rattle.motion_c.specs.declared.naming.Item.{Item}
use Rattle.motion_c.specs.declared.naming.Item.TheVariants as item

-- a number, or 2^32 - 1 where there is none
abbrev pub number_or_none : Option ℕ → ℕ
number_or_none (Some n) = n
number_or_none None = 4294967295

-- a count, or 0 where there is none
abbrev pub count_or_none : Option ℕ → ℕ
count_or_none (Some n) = n
count_or_none None = 0

-- the number that a held machine's configuration gives, or 2^32 - 1
abbrev pub number_in : Motion → (Setup → Option ℕ) → ℕ
number_in motion number =
    number_or_none (option_and_then (λ (m : Machine). number m.kernel.kernel.config) (held motion))

-- how many a held machine's kernel with its segment has of something, or 0
abbrev pub count_in : Motion → (SegmentedState → ℕ) → ℕ
count_in motion count =
    count_or_none (option_map (λ (m : Machine). count m.kernel.kernel) (held motion))

-- the microseconds of a held machine's cycle, or 0
abbrev pub cycle_in : Motion → ℕ
cycle_in motion = count_or_none (option_map (λ (m : Machine). m.cycle_us) (held motion))

-- the number of an item of a sort by its name
abbrev pub item_at : Item → Setup → List ℕ → Option ℕ
item_at item.Axis s name = axis_at s name
item_at item.Group s name = group_at s name
item_at item.Task s name = task_at s name
item_at item.Block s name = block_at s name
