-- The standard function blocks, as one table: what each replies to the latest of its calls, and
-- what it keeps of them.
use Rattle.std.specs.Prelude.{List}
use Rattle.iec_tree.specs.declared.standard.Standard.{Standard}
use Rattle.iec_tree.specs.declared.standard.Standard.TheVariants as standard
use Rattle.iec_blocks.specs.Calls.{rises, falls}
use Rattle.iec_blocks.specs.Timers.{on_delay_of, off_delay_of, timer_after}
use Rattle.iec_blocks.specs.Pulses.{pulse_reply_of, pulse_after}
use Rattle.iec_blocks.specs.Triggers.{rising_of, falling_of, trigger_after}
use Rattle.iec_blocks.specs.Counters.{counted_of, counter_after}
use Rattle.iec_blocks.specs.Bistables.{set_dominant, reset_dominant, reply_with, bistable_with}
use Rattle.iec_blocks.specs.declared.block.Block.{Block}
use Rattle.iec_blocks.specs.declared.block.Block.TheVariants as block
use Rattle.iec_blocks.specs.declared.call.Call.{Call}
use Rattle.iec_blocks.specs.declared.call.Reply.{Reply}

-- the reply to the latest call
abbrev pub reply_of : Standard → List Call → Reply
reply_of standard.Ton calls = on_delay_of calls
reply_of standard.Tof calls = off_delay_of calls
reply_of standard.Tp calls = pulse_reply_of calls
reply_of standard.RTrig calls = rising_of calls
reply_of standard.FTrig calls = falling_of calls
reply_of standard.Ctu calls = counted_of calls
reply_of standard.Sr calls = reply_with (set_dominant calls)
reply_of standard.Rs calls = reply_with (reset_dominant calls)

-- the block after its calls
abbrev pub block_after : Standard → List Call → Block
block_after standard.Ton calls = block.Ton (timer_after rises calls)
block_after standard.Tof calls = block.Tof (timer_after falls calls)
block_after standard.Tp calls = block.Tp (pulse_after calls)
block_after standard.RTrig calls = block.RTrig (trigger_after calls)
block_after standard.FTrig calls = block.FTrig (trigger_after calls)
block_after standard.Ctu calls = block.Ctu (counter_after calls)
block_after standard.Sr calls = block.Sr (bistable_with (set_dominant calls))
block_after standard.Rs calls = block.Rs (bistable_with (reset_dominant calls))

-- which block it is
abbrev pub standard_of : Block → Standard
standard_of (block.Ton timer) = standard.Ton
standard_of (block.Tof timer) = standard.Tof
standard_of (block.Tp pulse) = standard.Tp
standard_of (block.RTrig trigger) = standard.RTrig
standard_of (block.FTrig trigger) = standard.FTrig
standard_of (block.Ctu counter) = standard.Ctu
standard_of (block.Sr bistable) = standard.Sr
standard_of (block.Rs bistable) = standard.Rs
