-- Edge detection. IEC 61131-3, 2.5.2.3.2.
use Rattle.std.specs.Prelude.{pos, List}
use Rattle.iec_blocks.specs.Calls.{signal_of, rises, falls}
use Rattle.iec_blocks.specs.declared.call.Call.{Call}
use Rattle.iec_blocks.specs.declared.call.Reply.{Reply}
use Rattle.iec_blocks.specs.declared.trigger.Trigger.{Trigger}

-- R_TRIG: Q is TRUE at a call where CLK rose
abbrev pub rising_of : List Call → Reply
rising_of calls = record { flag = rises calls; value = pos 0 }

-- F_TRIG: Q is TRUE at a call where CLK fell
abbrev pub falling_of : List Call → Reply
falling_of calls = record { flag = falls calls; value = pos 0 }

-- a trigger after its calls
abbrev pub trigger_after : List Call → Trigger
trigger_after calls = record { signal = signal_of calls }
