-- Bistables. IEC 61131-3, 2.5.2.3.1.
use Rattle.std.specs.Prelude.{pos, Bool, false, not, ◌||◌, List, Option}
use Rattle.std.specs.List.{find}
use Rattle.std.specs.Option.{option_map_or}
use Rattle.iec_blocks.specs.declared.call.Call.{Call}
use Rattle.iec_blocks.specs.declared.call.Reply.{Reply}
use Rattle.iec_blocks.specs.declared.bistable.Bistable.{Bistable}

-- the latest call that sets or resets
abbrev pub latest_acting : List Call → Option Call
latest_acting calls = find (λ call. call.signal || call.reset) calls

-- SR: Q1 is TRUE where that call set, even if it reset too
abbrev pub set_dominant : List Call → Bool
set_dominant calls = option_map_or (λ call. call.signal) (latest_acting calls) false

-- RS: Q1 is TRUE where that call didn't reset
abbrev pub reset_dominant : List Call → Bool
reset_dominant calls = option_map_or (λ call. not call.reset) (latest_acting calls) false

-- the reply with a Q1
abbrev pub reply_with : Bool → Reply
reply_with flag = record { flag = flag; value = pos 0 }

-- a bistable with a Q1
abbrev pub bistable_with : Bool → Bistable
bistable_with flag = record { flag = flag }
