-- The up counter. IEC 61131-3, 2.5.2.3.3, in this project's profile.
use Rattle.std.specs.Prelude.{ℕ, ◌+◌, min, pos, int_le, false, if◌then◌else◌, List, [], ◌∷◌}
use Rattle.iec_blocks.specs.Calls.{signal_of, rises}
use Rattle.iec_blocks.specs.declared.call.Call.{Call}
use Rattle.iec_blocks.specs.declared.call.Reply.{Reply}
use Rattle.iec_blocks.specs.declared.counter.Counter.{Counter}

-- how often CU rose after the latest call with RESET
abbrev pub rises_since_reset : List Call → ℕ
rises_since_reset [] = 0
rises_since_reset (call ∷ earlier) =
    if call.reset then 0
    else rises_since_reset earlier + (if rises (call ∷ earlier) then 1 else 0)

-- CV is that number, at most the greatest INT
abbrev pub count_of : List Call → ℕ
count_of calls = min (rises_since_reset calls) 32767

-- CTU: Q is TRUE where CV is PV or more
abbrev pub counted_of : List Call → Reply
counted_of [] = record { flag = false; value = pos 0 }
counted_of (call ∷ earlier) =
    let count = pos (count_of (call ∷ earlier)) in
    record { flag = int_le call.preset count; value = count }

-- a counter after its calls
abbrev pub counter_after : List Call → Counter
counter_after calls = record { signal = signal_of calls; count = count_of calls }
