-- What becomes of the active command by changes (PLCopen Motion Control Part 1, buffer modes).
use Rattle.std.specs.Prelude.{ℤ, if◌then◌else◌, Option, Some, None, List, [], ◌∷◌}
use Rattle.buffer_modes.specs.Fates as fate
use Rattle.buffer_modes.specs.Fates.{Fate, goes_on}
use Rattle.buffer_modes.specs.Queue.{is_active_at_once}
use Rattle.command_pool.specs.declared.ending.Finish.{Finish}
use Rattle.command_pool.specs.declared.ending.Finish.TheVariants as finish
use Rattle.command_pool.specs.declared.wanted.Wanted.{Wanted}
use Rattle.command_core.specs.CommandState.{CommandState, queue_of}
use Rattle.command_core.specs.Changes.{Change, joins, replaced, ends, changed, with_known}

-- the first that waits begins
abbrev pub taker_of : Option ℤ → List Wanted → Option Wanted
taker_of target [] = None
taker_of target (w ∷ ws) = Some (with_known target w)

-- by one change
abbrev pub fate_of : Change → CommandState → Fate
fate_of (joins w) c =
    if is_active_at_once (queue_of c) w then fate.replaced finish.Aborted c.active (Some w)
    else goes_on
fate_of (replaced f next ws) c = fate.replaced f c.active next
fate_of (ends f target) c = fate.replaced f c.active (taker_of target c.waiting)
fate_of x c = goes_on

-- the last command that begins is active
abbrev pub last_begun : Option Wanted → Option Finish → Option Wanted → Option Wanted
last_begun begun None None = begun
last_begun begun end next = next

-- a fate and then another: the end is that of the command that was active first
abbrev pub followed_by : Option Finish → Option Wanted → Fate → Fate
followed_by None None g = g
followed_by end next g = record g { ends = end; begins = last_begun next g.ends g.begins }

-- by several changes
abbrev pub fate_in : List Change → CommandState → Fate
fate_in [] c = goes_on
fate_in (x ∷ xs) c =
    followed_by (fate_of x c).ends (fate_of x c).begins (fate_in xs (changed x c))
