-- What a handle holds. This project's profile.
use Rattle.std.specs.Prelude.{Option, None, if◌then◌else◌, nat_eq}
use Rattle.motion_c.specs.declared.machine.Machine.{Machine}
use Rattle.motion_c.specs.declared.motion.Motion.{Motion}

-- the machine that a handle holds, if it is open
abbrev pub held : Motion → Option Machine
held m = if nat_eq m.state 1 then m.machine_pointer.held else None
