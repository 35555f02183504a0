-- The commands of the controlword, and the controlword that the kernel gives.
use Rattle.std.specs.Prelude.{ℕ, Bool, true, not, ◌&&◌, List, [], ◌∷◌, Option, None, Some, if◌then◌else◌, codes}
use Rattle.cia402_machine.specs.Words.{fits}
use Rattle.plc_types.specs.declared.drive.DriveState.{DriveState}
use Rattle.plc_types.specs.declared.drive.DriveState.TheVariants.{SwitchOnDisabled, ReadyToSwitchOn, SwitchedOn, OperationEnabled, Fault}
use Rattle.cia402_machine.specs.declared.command.Command.{Command}
use Rattle.cia402_machine.specs.declared.command.Command.TheVariants.{Shutdown, SwitchOn, EnableOperation, DisableVoltage, QuickStop, FaultReset}

-- bits 7 to 0 of a controlword that gives a command, x being free. IEC 61800-7-201, object 6040h
abbrev pub command_pattern : Command → List ℕ
command_pattern Shutdown = codes "0xxxx110"
command_pattern SwitchOn = codes "0xxx0111"
command_pattern EnableOperation = codes "0xxx1111"
command_pattern DisableVoltage = codes "0xxxxx0x"
command_pattern QuickStop = codes "0xxxx01x"
command_pattern FaultReset = codes "1xxxxxxx"

-- the bit of a fault reset is set. IEC 61800-7-201, object 6040h, bit 7
abbrev pub has_reset_bit : ℕ → Bool
has_reset_bit word = fits word (codes "1xxxxxxx")

-- a command may follow by whether the last controlword had the bit of a fault reset: a fault reset
-- is a rise of it. IEC 61800-7-201, object 6040h
abbrev pub may_follow : Bool → Command → Bool
may_follow had_reset_bit FaultReset = not had_reset_bit
may_follow had_reset_bit command = true

-- a controlword gives a command after the last one. IEC 61800-7-201, object 6040h
abbrev pub gives : ℕ → ℕ → Command → Bool
gives last controlword command = fits controlword (command_pattern command) && may_follow (has_reset_bit last) command

-- the first of some commands that a controlword gives. IEC 61800-7-201, object 6040h
abbrev pub first_given : Bool → ℕ → List Command → Option Command
first_given had_reset_bit controlword [] = None
first_given had_reset_bit controlword (command ∷ commands) =
    if fits controlword (command_pattern command) && may_follow had_reset_bit command then Some command
    else first_given had_reset_bit controlword commands

-- the command that a controlword gives after the last one, if it gives one. IEC 61800-7-201, object
-- 6040h
unfoldable pub command_of_words : ℕ → ℕ → Option Command
command_of_words last controlword = first_given (has_reset_bit last) controlword
    (Shutdown ∷ SwitchOn ∷ EnableOperation ∷ DisableVoltage ∷ QuickStop ∷ FaultReset ∷ [])

-- the controlword that brings a drive to Operation enabled where power is on, takes its voltage
-- where it is off, and resets a fault where a Reset is pending. This project's profile, by the
-- transitions of IEC 61800-7-201
abbrev pub next_controlword_of : Option DriveState → Bool → Bool → ℕ → ℕ
next_controlword_of (Some SwitchOnDisabled) power reset last = if power then 0x0006 else 0x0000
next_controlword_of (Some ReadyToSwitchOn) power reset last = if power then 0x0007 else 0x0000
next_controlword_of (Some SwitchedOn) power reset last = if power then 0x000f else 0x0000
next_controlword_of (Some OperationEnabled) power reset last = if power then 0x000f else 0x0000
next_controlword_of (Some Fault) power reset last = if reset && not (has_reset_bit last) then 0x0080 else 0x0000
next_controlword_of (Some other) power reset last = 0x0000
next_controlword_of None power reset last = 0x0000
