-- Tests of all numbers below a bound, and the numbers of states and commands.
-- for: state_of, commanded_drives_become_enabled, fault_resets_leave_fault
use Rattle.std.specs.Prelude.{ℕ, zero, suc, ◌≡◌, ◌<◌, Bool, true, false, ◌&&◌, [], ◌∷◌, Option, None, Some, slice_index_or}
use Rattle.std.proofs.Common.{arith, ap, sym, ◌∙◌, refl, inl, inr}
use Rattle.std.proofs.lemmas.Bool.{cases_eq, and_parts}
use Rattle.plc_types.specs.declared.drive.DriveState.{DriveState}
use Rattle.plc_types.specs.declared.drive.DriveState.TheVariants.{NotReady, SwitchOnDisabled, ReadyToSwitchOn, SwitchedOn, OperationEnabled, QuickStopActive, FaultReactionActive, Fault}
use Rattle.cia402_machine.specs.declared.command.Command.{Command}
use Rattle.cia402_machine.specs.declared.command.Command.TheVariants.{Shutdown, SwitchOn, EnableOperation, DisableVoltage, QuickStop, FaultReset}

-- a test passes at each number below n
abbrev pub all_below : ℕ → (ℕ → Bool) → Bool
all_below zero test = true
all_below (suc n) test = test n && all_below n test

pub all_below-at : (n : ℕ) (test : ℕ → Bool) (k : ℕ) → all_below n test ≡ true → k < n → test k ≡ true
all_below-at zero test k all below = absurd (omega arith)
all_below-at (suc n) test k all below =
    let parts = and_parts (test n) (all_below n test) all in
    elim (cases_eq k n) [
      | inl same ↦ rw same parts.0
      | inr other ↦ all_below-at n test k parts.1 (omega arith)
    ]

-- two truth values are the same
abbrev pub same_bool : Bool → Bool → Bool
same_bool true true = true
same_bool false false = true
same_bool a b = false

pub same_bool-is : (a b : Bool) → same_bool a b ≡ true → a ≡ b
same_bool-is true true e = refl
same_bool-is false false e = refl
same_bool-is true false e = absurd (cc)
same_bool-is false true e = absurd (cc)

-- the number of a state that may be there
abbrev pub state_number : Option DriveState → ℕ
state_number None = 8
state_number (Some NotReady) = 0
state_number (Some SwitchOnDisabled) = 1
state_number (Some ReadyToSwitchOn) = 2
state_number (Some SwitchedOn) = 3
state_number (Some OperationEnabled) = 4
state_number (Some QuickStopActive) = 5
state_number (Some FaultReactionActive) = 6
state_number (Some Fault) = 7

-- the state of a number
abbrev state_at : ℕ → Option DriveState
state_at n = slice_index_or (Some NotReady ∷ Some SwitchOnDisabled ∷ Some ReadyToSwitchOn ∷ Some SwitchedOn ∷
    Some OperationEnabled ∷ Some QuickStopActive ∷ Some FaultReactionActive ∷ Some Fault ∷ []) n None

state_at-number : (s : Option DriveState) → state_at (state_number s) ≡ s
state_at-number None = refl
state_at-number (Some NotReady) = refl
state_at-number (Some SwitchOnDisabled) = refl
state_at-number (Some ReadyToSwitchOn) = refl
state_at-number (Some SwitchedOn) = refl
state_at-number (Some OperationEnabled) = refl
state_at-number (Some QuickStopActive) = refl
state_at-number (Some FaultReactionActive) = refl
state_at-number (Some Fault) = refl

pub same_state : (s t : Option DriveState) → state_number s ≡ state_number t → s ≡ t
same_state s t e = sym (state_at-number s) ∙ ap state_at e ∙ state_at-number t

-- the number of a command that may be there
abbrev pub command_number : Option Command → ℕ
command_number None = 6
command_number (Some Shutdown) = 0
command_number (Some SwitchOn) = 1
command_number (Some EnableOperation) = 2
command_number (Some DisableVoltage) = 3
command_number (Some QuickStop) = 4
command_number (Some FaultReset) = 5

-- the command of a number
abbrev command_at : ℕ → Option Command
command_at n = slice_index_or (Some Shutdown ∷ Some SwitchOn ∷ Some EnableOperation ∷ Some DisableVoltage ∷
    Some QuickStop ∷ Some FaultReset ∷ []) n None

command_at-number : (c : Option Command) → command_at (command_number c) ≡ c
command_at-number None = refl
command_at-number (Some Shutdown) = refl
command_at-number (Some SwitchOn) = refl
command_at-number (Some EnableOperation) = refl
command_at-number (Some DisableVoltage) = refl
command_at-number (Some QuickStop) = refl
command_at-number (Some FaultReset) = refl

pub same_command : (c d : Option Command) → command_number c ≡ command_number d → c ≡ d
same_command c d e = sym (command_at-number c) ∙ ap command_at e ∙ command_at-number d
