-- What a call from C makes of a machine, and what is shown of it. This project's profile.
use Rattle.std.specs.Prelude.{◌≡◌, ◌↔◌, ◌≤◌, ◌<◌, ℕ, Bool, true, false, Option, Some, IsSomeAnd, length, slice_get}
use Rattle.std.specs.Option.{option_and_then}
use Rattle.motion_c.specs.Given.{inputs_given}
use Rattle.motion_c.specs.declared.given.MotionInputs.{MotionInputs}
use Rattle.plc_types.specs.declared.inputs.Inputs.{Inputs}
use Rattle.plc_types.specs.declared.outputs.Outputs.{Outputs}
use Rattle.lasting_kernel.specs.Lasting.{LastingState, with_entry}
use Rattle.motion_history.specs.Calls.{IsCall, axes_of}
use Rattle.motion_history.specs.Entries.{call}
use Rattle.motion_history.specs.Setup.{Setup}
use Rattle.motion_history.specs.declared.config.BlockDef.{BlockDef}
use Rattle.motion_kernel.specs.calls.Calls.{reply_of}
use Rattle.motion_kernel.specs.Segments.{SegmentedState, machine_now}
use Rattle.motion_c.specs.Room.{HasRoom}
use Rattle.motion_c.specs.declared.calling.MotionOutputs.{MotionOutputs}
use Rattle.motion_c.specs.declared.machine.Machine.{Machine}

-- a truth value as C has it
abbrev pub bit : Bool → ℕ
bit true = 1
bit false = 0

-- outputs as C has them
abbrev pub shown : Outputs → MotionOutputs
shown o = record {
  error_id = o.error_id;
  busy = bit o.busy;
  active = bit o.active;
  done = bit o.done;
  aborted = bit o.aborted;
  error = bit o.error;
  reached = bit o.reached;
}

-- the inputs that a struct gives a block, by its kind and the axes on which it acts, if the block
-- and a mode of its number are there
abbrev pub inputs_for : Setup → ℕ → MotionInputs → Option Inputs
inputs_for s n given =
    option_and_then (λ (b : BlockDef). inputs_given b.kind (axes_of s b) given)
    (slice_get s.blocks n)

-- a struct gives a block inputs with which it may be called
abbrev pub GivesCall : Setup → ℕ → MotionInputs → Type 0
GivesCall s n given = IsSomeAnd (inputs_for s n given) (λ i. IsCall s n i)

-- which code a call answers: 0 where it is made, 5 where there is no such block, 7 where the inputs
-- are none of its kind, and else 8 where the segment is full
pub record TellsCall (k : SegmentedState) (n : ℕ) (given : MotionInputs) (code : ℕ) : Type 0 where
  pub ok : (code ≡ 0) ↔ (GivesCall k.config n given × HasRoom k)
  pub unknown : (code ≡ 5) ↔ (length k.config.blocks ≤ n)
  pub range : (code ≡ 7) ↔ ((n < length k.config.blocks) × (GivesCall k.config n given → ⊥))
  pub full : (code ≡ 8) ↔ (GivesCall k.config n given × (HasRoom k → ⊥))

-- what the machine replies to a call of a block
abbrev pub reply_to : SegmentedState → ℕ → Inputs → Outputs
reply_to k n inputs = reply_of k.config (machine_now k) n inputs

-- a block was called with the inputs that a struct gives it: the kernel has the call's entry, and
-- its reply is shown
pub record IsCalled (k : LastingState) (n : ℕ) (given : MotionInputs) (after : LastingState)
    (outputs : MotionOutputs) : Type 0 where
  pub inputs : Inputs
  pub read : inputs_for k.kernel.config n given ≡ Some inputs
  pub entry : after ≡ with_entry k (call n inputs (reply_to k.kernel n inputs))
  pub reply : outputs ≡ shown (reply_to k.kernel n inputs)

-- a call makes of a machine the one whose kernel was so called
pub record MakesCall (m : Machine) (n : ℕ) (given : MotionInputs) (after : Option Machine)
    (outputs : MotionOutputs) : Type 0 where
  pub kernel : LastingState
  pub held : after ≡ Some (record m { kernel = kernel })
  pub called : IsCalled m.kernel n given kernel outputs
