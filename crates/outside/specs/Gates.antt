-- Gates that hold a task back. This project's profile.
use Rattle.std.specs.Prelude.{◌≡◌, ℕ}
use Rattle.outside.specs.declared.hold_gate.HoldGate.{HoldGate}

-- the gate holds the first turn of one task until the first of another, for this many looks
pub record Holds (gate : HoldGate) (held until looks : ℕ) : Type 0 where
  pub held_is : gate.held ≡ held
  pub until_is : gate.until ≡ until
  pub looks_are : gate.looks ≡ looks
