-- Items without a fault.
-- for: crates above
use Rattle.std.proofs.Common.{◌≡◌, ℕ, Option, Some, None, Ok, refl}
use Rattle.motion_history.specs.declared.fault.ConfigFault.{ConfigFault}
use Rattle.machine_words.specs.Rules.{broken_by}

-- no fault
pub faultless : (rule : ConfigFault → ℕ) (f : Option ConfigFault) (u : Unit {0}) → broken_by rule f ≡ Ok u → f ≡ None
faultless rule None u h = refl
faultless rule (Some f) u h = absurd (cc)
