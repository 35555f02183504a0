-- The group is enabled and has no error.
use Rattle.std.proofs.Common.{◌≡◌, true}
use Rattle.group_core.specs.GroupKept as kept
use Rattle.kernel_invariants.proofs.machine.members.is_led_within.Goals as goal

pub returns-else-not-is_within : goal.returns-else-not-is_within
returns-else-not-is_within c = λ x same alone.
    let law = c.is_led.ensures x same alone in
    let passed = c.if-not-is_within.false in
    let told = c.is_within.ensures in
    let within : kept.is_within c.args.on.now.group.state ≡ true = cc in
    (λ yes h. law.0 yes, λ h. law.1 (h within))
