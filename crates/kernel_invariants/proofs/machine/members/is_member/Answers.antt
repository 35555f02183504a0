-- Both parts are the whole.
use Rattle.kernel_invariants.proofs.machine.members.is_member.Goals as goal

pub returns-then-follows_its_path : goal.returns-then-follows_its_path
returns-then-follows_its_path c = λ x same alone.
    let follows = (c.follows_its_path.ensures x same).0 c.if-follows_its_path.true in
    let led = c.is_led_within.ensures x same alone in
    (λ h. record { on = follows; led = led.0 h }, λ m. led.1 m.led)
