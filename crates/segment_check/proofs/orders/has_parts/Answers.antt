-- The three parts together.
use Rattle.segment_check.proofs.orders.has_parts.Goals as goal

pub returns-then-is_led : goal.returns-then-is_led
returns-then-is_led c = (
  λ t. let both = c.is_led.ensures.0 c.if-is_led.true in
      record { command = both.0; held = both.1; queue = c.are_queued.ensures.0 t },
  λ h. c.are_queued.ensures.1 h.queue,
)
