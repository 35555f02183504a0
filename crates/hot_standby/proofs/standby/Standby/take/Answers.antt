-- The standby follows with the event that it made.
use Rattle.std.proofs.Common.{◌≤◌, sym, subst}
use Rattle.hot_standby.proofs.Followers.{follows_on}
use Rattle.hot_standby.proofs.standby.Standby.take.Goals as goal

pub invariant_of-self-then-try_make : goal.invariant_of-self-then-try_make
invariant_of-self-then-try_make c =
    let made = c.try_make.ensures.fit c.if-try_make.true in
    record {
      follows = (λ none.
          follows_on _ _ c.in-Some.event made.0 made.1 c.in-Some.ensures.taken
          (c.self.invariant.follows none));
      few = subst (λ n. n ≤ 4096) (sym c.take_next.ensures.ring.1) c.self.invariant.few;
    }
