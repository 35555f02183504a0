-- How a standby follows. This project's profile.
use Rattle.std.specs.Prelude.{◌≡◌}
use mathlib.Core.List.{IsPrefix}
use Rattle.motion_kernel.specs.Histories.{IsLegal}
use Rattle.hot_standby.specs.Events.{AreFit, kernel_after_all, opened}
use Rattle.hot_standby.specs.Sides.{FeedSide, StandbySide}

-- each event taken fitted, and the kernel is the opened one after them
pub record IsFollower (s : StandbySide) : Type 0 where
  pub fit : AreFit (opened s.kernel.config) s.taken
  pub kernel : s.kernel ≡ kernel_after_all (opened s.kernel.config) s.taken

-- it follows, the events taken are the first that were pushed, and its history is legal
pub record IsLegalFollower (feed : FeedSide) (s : StandbySide) : Type 0 where
  pub first : IsPrefix s.taken feed.sent
  pub follows : IsFollower s
  pub legal : IsLegal s.kernel.config s.kernel.history
