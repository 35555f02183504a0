-- A feed and its standby, side by side. This project's profile.
use Rattle.std.specs.Prelude.{◌≡◌, ℕ, ◌+◌, ◌≤◌, [], ◌++◌, length, false}
use Rattle.motion_history.specs.Setup.{Setup}
use Rattle.hot_standby.specs.Events.{opened}
use Rattle.hot_standby.specs.Sides.{Ring, FeedSide, StandbySide}

-- two ends of one ring: what was taken, followed by what is in the ring, is what was pushed, and
-- the other slots are known to be free
pub record AreBeside (feed : FeedSide) (standby : StandbySide) : Type 0 where
  pub ring : standby.ring ≡ feed.ring
  pub events : standby.taken ++ standby.waiting ≡ feed.sent
  pub slots : feed.ring.room ≤ feed.free + length standby.waiting

-- the feed of a ring through which nothing went yet
abbrev pub new_feed_side : Ring → FeedSide
new_feed_side r = record { ring = r; sent = []; free = r.room }

-- the standby of a ring through which nothing went yet, its kernel at rest
abbrev pub new_standby_side : Ring → Setup → StandbySide
new_standby_side r s =
    record { ring = r; taken = []; waiting = []; kernel = opened s; met_stranger = false }

-- the two ends of a new ring with this many slots, for a kernel of this configuration
pub record AreNew (room : ℕ) (s : Setup) (feed : FeedSide) (standby : StandbySide) : Type 0 where
  pub room_is : feed.ring.room ≡ room
  pub feed_is : feed ≡ new_feed_side feed.ring
  pub standby_is : standby ≡ new_standby_side feed.ring s
