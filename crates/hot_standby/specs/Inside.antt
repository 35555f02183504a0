-- How a feed and its standby are kept. This project's profile.
use Rattle.std.specs.Prelude.{◌≡◌, ◌≤◌, ◌-◌, ◌^◌, ℕ, length, false, min}
use Rattle.std.specs.declared.alloc.Global.{Global}
use Rattle.rtrb.specs.declared.end.End.{End}
use Rattle.rtrb.specs.Ring.{sent, received, known_items, known_free}
use Rattle.hot_standby.specs.Followers.{IsFollower}
use Rattle.hot_standby.specs.Sides.{Ring, FeedSide, StandbySide}
use Rattle.hot_standby.specs.declared.feed.Feed.TheInside as feed
use Rattle.hot_standby.specs.declared.standby.Standby.TheInside as standby

-- the ring that this is an end of, with this many slots
abbrev pub ring_of : {T P : Type 0} → End T Global P → ℕ → Ring
ring_of e room =
    record { words = e.words; slots = e.slots; names = e.names; heap = e.heap; room = room }

-- the feed as its end of `rtrb` says
abbrev pub feed_side_of : feed.Inside → FeedSide
feed_side_of f = record {
  ring = ring_of f.ring.end f.ring.capacity;
  sent = sent f.ring;
  free = known_free f.ring;
}

-- the standby as its end of `rtrb` says
abbrev pub standby_side_of : standby.Inside → StandbySide
standby_side_of s = record {
  ring = ring_of s.ring.end s.ring.capacity;
  taken = received s.ring;
  waiting = known_items s.ring;
  kernel = s.kernel;
  met_stranger = s.met_stranger;
}

-- the feed counts what was pushed
pub record IsFeed (f : feed.Inside) : Type 0 where
  pub sent_is : f.sent ≡ min (length (sent f.ring)) (2 ^ 64 - 1)

-- the standby follows as long as no stranger came, over a ring of at most 4,096 slots
pub record IsStandby (s : standby.Inside) : Type 0 where
  pub follows : s.met_stranger ≡ false → IsFollower (standby_side_of s)
  pub few : s.ring.capacity ≤ 4096
