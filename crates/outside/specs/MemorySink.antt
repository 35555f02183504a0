-- What stands in the output in memory, and what its calls leave.
use Rattle.std.specs.Prelude.{◌≡◌, ℕ, ◌+◌, ◌-◌, ◌^◌, [], min, List, vec_capacity}
use Rattle.outside.specs.declared.memory_sink.MemorySink.{MemorySink}

-- the bytes so far
abbrev pub bytes_of : MemorySink → List ℕ
bytes_of s = s.bytes.items

-- the numbers of the writes that fail
abbrev pub fails_of : MemorySink → List ℕ
fails_of s = s.fails.items

-- how many bytes a write takes at most
abbrev pub most_of : MemorySink → ℕ
most_of s = s.most

-- how many writes there were of a piece that isn't empty, up to the end of 64 bits
abbrev pub writes_of : MemorySink → ℕ
writes_of s = s.writes

-- how many writes failed, up to the end of 64 bits
abbrev pub faults_of : MemorySink → ℕ
faults_of s = s.faults

-- how many bytes there is room for in all, before memory is asked for more
abbrev pub room_of : MemorySink → ℕ
room_of s = vec_capacity s.bytes

-- nothing was written, and the writes of these numbers will fail
pub record IsNew (s : MemorySink) (failing : List ℕ) (most : ℕ) : Type 0 where
  pub bytes : bytes_of s ≡ []
  pub fails : fails_of s ≡ failing
  pub limit : most_of s ≡ most
  pub writes : writes_of s ≡ 0
  pub faults : faults_of s ≡ 0

-- the writes are counted as before
pub record KeepsCounts (old new : MemorySink) : Type 0 where
  pub fails : fails_of new ≡ fails_of old
  pub limit : most_of new ≡ most_of old
  pub writes : writes_of new ≡ writes_of old
  pub faults : faults_of new ≡ faults_of old

-- there is one write more, and the listed numbers and the most of a write are as they were
pub record CountsWrite (old new : MemorySink) : Type 0 where
  pub fails : fails_of new ≡ fails_of old
  pub limit : most_of new ≡ most_of old
  pub writes : writes_of new ≡ min (writes_of old + 1) (2 ^ 64 - 1)
