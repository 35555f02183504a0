use Rattle.std.proofs.Common.{◌≡◌, ◌≤◌, ◌-◌, length, take}
use Rattle.std.specs.Io.KnownBytes.{Appends}
use Rattle.outside.proofs.sink.write_all.Given as goal

-- the bytes so far are appended, and no fault is counted
abbrev pub invariant-loop-done : goal.invariant-loop-done
invariant-loop-done g l = record {
  within : l.done ≤ length l.bytes;
  appended : Appends (g.K.Sink.told l.fn.sink) (g.K.Sink.told l.sink) (take l.done l.bytes);
  kept : g.K.Sink.count l.sink ≡ g.K.Sink.count l.fn.sink;
}

abbrev pub decreases-loop-done : goal.decreases-loop-done
decreases-loop-done g l = length l.bytes - l.done
