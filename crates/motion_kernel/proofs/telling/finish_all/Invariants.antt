use Rattle.std.proofs.Common.{◌≡◌, drop, length}
use Rattle.motion_kernel.specs.calls.Telling as spec
use Rattle.motion_kernel.proofs.telling.finish_all.Given as goal

abbrev pub invariant-loop-note : goal.invariant-loop-note
invariant-loop-note l = record {
  rest : spec.told_notes (drop l.note-index l.notes) l.instances ≡ spec.told_notes l.notes l.fn.instances;
  long : length l.instances ≡ length l.fn.instances;
}
