-- How the ends of a ring are kept. This project's profile.
use Rattle.std.specs.Prelude.{◌≡◌, ◌≤◌, ◌+◌, ◌-◌, false, if◌then◌else◌, None, length, vec_capacity}
use Rattle.std.specs.List.{last_or}
use Rattle.std.specs.declared.alloc.Global.{Global}
use Rattle.rtrb.specs.declared.end.End.{End}
use Rattle.rtrb.specs.Ring.{sent, received, known_items, known_free}
use Rattle.setpoint_ring.specs.declared.kernel_end.KernelEnd.TheInside as kernel
use Rattle.setpoint_ring.specs.declared.drive_end.DriveEnd.TheInside as drive
use Rattle.setpoint_ring.specs.Order.{EndsLast, has_end, items_of, outputs_of}
use Rattle.setpoint_ring.specs.Sides.{Way, KernelSide, DriveSide}

-- the way that this is an end of
abbrev pub way_of : {T P : Type 0} → End T Global P → Way
way_of e = record { words = e.words; slots = e.slots; names = e.names; heap = e.heap }

-- the kernel's end as its two ends of `rtrb` say
abbrev pub kernel_side_of : kernel.Inside → KernelSide
kernel_side_of k = record {
  ring = record {
    outputs = way_of k.outputs.end;
    answers = way_of k.answers.end;
    room = k.answers.capacity;
  };
  sent = outputs_of (sent k.outputs);
  taken = items_of (received k.answers);
  waiting = items_of (known_items k.answers);
  free = if k.told_end then known_free k.outputs else known_free k.outputs - 1;
  ended = k.told_end;
}

-- the drive's end as its two ends of `rtrb` say
abbrev pub drive_side_of : drive.Inside → DriveSide
drive_side_of d = record {
  ring = record {
    outputs = way_of d.outputs.end;
    answers = way_of d.answers.end;
    room = d.answers.capacity;
  };
  sent = items_of (sent d.answers);
  taken = outputs_of (received d.outputs);
  waiting = outputs_of (known_items d.outputs);
  free = known_free d.answers;
  ended = has_end (known_items d.outputs);
}

-- the kernel's end counts what it sent and took, knows whether it sent the end, after which nothing
-- stands, and keeps a slot for it
pub record IsKernelEnd (k : kernel.Inside) : Type 0 where
  pub sent_is : k.sent ≡ length (outputs_of (sent k.outputs))
  pub few : k.sent ≤ 200000
  pub end_is : k.told_end ≡ has_end (sent k.outputs)
  pub last : EndsLast (sent k.outputs)
  pub kept : k.told_end ≡ false → 1 ≤ known_free k.outputs
  pub taken_is : k.taken ≡ length (received k.answers)
  pub same_room : k.outputs.capacity ≡ k.answers.capacity + 1

-- the drive's end counts what it sent, has the last of it, and keeps the outputs that it took, in
-- room for all; the end it leaves where it stands
pub record IsDriveEnd (d : drive.Inside) : Type 0 where
  pub sent_is : d.sent ≡ length (sent d.answers)
  pub last_is : d.last ≡ last_or None (items_of (sent d.answers))
  pub took_is : d.took.items ≡ outputs_of (received d.outputs)
  pub going : has_end (received d.outputs) ≡ false
  pub few : length d.took.items ≤ 200000
  pub reserved : 200000 ≤ vec_capacity d.took
  pub same_room : d.outputs.capacity ≡ d.answers.capacity + 1
