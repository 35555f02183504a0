-- What a look at an entry gives.
use Rattle.motion_history.specs.declared.entry.EntryLook.{EntryLook}
use Rattle.motion_history.specs.declared.entry.EntryLook.TheVariants as look
use Rattle.motion_history.specs.Entries.{Entry, call, cycle, end_of}

-- the entry that is looked at. This project's profile
abbrev pub told : EntryLook → Entry
told (look.Call k inputs reply) = call k inputs.now reply.now
told (look.Cycle n axes groups) = cycle n axes.now groups.now
told (look.End task) = end_of task
