-- An entry is made and compared.
use Rattle.std.specs.Prelude.{◌≡◌, true}
use Rattle.std.proofs.Common.{◌∙◌, ap, sym}
use Rattle.motion_history.specs.Looks.{told}
use Rattle.trace_text.specs.TraceState.{entry_of}
use Rattle.trace_check.specs.Replays.{has_room, made_from}
use Rattle.trace_text.specs.TraceKept.{IsEntryRead}
use Rattle.trace_check.proofs.CycleLaws.{each-at}
use Rattle.trace_check.proofs.EntryLaws.{event-at, made-last, no-room-stop, records-same, room-for, room-same, room-stop, told-is}
use Rattle.trace_check.proofs.entry.replay_entry.Goals as goal

pub returns-then-not-has_room : goal.returns-then-not-has_room
returns-then-not-has_room c = λ e at.
    let is : told c.in-Some.found ≡ entry_of e = told-is c.args.trace.now.found c.args.entry e _ c.in-Some.ensures at in
    let none = sym c.has_room.ensures ∙ c.if-not-has_room.true in
    no-room-stop c.args.trace.now.version c.args.trace.now.config c.args.kernel.now.start c.args.kernel.now.history (entry_of e) c.args.place _ _
    (rw (← is, ← c.requires.config) none) (c.no_room.ensures e at is)

pub make-requires-clause-event : goal.make-requires-clause-event
make-requires-clause-event c =
    rw c.requires.config (event-at c.args.trace.now.version c.args.trace.now.config c.args.trace.now.found c.args.entry _ c.requires.kept.entries c.in-Some.ensures)

pub returns-in-Some-wrong_record : goal.returns-in-Some-wrong_record
returns-in-Some-wrong_record c = λ e at.
    let is : told c.in-Some.found ≡ entry_of e = told-is c.args.trace.now.found c.args.entry e _ c.in-Some.ensures at in
    let room : has_room c.args.trace.now.config c.args.kernel.now.history (entry_of e) ≡ true = rw (← is, ← c.requires.config) (sym c.has_room.ensures ∙ c.if-not-has_room.false) in
    let made : told c.in-Some-look.expected ≡ made_from c.args.trace.now.config c.args.kernel.now.start c.args.kernel.now.history (entry_of e) =
    rw (← is, ← c.requires.config) (made-last c.args.kernel.now.history _ _ _ c.args.entry (c.history-made.ensures.entries ∙ ap (λ k. k.history) c.make.ensures) c.requires.made c.in-Some-look.ensures) in
    room-stop c.args.trace.now.version c.args.trace.now.config c.args.kernel.now.start c.args.kernel.now.history (entry_of e) _ c.args.place _ _ room made (c.wrong_at.ensures e at is)

pub returns-in-None : goal.returns-in-None
returns-in-None c = λ e at.
    let is : told c.in-Some.found ≡ entry_of e = told-is c.args.trace.now.found c.args.entry e _ c.in-Some.ensures at in
    let room : has_room c.args.trace.now.config c.args.kernel.now.history (entry_of e) ≡ true = rw (← is, ← c.requires.config) (sym c.has_room.ensures ∙ c.if-not-has_room.false) in
    let made : told c.in-Some-look.expected ≡ made_from c.args.trace.now.config c.args.kernel.now.start c.args.kernel.now.history (entry_of e) =
    rw (← is, ← c.requires.config) (made-last c.args.kernel.now.history _ _ _ c.args.entry (c.history-made.ensures.entries ∙ ap (λ k. k.history) c.make.ensures) c.requires.made c.in-Some-look.ensures) in
    let kept = each-at (IsEntryRead c.args.trace.now.version c.args.trace.now.config) c.args.trace.now.found c.args.entry e c.requires.kept.entries at in
    let found = c.in-None.ensures.same e at is in
    record {
      same = room-same c.args.trace.now.version c.args.trace.now.config c.args.kernel.now.start c.args.kernel.now.history (entry_of e) room ∙ rw (← made) (records-same c.args.trace.now.version c.args.trace.now.config e _ kept found);
      after = rw (← is, ← c.requires.config) c.make.ensures;
      found = rw (← made) found;
      room = room-for c.args.trace.now.config c.args.kernel.now.history (entry_of e) room;
      told = c.records_in.ensures.count e kept is;
      few = c.records_in.ensures.few;
    }
