-- One entry more is replayed.
use Rattle.std.specs.Prelude.{◌≡◌, refl, ◌<◌, length}
use Rattle.std.proofs.Common.{◌∙◌, ap, arith}
use Rattle.std.proofs.lemmas.List.{length-map}
use Rattle.motion_history.specs.Setup.{Setup}
use Rattle.motion_kernel.specs.Segments.{SegmentedState}
use Rattle.trace_text.specs.TraceState.{entry_of}
use Rattle.trace_check.proofs.Numbered.{there}
use Rattle.trace_check.proofs.ReplayLaws.{first-is, goes-on, opens, stops-here}
use Rattle.trace_check.proofs.replaying.replay_entries.Goals as goal

pub loop-entry-init : goal.loop-entry-init
loop-entry-init c =
    let begins = opens c.args.trace.now c.args.kernel.now c.first_place-place.result c.requires.config c.requires.empty
    (first-is c.args.trace.now _ _ c.config.ensures c.first_place-place.ensures.place) c.first_place-place.ensures.small in
    (begins, refl)

pub replay_entry-requires-clause-fits : goal.replay_entry-requires-clause-fits
replay_entry-requires-clause-fits c =
    let room = c.first_place-place.ensures.room in
    let same : c.config.result.now.entries ≡ c.args.trace.now.config.entries = ap (λ (s : Setup). s.entries) c.config.ensures in
    let made = c.loop-entry.invariant.0.room in
    let small = c.loop-entry.invariant.0.small in
    omega (arith, room, same, made, small)

pub overflow_add-place : goal.overflow_add-place
overflow_add-place c =
    let room = c.first_place-place.ensures.room in
    let same : c.config.result.now.entries ≡ c.args.trace.now.config.entries = ap (λ (s : Setup). s.entries) c.config.ensures in
    let made = c.loop-entry.invariant.0.room in
    let small = c.loop-entry.invariant.0.small in
    let long = length-map c.args.trace.now.found entry_of in
    let end = c.entries-entry-end.ensures.count in
    let within : c.loop-entry.entry < length c.args.trace.now.found = omega (arith, c.loop-entry-test.true, end, long) in
    let e = there c.args.trace.now.found c.loop-entry.entry within in
    let few = (c.in-Ok.ensures e.0 e.1).few in
    omega (arith, room, same, made, small, few)

pub returns-in-Err-clause-replay : goal.returns-in-Err-clause-replay
returns-in-Err-clause-replay c =
    let long = length-map c.args.trace.now.found entry_of in
    let end = c.entries-entry-end.ensures.count in
    let within : c.loop-entry.entry < length c.args.trace.now.found = omega (arith, c.loop-entry-test.true, end, long) in
    let e = there c.args.trace.now.found c.loop-entry.entry within in
    stops-here c.args.trace.now c.args.kernel.now.start c.loop-entry.kernel c.loop-entry.kernel c.loop-entry.entry c.loop-entry.place e.0 _ c.loop-entry.invariant.0 e.1 (c.in-Err.ensures e.0 e.1)

pub loop-entry-preserved : goal.loop-entry-preserved
loop-entry-preserved c =
    let long = length-map c.args.trace.now.found entry_of in
    let end = c.entries-entry-end.ensures.count in
    let within : c.loop-entry.entry < length c.args.trace.now.found = omega (arith, c.loop-entry-test.true, end, long) in
    let e = there c.args.trace.now.found c.loop-entry.entry within in
    let made = c.in-Ok.ensures e.0 e.1 in
    let on = goes-on c.args.trace.now c.args.kernel.now.start c.loop-entry.kernel _ c.loop-entry.entry c.loop-entry.place _ e.0 c.loop-entry.invariant.0 e.1 made in
    (on, ap (λ (k : SegmentedState). k.before) made.after ∙ c.loop-entry.invariant.1)
