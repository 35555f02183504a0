-- One command more is put.
use Rattle.std.proofs.Common.{◌≡◌, ◌<◌, ◌≤◌, ◌∙◌, ◌++◌, ◌∷◌, [], ℕ, List, Some, None, ap, arith, length, sym, take}
use Rattle.std.specs.Prelude.{slice_get, slice_index_or, slice_set}
use Rattle.std.specs.Option.{option_copied}
use Rattle.std.proofs.lemmas.List.{get_or-set_same, length-take-le}
use Rattle.command_pool.specs.Layout.{unused}
use Rattle.command_pool.specs.Waiting.{queue_of}
use Rattle.command_pool.specs.declared.wanted.Wanted.{Wanted}
use Rattle.motion_kernel.proofs.Lists.{get_is}
use Rattle.motion_kernel.specs.Machine.{Machine}
use Rattle.segment_check.proofs.Filled.{one_waits_more, was_put}
use Rattle.segment_check.proofs.filling.set_list.Goals.{in-Some, in_default}
use Rattle.segment_check.proofs.filling.set_list.Goals as goal

pub loop-place-preserved : goal.loop-place-preserved
loop-place-preserved c = elim c.match-waiting_at.branch [
  | in-Some w ↦
      let at : slice_get queue place ≡ Some w.in-Some.wanted.now = sym c.waiting_at.ensures ∙ ap option_copied w.in-Some.is in
      let added = was_put w.push_waiting.result _ w.push_waiting.ensures.added (λ full. let eight = w.push_waiting.ensures.full_exactly_at_eight.0 full in omega (arith, long, eight, few, within)) in
      w.start-is ∙ added ∙ (λ i. let m = before i in record m { queues = slice_set m.queues c.args.list (queue_of m.queues c.args.list ++ w.in-Some.wanted.now ∷ []) }) ∙
      ap (λ qs. record c.args.start.now { queues = qs }) (one_waits_more lists c.args.list queue place w.in-Some.wanted.now there at)
  | in_default w ↦
      let bad : Some (slice_index_or queue place unused) ≡ None = sym (get_is queue place unused within) ∙ (sym c.waiting_at.ensures ∙ ap option_copied w.in_default.is) in
      absurd (cc)
]
  where
    lists : List (List Wanted)
    lists = c.args.start.now.queues

    queue : List Wanted
    queue = queue_of c.args.waiting.now c.args.list

    place : ℕ
    place = c.loop-place.place

    before : c.loop-place.start ≡ record c.args.start.now { queues = slice_set lists c.args.list (take place queue) }
    before = c.loop-place.invariant

    within : place < length queue
    within = let count = c.waiting-place-end.ensures.count in omega (arith, count, c.loop-place-test.true)

    few : length queue ≤ 8
    few = let count = c.waiting-place-end.ensures.count in omega (arith, count, c.waiting-place-end.ensures.few)

    there : c.args.list < length lists
    there = omega (arith, c.requires.size, c.requires.there)

    long : length (queue_of c.loop-place.start.queues c.args.list) ≡ place
    long = ap (λ (m : Machine). length (queue_of m.queues c.args.list)) before ∙ ap length (get_or-set_same lists c.args.list (take place queue) [] there) ∙
        length-take-le place queue (omega (arith, within))
