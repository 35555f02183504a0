-- The first command that waits is taken out, and takes over.
use Rattle.std.specs.Prelude.{◌≡◌, refl, List, [], ◌∷◌, drop, slice_get, slice_set}
use Rattle.std.proofs.Common.{◌∙◌, sym, ap}
use Rattle.std.proofs.lemmas.List.{get_or-set_same, set-set}
use Rattle.command_pool.specs.Waiting.{queue_of}
use Rattle.command_pool.specs.declared.notes.Note.{Note}
use Rattle.command_pool.specs.declared.wanted.Wanted.{Wanted}
use Rattle.axis_core.specs.Cores.{core_after_end, core_after_take_over, core_with_next}
use Rattle.axis_core.specs.declared.axis.Axis.{Axis}
use Rattle.axis_core.proofs.taking_over.end.Goals as goal

next-taken : (ws : List Wanted) (a : Axis) (notes : List Note) → core_after_take_over ws (record { axis = a; waiting = ws; notes = notes })
    ≡ core_with_next (slice_get ws 0) (record { axis = a; waiting = drop 1 ws; notes = notes })
next-taken [] a notes = refl
next-taken (w ∷ ws) a notes = refl

pub returns-in-Some-clause-others : goal.returns-in-Some-clause-others
returns-in-Some-clause-others c =
    c.fail.ensures.others
    ∙ ap (λ pool. slice_set pool c.args.list (queue_of c.fail.new.pool c.args.list)) c.pop_first-next.ensures.rest
    ∙ set-set c.args.pool.now c.args.list _ _

pub returns-in_default-clause-after : goal.returns-in_default-clause-after
unfolding core_after_end
returns-in_default-clause-after c =
    let q = queue_of c.args.pool.now c.args.list in
    let rest = ap (λ (lists : List (List Wanted)). queue_of lists c.args.list) c.pop_first-next.ensures.rest
    ∙ get_or-set_same c.args.pool.now c.args.list (drop 1 q) [] c.requires.list in
    let taken = c.in_default.ensures.after (drop 1 q) c.note_end.new.notes in
    (λ t. record { axis = c.take_over.new.axis; waiting = rest t; notes = c.note_end.new.notes })
    ∙ taken
    ∙ (λ t. core_with_next (c.pop_first-next.ensures.first t) (record { axis = c.note_end.ensures.axis t; waiting = drop 1 q; notes = c.note_end.ensures.notes t }))
    ∙ sym (next-taken q _ _)
