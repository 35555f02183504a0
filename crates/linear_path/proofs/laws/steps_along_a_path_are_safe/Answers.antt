-- The laws of the path say what its axes keep.
use Rattle.linear_path.specs.Path.{limits_at}
use Rattle.linear_path.proofs.Stopping.{Follows, kept_along, safe_along, between_within, above_from, below_to, from_above, to_below}
use Rattle.linear_path.proofs.laws.steps_along_a_path_are_safe.Goals as goal

pub returns-clause-kept : goal.returns-clause-kept
returns-clause-kept g c =
    λ path limits axis before now axes within ends from to kept.
    (let lo = c.leads_its_axes.ensures.limits_from path limits in
    let hi = c.leads_its_axes.ensures.limits_to path limits in
    let follows : Follows (g.P.Path.limits_of path limits) (limits_at limits axis)
    (g.P.Path.place_of path axis) = record {
      admissible = λ a b z a0 a1 b0 b1 ok.
          c.leads_its_axes.ensures.keeps_the_axes_limits path limits axis a b z axes within ends
          (above_from _ a lo a0) (below_to _ _ a hi a1) (above_from _ b lo b0)
          (below_to _ _ b hi b1) ok;
      speed = λ a b a0 a1 b0 b1 slow.
          c.leads_its_axes.ensures.keeps_the_axes_speed path limits axis a b axes within
          (above_from _ a lo a0) (below_to _ _ a hi a1) (above_from _ b lo b0)
          (below_to _ _ b hi b1) slow;
      within = λ s s0 s1. between_within (limits_at limits axis) _ _ _ ends
          (c.leads_its_axes.ensures.stays_between path axis s within (above_from _ s lo s0)
          (below_to _ _ s hi s1));
    } in
    kept_along _ _ (g.P.Path.place_of path axis) before now follows (from_above _ before lo from)
    (to_below _ _ before hi to) kept)

pub returns-clause-safe : goal.returns-clause-safe
returns-clause-safe g c =
    λ path limits axis before now next axes within ends from to from_now to_now safe.
    (let lo = c.leads_its_axes.ensures.limits_from path limits in
    let hi = c.leads_its_axes.ensures.limits_to path limits in
    let follows : Follows (g.P.Path.limits_of path limits) (limits_at limits axis)
    (g.P.Path.place_of path axis) = record {
      admissible = λ a b z a0 a1 b0 b1 ok.
          c.leads_its_axes.ensures.keeps_the_axes_limits path limits axis a b z axes within ends
          (above_from _ a lo a0) (below_to _ _ a hi a1) (above_from _ b lo b0)
          (below_to _ _ b hi b1) ok;
      speed = λ a b a0 a1 b0 b1 slow.
          c.leads_its_axes.ensures.keeps_the_axes_speed path limits axis a b axes within
          (above_from _ a lo a0) (below_to _ _ a hi a1) (above_from _ b lo b0)
          (below_to _ _ b hi b1) slow;
      within = λ s s0 s1. between_within (limits_at limits axis) _ _ _ ends
          (c.leads_its_axes.ensures.stays_between path axis s within (above_from _ s lo s0)
          (below_to _ _ s hi s1));
    } in
    safe_along _ _ (g.P.Path.place_of path axis) before now next follows
    (from_above _ before lo from) (to_below _ _ before hi to) (from_above _ now lo from_now)
    (to_below _ _ now hi to_now) safe)
