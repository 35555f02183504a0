-- The last cycle is the one of the greatest number.
use Rattle.std.specs.Prelude.{◌≡◌, Some}
use Rattle.std.proofs.Common.{◌∙◌, ap, arith}
use Rattle.motion_history.specs.Entries.{cycle}
use Rattle.motion_history.specs.Rows.{rows_at}
use Rattle.motion_history.proofs.WholeLemmas.{none-made, some-made}
use Rattle.motion_history.proofs.history.History.last_cycle.Goals as goal

pub returns-then-self-eq0 : goal.returns-then-self-eq0
returns-then-self-eq0 c =
    let none : c.self.inside.made ≡ 0 = let t = c.if-self-eq0.true in omega arith in
    none-made c.self.inside _ c.self.invariant c.self.view_is none

pub returns : goal.returns
returns c =
    let axes = c.rows_at.ensures ∙ ap (rows_at c.self.inside.axes c.self.inside.made) c.as_slice.ensures.value in
    let groups = c.rows_at-2.ensures ∙ ap (rows_at c.self.inside.groups c.self.inside.made) c.as_slice-2.ensures.value in
    (λ i. Some (cycle c.self.inside.made (axes i) (groups i))) ∙
    some-made c.self.inside _ c.self.invariant c.self.view_is (let t = c.if-self-eq0.false in omega arith)
