-- The axes stand first, and 0 after them.
use Rattle.std.proofs.Common.{◌≡◌, ◌-◌, ℕ, drop, length}
use Rattle.std.specs.Prelude.{replicate}
use Rattle.std.proofs.lemmas.List.{drop-replicate}
use Rattle.motion_history.proofs.groups.group_of.Goals as goal

pub returns : goal.returns
returns c =
    let zeros : drop {A = ℕ} (length c.args.axes.now) (replicate 6 0) ≡ replicate (6 - length c.args.axes.now) 0 =
    drop-replicate (length c.args.axes.now) 6 0 in
    rw (c.new.ensures, c.copy_from_slice.ensures.after, zeros)
