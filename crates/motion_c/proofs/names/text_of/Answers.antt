-- The bytes stand first, and zeros behind them.
use Rattle.std.proofs.Common.{◌≡◌, ◌-◌, ℕ, drop, length}
use Rattle.std.specs.Prelude.{replicate}
use Rattle.std.proofs.lemmas.List.{drop-replicate}
use Rattle.motion_c.proofs.names.text_of.Goals as goal

pub returns : goal.returns
returns c =
    let zeros : drop {A = ℕ} (length c.args.bytes.now) (replicate 24 0) ≡ replicate (24 - length c.args.bytes.now) 0 =
    drop-replicate (length c.args.bytes.now) 24 0 in
    rw (c.copy_from_slice.ensures.after, zeros)
