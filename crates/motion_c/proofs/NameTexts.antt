-- How long the names of kinds of block are.
-- for: motion_kind_name
use Rattle.std.specs.Prelude.{◌≤◌, length}
use Rattle.std.proofs.Common.{lit≤}
use Rattle.plc_types.specs.declared.kind.BlockKind.{BlockKind}
use Rattle.plc_types.specs.declared.kind.BlockKind.TheVariants as kind
use Rattle.plc_types.specs.KindNames.{kind_name}

-- a text of C has room for each
pub kind-short : (k : BlockKind) → length (kind_name k) ≤ 24
unfolding kind_name
kind-short kind.Power = lit≤ tt
kind-short _ = lit≤ tt
