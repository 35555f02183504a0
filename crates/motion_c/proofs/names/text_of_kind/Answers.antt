-- A kind's name has at most twenty bytes.
use Rattle.std.proofs.Common.{ap, arith, length}
use Rattle.motion_c.proofs.NameTexts.{kind-short}
use Rattle.motion_c.proofs.names.text_of_kind.Goals as goal

pub text_of-requires : goal.text_of-requires
text_of-requires c =
    let short = kind-short c.args.kind in
    let word = ap length c.kind_name.ensures in
    let bytes = c.as_bytes.ensures.len in
    omega (arith, short, word, bytes)
