-- Which block one after its calls is.
-- for: Block.call
use Rattle.std.proofs.Common.{◌≡◌, ◌∙◌, refl, ap, List}
use Rattle.iec_tree.specs.declared.standard.Standard.{Standard}
use Rattle.iec_tree.specs.declared.standard.Standard.TheVariants as standard
use Rattle.iec_blocks.specs.Blocks.{block_after, standard_of}
use Rattle.iec_blocks.specs.declared.block.Block.{Block}
use Rattle.iec_blocks.specs.declared.call.Call.{Call}

standard_of-block_after : (s : Standard) (calls : List Call) → standard_of (block_after s calls) ≡ s
standard_of-block_after standard.Ton calls = refl
standard_of-block_after _ calls = refl

-- a block that is after calls of a kind is of that kind
pub of_kind : (b : Block) (s : Standard) (calls : List Call) → b ≡ block_after s calls →
    standard_of b ≡ s
of_kind b s calls e = ap standard_of e ∙ standard_of-block_after s calls
