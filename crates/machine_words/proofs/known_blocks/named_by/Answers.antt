-- The block of a number has the name, and no other has it.
use Rattle.std.proofs.Common.{◌≡◌, ◌<◌, List, length, subst, sym}
use Rattle.std.specs.Prelude.{slice_index_or}
use Rattle.motion_history.specs.declared.config.BlockDef.{BlockDef}
use Rattle.machine_words.proofs.Names.{block-named}
use Rattle.machine_words.proofs.known_blocks.named_by.Goals as goal

pub returns-then-is_same_name-clause-value : goal.returns-then-is_same_name-clause-value
returns-then-is_same_name-clause-value c =
    let i = c.in_ok-number.number in
    let block = c.in_ok-block.block.now in
    let there = subst (λ (bs : List BlockDef). i < length bs) c.blocks-2.ensures.blocks c.in_ok-block.ensures.lookup.3.0 in
    let at = subst (λ (bs : List BlockDef). block ≡ slice_index_or bs i block) c.blocks-2.ensures.blocks (c.in_ok-block.ensures.lookup.3.1 block) in
    block-named c.args.machine.now i block c.args.name.now c.blocks-2.ensures.within there at (sym c.if-is_same_name.ensures)
