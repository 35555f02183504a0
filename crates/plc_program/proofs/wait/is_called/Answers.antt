-- Each instruction is tested.
use Rattle.std.proofs.Common.{rules, tests}
use Rattle.std.proofs.lemmas.Iterator.{YieldsList-from_slice}
use Rattle.std.proofs.lemmas.Iterator.Search.{any_from_yields_List}
use Rattle.plc_program.specs.Programs.{is_call_of, is_called}
use Rattle.plc_program.proofs.wait.is_called.Goals as goal

pub returns : goal.returns
unfolding is_called
returns c =
    any_from_yields_List (is_call_of c.args.block) _ _ _ c.any.ensures.ran (YieldsList-from_slice c.args.lines.now c.iter.ensures.rest) (λ x b q k. search (rules, tests))
