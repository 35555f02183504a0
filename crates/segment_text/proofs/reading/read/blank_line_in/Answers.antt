-- Less than two bytes are left.
use Rattle.std.proofs.Common.{◌∙◌, arith}
use Rattle.segment_text.proofs.BlankLines.{none_in_one}
use Rattle.segment_text.proofs.reading.read.blank_line_in.Goals as goal

pub returns-clause-place : goal.returns-clause-place
returns-clause-place c =
    let few = c.in_default.len_below in
    none_in_one c.loop-rest.end c.loop-rest.rest.now (omega (arith, few)) ∙ c.loop-rest.invariant.found
