-- What is read keeps what every trace does.
use Rattle.std.proofs.Common.{◌∙◌, sym}
use Rattle.trace_text.proofs.read.ReadingKept.{made-kept}
use Rattle.trace_text.proofs.reading.read.trace_of.Goals as goal

pub invariant_of-result : goal.invariant_of-result
invariant_of-result c =
    made-kept c.args.reader _ c.in-Ok.config (sym c.reader.view_is) c.requires (sym c.is_ended.ensures ∙ c.if-not-is_ended.false) c.in-Ok.ensures.ok c.in-Ok.ensures.setup

pub returns-clause-kept : goal.returns-clause-kept
returns-clause-kept c =
    made-kept c.args.reader _ c.in-Ok.config (sym c.reader.view_is) c.requires (sym c.is_ended.ensures ∙ c.if-not-is_ended.false) c.in-Ok.ensures.ok c.in-Ok.ensures.setup
