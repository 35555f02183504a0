-- This version, or version 3.
use Rattle.std.proofs.Common.{◌∙◌, ap, sym}
use Rattle.trace_text.specs.Trace.{has_kinds}
use Rattle.trace_text.proofs.Versions.{three-holds}
use Rattle.trace_text.proofs.version.trace_version.Goals as goal

pub returns-then-has_kinds-clause-holds : goal.returns-then-has_kinds-clause-holds
returns-then-has_kinds-clause-holds c = λ alike. record {
  braking = alike;
  kinds = ap (has_kinds c.args.version) (sym c.blocks-2.ensures) ∙ sym c.has_kinds.ensures ∙ c.if-has_kinds.true;
}

pub returns-else-has_kinds-clause-holds : goal.returns-else-has_kinds-clause-holds
returns-else-has_kinds-clause-holds c = λ alike. three-holds c.args.config.now
