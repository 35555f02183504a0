-- A text was verified as it begins.
use Rattle.std.specs.Prelude.{false, true}
use Rattle.std.proofs.Common.{◌∙◌, ap, sym}
use Rattle.segment_job.specs.Begins.{begins_as_trace_segment}
use Rattle.motion_cli.proofs.FileLaws.{verified-as}
use Rattle.motion_cli.proofs.serve.verify_text.Goals as goal

pub returns-then-is_trace_segment : goal.returns-then-is_trace_segment
returns-then-is_trace_segment g c =
    verified-as true _ _ _ _ _ _
    (sym c.if-is_trace_segment.true ∙ c.is_trace_segment.ensures ∙ ap begins_as_trace_segment c.as_slice.ensures.value)
    c.check_trace_segment_text.ensures

pub returns-else-is_trace_segment : goal.returns-else-is_trace_segment
returns-else-is_trace_segment g c =
    verified-as false _ _ _ _ _ _
    (sym c.if-is_trace_segment.false ∙ c.is_trace_segment.ensures ∙ ap begins_as_trace_segment c.as_slice.ensures.value)
    c.check_text.ensures
