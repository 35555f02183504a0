-- A row of trace segments is one past, and so keeps all laws.
use Rattle.std.specs.Prelude.{[]}
use Rattle.segment_check.proofs.RowLaws.{row_is_past}
use Rattle.segment_check.proofs.laws.rows_of_trace_segments_tell_pasts.Goals as goal

pub returns : goal.returns
returns c = λ s ps whole setup whole_groups t.
    let past = row_is_past c.segments_keep_their_laws.ensures.past s [] ps whole (record { follows = tt }) t in
    record { past = past; laws = c.pasts_keep_their_laws.ensures s whole setup whole_groups past }
