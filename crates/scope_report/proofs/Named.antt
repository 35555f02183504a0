-- One axis or one block more is named.
-- for: scope
use Rattle.std.proofs.Common.{◌≡◌, ℕ, suc, ◌+◌, List, [], ◌∷◌, ◌++◌, length, ap, ◌∙◌, arith}
use Rattle.plc_types.specs.declared.axis.AxisDef.{AxisDef}
use Rattle.motion_history.specs.Entries.{Entry}
use Rattle.motion_history.specs.declared.config.BlockDef.{BlockDef}
use Rattle.scope_report.specs.Replies.{replies_of}
use Rattle.scope_report.specs.Reports.{axis_report_of, axis_reports_from, block_report_of, block_reports_from}
use Rattle.scope_report.specs.Rows.{rows_of}

pub axes-more : (k : ℕ) (ds : List AxisDef) (d : AxisDef) (es : List Entry) →
    axis_reports_from k (ds ++ d ∷ []) es
    ≡ axis_reports_from k ds es ++ axis_report_of d.name (rows_of (k + length ds) es) ∷ []
axes-more k [] d es = ap (λ n. axis_report_of d.name (rows_of n es) ∷ []) (omega arith)
axes-more k (x ∷ ds) d es =
    ap (λ l. axis_report_of x.name (rows_of k es) ∷ l) (axes-more (suc k) ds d es
    ∙ ap (λ n. axis_reports_from (suc k) ds es ++ axis_report_of d.name (rows_of n es) ∷ [])
    (omega arith))

pub blocks-more : (k : ℕ) (ds : List BlockDef) (d : BlockDef) (es : List Entry) →
    block_reports_from k (ds ++ d ∷ []) es
    ≡ block_reports_from k ds es ++ block_report_of d.name (replies_of (k + length ds) es) ∷ []
blocks-more k [] d es = ap (λ n. block_report_of d.name (replies_of n es) ∷ []) (omega arith)
blocks-more k (x ∷ ds) d es =
    ap (λ l. block_report_of x.name (replies_of k es) ∷ l) (blocks-more (suc k) ds d es
    ∙ ap (λ n. block_reports_from (suc k) ds es ++ block_report_of d.name (replies_of n es) ∷ [])
    (omega arith))
