use Rattle.std.proofs.Common.{◌≡◌, ◌+◌, ◌<◌, [], ◌∷◌, ◌++◌, length, take, get_or, ap, sym, ◌∙◌, arith}
use Rattle.std.proofs.lemmas.List.{take_more}
use Rattle.std.proofs.lemmas.Grind.{common_steps}
use Rattle.scope_report.specs.Reports.{axis_report_of, axis_reports_from}
use Rattle.scope_report.specs.Rows.{rows_of}
use Rattle.scope_report.proofs.Named.{axes-more}
use Rattle.scope_report.proofs.naming.name_axes.Goals as goal

pub loop-axis-preserved : goal.loop-axis-preserved
loop-axis-preserved c es are =
    let i = c.loop-axis.axis in let ds = c.args.axes.now in
    let d = c.index-axes-axis.result in let p = c.index-parts-axis.result in
    let lt : i < length ds = c.loop-axis-test.true in
    let n : i ≡ 0 + length (take i ds) = grind (arith, common_steps) in
    let before = axis_reports_from 0 (take i ds) es in
    c.in-Ok.ensures.items
    ∙ ap (λ l. l ++ c.name_axis.result ∷ []) (c.loop-axis.invariant es are)
    ∙ ap (λ r. before ++ r ∷ []) (c.name_axis.ensures (rows_of i es)
    (c.index-parts-axis.is ∙ are i p (omega (arith, lt, c.requires))))
    ∙ ap (λ k. before ++ axis_report_of (get_or ds i d).name (rows_of k es) ∷ []) n
    ∙ sym (axes-more 0 (take i ds) (get_or ds i d) es)
    ∙ ap (λ l. axis_reports_from 0 l es) (sym (take_more ds i d lt))
