-- The lines of a report. This project's profile.
use Rattle.std.specs.Prelude.{ℕ, ℤ, codes, decimal, Option, Some, None, List, [], ◌∷◌, ◌++◌}
use Rattle.std.specs.List.{concat, flat_map}
use Rattle.std.specs.Fmt.{signed_decimal}
use Rattle.scope_report.specs.Reports.{ReportState}
use Rattle.scope_report.specs.declared.report.AxisReport.{AxisReport}
use Rattle.scope_report.specs.declared.report.BlockReport.{BlockReport}

-- a number, or a dash where there is none
abbrev pub shown : Option ℤ → List ℕ
shown None = codes "-"
shown (Some z) = signed_decimal z

-- `axis NAME driven N least P greatest Q still M travel T`
unfoldable pub axis_line : AxisReport → List ℕ
axis_line a = concat
    (codes "axis " ∷ a.name ∷ codes " driven " ∷ decimal a.driven ∷ codes " least " ∷
    shown a.least ∷ codes " greatest " ∷ shown a.greatest ∷ codes " still " ∷ decimal a.still ∷
    codes " travel " ∷ decimal a.travel ∷ codes "\n" ∷ [])

-- `block NAME calls N done D errors E`
unfoldable pub block_line : BlockReport → List ℕ
block_line b = concat
    (codes "block " ∷ b.name ∷ codes " calls " ∷ decimal b.calls ∷ codes " done " ∷
    decimal b.done ∷ codes " errors " ∷ decimal b.errors ∷ codes "\n" ∷ [])

-- the lines of the axes, then those of the blocks
abbrev pub report_text : ReportState → List ℕ
report_text r = flat_map axis_line r.axes ++ flat_map block_line r.blocks
