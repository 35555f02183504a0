-- The record at a place, with the place that was found after a row.
use Rattle.std.specs.Prelude.{◌≡◌, ◌-◌, suc}
use Rattle.std.specs.Fmt.{signed_decimal}
use Rattle.std.proofs.Common.{◌∙◌, sym, arith, FitsSigned, w64, to_z-of_z}
use Rattle.std.proofs.lemmas.Int.{ints}
use Rattle.trace_text.specs.TraceKept.{IsEntryRead}
use Rattle.trace_check.proofs.Ahead.{ok-some}
use Rattle.trace_check.proofs.CycleLaws.{each-at}
use Rattle.trace_check.proofs.FoundLaws.{found-first, found-none, found-some}
use Rattle.trace_check.proofs.texts.found_record.Goals as goal

pub returns-then-place-eq0 : goal.returns-then-place-eq0
returns-then-place-eq0 c = λ e at is.
    found-first c.args.trace.now.version _ c.args.trace.now.config _ e _ c.args.place _ c.version.ensures c.config-config.ensures is c.if-place-eq0.true c.in_ok-first.ensures

pub returns-in-Some : goal.returns-in-Some
returns-in-Some c = λ e at is.
    let more : c.args.place ≡ suc (c.args.place - 1) = omega (arith, c.if-place-eq0.false) in
    let kept = each-at (IsEntryRead c.args.trace.now.version c.args.trace.now.config) c.args.trace.now.found c.args.entry e c.requires.kept.entries at in
    let fits : FitsSigned w64 c.in-Some.actual = omega (arith, ints) in
    let text : c.as_bytes.result.now ≡ signed_decimal c.in-Some.actual = simp to_z-of_z at (c.as_bytes.ensures.value ∙ c.format.ensures.text) in
    ok-some _ _ _ c.with_last.ensures
    (found-some c.args.trace.now.version c.args.trace.now.config _ e _ c.args.place (c.args.place - 1) c.in-Some.actual _ _ c.args.trace.now c.args.entry c.config-config.ensures is more kept at
    (sym c.actual_of.ensures ∙ c.in-Some.is) text c.in_ok-record.ensures)

pub returns-in-None : goal.returns-in-None
returns-in-None c = λ e at is.
    let more : c.args.place ≡ suc (c.args.place - 1) = omega (arith, c.if-place-eq0.false) in
    found-none c.args.trace.now.version c.args.trace.now.config _ e _ c.args.place (c.args.place - 1) _ c.args.trace.now c.args.entry c.config-config.ensures is more at
    (sym c.actual_of.ensures ∙ c.in-None.is) c.in_ok-record.ensures
