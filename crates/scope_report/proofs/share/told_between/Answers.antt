-- Each entry up to the end is there, and is added.
use Rattle.std.proofs.Common.{◌≡◌, [], ◌∷◌, ◌++◌, length, get_or, ap, sym, subst, ◌∙◌, arith}
use Rattle.std.specs.Option.{option_map}
use Rattle.std.proofs.lemmas.Grind.{common_steps}
use Rattle.motion_history.specs.Entries.{end_of}
use Rattle.motion_history.specs.Looks.{told}
use Rattle.trace_text.specs.TraceState.{entries_of}
use Rattle.scope_report.specs.Cuts.{between_cuts}
use Rattle.scope_report.specs.Shares.{IsShare}
use Rattle.scope_report.proofs.Cutting.{cut-more, item-there, none-is-not}
use Rattle.scope_report.proofs.Counted.{goes-on, has-room}
use Rattle.scope_report.proofs.share.told_between.Goals as goal
use Rattle.std.proofs.lemmas.Option.{same_Some}

pub add-requires : goal.add-requires
add-requires c = record {
  room = has-room _ _ _ _ c.loop-place.invariant (let t = c.ranges.to.fits in
      let p = c.loop-place-test.true in grind (arith, common_steps));
}

pub unreachable-requires : goal.unreachable-requires
unreachable-requires c =
    let es = entries_of c.args.trace.now in
    none-is-not _ (ap (option_map told) (sym c.in-None.is) ∙ c.look.ensures
    ∙ item-there es c.loop-place.place (end_of 0) (omega arith))

pub loop-place-preserved : goal.loop-place-preserved
loop-place-preserved c =
    let es = entries_of c.args.trace.now in
    let from = c.args.from in
    let i = c.loop-place.place in
    let is : told c.in-Some.entry ≡ get_or es i (end_of 0) =
    same_Some _ _ (ap (option_map told) (sym c.in-Some.is) ∙ c.look.ensures
    ∙ item-there es i (end_of 0) (omega arith)) in
    let more = ap (λ e. between_cuts from i es ++ e ∷ []) is
    ∙ sym (cut-more from i es (end_of 0) (omega arith) (omega arith)) in
    subst (λ l. IsShare (length c.args.so_far.axes) (length c.args.so_far.blocks) l c.add.new.self)
    more (goes-on _ _ _ _ _ _ c.loop-place.invariant c.add.ensures)
