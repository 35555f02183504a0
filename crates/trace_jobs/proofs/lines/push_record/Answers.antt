-- One field more, after a comma.
use Rattle.std.specs.Prelude.{◌∷◌, ◌++◌, take}
use Rattle.std.proofs.Common.{◌∙◌, ap, arith, sym}
use Rattle.trace_jobs.specs.Lines.{joined}
use Rattle.trace_jobs.proofs.Joined.{appends-field, joined-first, joined-more, take-whole}
use Rattle.trace_jobs.proofs.lines.push_record.Goals as goal

pub loop-i-init : goal.loop-i-init
loop-i-init c =
    let e = c.len-i-end.ensures in
    let some = e.fields in
    let twelve = e.twelve in
    record {
      fields = c.in_ok-extend_from_slice.ensures.items
          ∙ ap (λ f. c.args.line.now.items ++ f)
          (c.field.ensures ∙ sym (joined-first c.args.fields.now (omega arith)));
      first = omega arith;
    }

pub loop-i-preserved : goal.loop-i-preserved
loop-i-preserved c =
    let e = c.len-i-end.ensures in
    let some = e.fields in
    let i = c.loop-i.i in
    let least = c.loop-i.invariant.first in
    let test = c.loop-i-test.true in
    let base = c.args.line.now.items in
    let fields = c.args.fields.now in
    let x = joined (take i fields) in
    let f = c.field-in-loop-i.result.now in
    record {
      fields = c.in_ok-push_field.ensures
          ∙ appends-field c.loop-i.line.items base x f c.loop-i.invariant.fields
          ∙ ap (λ g. base ++ (x ++ (44 ∷ g))) c.field-in-loop-i.ensures
          ∙ ap (λ t. base ++ t) (sym (joined-more fields i (omega arith) (omega arith)));
      first = omega arith;
    }

pub returns : goal.returns
returns c =
    let e = c.len-i-end.ensures in
    let some = e.fields in
    let test = c.loop-i-test.false in
    c.loop-i.invariant.fields
    ∙ ap (λ t. c.args.line.now.items ++ joined t)
    (take-whole c.args.fields.now c.loop-i.i (omega arith))
