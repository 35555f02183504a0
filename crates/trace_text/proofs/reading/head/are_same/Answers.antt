-- Two texts at a time.
use Rattle.std.proofs.Common.{◌∙◌, ◌<◌, length, sym, subst}
use Rattle.std.proofs.lemmas.List.{length-map}
use Rattle.line_text.specs.Texts.{texts}
use Rattle.trace_text.proofs.read.SameLists.{same-more, same-stops, unequal}
use Rattle.trace_text.proofs.reading.head.are_same.Goals as goal

pub returns-then-fields-others : goal.returns-then-fields-others
returns-then-fields-others c =
    sym (unequal (texts c.args.fields.now) (texts c.args.others.now)
    (λ e. c.if-fields-others.true (sym (length-map c.args.fields.now (λ w. w.now)) ∙ e ∙ length-map c.args.others.now (λ w. w.now))))

within : (c : goal.Then-not-says) → c.loop-i.i < length c.args.others.now
within c = subst (λ n. c.loop-i.i < n) c.loop-i.invariant.many c.loop-i-test.true

pub returns-then-not-says : goal.returns-then-not-says
returns-then-not-says c =
    sym (sym c.loop-i.invariant.rest ∙ same-stops c.args.fields.now c.args.others.now c.loop-i.i c.loop-i-test.true (within c) (sym c.says.ensures ∙ c.if-not-says.true))

pub loop-i-preserved : goal.loop-i-preserved
loop-i-preserved c =
    let l : c.loop-i.i < length c.args.others.now = subst (λ n. c.loop-i.i < n) c.loop-i.invariant.many c.loop-i-test.true in
    record {
      rest = sym (same-more c.args.fields.now c.args.others.now c.loop-i.i c.loop-i-test.true l (sym c.says.ensures ∙ c.if-not-says.false)) ∙ c.loop-i.invariant.rest;
      many = c.loop-i.invariant.many;
    }
