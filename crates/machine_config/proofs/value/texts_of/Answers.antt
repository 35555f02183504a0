-- Each step takes one more value.
use Rattle.std.proofs.Common.{◌∷◌, [], ◌++◌, sym, ap, ◌∙◌}
use Rattle.std.proofs.lemmas.List.{map-append}
use Rattle.toml.specs.Data.{as_str}
use Rattle.toml.specs.View.{view}
use Rattle.line_text.specs.Texts.{texts}
use Rattle.machine_config.proofs.Views.{passed, picked}
use Rattle.machine_config.proofs.value.texts_of.Goals as goal

pub loop-value-preserved-in_default : goal.loop-value-preserved-in_default
loop-value-preserved-in_default c =
    let none = rw c.in_default.is at c.as_str.ensures in
    let is = ap (λ v. as_str (view v)) (sym c.value-item.is) ∙ sym none in
    c.loop-value.invariant ∙ sym (passed as_str c.args.values.now c.loop-value.value-index c.value-item.result c.loop-value-test.true is)

pub loop-value-preserved : goal.loop-value-preserved
loop-value-preserved c =
    let is = ap (λ v. as_str (view v)) (sym c.value-item.is) ∙ sym c.in-Some.ensures in
    ap texts c.in_ok-push.ensures.items ∙ map-append (λ w. w.now) c.loop-value.found.items (c.in-Some.text ∷ [])
    ∙ ap (λ ys. ys ++ c.in-Some.text.now ∷ []) c.loop-value.invariant
    ∙ sym (picked as_str c.args.values.now c.loop-value.value-index c.value-item.result c.in-Some.text.now c.loop-value-test.true is)
