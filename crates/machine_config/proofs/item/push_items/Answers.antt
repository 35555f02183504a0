-- Each step takes one more value.
use Rattle.std.proofs.Common.{◌∷◌, [], ◌++◌, map, take, sym, ap, ◌∙◌, append_assoc}
use Rattle.std.proofs.lemmas.List.{map-append}
use Rattle.std.specs.List.{filter_map}
use Rattle.toml.specs.Data.{as_table}
use Rattle.toml.specs.View.{table_view, view}
use Rattle.machine_config.specs.Reading.{of_kind}
use Rattle.machine_config.specs.Shown.{shown}
use Rattle.machine_config.proofs.Views.{passed, picked}
use Rattle.machine_config.proofs.item.push_items.Goals as goal

pub loop-value-preserved-in_default : goal.loop-value-preserved-in_default
loop-value-preserved-in_default c =
    let none = rw c.in_default.is at c.as_table.ensures in
    let is = ap (λ v. as_table (view v)) (sym c.value-item.is) ∙ sym none in
    c.loop-value.invariant
    ∙ ap (λ ts. shown c.args.items.now.items ++ of_kind c.args.kind ts) (sym (passed as_table c.args.values.now c.loop-value.value-index c.value-item.result c.loop-value-test.true is))

pub loop-value-preserved : goal.loop-value-preserved
loop-value-preserved c =
    let is = ap (λ v. as_table (view v)) (sym c.value-item.is) ∙ sym c.in-Some.ensures in
    let table = table_view c.in-Some.table.now in
    let before = filter_map as_table (map view (take c.loop-value.value-index c.args.values.now)) in
    ap shown c.in_ok-push.ensures.items ∙ map-append (λ i. (i.0, table_view i.1.now)) c.loop-value.items.items ((c.args.kind, c.in-Some.table) ∷ [])
    ∙ ap (λ xs. xs ++ (c.args.kind, table) ∷ []) c.loop-value.invariant
    ∙ append_assoc (shown c.args.items.now.items) (of_kind c.args.kind before) ((c.args.kind, table) ∷ [])
    ∙ ap (λ xs. shown c.args.items.now.items ++ xs) (sym (map-append (λ t. (c.args.kind, t)) before (table ∷ [])))
    ∙ ap (λ ts. shown c.args.items.now.items ++ of_kind c.args.kind ts)
    (sym (picked as_table c.args.values.now c.loop-value.value-index c.value-item.result table c.loop-value-test.true is))
