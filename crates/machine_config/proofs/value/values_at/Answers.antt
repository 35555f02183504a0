-- The values in memory are those of the list.
use Rattle.std.proofs.Common.{Some, map, sym, ap, ◌∙◌}
use Rattle.toml.proofs.Views.{view-Array}
use Rattle.toml.specs.View.{view}
use Rattle.machine_config.specs.Values.{values_at, values_in}
use Rattle.machine_config.proofs.Views.{data_in_view}
use Rattle.machine_config.proofs.value.values_at.Goals as goal

pub returns-in-Some-Array : goal.returns-in-Some-Array
unfolding values_at
returns-in-Some-Array c =
    let h = rw c.in-Some-Array.field-0-is at c.in-Some-Array.ensures in
    let vs = c.in-Some-Array.values in
    ap (λ xs. map view xs) (c.as_slice.ensures.value ∙ ap (λ v. v.items) c.in-Some-Array.values-is)
    ∙ sym (data_in_view vs.items) ∙ ap values_in (ap (λ d. Some d) (sym (view-Array vs)) ∙ h)
