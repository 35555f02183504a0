-- A list is tested item by item.
use Rattle.std.proofs.Common.{◌∙◌}
use Rattle.toml.proofs.Views.{view-Array}
use Rattle.machine_config.specs.Keys.{is_sort}
use Rattle.machine_config.proofs.Views.{list_all-view}
use Rattle.machine_config.proofs.key.is_form.Goals as goal

pub returns-in-Array : goal.returns-in-Array
returns-in-Array c =
    rw (c.in-List.is, c.in-Array.is, view-Array c.in-Array.values) (c.are_sort.ensures ∙ rw c.as_slice.ensures.value (list_all-view (is_sort c.in-List.sort) c.in-Array.values.items))
