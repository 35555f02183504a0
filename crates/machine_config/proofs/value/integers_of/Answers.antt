-- What the chain gives.
use Rattle.std.proofs.Common.{rules, tests}
use Rattle.std.proofs.lemmas.Iterator.{YieldsList-from_slice, items_from_collect}
use Rattle.std.proofs.lemmas.Iterator.Consumers.{YieldsList-from_filter_map}
use Rattle.toml.specs.Data.{as_integer}
use Rattle.toml.specs.View.{view}
use Rattle.machine_config.proofs.Views.{filter_map_view}
use Rattle.machine_config.proofs.value.integers_of.Goals as goal

pub returns : goal.returns
returns c =
    rw (← filter_map_view as_integer c.args.values.now) (items_from_collect _ c.collect.ensures.ran
    (YieldsList-from_filter_map _ (λ v. as_integer (view v)) (YieldsList-from_slice c.args.values.now cc) c.filter_map.ensures.closure (λ x r q k. search (rules, tests))))
